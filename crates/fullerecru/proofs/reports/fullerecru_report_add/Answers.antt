-- `fullerecru::reports::fullerecru_report_add`: the promise of `report::add` by number, place and figures.
use Rattle.fullerecru.proofs.LentReports.{report_added}
use Rattle.fullerecru.proofs.reports.fullerecru_report_add.Goals as goal

pub returns-in-Ok : goal.returns-in-Ok
returns-in-Ok c =
    report_added _ _ _ _ c.in-Ok.f (rw c.in-Ok.is at c.add.ensures) c.store_figures.ensures c.put_number.ensures
