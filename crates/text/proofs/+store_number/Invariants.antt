use Rattle.text.proofs.+store_number.Given as goal

abbrev pub decreases-store_number : goal.decreases-store_number
decreases-store_number l = l.n
