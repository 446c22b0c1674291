-- `machine::torque::torque_percent` meets its contract: a shift by whole bytes leaves the step's byte as the highest.
use mathlib.Core.Path.{◌≡◌, sym, ap, ◌∙◌}
use Prim.Native.Nat.{ℕ, ◌+◌, ◌-◌, ◌*◌, ◌/◌, ◌%◌, ◌^◌, ◌≤◌}
use native.Mathlib.Omega.{arith}
use lib.Pow as Pow
use Rattle.machine.specs.Torque.{torque_percent}
use Rattle.machine.proofs.torque.torque_percent.Goals as goal

-- the byte with so many below it, once it is shifted to the top of 64 bits
highest : (n step : ℕ) → step ≤ 7 → n * 2 ^ (8 * step) % 2 ^ 64 / 2 ^ 56 ≡ n / 2 ^ (8 * (7 - step)) % 256
highest n step h =
    let below : 8 * step + 8 * (7 - step) ≡ 56 = omega arith in
    Pow.field (n * 2 ^ (8 * step)) 8 56
    ∙ ap (λ (k : ℕ). n * 2 ^ (8 * step) / 2 ^ k % 256) (sym below)
    ∙ ap (λ (m : ℕ). m % 256) (sym (Pow.shr-shr (n * 2 ^ (8 * step)) (8 * step) (8 * (7 - step))) ∙ ap (λ (m : ℕ). m / 2 ^ (8 * (7 - step))) (Pow.shl-shr n (8 * step)))

pub returns : goal.returns
unfolding torque_percent
returns c =
    let torque = c.args.torque in
    let e = highest torque (c.saturating_sub.result / 125_000) (omega (arith, c.saturating_sub.ensures, c.requires)) in
    (e ∙ ap (λ (n : ℕ). torque / 2 ^ (8 * (7 - n / 125_000)) % 256) c.saturating_sub.ensures, omega arith)
