-- From the promise of an order to those of the functions for C.
use mathlib.Core.List.{List}
use mathlib.Core.Path.{◌≡◌, refl, sym, ap, subst, ◌∙◌}
use Prim.Native.Nat.{ℕ}
use lib.ListN.{length}
use Rattle.line.specs.Answers.{Answer, answer_by, answer_number, done_means}
use Rattle.std.specs.Prelude.{⊤, Result}
use Rattle.display.specs.declared.Refusal.{Refusal}
use Rattle.line.proofs.Answers.{add_back}
use Rattle.host.specs.Calls.{Ordered}
use Rattle.host.specs.declared.orders.Order.{Order}
use Rattle.host.specs.declared.orders.Point.{Point}
use Rattle.fullerecru.specs.Orders.{point_from, point_size, coordinates_of}

-- A point has as many coordinates as are lent for it.
pub point_sized : (p : Point) → length (coordinates_of p) ≡ point_size
point_sized p = refl

-- A point that is stored is read back.
pub point_back : (p : Point) → point_from (coordinates_of p) ≡ p
point_back p = refl

-- An order of the points that were read, by its number.
pub ordered_by : {m h m' h' : List ℕ} {o order : Order} {p offset : Point} (a : Result ⊤ Refusal) {n : ℕ} → Ordered m h o p (done_means a) m' h' → o ≡ order → p ≡ offset
    → n ≡ answer_number (done_means a) → Ordered m h order offset (answer_by n) m' h'
ordered_by {m} {h} {m'} {h'} {order} {p} {offset} a {n} done e f g =
    let said : done_means a ≡ answer_by n = add_back a ∙ ap answer_by (sym g) in
    subst (λ (x : Answer). Ordered m h order offset x m' h') said
    (subst (λ (x : Point). Ordered m h order x (done_means a) m' h') f (subst (λ (x : Order). Ordered m h x p (done_means a) m' h') e done))
