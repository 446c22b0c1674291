-- `words::scan::step` meets its contract: a space, a byte outside a word, or a word. From the laws `step-..` of `WordLaws`.
use mathlib.Core.Path.{◌≡◌, refl, sym, ap, subst, ◌∙◌}
use mathlib.Core.Bool.{true}
use mathlib.Core.List.{List}
use Prim.Native.Nat.{ℕ, ◌+◌, ◌-◌, ◌≤◌}
use native.Mathlib.Nat.{le_of_eq}
use native.Mathlib.Omega.{arith}
use lib.Dec.{lit≤}
use lib.ListN.{length, take, drop, get_or, length-drop}
use lib.Seq.{take_all}
use Rattle.std.proofs.Common.{rules, Result, Ok, Err}
use Rattle.std.specs.Prelude.{⊤}
use Rattle.display.specs.Display.{Outcome}
use Rattle.display.specs.declared.Refusal.{Refusal}
use Rattle.words.specs.Leading.{leading}
use Rattle.words.specs.Pieces.{capital, numeral}
use Rattle.words.specs.Steps.{Puts}
use Rattle.words.specs.Words.{Words, with_word, words_in}
use Rattle.words.proofs.WordLaws.{step_space, step_stray, step_passed, step_refused, within}
use Rattle.words.proofs.scan.step.Goals as goal
use Rattle.words.proofs.scan.step.Goals.{After-numerals-n}

pub returns-then-b-eq32 : goal.returns-then-b-eq32
returns-then-b-eq32 c =
    (lit≤ tt, (omega (arith, c.requires), step_space (words_in c.args.words.now) c.args.rest.now c.requires c.if-b-eq32.true))

pub returns-then-not-is_ascii_uppercase : goal.returns-then-not-is_ascii_uppercase
returns-then-not-is_ascii_uppercase c =
    step_stray (words_in c.args.words.now) c.args.rest.now c.requires c.if-b-eq32.false (sym c.is_ascii_uppercase.ensures.value ∙ c.if-not-is_ascii_uppercase.true)

-- the word that begins here
module _ (c : After-numerals-n) where
  abbrev words : Words
  words = words_in c.args.words.now

  letter : capital (get_or c.args.rest.now 0 0) ≡ true
  letter = let e = c.before.before.before in sym e.is_ascii_uppercase.ensures.value ∙ e.if-not-is_ascii_uppercase.false

  count : c.numerals-n.result ≡ length (leading numeral (drop 1 c.args.rest.now))
  count = c.numerals-n.ensures ∙ ap (λ (l : List ℕ). length (leading numeral l)) (take_all _ (drop 1 c.args.rest.now) (le_of_eq (length-drop 1 c.args.rest.now)))

  inside : c.numerals-n.result + 1 ≤ length c.args.rest.now
  inside = within words c.args.rest.now c.requires letter c.numerals-n.result count

  -- what putting it answers
  abbrev put : Outcome ℕ Words
  put = with_word (get_or c.args.rest.now 0 0) (take c.numerals-n.result (drop 1 c.args.rest.now)) words

  puts : (r : Result ⊤ Refusal) (after : Words) → Puts (with_word (get_or c.args.rest.now 0 0) (take (c.numerals-n.result + 1 - 1) (drop 1 c.args.rest.now)) words) words r after
      → Puts put words r after
  puts r after p =
      subst (λ (k : ℕ). Puts (with_word (get_or c.args.rest.now 0 0) (take k (drop 1 c.args.rest.now)) words) words r after) (one c.numerals-n.result) p
    where
      one : (n : ℕ) → n + 1 - 1 ≡ n
      one n = omega arith

pub returns-in_err-put_word : goal.returns-in_err-put_word
returns-in_err-put_word c =
    let d = (goal.at.returns-in_err-put_word c).After-numerals-n in
    let r = c.in_err-put_word.field-0.0 in
    let after = words_in c.put_word.new.words in
    let e : c.from_residual.result ≡ Err r = search rules in
    rw e (step_refused (words d) c.args.rest.now c.requires (letter d) c.numerals-n.result (count d) r after (put d) refl (puts d (Err r) after c.in_err-put_word.ensures))

pub returns : goal.returns
returns c =
    let d = (goal.at.returns c).After-numerals-n in
    let after = words_in c.put_word.new.words in
    (omega arith, (inside d, step_passed (words d) c.args.rest.now c.requires (letter d) c.numerals-n.result (count d) after (put d) refl (puts d (Ok tt) after c.in_ok-put_word.ensures)))
