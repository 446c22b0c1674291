-- What the limits of an input and the loaded steps decide of its text, whatever that is where they pass. From the definitions and the laws of lists.
use mathlib.Core.Path.{◌≡◌, refl, sym, ap, ◌∙◌}
use mathlib.Core.List.{List}
use Prim.Native.Nat.{ℕ, ◌<◌}
use native.Mathlib.Decide.{dec_lt}
use native.Mathlib.Omega.{arith}
use lib.ListN.{length, take, length-take}
use lib.Seq.{take-take}
use Rattle.machine.specs.Checks.{limits_refusal}
use Rattle.machine.specs.Torque.{steps_refusal}
use Rattle.machine.specs.declared.Limits.{Limits}
use Rattle.planner.specs.Calls.{Freshened}
use Rattle.tape.specs.Tape.{limits_bytes, limits_at, zero_bits}
use Rattle.display.specs.Display.{given, refused}
use Rattle.tape.specs.Answers.{read_limits, limits_read_refusal, limits_fault, ragged_below}
use Rattle.display.proofs.Answers.{at_zero, above_zero, then_first, then_second, then_zero, given_is, refused_is}
use Rattle.tape.proofs.Answers.{enough, too_few}
use Rattle.tape.proofs.Checks.{limits_faultless}
use Rattle.text.specs.Text.{refused_at}
use Rattle.replay_text.specs.Texts.{text_refusal, headed_text}

-- Reading the limits of an input takes its first 24 bytes.
head_same : (s : List ℕ) → read_limits (take limits_bytes s) ≡ read_limits s
unfolding read_limits limits_read_refusal limits_fault limits_at zero_bits
head_same s =
    let same : take limits_bytes (take limits_bytes s) ≡ take limits_bytes s = take-take limits_bytes limits_bytes s (omega arith) in
    rw (same, short)
  where
    go : Dec (length s < limits_bytes) → ragged_below limits_bytes (take limits_bytes s) ≡ ragged_below limits_bytes s
    go (yes h) = too_few limits_bytes (take limits_bytes s) (omega (arith, length-take limits_bytes s)) ∙ sym (too_few limits_bytes s h)
    go (no h) = enough limits_bytes (take limits_bytes s) (omega (arith, length-take limits_bytes s)) ∙ sym (enough limits_bytes s (omega arith))

    short : ragged_below limits_bytes (take limits_bytes s) ≡ ragged_below limits_bytes s
    short = go (dec_lt (length s) limits_bytes)

-- Limits that are read pass, and are the input's.
head_read : (s : List ℕ) {l : Limits} → read_limits (take limits_bytes s) ≡ given l → (limits_read_refusal s ≡ 0) × ((l ≡ limits_at s) × (limits_refusal l ≡ 0))
unfolding read_limits limits_read_refusal
head_read s e =
    let r = given_is (limits_at s) (limits_read_refusal s) (limits_read_refusal s) (sym e ∙ head_same s) in
    (r.0, (r.1, ap limits_refusal r.1 ∙ (limits_faultless s (then_zero (ragged_below limits_bytes s) r.0).1).1))

-- Whatever the text is where limits and steps pass: one that is refused has that one line,
module _ (s loaded body : List ℕ) where
  refused_line : {n : ℕ} → 0 < n → n ≡ text_refusal s loaded → refused_at n 0 ≡ headed_text s loaded body
  refused_line h e = let above : 0 < text_refusal s loaded = rw (← e) h in ap (λ (n : ℕ). refused_at n 0) e ∙ sym (above_zero _ _ above)

  -- by the limits,
  pub limits_refused : {n : ℕ} → read_limits (take limits_bytes s) ≡ refused n → refused_at n 0 ≡ headed_text s loaded body
  unfolding read_limits
  limits_refused e =
      let r = refused_is (limits_at s) (limits_read_refusal s) (limits_read_refusal s) (sym e ∙ head_same s) in
      refused_line (rw r.1 r.0) (r.1 ∙ sym (then_first (steps_refusal loaded) r.0))

  -- or by the steps, which the planner refuses.
  pub steps_refused : {l : Limits} {n : ℕ} {m₀ m : List ℕ} → read_limits (take limits_bytes s) ≡ given l → Freshened m₀ l loaded n m → 0 < n
      → refused_at n 0 ≡ headed_text s loaded body
  steps_refused e f h =
      let head = head_read s e in
      refused_line h (f.answer ∙ then_second head.1.1 refl ∙ sym (then_second head.0 refl))

  -- Where a planner is made fresh, it is the text, and the planner's limits are the input's.
  pub head_passed : {l : Limits} {n : ℕ} {m₀ m : List ℕ} → read_limits (take limits_bytes s) ≡ given l → Freshened m₀ l loaded n m → n ≡ 0
      → (body ≡ headed_text s loaded body) × (l ≡ limits_at s)
  head_passed e f passed =
      let head = head_read s e in
      let steps = sym (then_second {b = steps_refusal loaded} head.1.1 refl) ∙ sym f.answer ∙ passed in
      (sym (at_zero _ _ (then_second head.0 steps)), head.1.0)
