-- What is seen once a command line has ended, by its options and other words.
use Rattle.std.proofs.Common.{◌≡◌, ℕ, ◌+◌, ◌≤◌, ◌<◌, Bool, true, false, List, ◌∷◌, [], ◌⊎◌, inl, inr, refl, sym, subst, ap, ◌∙◌, map, length, arith}
use borrow.Author.Tests.{ne_eqb, lt-ltb}
use Rattle.std.specs.Prelude.{Some, None}
use Rattle.std.specs.Prelude as std
use Rattle.std.proofs.lemmas.Bool.{cases_Bool}
use Rattle.options.specs.declared.Form.{Form}
use Rattle.options.specs.declared.Word.{Word}
use Rattle.options.specs.declared.Word.TheVariants as word
use Rattle.options.specs.declared.Valued.{Valued}
use Rattle.options.specs.declared.Valued.TheVariants.{Steps, Width}
use Rattle.options.specs.declared.Seen.{Seen}
use Rattle.options.specs.Kinds.{dashed, word_of}
use Rattle.options.specs.Scan.{help_at, other_at, seen_from, steps_at, version_at, waiting_for, width_at, with_next, with_value, with_word}
use Rattle.options.specs.Line.{Option, help, version, steps, width, Known, Number, Taken, line, times}
use Rattle.options.proofs.Sorts.{sort_of}
use Rattle.options.proofs.Sorts as sort

abbrev pub scan : Form → Seen → (place : ℕ) → List (List ℕ) → Seen
scan f s place words = seen_from f s place (map word_of words)

-- how often an option was seen, by its flag or by its place
abbrev pub flag : Bool → ℕ
flag false = 0
flag true = 1

abbrev pub mark : {A : Type 0} → std.Option A → ℕ
mark None = 0
mark (Some place) = 1

pub flag_none : (b : Bool) → flag b ≡ 0 → b ≡ false
flag_none false e = refl
flag_none true e = absurd (omega arith)

pub mark_none : {A : Type 0} (o : std.Option A) → mark o ≡ 0 → o ≡ None
mark_none None e = refl
mark_none (Some place) e = absurd (omega arith)

pub flag_most : (b : Bool) → flag b ≤ 1
flag_most true = omega arith
flag_most false = omega arith

pub mark_most : {A : Type 0} (o : std.Option A) → mark o ≤ 1
mark_most None = omega arith
mark_most (Some place) = omega arith

-- no word is wrong, and no value is to follow
abbrev pub Clear : Seen → Type 0
Clear s = (s.wrong ≡ None) × (s.waits ≡ None)

-- each of these options and of those that were seen is there at most once
abbrev pub Once : Seen → List Option → Type 0
Once s options = (flag s.help + times 1 options ≤ 1) × (flag s.version + times 2 options ≤ 1) × (mark s.steps + times 3 options ≤ 1) × (mark s.width + times 4 options ≤ 1)

-- what is seen at the end of these options and other words, from what was seen before them
pub record Ends (s : Seen) (options : List Option) (others : List (List ℕ)) (t : Seen) : Type 0 where
  pub clear : Clear t
  pub helps : flag t.help ≡ flag s.help + times 1 options
  pub versions : flag t.version ≡ flag s.version + times 2 options
  pub counts : t.count ≡ s.count + length others

-- What a word comes to if all is clear before it, and if an option needs it as its value.
pub next_step : (f : Form) (s : Seen) (w : Word) (place : ℕ) → Clear s → with_word f s w place ≡ with_next f s w place
unfolding with_word
next_step f s w place c = λ i. elim (c.0 i) as (λ x. Seen) [
  | Some at ↦ s
  | None ↦ elim (c.1 i) as (λ x. Seen) [ Some option ↦ with_value s option w place | None ↦ with_next f s w place ]
]

pub value_step : (f : Form) (s : Seen) (option : Valued) (w : Word) (place : ℕ) → s.wrong ≡ None
    → with_word f (waiting_for s option) w place ≡ with_value (waiting_for s option) option w place
unfolding with_word
value_step f s option w place e = λ i. elim (e i) as (λ x. Seen) [
  | Some at ↦ waiting_for s option
  | None ↦ with_value (waiting_for s option) option w place
]

-- the two words of an option with a value
pub steps_open : (f : Form) (s : Seen) (place : ℕ) → Clear s → s.count ≡ 0 → f.steps ≡ true → s.steps ≡ None → with_word f s word.Steps place ≡ waiting_for s Steps
unfolding with_next
steps_open f s place c n k e = next_step f s word.Steps place c ∙ rw (n, k, e)

pub width_open : (f : Form) (s : Seen) (place : ℕ) → Clear s → s.count ≡ 0 → f.width ≡ true → s.width ≡ None → with_word f s word.Width place ≡ waiting_for s Width
unfolding with_next
width_open f s place c n k e = next_step f s word.Width place c ∙ rw (n, k, e)

pub steps_step : (f : Form) (s : Seen) (place : ℕ) (v : Word) → Clear s → s.count ≡ 0 → f.steps ≡ true → s.steps ≡ None
    → with_word f (with_word f s word.Steps place) v (place + 1) ≡ steps_at s (place + 1)
unfolding with_value
steps_step f s place v c n k e = ap (λ (z : Seen). with_word f z v (place + 1)) (steps_open f s place c n k e) ∙ value_step f s Steps v (place + 1) c.0

pub width_step : (f : Form) (s : Seen) (place n : ℕ) → Clear s → s.count ≡ 0 → f.width ≡ true → s.width ≡ None
    → with_word f (with_word f s word.Width place) (word.Number n) (place + 1) ≡ width_at s (place + 1) n
unfolding with_value
width_step f s place n c z k e = ap (λ (x : Seen). with_word f x (word.Number n) (place + 1)) (width_open f s place c z k e) ∙ value_step f s Width (word.Number n) (place + 1) c.0

-- A word that does not begin as options do is one of the other words: a number, or not.
pub other_word : (w : List ℕ) → dashed w ≡ false → ((Number w → ⊥) × (word_of w ≡ word.Plain)) ⊎ (Number w × ((n : ℕ) × (word_of w ≡ word.Number n)))
unfolding dashed
other_word w d = go (sort_of w)
  where
    clash : {v : List ℕ} → w ≡ v → dashed v ≡ true → ⊥
    clash e g = let x = ap dashed e in cc

    go : sort.Sort w → ((Number w → ⊥) × (word_of w ≡ word.Plain)) ⊎ (Number w × ((n : ℕ) × (word_of w ≡ word.Number n)))
    go (sort.help e k) = absurd (clash e refl)
    go (sort.version e k) = absurd (clash e refl)
    go (sort.steps e k) = absurd (clash e refl)
    go (sort.width e k) = absurd (clash e refl)
    go (sort.unknown k g) = absurd (clash refl g)
    go (sort.plain k g n) = inl (n, k)
    go (sort.number n k g h) = inr (h, (n, k))

-- a number does not
pub number_undashed : (w : List ℕ) → Number w → dashed w ≡ false
unfolding dashed
number_undashed [] h = absurd (omega (arith, h.0))
number_undashed (b ∷ w) h = ne_eqb b 45 (λ e. omega (arith, e, h.2.0))

pub number_word : (w : List ℕ) → Number w → (n : ℕ) × (word_of w ≡ word.Number n)
number_word w h = elim (other_word w (number_undashed w h)) [ inl x ↦ absurd (x.0 h) | inr x ↦ x.1 ]

-- one of the other words that the program takes is counted
taken_step : (f : Form) (s : Seen) (place : ℕ) (w : List ℕ) → Clear s → s.count < f.most → dashed w ≡ false → (f.numbers ≡ true → Number w)
    → (n : std.Option ℕ) × (with_word f s (word_of w) place ≡ other_at s place n)
unfolding with_next
taken_step f s place w c h d g = elim (other_word w d) [
  | inl x ↦ elim (cases_Bool f.numbers) [
    | inl e ↦ absurd (x.0 (g e))
    | inr e ↦ (None, rw (x.1, next_step f s word.Plain place c, lt-ltb _ _ h, e))
  ]
  | inr x ↦ (Some x.1.0, rw (x.1.1, next_step f s (word.Number x.1.0) place c, lt-ltb _ _ h))
]

-- the same, once a step is known
step_to : (f : Form) (s : Seen) (options : List Option) (others : List (List ℕ)) (place : ℕ) (words : List (List ℕ)) {x y : Seen} → y ≡ x
    → Ends s options others (scan f x place words) → Ends s options others (scan f y place words)
step_to f s options others place words e h = subst (λ (z : Seen). Ends s options others (scan f z place words)) (sym e) h

-- THE END OF A COMMAND LINE: its other words, and its options before them.
others_end : (f : Form) (others : List (List ℕ)) (s : Seen) (place : ℕ) → Clear s → Taken f others → s.count + length others ≤ f.most
    → Ends s [] others (scan f s place others)
unfolding seen_from
others_end f [] s place c t r = record { clear = c; helps = omega arith; versions = omega arith; counts = omega arith }
others_end f (w ∷ others) s place c t r =
    let st = taken_step f s place w c (omega arith) t.0 t.1 in
    let e = others_end f others (other_at s place st.0) (place + 1) c t.2 (omega arith) in
    step_to f s [] (w ∷ others) (place + 1) others st.1
    (record { clear = e.clear; helps = e.helps; versions = e.versions; counts = omega (arith, e.counts) })

pub line_end : (f : Form) (options : List Option) (others : List (List ℕ)) (s : Seen) (place : ℕ) → Clear s → s.count ≡ 0
    → Known f options → Taken f others → length others ≤ f.most → Once s options → Ends s options others (scan f s place (line options others))
unfolding seen_from with_next word_of
line_end f [] others s place c n k t r h = others_end f others s place c t (omega arith)
line_end f (help ∷ options) others s place c n k t r h =
    let o : s.help ≡ false = flag_none s.help (omega (arith, h.0)) in
    let st : with_word f s word.Help place ≡ help_at s = rw (next_step f s word.Help place c, n, o) in
    let e = line_end f options others (help_at s) (place + 1) c n k t r (omega (arith, h.0), h.1, h.2, h.3) in
    step_to f s (help ∷ options) others (place + 1) (line options others) st
    (record { clear = e.clear; helps = omega (arith, e.helps, ap flag o); versions = e.versions; counts = e.counts })
line_end f (version ∷ options) others s place c n k t r h =
    let o : s.version ≡ false = flag_none s.version (omega (arith, h.1)) in
    let st : with_word f s word.Version place ≡ version_at s = rw (next_step f s word.Version place c, n, o) in
    let e = line_end f options others (version_at s) (place + 1) c n k t r (h.0, omega (arith, h.1), h.2, h.3) in
    step_to f s (version ∷ options) others (place + 1) (line options others) st
    (record { clear = e.clear; helps = e.helps; versions = omega (arith, e.versions, ap flag o); counts = e.counts })
line_end f (steps file ∷ options) others s place c n k t r h =
    let o : s.steps ≡ None = mark_none s.steps (omega (arith, h.2)) in
    let st = steps_step f s place (word_of file) c n k.0 o in
    let e = line_end f options others (steps_at s (place + 1)) (place + 1 + 1) (c.0, refl) n k.1 t r (h.0, h.1, omega (arith, h.2), h.3) in
    step_to f s (steps file ∷ options) others (place + 1 + 1) (line options others) st
    (record { clear = e.clear; helps = e.helps; versions = e.versions; counts = e.counts })
line_end f (width number ∷ options) others s place c n k t r h =
    let o : s.width ≡ None = mark_none s.width (omega (arith, h.3)) in
    let w = number_word number k.1 in
    let st = width_step f s place w.0 c n k.0 o in
    let e = line_end f options others (width_at s (place + 1) w.0) (place + 1 + 1) (c.0, refl) n k.2 t r (h.0, h.1, h.2, omega (arith, h.3)) in
    step_to f s (width number ∷ options) others (place + 1 + 1) (line options others) (ap (λ (v : Word). with_word f (with_word f s word.Width place) v (place + 1)) w.1 ∙ st)
    (record { clear = e.clear; helps = e.helps; versions = e.versions; counts = e.counts })
