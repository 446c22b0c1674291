-- Words at whose end no word is wrong and no value is to follow are a command line.
use Rattle.std.proofs.Common.{◌≡◌, ℕ, zero, suc, ◌+◌, ◌≤◌, ◌<◌, Bool, true, false, cond, List, ◌∷◌, [], ◌⊎◌, inl, inr, not, ◌&&◌, refl, sym, subst, ap, ◌∙◌, length, arith}
use borrow.Author.Tests.{ne_eqb, ltb-true}
use lib.Dec.{ltb}
use Rattle.std.specs.Prelude.{Some, None}
use Rattle.std.specs.Prelude as std
use Rattle.std.proofs.lemmas.Bool.{cases_Bool, and_parts, not-true}
use Rattle.options.specs.declared.Form.{Form}
use Rattle.options.specs.declared.Word.{Word}
use Rattle.options.specs.declared.Word.TheVariants as word
use Rattle.options.specs.declared.Valued.{Valued}
use Rattle.options.specs.declared.Valued.TheVariants.{Steps, Width}
use Rattle.options.specs.declared.Seen.{Seen}
use Rattle.options.specs.Kinds.{help_word, version_word, steps_word, width_word, dashed, word_of}
use Rattle.options.specs.Scan.{help_at, other_at, seen_from, steps_at, version_at, waiting_for, width_at, with_next, with_value, with_word, wrong_at}
use Rattle.options.specs.Line.{Option, help, version, steps, width, Known, Number, Taken, line}
use Rattle.options.proofs.Sorts.{sort_of, Sort}
use Rattle.options.proofs.Sorts as sort
use Rattle.options.proofs.Ends.{Clear, Once, flag, flag_most, mark, mark_most, next_step, scan, steps_open, steps_step, value_step, width_open, width_step}

cases_option : {A : Type 0} (o : std.Option A) → (o ≡ None) ⊎ ((x : A) × (o ≡ Some x))
cases_option None = inl refl
cases_option (Some x) = inr (x, refl)

-- options and other words that these words are, after what was seen
pub record Back (f : Form) (s : Seen) (words : List (List ℕ)) : Type 0 where
  pub options : List Option
  pub others : List (List ℕ)
  pub is : words ≡ line options others
  pub known : Known f options
  pub once : Once s options
  pub taken : Taken f others
  pub room : s.count + length others ≤ f.most

-- a word that is wrong stays so
wrong_stays : (f : Form) (s : Seen) (place at : ℕ) (words : List (List ℕ)) → scan f (wrong_at s at) place words ≡ wrong_at s at
unfolding seen_from with_word
wrong_stays f s place at [] = refl
wrong_stays f s place at (w ∷ words) = wrong_stays f s (place + 1) at words

never : (f : Form) (s : Seen) {x : Seen} (place at : ℕ) (words : List (List ℕ)) → x ≡ wrong_at s at → Clear (scan f x place words) → ⊥
never f s place at words e c =
    let d : Clear (wrong_at s at) = subst Clear (ap (λ (z : Seen). scan f z place words) e ∙ wrong_stays f s place at words) c in
    let g : Some at ≡ None = d.0 in
    cc

-- A word after which the program has one of the other words more, of this value, or else a wrong one.
record Other (f : Form) (s : Seen) (place : ℕ) (w : List ℕ) : Type 0 where
  taken : Bool
  value : std.Option ℕ
  step : with_next f s (word_of w) place ≡ cond taken (other_at s place value) (wrong_at s place)
  says : taken ≡ true → (s.count < f.most) × (dashed w ≡ false) × (f.numbers ≡ true → Number w)

plain_other : (f : Form) (s : Seen) (place : ℕ) (w : List ℕ) → word_of w ≡ word.Plain → dashed w ≡ false → Other f s place w
unfolding with_next
plain_other f s place w k d = record {
  taken = ltb s.count f.most && not f.numbers;
  value = None;
  step = rw k;
  says = λ e.
      let h = and_parts (ltb s.count f.most) (not f.numbers) e in
      let n : f.numbers ≡ false = not-true f.numbers h.1 in
      (ltb-true s.count f.most h.0, d, λ y. absurd (let z = sym y ∙ n in cc));
}

number_other : (f : Form) (s : Seen) (place n : ℕ) (w : List ℕ) → word_of w ≡ word.Number n → dashed w ≡ false → Number w → Other f s place w
unfolding with_next
number_other f s place n w k d h = record { taken = ltb s.count f.most; value = Some n; step = rw k; says = λ e. (ltb-true s.count f.most e, d, λ y. h) }

none_other : (f : Form) (s : Seen) (place : ℕ) (w : List ℕ) → with_next f s (word_of w) place ≡ wrong_at s place → Other f s place w
none_other f s place w e = record { taken = false; value = None; step = e; says = λ h. absurd (let z : false ≡ true = h in cc) }

unknown_other : (f : Form) (s : Seen) (place : ℕ) (w : List ℕ) → word_of w ≡ word.Unknown → Other f s place w
unfolding with_next
unknown_other f s place w k = none_other f s place w (rw k)

-- after one of the other words, no word is an option
next_other : (f : Form) (s : Seen) (place : ℕ) (w : List ℕ) → 0 < s.count → Sort w → Other f s place w
unfolding with_next
next_other f s place w h (sort.help e k) = none_other f s place w (rw (k, ne_eqb s.count 0 (λ n. omega (arith, n))))
next_other f s place w h (sort.version e k) = none_other f s place w (rw (k, ne_eqb s.count 0 (λ n. omega (arith, n))))
next_other f s place w h (sort.steps e k) = none_other f s place w (rw (k, ne_eqb s.count 0 (λ n. omega (arith, n))))
next_other f s place w h (sort.width e k) = none_other f s place w (rw (k, ne_eqb s.count 0 (λ n. omega (arith, n))))
next_other f s place w h (sort.unknown k d) = unknown_other f s place w k
next_other f s place w h (sort.plain k d n) = plain_other f s place w k d
next_other f s place w h (sort.number n k d g) = number_other f s place n w k d g

-- The other words, one after the other.
abbrev Others : Form → Seen → List (List ℕ) → Type 0
Others f s words = Taken f words × (s.count + length words ≤ f.most)

other_back : (f : Form) (s : Seen) (place : ℕ) (w : List ℕ) (words : List (List ℕ)) → Clear s → Other f s place w
    → ((v : std.Option ℕ) → Clear (scan f (other_at s place v) (place + 1) words) → s.count + 1 ≤ f.most → Others f (other_at s place v) words)
    → Clear (scan f s place (w ∷ words)) → Others f s (w ∷ words)
unfolding seen_from
other_back f s place w words c o rest t = go o.taken refl
  where
    st : with_word f s (word_of w) place ≡ cond o.taken (other_at s place o.value) (wrong_at s place)
    st = next_step f s (word_of w) place c ∙ o.step

    go : (b : Bool) → o.taken ≡ b → Others f s (w ∷ words)
    go true e =
        let h = o.says e in
        let at : with_word f s (word_of w) place ≡ other_at s place o.value = st ∙ rw e in
        let r = rest o.value (subst (λ (z : Seen). Clear (scan f z (place + 1) words)) at t) (omega (arith, h.0)) in
        ((h.1, h.2, r.0), omega (arith, r.1))
    go false e = absurd (never f s (place + 1) place words (st ∙ rw e) t)

others_back : (f : Form) (words : List (List ℕ)) (s : Seen) (place : ℕ) → Clear s → 0 < s.count → s.count ≤ f.most
    → Clear (scan f s place words) → Others f s words
unfolding seen_from
others_back f [] s place c n r t = (tt, omega arith)
others_back f (w ∷ words) s place c n r t =
    other_back f s place w words c (next_other f s place w n (sort_of w))
    (λ v u m. others_back f words (other_at s place v) (place + 1) c (omega arith) m u) t

-- Words of so many at most are a command line from their first option on.
abbrev Backs : Form → (most : ℕ) → Type 0
Backs f most = (words : List (List ℕ)) (s : Seen) (place : ℕ) → length words ≤ most → Clear s → s.count ≡ 0 → Clear (scan f s place words) → Back f s words

-- An option, and the words after it, of which the command line is known.
module _ (f : Form) (s : Seen) (place most : ℕ) (w : List ℕ) (rest : Backs f most) (c : Clear s) (n : s.count ≡ 0) where
  next : (v : Word) → word_of w ≡ v → with_word f s (word_of w) place ≡ with_next f s v place
  next v k = ap (λ (z : Word). with_word f s z place) k ∙ next_step f s v place c

  shut : {v : Word} (words : List (List ℕ)) → word_of w ≡ v → with_next f s v place ≡ wrong_at s place → Clear (scan f s place (w ∷ words)) → ⊥
  unfolding seen_from
  shut {v = v} words k e t = never f s (place + 1) place words (next v k ∙ e) t

  help_back : (words : List (List ℕ)) → length words ≤ most → w ≡ help_word → word_of w ≡ word.Help → Clear (scan f s place (w ∷ words)) → Back f s (w ∷ words)
  unfolding seen_from with_next
  help_back words l e k t = elim (cases_Bool s.help) [
    | inl x ↦ absurd (shut words k (rw (n, x)) t)
    | inr x ↦
        let st : with_word f s (word_of w) place ≡ help_at s = next word.Help k ∙ rw (n, x) in
        let b = rest words (help_at s) (place + 1) l c n (subst (λ (z : Seen). Clear (scan f z (place + 1) words)) st t) in
        let o = b.once in
        record { options = help ∷ b.options; others = b.others; is = (λ i. e i ∷ b.is i); known = b.known; once = (omega (arith, o.0, ap flag x), o.1, o.2, o.3); taken = b.taken; room = b.room }
  ]

  version_back : (words : List (List ℕ)) → length words ≤ most → w ≡ version_word → word_of w ≡ word.Version → Clear (scan f s place (w ∷ words)) → Back f s (w ∷ words)
  unfolding seen_from with_next
  version_back words l e k t = elim (cases_Bool s.version) [
    | inl x ↦ absurd (shut words k (rw (n, x)) t)
    | inr x ↦
        let st : with_word f s (word_of w) place ≡ version_at s = next word.Version k ∙ rw (n, x) in
        let b = rest words (version_at s) (place + 1) l c n (subst (λ (z : Seen). Clear (scan f z (place + 1) words)) st t) in
        let o = b.once in
        record { options = version ∷ b.options; others = b.others; is = (λ i. e i ∷ b.is i); known = b.known; once = (o.0, omega (arith, o.1, ap flag x), o.2, o.3); taken = b.taken; room = b.room }
  ]

  -- an option whose value is missing
  alone : (option : Valued) {x : Seen} → x ≡ waiting_for s option → Clear x → ⊥
  alone option e t = let d : Clear (waiting_for s option) = subst Clear e t in let g : Some option ≡ None = d.1 in cc

  steps_back : (words : List (List ℕ)) → length words ≤ most → w ≡ steps_word → word_of w ≡ word.Steps → f.steps ≡ true → s.steps ≡ None → Clear (scan f s place (w ∷ words)) → Back f s (w ∷ words)
  unfolding seen_from
  steps_back [] l e k h x t = absurd (alone Steps (ap (λ (z : Word). with_word f s z place) k ∙ steps_open f s place c n h x) t)
  steps_back (v ∷ words) l e k h x t =
      let st = ap (λ (z : Word). with_word f (with_word f s z place) (word_of v) (place + 1)) k ∙ steps_step f s place (word_of v) c n h x in
      let b = rest words (steps_at s (place + 1)) (place + 1 + 1) (omega arith) (c.0, refl) n (subst (λ (z : Seen). Clear (scan f z (place + 1 + 1) words)) st t) in
      let o = b.once in
      record { options = steps v ∷ b.options; others = b.others; is = (λ i. e i ∷ v ∷ b.is i); known = (h, b.known); once = (o.0, o.1, omega (arith, o.2, ap mark x), o.3); taken = b.taken; room = b.room }

  -- a width is a number
  width_back : (words : List (List ℕ)) → length words ≤ most → w ≡ width_word → word_of w ≡ word.Width → f.width ≡ true → s.width ≡ None → Clear (scan f s place (w ∷ words)) → Back f s (w ∷ words)
  unfolding seen_from with_value
  width_back [] l e k h x t = absurd (alone Width (ap (λ (z : Word). with_word f s z place) k ∙ width_open f s place c n h x) t)
  width_back (v ∷ words) l e k h x t = go (sort_of v)
    where
      waits : with_word f s (word_of w) place ≡ waiting_for s Width
      waits = ap (λ (z : Word). with_word f s z place) k ∙ width_open f s place c n h x

      wrong : {z : Word} → word_of v ≡ z → with_value (waiting_for s Width) Width z (place + 1) ≡ wrong_at (waiting_for s Width) (place + 1) → ⊥
      wrong {z = z} i y =
          never f (waiting_for s Width) (place + 1 + 1) (place + 1) words
          ((λ j. with_word f (waits j) (i j) (place + 1)) ∙ value_step f s Width z (place + 1) c.0 ∙ y) t

      go : Sort v → Back f s (w ∷ v ∷ words)
      go (sort.number m i d g) =
          let st = (λ j. with_word f (with_word f s (k j) place) (i j) (place + 1)) ∙ width_step f s place m c n h x in
          let b = rest words (width_at s (place + 1) m) (place + 1 + 1) (omega arith) (c.0, refl) n (subst (λ (z : Seen). Clear (scan f z (place + 1 + 1) words)) st t) in
          let o = b.once in
          record { options = width v ∷ b.options; others = b.others; is = (λ i. e i ∷ v ∷ b.is i); known = (h, g, b.known); once = (o.0, o.1, o.2, omega (arith, o.3, ap mark x)); taken = b.taken; room = b.room }
      go (sort.help y i) = absurd (wrong i refl)
      go (sort.version y i) = absurd (wrong i refl)
      go (sort.steps y i) = absurd (wrong i refl)
      go (sort.width y i) = absurd (wrong i refl)
      go (sort.unknown i d) = absurd (wrong i refl)
      go (sort.plain i d y) = absurd (wrong i refl)

  other_line : (words : List (List ℕ)) → Other f s place w → Clear (scan f s place (w ∷ words)) → Back f s (w ∷ words)
  other_line words o t =
      let r = other_back f s place w words c o (λ v u m. others_back f words (other_at s place v) (place + 1) c (omega arith) m u) t in
      record { options = []; others = w ∷ words; is = refl; known = tt; once = (omega (arith, flag_most s.help), omega (arith, flag_most s.version), omega (arith, mark_most s.steps), omega (arith, mark_most s.width)); taken = r.0; room = r.1 }

  word_back : (words : List (List ℕ)) → length words ≤ most → Sort w → Clear (scan f s place (w ∷ words)) → Back f s (w ∷ words)
  unfolding with_next
  word_back words l (sort.help e k) t = help_back words l e k t
  word_back words l (sort.version e k) t = version_back words l e k t
  word_back words l (sort.steps e k) t = elim (cases_Bool f.steps) [
    | inl h ↦ elim (cases_option s.steps) [ inl x ↦ steps_back words l e k h x t | inr x ↦ absurd (shut words k (rw (n, h, x.1)) t) ]
    | inr h ↦ absurd (shut words k (rw (n, h)) t)
  ]
  word_back words l (sort.width e k) t = elim (cases_Bool f.width) [
    | inl h ↦ elim (cases_option s.width) [ inl x ↦ width_back words l e k h x t | inr x ↦ absurd (shut words k (rw (n, h, x.1)) t) ]
    | inr h ↦ absurd (shut words k (rw (n, h)) t)
  ]
  word_back words l (sort.unknown k d) t = other_line words (unknown_other f s place w k) t
  word_back words l (sort.plain k d h) t = other_line words (plain_other f s place w k d) t
  word_back words l (sort.number v k d h) t = other_line words (number_other f s place v w k d h) t

none_back : (f : Form) (s : Seen) → s.count ≡ 0 → Back f s []
none_back f s n = record { options = []; others = []; is = refl; known = tt; once = (omega (arith, flag_most s.help), omega (arith, flag_most s.version), omega (arith, mark_most s.steps), omega (arith, mark_most s.width)); taken = tt; room = omega arith }

pub line_back : (f : Form) (most : ℕ) → Backs f most
line_back f zero [] s place l c n t = none_back f s n
line_back f zero (w ∷ words) s place l c n t = absurd (omega arith)
line_back f (suc most) [] s place l c n t = none_back f s n
line_back f (suc most) (w ∷ words) s place l c n t = word_back f s place most w (line_back f most) c n words (omega arith) (sort_of w) t
