-- WHAT A COMMAND LINE ASKS FOR: the work, the usage and the version are asked for exactly by the words that `Line` describes.
use Rattle.std.proofs.Common.{◌≡◌, ◌↔◌, ℕ, ◌≤◌, Bool, true, false, cond, List, map, refl, sym, subst, ap, length, arith}
use borrow.Author.Tests.{ltb-false, le-ltb}
use lib.Dec.{ltb}
use Rattle.std.specs.Prelude.{Some, None}
use Rattle.std.specs.Prelude as std
use Rattle.options.specs.declared.Valued.{Valued}
use Rattle.options.specs.declared.Form.{Form}
use Rattle.options.specs.declared.Seen.{Seen}
use Rattle.options.specs.declared.Asked.{Asked}
use Rattle.options.specs.declared.Asked.TheVariants.{Work, Usage, Version, Wrong, Missing}
use Rattle.options.specs.Kinds.{word_of}
use Rattle.options.specs.Scan.{asked, asked_by, none_seen}
use Rattle.options.specs.Line.{AsksUsage, AsksVersion, AsksWork, CommandLine}
use Rattle.options.proofs.Ends.{Clear, Ends, flag, flag_none, line_end, scan}
use Rattle.options.proofs.Backs.{line_back}

-- what an answer says of the words that were seen
abbrev Says : Form → Seen → Asked → Type 0
Says f t Work = Clear t × (t.help ≡ false) × (t.version ≡ false) × (f.least ≤ t.count)
Says f t Usage = Clear t × (t.help ≡ true)
Says f t Version = Clear t × (t.help ≡ false) × (t.version ≡ true)
Says f t (Wrong place) = Unit {0}
Says f t (Missing option) = Unit {0}

says : (f : Form) (t : Seen) → Says f t (asked_by f t)
unfolding asked_by
says f t = go t.wrong t.waits t.help t.version (ltb t.count f.least) refl refl refl refl refl
  where
    go : (a : std.Option ℕ) (b : std.Option Valued) (h v n : Bool) → t.wrong ≡ a → t.waits ≡ b → t.help ≡ h → t.version ≡ v → ltb t.count f.least ≡ n
        → Says f t (elim a [ Some place ↦ Wrong place | None ↦ elim b [ Some option ↦ Missing (Some option) | None ↦ cond h Usage (cond v Version (cond n (Missing None) Work)) ] ])
    go (Some place) b h v n d e i j k = tt
    go None (Some option) h v n d e i j k = tt
    go None None true v n d e i j k = ((d, e), i)
    go None None false true n d e i j k = ((d, e), i, j)
    go None None false false true d e i j k = tt
    go None None false false false d e i j k = ((d, e), i, j, ltb-false t.count f.least k)

flag_one : (b : Bool) → flag b ≡ 1 → b ≡ true
flag_one true e = refl
flag_one false e = absurd (omega arith)

-- words at whose end all is clear are a command line, and a command line ends as it says
module _ (f : Form) (words : List (List ℕ)) where
  abbrev last : Seen
  last = scan f none_seen 1 words

  line_of : Clear last → CommandLine f words
  line_of c =
      let b = line_back f (length words) words none_seen 1 (omega arith) (refl, refl) refl c in
      let o = b.once in
      record { options = b.options; others = b.others; is = b.is; known = b.known; once = (omega (arith, o.0), omega (arith, o.1), omega (arith, o.2), omega (arith, o.3)); taken = b.taken; room = omega (arith, b.room) }

  end_of : (l : CommandLine f words) → Ends none_seen l.options l.others last
  end_of l =
      let o = l.once in
      subst (λ (w : List (List ℕ)). Ends none_seen l.options l.others (scan f none_seen 1 w)) (sym l.is)
      (line_end f l.options l.others none_seen 1 (refl, refl) refl l.known l.taken l.room (omega (arith, o.0), omega (arith, o.1), omega (arith, o.2), omega (arith, o.3)))

  -- THE WORK IS ASKED FOR exactly by options that the program knows, each at most once and with its value, none of them `--help` or
  -- `--version`, and after them as many other words as it needs and takes.
  pub work_asked_is : asked f (map word_of words) ≡ Work ↔ AsksWork f words
  unfolding asked_by
  work_asked_is = (to, from)
    where
      to : asked f (map word_of words) ≡ Work → AsksWork f words
      to e =
          let s = subst (Says f last) e (says f last) in
          let l = line_of s.0 in
          let x = end_of l in
          record { line = l; no_help = omega (arith, x.helps, ap flag s.1); no_version = omega (arith, x.versions, ap flag s.2); enough = omega (arith, x.counts, s.3) }

      from : AsksWork f words → asked f (map word_of words) ≡ Work
      from a =
          let x = end_of a.line in
          let n : last.help ≡ false = flag_none last.help (omega (arith, x.helps, a.no_help)) in
          let v : last.version ≡ false = flag_none last.version (omega (arith, x.versions, a.no_version)) in
          rw (x.clear.0, x.clear.1, n, v, le-ltb last.count f.least (omega (arith, x.counts, a.enough)))

  -- The usage is asked for by such options with `--help` among them, whether or not the other words that the program needs are there;
  -- the version likewise, by `--version` without `--help`.
  pub usage_asked_is : asked f (map word_of words) ≡ Usage ↔ AsksUsage f words
  unfolding asked_by
  usage_asked_is = (to, from)
    where
      to : asked f (map word_of words) ≡ Usage → AsksUsage f words
      to e =
          let s = subst (Says f last) e (says f last) in
          let l = line_of s.0 in
          record { line = l; helped = omega (arith, (end_of l).helps, ap flag s.1) }

      from : AsksUsage f words → asked f (map word_of words) ≡ Usage
      from a =
          let x = end_of a.line in
          rw (x.clear.0, x.clear.1, flag_one last.help (omega (arith, x.helps, a.helped)))

  pub version_asked_is : asked f (map word_of words) ≡ Version ↔ AsksVersion f words
  unfolding asked_by
  version_asked_is = (to, from)
    where
      to : asked f (map word_of words) ≡ Version → AsksVersion f words
      to e =
          let s = subst (Says f last) e (says f last) in
          let l = line_of s.0 in
          let x = end_of l in
          record { line = l; no_help = omega (arith, x.helps, ap flag s.1); versioned = omega (arith, x.versions, ap flag s.2) }

      from : AsksVersion f words → asked f (map word_of words) ≡ Version
      from a =
          let x = end_of a.line in
          let n : last.help ≡ false = flag_none last.help (omega (arith, x.helps, a.no_help)) in
          rw (x.clear.0, x.clear.1, n, flag_one last.version (omega (arith, x.versions, a.versioned)))
