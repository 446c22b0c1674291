-- Records that are run chunk by chunk, and a chunk: the bytes of records with no limits before them.
use Rattle.std.specs.Prelude.{ℕ, ◌/◌, min, List, length}
use Rattle.fields.specs.Records.{each_record}
use Rattle.given_text.specs.Given.{most_given}

-- what the records of an input are: bytes of one, how many of a chunk are run at most, the call that the bytes of one say, what a call does
-- (`Step s c a s'`: on state s it is answered by a and leaves state s'), and the line of an answer
pub record Recorded (S C A : Type 0) : Type 1 where
  pub size : ℕ
  pub most : ℕ
  pub says : List ℕ → C
  pub Step : S → C → A → S → Type 0
  pub line : A → List ℕ

-- most bytes of a call's line: a block given out has the longest; and bytes of the list that is lent for a text
abbrev pub line_bytes : ℕ
line_bytes = most_given

abbrev pub text_bytes : ℕ
text_bytes = 65536

module _ {S C A : Type 0} (r : Recorded S C A) where
  -- how many records of a chunk are run, the whole ones up to the most, and which calls they say
  abbrev pub chunk_size : List ℕ → ℕ
  chunk_size bytes = min (length bytes / r.size) r.most

  abbrev pub chunk_calls : List ℕ → List C
  chunk_calls bytes = each_record r.size r.says bytes 0 (chunk_size bytes)
