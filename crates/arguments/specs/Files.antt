-- What reading a file by its name answers, and what is left to do by that.
use Rattle.std.specs.Prelude.{ℕ, ◌≤◌, Option, Some, None, Result, Ok, Err, IfSome}
use Rattle.std.specs.declared.io.Error.{Error}
use Rattle.arguments.specs.declared.FileError.{FileError}
use Rattle.arguments.specs.declared.FileError.TheVariants.{Unread}
use Rattle.arguments.specs.declared.FileRead.{FileRead}

-- what was read of a file that is open: so many bytes, or the read failed
abbrev pub file_of : Result ℕ Error → Result ℕ FileError
file_of (Ok n) = Ok n
file_of (Err why) = Err (Unread why)

-- the bytes of a file and of its name; nothing if it failed
abbrev pub at_of : Result ℕ FileError → (named : ℕ) → Option FileRead
at_of (Ok n) named = Some (record { named = named; got = n })
at_of (Err why) named = None

-- the bytes that were read have room in the lists that are lent
abbrev pub AtWithin : (names room : ℕ) → Option FileRead → Type 0
AtWithin names room read = IfSome read (λ r. (r.named ≤ names) × (r.got ≤ room))
