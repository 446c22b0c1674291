-- What an answer of `read` says, and what holds of all that was read.
use Rattle.std.specs.Prelude.{ℕ, ◌≤◌, ◌<◌, cond, eqb, Option, None, Some, Result, Ok, Err}
use Rattle.std.specs.declared.io.Error.{Error}

-- an error says that the read failed, 0 that the input has ended, any other how many bytes more there are
abbrev pub next_of : Result ℕ Error → Result (Option ℕ) Error
next_of (Ok n) = Ok (cond (eqb n 0) None (Some n))
next_of (Err e) = Err e

-- what holds of an answer for a list with room for so many bytes: those that were read have room, and no read fails
-- if there is no room to read into
abbrev pub Within : ℕ → Result ℕ Error → Type 0
Within room (Ok n) = n ≤ room
Within room (Err e) = 0 < room

-- a place from 1, of which 0 says that there is none
abbrev pub place_of : ℕ → Option ℕ
place_of place = cond (eqb place 0) None (Some place)
