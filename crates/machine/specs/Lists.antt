-- Limits as numbers: acceleration X, Y, Z, µm/s², speed X, Y, Z, µm/s, corner jump, µm/s, chord tolerance, µm, tick, µs.
use Rattle.std.specs.Prelude.{List, ◌∷◌, ℕ, get_or}
use Rattle.machine.specs.declared.Limits.{Limits}

-- how many numbers
abbrev pub limits_size : ℕ
limits_size = 9

-- the limits that the first numbers of a list say
unfoldable pub limits_from : List ℕ → Limits
limits_from list =
    record {
      accel = record { x = get_or list 0 0; y = get_or list 1 0; z = get_or list 2 0 };
      speed = record { x = get_or list 3 0; y = get_or list 4 0; z = get_or list 5 0 };
      jump = get_or list 6 0;
      chord = get_or list 7 0;
      tick = get_or list 8 0;
    }

-- the numbers of limits, in front of others
abbrev pub limit_numbers : Limits → List ℕ → List ℕ
limit_numbers l rest =
    l.accel.x ∷ l.accel.y ∷ l.accel.z ∷ l.speed.x ∷ l.speed.y ∷ l.speed.z ∷ l.jump ∷ l.chord ∷ l.tick ∷ rest
