-- Worked examples of the definitions, which compute: the bytes were packed apart from them.
use mathlib.Core.Path.{◌≡◌, refl}
use Prim.Native.Nat.{ℕ}
use mathlib.Core.List.{List, ◌∷◌, ◌++◌, []}
use lib.IntN.{pos, negsuc}
use lib.ListN.{replicate}
use Rattle.machine.specs.Lists.{limits_from}
use Rattle.fields.specs.Layouts.{joined, split}
use Rattle.fields.specs.Bytes.{number_of, bytes_of, with_bytes}
use Rattle.fields.specs.Signed.{signed_of, bits_of}
use Rattle.machine.specs.Labels.{label_of, labelled_block}
use Rattle.machine.specs.Checks.{limits_refusal, limits_within, block_refusal, greatest_move}
use Rattle.tape.specs.Tape.{limits_at, zero_bits, block_number, block_at, blocks_from, tape_blocks}
use Rattle.display.specs.Display.{given, refused, ◌at◌}
use Rattle.tape.specs.Answers.{limits_fault, limits_read_refusal, read_limits, record_read_refusal, read_record, record_write_refusal, record_written, tape_write_refusal, tape_written, fault_from, head_refusal, tape_fault, check_tape}

-- machine M
machine : List ℕ
machine = 1 ∷ 134 ∷ 160 ∷ 0 ∷ 195 ∷ 80 ∷ 0 ∷ 97 ∷ 168 ∷ 30 ∷ 132 ∷ 129 ∷ 232 ∷ 72 ∷ 30 ∷ 132 ∷ 128 ∷ 0 ∷ 250 ∷ 0 ∷ 8 ∷ 250 ∷ 0 ∷ 0 ∷ []

-- moves 1000, 0, 0, feed 20,000, mark 7; and moves 0, -1000, 0, radius 1,000, mark 8
seven : List ℕ
seven = 0 ∷ 31 ∷ 64 ∷ 0 ∷ 0 ∷ 0 ∷ 0 ∷ 0 ∷ 9 ∷ 196 ∷ 0 ∷ 0 ∷ 0 ∷ 0 ∷ 0 ∷ 7 ∷ []

eight : List ℕ
eight = 0 ∷ 0 ∷ 7 ∷ 255 ∷ 6 ∷ 0 ∷ 0 ∷ 0 ∷ 9 ∷ 196 ∷ 0 ∷ 0 ∷ 125 ∷ 0 ∷ 0 ∷ 8 ∷ []

-- move Y -1,000,001 and feed 0
far : List ℕ
far = 0 ∷ 0 ∷ 4 ∷ 47 ∷ 111 ∷ 192 ∷ 0 ∷ 0 ∷ 0 ∷ 0 ∷ 0 ∷ 0 ∷ 0 ∷ 0 ∷ 0 ∷ 8 ∷ []

limits_read : read_limits machine ≡ given record {
  accel = record { x = 200000; y = 200000; z = 200000 };
  speed = record { x = 1000000; y = 1000000; z = 1000000 };
  jump = 2000;
  chord = 1;
  tick = 2000;
}
unfolding machine read_limits limits_read_refusal limits_fault zero_bits limits_at limits_from limits_refusal limits_within split number_of joined
limits_read = refl

record_read : read_record (eight ++ seven) ≡ given record { x = pos 0; y = negsuc 999; z = pos 0; feed = 20000; radius = 1000; mark = 8 }
unfolding seven eight read_record record_read_refusal block_at labelled_block block_refusal greatest_move signed_of split number_of joined
record_read = refl

still : read_record (replicate 16 0) ≡ refused 2
unfolding read_record record_read_refusal block_at labelled_block block_refusal greatest_move signed_of split number_of joined
still = refl

-- two blocks; the second at fault, by 3 before 4; a byte too many
taken : check_tape (machine ++ seven ++ eight) ≡ given 2
unfolding machine seven eight check_tape tape_fault head_refusal limits_fault zero_bits limits_at limits_from limits_refusal limits_within fault_from tape_blocks blocks_from block_at labelled_block block_refusal greatest_move signed_of split number_of joined
taken = refl

second : check_tape (machine ++ seven ++ far) ≡ refused (3 at 2)
unfolding machine seven far check_tape tape_fault head_refusal limits_fault zero_bits limits_at limits_from limits_refusal limits_within fault_from tape_blocks blocks_from block_at labelled_block block_refusal greatest_move signed_of split number_of joined
second = refl

ragged : check_tape (machine ++ seven ++ 0 ∷ []) ≡ refused (9 at 0)
unfolding machine seven check_tape tape_fault head_refusal
ragged = refl

-- writing: only 16 bytes change; 9 where too few are lent, but 2 before it
stored : record_written (record { x = pos 1000; y = pos 0; z = pos 0; feed = 20000; radius = 0; mark = 7 }) (replicate 18 255) ≡ seven ++ 255 ∷ 255 ∷ []
unfolding seven record_written record_write_refusal block_refusal greatest_move block_number label_of bits_of with_bytes bytes_of split joined
stored = refl

short : record_write_refusal (record { x = pos 1000; y = pos 0; z = pos 0; feed = 20000; radius = 0; mark = 7 }) (replicate 15 255) ≡ 9
unfolding record_write_refusal block_refusal greatest_move
short = refl

still_first : record_write_refusal (record { x = pos 0; y = pos 0; z = pos 0; feed = 20000; radius = 0; mark = 7 }) (replicate 15 255) ≡ 2
unfolding record_write_refusal block_refusal greatest_move
still_first = refl

-- writing record 1 of a tape of two: the limits and record 0 stay; record 2 begins where this tape ends, and no place is too far
replaced : tape_written (record { x = pos 0; y = negsuc 999; z = pos 0; feed = 20000; radius = 1000; mark = 8 }) 1 (machine ++ seven ++ far) ≡ machine ++ seven ++ eight
unfolding machine seven eight far tape_written record_written record_write_refusal block_refusal greatest_move block_number label_of bits_of with_bytes bytes_of split joined
replaced = refl

behind : tape_write_refusal (record { x = pos 1000; y = pos 0; z = pos 0; feed = 20000; radius = 0; mark = 7 }) 2 (machine ++ seven ++ far) ≡ 9
unfolding machine seven far tape_write_refusal record_write_refusal block_refusal greatest_move
behind = refl

beyond : tape_write_refusal (record { x = pos 1000; y = pos 0; z = pos 0; feed = 20000; radius = 0; mark = 7 }) 18446744073709551615 machine ≡ 9
unfolding machine tape_write_refusal record_write_refusal block_refusal greatest_move
beyond = refl
