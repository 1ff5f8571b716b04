use Rattle.std.proofs.Common.{◌≡◌, min, take}
use Rattle.script_text.specs.SparseVectors.{number_of_digits}
use Rattle.script_text.proofs.reader.values.sparse_vector.is_number_below.Given as goal

-- the number of the digits so far, or the end where it isn't below it
abbrev pub invariant-loop-digit : goal.invariant-loop-digit
invariant-loop-digit l = l.number ≡ min (number_of_digits (take l.digit-index l.digits)) l.end
