use Rattle.std.proofs.Common.{◌≡◌, map, take}
use Rattle.pipe_rows.specs.Pipes.{input_row, row_of}
use Rattle.pipe_rows.proofs.rows.rows_alone.Given as goal

abbrev pub invariant-loop-input : goal.invariant-loop-input
invariant-loop-input l = map row_of l.rows.items ≡ map input_row (take l.input-index l.inputs)
