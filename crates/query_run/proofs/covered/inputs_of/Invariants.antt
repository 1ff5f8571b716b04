use Rattle.std.proofs.Common.{◌≡◌, map}
use Rattle.n1ql_covered.specs.ShownRows.{row_shown}
use Rattle.pipe_rows.specs.Pipes.{input_row}
use Rattle.query_run.proofs.covered.inputs_of.Given as goal

abbrev pub invariant-loop-row : goal.invariant-loop-row
invariant-loop-row l = map input_row l.inputs ≡ map row_shown l.yielded
