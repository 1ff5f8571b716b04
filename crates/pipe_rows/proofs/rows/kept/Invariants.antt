use Rattle.std.proofs.Common.{◌≡◌, map}
use Rattle.std.specs.List.{filter}
use Rattle.n1ql_meaning.specs.Rows.{InputRow, meets}
use Rattle.pipe_rows.specs.Pipes.{row_of}
use Rattle.pipe_rows.proofs.rows.kept.Given as goal

abbrev pub invariant-loop-row : goal.invariant-loop-row
invariant-loop-row l = map row_of l.kept.items ≡ filter (λ (row : InputRow). meets l.condition row.env) (map row_of l.yielded)
