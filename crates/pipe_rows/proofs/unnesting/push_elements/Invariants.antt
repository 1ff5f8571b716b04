use Rattle.std.proofs.Common.{◌≡◌, ◌++◌, map, drop}
use Rattle.n1ql_value.specs.Datum.{datum_of}
use Rattle.n1ql_meaning.specs.Rows.{with_elements}
use Rattle.pipe_rows.specs.Pipes.{row_of}
use Rattle.pipe_rows.proofs.unnesting.push_elements.Given as goal

abbrev pub invariant-loop-at : goal.invariant-loop-at
invariant-loop-at l = map row_of l.made.items ++ with_elements l.unnest.name (row_of l.row) l.at (map datum_of (drop l.at l.items)) ≡ map row_of l.initial.made.items ++ with_elements l.unnest.name (row_of l.row) 0 (map datum_of l.items)
