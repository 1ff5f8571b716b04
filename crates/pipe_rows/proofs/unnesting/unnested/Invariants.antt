use Rattle.std.proofs.Common.{◌≡◌, map}
use Rattle.std.specs.List.{flat_map}
use Rattle.n1ql_meaning.specs.Rows.{unnested}
use Rattle.pipe_rows.specs.Pipes.{row_of}
use Rattle.pipe_rows.proofs.unnesting.unnested.Given as goal

abbrev pub invariant-loop-row : goal.invariant-loop-row
invariant-loop-row l = map row_of l.made.items ≡ flat_map (unnested l.unnest) (map row_of l.yielded)
