use Rattle.std.proofs.Common.{◌≡◌, map, drop}
use Rattle.n1ql_meaning.specs.Rows.{unnested_by}
use Rattle.pipe_rows.specs.Pipes.{row_of}
use Rattle.pipe_rows.proofs.unnesting.unnested_by.Given as goal

abbrev pub invariant-loop-unnest : goal.invariant-loop-unnest
invariant-loop-unnest l = unnested_by (drop l.unnest-index l.unnests) (map row_of l.rows.items) ≡ unnested_by l.unnests (map row_of l.initial.rows.items)
