use Rattle.std.proofs.Common.{◌≡◌, map, take}
use Rattle.n1ql_meaning.specs.Results.{placed_result, row_alone}
use Rattle.pipe_rows.specs.Pipes.{placed, row_of}
use Rattle.pipe_rows.proofs.plain_results.outs_of.Given as goal

abbrev pub invariant-loop-row : goal.invariant-loop-row
invariant-loop-row l = map placed l.outs.items ≡ map (λ row. placed_result l.q (row_alone (row_of row))) (take l.row-index l.rows)
