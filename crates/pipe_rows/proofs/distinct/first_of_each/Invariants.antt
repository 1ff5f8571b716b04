use Rattle.std.proofs.Common.{◌≡◌, map}
use Rattle.std.specs.List.{list_any}
use Rattle.n1ql_value.specs.declared.value.Value.{Value}
use Rattle.n1ql_ast.specs.Equality.{same_value}
use Rattle.n1ql_meaning.specs.Finish.{first_of_each}
use Rattle.n1ql_meaning.specs.Results.{PlacedResult}
use Rattle.pipe_rows.specs.Pipes.{placed}
use Rattle.pipe_rows.specs.Seen.{has_seen}
use Rattle.pipe_rows.proofs.distinct.first_of_each.Given as goal

abbrev pub invariant-loop-out : goal.invariant-loop-out
invariant-loop-out l = (map placed l.kept.items ≡ first_of_each (map placed l.yielded)) × ((v : Value) → has_seen l.seen v ≡ list_any (λ (r : PlacedResult). same_value v r.result) (map placed l.kept.items))
