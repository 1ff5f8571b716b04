use Rattle.std.proofs.Common.{◌≡◌, map}
use Rattle.std.specs.List.{All}
use Rattle.index_state.specs.inner.Held.{change_of}
use Rattle.index_state.proofs.put.ready_all.Given as goal

abbrev pub invariant-loop-change : goal.invariant-loop-change
invariant-loop-change l = (map change_of l.puts.items ≡ l.yielded) × All (λ p. p.again ≡ p.rows) l.puts.items
