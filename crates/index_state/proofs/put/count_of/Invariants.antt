use Rattle.std.proofs.Common.{◌≡◌, take}
use Rattle.index_state.specs.inner.Held.{count_in}
use Rattle.index_state.proofs.put.count_of.Given as goal

abbrev pub invariant-loop-put : goal.invariant-loop-put
invariant-loop-put l = l.count ≡ count_in (take l.put-index l.puts)
