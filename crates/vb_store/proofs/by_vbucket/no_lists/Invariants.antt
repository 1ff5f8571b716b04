use Rattle.std.proofs.Common.{◌≡◌, [], replicate}
use Rattle.vb_store.specs.inner.Held.{lists_of}
use Rattle.vb_store.proofs.by_vbucket.no_lists.Given as goal

abbrev pub invariant-loop : goal.invariant-loop
invariant-loop l = lists_of l.lists.items ≡ replicate l.counter []
