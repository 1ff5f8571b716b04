use Rattle.std.proofs.Common.{◌≡◌}
use Rattle.index_state.specs.inner.Held.{held_by, filled}
use Rattle.index_state.proofs.held.leave_all.Given as goal

abbrev pub invariant-loop-id : goal.invariant-loop-id
invariant-loop-id l = filled (held_by l.by_id) ≡ filled (held_by l.initial.by_id)
