use Rattle.std.proofs.Common.{◌≡◌, take}
use Rattle.std.specs.List.{All}
use Rattle.index_state.specs.inner.Held.{held_by, filled, Has}
use Rattle.index_state.proofs.held.enter_all.Given as goal

abbrev pub invariant-loop-put : goal.invariant-loop-put
invariant-loop-put l = (filled (held_by l.by_id) ≡ filled (held_by l.initial.by_id)) × All (λ p. Has l.by_id p.id) (take l.put-index l.puts)
