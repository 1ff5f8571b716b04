use Rattle.std.proofs.Common.{◌≡◌, ◌≤◌, map}
use Rattle.std.specs.List.{All}
use Rattle.std.specs.Vec.Iter.{into_iter_items}
use Rattle.index_state.specs.RowsById.{with_changes, all_rows}
use Rattle.index_state.specs.inner.Held.{held_by, filled, Has, change_of, count_in}
use Rattle.index_state.proofs.held.exchange_all.Given as goal

abbrev pub invariant-loop-put : goal.invariant-loop-put
invariant-loop-put l =
    (filled (held_by l.by_id) ≡ with_changes (map change_of l.yielded) (filled (held_by l.initial.by_id)))
    × (l.all.rows ≡ all_rows (held_by l.by_id))
    × All (λ p. Has l.by_id p.id) (into_iter_items l.put-iterator)
    × All (λ p. p.again ≡ p.rows) (into_iter_items l.put-iterator)
    × (count_in (into_iter_items l.put-iterator) ≤ l.all.room)
