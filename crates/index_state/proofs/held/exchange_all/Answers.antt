use Rattle.std.proofs.Common.{◌≡◌, ◌+◌, ◌∷◌, length, sym, ap, ◌∙◌, arith}
use Rattle.std.proofs.lemmas.List.Elements.{All-rest}
use Rattle.std.specs.Vec.Iter.{into_iter_items}
use Rattle.index_state.specs.declared.put.Put.{Put}
use Rattle.index_state.specs.RowsById.{RowsById, with_rows}
use Rattle.index_state.specs.inner.Held.{held_by, filled, Has, count_in}
use Rattle.index_state.proofs.PutLemmas.{with_changes-push}
use Rattle.index_state.proofs.StateLemmas.{filled-insert, same_rows}
use Rattle.index_state.proofs.held.exchange_all.Goals as goal

pub loop-put-preserved : goal.loop-put-preserved
loop-put-preserved c =
    let p = c.in-Some.put in
    let rest = into_iter_items c.next.new.self in
    let items : into_iter_items c.loop-put.put-iterator ≡ p ∷ rest = c.in-Some.ensures.steps.0 in
    let inv = c.loop-put.invariant in
    let room = inv.4 in
    let left = c.exchange.ensures.room in
    let counted : count_in (into_iter_items c.loop-put.put-iterator) ≡ length p.again + count_in rest = ap count_in items in (
      ap filled c.exchange.ensures.put ∙ filled-insert (held_by c.loop-put.by_id) p.id p.rows ∙ ap (λ (held : RowsById). with_rows held p.id p.rows) inv.0
          ∙ sym (with_changes-push c.loop-put.yielded p (filled (held_by c.args.by_id.now))),
      c.exchange.ensures.both,
      (λ k d h. c.exchange.ensures.kept _ (All-rest (λ (x : Put). Has c.loop-put.by_id x.id) p rest (into_iter_items c.loop-put.put-iterator) items inv.2 k d h)),
      All-rest (λ (x : Put). x.again ≡ x.rows) p rest (into_iter_items c.loop-put.put-iterator) items inv.3,
      omega arith,
    )

pub returns-clause-both : goal.returns-clause-both
returns-clause-both c = c.loop-put.invariant.1 ∙ sym (same_rows (held_by c.leave_all.new.by_id) (held_by c.loop-put.by_id) c.leave_all.ensures)
