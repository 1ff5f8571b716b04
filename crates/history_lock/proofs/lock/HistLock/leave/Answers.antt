use Rattle.std.proofs.Common.{rules, ◌≡◌, Some, Option, ◌∙◌, ap, sym, subst}
use Rattle.atomic_table.specs.Table.{Me}
use Rattle.history_lock.specs.declared.view.View.{View}
use Rattle.history_lock.specs.Events.{GrewBy}
use Rattle.history_lock.specs.Passes.{list_of}
use Rattle.history_lock.proofs.lock.HistLock.leave.Goals as goal

pub give_turn-requires-clause-grew : goal.give_turn-requires-clause-grew
give_turn-requires-clause-grew g c =
    let pass = c.args.pass.now in
    let S = g.row.S.Denot in
    let kept : c.mark_count-added.new.seat.me ≡ pass.seat.me = search rules in
    let is : pass.state ≡ Some c.in-Some.state = search rules in (
      pass.party,
      ap (λ m. m.0.party) kept ∙ c.requires.turn.0.0,
      subst (λ (z : Me (Option S) (View g.row.S-Entry.Denot) × Option S). GrewBy g.S.Chronicle.party pass.party z.0.0.seen (list_of g.S.Chronicle.events z.1)) (λ i. (sym kept i, is i)) c.requires.grew,
    )
