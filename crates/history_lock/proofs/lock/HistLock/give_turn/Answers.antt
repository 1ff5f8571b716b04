use Rattle.std.proofs.Common.{rules, ◌≡◌, [], ◌∷◌, Some, ◌∙◌, ap, sym, subst}
use Rattle.atomic_table.specs.Table.{rest}
use Rattle.history_lock.specs.declared.view.View.{View}
use Rattle.history_lock.specs.Events.{GrewBy}
use Rattle.history_lock.proofs.Steps.{gives_keep}
use Rattle.history_lock.proofs.lock.HistLock.give_turn.Goals as goal

pub store-requires : goal.store-requires
store-requires g c =
    let events = g.S.Chronicle.events in
    let party = g.S.Chronicle.party in
    let now = c.exchange.ensures.3 in
    let grew = c.requires.grew in
    let out : c.exchange.new.seat.me.1 ≡ (0, Some c.args.state) ∷ [] = ap (λ m. m.1) now ∙ ap (λ cs. (0, Some c.args.state) ∷ rest cs) c.requires.turn.1 in
    let view : c.exchange.new.seat.me.0 ≡ c.args.seat.now.me.0 = ap (λ m. m.0) now in (
      search rules,
      search rules,
      gives_keep events party _ _ grew.0 _ c.args.state out (ap (λ v. v.turn) view ∙ c.requires.turn.0) (ap (λ v. v.party) view ∙ grew.1)
          (subst (λ (v : View g.row.S-Entry.Denot). GrewBy party grew.0 v.seen (events c.args.state)) (sym view) grew.2),
    )
