use Rattle.std.proofs.Common.{rules, ◌≡◌, [], ◌∷◌, Some, ◌∙◌, ap, sym}
use Rattle.atomic_table.specs.Table.{rest}
use Rattle.history_lock.proofs.lock.HistLock.enter.Goals as goal

pub exchange-requires : goal.exchange-requires
exchange-requires g c =
    let turn = c.take_turn.ensures.turn in
    let out : c.take_turn.new.seat.me.1 ≡ (0, Some turn.0) ∷ [] = ap (λ m. m.1) turn.1 in
    (search rules, (Some turn.0, out ∙ ap (λ cs. (0, Some turn.0) ∷ rest cs) (sym out)))
