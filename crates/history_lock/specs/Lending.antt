-- What a pass ends as, where a `&mut` to the state is returned.
use Rattle.std.specs.Prelude.{Some}
use Rattle.std.specs.Borrow.{Lends, Fml, RattleType, MutBor}
use Rattle.history_lock.specs.declared.pass.Pass.{Pass}
use Rattle.history_lock.specs.contracts.pass.Pass.{the_row}

module _ (S E : RattleType) where
  -- the pass with this state
  abbrev pub with_state : Pass S.Denot E.Denot → S.Denot → Pass S.Denot E.Denot
  with_state p x = record p { state = Some x }

  -- once the borrow r ends, the pass has the state that r shows last
  abbrev pub LendsState : MutBor (Pass S.Denot E.Denot) → MutBor S.Denot → Fml
  LendsState p r = Lends (the_row S E) S p r (with_state p.now)
