use Rattle.std.proofs.Common.{rules, arith}
use Rattle.history_lock.proofs.Steps.{marks_keep}
use Rattle.history_lock.proofs.lock.HistLock.finish.Goals as goal

pub store-requires : goal.store-requires
store-requires g c = (search rules, search rules, marks_keep g.S.Chronicle.events g.S.Chronicle.party _ _ _ _ _ (λ e. omega arith))

pub store-requires-2 : goal.store-requires-2
store-requires-2 g c = (search rules, search rules, marks_keep g.S.Chronicle.events g.S.Chronicle.party _ _ _ _ _ (λ e. omega arith))
