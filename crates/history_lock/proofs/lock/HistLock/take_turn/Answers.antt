use Rattle.std.proofs.Common.{rules}
use Rattle.history_lock.proofs.Steps.{takes_keep}
use Rattle.history_lock.proofs.lock.HistLock.take_turn.Goals as goal

pub compare_exchange-requires : goal.compare_exchange-requires
compare_exchange-requires g c = (search rules, search rules, takes_keep g.S.Chronicle.events g.S.Chronicle.party _ _ _)
