use Rattle.std.proofs.Common.{rules}
use Rattle.history_lock.proofs.Steps.{joins_note, looks_keep}
use Rattle.history_lock.proofs.lock.HistLock.learn.Goals as goal

pub join_seat-requires : goal.join_seat-requires
join_seat-requires g c = (search rules, search rules, search rules, search rules, joins_note g.S.Chronicle.events g.S.Chronicle.party _ _ _ _ (search rules) (search rules))

pub load-pass-requires : goal.load-pass-requires
load-pass-requires g c = (search rules, search rules, looks_keep g.S.Chronicle.events g.S.Chronicle.party _ _ _ _)
