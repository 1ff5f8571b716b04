use Rattle.std.proofs.Common.{rules}
use Rattle.history_lock.proofs.Steps.{splits_note}
use Rattle.history_lock.proofs.lock.HistLock.note.Goals as goal

pub split_seat-seat-requires : goal.split_seat-seat-requires
split_seat-seat-requires g c = (search rules, search rules, splits_note g.S.Chronicle.events g.S.Chronicle.party _ _)
