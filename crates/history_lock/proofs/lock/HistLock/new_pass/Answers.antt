use Rattle.std.proofs.Common.{rules, ap, ◌∙◌, ℕ, Some}
use Rattle.history_lock.proofs.Steps.{splits_pass}
use Rattle.history_lock.proofs.lock.HistLock.new_pass.Goals as goal

pub split_seat-seat-requires : goal.split_seat-seat-requires
split_seat-seat-requires g c = (search rules, search rules, splits_pass g.S.Chronicle.events g.S.Chronicle.party _ _ (c.requires.idle.0.0 ∙ ap (λ (n : ℕ). Some n) c.requires.first) (search rules))
