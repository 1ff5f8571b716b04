use Rattle.std.proofs.Common.{◌≡◌, drop, find}
use Rattle.index_def.specs.Reasons.{has_reason}
use Rattle.index_def.proofs.reasons.first_among.Given as goal

abbrev pub invariant-loop-reason : goal.invariant-loop-reason
invariant-loop-reason l =
    find (λ reason. has_reason reason l.c) (drop l.reason-index l.reasons) ≡ find (λ reason. has_reason reason l.c) l.reasons
