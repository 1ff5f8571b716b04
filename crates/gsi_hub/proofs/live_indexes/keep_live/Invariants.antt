use Rattle.std.proofs.Common.{◌≡◌, ◌-◌, ◌≤◌, filter, take, vec_len}
use Rattle.std.specs.Prelude.{is_some}
use Rattle.index_def.specs.LiveIndexes.{numbered}
use Rattle.gsi_hub.proofs.live_indexes.keep_live.Given as goal

abbrev pub invariant-loop-at : goal.invariant-loop-at
invariant-loop-at l =
    (filter (λ i. is_some (numbered i l.catalog.live)) l.numbers.items ≡ filter (λ i. is_some (numbered i l.catalog.live)) l.initial.numbers.items)
    × (filter (λ i. is_some (numbered i l.catalog.live)) (take l.at l.numbers.items) ≡ take l.at l.numbers.items)
    × (l.at ≤ vec_len l.numbers)

abbrev pub decreases-loop-at : goal.decreases-loop-at
decreases-loop-at l = vec_len l.numbers - l.at
