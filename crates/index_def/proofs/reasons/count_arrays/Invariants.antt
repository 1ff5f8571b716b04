use Rattle.std.proofs.Common.{◌≡◌, ◌≤◌, length, take}
use Rattle.std.specs.List.{filter}
use Rattle.index_def.specs.Reasons.{is_array}
use Rattle.index_def.proofs.reasons.count_arrays.Given as goal

abbrev pub invariant-loop-key : goal.invariant-loop-key
invariant-loop-key l = (l.count ≡ length (filter is_array (take l.key-index l.keys))) × (l.count ≤ l.key-index)
