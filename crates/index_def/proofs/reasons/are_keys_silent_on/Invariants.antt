use Rattle.std.proofs.Common.{◌≡◌, drop}
use Rattle.std.specs.List.{flat_map, list_all}
use Rattle.index_def.specs.Mentions.{is_silent_on}
use Rattle.index_def.specs.Reasons.{parts_of}
use Rattle.index_def.proofs.reasons.are_keys_silent_on.Given as goal

abbrev pub invariant-loop-key : goal.invariant-loop-key
invariant-loop-key l =
    list_all (is_silent_on l.subject) (flat_map parts_of (drop l.key-index l.keys)) ≡ list_all (is_silent_on l.subject) (flat_map parts_of l.keys)
