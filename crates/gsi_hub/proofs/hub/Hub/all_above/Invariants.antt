use Rattle.std.proofs.Common.{◌≡◌}
use Rattle.std.specs.List.{flat_map, range_with_len}
use Rattle.gsi_hub.specs.Past.{state_of, high_in}
use Rattle.gsi_hub.specs.Pieces.{piece_above}
use Rattle.gsi_hub.proofs.hub.Hub.all_above.Given as goal

abbrev pub invariant-loop-vb : goal.invariant-loop-vb
invariant-loop-vb l = l.pieces ≡ flat_map (piece_above (state_of l.self).log (high_in l.self) l.after) (range_with_len 0 l.vb)
