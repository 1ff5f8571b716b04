use Rattle.std.proofs.Common.{◌≡◌, map, take}
use Rattle.pipe_rows.specs.Pipes.{bound_pair, place_in}
use Rattle.pipe_rows.proofs.pipe_row.shared.Given as goal

abbrev pub invariant-loop-element : goal.invariant-loop-element
invariant-loop-element l = (map bound_pair l.made.items ≡ map bound_pair (take l.element-index l.elements)) × (map place_in l.made.items ≡ map place_in (take l.element-index l.elements))
