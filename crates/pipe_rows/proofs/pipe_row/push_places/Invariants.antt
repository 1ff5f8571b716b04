use Rattle.std.proofs.Common.{◌≡◌, ◌++◌, map, take}
use Rattle.pipe_rows.specs.Pipes.{place_in}
use Rattle.pipe_rows.proofs.pipe_row.push_places.Given as goal

abbrev pub invariant-loop-element : goal.invariant-loop-element
invariant-loop-element l = l.base ≡ l.initial.base ++ map place_in (take l.element-index l.elements)
