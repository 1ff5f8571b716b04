use Rattle.std.proofs.Common.{◌≡◌, ◌+◌, ◌^◌, ◌<◌, length}
use Rattle.script_text.specs.Input.{lines_of, numbered_after}
use Rattle.script_text.proofs.reader.script.input.LinesIterator.next.Given as goal

-- the lines so far were blank
abbrev pub invariant-lines : goal.invariant-lines
invariant-lines l = record {
  same : numbered_after l.self-inside.number (lines_of l.self-inside.rest.now) ≡ numbered_after l.initial.self-inside.number (lines_of l.initial.self-inside.rest.now);
  in_range : l.self-inside.number + length l.self-inside.rest.now < 2 ^ 64;
}

abbrev pub decreases-lines : goal.decreases-lines
decreases-lines l = length l.self-inside.rest.now
