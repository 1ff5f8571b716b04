use Rattle.std.proofs.Common.{◌≡◌, ◌+◌, ◌-◌, ◌≤◌, length}
use Rattle.std.specs.Io.KnownBytes.{Consumes}
use Rattle.n1ql_value.specs.Limits.{max_input_bytes}
use Rattle.gsi_main.specs.declared.reading.TheConstants.{PIECE}
use Rattle.gsi_main.proofs.reading.read_input.Given as goal

-- the bytes so far were consumed, and no read failed
abbrev pub invariant-pieces : goal.invariant-pieces
invariant-pieces g l = record {
  at_most : length l.bytes.items ≤ max_input_bytes + 1;
  piece_is_whole : length l.piece.items ≡ PIECE;
  consumed : Consumes (g.S.Source.left l.initial.source) (g.S.Source.left l.source) l.bytes.items;
  kept : g.S.Source.faults l.source ≡ g.S.Source.faults l.initial.source;
}

abbrev pub decreases-pieces : goal.decreases-pieces
decreases-pieces g l = max_input_bytes + 1 - length l.bytes.items
