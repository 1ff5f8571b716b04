use Rattle.std.proofs.Common.{length, take, ◌≡◌, ◌-◌, ◌≤◌}
use Rattle.std.specs.Io.KnownBytes.{Appends}
use Rattle.gsi_main.proofs.writing.write_report.Given as goal

-- the prefix that is done was appended, and no write failed
abbrev pub invariant-pieces : goal.invariant-pieces
invariant-pieces g l = record {
  in_range : l.done ≤ length l.report;
  appended : Appends (g.K.Sink.held l.initial.sink) (g.K.Sink.held l.sink) (take l.done l.report);
  kept : g.K.Sink.faults l.sink ≡ g.K.Sink.faults l.initial.sink;
}

abbrev pub decreases-pieces : goal.decreases-pieces
decreases-pieces g l = length l.report - l.done
