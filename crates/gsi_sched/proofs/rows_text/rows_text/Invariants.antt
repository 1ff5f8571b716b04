use Rattle.std.proofs.Common.{◌≡◌, map, take}
use Rattle.scan_history.specs.RowTexts.{row_shown}
use Rattle.gsi_sched.proofs.rows_text.rows_text.Given as goal

abbrev pub invariant-loop-row : goal.invariant-loop-row
invariant-loop-row l = l.shown ≡ map row_shown (take l.row-index l.row-items)
