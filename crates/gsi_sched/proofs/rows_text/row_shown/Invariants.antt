use Rattle.std.proofs.Common.{◌≡◌, map, take}
use Rattle.n1ql_value.specs.Datum.{datum_of}
use Rattle.scan_history.specs.RowTexts.{key_shown}
use Rattle.gsi_sched.proofs.rows_text.row_shown.Given as goal

abbrev pub invariant-loop-key : goal.invariant-loop-key
invariant-loop-key l = l.keys ≡ map key_shown (map datum_of (take l.key-index l.key-items))
