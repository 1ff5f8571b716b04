use Rattle.std.proofs.Common.{◌≡◌, ◌≤◌, count_by, take}
use Rattle.script_text.specs.Scripts.{is_scan_item}
use Rattle.script_text.proofs.reader.script.reading.scans_in.Given as goal

abbrev pub invariant-loop-item : goal.invariant-loop-item
invariant-loop-item l = (l.scans ≡ count_by is_scan_item (take l.item-index l.items)) × (l.scans ≤ l.item-index)
