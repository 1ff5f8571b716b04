use Rattle.std.proofs.Common.{◌≡◌, replicate}
use Rattle.scan_history.specs.Fold.{first_part}
use Rattle.gsi_hub.specs.inner.Parts.{parts_of}
use Rattle.gsi_hub.proofs.hub.new.first_parts.Given as goal

abbrev pub invariant-loop : goal.invariant-loop
invariant-loop l = parts_of l.parts.items ≡ replicate l.counter (first_part l.vbuckets)
