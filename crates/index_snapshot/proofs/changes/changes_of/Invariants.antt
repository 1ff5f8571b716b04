use Rattle.std.proofs.Common.{◌≡◌, take}
use Rattle.index_snapshot.specs.Workers.{changes_above}
use Rattle.index_snapshot.proofs.changes.changes_of.Given as goal

abbrev pub invariant-loop-version : goal.invariant-loop-version
invariant-loop-version l = l.changes.items ≡ changes_above l.after (take l.version-index l.versions)
