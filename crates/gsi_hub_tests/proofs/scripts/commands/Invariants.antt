use Rattle.std.specs.List.{AllByRecursion}
use Rattle.scan_history.specs.Sound.{IsWithinBounds}
use Rattle.gsi_hub_tests.proofs.scripts.commands.Given as goal

abbrev pub invariant-loop-line : goal.invariant-loop-line
invariant-loop-line l = AllByRecursion (IsWithinBounds 2) l.commands
