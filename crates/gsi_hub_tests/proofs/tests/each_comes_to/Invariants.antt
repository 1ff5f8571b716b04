use Rattle.gsi_hub_tests.specs.Pairs.{IsPair}
use Rattle.gsi_hub_tests.proofs.tests.each_comes_to.Given as goal

abbrev pub invariant-loop-row : goal.invariant-loop-row
invariant-loop-row g l = IsPair l.hub.script
