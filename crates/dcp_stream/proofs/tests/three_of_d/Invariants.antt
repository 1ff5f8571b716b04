use Rattle.std.proofs.Common.{◌≡◌}
use Rattle.dcp_stream.proofs.tests.three_of_d.Given as goal

abbrev pub invariant-loop-id : goal.invariant-loop-id
invariant-loop-id l = l.store.vbuckets ≡ 4
