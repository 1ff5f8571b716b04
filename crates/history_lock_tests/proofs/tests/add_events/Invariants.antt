use Rattle.std.proofs.Common.{◌≡◌, ◌≤◌}
use Rattle.history_lock.specs.Passes.{id_of, lock_of, party_of, HoldsNoTurn}
use Rattle.history_lock_tests.proofs.tests.add_events.Given as goal

abbrev pub invariant-loop : goal.invariant-loop
invariant-loop g l = (lock_of l.pass ≡ id_of l.lock) × HoldsNoTurn l.pass × (party_of l.pass ≡ l.party) × (l.added ≤ l.counter)
