use Rattle.gsi_sched.proofs.Deliveries.{brought_up, rest_of, rest_brings_up}
use Rattle.gsi_sched.proofs.heart.pieces_bring_a_worker_up.Goals as goal

pub returns-clause-stands : goal.returns-clause-stands
returns-clause-stands c n log w ps stands bring = (brought_up c.below.ensures c.stood.ensures n log w ps stands bring).0

pub returns-clause-own : goal.returns-clause-own
returns-clause-own c n log w ps stands bring = (brought_up c.below.ensures c.stood.ensures n log w ps stands bring).1

pub returns-clause-at : goal.returns-clause-at
returns-clause-at c n log w ps stands bring = (brought_up c.below.ensures c.stood.ensures n log w ps stands bring).2

pub returns-clause-some : goal.returns-clause-some
returns-clause-some c n log w stands = (rest_of c.below.ensures c.stood.ensures n log w n, rest_brings_up c.below.ensures c.stood.ensures n log w stands)
