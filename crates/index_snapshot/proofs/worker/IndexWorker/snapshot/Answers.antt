use Rattle.std.proofs.Common.{rules}
use Rattle.std.specs.Arc.{arc_value}
use Rattle.index_snapshot.proofs.Delivery.{stands_shown}
use Rattle.index_snapshot.proofs.worker.IndexWorker.snapshot.Goals as goal

pub returns-clause-def : goal.returns-clause-def
returns-clause-def c = search rules

pub returns-clause-vector : goal.returns-clause-vector
returns-clause-vector c = search rules

pub returns-clause-rows : goal.returns-clause-rows
returns-clause-rows c = search rules

pub returns-clause-stands : goal.returns-clause-stands
returns-clause-stands c n log stands =
    stands_shown n log c.args.self.now (arc_value c.in_ok-snapshot.snapshot) stands (returns-clause-def c) (returns-clause-vector c) (returns-clause-rows c)
    (c.rows_are_the_index.ensures n log c.args.self.now stands)
