use Rattle.std.proofs.Common.{rules, sym, subst}
use Rattle.index_snapshot.specs.Stands.{WorkerStands}
use Rattle.index_snapshot.proofs.worker.IndexWorker.deliver.Goals as goal

pub returns-in_ok-put_above-in-Next-clause-moved : goal.returns-in_ok-put_above-in-Next-clause-moved
returns-in_ok-put_above-in-Next-clause-moved c = search rules

pub returns-in_ok-put_above-in-Next-clause-stands : goal.returns-in_ok-put_above-in-Next-clause-stands
returns-in_ok-put_above-in-Next-clause-stands c n log stands piece =
    subst (WorkerStands n log) (sym (returns-in_ok-put_above-in-Next-clause-moved c)) (c.a_delivery_keeps.ensures n log c.args.self.now c.args.p.now stands piece)
