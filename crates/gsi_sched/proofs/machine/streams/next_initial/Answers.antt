use Rattle.gsi_sched.proofs.StreamsLent.{written_back, moved_back}
use Rattle.gsi_sched.proofs.machine.streams.next_initial.Goals as goal

pub returns-clause-moved : goal.returns-clause-moved
returns-clause-moved c =
    let p = c.in-Some.position in
    let old = c.args.streams.now in
    let m = c.next.new.self in
    let back = written_back c.init.result p _ c.in-Some.is c.init.ensures.value _ (c.init.follows.holds m) in
    moved_back c.init.result p _ c.in-Some.is c.init.ensures.value c.next.result c.args.i old (c.init.follows.lender m) m back c.next.ensures.moved
