use Rattle.index_state.proofs.StateLemmas.{held_by-remove, taken}
use Rattle.index_state.proofs.held.take_out.Goals as goal

pub returns-in-Some-clause-gone : goal.returns-in-Some-clause-gone
returns-in-Some-clause-gone c = held_by-remove c.args.by_id.now c.remove.new.self c.args.id.now c.remove.ensures.updates

pub returns-in-Some-clause-both : goal.returns-in-Some-clause-both
returns-in-Some-clause-both c =
    taken c.args.by_id.now c.remove.new.self c.args.id.now c.in-Some.old c.new.result c.args.all.now.rows c.replace.new.self.rows c.new.ensures c.requires c.in-Some.ensures.value c.replace.ensures.rows (returns-in-Some-clause-gone c)

pub returns-in_default-clause-gone : goal.returns-in_default-clause-gone
returns-in_default-clause-gone c = held_by-remove c.args.by_id.now c.remove.new.self c.args.id.now c.remove.ensures.updates
