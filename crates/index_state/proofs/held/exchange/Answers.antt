use Rattle.std.proofs.Common.{ap, ◌∙◌}
use Rattle.std.specs.FinMap as map
use Rattle.n1ql_value.specs.Collation.{row_cmp}
use Rattle.sorted_lists.specs.SortedLists.{with_all, without_all}
use Rattle.index_state.specs.inner.Held.{held_by}
use Rattle.index_state.proofs.StateLemmas.{held_by-insert, exchanged}
use Rattle.index_state.proofs.held.exchange.Goals as goal

pub returns-in-Some-clause-put : goal.returns-in-Some-clause-put
returns-in-Some-clause-put c =
    held_by-insert c.args.by_id.now (c.get_mut.follows.lender c.replace-old.new.dest) c.args.id.now c.replace-old.new.dest ((c.get_mut.follows.holds c.replace-old.new.dest).3 c.requires.there)
    ∙ ap (map.insert (held_by c.args.by_id.now) c.args.id.now) c.replace-old.ensures.after

pub returns-in-Some-clause-both : goal.returns-in-Some-clause-both
returns-in-Some-clause-both c =
    exchanged c.args.by_id.now (c.get_mut.follows.lender c.replace-old.new.dest) c.args.id.now c.in-Some.held.now c.args.rows c.args.all.now.rows c.replace.new.self.rows c.requires.both c.in-Some.ensures.value
    (c.replace.ensures.rows ∙ ap (λ rows. with_all row_cmp rows (without_all row_cmp c.replace-old.result c.args.all.now.rows)) c.requires.alike
    ∙ ap (λ old. with_all row_cmp c.args.rows (without_all row_cmp old c.args.all.now.rows)) c.replace-old.ensures.value)
    (returns-in-Some-clause-put c)
