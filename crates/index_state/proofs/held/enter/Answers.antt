use Rattle.std.proofs.Common.{◌≡◌, None, ap, ◌∙◌, rules}
use Rattle.std.specs.BTreeMap as tree
use Rattle.std.specs.Cmp.Lexicographic.{slice_cmp}
use Rattle.std.specs.Ordering.{nat_cmp}
use Rattle.std.specs.FinMap as map
use Rattle.index_state.specs.inner.Held.{held_by}
use Rattle.index_state.proofs.StateLemmas.{held_by-insert, rows_at-none, entered}
use Rattle.index_state.proofs.held.enter.Goals as goal

pub returns-in_ok-insert-clause-same : goal.returns-in_ok-insert-clause-same
returns-in_ok-insert-clause-same c =
    let absent : None ≡ tree.get (slice_cmp nat_cmp) c.args.by_id.now c.args.id.now = search rules in
    entered c.args.by_id.now c.insert.new.self c.args.id.now c.new.result c.new.ensures (rows_at-none c.args.by_id.now c.args.id.now absent)
    (held_by-insert c.args.by_id.now c.insert.new.self c.in_ok-copy.field-0 c.new.result c.in_ok-insert.ensures.updates
    ∙ ap (λ id. map.insert (held_by c.args.by_id.now) id c.new.result) c.in_ok-copy.ensures)
