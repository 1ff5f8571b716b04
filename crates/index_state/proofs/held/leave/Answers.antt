use Rattle.std.proofs.Common.{sym, ◌∙◌}
use Rattle.index_state.proofs.StateLemmas.{held_by-remove, rows_at-found, nothing_of_length, left}
use Rattle.index_state.proofs.held.leave.Goals as goal

pub returns-then-len-eq0 : goal.returns-then-len-eq0
returns-then-len-eq0 c =
    left c.args.by_id.now c.remove.new.self c.args.id.now
    (rows_at-found c.args.by_id.now c.args.id.now c.in-Some.rows.now c.in-Some.ensures.value ∙ nothing_of_length c.in-Some.rows.now (sym c.len.ensures ∙ c.if-len-eq0.true))
    (held_by-remove c.args.by_id.now c.remove.new.self c.args.id.now c.remove.ensures.updates)
