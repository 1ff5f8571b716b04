use Rattle.std.proofs.Common.{ap, ◌∙◌}
use Rattle.std.specs.FinMap as map
use Rattle.index_state.specs.RowsById.{RowsById}
use Rattle.index_state.specs.inner.Held.{held_by, filled}
use Rattle.index_state.proofs.StateLemmas.{filled-remove}
use Rattle.index_state.proofs.state.IndexState.drop_id.Goals as goal

pub returns-clause-ok : goal.returns-clause-ok
returns-clause-ok c =
    ap filled c.take_out.ensures.gone ∙ filled-remove (held_by c.self.inside.by_id) c.args.id.now ∙ ap (λ (held : RowsById). map.remove held c.args.id.now) c.self.view_is
