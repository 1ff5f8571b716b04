use Rattle.std.proofs.Common.{length, sym, ap, ◌∙◌}
use Rattle.index_state.specs.RowsById.{all_rows}
use Rattle.index_state.specs.inner.Held.{held_by}
use Rattle.index_state.proofs.StateLemmas.{all_rows-filled}
use Rattle.index_state.proofs.state.IndexState.len.Goals as goal

pub returns : goal.returns
returns c = c.len.ensures ∙ ap length (c.self.invariant ∙ sym (all_rows-filled (held_by c.self.inside.by_id)) ∙ ap all_rows c.self.view_is)
