use Rattle.std.proofs.Common.{◌≡◌, IfOk, List, sym, ap, ◌∙◌, subst}
use Rattle.n1ql_value.specs.declared.row.Row.{Row}
use Rattle.index_state.specs.RowsById.{all_rows}
use Rattle.index_state.specs.inner.Held.{held_by}
use Rattle.index_state.proofs.StateLemmas.{all_rows-filled}
use Rattle.index_state.proofs.state.IndexState.freeze.Goals as goal

pub returns : goal.returns
returns c =
    subst (λ (rows : List Row). IfOk c.freeze.result (λ frozen. frozen ≡ rows)) (c.self.invariant ∙ sym (all_rows-filled (held_by c.self.inside.by_id)) ∙ ap all_rows c.self.view_is) c.freeze.ensures.same
