use Rattle.std.proofs.Common.{sym, ap, ◌∙◌}
use Rattle.std.specs.FinMap as map
use Rattle.index_state.specs.RowsById.{all_rows}
use Rattle.index_state.specs.inner.Held.{filled}
use Rattle.index_state.proofs.StateLemmas.{all_rows-empty, filled-empty}
use Rattle.index_state.proofs.state.IndexState.new.Goals as goal

pub invariant_of-result : goal.invariant_of-result
invariant_of-result c = c.new-2.ensures ∙ sym (ap (λ es. all_rows (map.from_entries es)) c.new.ensures.empty ∙ all_rows-empty)

pub returns : goal.returns
returns c = ap (λ es. filled (map.from_entries es)) c.new.ensures.empty ∙ filled-empty
