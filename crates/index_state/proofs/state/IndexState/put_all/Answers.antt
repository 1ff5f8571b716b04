use Rattle.std.proofs.Common.{sym, ◌∙◌, subst}
use Rattle.std.specs.List.{All}
use Rattle.index_state.specs.declared.put.Put.{Put}
use Rattle.index_state.specs.inner.Held.{held_by, Has}
use Rattle.index_state.proofs.StateLemmas.{same_rows}
use Rattle.index_state.proofs.state.IndexState.put_all.Goals as goal

pub invariant_of-self-in_err-enter_all : goal.invariant_of-self-in_err-enter_all
invariant_of-self-in_err-enter_all c =
    c.reserve.ensures.same ∙ c.self.invariant ∙ sym (same_rows (held_by c.enter_all.new.by_id) (held_by c.self.inside.by_id) c.enter_all.ensures.same)

pub exchange_all-requires-clause-both : goal.exchange_all-requires-clause-both
exchange_all-requires-clause-both c =
    c.reserve.ensures.same ∙ c.self.invariant ∙ sym (same_rows (held_by c.enter_all.new.by_id) (held_by c.self.inside.by_id) c.enter_all.ensures.same)

pub exchange_all-requires-clause-there : goal.exchange_all-requires-clause-there
exchange_all-requires-clause-there c =
    subst (All (λ (p : Put). Has c.enter_all.new.by_id p.id)) c.deref-2.ensures.value c.in_ok-enter_all.ensures.there
