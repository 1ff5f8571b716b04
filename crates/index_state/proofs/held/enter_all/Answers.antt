use Rattle.std.proofs.Common.{◌∙◌, subst, take_all}
use Rattle.std.specs.List.{All}
use Rattle.index_state.specs.declared.put.Put.{Put}
use Rattle.index_state.specs.inner.Held.{Has}
use Rattle.index_state.proofs.PutLemmas.{All-more}
use Rattle.index_state.proofs.held.enter_all.Goals as goal

pub loop-put-preserved : goal.loop-put-preserved
loop-put-preserved c = (
  c.in_ok-enter.ensures.same ∙ c.loop-put.invariant.0,
  All-more (λ (p : Put). Has c.enter.new.by_id p.id) c.args.puts.now c.loop-put.put-index c.put-item.result c.loop-put-test.true c.put-item.is
      (λ k d h. c.in_ok-enter.ensures.kept _ (c.loop-put.invariant.1 k d h)) c.in_ok-enter.ensures.there,
)

pub returns-clause-there : goal.returns-clause-there
returns-clause-there c =
    subst (All (λ (p : Put). Has c.loop-put.by_id p.id)) (take_all c.loop-put.put-index c.args.puts.now c.loop-put-test.false) c.loop-put.invariant.1
