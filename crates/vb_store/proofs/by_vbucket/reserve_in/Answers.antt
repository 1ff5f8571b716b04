use Rattle.vb_store.proofs.ByVbucketLemmas.{lists_of-kept}
use Rattle.vb_store.proofs.by_vbucket.reserve_in.Goals as goal

pub returns-in_err-reserve-clause-same : goal.returns-in_err-reserve-clause-same
returns-in_err-reserve-clause-same c =
    lists_of-kept c.args.lists.now.items c.args.vb c.index_mut.result.now c.reserve.new.self c.index_mut.ensures.value c.reserve.ensures.items

pub returns-clause-same : goal.returns-clause-same
returns-clause-same c =
    lists_of-kept c.args.lists.now.items c.args.vb c.index_mut.result.now c.reserve.new.self c.index_mut.ensures.value c.reserve.ensures.items
