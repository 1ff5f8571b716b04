use Rattle.std.proofs.Common.{◌≡◌, ◌++◌, ◌∷◌, [], arith}
use Rattle.std.proofs.lemmas.Grind.{common_steps}
use Rattle.vb_store.proofs.ByVbucketLemmas.{lists_of-push}
use Rattle.vb_store.proofs.by_vbucket.push_reserved.Goals as goal

pub returns : goal.returns
returns c =
    let more : c.push.new.self.items ≡ c.index_mut.result.now.items ++ c.args.mutation ∷ [] = grind (arith, common_steps, c.requires.room c.index_mut.result.now) in
    lists_of-push c.args.lists.now.items c.args.vb c.index_mut.result.now c.push.new.self c.args.mutation (omega (arith, c.args.lists.now.ok.0)) c.index_mut.ensures.value more
