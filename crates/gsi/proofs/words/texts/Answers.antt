use Rattle.std.proofs.Common.{ap, sym, ◌∙◌, map}
use Rattle.std.specs.Prelude.{string_bytes}
use Rattle.std.specs.Iterator.Adapters.{skip_source, skip_count}
use Rattle.std.specs.Vec.Iter.{into_iter_items, into_iter_len}
use Rattle.std.proofs.lemmas.Iterator.Adapters.{YieldsList-from_skip, YieldsList-from_vec}
use Rattle.std.proofs.lemmas.List.{map-id}
use Rattle.std.proofs.lemmas.Iterator.Consumers.{YieldsList-end}
use Rattle.gsi.proofs.words.texts.Goals as goal

pub returns : goal.returns
returns c =
    let same = c.into_iter-argument-iterator.ensures.into_iter_gives in
    let source = ap skip_source same ∙ c.skip-argument-items.ensures.source in
    let all = YieldsList-from_skip {s = c.into_iter-argument-iterator.result} 1
    (YieldsList-from_vec (into_iter_items c.args.arguments) (ap into_iter_items source) (ap into_iter_len source ∙ c.args.arguments.rest.ok.0))
    (ap skip_count same ∙ c.skip-argument-items.ensures.count) in
    let end = YieldsList-end all c.loop-argument.yielded _ c.loop-argument.yielded_by c.next.result c.next.new.self c.in-None.is c.next.ensures.steps in
    c.loop-argument.invariant ∙ ap (map string_bytes) (sym (map-id c.loop-argument.yielded) ∙ end.0)
