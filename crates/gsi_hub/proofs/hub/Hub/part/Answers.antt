use Rattle.std.proofs.Common.{◌≡◌, ◌<◌, length, sym, subst, arith}
use Rattle.std.proofs.lemmas.List.{length-map}
use Rattle.std.specs.Arc.{arc_value}
use Rattle.scan_history.specs.Fold.{state_after}
use Rattle.gsi_hub.specs.Past.{Past, part_in}
use Rattle.gsi_hub.specs.inner.Parts.{part_of}
use Rattle.gsi_hub.proofs.PartLists.{part_there}
use Rattle.gsi_hub.proofs.hub.Hub.part.Goals as goal

pub returns : goal.returns
returns c =
    let held = c.self.invariant.state in
    let script = arc_value c.self.inside.script in
    let items = c.self.inside.parts.items in
    let x = c.index.result.now in
    let client : c.args.c < script.clients = subst (λ (q : Past). c.args.c < q.script.clients) (sym c.self.view_is) c.requires in
    let count = held.count in
    let within : c.args.c < length items = omega (arith, client, count, length-map items part_of) in
    let mine : part_of x ≡ (state_after script.vbuckets c.self.inside.events.items).client c.args.c =
    held.each c.args.c (part_of x) (part_there items c.args.c x c.index.ensures within) in
    subst (λ (q : Past). part_of x ≡ part_in q c.args.c) c.self.view_is mine
