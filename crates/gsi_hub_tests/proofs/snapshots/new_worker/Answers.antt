use Rattle.std.proofs.Common.{◌≡◌, ap, sym, ◌∙◌, subst}
use Rattle.std.specs.Arc.{arc_value}
use Rattle.index_def.specs.declared.definition.IndexDef.{IndexDef}
use Rattle.index_snapshot.specs.Stands.{WorkerStands}
use Rattle.index_snapshot.specs.Workers.{first_worker}
use Rattle.gsi_hub.specs.Past.{state_of}
use Rattle.gsi_hub.proofs.Beginnings.{first_stands}
use Rattle.gsi_hub_tests.proofs.snapshots.new_worker.Goals as goal

pub returns-clause-stands : goal.returns-clause-stands
returns-clause-stands c =
    let p = c.args.hub.now in
    let n = p.script.vbuckets in
    let log = (state_of p).log in
    let holds = c.a_legal_history_is_consistent.ensures p.script p.events c.store-store.ensures.legal in
    let shared : IndexDef = arc_value c.in_ok-def.def in
    let first : c.in_ok-worker.worker ≡ first_worker c.args.i shared n =
    c.in_ok-worker.ensures ∙ ap (first_worker c.args.i shared) (sym c.requires.pair.1) in
    subst (WorkerStands n log) (sym first) (first_stands n log c.args.i shared holds.log (c.start.ensures n n log holds.log))
