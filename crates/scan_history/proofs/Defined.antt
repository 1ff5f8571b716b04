-- Each definition of a legal history is one that some text defines.
use Rattle.std.proofs.Common.{ℕ, List, [], ◌∷◌, subst}
use Rattle.std.specs.List.{AllByRecursion}
use Rattle.index_def.specs.declared.definition.IndexDef.{IndexDef}
use Rattle.scan_history.specs.declared.script.Script.{Script}
use Rattle.scan_history.specs.Definitions.{Defines}
use Rattle.scan_history.specs.Events.{Event, define}
use Rattle.scan_history.specs.Fold.{State, defs_step, step, state_from}
use Rattle.scan_history.specs.Readings.{Read, IsRead, AreRead}
use Rattle.scan_history.specs.Legal.{MayFollow, IsLegalFrom}
use Rattle.scan_history.specs.Consistent.{IsConsistent}
use Rattle.scan_history.specs.inner.Known.{Known}
use Rattle.scan_history.proofs.Lists.{each_push}
use Rattle.scan_history.proofs.FirstActions.{IsDefinedBy, first_fits}
use Rattle.scan_history.proofs.Consistency.{consistent_next}

abbrev pub IsDefined : IndexDef → Type 0
IsDefined def = (text : List ℕ) × Defines text def

module _ (known : Known) (read : List ℕ → Read) (are : AreRead read) (script : Script) where
  defined_by : (def : IndexDef) → IsDefinedBy read def → IsDefined def
  defined_by def by = (by.0, record { create = by.1; read = subst (IsRead by.0) by.2 (are by.0); good = by.3; asked = by.4 })

  defined_next : (s : State) (e : Event) → IsConsistent script.vbuckets s → MayFollow read script s e → AllByRecursion IsDefined s.defs → AllByRecursion IsDefined (defs_step s.defs e)
  defined_next s (define c k i deferred def) holds may all =
      let fit = (first_fits read script s holds.live c (define c k i deferred def) may.1).2 in
      each_push IsDefined s.defs def all (defined_by def fit.2)
  defined_next s _ holds may all = all

  pub defined_from : (s : State) (events : List Event) → IsConsistent script.vbuckets s → IsLegalFrom read script s events → AllByRecursion IsDefined s.defs
      → AllByRecursion IsDefined (state_from script.vbuckets s events).defs
  defined_from s [] holds legal all = all
  defined_from s (e ∷ es) holds legal all =
      defined_from (step script.vbuckets s e) es (consistent_next known read script s holds e legal.0) legal.1 (defined_next s e holds legal.0 all)
