-- Histories that go on.
use Rattle.std.proofs.Common.{◌≡◌, ℕ, List, [], ◌∷◌, ◌++◌, refl}
use mathlib.Core.List.{IsPrefix}
use Rattle.vb_store.specs.declared.mutation.Mutation.{Mutation}
use Rattle.index_def.specs.declared.definition.IndexDef.{IndexDef}
use Rattle.scan_history.specs.declared.script.Script.{Script}
use Rattle.scan_history.specs.Events.{Event, mutate, define}
use Rattle.scan_history.specs.Fold.{State, log_step, defs_step, step, state_from}
use Rattle.scan_history.specs.Readings.{Read}
use Rattle.scan_history.specs.Legal.{IsLegalFrom}
use Rattle.scan_history.proofs.Lists.{fold-append, prefix_self, prefix_trans}

pub state_from-append : (n : ℕ) (s : State) (events more : List Event) → state_from n s (events ++ more) ≡ state_from n (state_from n s events) more
state_from-append n s events more = fold-append (step n) s events more

module _ (read : List ℕ → Read) (script : Script) where
  pub legal_whole : (s : State) (events more : List Event) → IsLegalFrom read script s events
      → IsLegalFrom read script (state_from script.vbuckets s events) more → IsLegalFrom read script s (events ++ more)
  legal_whole s [] more legal rest = rest
  legal_whole s (e ∷ es) more legal rest = (legal.0, legal_whole (step script.vbuckets s e) es more legal.1 rest)

  pub legal_parts : (s : State) (events more : List Event) → IsLegalFrom read script s (events ++ more)
      → IsLegalFrom read script s events × IsLegalFrom read script (state_from script.vbuckets s events) more
  legal_parts s [] more legal = (tt, legal)
  legal_parts s (e ∷ es) more legal =
      let rest = legal_parts (step script.vbuckets s e) es more legal.1 in
      ((legal.0, rest.0), rest.1)

-- mutations and definitions go on
log_goes_on : (log : List Mutation) (e : Event) → IsPrefix log (log_step log e)
log_goes_on log (mutate c k what) = (what ∷ [], refl)
log_goes_on log _ = prefix_self log

defs_go_on : (defs : List IndexDef) (e : Event) → IsPrefix defs (defs_step defs e)
defs_go_on defs (define c k i deferred def) = (def ∷ [], refl)
defs_go_on defs _ = prefix_self defs

pub log_grows : (n : ℕ) (s : State) (events : List Event) → IsPrefix s.log (state_from n s events).log
log_grows n s [] = prefix_self s.log
log_grows n s (e ∷ es) =
    prefix_trans s.log (log_step s.log e) (state_from n (step n s e) es).log (log_goes_on s.log e) (log_grows n (step n s e) es)

pub defs_grow : (n : ℕ) (s : State) (events : List Event) → IsPrefix s.defs (state_from n s events).defs
defs_grow n s [] = prefix_self s.defs
defs_grow n s (e ∷ es) =
    prefix_trans s.defs (defs_step s.defs e) (state_from n (step n s e) es).defs (defs_go_on s.defs e) (defs_grow n (step n s e) es)
