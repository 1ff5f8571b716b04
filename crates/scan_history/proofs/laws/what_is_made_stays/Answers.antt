use Rattle.std.proofs.Common.{sym, subst}
use mathlib.Core.List.{IsPrefix}
use Rattle.scan_history.specs.Fold.{State, first_state, state_from, state_after}
use Rattle.scan_history.proofs.Lists.{slice_get_prefix}
use Rattle.scan_history.proofs.Steps.{state_from-append, log_grows, defs_grow}
use Rattle.scan_history.proofs.laws.what_is_made_stays.Goals as goal

pub returns-clause-mutations : goal.returns-clause-mutations
unfolding state_after
returns-clause-mutations c n events more =
    let s : State = state_from n (first_state n) events in
    subst (λ (later : State). IsPrefix s.log later.log) (sym (state_from-append n (first_state n) events more)) (log_grows n s more)

pub returns-clause-definitions : goal.returns-clause-definitions
unfolding state_after
returns-clause-definitions c n events more =
    let s : State = state_from n (first_state n) events in
    subst (λ (later : State). IsPrefix s.defs later.defs) (sym (state_from-append n (first_state n) events more)) (defs_grow n s more)

pub returns-clause-definition : goal.returns-clause-definition
returns-clause-definition c n events more i def at =
    slice_get_prefix (state_after n events).defs (state_after n _).defs i def (returns-clause-definitions c n events more) at
