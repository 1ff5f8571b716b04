use Rattle.std.proofs.Common.{ℕ, List, Some, ap, ◌∙◌}
use Rattle.std.specs.Option.{option_map_or}
use Rattle.seq_vector.specs.Vectors.{fnv1a}
use Rattle.n1ql_ast.specs.declared.create.Create.{Create}
use Rattle.index_def.specs.Definitions.{definition_of}
use Rattle.scan_history.specs.declared.script.Script.{Script}
use Rattle.scan_history.specs.declared.why.Why.TheVariants.{Because}
use Rattle.scan_history.specs.Events.{define, refuse}
use Rattle.scan_history.specs.First.{first_of_sound}
use Rattle.scan_history.specs.Fold.{state_after}
use Rattle.scan_history.specs.Readings.{Read}
use Rattle.gsi_sched.specs.Machine.{Machine, first_machine, now_in}
use Rattle.gsi_sched.specs.ClientActions.{happened, act}
use Rattle.gsi_sched.specs.Replay.{after_actions, at_the_end, history_of}
use Rattle.gsi_sched.specs.WorkedScripts.{creation_of}
use Rattle.gsi_sched.specs.WorkedStatements.{a_build_is_asked_for_read, a_build_is_asked_for_script}
use Rattle.gsi_sched.proofs.worked_replays.a_build_is_asked_for.Goals as goal

pub returns : goal.returns
unfolding history_of state_after fnv1a
returns c doc keys filter options good deferred =
    let create : Create = creation_of keys filter options in
    let read : List ℕ → Read = a_build_is_asked_for_read create in
    let script : Script = a_build_is_asked_for_script doc in
    let m : Machine = act read script 0 (first_machine 1) in
    ap (λ e. (at_the_end read script (after_actions read script 0 16 (option_map_or (happened m) e m))).events)
    (ap (λ o. Some (option_map_or (λ reason. refuse 0 1 3 (Because reason)) o (first_of_sound (now_in 1 m) 0 1 create))) good
    ∙ ap (λ b. Some (define 0 1 0 b (definition_of create))) deferred)
