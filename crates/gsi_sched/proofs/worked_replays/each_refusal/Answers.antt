use Rattle.std.proofs.Common.{ℕ, false, List, Some, ap, ◌∙◌}
use Rattle.std.specs.Option.{option_map_or}
use Rattle.seq_vector.specs.Vectors.{fnv1a}
use Rattle.n1ql_ast.specs.declared.create.Create.{Create}
use Rattle.index_def.specs.Definitions.{definition_of}
use Rattle.index_def.specs.declared.reason.Reason.TheVariants.{ConstantKey}
use Rattle.scan_history.specs.declared.script.Script.{Script}
use Rattle.scan_history.specs.declared.why.Why.TheVariants.{Because}
use Rattle.scan_history.specs.Events.{Event, define, refuse}
use Rattle.scan_history.specs.First.{first_of_sound}
use Rattle.scan_history.specs.Fold.{state_after}
use Rattle.scan_history.specs.Readings.{Read}
use Rattle.gsi_sched.specs.Machine.{Machine, first_machine, now_in}
use Rattle.gsi_sched.specs.ClientActions.{happened, act}
use Rattle.gsi_sched.specs.Replay.{after_actions, at_the_end, history_of}
use Rattle.gsi_sched.specs.WorkedScripts.{creation_of}
use Rattle.gsi_sched.specs.WorkedStatements.{each_refusal_read, each_refusal_script}
use Rattle.gsi_sched.proofs.worked_replays.each_refusal.Goals as goal

pub returns : goal.returns
unfolding history_of state_after fnv1a
returns c keys others filter options good sound bad =
    let create : Create = creation_of keys filter options in
    let constant : Create = creation_of others filter options in
    let read : List ℕ → Read = each_refusal_read create constant in
    let script : Script = each_refusal_script in
    let rest : ℕ → Machine → List Event = λ left m. (at_the_end read script (after_actions read script 0 left m)).events in
    let first : Machine = act read script 0 (act read script 0 (first_machine 1)) in
    let second : Machine = happened first (refuse 0 2 3 (Because ConstantKey)) in
    let third : Machine = act read script 0 (happened second (define 0 3 0 false (definition_of create))) in
    ap (λ e. rest 15 (option_map_or (happened first) e first)) (ap (λ o. Some (option_map_or (λ reason. refuse 0 2 3 (Because reason)) o (first_of_sound (now_in 1 first) 0 2 constant))) bad)
    ∙ (ap (λ e. rest 14 (option_map_or (happened second) e second))
    (ap (λ o. Some (option_map_or (λ reason. refuse 0 3 3 (Because reason)) o (first_of_sound (now_in 1 second) 0 3 create))) good
    ∙ ap (λ b. Some (define 0 3 0 b (definition_of create))) sound)
    ∙ ap (λ e. rest 12 (option_map_or (happened third) e third)) (ap (λ o. Some (option_map_or (λ reason. refuse 0 4 3 (Because reason)) o (first_of_sound (now_in 1 third) 0 4 create))) good))
