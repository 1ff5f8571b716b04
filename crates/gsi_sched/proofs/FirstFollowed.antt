-- What the code keeps before the first step.
use Rattle.std.proofs.Common.{◌≡◌, ℕ, [], Option, None, length, replicate, refl, sym, ap, ◌∙◌, subst}
use Rattle.std.proofs.lemmas.List.{length-replicate}
use Rattle.std.specs.Arc.{arc_value}
use Rattle.n1ql_value.specs.Limits.{max_indexes}
use Rattle.dcp_stream.specs.Streams.{unread}
use Rattle.scan_history.specs.declared.script.Script.{Script}
use Rattle.scan_history.specs.Answers.{answers_of}
use Rattle.scan_history.specs.Fold.{state_after}
use Rattle.scan_history.specs.Sound.{IsSound}
use Rattle.gsi_sched.specs.Machine.{first_machine}
use Rattle.gsi_sched.specs.Running.{IsRunning}
use Rattle.gsi_sched.specs.Slots.{Slot}
use Rattle.gsi_sched.specs.declared.machine.RunningMachine.{RunningMachine}
use Rattle.gsi_sched.specs.inner.Following.{Keeps, Follows}

nothing_answered : (script : Script) → [] ≡ answers_of script []
unfolding answers_of state_after
nothing_answered script = refl

module _ (script : Script) (r : RunningMachine) where
  first_keeps : (n : ℕ) → r.streams.maint.stream ≡ unread script.vbuckets → r.slots.items ≡ replicate max_indexes None → Keeps n (state_after n []) (first_machine script.vbuckets) r
  unfolding state_after
  first_keeps n unmoved none = record {
    maint = unmoved;
    initial = λ i index found building. absurd cc;
    slots = λ i index found built. absurd cc;
    places = ap length none ∙ length-replicate {A = Option Slot} max_indexes None;
  }

  pub first_follows : IsSound script → IsRunning script (first_machine script.vbuckets) → r.hub.script ≡ script → arc_value r.script ≡ script → r.hub.events ≡ []
      → r.streams.maint.stream ≡ unread script.vbuckets → r.slots.items ≡ replicate max_indexes None → r.answers ≡ [] → Follows (first_machine script.vbuckets) r
  first_follows sound runs same shared events unmoved none unanswered = record {
    sound = subst IsSound (sym same) sound;
    script = shared ∙ sym same;
    runs = subst (λ s. IsRunning s (first_machine script.vbuckets)) (sym same) runs;
    events = events;
    keeps = first_keeps r.hub.script.vbuckets unmoved none;
    answers = unanswered ∙ nothing_answered r.hub.script ∙ ap (answers_of r.hub.script) (sym events);
  }
