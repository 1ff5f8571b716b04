use Rattle.std.proofs.Common.{refl, ap, ◌∙◌}
use Rattle.std.specs.Arc.{arc_value}
use Rattle.dcp_stream.specs.Streams.{unread}
use Rattle.stream_merge.specs.Joined.{Joined}
use Rattle.scan_history.specs.declared.script.Script.{Script}
use Rattle.gsi_sched.specs.declared.machine.RunningMachine.{RunningMachine}
use Rattle.gsi_sched.proofs.FirstFollowed.{first_follows}
use Rattle.gsi_sched.proofs.machine.RunningMachine.new.Goals as goal

pub returns-clause-first : goal.returns-clause-first
returns-clause-first c =
    let script : Script = arc_value c.args.script in
    let r : RunningMachine = record {
      alloc = c.args.alloc;
      script = c.args.script;
      hub = c.in_ok-hub.hub;
      streams = c.in_ok-streams.streams;
      slots = c.in_ok-slots.slots;
      answers = c.new-3.result;
    } in
    first_follows script r c.requires (c.each_step_keeps_the_machine_running.ensures.first script) (c.in_ok-hub.ensures.script ∙ c.in_ok-try_clone.ensures) refl c.in_ok-hub.ensures.events
    (ap (λ (j : Joined). j.maint.stream) c.in_ok-streams.ensures ∙ ap (λ (s : Script). unread s.vbuckets) c.deref.ensures) c.in_ok-slots.ensures c.new-3.ensures
