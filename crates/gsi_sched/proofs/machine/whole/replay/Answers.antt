use Rattle.std.proofs.Common.{◌≡◌, fold, ap, sym, ◌∙◌, subst}
use Rattle.std.specs.Arc.{arc_value}
use Rattle.std.proofs.lemmas.Result.{IfOk-weaker}
use Rattle.scan_history.specs.declared.done.Done.{Done}
use Rattle.scan_history.specs.declared.script.Script.{Script}
use Rattle.scan_history.specs.Fold.{state_after}
use Rattle.scan_history.specs.Legal.{IsLegal, IsFinished}
use Rattle.scan_history.specs.Readings.{AreRead}
use Rattle.gsi_sched.specs.Machine.{first_machine}
use Rattle.gsi_sched.specs.Replay.{after_turn, after_clients, at_the_end, history_of}
use Rattle.gsi_sched.specs.inner.Following.{IsFollowing}
use Rattle.gsi_sched.proofs.Followed.{TextReading, follows_on}
use Rattle.gsi_sched.proofs.WholeSteps.{whole_of, whole_events, whole_legal}
use Rattle.gsi_sched.proofs.machine.whole.replay.Goals as goal

pub finish_clients-requires-clause-following : goal.finish_clients-requires-clause-following
finish_clients-requires-clause-following c =
    let first = c.in_ok-machine.machine in
    let read = c.known.ensures.some_read in
    let following : IsFollowing first = (first_machine (arc_value c.in_ok-try_clone.field-0).vbuckets, c.in_ok-machine.ensures.first) in
    follows_on (λ read m. fold (after_turn read first.hub.script) m c.as_slice.result.now) first c.take_turns.new.self read.0 read.1 c.in_ok-take_turns.ensures following

pub finish_indexes-requires : goal.finish_indexes-requires
finish_indexes-requires c =
    let first = c.in_ok-machine.machine in
    let turned = c.take_turns.new.self in
    let read = c.known.ensures.some_read in
    let following : IsFollowing first = (first_machine (arc_value c.in_ok-try_clone.field-0).vbuckets, c.in_ok-machine.ensures.first) in
    let after : IsFollowing turned = follows_on (λ read m. fold (after_turn read first.hub.script) m c.as_slice.result.now) first turned read.0 read.1 c.in_ok-take_turns.ensures following in
    let script : Script = c.deref-2.result.now in
    record { following = follows_on (λ read. after_clients read script script.clients) turned c.finish_clients.new.self read.0 read.1 c.in_ok-finish_clients.ensures after }

pub into_done-requires : goal.into_done-requires
into_done-requires c =
    let first = c.in_ok-machine.machine in
    let turned = c.take_turns.new.self in
    let acted = c.finish_clients.new.self in
    let read = c.known.ensures.some_read in
    let following : IsFollowing first = (first_machine (arc_value c.in_ok-try_clone.field-0).vbuckets, c.in_ok-machine.ensures.first) in
    let after : IsFollowing turned = follows_on (λ read m. fold (after_turn read first.hub.script) m c.as_slice.result.now) first turned read.0 read.1 c.in_ok-take_turns.ensures following in
    let script : Script = c.deref-2.result.now in
    let then : IsFollowing acted = follows_on (λ read. after_clients read script script.clients) turned acted read.0 read.1 c.in_ok-finish_clients.ensures after in
    record { following = follows_on (λ read. at_the_end read acted.hub.script) acted c.finish_indexes.new.self read.0 read.1 c.in_ok-finish_indexes.ensures then }

pub returns-clause-events : goal.returns-clause-events
returns-clause-events c =
    let script : Script = arc_value c.args.script in
    let clone : Script = arc_value c.in_ok-try_clone.field-0 in
    let ended = c.finish_indexes.new.self in
    let whole = whole_of script clone c.deref-2.result.now c.as_slice.result.now c.in_ok-machine.machine c.take_turns.new.self c.finish_clients.new.self ended
    c.in_ok-try_clone.ensures c.deref-2.ensures (c.as_slice.ensures ∙ ap (λ (s : Script). s.schedule) c.deref.ensures) c.in_ok-machine.ensures.script c.in_ok-machine.ensures.first
    c.in_ok-take_turns.ensures c.in_ok-finish_clients.ensures c.in_ok-finish_indexes.ensures in
    IfOk-weaker c.into_done.result (λ (done : Done). done.events ≡ ended.hub.events) (λ (done : Done). (read : TextReading) → AreRead read → done.events ≡ history_of read script)
    (λ done is read are. is ∙ whole_events script ended whole read are) c.into_done.ensures.events

pub returns-clause-legal : goal.returns-clause-legal
returns-clause-legal c =
    let script : Script = arc_value c.args.script in
    let clone : Script = arc_value c.in_ok-try_clone.field-0 in
    let ended = c.finish_indexes.new.self in
    let whole = whole_of script clone c.deref-2.result.now c.as_slice.result.now c.in_ok-machine.machine c.take_turns.new.self c.finish_clients.new.self ended
    c.in_ok-try_clone.ensures c.deref-2.ensures (c.as_slice.ensures ∙ ap (λ (s : Script). s.schedule) c.deref.ensures) c.in_ok-machine.ensures.script c.in_ok-machine.ensures.first
    c.in_ok-take_turns.ensures c.in_ok-finish_clients.ensures c.in_ok-finish_indexes.ensures in
    let read = c.known.ensures.some_read in
    IfOk-weaker c.into_done.result (λ (done : Done). done.events ≡ ended.hub.events) (λ (done : Done). IsLegal script done.events)
    (λ done is. subst (IsLegal script) (sym is) (whole_legal script ended whole read.0 read.1)) c.into_done.ensures.events

pub returns-clause-finished : goal.returns-clause-finished
returns-clause-finished c =
    let script : Script = arc_value c.args.script in
    let clone : Script = arc_value c.in_ok-try_clone.field-0 in
    let ended = c.finish_indexes.new.self in
    let whole = whole_of script clone c.deref-2.result.now c.as_slice.result.now c.in_ok-machine.machine c.take_turns.new.self c.finish_clients.new.self ended
    c.in_ok-try_clone.ensures c.deref-2.ensures (c.as_slice.ensures ∙ ap (λ (s : Script). s.schedule) c.deref.ensures) c.in_ok-machine.ensures.script c.in_ok-machine.ensures.first
    c.in_ok-take_turns.ensures c.in_ok-finish_clients.ensures c.in_ok-finish_indexes.ensures in
    let read = c.known.ensures.some_read in
    IfOk-weaker c.into_done.result (λ (done : Done). done.events ≡ ended.hub.events) (λ (done : Done). IsFinished script (state_after script.vbuckets done.events))
    (λ done is. subst (λ events. IsFinished script (state_after script.vbuckets events)) (sym (is ∙ whole_events script ended whole read.0 read.1))
    (c.the_replay_is_finished.ensures read.0 script read.1 c.requires.sound))
    c.into_done.ensures.events
