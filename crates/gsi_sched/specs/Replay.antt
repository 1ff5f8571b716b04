-- The replay of a script: the history that its schedule and its commands give, one step after another.
use Rattle.std.specs.Prelude.{ℕ, suc, zero, ◌*◌, List, Some, None, length}
use Rattle.std.specs.List.{fold}
use Rattle.scan_history.specs.declared.script.Script.{Script}
use Rattle.scan_history.specs.declared.turn.Turn.{Turn}
use Rattle.scan_history.specs.declared.turn.Turn.TheVariants.{Client, Project, Deliver, Lose, Publish, Rewind}
use Rattle.scan_history.specs.Events.{Event}
use Rattle.scan_history.specs.First.{commands_of, is_online}
use Rattle.scan_history.specs.Readings.{Read}
use Rattle.gsi_sched.specs.Machine.{Machine, first_machine, now_in}
use Rattle.gsi_sched.specs.ScheduleLines.{is_building, has_worker, on_index, project, project_to, deliver, lose, publish_now, rewind, rewind_to}
use Rattle.gsi_sched.specs.ClientActions.{caught_up, live_numbers, act}

module _ (read : List ℕ → Read) (script : Script) where
  -- a line of the schedule
  abbrev pub after_turn : Machine → Turn → Machine
  after_turn m (Client c) = act read script c m
  after_turn m (Project vb None) = project script.vbuckets script.batch vb m
  after_turn m (Project vb (Some index)) = on_index script.vbuckets index is_building (project_to script.vbuckets script.batch vb) m
  after_turn m (Deliver index place) = on_index script.vbuckets index has_worker (deliver script.vbuckets place) m
  after_turn m (Lose index place) = on_index script.vbuckets index has_worker (lose script.vbuckets place) m
  after_turn m (Publish index) = on_index script.vbuckets index has_worker (publish_now script.vbuckets) m
  after_turn m (Rewind to None) = rewind to m
  after_turn m (Rewind to (Some index)) = on_index script.vbuckets index is_building (rewind_to to) m

  -- so many actions of a client
  abbrev pub after_actions : (c actions : ℕ) → Machine → Machine
  after_actions c zero m = m
  after_actions c (suc actions) m = after_actions c actions (act read script c m)

  -- clients act one after another, each until it has nothing left; no command takes more than three actions
  abbrev pub after_clients : (clients : ℕ) → Machine → Machine
  after_clients zero m = m
  after_clients (suc c) m = after_actions c (3 * length (commands_of script c)) (after_clients c m)

  -- in the end each online index is caught up
  abbrev pub at_the_end : Machine → Machine
  at_the_end m = caught_up script.vbuckets (live_numbers (λ index. is_online index.state) (now_in script.vbuckets m)) m

  abbrev pub after_schedule : Machine
  after_schedule = fold after_turn (first_machine script.vbuckets) script.schedule

  -- the lines of the schedule are followed, then the clients act to their ends
  unfoldable pub history_of : List Event
  history_of = (at_the_end (after_clients script.clients after_schedule)).events
