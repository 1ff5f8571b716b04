-- What an action of a client does.
use Rattle.std.specs.Prelude.{ℕ, ◌==◌, ◌&&◌, Bool, not, List, [], map}
use Rattle.std.specs.List.{filter, fold, list_any}
use Rattle.std.specs.Option.{option_map_or}
use Rattle.seq_vector.specs.Vectors.{covers}
use Rattle.index_def.specs.LiveIndexes.{Live}
use Rattle.scan_history.specs.declared.script.Script.{Script}
use Rattle.scan_history.specs.Events.{Event, online}
use Rattle.scan_history.specs.Fold.{Opened, work, started, State}
use Rattle.scan_history.specs.First.{command_at}
use Rattle.scan_history.specs.Legal.{waits}
use Rattle.scan_history.specs.NextEvent.{next_event}
use Rattle.scan_history.specs.Readings.{Read}
use Rattle.gsi_sched.specs.Machine.{Machine, now_in, high_in, with_event, with_worker}
use Rattle.gsi_sched.specs.ScheduleLines.{publish_at, rewind}

-- an index is caught up: its worker comes to the newest numbers, and they are published
abbrev pub catch_up : ℕ → Machine → ℕ → Machine
catch_up n m i = publish_at n (high_in n m) i (with_worker i (record (m.worker i) { at = high_in n m }) m)

abbrev pub caught_up : ℕ → List ℕ → Machine → Machine
caught_up n indexes m = fold (catch_up n) m indexes

-- the numbers of the live indexes for which this holds
abbrev pub live_numbers : (Live → Bool) → State → List ℕ
live_numbers so s = map (λ (index : Live). index.number) (filter so s.live)

-- The indexes that an open command has caught up before it closes: those that it builds, where their newest publications don't cover the
-- numbers at which it began; and the one that it asks, where the newest publication doesn't cover its demand and it waits.
abbrev pub awaited : (waiting : Bool) → State → Opened → List ℕ
awaited waiting s (work numbers since) =
    live_numbers (λ index. list_any (λ i. index.number == i) numbers && not (covers (s.published index.number) since)) s
awaited waiting s (started i demand since) =
    live_numbers (λ index. index.number == i && (not (covers (s.published i) demand) && waiting)) s
awaited waiting s _ = []

-- the indexes that go online by an event
abbrev pub going_online : Event → List ℕ
going_online (online c k indexes) = indexes
going_online _ = []

-- an index that goes online shares the maintenance stream, which goes back to where its worker is
abbrev pub merge : Machine → ℕ → Machine
merge m i = rewind (m.worker i).at m

-- an event happens
abbrev pub happened : Machine → Event → Machine
happened m e = fold merge (with_event e m) (going_online e)

module _ (read : List ℕ → Read) (script : Script) where
  -- those of the command that a client has open
  abbrev pub awaited_by : ℕ → Machine → List ℕ
  awaited_by c m =
      let s = now_in script.vbuckets m in
      awaited (waits (command_at script c (s.client c).next)) s (s.client c).opened

  -- the client's next event happens, if it has one
  abbrev pub go_on : ℕ → Machine → Machine
  go_on c m = option_map_or (happened m) (next_event read script (now_in script.vbuckets m) c) m

  -- what the client's command waits for is caught up, and then its next event happens
  abbrev pub act : ℕ → Machine → Machine
  act c m = go_on c (caught_up script.vbuckets (awaited_by c m) m)
