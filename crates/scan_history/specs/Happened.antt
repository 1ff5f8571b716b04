-- The event that a value of the program stands for: what it shares is seen by its value.
use Rattle.std.specs.Arc.{arc_value}
use Rattle.scan_history.specs.declared.event.Event.{Event as Held}
use Rattle.scan_history.specs.declared.event.Event.TheVariants as held
use Rattle.scan_history.specs.Events.{Event, mutate, define, build, online, publish, removed, start, answer, pick, fetch, not_yet, refuse}

abbrev pub event_of : Held → Event
event_of (held.Mutate c k what) = mutate c k (arc_value what)
event_of (held.Define c k i deferred def) = define c k i deferred (arc_value def)
event_of (held.Build c k indexes) = build c k indexes
event_of (held.Online c k indexes) = online c k indexes
event_of (held.Publish i at) = publish i (arc_value at)
event_of (held.Removed c k i) = removed c k i
event_of (held.Start c k i demand) = start c k i demand
event_of (held.Answer c k at) = answer c k (arc_value at)
event_of (held.Pick c k at) = pick c k (arc_value at)
event_of (held.Fetch c k at fetched) = fetch c k (arc_value at) fetched
event_of (held.NotYet c k have) = not_yet c k (arc_value have)
event_of (held.Refuse c k code why) = refuse c k code why
