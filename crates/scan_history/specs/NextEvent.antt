-- The one event of a client that may come next.
use Rattle.std.specs.Prelude.{ℕ, List, [], ◌∷◌, Option, Some, if◌then◌else◌}
use Rattle.std.specs.Option.{option_map_or}
use Rattle.seq_vector.specs.Vectors.{covers}
use Rattle.vb_store.specs.Mutations.{high_of}
use Rattle.index_def.specs.LiveIndexes.{Live, numbered}
use Rattle.scan_history.specs.declared.script.Script.{Script}
use Rattle.scan_history.specs.declared.why.Why.TheVariants.{Plain}
use Rattle.scan_history.specs.Events.{Event, online, answer, pick, fetch, not_yet, refuse}
use Rattle.scan_history.specs.Fold.{Opened, nothing, work, started, picked, State}
use Rattle.scan_history.specs.Readings.{Read}
use Rattle.scan_history.specs.First.{first_action, command_at}
use Rattle.scan_history.specs.Legal.{live_among, is_covered_by_index}
use Rattle.scan_history.specs.Refusals as code

-- building ends with the live ones of its indexes online, or is refused where none is live
abbrev pub end_of_work : ℕ → ℕ → List ℕ → Event
end_of_work c k [] = refuse c k code.dropped Plain
end_of_work c k (i ∷ is) = online c k (i ∷ is)

-- a request that is covered is answered, from its index alone or from what it will fetch
abbrev pub answered : Script → ℕ → ℕ → List ℕ → Event
answered script c k at = if is_covered_by_index (command_at script c k) then answer c k at else pick c k at

-- a request by the newest publication of its index
abbrev pub decided : Script → ℕ → ℕ → List ℕ → List ℕ → Event
decided script c k demand board = if covers board demand then answered script c k board else not_yet c k board

abbrev pub next_of_open : (List ℕ → Read) → Script → State → ℕ → Opened → Option Event
next_of_open read script s c nothing = first_action read script s c
next_of_open read script s c (work numbers high) = Some (end_of_work c (s.client c).next (live_among numbers s))
next_of_open read script s c (started i demand high) =
    Some (option_map_or (λ (index : Live). decided script c (s.client c).next demand (s.published i)) (numbered i s.live) (refuse c (s.client c).next code.dropped Plain))
next_of_open read script s c (picked i v) = Some (fetch c (s.client c).next v (high_of script.vbuckets s.log))

-- the client's next event, if it has one; whether it may come yet is for the rules of legal histories to say
abbrev pub next_event : (List ℕ → Read) → Script → State → ℕ → Option Event
next_event read script s c = next_of_open read script s c (s.client c).opened
