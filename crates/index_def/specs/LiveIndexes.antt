-- The indexes that are live: a list in order of creation, each with its number, its definition and its state.
use Rattle.std.specs.Prelude.{ℕ, ◌+◌, ◌≤◌, Bool, true, false, not, ◌==◌, List, [], ◌∷◌, if◌then◌else◌, Option, is_some}
use Rattle.std.specs.List.{filter, find}
use Rattle.std.specs.Option.{option_map_or}
use Rattle.std.specs.Str.{bytes_eq}
use Rattle.n1ql_value.specs.declared.state.State.{State}
use Rattle.n1ql_value.specs.declared.state.State.TheVariants.{Deferred, Building}
use Rattle.index_def.specs.declared.definition.IndexDef.{IndexDef}

-- an index that was created and not dropped
pub record Live : Type 0 where
  pub number : ℕ
  pub def : IndexDef
  pub state : State

abbrev pub is_named : List ℕ → Live → Bool
is_named name index = bytes_eq name index.def.name

abbrev pub is_numbered : ℕ → Live → Bool
is_numbered number index = index.number == number

-- the live index of this name, and that of this number
abbrev pub named : List ℕ → List Live → Option Live
named name live = find (is_named name) live

abbrev pub numbered : ℕ → List Live → Option Live
numbered number live = find (is_numbered number) live

-- without the index of this number: those behind it move up
abbrev pub without : ℕ → List Live → List Live
without number [] = []
without number (index ∷ live) = (if is_numbered number index then live else index ∷ without number live)

abbrev pub with_state : State → Live → Live
with_state state index = record { number = index.number; def = index.def; state = state }

-- with the index of this number in another state
abbrev pub in_state : ℕ → State → List Live → List Live
in_state number state [] = []
in_state number state (index ∷ live) =
    (if is_numbered number index then with_state state index ∷ live else index ∷ in_state number state live)

-- from the least number on, numbers grow in order of creation, and are below the count of creations
abbrev pub AreNumbered : ℕ → ℕ → List Live → Type 0
AreNumbered least made [] = least ≤ made
AreNumbered least made (index ∷ live) = (least ≤ index.number) × AreNumbered (index.number + 1) made live

-- the state of a new index: it is built at once, or waits for a BUILD INDEX
abbrev pub state_at_creation : Bool → State
state_at_creation deferred = if deferred then Deferred else Building

abbrev pub is_deferred : State → Bool
is_deferred Deferred = true
is_deferred _ = false

abbrev pub is_live : List Live → List ℕ → Bool
is_live live name = is_some (named name live)

abbrev pub is_live_deferred : List Live → List ℕ → Bool
is_live_deferred live name = option_map_or (λ (index : Live). is_deferred index.state) (named name live) false

-- each number once, in the order in which they are first given
abbrev pub first_of_each : List ℕ → List ℕ
first_of_each [] = []
first_of_each (n ∷ ns) = n ∷ filter (λ m. not (m == n)) (first_of_each ns)

-- the numbers of the live indexes of these names
abbrev pub numbers_of : List (List ℕ) → List Live → List ℕ
numbers_of [] live = []
numbers_of (name ∷ names) live = option_map_or (λ (index : Live). index.number ∷ numbers_of names live) (named name live) (numbers_of names live)

-- with the indexes of these numbers in another state
abbrev pub all_in_state : List ℕ → State → List Live → List Live
all_in_state [] state live = live
all_in_state (n ∷ ns) state live = all_in_state ns state (in_state n state live)
