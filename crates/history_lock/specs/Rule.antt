-- The rule of the lock's table, and what each kind of step tells.
-- Word 0 is 1 while a turn is held, and else 0. The state lies in slot 0 while no turn is held.
use Rattle.std.specs.Prelude.{◌≡◌, ◌≢◌, ℕ, ◌+◌, ◌<◌, ◌≤◌, true, false, List, [], ◌∷◌, ◌++◌, length, slice_index, Option, Some, None}
use mathlib.Core.Option.{some, none}
use mathlib.Core.Option as maybe
use mathlib.Core.List.{IsPrefix}
use lib.ListN.{get_elem?}
use Rattle.atomic_table.specs.Table.{State, Me, Step}
use Rattle.history_lock.specs.declared.view.View.{View}
use Rattle.history_lock.specs.Events.{longer, NoneNames}

-- a seat's view, and the slots that it has taken
abbrev Sat : Type 0 → Type 0 → Type 0
Sat S E = Me (Option S) (View E)

module _ {E : Type 0} where
  -- a view with this party and list, which holds no turn and has learnt nothing
  abbrev pub fresh : Option ℕ → List E → View E
  fresh party seen = record { party = party; made = 0; seen = seen; turn = false; own = []; told = [] }

  -- the first pass at the start
  abbrev pub first_view : View E
  first_view = fresh (Some 0) []

  -- what is left of a note that was learnt
  abbrev pub spent_view : View E
  spent_view = fresh None []

  -- what a note knows that is made from a pass
  abbrev pub noted : View E → View E
  noted v = fresh None v.seen

  -- what a pass knows that is made from the first one
  abbrev pub next_view : View E → View E
  next_view v = fresh (Some (v.made + 1)) v.seen

  -- the first pass, which counts one more
  abbrev pub counted : View E → View E
  counted v = record v { made = v.made + 1 }

  -- the pass has learnt a note: it knows the longer list, and keeps both as they were
  abbrev pub learnt : View E → View E → View E
  learnt v note = record v { seen = longer v.seen note.seen; own = v.seen; told = note.seen }

  -- the pass holds the turn, and has seen the list
  abbrev pub in_turn : View E → List E → View E
  in_turn v whole = record v { seen = whole; turn = true }

  -- the pass holds no turn, and has seen the list
  abbrev pub out_of_turn : View E → List E → View E
  out_of_turn v whole = record v { seen = whole; turn = false }

  -- what is known of a view, where `whole` is the lock's list and `made` the number of the last pass
  pub record Knows (party : E → Option ℕ) (whole : List E) (made : ℕ) (v : View E) : Type 0 where
    pub unseen : List E
    pub begins : v.seen ++ unseen ≡ whole
    pub of_others : (p : ℕ) → v.party ≡ Some p → NoneNames party p unseen
    pub own_begins : IsPrefix v.own v.seen
    pub told_begins : IsPrefix v.told v.seen
    pub numbered : (p : ℕ) → v.party ≡ Some p → p ≤ made
    pub first_counts : v.party ≡ Some 0 → v.made ≡ made

  module _ {S : Type 0} (events : S → List E) where
    -- either no view holds the turn and the state is at home with the list, or one holds it and has seen the list
    pub data Turn (word : ℕ) (homes : List (maybe.Option (Option S))) (views : List (View E)) (whole : List E) : Type 0 where
      free : word ≡ 0 → (x : S) → get_elem? homes 0 ≡ some (some (Some x)) → events x ≡ whole
          → ((j : ℕ) (v : View E) → get_elem? views j ≡ some v → v.turn ≡ false) → Turn word homes views whole
      held : word ≡ 1 → get_elem? homes 0 ≡ some none → (h : ℕ) (v : View E) → get_elem? views h ≡ some v → v.turn ≡ true → v.seen ≡ whole
          → ((j : ℕ) (w : View E) → j ≢ h → get_elem? views j ≡ some w → w.turn ≡ false) → Turn word homes views whole

  -- the rule
  pub record IsKept {S : Type 0} (events : S → List E) (party : E → Option ℕ) (s : State (Option S) (View E)) : Type 0 where
    pub wide : length s.words ≡ 3
    pub deep : length s.homes ≡ 1
    pub whole : List E
    pub made : ℕ
    pub turn : Turn events (slice_index s.words 0) s.homes s.views whole
    pub each_view : (j : ℕ) (v : View E) → get_elem? s.views j ≡ some v → Knows party whole made v
    pub apart : (i j p : ℕ) (v w : View E) → get_elem? s.views i ≡ some v → get_elem? s.views j ≡ some w → v.party ≡ Some p → w.party ≡ Some p → i ≡ j
    pub unmade : (p : ℕ) → made < p → NoneNames party p whole

  -- the later list begins with what the view has seen, and what it hadn't seen doesn't name its party
  abbrev pub Meets : (E → Option ℕ) → View E → List E → Type 0
  Meets party v later = (more : List E) × (v.seen ++ more ≡ later) × ((p : ℕ) → v.party ≡ Some p → NoneNames party p more)

  module _ {S : Type 0} where
    -- where the word was 0, the seat holds the turn and the state, and has seen its list; else nothing changed
    abbrev pub takes_turn : (S → List E) → (E → Option ℕ) → Step (Option S) → Sat S E → ℕ → Sat S E → Type 0
    takes_turn events party st m found m' =
        (found ≡ 0 → (x : S) × (m' ≡ (in_turn m.0 (events x), (0, Some x) ∷ m.1)) × Meets party m.0 (events x))
        × (found ≢ 0 → m' ≡ m)

    -- nothing changed
    abbrev pub marks : Step (Option S) → Sat S E → ℕ → Sat S E → Type 0
    marks st m found m' = m' ≡ m

    -- the state is back, and the seat has seen its list
    abbrev pub gives_turn : (S → List E) → Step (Option S) → Sat S E → ℕ → Sat S E → Type 0
    gives_turn events st m found m' = (x : S) → m.1 ≡ (0, Some x) ∷ [] → m' ≡ (out_of_turn m.0 (events x), [])

    -- nothing changed, and what was learnt last begins the seat's list
    abbrev pub looks : Step (Option S) → Sat S E → ℕ → Sat S E → Type 0
    looks st m found m' = (m' ≡ m) × IsPrefix m.0.own m.0.seen × IsPrefix m.0.told m.0.seen
