-- Lists of events: who they name, and how they grow.
use Rattle.std.specs.Prelude.{◌≡◌, ◌≢◌, ◌⊎◌, ℕ, List, ◌++◌, length, cond, Option, Some, None}
use Rattle.std.specs.List.{All}
use Rattle.std.specs.Prelude.{nat_lt}

-- the longer of two lists, and the first where they are as long
abbrev pub longer : {E : Type 0} → List E → List E → List E
longer xs ys = cond (nat_lt (length xs) (length ys)) ys xs

module _ {E : Type 0} (party : E → Option ℕ) where
  -- no event of these names party p
  abbrev pub NoneNames : ℕ → List E → Type 0
  NoneNames p es = All (λ e. party e ≢ Some p) es

  -- each of these events names party p, or none
  abbrev pub OnlyNames : ℕ → List E → Type 0
  OnlyNames p es = All (λ e. (party e ≡ Some p) ⊎ (party e ≡ None)) es

  -- the later list is the earlier one and more events, none of which names party p
  abbrev pub GrewByOthers : ℕ → List E → List E → Type 0
  GrewByOthers p earlier later = (more : List E) × (earlier ++ more ≡ later) × NoneNames p more

  -- the later list is the earlier one and more events, which name party p or none
  abbrev pub GrewBy : ℕ → List E → List E → Type 0
  GrewBy p earlier later = (more : List E) × (earlier ++ more ≡ later) × OnlyNames p more
