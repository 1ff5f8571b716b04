-- What holds of each live index holds of the one that has a number.
use Rattle.std.proofs.Common.{◌≡◌, ℕ, Bool, true, false, cond, List, [], ◌∷◌, Option, Some, None, subst, refl}
use Rattle.std.specs.List.{AllByRecursion, find}
use Rattle.index_def.specs.Forms.{IsFormed}
use Rattle.index_def.specs.LiveIndexes.{Live, is_numbered, numbered}

found_cases : (is : Bool) (x index : Live) (rest : Option Live) → IsFormed x.def → (rest ≡ Some index → IsFormed index.def)
    → cond is (Some x) rest ≡ Some index → IsFormed index.def
found_cases true x index rest formed later e = let same : x ≡ index = cc in subst (λ (y : Live). IsFormed y.def) same formed
found_cases false x index rest formed later e = later e

pub formed_found : (i : ℕ) (live : List Live) (index : Live) → AllByRecursion (λ x. IsFormed x.def) live → numbered i live ≡ Some index → IsFormed index.def
formed_found i [] index formed e = absurd cc
formed_found i (x ∷ live) index formed e =
    found_cases (is_numbered i x) x index (numbered i live) formed.0 (formed_found i live index formed.1) e
