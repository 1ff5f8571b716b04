-- Tuples that grow by a value at their end.
use Rattle.std.specs.Prelude.{List, [], ◌∷◌, ◌++◌, map}
use Rattle.std.specs.List.{flat_map}

-- each tuple with each of the choices at its end
abbrev pub extended : {A : Type 0} → List (List A) → List A → List (List A)
extended tuples choices = flat_map (λ tuple. map (λ a. tuple ++ a ∷ []) choices) tuples
