-- A list of values, each turned into another thing.
use Rattle.std.proofs.Common.{◌≡◌, ℕ, ◌+◌, ◌<◌, ◌≤◌, List, [], ◌∷◌, ◌++◌, map, length, take, get_or, refl, sym, ap, ap₂, ◌∙◌, take_all}
use Rattle.std.proofs.lemmas.List.{map_more}
use Rattle.n1ql_value.specs.declared.datum.Datum.{Datum}
use Rattle.n1ql_value.specs.declared.value.Value.{Value}
use Rattle.n1ql_value.specs.Datum.{datum_of, value_of, value_of-datum_of}

module _ {B : Type 0} (f : Value → B) where
  -- one more behind those that are done
  pub turned-more : (values : List Value) (i : ℕ) (v : Value) (done new : List B) (b : B) → i < length values → v ≡ get_or values i v
      → done ≡ map f (take i values) → b ≡ f v → new ≡ done ++ b ∷ [] → new ≡ map f (take (i + 1) values)
  turned-more values i v done new b h at is turned push =
      push ∙ (ap₂ (λ (bs : List B) (c : B). bs ++ c ∷ []) is (turned ∙ ap f at) ∙ sym (map_more f values i v h))

  turned-data : (values : List Value) → map f values ≡ map (λ d. f (value_of d)) (map datum_of values)
  turned-data [] = refl
  turned-data (v ∷ values) = ap₂ (λ (b : B) (bs : List B). b ∷ bs) (ap f (sym (value_of-datum_of v))) (turned-data values)

  -- all of them
  pub turned-all : (values : List Value) (items : List Datum) (i : ℕ) (done : List B) → length values ≤ i
      → map datum_of values ≡ items → done ≡ map f (take i values) → done ≡ map (λ d. f (value_of d)) items
  turned-all values items i done h same is =
      is ∙ (ap (map f) (take_all i values h) ∙ (turned-data values ∙ ap (map (λ d. f (value_of d))) same))
