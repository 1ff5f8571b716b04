-- Tuples that grow by a value of each key are all the combinations.
use Rattle.std.proofs.Common.{◌≡◌, List, [], ◌∷◌, ◌++◌, map, refl, sym, ap, ◌∙◌, append_assoc}
use Rattle.std.proofs.lemmas.List.{append-nil}
use Rattle.std.specs.List.{fold, flat_map}
use Rattle.index_def.specs.Keys.{combinations}
use Rattle.key_eval.specs.Tuples.{extended}

flat_map-append : {X A : Type 0} (f : X → List A) (xs ys : List X) → flat_map f (xs ++ ys) ≡ flat_map f xs ++ flat_map f ys
flat_map-append f [] ys = refl
flat_map-append f (x ∷ xs) ys = ap (λ l. f x ++ l) (flat_map-append f xs ys) ∙ sym (append_assoc (f x) (flat_map f xs) (flat_map f ys))

map-appended : {X A : Type 0} (f : X → A) (xs ys : List X) → map f (xs ++ ys) ≡ map f xs ++ map f ys
map-appended f [] ys = refl
map-appended f (x ∷ xs) ys = ap (λ l. f x ∷ l) (map-appended f xs ys)

flat_map-flat_map : {X Y A : Type 0} (f : Y → List A) (g : X → List Y) (xs : List X) → flat_map f (flat_map g xs) ≡ flat_map (λ x. flat_map f (g x)) xs
flat_map-flat_map f g [] = refl
flat_map-flat_map f g (x ∷ xs) = flat_map-append f (g x) (flat_map g xs) ∙ ap (λ l. flat_map f (g x) ++ l) (flat_map-flat_map f g xs)

-- what comes behind a tuple that grew by a
behind_one : {A : Type 0} (tuple : List A) (a : A) (cs : List (List A)) → map (λ c. (tuple ++ a ∷ []) ++ c) cs ≡ map (λ c. tuple ++ c) (map (λ c. a ∷ c) cs)
behind_one tuple a [] = refl
behind_one tuple a (c ∷ cs) = cc (append_assoc tuple (a ∷ []) c, behind_one tuple a cs)

behind_each : {A : Type 0} (tuple : List A) (choices : List A) (cs : List (List A))
    → flat_map (λ u. map (λ c. u ++ c) cs) (map (λ a. tuple ++ a ∷ []) choices) ≡ map (λ c. tuple ++ c) (flat_map (λ a. map (λ c. a ∷ c) cs) choices)
behind_each tuple [] cs = refl
behind_each tuple (a ∷ choices) cs =
    ap (λ l. l ++ flat_map (λ u. map (λ c. u ++ c) cs) (map (λ a. tuple ++ a ∷ []) choices)) (behind_one tuple a cs)
    ∙ (ap (λ l. map (λ c. tuple ++ c) (map (λ c. a ∷ c) cs) ++ l) (behind_each tuple choices cs)
    ∙ sym (map-appended (λ c. tuple ++ c) (map (λ c. a ∷ c) cs) (flat_map (λ a. map (λ c. a ∷ c) cs) choices)))

done : {A : Type 0} (tuples : List (List A)) → tuples ≡ flat_map (λ tuple. map (λ c. tuple ++ c) ([] ∷ [])) tuples
done [] = refl
done (tuple ∷ tuples) = cc (append-nil tuple, done tuples)

grown : {A : Type 0} (lists : List (List A)) (tuples : List (List A)) → fold extended tuples lists ≡ flat_map (λ tuple. map (λ c. tuple ++ c) (combinations lists)) tuples
grown [] tuples = done tuples
grown (choices ∷ lists) tuples =
    grown lists (extended tuples choices)
    ∙ (flat_map-flat_map (λ u. map (λ c. u ++ c) (combinations lists)) (λ tuple. map (λ a. tuple ++ a ∷ []) choices) tuples
    ∙ (λ i. flat_map (λ tuple. behind_each tuple choices (combinations lists) i) tuples))

map-same : {A : Type 0} (cs : List (List A)) → map (λ c. [] ++ c) cs ++ [] ≡ cs
map-same [] = refl
map-same (c ∷ cs) = ap (λ l. c ∷ l) (map-same cs)

pub grown_from_nothing : {A : Type 0} (lists : List (List A)) → fold extended ([] ∷ []) lists ≡ combinations lists
grown_from_nothing lists = grown lists ([] ∷ []) ∙ map-same (combinations lists)
