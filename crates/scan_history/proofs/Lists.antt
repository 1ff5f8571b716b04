-- Lists that go on, what holds of each element, and what is found.
use Rattle.std.proofs.Common.{◌≡◌, ℕ, zero, suc, Bool, true, false, cond, List, [], ◌∷◌, ◌++◌, length, fold, filter, find, slice_get, Option, Some, None, MatchOption, option_map, refl, sym, ap, ◌∙◌, subst, append_assoc, append-nil}
use Rattle.std.specs.List.{AllByRecursion}
use Rattle.std.specs.Option.{option_map_or}
use mathlib.Core.List.{IsPrefix}

pub fold-append : {A B : Type 0} (f : B → A → B) (b : B) (xs ys : List A) → fold f b (xs ++ ys) ≡ fold f (fold f b xs) ys
fold-append f b [] ys = refl
fold-append f b (x ∷ xs) ys = fold-append f (f b x) xs ys

pub prefix_self : {A : Type 0} (xs : List A) → IsPrefix xs xs
prefix_self xs = ([], append-nil xs)

pub prefix_trans : {A : Type 0} (xs ys zs : List A) → IsPrefix xs ys → IsPrefix ys zs → IsPrefix xs zs
prefix_trans xs ys zs p q = (p.0 ++ q.0, sym (append_assoc xs p.0 q.0) ∙ (ap (λ w. w ++ q.0) p.1 ∙ q.1))

-- what stands at a place stays there when a list goes on
pub slice_get-append : {A : Type 0} (xs ys : List A) (i : ℕ) (x : A) → slice_get xs i ≡ Some x → slice_get (xs ++ ys) i ≡ Some x
slice_get-append [] ys i x at = absurd cc
slice_get-append (y ∷ xs) ys zero x at = at
slice_get-append (y ∷ xs) ys (suc i) x at = slice_get-append xs ys i x at

pub slice_get_prefix : {A : Type 0} (xs ys : List A) (i : ℕ) (x : A) → IsPrefix xs ys → slice_get xs i ≡ Some x → slice_get ys i ≡ Some x
slice_get_prefix xs ys i x p at = subst (λ zs. slice_get zs i ≡ Some x) p.1 (slice_get-append xs p.0 i x at)

-- the last element
pub slice_get_last : {A : Type 0} (xs : List A) (x : A) → slice_get (xs ++ x ∷ []) (length xs) ≡ Some x
slice_get_last [] x = refl
slice_get_last (y ∷ xs) x = slice_get_last xs x

pub length_push : {A : Type 0} (xs : List A) (x : A) → length (xs ++ x ∷ []) ≡ suc (length xs)
length_push [] x = refl
length_push (y ∷ xs) x = ap suc (length_push xs x)

module _ {A : Type 0} (P : A → Type 0) where
  pub each_push : (xs : List A) (x : A) → AllByRecursion P xs → P x → AllByRecursion P (xs ++ x ∷ [])
  each_push [] x all last = (last, tt)
  each_push (y ∷ xs) x all last = (all.0, each_push xs x all.1 last)

  pub each_filter : (test : A → Bool) (xs : List A) → AllByRecursion P xs → AllByRecursion P (filter test xs)
  each_filter test [] all = all
  each_filter test (x ∷ xs) all = by (test x) (each_filter test xs all.1)
    where
      by : (b : Bool) → AllByRecursion P (filter test xs) → AllByRecursion P (cond b (x ∷ filter test xs) (filter test xs))
      by true rest = (all.0, rest)
      by false rest = rest

-- where each is so, and what is so is so in another way
pub each_weaker : {A : Type 0} (P Q : A → Type 0) → ((x : A) → P x → Q x) → (xs : List A) → AllByRecursion P xs → AllByRecursion Q xs
each_weaker P Q then [] all = all
each_weaker P Q then (x ∷ xs) all = (then x all.0, each_weaker P Q then xs all.1)

-- what is found passes the test, and what holds of each holds of it
pub found_passes : {A : Type 0} (test : A → Bool) (xs : List A) (x : A) → find test xs ≡ Some x → test x ≡ true
found_passes test [] x found = absurd cc
found_passes test (y ∷ xs) x found = by (test y) refl (found_passes test xs x)
  where
    by : (b : Bool) → test y ≡ b → (find test xs ≡ Some x → test x ≡ true) → test x ≡ true
    by true is rest =
        let same : Some y ≡ Some x = sym (ap (λ c. cond c (Some y) (find test xs)) is) ∙ found in
        let it : y ≡ x = cc in
        subst (λ z. test z ≡ true) it is
    by false is rest = rest (sym (ap (λ c. cond c (Some y) (find test xs)) is) ∙ found)

-- there is something, of which this holds
pub if_some : {A : Type 0} (o : Option A) (P : A → Type 0) → MatchOption o ⊥ P → (x : A) × (o ≡ Some x) × P x
if_some None P h = absurd h
if_some (Some x) P h = (x, refl, h)

-- what is made of something there, or is given where nothing is
pub by_option : {A B : Type 0} (P : B → Type 0) (f : A → B) (d : B) (o : Option A) → ((x : A) → o ≡ Some x → P (f x)) → (o ≡ None → P d) → P (option_map_or f o d)
by_option P f d None there absent = absent refl
by_option P f d (Some x) there absent = there x refl

-- what is made of something there
pub by_made : {A B : Type 0} (P : B → Type 0) (f : A → B) (o : Option A) (b : B) → ((x : A) → o ≡ Some x → P (f x)) → option_map f o ≡ Some b → P b
by_made P f None b there is = absurd cc
by_made P f (Some x) b there is = let it : f x ≡ b = cc in subst P it (there x refl)
