-- Tests joined by && and ||, and tests of lists.
use Rattle.std.proofs.Common.{◌≡◌, Bool, true, false, ◌&&◌, ◌||◌, List, [], ◌∷◌, ◌++◌, cond, IsTrue, refl, sym, subst}
use Rattle.std.specs.List.{filter, list_all, list_any}

pub both : (a b : Bool) → IsTrue (a && b) → IsTrue a × IsTrue b
both true b h = (refl, h)
both false b h = absurd cc

pub and : (a b : Bool) → IsTrue a → IsTrue b → IsTrue (a && b)
and true b h k = k
and false b h k = absurd cc

pub or_left : (a b : Bool) → IsTrue a → IsTrue (a || b)
or_left true b h = refl
or_left false b h = absurd cc

pub or_right : (a b : Bool) → IsTrue b → IsTrue (a || b)
or_right true b h = refl
or_right false b h = h

pub or_cases : {P : Type 0} (a b : Bool) → IsTrue (a || b) → (IsTrue a → P) → (IsTrue b → P) → P
or_cases true b h f g = f refl
or_cases false b h f g = g h

pub any_left : {X : Type 0} (so : X → Bool) (xs ys : List X) → IsTrue (list_any so xs) → IsTrue (list_any so (xs ++ ys))
any_left so [] ys h = absurd cc
any_left so (x ∷ xs) ys h = or_cases (so x) (list_any so xs) h (or_left (so x) (list_any so (xs ++ ys))) (λ k. or_right (so x) (list_any so (xs ++ ys)) (any_left so xs ys k))

pub any_right : {X : Type 0} (so : X → Bool) (xs ys : List X) → IsTrue (list_any so ys) → IsTrue (list_any so (xs ++ ys))
any_right so [] ys h = h
any_right so (x ∷ xs) ys h = or_right (so x) (list_any so (xs ++ ys)) (any_right so xs ys h)

-- something in a list that holds what each element holds
pub found : {X : Type 0} (so : X → Bool) (xs : List X) → IsTrue (list_any so xs) → (x : X) × IsTrue (so x)
found so [] h = absurd cc
found so (x ∷ xs) h = or_cases (so x) (list_any so xs) h (λ t. (x, t)) (λ t. found so xs t)

pub any_kept : {X : Type 0} (keep so : X → Bool) (xs : List X) → IsTrue (list_any (λ x. keep x && so x) xs) → IsTrue (list_any so (filter keep xs))
any_kept keep so [] h = h
any_kept keep so (x ∷ xs) h =
    elim (keep x) as (λ b. IsTrue ((b && so x) || list_any (λ x. keep x && so x) xs) → IsTrue (list_any so (cond b (x ∷ filter keep xs) (filter keep xs)))) [
      | true ↦ λ t. or_cases (so x) (list_any (λ x. keep x && so x) xs) t (λ k. or_left (so x) (list_any so (filter keep xs)) k) (λ k. or_right (so x) (list_any so (filter keep xs)) (any_kept keep so xs k))
      | false ↦ λ t. any_kept keep so xs t
    ] h

-- what is so of each of a list is so of what is the same as one of it
pub all_of_any : {X : Type 0} (so : X → Bool) (same : X → X → Bool) → ((a b : X) → IsTrue (same a b) → a ≡ b) → (x : X) (xs : List X) → IsTrue (list_any (same x) xs) → IsTrue (list_all so xs) → IsTrue (so x)
all_of_any so same exact x [] h all = absurd cc
all_of_any so same exact x (y ∷ ys) h all =
    let two = both (so y) (list_all so ys) all in
    or_cases (same x y) (list_any (same x) ys) h (λ t. subst (λ z. IsTrue (so z)) (sym (exact x y t)) two.0) (λ t. all_of_any so same exact x ys t two.1)

pub all_among : {X : Type 0} (so : X → Bool) (same : X → X → Bool) → ((a b : X) → IsTrue (same a b) → a ≡ b) → (xs ys : List X) → IsTrue (list_all (λ x. list_any (same x) ys) xs) → IsTrue (list_all so ys) → IsTrue (list_all so xs)
all_among so same exact [] ys h all = refl
all_among so same exact (x ∷ xs) ys h all =
    let two = both (list_any (same x) ys) (list_all (λ x. list_any (same x) ys) xs) h in
    and (so x) (list_all so xs) (all_of_any so same exact x ys two.0 all) (all_among so same exact xs ys two.1 all)
