-- Going over the keys of ORDER BY, from a place on.
use Rattle.std.proofs.Common.{◌≡◌, ◌≢◌, ◌<◌, ◌+◌, ℕ, zero, suc, List, [], ◌∷◌, length, get_or, drop, add-one, refl, sym, ap, ap₂, ◌∙◌, arith}
use Rattle.std.specs.Ordering.{ordering_then}
use Rattle.std.specs.declared.cmp.Ordering.{Ordering}
use Rattle.std.specs.declared.cmp.Ordering.TheVariants.{Less, Equal, Greater}
use Rattle.n1ql_value.specs.declared.datum.Datum.{Datum}
use Rattle.n1ql_value.specs.Collation.{key_at}
use Rattle.n1ql_ast.specs.declared.expr.Expr.{Expr}
use Rattle.n1ql_ast.specs.declared.order.Order.{Order}
use Rattle.n1ql_meaning.specs.Finish.{directed_cmp, orders_cmp}

drop-nil : {A : Type 0} (i : ℕ) → drop {A = A} i [] ≡ []
drop-nil zero = refl
drop-nil (suc i) = refl

drop_first : (at : ℕ) (xs : List Datum) → drop (suc at) xs ≡ drop at (drop 1 xs)
drop_first at [] = sym (drop-nil at)
drop_first at (x ∷ xs) = refl

key_first : (at : ℕ) (xs : List Datum) → key_at (drop 1 xs) at ≡ key_at xs (suc at)
key_first at [] = refl
key_first at (x ∷ xs) = refl

-- the values at the place decide, and else those after it
pub orders_step : (os : List (Order Expr)) (o : Order Expr) (xs ys : List Datum) (at : ℕ) → o ≡ get_or os at o → at < length os
    → orders_cmp (drop at os) (drop at xs) (drop at ys)
    ≡ ordering_then (directed_cmp o.desc (key_at xs at) (key_at ys at)) (orders_cmp (drop (suc at) os) (drop (suc at) xs) (drop (suc at) ys))
orders_step [] o xs ys at h lt = absurd (omega arith)
orders_step (p ∷ os) o xs ys zero h lt =
    ap (λ (z : Order Expr). ordering_then (directed_cmp z.desc (key_at xs 0) (key_at ys 0)) (orders_cmp os (drop 1 xs) (drop 1 ys))) (sym h)
orders_step (p ∷ os) o xs ys (suc at) h lt =
    ap₂ (orders_cmp (drop at os)) (drop_first at xs) (drop_first at ys)
    ∙ (orders_step os o (drop 1 xs) (drop 1 ys) at h (omega arith)
    ∙ (ap₂ (λ k l. ordering_then (directed_cmp o.desc k l) (orders_cmp (drop (suc at) os) (drop (suc at) (drop 1 xs)) (drop (suc at) (drop 1 ys)))) (key_first at xs) (key_first at ys)
    ∙ ap₂ (λ us vs. ordering_then (directed_cmp o.desc (key_at xs (suc at)) (key_at ys (suc at))) (orders_cmp (drop (suc at) os) us vs))
    (sym (drop_first (suc at) xs)) (sym (drop_first (suc at) ys))))

pub then_unless_equal : (o p : Ordering) → o ≢ Equal → ordering_then o p ≡ o
then_unless_equal Less p h = refl
then_unless_equal Equal p h = absurd (h refl)
then_unless_equal Greater p h = refl

pub then_if_equal : (o p : Ordering) → o ≡ Equal → ordering_then o p ≡ p
then_if_equal Equal p h = refl
then_if_equal Less p h = absurd cc
then_if_equal Greater p h = absurd cc

-- where the values at a place don't tie, they decide
pub decided : (os : List (Order Expr)) (o : Order Expr) (xs ys : List Datum) (at : ℕ) (d : Ordering) (x y : Datum)
    → o ≡ get_or os at o → at < length os → x ≡ key_at xs at → y ≡ key_at ys at → d ≡ directed_cmp (get_or os at o).desc x y → d ≢ Equal
    → orders_cmp (drop at os) (drop at xs) (drop at ys) ≡ orders_cmp os xs ys → d ≡ orders_cmp os xs ys
decided os o xs ys at d x y is lt a b e h i =
    sym (then_unless_equal d (orders_cmp (drop (suc at) os) (drop (suc at) xs) (drop (suc at) ys)) h)
    ∙ (ap (λ z. ordering_then z (orders_cmp (drop (suc at) os) (drop (suc at) xs) (drop (suc at) ys))) (e ∙ (ap₂ (λ k l. directed_cmp (get_or os at o).desc k l) a b ∙ ap (λ (p : Order Expr). directed_cmp p.desc (key_at xs at) (key_at ys at)) (sym is)))
    ∙ (sym (orders_step os o xs ys at is lt) ∙ i))

-- where they tie, those after them do
pub tied : (os : List (Order Expr)) (o : Order Expr) (xs ys : List Datum) (at : ℕ) (d : Ordering) (x y : Datum)
    → o ≡ get_or os at o → at < length os → x ≡ key_at xs at → y ≡ key_at ys at → d ≡ directed_cmp (get_or os at o).desc x y → d ≡ Equal
    → orders_cmp (drop at os) (drop at xs) (drop at ys) ≡ orders_cmp os xs ys
    → orders_cmp (drop (at + 1) os) (drop (at + 1) xs) (drop (at + 1) ys) ≡ orders_cmp os xs ys
tied os o xs ys at d x y is lt a b e h i =
    rw add-one (sym (then_if_equal d (orders_cmp (drop (suc at) os) (drop (suc at) xs) (drop (suc at) ys)) h)
    ∙ (ap (λ z. ordering_then z (orders_cmp (drop (suc at) os) (drop (suc at) xs) (drop (suc at) ys))) (e ∙ (ap₂ (λ k l. directed_cmp (get_or os at o).desc k l) a b ∙ ap (λ (p : Order Expr). directed_cmp p.desc (key_at xs at) (key_at ys at)) (sym is)))
    ∙ (sym (orders_step os o xs ys at is lt) ∙ i)))
