-- The order of results, DISTINCT, OFFSET and LIMIT.
use Rattle.std.proofs.Common.{◌≡◌, ℕ, zero, suc, ◌<◌, ◌≤◌, ◌-◌, min, Bool, true, false, not, ◌||◌, ◌&&◌, List, [], ◌∷◌, ◌++◌, cond, take, drop, length, get_or, Option, Some, None, IfSome, refl, sym, ap, ◌∙◌, arith, take-append-drop, length-take, length-drop, append-nil}
use Rattle.std.specs.Cmp.{IsTotalOrder}
use Rattle.std.specs.List.{AllByRecursion, filter, list_any}
use Rattle.std.specs.Option.{option_map_or}
use Rattle.std.specs.Ordering.{is_eq, ordering_reverse}
use Rattle.std.specs.declared.cmp.Ordering.{Ordering}
use Rattle.std.specs.declared.cmp.Ordering.TheVariants.{Less, Equal, Greater}
use Rattle.std.proofs.lemmas.Cmp.{back_total, lists_total, on_total, then_total, tied_back}
use Rattle.std.proofs.lemmas.List.Elements.{All-from_recursion, filter-append}
use mathlib.Core.Path.{fun_ext}
use Rattle.n1ql_value.specs.declared.datum.Datum.{Datum}
use Rattle.n1ql_value.specs.declared.value.Value.{Value}
use Rattle.n1ql_value.specs.Collation.{key_at, value_cmp}
use Rattle.n1ql_value.specs.Datum.{datum_of}
use Rattle.n1ql_ast.specs.declared.expr.Expr.{Expr}
use Rattle.n1ql_ast.specs.declared.order.Order.{Order}
use Rattle.n1ql_meaning.specs.Finish.{cut, directed_cmp, first_of_each, is_same_result, orders_cmp, placed_cmp}
use Rattle.n1ql_meaning.specs.Results.{PlacedResult}

-- ---- the order, where that of values is total

all_equal_total : {K : Type 0} → IsTotalOrder (λ (x y : K). Equal)
all_equal_total = record { antisymm = λ x y. refl; trans = λ x y z h k. absurd cc; congr = λ x y z h. refl }

directed_total : IsTotalOrder value_cmp → (desc : Bool) → IsTotalOrder (directed_cmp desc)
directed_total o true = back_total o
directed_total o false = o

orders_total : IsTotalOrder value_cmp → (os : List (Order Expr)) → IsTotalOrder (orders_cmp os)
orders_total o [] = all_equal_total
orders_total o (p ∷ os) = then_total (on_total (λ (xs : List Datum). key_at xs 0) (directed_total o p.desc)) (on_total (λ (xs : List Datum). drop 1 xs) (orders_total o os))

pub placed_total : IsTotalOrder value_cmp → (os : List (Order Expr)) → IsTotalOrder (placed_cmp os)
placed_total o os =
    then_total (on_total (λ (r : PlacedResult). r.order) (orders_total o os)) (on_total (λ (r : PlacedResult). r.base) (lists_total o))

-- ---- DISTINCT

abbrev differs : PlacedResult → PlacedResult → Bool
differs r other = not (is_same_result r other)

-- each from those behind it
abbrev AllDiffer : List PlacedResult → Type 0
AllDiffer [] = Unit {0}
AllDiffer (r ∷ rs) = AllByRecursion (λ other. is_same_result r other ≡ false) rs × AllDiffer rs

passed : (b : Bool) → not b ≡ true → b ≡ false
passed true h = sym h
passed false h = refl

all_pass : (r : PlacedResult) (rs : List PlacedResult) → AllByRecursion (λ other. is_same_result r other ≡ false) (filter (differs r) rs)
all_pass r [] = tt
all_pass r (s ∷ rs) =
    elim (differs r s) as (λ b. differs r s ≡ b → AllByRecursion (λ other. is_same_result r other ≡ false) (cond b (s ∷ filter (differs r) rs) (filter (differs r) rs))) [
      | true ↦ λ is. (passed (is_same_result r s) is, all_pass r rs)
      | false ↦ λ is. all_pass r rs
    ] refl

all_kept : (P : PlacedResult → Type 0) (so : PlacedResult → Bool) (rs : List PlacedResult) → AllByRecursion P rs → AllByRecursion P (filter so rs)
all_kept P so [] h = tt
all_kept P so (s ∷ rs) h =
    elim (so s) as (λ b. AllByRecursion P (cond b (s ∷ filter so rs) (filter so rs))) [
      | true ↦ (h.0, all_kept P so rs h.1)
      | false ↦ all_kept P so rs h.1
    ]

still_differ : (so : PlacedResult → Bool) (rs : List PlacedResult) → AllDiffer rs → AllDiffer (filter so rs)
still_differ so [] h = tt
still_differ so (s ∷ rs) h =
    elim (so s) as (λ b. AllDiffer (cond b (s ∷ filter so rs) (filter so rs))) [
      | true ↦ (all_kept (λ other. is_same_result s other ≡ false) so rs h.0, still_differ so rs h.1)
      | false ↦ still_differ so rs h.1
    ]

firsts_differ : (rs : List PlacedResult) → AllDiffer (first_of_each rs)
firsts_differ [] = tt
firsts_differ (r ∷ rs) = (all_pass r (first_of_each rs), still_differ (differs r) (first_of_each rs) (firsts_differ rs))

at_places : (rs : List PlacedResult) → AllDiffer rs → (i j : ℕ) (d : PlacedResult) → i < j → j < length rs → is_same_result (get_or rs i d) (get_or rs j d) ≡ false
at_places [] h i j d l m = absurd (omega arith)
at_places (r ∷ rs) h i zero d l m = absurd (omega arith)
at_places (r ∷ rs) h zero (suc j) d l m = All-from_recursion (λ other. is_same_result r other ≡ false) rs h.0 j d (omega arith)
at_places (r ∷ rs) h (suc i) (suc j) d l m = at_places rs h.1 i j d (omega arith) (omega arith)

pub distinct_differ : (rs : List PlacedResult) (i j : ℕ) (d : PlacedResult) → i < j → j < length (first_of_each rs)
    → is_same_result (get_or (first_of_each rs) i d) (get_or (first_of_each rs) j d) ≡ false
distinct_differ rs = at_places (first_of_each rs) (firsts_differ rs)

tied : (r : Ordering) → is_eq r ≡ true → r ≡ Equal
tied Less h = absurd cc
tied Equal h = refl
tied Greater h = absurd cc

reversed : (r : Ordering) → is_eq (ordering_reverse r) ≡ is_eq r
reversed Less = refl
reversed Equal = refl
reversed Greater = refl

module _ (o : IsTotalOrder value_cmp) where
  abbrev whole : PlacedResult → Datum
  whole r = datum_of r.result

  -- what is the same as one of two that are the same is the same as the other
  same_left : (r s t : PlacedResult) → is_same_result s t ≡ true → is_same_result r s ≡ is_same_result r t
  same_left r s t h =
      let ts : value_cmp (whole t) (whole s) ≡ Equal = tied_back o (whole s) (whole t) (tied (value_cmp (whole s) (whole t)) h) in
      ap is_eq (o.antisymm (whole r) (whole s) ∙ (ap ordering_reverse (o.congr (whole s) (whole t) (whole r) (tied (value_cmp (whole s) (whole t)) h)) ∙ sym (o.antisymm (whole r) (whole t))))

  -- where r isn't the same as s, nothing that is the same as s is the same as r
  one_test : (r s t : PlacedResult) → is_same_result r s ≡ false → (differs s t && is_same_result r t) ≡ is_same_result r t
  one_test r s t h =
      elim (is_same_result s t) as (λ b. is_same_result s t ≡ b → (not b && is_same_result r t) ≡ is_same_result r t) [
        | true ↦ λ is. sym (sym (same_left r s t is) ∙ h)
        | false ↦ λ is. refl
      ] refl

  any_filter : (so keep : PlacedResult → Bool) (rs : List PlacedResult) → list_any so (filter keep rs) ≡ list_any (λ x. keep x && so x) rs
  any_filter so keep [] = refl
  any_filter so keep (s ∷ rs) =
      elim (keep s) as (λ b. list_any so (cond b (s ∷ filter keep rs) (filter keep rs)) ≡ ((b && so s) || list_any (λ x. keep x && so x) rs)) [
        | true ↦ ap (λ b. so s || b) (any_filter so keep rs)
        | false ↦ any_filter so keep rs
      ]

  -- each result is the same as one that is kept
  pub all_there : (r : PlacedResult) (rs : List PlacedResult) → list_any (is_same_result r) (first_of_each rs) ≡ list_any (is_same_result r) rs
  all_there r [] = refl
  all_there r (s ∷ rs) =
      elim (is_same_result r s) as (λ b. is_same_result r s ≡ b → (b || list_any (is_same_result r) (filter (differs s) (first_of_each rs))) ≡ (b || list_any (is_same_result r) rs)) [
        | true ↦ λ is. refl
        | false ↦ λ is.
            any_filter (is_same_result r) (differs s) (first_of_each rs)
            ∙ (ap (λ (so : PlacedResult → Bool). list_any so (first_of_each rs)) (fun_ext (λ t. one_test r s t is)) ∙ all_there r rs)
      ] refl

  -- one more result is kept where none is the same
  same_back : (r s : PlacedResult) → is_same_result r s ≡ is_same_result s r
  same_back r s = ap is_eq (o.antisymm (whole r) (whole s)) ∙ reversed (value_cmp (whole s) (whole r))

  abbrev added : PlacedResult → Bool → List PlacedResult
  added r b = cond b [] (r ∷ [])

  drops_added : (s r : PlacedResult) → is_same_result r s ≡ true → (b : Bool) → filter (differs s) (added r b) ≡ []
  drops_added s r is true = refl
  drops_added s r is false = ap (λ c. cond (not c) (r ∷ []) []) (same_back s r ∙ is)

  keeps_added : (s r : PlacedResult) → is_same_result r s ≡ false → (b : Bool) → filter (differs s) (added r b) ≡ added r b
  keeps_added s r is true = refl
  keeps_added s r is false = ap (λ c. cond (not c) (r ∷ []) []) (same_back s r ∙ is)

  pub one_more : (rs : List PlacedResult) (r : PlacedResult) → first_of_each (rs ++ r ∷ []) ≡ first_of_each rs ++ added r (list_any (is_same_result r) (first_of_each rs))
  one_more [] r = refl
  one_more (s ∷ rs) r =
      let kept = first_of_each rs in
      let b = list_any (is_same_result r) kept in
      ap (λ l. s ∷ filter (differs s) l) (one_more rs r)
      ∙ (ap (λ l. s ∷ l) (filter-append (differs s) kept (added r b))
      ∙ ap (λ l. s ∷ filter (differs s) kept ++ l)
      (elim (is_same_result r s) as (λ c. is_same_result r s ≡ c → filter (differs s) (added r b) ≡ added r (c || list_any (is_same_result r) (filter (differs s) kept))) [
        | true ↦ λ is. drops_added s r is b
        | false ↦ λ is.
            keeps_added s r is b
            ∙ ap (added r) (sym (any_filter (is_same_result r) (differs s) kept ∙ ap (λ (so : PlacedResult → Bool). list_any so kept) (fun_ext (λ t. one_test r s t is))))
      ] refl))

-- ---- OFFSET and LIMIT

pub cut_piece : (limit : Option ℕ) (offset : ℕ) (vs : List Value)
    → (front : List Value) × (back : List Value) × (front ++ (cut limit offset vs ++ back) ≡ vs) × (length front ≡ min offset (length vs))
cut_piece None offset vs =
    (take offset vs, [], ap (λ l. take offset vs ++ l) (append-nil (drop offset vs)) ∙ take-append-drop offset vs, length-take offset vs)
cut_piece (Some n) offset vs =
    (take offset vs, drop n (drop offset vs), ap (λ l. take offset vs ++ l) (take-append-drop n (drop offset vs)) ∙ take-append-drop offset vs, length-take offset vs)

pub cut_most : (limit : Option ℕ) (offset : ℕ) (vs : List Value) → IfSome limit (λ n. length (cut limit offset vs) ≤ n)
cut_most None offset vs = tt
cut_most (Some n) offset vs = let e = length-take n (drop offset vs) in omega (arith, e)

pub cut_length : (limit : Option ℕ) (offset : ℕ) (vs : List Value)
    → length (cut limit offset vs) ≡ option_map_or (λ n. min n (length vs - offset)) limit (length vs - offset)
cut_length None offset vs = length-drop offset vs
cut_length (Some n) offset vs = length-take n (drop offset vs) ∙ ap (min n) (length-drop offset vs)
