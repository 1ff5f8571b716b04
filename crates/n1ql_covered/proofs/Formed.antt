-- An expression over keys has the form of the expression.
use Rattle.std.proofs.Common.{◌≡◌, ℕ, suc, Bool, true, false, ◌&&◌, ◌==◌, List, [], ◌∷◌, map, length, Option, Some, None, option_map, IsTrue, cond, refl, sym, ap, ap₂, subst, ◌∙◌}
use Rattle.n1ql_ast.specs.declared.expr.Expr.{Expr, fold-roll-Expr, ind-Expr, map-Expr, roll-Expr}
use Rattle.n1ql_ast.specs.declared.expr.Expr.TheOpen.{Expr-F}
use Rattle.n1ql_ast.specs.declared.expr.Expr.TheVariants as expr
use Rattle.n1ql_ast.specs.Equality.{same_tree}
use Rattle.n1ql_ast.specs.Forms.{IsWellFormed, all_hold, has_its_counts, held_if_any, is_well_formed, of_each_part, takes_count}
use Rattle.n1ql_spans.specs.Covering.{Covering, covering, covering_at, over_keys, own_id, place_among}
use Rattle.n1ql_spans.proofs.Covered.{covering_level}
use Rattle.n1ql_spans.proofs.Maps.{map-map}
use Rattle.n1ql_covered.proofs.Overs.{by_parts, read_whole}
use Rattle.n1ql_covered.proofs.Reading.{both}

two : (a b : Bool) → IsTrue a → IsTrue b → IsTrue (a && b)
two true b x y = y
two false b x y = absurd cc

length_mapped : {A B : Type 0} (f : A → B) (xs : List A) → length (map f xs) ≡ length xs
length_mapped f [] = refl
length_mapped f (x ∷ xs) = ap suc (length_mapped f xs)

level_formed : (l : Expr-F Expr) → is_well_formed (roll-Expr l) ≡ (has_its_counts (map-Expr Expr Bool is_well_formed l) && of_each_part (map-Expr Expr Bool is_well_formed l))
level_formed l = fold-roll-Expr Bool (λ l. has_its_counts l && of_each_part l) l

module _ (keys : List Expr) where
  abbrev Keeps : Expr → Type 0
  Keeps e = IsWellFormed e → IsWellFormed (over_keys keys e)

  abbrev Kept : Type 0
  Kept = (e : Expr) × Keeps e

  abbrev was : Kept → Bool
  was k = is_well_formed k.0

  abbrev is : Kept → Bool
  is k = is_well_formed (over_keys keys k.0)

  all_stay : (xs : List Kept) → IsTrue (all_hold (map was xs)) → IsTrue (all_hold (map is xs))
  all_stay [] h = refl
  all_stay (x ∷ xs) h =
      let parts = both (was x) (all_hold (map was xs)) h in
      two (is x) (all_hold (map is xs)) (x.1 parts.0) (all_stay xs parts.1)

  any_stays : (x : Option Kept) → IsTrue (held_if_any (option_map was x)) → IsTrue (held_if_any (option_map is x))
  any_stays None h = refl
  any_stays (Some x) h = x.1 h

  both_stay : (x y : Kept) → IsTrue (was x && was y) → IsTrue (is x && is y)
  both_stay x y h = let parts = both (was x) (was y) h in two (is x) (is y) (x.1 parts.0) (y.1 parts.1)

  case_stays : (whens thens : List Kept) (other : Option Kept) → IsTrue (all_hold (map was whens) && (all_hold (map was thens) && held_if_any (option_map was other)))
      → IsTrue (all_hold (map is whens) && (all_hold (map is thens) && held_if_any (option_map is other)))
  case_stays whens thens other h =
      let parts = both (all_hold (map was whens)) (all_hold (map was thens) && held_if_any (option_map was other)) h in
      let more = both (all_hold (map was thens)) (held_if_any (option_map was other)) parts.1 in
      two (all_hold (map is whens)) (all_hold (map is thens) && held_if_any (option_map is other)) (all_stay whens parts.0)
      (two (all_hold (map is thens)) (held_if_any (option_map is other)) (all_stay thens more.0) (any_stays other more.1))

  item_stays : (item over : Kept) (when : Option Kept) → IsTrue (was item && (was over && held_if_any (option_map was when)))
      → IsTrue (is item && (is over && held_if_any (option_map is when)))
  item_stays item over when h =
      let parts = both (was item) (was over && held_if_any (option_map was when)) h in
      let more = both (was over) (held_if_any (option_map was when)) parts.1 in
      two (is item) (is over && held_if_any (option_map is when)) (item.1 parts.0)
      (two (is over) (held_if_any (option_map is when)) (over.1 more.0) (any_stays when more.1))

  parts_stay : (l : Expr-F Kept) → IsTrue (of_each_part (map-Expr Kept Bool was l)) → IsTrue (of_each_part (map-Expr Kept Bool is l))
  parts_stay (Expr-F.Const v) h = refl
  parts_stay Expr-F.Doc h = refl
  parts_stay (Expr-F.MetaOf own) h = refl
  parts_stay (Expr-F.Var name) h = refl
  parts_stay (Expr-F.Key at) h = refl
  parts_stay (Expr-F.Field x name) h = x.1 h
  parts_stay (Expr-F.Place x at) h = both_stay x at h
  parts_stay (Expr-F.Not x) h = x.1 h
  parts_stay (Expr-F.Neg x) h = x.1 h
  parts_stay (Expr-F.Two op x y) h = both_stay x y h
  parts_stay (Expr-F.Is test x) h = x.1 h
  parts_stay (Expr-F.Among x y) h = both_stay x y h
  parts_stay (Expr-F.Between x low high) h =
      let parts = both (was x) (was low && was high) h in
      two (is x) (is low && is high) (x.1 parts.0) (both_stay low high parts.1)
  parts_stay (Expr-F.Call fun xs) h = all_stay xs h
  parts_stay (Expr-F.List xs) h = all_stay xs h
  parts_stay (Expr-F.Build names xs) h = all_stay xs h
  parts_stay (Expr-F.Case whens thens None) h = case_stays whens thens None h
  parts_stay (Expr-F.Case whens thens (Some other)) h = case_stays whens thens (Some other) h
  parts_stay (Expr-F.Any name over test) h = both_stay over test h
  parts_stay (Expr-F.Every name over test) h = both_stay over test h
  parts_stay (Expr-F.Each name item over None) h = item_stays item over None h
  parts_stay (Expr-F.Each name item over (Some when)) h = item_stays item over (Some when) h
  parts_stay (Expr-F.First name item over None) h = item_stays item over None h
  parts_stay (Expr-F.First name item over (Some when)) h = item_stays item over (Some when) h
  parts_stay (Expr-F.Agg agg None) h = refl
  parts_stay (Expr-F.Agg agg (Some x)) h = x.1 h

  counts_stay : (l : Expr-F Kept) → has_its_counts (map-Expr Kept Bool is l) ≡ has_its_counts (map-Expr Kept Bool was l)
  counts_stay (Expr-F.Call fun xs) = ap (takes_count fun) (length_mapped is xs ∙ sym (length_mapped was xs))
  counts_stay (Expr-F.Build names xs) = ap (λ n. length names == n) (length_mapped is xs ∙ sym (length_mapped was xs))
  counts_stay (Expr-F.Case whens thens None) =
      ap₂ (λ n m. n == m) (length_mapped is whens ∙ sym (length_mapped was whens)) (length_mapped is thens ∙ sym (length_mapped was thens))
  counts_stay (Expr-F.Case whens thens (Some other)) =
      ap₂ (λ n m. n == m) (length_mapped is whens ∙ sym (length_mapped was whens)) (length_mapped is thens ∙ sym (length_mapped was thens))
  counts_stay l = refl

  abbrev top : Expr-F Kept → Expr-F Expr
  top y = map-Expr Kept Expr (λ k. k.0) y

  abbrev rolled : Expr-F Expr → Expr
  rolled l = roll-Expr (map-Expr Covering Expr (λ c. c.over) (map-Expr Expr Covering (covering keys) l))

  rolled_formed : (y : Expr-F Kept) → IsWellFormed (roll-Expr (top y)) → IsWellFormed (rolled (top y))
  rolled_formed y h =
      let before : IsTrue (has_its_counts (map-Expr Kept Bool was y) && of_each_part (map-Expr Kept Bool was y)) =
      sym (ap (λ m. has_its_counts m && of_each_part m) (map-map (λ (k : Kept). k.0) is_well_formed y)) ∙ (sym (level_formed (top y)) ∙ h) in
      let parts = both (has_its_counts (map-Expr Kept Bool was y)) (of_each_part (map-Expr Kept Bool was y)) before in
      ap is_well_formed (ap roll-Expr (map-map (covering keys) (λ (c : Covering). c.over) (top y) ∙ map-map (λ (k : Kept). k.0) (over_keys keys) y))
      ∙ (level_formed (map-Expr Kept Expr (λ k. over_keys keys k.0) y)
      ∙ (ap (λ m. has_its_counts m && of_each_part m) (map-map (λ (k : Kept). over_keys keys k.0) is_well_formed y)
      ∙ two (has_its_counts (map-Expr Kept Bool is y)) (of_each_part (map-Expr Kept Bool is y)) (counts_stay y ∙ parts.0) (parts_stay y parts.1)))

  key_formed : (at : ℕ) → IsWellFormed (expr.Key at)
  key_formed at = ap is_well_formed (sym (expr.rolls-Key at)) ∙ level_formed (Expr-F.Key at)

  at_place : (place : Option ℕ) (e : Expr) (l : Expr-F Expr) → IsWellFormed e → IsWellFormed (rolled l)
      → IsWellFormed ((covering_at place e (map-Expr Expr Covering (covering keys) l)).over)
  at_place (Some at) e l h parts = key_formed at
  at_place None e l h parts =
      elim (same_tree own_id e) as (λ b. IsWellFormed ((cond b (read_whole e) (by_parts keys e l)).over)) [ true ↦ h | false ↦ parts ]

  pub keys_formed : (e : Expr) → IsWellFormed e → IsWellFormed (over_keys keys e)
  keys_formed = ind-Expr Keeps (λ x y is. subst (λ z. Keeps (roll-Expr z)) is (λ h.
      ap (λ (c : Covering). is_well_formed c.over) (covering_level keys (top y))
      ∙ at_place (place_among keys (roll-Expr (top y))) (roll-Expr (top y)) (top y) h (rolled_formed y h)))
