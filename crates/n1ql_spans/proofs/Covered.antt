-- Whether an expression is covered: it is read whole, or by its parts.
use Rattle.std.proofs.Common.{◌≡◌, ℕ, suc, Bool, true, false, ◌&&◌, ◌||◌, List, [], ◌∷◌, Option, Some, None, option_map, cond, refl, sym, ap, subst, ◌∙◌, codes}
use Rattle.std.specs.Prelude.{bytes_eq}
use Rattle.std.specs.List.{list_any}
use Rattle.std.specs.Option.{is_some}
use mathlib.Core.Path.{fun_ext}
use Rattle.n1ql_ast.specs.declared.expr.Expr.{Expr, fold-roll-Expr, ind-Expr, map-Expr, out-Expr, roll-Expr, roll-out-Expr}
use Rattle.n1ql_ast.specs.declared.expr.Expr.TheOpen.{Expr-F}
use Rattle.n1ql_ast.specs.declared.expr.Expr.TheVariants as expr
use Rattle.n1ql_ast.specs.declared.key.Key.{Key}
use Rattle.n1ql_ast.specs.declared.key.Key.TheVariants.{Plain, Each}
use Rattle.n1ql_ast.specs.Equality.{same_level, same_tree}
use Rattle.n1ql_ast.specs.Forms.{of_each_part}
use Rattle.n1ql_spans.specs.Covering.{Covering, covering, covering_at, covering_in, is_covered, is_on_row, own_id, place_among, plain_keys}
use Rattle.n1ql_spans.specs.inner.ReadWhole.{is_own_id, is_own_meta, is_plain, is_read_whole}
use Rattle.n1ql_spans.proofs.Maps.{map-id, map-map}

abbrev read_whole : Expr → Covering
read_whole e = record { whole = e; over = e; covered = true }

abbrev by_parts : Expr → Expr-F Covering → Covering
by_parts e l = record { whole = e; over = roll-Expr (map-Expr Covering Expr (λ c. c.over) l); covered = is_on_row l && of_each_part (map-Expr Covering Bool (λ c. c.covered) l) }

-- what a part comes to has the part itself
whole_at : (place : Option ℕ) (whole : Expr) (l : Expr-F Covering) → (covering_at place whole l).whole ≡ whole
whole_at (Some place) whole l = refl
whole_at None whole l = elim (same_tree own_id whole) as (λ b. (cond b (read_whole whole) (by_parts whole l)).whole ≡ whole) [ true ↦ refl | false ↦ refl ]

on_row-map : {A B : Type 0} (f : A → B) (l : Expr-F A) → is_on_row (map-Expr A B f l) ≡ is_on_row l
on_row-map f Expr-F.Doc = refl
on_row-map f (Expr-F.MetaOf own) = refl
on_row-map f (Expr-F.Key at) = refl
on_row-map f l = refl

module _ (keys : List Expr) where
  abbrev Keeps : Expr → Type 0
  Keeps e = (covering keys e).whole ≡ e

  covering-roll : (l : Expr-F Expr) → covering keys (roll-Expr l) ≡ covering_in keys (map-Expr Expr Covering (covering keys) l)
  covering-roll l = fold-roll-Expr Covering (covering_in keys) l

  abbrev again : Expr-F Expr → Expr-F Expr
  again l = map-Expr Covering Expr (λ c. c.whole) (map-Expr Expr Covering (covering keys) l)

  abbrev Kept : Type 0
  Kept = (e : Expr) × Keeps e

  again_top : (y : Expr-F Kept) → again (map-Expr Kept Expr (λ k. k.0) y) ≡ map-Expr Kept Expr (λ k. k.0) y
  again_top y =
      map-map (covering keys) (λ (c : Covering). c.whole) (map-Expr Kept Expr (λ k. k.0) y)
      ∙ (map-map (λ (k : Kept). k.0) (λ e. (covering keys e).whole) y ∙ ap (λ (f : Kept → Expr). map-Expr Kept Expr f y) (fun_ext (λ k. k.1)))

  covering_keeps : (e : Expr) → Keeps e
  covering_keeps = ind-Expr Keeps (λ x y is. subst (λ z. Keeps (roll-Expr z)) is
      (ap (λ (c : Covering). c.whole) (covering-roll (map-Expr Kept Expr (λ k. k.0) y))
      ∙ (whole_at (place_among keys (roll-Expr (again (map-Expr Kept Expr (λ k. k.0) y)))) (roll-Expr (again (map-Expr Kept Expr (λ k. k.0) y))) (map-Expr Expr Covering (covering keys) (map-Expr Kept Expr (λ k. k.0) y))
      ∙ ap roll-Expr (again_top y))))

  again_same : (l : Expr-F Expr) → again l ≡ l
  again_same l = map-map (covering keys) (λ (c : Covering). c.whole) l ∙ (ap (λ (f : Expr → Expr). map-Expr Expr Expr f l) (fun_ext covering_keeps) ∙ map-id l)

  -- one level
  pub covering_level : (l : Expr-F Expr) → covering keys (roll-Expr l) ≡ covering_at (place_among keys (roll-Expr l)) (roll-Expr l) (map-Expr Expr Covering (covering keys) l)
  covering_level l = covering-roll l ∙ ap (λ m. covering_at (place_among keys (roll-Expr m)) (roll-Expr m) (map-Expr Expr Covering (covering keys) l)) (again_same l)

  abbrev parts_covered : Expr-F Expr → Bool
  parts_covered l = is_on_row l && of_each_part (map-Expr Expr Bool (is_covered keys) l)

  parts_at : (l : Expr-F Expr) → (is_on_row (map-Expr Expr Covering (covering keys) l) && of_each_part (map-Expr Covering Bool (λ c. c.covered) (map-Expr Expr Covering (covering keys) l))) ≡ parts_covered l
  parts_at l = ap (λ b. b && of_each_part (map-Expr Covering Bool (λ c. c.covered) (map-Expr Expr Covering (covering keys) l))) (on_row-map (covering keys) l) ∙ ap (λ m. is_on_row l && of_each_part m) (map-map (covering keys) (λ (c : Covering). c.covered) l)

  covered_at : (place : Option ℕ) (whole : Expr) (l : Expr-F Expr) → (covering_at place whole (map-Expr Expr Covering (covering keys) l)).covered ≡ ((is_some place || same_tree own_id whole) || parts_covered l)
  covered_at (Some place) whole l = refl
  covered_at None whole l =
      elim (same_tree own_id whole) as (λ b. (cond b (read_whole whole) (by_parts whole (map-Expr Expr Covering (covering keys) l))).covered ≡ (b || parts_covered l)) [ true ↦ refl | false ↦ parts_at l ]

  covered_level : (e : Expr) → is_covered keys e ≡ ((is_some (place_among keys e) || same_tree own_id e) || parts_covered (out-Expr e))
  covered_level e =
      let l : Expr-F Expr = out-Expr e in
      ap (λ x. is_covered keys x) (sym (roll-out-Expr e))
      ∙ (ap (λ (c : Covering). c.covered) (covering_level l)
      ∙ (covered_at (place_among keys (roll-Expr l)) (roll-Expr l) l
      ∙ ap (λ x. (is_some (place_among keys x) || same_tree own_id x) || parts_covered l) (roll-out-Expr e)))

-- ---- as the code tests it

some_suc : (place : Option ℕ) → is_some (option_map suc place) ≡ is_some place
some_suc None = refl
some_suc (Some place) = refl

placed : (keys : List Key) (e : Expr) → is_some (place_among (plain_keys keys) e) ≡ list_any (is_plain e) keys
placed [] e = refl
placed (Plain k ∷ keys) e =
    elim (same_tree k e) as (λ b. is_some (cond b (Some 0) (option_map suc (place_among (plain_keys keys) e))) ≡ (b || list_any (is_plain e) keys)) [
      | true ↦ refl
      | false ↦ some_suc (place_among (plain_keys keys) e) ∙ placed keys e
    ]
placed (Each distinct item var over when ∷ keys) e = placed keys e

abbrev step : Expr-F (Expr → Bool) → Expr → Bool
step level e = same_level level (out-Expr e)

meta_level : (l : Expr-F Expr) → same_level (Expr-F.MetaOf true) l ≡ is_own_meta l
meta_level (Expr-F.MetaOf true) = refl
meta_level (Expr-F.MetaOf false) = refl
meta_level l = refl

own_meta : (x : Expr) → same_tree (expr.MetaOf true) x ≡ is_own_meta (out-Expr x)
own_meta x =
    ap (λ e. same_tree e x) (sym (expr.rolls-MetaOf true))
    ∙ (ap (λ (f : Expr → Bool). f x) (fold-roll-Expr (Expr → Bool) step (Expr-F.MetaOf true)) ∙ meta_level (out-Expr x))

id_level : (l : Expr-F Expr) → same_level (Expr-F.Field (same_tree (expr.MetaOf true)) (codes "id")) l ≡ is_own_id l
id_level (Expr-F.Field x name) = ap (λ b. b && bytes_eq (codes "id") name) (own_meta x)
id_level l = refl

pub own_id_is : (e : Expr) → same_tree own_id e ≡ is_own_id (out-Expr e)
own_id_is e =
    ap (λ x. same_tree x e) (sym (expr.rolls-Field (expr.MetaOf true) (codes "id")))
    ∙ (ap (λ (f : Expr → Bool). f e) (fold-roll-Expr (Expr → Bool) step (Expr-F.Field (expr.MetaOf true) (codes "id"))) ∙ id_level (out-Expr e))

covered_by : (keys : List Key) (e : Expr) → is_covered (plain_keys keys) e ≡ (is_read_whole keys e || (is_on_row (out-Expr e) && of_each_part (map-Expr Expr Bool (is_covered (plain_keys keys)) (out-Expr e))))
covered_by keys e =
    let parts : Bool = is_on_row (out-Expr e) && of_each_part (map-Expr Expr Bool (is_covered (plain_keys keys)) (out-Expr e)) in
    covered_level (plain_keys keys) e
    ∙ (ap (λ b. (b || same_tree own_id e) || parts) (placed keys e) ∙ ap (λ b. (list_any (is_plain e) keys || b) || parts) (own_id_is e))

pub covered_whole : (keys : List Key) (e : Expr) → is_read_whole keys e ≡ true → is_covered (plain_keys keys) e ≡ true
covered_whole keys e h = covered_by keys e ∙ ap (λ b. b || (is_on_row (out-Expr e) && of_each_part (map-Expr Expr Bool (is_covered (plain_keys keys)) (out-Expr e)))) h

pub covered_parts : (keys : List Key) (e : Expr) → is_read_whole keys e ≡ false → is_covered (plain_keys keys) e ≡ (is_on_row (out-Expr e) && of_each_part (map-Expr Expr Bool (is_covered (plain_keys keys)) (out-Expr e)))
covered_parts keys e h = covered_by keys e ∙ ap (λ b. b || (is_on_row (out-Expr e) && of_each_part (map-Expr Expr Bool (is_covered (plain_keys keys)) (out-Expr e)))) h

-- of an expression whose top level is l
pub covered_top : (keys : List Key) (e : Expr) (l : Expr-F Expr) → is_read_whole keys e ≡ false → out-Expr e ≡ l → is_covered (plain_keys keys) e ≡ (is_on_row l && of_each_part (map-Expr Expr Bool (is_covered (plain_keys keys)) l))
covered_top keys e l h top = subst (λ m. is_covered (plain_keys keys) e ≡ (is_on_row m && of_each_part (map-Expr Expr Bool (is_covered (plain_keys keys)) m))) top (covered_parts keys e h)
