-- An expression over the keys of an index, level by level.
use Rattle.std.proofs.Common.{◌≡◌, ℕ, suc, ◌+◌, Bool, true, false, not, ◌&&◌, List, [], ◌∷◌, map, length, nat_lt, Option, Some, None, option_map, cond, refl, sym, ap, ap₂, ◌∙◌, arith}
use Rattle.std.specs.List.{position, prefix_len}
use Rattle.std.proofs.lemmas.Bool.Decides.{nat_tests}
use Rattle.n1ql_ast.specs.declared.expr.Expr.{Expr, map-Expr, out-Expr, roll-Expr, roll-out-Expr}
use Rattle.n1ql_ast.specs.declared.expr.Expr.TheOpen.{Expr-F}
use Rattle.n1ql_ast.specs.declared.expr.Expr.TheVariants as expr
use Rattle.n1ql_ast.specs.Equality.{same_tree}
use Rattle.n1ql_ast.specs.Forms.{of_each_part}
use Rattle.n1ql_spans.specs.Covering.{Covering, covering, covering_at, is_on_row, over_keys, own_id, place_among}
use Rattle.n1ql_spans.proofs.Covered.{covering_level}
use Rattle.n1ql_spans.proofs.Maps.{map-map}
use Rattle.n1ql_covered.specs.inner.Levels.{level_over, parts_over}

-- an expression that is read from the row whole, and one that is read part by part
abbrev pub read_whole : Expr → Covering
read_whole e = record { whole = e; over = e; covered = true }

abbrev pub by_parts : List Expr → Expr → Expr-F Expr → Covering
by_parts keys e l =
    let m : Expr-F Covering = map-Expr Expr Covering (covering keys) l in
    record {
      whole = e;
      over = roll-Expr (map-Expr Covering Expr (λ c. c.over) m);
      covered = is_on_row m && of_each_part (map-Expr Covering Bool (λ c. c.covered) m);
    }

module _ (keys : List Expr) where
  abbrev rolled : Expr-F Expr → Expr
  rolled l = roll-Expr (map-Expr Expr Expr (over_keys keys) l)

  -- as the code builds it
  built : (l : Expr-F Expr) → rolled l ≡ level_over keys l
  built (Expr-F.Const v) = expr.rolls-Const v
  built Expr-F.Doc = expr.rolls-Doc
  built (Expr-F.MetaOf own) = expr.rolls-MetaOf own
  built (Expr-F.Var name) = expr.rolls-Var name
  built (Expr-F.Key at) = expr.rolls-Key at
  built (Expr-F.Field x name) = expr.rolls-Field (over_keys keys x) name
  built (Expr-F.Place x at) = expr.rolls-Place (over_keys keys x) (over_keys keys at)
  built (Expr-F.Not x) = expr.rolls-Not (over_keys keys x)
  built (Expr-F.Neg x) = expr.rolls-Neg (over_keys keys x)
  built (Expr-F.Two op x y) = expr.rolls-Two op (over_keys keys x) (over_keys keys y)
  built (Expr-F.Is test x) = expr.rolls-Is test (over_keys keys x)
  built (Expr-F.Among x y) = expr.rolls-Among (over_keys keys x) (over_keys keys y)
  built (Expr-F.Between x low high) = expr.rolls-Between (over_keys keys x) (over_keys keys low) (over_keys keys high)
  built (Expr-F.Call fun xs) = expr.rolls-Call fun (map (over_keys keys) xs)
  built (Expr-F.List xs) = expr.rolls-List (map (over_keys keys) xs)
  built (Expr-F.Build names xs) = expr.rolls-Build names (map (over_keys keys) xs)
  built (Expr-F.Case whens thens None) = expr.rolls-Case (map (over_keys keys) whens) (map (over_keys keys) thens) None
  built (Expr-F.Case whens thens (Some other)) = expr.rolls-Case (map (over_keys keys) whens) (map (over_keys keys) thens) (Some (over_keys keys other))
  built (Expr-F.Any name over test) = expr.rolls-Any name (over_keys keys over) (over_keys keys test)
  built (Expr-F.Every name over test) = expr.rolls-Every name (over_keys keys over) (over_keys keys test)
  built (Expr-F.Each name item over None) = expr.rolls-Each name (over_keys keys item) (over_keys keys over) None
  built (Expr-F.Each name item over (Some when)) = expr.rolls-Each name (over_keys keys item) (over_keys keys over) (Some (over_keys keys when))
  built (Expr-F.First name item over None) = expr.rolls-First name (over_keys keys item) (over_keys keys over) None
  built (Expr-F.First name item over (Some when)) = expr.rolls-First name (over_keys keys item) (over_keys keys over) (Some (over_keys keys when))
  built (Expr-F.Agg agg None) = expr.rolls-Agg agg None
  built (Expr-F.Agg agg (Some x)) = expr.rolls-Agg agg (Some (over_keys keys x))

  abbrev over_at : Option ℕ → Expr → Expr-F Expr → Expr
  over_at place e l = (covering_at place e (map-Expr Expr Covering (covering keys) l)).over

  over_level : (e : Expr) → over_keys keys e ≡ over_at (place_among keys e) e (out-Expr e)
  over_level e =
      let l : Expr-F Expr = out-Expr e in
      ap (over_keys keys) (sym (roll-out-Expr e))
      ∙ (ap (λ (c : Covering). c.over) (covering_level keys l)
      ∙ ap (λ x. over_at (place_among keys x) x l) (roll-out-Expr e))

  parts_at : (e : Expr) (l : Expr-F Expr) → same_tree own_id e ≡ false → over_at None e l ≡ level_over keys l
  parts_at e l other =
      ap (λ b. (cond b (read_whole e) (by_parts keys e l)).over) other
      ∙ (ap roll-Expr (map-map (covering keys) (λ (c : Covering). c.over) l) ∙ built l)

-- ---- the place of a key, as the code finds it

next_below : (p n : ℕ) → nat_lt (1 + p) (suc n) ≡ nat_lt p n
next_below p n = grind (arith, nat_tests)

none_below : (n : ℕ) → nat_lt 0 (suc n) ≡ true
none_below n = grind (arith, nat_tests)

next_is : (p : ℕ) → 1 + p ≡ suc p
next_is p = omega arith

found_at : (b : Bool) (p n : ℕ) → cond (nat_lt (cond (not b) (1 + p) 0) (suc n)) (Some (cond (not b) (1 + p) 0)) None
    ≡ cond b (Some 0) (option_map suc (cond (nat_lt p n) (Some p) None))
found_at true p n = ap (λ c. cond c (Some 0) None) (none_below n)
found_at false p n =
    ap₂ (λ c m. cond c (Some m) None) (next_below p n) (next_is p)
    ∙ elim (nat_lt p n) as (λ c. cond c (Some (suc p)) None ≡ option_map suc (cond c (Some p) None)) [ true ↦ refl | false ↦ refl ]

pub place_is : (keys : List Expr) (e : Expr) → position (λ k. same_tree k e) keys ≡ place_among keys e
place_is [] e = refl
place_is (k ∷ keys) e =
    found_at (same_tree k e) (prefix_len (λ x. not (same_tree x e)) keys) (length keys)
    ∙ ap (λ o. cond (same_tree k e) (Some 0) (option_map suc o)) (place_is keys e)

-- ---- as the code makes it

module _ (keys : List Expr) (e : Expr) where
  abbrev place : Option ℕ
  place = position (λ (k : Expr). same_tree k e) keys

  pub over_at_place : (at : ℕ) → place ≡ Some at → over_keys keys e ≡ expr.Key at
  over_at_place at is = over_level keys e ∙ ap (λ p. over_at keys p e (out-Expr e)) (sym (place_is keys e) ∙ is)

  pub over_own_id : place ≡ None → same_tree own_id e ≡ true → over_keys keys e ≡ e
  over_own_id is own =
      over_level keys e
      ∙ (ap (λ p. over_at keys p e (out-Expr e)) (sym (place_is keys e) ∙ is)
      ∙ ap (λ b. (cond b (read_whole e) (by_parts keys e (out-Expr e))).over) own)

  pub over_by_parts : place ≡ None → same_tree own_id e ≡ false → over_keys keys e ≡ parts_over keys e
  over_by_parts is other =
      over_level keys e ∙ (ap (λ p. over_at keys p e (out-Expr e)) (sym (place_is keys e) ∙ is) ∙ parts_at keys e (out-Expr e) other)
