-- The congruence of evaluation: an expression that is read in two environments is the same in both where its parts are. It ranges
-- over relations between environments, so no clause can hold it; crates above cite `agrees`.
--
-- A reading is what an expression is in an environment, level by level, where its aggregates are what they are given to be:
-- `value_of` is the reading without a group of rows.
use Rattle.std.proofs.Common.{◌≡◌, ℕ, Bool, true, false, ◌&&◌, List, [], ◌∷◌, map, Option, Some, None, option_map, IsTrue, refl, sym, ap, ap₂, subst, ◌∙◌}
use Rattle.std.specs.Prelude.{⊤, unwrap_or}
use Rattle.std.specs.List.{list_any, list_all, filter, find, zip}
use mathlib.Core.Path.{fun_ext}
use Rattle.n1ql_value.specs.declared.value.Value.{Value}
use Rattle.n1ql_value.specs.declared.value.Value.TheVariants.{Array}
use Rattle.n1ql_value.specs.declared.value.Value.TheVariants as value
use Rattle.n1ql_value.specs.Datum.{datum_of}
use Rattle.n1ql_value.specs.Kinds.{is_true, or_missing, or_null}
use Rattle.n1ql_value.specs.Logic.{not_of}
use Rattle.n1ql_value.specs.Comparison.{in_of, between_of}
use Rattle.n1ql_value.specs.Arithmetic.{negation_of}
use Rattle.n1ql_value.specs.Operators.{operation_of}
use Rattle.n1ql_value.specs.Paths.{field_of, place_of}
use Rattle.n1ql_value.specs.Constructors.{array_of, object_of}
use Rattle.n1ql_value.specs.FunctionValues.{call_of}
use Rattle.n1ql_ast.specs.declared.agg.Agg.{Agg}
use Rattle.n1ql_ast.specs.declared.expr.Expr.{Expr, map-Expr, roll-Expr, ind-Expr, fold-roll-Expr}
use Rattle.n1ql_ast.specs.declared.expr.Expr.TheOpen.{Expr-F}
use Rattle.n1ql_ast.specs.Bindings.{in_scope, holds_within}
use Rattle.n1ql_ast.specs.Evaluation.{Environment, inside, level_in, values_in, passes, value_at_element, over_elements, elements_given, first_case, test_of}
use Rattle.n1ql_ast.specs.Forms.{all_hold, held_if_any, of_each_part}

-- what an aggregate is, given what its expression is in each environment
abbrev pub Aggregates : Type 0
Aggregates = Agg → Option (Environment → Value) → Environment → Value

abbrev pub level_with : Aggregates → Expr-F (Environment → Value) → Environment → Value
level_with aggregates (Expr-F.Agg agg x) env = aggregates agg x env
level_with aggregates level env = level_in level env

-- `read` goes by levels, with these aggregates
abbrev pub GoesByLevels : Aggregates → (Expr → Environment → Value) → Type 0
GoesByLevels aggregates read = (l : Expr-F Expr) (env : Environment)
    → read (roll-Expr l) env ≡ level_with aggregates (map-Expr Expr (Environment → Value) read l) env

-- How two environments stand to each other where s is known of the names in scope; this goes inside whatever binds a name, with
-- the same value in both.
abbrev pub GoesInside : {S : Type 0} → (List ℕ → S → S) → (S → Environment → Environment → Type 0) → Type 0
GoesInside {S = S} enter R = (s : S) (name : List ℕ) (v : Value) (a b : Environment) → R s a b → R (enter name s) (inside name v a) (inside name v b)

-- the two readings of an expression agree
abbrev pub Same : {S : Type 0} → (S → Environment → Environment → Type 0) → (f g : Expr → Environment → Value) → S → Expr → Type 0
Same R f g s x = (a b : Environment) → R s a b → f x a ≡ g x b

abbrev pub SameIfAny : {S : Type 0} → (S → Environment → Environment → Type 0) → (f g : Expr → Environment → Value) → S → Option Expr → Type 0
SameIfAny R f g s None = ⊤
SameIfAny R f g s (Some x) = Same R f g s x

-- the two readings agree on one level, with aggregates p and q
abbrev pub LevelSame : {S : Type 0} → (S → Environment → Environment → Type 0) → (p q : Aggregates) → (f g : Expr → Environment → Value) → S → Expr-F Expr → Type 0
LevelSame R p q f g s l = (a b : Environment) → R s a b
    → level_with p (map-Expr Expr (Environment → Value) f l) a ≡ level_with q (map-Expr Expr (Environment → Value) g l) b

-- They agree on a level that reads the environment itself: the document, META, a variable, a key, or an aggregate on whose
-- expression they agree.
abbrev pub LeafSame : {S : Type 0} → (S → Environment → Environment → Type 0) → (p q : Aggregates) → (f g : Expr → Environment → Value) → S → Expr-F Expr → Type 0
LeafSame R p q f g s Expr-F.Doc = LevelSame R p q f g s Expr-F.Doc
LeafSame R p q f g s (Expr-F.MetaOf own) = LevelSame R p q f g s (Expr-F.MetaOf own)
LeafSame R p q f g s (Expr-F.Var name) = LevelSame R p q f g s (Expr-F.Var name)
LeafSame R p q f g s (Expr-F.Key at) = LevelSame R p q f g s (Expr-F.Key at)
LeafSame R p q f g s (Expr-F.Agg agg x) = SameIfAny R f g s x → LevelSame R p q f g s (Expr-F.Agg agg x)
LeafSame R p q f g s _ = ⊤

-- S is what is known of the names in scope, R s how two environments stand to each other where s is known
module _ {S : Type 0} (enter : List ℕ → S → S) (R : S → Environment → Environment → Type 0) (goes_in : GoesInside enter R)
    (p q : Aggregates) (f g : Expr → Environment → Value) where
  abbrev AllSame : S → List Expr → Type 0
  AllSame s [] = Unit {0}
  AllSame s (x ∷ xs) = Same R f g s x × AllSame s xs

  -- the two readings agree on each part in its scope
  abbrev PartsSame : S → Expr-F Expr → Type 0
  PartsSame s (Expr-F.Const v) = Unit {0}
  PartsSame s Expr-F.Doc = LevelSame R p q f g s Expr-F.Doc
  PartsSame s (Expr-F.MetaOf own) = LevelSame R p q f g s (Expr-F.MetaOf own)
  PartsSame s (Expr-F.Var name) = LevelSame R p q f g s (Expr-F.Var name)
  PartsSame s (Expr-F.Key at) = LevelSame R p q f g s (Expr-F.Key at)
  PartsSame s (Expr-F.Field x name) = Same R f g s x
  PartsSame s (Expr-F.Place x at) = Same R f g s x × Same R f g s at
  PartsSame s (Expr-F.Not x) = Same R f g s x
  PartsSame s (Expr-F.Neg x) = Same R f g s x
  PartsSame s (Expr-F.Two op x y) = Same R f g s x × Same R f g s y
  PartsSame s (Expr-F.Is test x) = Same R f g s x
  PartsSame s (Expr-F.Among x y) = Same R f g s x × Same R f g s y
  PartsSame s (Expr-F.Between x low high) = Same R f g s x × (Same R f g s low × Same R f g s high)
  PartsSame s (Expr-F.Call fun xs) = AllSame s xs
  PartsSame s (Expr-F.List xs) = AllSame s xs
  PartsSame s (Expr-F.Build names xs) = AllSame s xs
  PartsSame s (Expr-F.Case whens thens other) = AllSame s whens × (AllSame s thens × SameIfAny R f g s other)
  PartsSame s (Expr-F.Any name over test) = Same R f g s over × Same R f g (enter name s) test
  PartsSame s (Expr-F.Every name over test) = Same R f g s over × Same R f g (enter name s) test
  PartsSame s (Expr-F.Each name item over when) = Same R f g (enter name s) item × (Same R f g s over × SameIfAny R f g (enter name s) when)
  PartsSame s (Expr-F.First name item over when) = Same R f g (enter name s) item × (Same R f g s over × SameIfAny R f g (enter name s) when)
  PartsSame s (Expr-F.Agg agg x) = LevelSame R p q f g s (Expr-F.Agg agg x)

  values_same : (s : S) (xs : List Expr) → AllSame s xs → (a b : Environment) → R s a b → values_in (map f xs) a ≡ values_in (map g xs) b
  values_same s [] h a b r = refl
  values_same s (x ∷ xs) h a b r = cc (h.0 a b r, values_same s xs h.1 a b r)

  option_same : (s : S) (x : Option Expr) → SameIfAny R f g s x → (a b : Environment) → R s a b
      → option_map (λ (y : Environment → Value). y a) (option_map f x) ≡ option_map (λ (y : Environment → Value). y b) (option_map g x)
  option_same s None h a b r = refl
  option_same s (Some x) h a b r = ap Some (h a b r)

  test_same : (s : S) (name : List ℕ) (x : Expr) → Same R f g (enter name s) x → (a b : Environment) → R s a b
      → passes (Some (f x)) name a ≡ passes (Some (g x)) name b
  test_same s name x h a b r = fun_ext (λ v. ap is_true (h (inside name v a) (inside name v b) (goes_in s name v a b r)))

  when_same : (s : S) (name : List ℕ) (x : Option Expr) → SameIfAny R f g (enter name s) x → (a b : Environment) → R s a b
      → passes (option_map f x) name a ≡ passes (option_map g x) name b
  when_same s name None h a b r = fun_ext (λ v. refl)
  when_same s name (Some x) h a b r = test_same s name x h a b r

  item_same : (s : S) (name : List ℕ) (x : Expr) → Same R f g (enter name s) x → (a b : Environment) → R s a b
      → value_at_element (f x) name a ≡ value_at_element (g x) name b
  item_same s name x h a b r = fun_ext (λ v. h (inside name v a) (inside name v b) (goes_in s name v a b r))

  level_same : (s : S) (l : Expr-F Expr) → PartsSame s l → LevelSame R p q f g s l
  level_same s (Expr-F.Const v) h a b r = refl
  level_same s Expr-F.Doc h a b r = h a b r
  level_same s (Expr-F.MetaOf own) h a b r = h a b r
  level_same s (Expr-F.Var name) h a b r = h a b r
  level_same s (Expr-F.Key at) h a b r = h a b r
  level_same s (Expr-F.Field x name) h a b r = ap (field_of name) (h a b r)
  level_same s (Expr-F.Place x at) h a b r = ap₂ place_of (h.0 a b r) (h.1 a b r)
  level_same s (Expr-F.Not x) h a b r = ap not_of (h a b r)
  level_same s (Expr-F.Neg x) h a b r = ap negation_of (h a b r)
  level_same s (Expr-F.Two op x y) h a b r = ap₂ (operation_of op) (h.0 a b r) (h.1 a b r)
  level_same s (Expr-F.Is test x) h a b r = ap (test_of test) (h a b r)
  level_same s (Expr-F.Among x y) h a b r = ap₂ in_of (h.0 a b r) (h.1 a b r)
  level_same s (Expr-F.Between x low high) h a b r =
      ap (λ v. between_of v (f low a) (f high a)) (h.0 a b r) ∙ ap₂ (between_of (g x b)) (h.1.0 a b r) (h.1.1 a b r)
  level_same s (Expr-F.Call fun xs) h a b r = ap (λ vs. call_of fun (map datum_of vs)) (values_same s xs h a b r)
  level_same s (Expr-F.List xs) h a b r = ap (λ vs. array_of (map datum_of vs)) (values_same s xs h a b r)
  level_same s (Expr-F.Build names xs) h a b r = ap (λ vs. object_of (zip names (map datum_of vs))) (values_same s xs h a b r)
  level_same s (Expr-F.Case whens thens None) h a b r =
      ap₂ (λ ws ts. unwrap_or (first_case ws ts) (or_null None)) (values_same s whens h.0 a b r) (values_same s thens h.1.0 a b r)
  level_same s (Expr-F.Case whens thens (Some other)) h a b r =
      ap₂ (λ ws ts. unwrap_or (first_case ws ts) (f other a)) (values_same s whens h.0 a b r) (values_same s thens h.1.0 a b r)
      ∙ ap (λ v. unwrap_or (first_case (values_in (map g whens) b) (values_in (map g thens) b)) v) (h.1.1 a b r)
  level_same s (Expr-F.Any name over test) h a b r =
      ap₂ (λ so v. over_elements (λ vs. value.Bool (list_any so vs)) v) (test_same s name test h.1 a b r) (h.0 a b r)
  level_same s (Expr-F.Every name over test) h a b r =
      ap₂ (λ so v. over_elements (λ vs. value.Bool (list_all so vs)) v) (test_same s name test h.1 a b r) (h.0 a b r)
  level_same s (Expr-F.Each name item over None) h a b r =
      ap₂ (λ at v. over_elements (λ vs. Array (elements_given (map at (filter (passes None name b) vs)))) v) (item_same s name item h.0 a b r) (h.1.0 a b r)
  level_same s (Expr-F.Each name item over (Some when)) h a b r =
      ap (λ so. over_elements (λ vs. Array (elements_given (map (value_at_element (f item) name a) (filter so vs)))) (f over a)) (test_same s name when h.1.1 a b r)
      ∙ ap₂ (λ at v. over_elements (λ vs. Array (elements_given (map at (filter (passes (Some (g when)) name b) vs)))) v) (item_same s name item h.0 a b r) (h.1.0 a b r)
  level_same s (Expr-F.First name item over None) h a b r =
      ap₂ (λ at v. over_elements (λ vs. or_missing (option_map at (find (passes None name b) vs))) v) (item_same s name item h.0 a b r) (h.1.0 a b r)
  level_same s (Expr-F.First name item over (Some when)) h a b r =
      ap (λ so. over_elements (λ vs. or_missing (option_map (value_at_element (f item) name a) (find so vs))) (f over a)) (test_same s name when h.1.1 a b r)
      ∙ ap₂ (λ at v. over_elements (λ vs. or_missing (option_map at (find (passes (Some (g when)) name b) vs))) v) (item_same s name item h.0 a b r) (h.1.0 a b r)
  level_same s (Expr-F.Agg agg x) h a b r = h a b r

  -- By induction: where `fine` holds of an expression in a scope, its two readings agree. `fine` holds of each part in its scope.
  module _ (fine : Expr → S → Bool) where
    abbrev Agrees : Expr → Type 0
    Agrees e = (s : S) → IsTrue (fine e s) → Same R f g s e

    abbrev Known : Type 0
    Known = (e : Expr) × Agrees e

    both : (a b : Bool) → IsTrue (a && b) → IsTrue a × IsTrue b
    both true b h = (refl, h)
    both false b h = absurd cc

    abbrev holds_of_all : S → List Known → Bool
    holds_of_all s xs = all_hold (map (λ (x : S → Bool). x s) (map fine (map (λ (k : Known). k.0) xs)))

    all_parts : (s : S) (xs : List Known) → IsTrue (all_hold (map (λ (x : S → Bool). x s) (map fine (map (λ (k : Known). k.0) xs)))) → AllSame s (map (λ (k : Known). k.0) xs)
    all_parts s [] h = tt
    all_parts s (k ∷ ks) h =
        let two = both (fine k.0 s) (all_hold (map (λ (x : S → Bool). x s) (map fine (map (λ (k : Known). k.0) ks)))) h in
        (k.1 s two.0, all_parts s ks two.1)

    any_part : (s : S) (x : Option Known) → IsTrue (held_if_any (option_map (λ (x : S → Bool). x s) (option_map fine (option_map (λ (k : Known). k.0) x)))) → SameIfAny R f g s (option_map (λ (k : Known). k.0) x)
    any_part s None h = tt
    any_part s (Some k) h = k.1 s h

    -- the level of an expression whose parts are known, and what `fine` says of the parts
    abbrev top : Expr-F Known → Expr-F Expr
    top y = map-Expr Known Expr (λ k. k.0) y

    abbrev parts_fine : S → Expr-F Expr → Bool
    parts_fine s l = of_each_part (in_scope enter (map-Expr Expr (S → Bool) fine l) s)

    parts_same : (s : S) (y : Expr-F Known) → LeafSame R p q f g s (top y) → IsTrue (parts_fine s (top y)) → PartsSame s (top y)
    parts_same s (Expr-F.Const v) leaf h = tt
    parts_same s Expr-F.Doc leaf h = leaf
    parts_same s (Expr-F.MetaOf own) leaf h = leaf
    parts_same s (Expr-F.Var name) leaf h = leaf
    parts_same s (Expr-F.Key at) leaf h = leaf
    parts_same s (Expr-F.Field x name) leaf h = x.1 s h
    parts_same s (Expr-F.Place x at) leaf h = let two = both (fine x.0 s) (fine at.0 s) h in (x.1 s two.0, at.1 s two.1)
    parts_same s (Expr-F.Not x) leaf h = x.1 s h
    parts_same s (Expr-F.Neg x) leaf h = x.1 s h
    parts_same s (Expr-F.Two op x y) leaf h = let two = both (fine x.0 s) (fine y.0 s) h in (x.1 s two.0, y.1 s two.1)
    parts_same s (Expr-F.Is test x) leaf h = x.1 s h
    parts_same s (Expr-F.Among x y) leaf h = let two = both (fine x.0 s) (fine y.0 s) h in (x.1 s two.0, y.1 s two.1)
    parts_same s (Expr-F.Between x low high) leaf h =
        let two = both (fine x.0 s) (fine low.0 s && fine high.0 s) h in
        let rest = both (fine low.0 s) (fine high.0 s) two.1 in
        (x.1 s two.0, (low.1 s rest.0, high.1 s rest.1))
    parts_same s (Expr-F.Call fun xs) leaf h = all_parts s xs h
    parts_same s (Expr-F.List xs) leaf h = all_parts s xs h
    parts_same s (Expr-F.Build names xs) leaf h = all_parts s xs h
    parts_same s (Expr-F.Case whens thens None) leaf h =
        let two = both (holds_of_all s whens) (holds_of_all s thens && true) h in
        (all_parts s whens two.0, (all_parts s thens (both (holds_of_all s thens) true two.1).0, tt))
    parts_same s (Expr-F.Case whens thens (Some other)) leaf h =
        let two = both (holds_of_all s whens) (holds_of_all s thens && fine other.0 s) h in
        let rest = both (holds_of_all s thens) (fine other.0 s) two.1 in
        (all_parts s whens two.0, (all_parts s thens rest.0, other.1 s rest.1))
    parts_same s (Expr-F.Any name over test) leaf h =
        let two = both (fine over.0 s) (fine test.0 (enter name s)) h in (over.1 s two.0, test.1 (enter name s) two.1)
    parts_same s (Expr-F.Every name over test) leaf h =
        let two = both (fine over.0 s) (fine test.0 (enter name s)) h in (over.1 s two.0, test.1 (enter name s) two.1)
    parts_same s (Expr-F.Each name item over None) leaf h =
        let two = both (fine item.0 (enter name s)) (fine over.0 s && true) h in
        (item.1 (enter name s) two.0, (over.1 s (both (fine over.0 s) true two.1).0, tt))
    parts_same s (Expr-F.Each name item over (Some when)) leaf h =
        let two = both (fine item.0 (enter name s)) (fine over.0 s && fine when.0 (enter name s)) h in
        let rest = both (fine over.0 s) (fine when.0 (enter name s)) two.1 in
        (item.1 (enter name s) two.0, (over.1 s rest.0, when.1 (enter name s) rest.1))
    parts_same s (Expr-F.First name item over None) leaf h =
        let two = both (fine item.0 (enter name s)) (fine over.0 s && true) h in
        (item.1 (enter name s) two.0, (over.1 s (both (fine over.0 s) true two.1).0, tt))
    parts_same s (Expr-F.First name item over (Some when)) leaf h =
        let two = both (fine item.0 (enter name s)) (fine over.0 s && fine when.0 (enter name s)) h in
        let rest = both (fine over.0 s) (fine when.0 (enter name s)) two.1 in
        (item.1 (enter name s) two.0, (over.1 s rest.0, when.1 (enter name s) rest.1))
    parts_same s (Expr-F.Agg agg None) leaf h = leaf tt
    parts_same s (Expr-F.Agg agg (Some x)) leaf h = leaf (x.1 s h)

  module _ (own : Expr-F (S → Bool) → S → Bool) (by_f : GoesByLevels p f) (by_g : GoesByLevels q g)
      (leaf : (s : S) (l : Expr-F Expr) → IsTrue (own (map-Expr Expr (S → Bool) (holds_within enter own) l) s) → LeafSame R p q f g s l) where
    abbrev within : Expr → S → Bool
    within = holds_within enter own

    agrees_at : (y : Expr-F (Known within)) → Agrees within (roll-Expr (top within y))
    agrees_at y s h a b r =
        let l : Expr-F Expr = top within y in
        let fine_at : IsTrue (own (map-Expr Expr (S → Bool) within l) s && parts_fine within s l) =
        subst IsTrue (ap (λ (t : S → Bool). t s) (fold-roll-Expr (S → Bool) (λ l s. own l s && of_each_part (in_scope enter l s)) l)) h in
        let two = both within (own (map-Expr Expr (S → Bool) within l) s) (parts_fine within s l) fine_at in
        by_f l a ∙ (level_same s l (parts_same within s y (leaf s l two.0) two.1) a b r ∙ sym (by_g l b))

    pub agrees : (e : Expr) (s : S) → IsTrue (holds_within enter own e s) → Same R f g s e
    agrees = ind-Expr (Agrees within) (λ x y is. subst (λ z. Agrees within (roll-Expr z)) is (agrees_at y))
