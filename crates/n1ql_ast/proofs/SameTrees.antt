-- Two expressions are the same tree exactly where they are equal.
use Rattle.std.proofs.Common.{◌≡◌, ℕ, Bool, true, false, ◌&&◌, ◌==◌, List, [], ◌∷◌, map, Some, None, IsTrue, refl, sym, ap, ap₂, subst, ◌∙◌, arith}
use Rattle.std.specs.Prelude.{bytes_eq}
use Rattle.std.specs.Bool.{Decides}
use Rattle.std.specs.Cmp.{IsTotalOrder}
use Rattle.std.specs.Ordering.{is_eq}
use Rattle.std.specs.declared.cmp.Ordering.{Ordering}
use Rattle.std.specs.declared.cmp.Ordering.TheVariants.{Less, Equal, Greater}
use Rattle.std.proofs.lemmas.Bool.{true≢false}
use Rattle.std.proofs.lemmas.Bool.Decides.{nat_tests}
use Rattle.std.proofs.lemmas.Cmp.{tied_itself}
use Rattle.std.proofs.lemmas.Slice.Eq.{bytes_eq-Decides}
use denote.Enum.Bare.{same_true, true_same, sameb}
use Rattle.n1ql_value.specs.declared.datum.Datum.{Datum}
use Rattle.n1ql_value.specs.declared.value.Value.{Value}
use Rattle.n1ql_value.specs.Collation.{value_cmp}
use Rattle.n1ql_value.specs.Datum.{datum_of, value_of, value_of-datum_of}
use Rattle.n1ql_value.specs.contracts.op.Op as op
use Rattle.n1ql_value.specs.contracts.fun.Fun as fun
use Rattle.n1ql_ast.specs.contracts.test.Test as test
use Rattle.n1ql_ast.specs.contracts.agg.Agg as agg
use Rattle.n1ql_ast.specs.declared.expr.Expr.{Expr, fold-roll-Expr, ind-Expr, map-Expr, out-Expr, out-roll-Expr, roll-Expr, roll-out-Expr}
use Rattle.n1ql_ast.specs.declared.expr.Expr.TheOpen.{Expr-F}
use Rattle.n1ql_ast.specs.Equality.{all_same, same_bool, same_level, same_names, same_tree, same_value}

and : (a b : Bool) → IsTrue a → IsTrue b → IsTrue (a && b)
and true b h k = k
and false b h k = h

equal_of : (r : Ordering) → IsTrue (is_eq r) → r ≡ Equal
equal_of Less h = absurd cc
equal_of Equal h = refl
equal_of Greater h = absurd cc

both : (a b : Bool) → IsTrue (a && b) → IsTrue a × IsTrue b
both true b h = (refl, h)
both false b h = absurd cc

-- over an order of values that is total and calls only the same values equal
module _ (total : IsTotalOrder value_cmp) (exact : (a b : Datum) → value_cmp a b ≡ Equal → a ≡ b) where
  abbrev Exact : Expr → Type 0
  Exact a = (b : Expr) → IsTrue (same_tree a b) → a ≡ b

  abbrev Known : Type 0
  Known = (a : Expr) × Exact a

  value_is : (v w : Value) → IsTrue (same_value v w) → v ≡ w
  value_is v w h = sym (value_of-datum_of v) ∙ (ap value_of (exact (datum_of v) (datum_of w) (equal_of (value_cmp (datum_of v) (datum_of w)) h)) ∙ value_of-datum_of w)

  bool_is : (a b : Bool) → IsTrue (same_bool a b) → a ≡ b
  bool_is true true h = refl
  bool_is false false h = refl
  bool_is true false h = absurd cc
  bool_is false true h = absurd cc

  nat_is : (m n : ℕ) → IsTrue (m == n) → m ≡ n
  nat_is m n h = grind (arith, nat_tests)

  bytes_is : (xs ys : List ℕ) → IsTrue (bytes_eq xs ys) → xs ≡ ys
  bytes_is xs ys h = (bytes_eq-Decides xs ys).0 h

  names_is : (ms ns : List (List ℕ)) → IsTrue (same_names ms ns) → ms ≡ ns
  names_is [] [] h = refl
  names_is [] (n ∷ ns) h = absurd cc
  names_is (m ∷ ms) [] h = absurd cc
  names_is (m ∷ ms) (n ∷ ns) h = let two = both (bytes_eq m n) (same_names ms ns) h in ap₂ ◌∷◌ (bytes_is m n two.0) (names_is ms ns two.1)

  all_is : (xs : List Known) (ys : List Expr) → IsTrue (all_same (map same_tree (map (λ (k : Known). k.0) xs)) ys) → map (λ (k : Known). k.0) xs ≡ ys
  all_is [] [] h = refl
  all_is [] (y ∷ ys) h = absurd cc
  all_is (x ∷ xs) [] h = absurd cc
  all_is (x ∷ xs) (y ∷ ys) h = let two = both (same_tree x.0 y) (all_same (map same_tree (map (λ (k : Known). k.0) xs)) ys) h in ap₂ ◌∷◌ (x.1 y two.0) (all_is xs ys two.1)

  abbrev top : Expr-F Known → Expr-F Expr
  top y = map-Expr Known Expr (λ k. k.0) y

  abbrev level : Expr-F Known → Expr-F Expr → Bool
  level y m = same_level (map-Expr Expr (Expr → Bool) same_tree (top y)) m

  level_is : (y : Expr-F Known) (m : Expr-F Expr) → IsTrue (level y m) → top y ≡ m
  level_is (Expr-F.Const x0) (Expr-F.Const y0) h =
      ap (λ z. Expr-F.Const z) (value_is x0 y0 h)
  level_is (Expr-F.Doc) (Expr-F.Doc) h = refl
  level_is (Expr-F.MetaOf x0) (Expr-F.MetaOf y0) h =
      ap (λ z. Expr-F.MetaOf z) (bool_is x0 y0 h)
  level_is (Expr-F.Var x0) (Expr-F.Var y0) h =
      ap (λ z. Expr-F.Var z) (bytes_is x0 y0 h)
  level_is (Expr-F.Key x0) (Expr-F.Key y0) h =
      ap (λ z. Expr-F.Key z) (nat_is x0 y0 h)
  level_is (Expr-F.Field x0 x1) (Expr-F.Field y0 y1) h =
      let t0 = both (same_tree x0.0 y0) (bytes_eq x1 y1) h in
      ap (λ z. Expr-F.Field z x1) (x0.1 y0 t0.0)
      ∙ (ap (λ z. Expr-F.Field y0 z) (bytes_is x1 y1 t0.1))
  level_is (Expr-F.Place x0 x1) (Expr-F.Place y0 y1) h =
      let t0 = both (same_tree x0.0 y0) (same_tree x1.0 y1) h in
      ap (λ z. Expr-F.Place z x1.0) (x0.1 y0 t0.0)
      ∙ (ap (λ z. Expr-F.Place y0 z) (x1.1 y1 t0.1))
  level_is (Expr-F.Not x0) (Expr-F.Not y0) h =
      ap (λ z. Expr-F.Not z) (x0.1 y0 h)
  level_is (Expr-F.Neg x0) (Expr-F.Neg y0) h =
      ap (λ z. Expr-F.Neg z) (x0.1 y0 h)
  level_is (Expr-F.Two x0 x1 x2) (Expr-F.Two y0 y1 y2) h =
      let t0 = both (sameb op.the_type x0 y0) (same_tree x1.0 y1 && (same_tree x2.0 y2)) h in
      let t1 = both (same_tree x1.0 y1) (same_tree x2.0 y2) t0.1 in
      ap (λ z. Expr-F.Two z x1.0 x2.0) (same_true op.the_type tt x0 y0 t0.0)
      ∙ (ap (λ z. Expr-F.Two y0 z x2.0) (x1.1 y1 t1.0)
      ∙ (ap (λ z. Expr-F.Two y0 y1 z) (x2.1 y2 t1.1)))
  level_is (Expr-F.Is x0 x1) (Expr-F.Is y0 y1) h =
      let t0 = both (sameb test.the_type x0 y0) (same_tree x1.0 y1) h in
      ap (λ z. Expr-F.Is z x1.0) (same_true test.the_type tt x0 y0 t0.0)
      ∙ (ap (λ z. Expr-F.Is y0 z) (x1.1 y1 t0.1))
  level_is (Expr-F.Among x0 x1) (Expr-F.Among y0 y1) h =
      let t0 = both (same_tree x0.0 y0) (same_tree x1.0 y1) h in
      ap (λ z. Expr-F.Among z x1.0) (x0.1 y0 t0.0)
      ∙ (ap (λ z. Expr-F.Among y0 z) (x1.1 y1 t0.1))
  level_is (Expr-F.Between x0 x1 x2) (Expr-F.Between y0 y1 y2) h =
      let t0 = both (same_tree x0.0 y0) (same_tree x1.0 y1 && (same_tree x2.0 y2)) h in
      let t1 = both (same_tree x1.0 y1) (same_tree x2.0 y2) t0.1 in
      ap (λ z. Expr-F.Between z x1.0 x2.0) (x0.1 y0 t0.0)
      ∙ (ap (λ z. Expr-F.Between y0 z x2.0) (x1.1 y1 t1.0)
      ∙ (ap (λ z. Expr-F.Between y0 y1 z) (x2.1 y2 t1.1)))
  level_is (Expr-F.Call x0 x1) (Expr-F.Call y0 y1) h =
      let t0 = both (sameb fun.the_type x0 y0) (all_same (map same_tree (map (λ (k : Known). k.0) x1)) y1) h in
      ap (λ z. Expr-F.Call z (map (λ (k : Known). k.0) x1)) (same_true fun.the_type tt x0 y0 t0.0)
      ∙ (ap (λ z. Expr-F.Call y0 z) (all_is x1 y1 t0.1))
  level_is (Expr-F.List x0) (Expr-F.List y0) h =
      ap (λ z. Expr-F.List z) (all_is x0 y0 h)
  level_is (Expr-F.Build x0 x1) (Expr-F.Build y0 y1) h =
      let t0 = both (same_names x0 y0) (all_same (map same_tree (map (λ (k : Known). k.0) x1)) y1) h in
      ap (λ z. Expr-F.Build z (map (λ (k : Known). k.0) x1)) (names_is x0 y0 t0.0)
      ∙ (ap (λ z. Expr-F.Build y0 z) (all_is x1 y1 t0.1))
  level_is (Expr-F.Case x0 x1 None) (Expr-F.Case y0 y1 None) h =
      let t0 = both (all_same (map same_tree (map (λ (k : Known). k.0) x0)) y0) (all_same (map same_tree (map (λ (k : Known). k.0) x1)) y1 && (true)) h in
      let t1 = both (all_same (map same_tree (map (λ (k : Known). k.0) x1)) y1) (true) t0.1 in
      ap (λ z. Expr-F.Case z (map (λ (k : Known). k.0) x1) None) (all_is x0 y0 t0.0)
      ∙ (ap (λ z. Expr-F.Case y0 z None) (all_is x1 y1 t1.0))
  level_is (Expr-F.Case x0 x1 (Some x2)) (Expr-F.Case y0 y1 (Some y2)) h =
      let t0 = both (all_same (map same_tree (map (λ (k : Known). k.0) x0)) y0) (all_same (map same_tree (map (λ (k : Known). k.0) x1)) y1 && (same_tree x2.0 y2)) h in
      let t1 = both (all_same (map same_tree (map (λ (k : Known). k.0) x1)) y1) (same_tree x2.0 y2) t0.1 in
      ap (λ z. Expr-F.Case z (map (λ (k : Known). k.0) x1) (Some x2.0)) (all_is x0 y0 t0.0)
      ∙ (ap (λ z. Expr-F.Case y0 z (Some x2.0)) (all_is x1 y1 t1.0)
      ∙ (ap (λ z. Expr-F.Case y0 y1 (Some z)) (x2.1 y2 t1.1)))
  level_is (Expr-F.Any x0 x1 x2) (Expr-F.Any y0 y1 y2) h =
      let t0 = both (bytes_eq x0 y0) (same_tree x1.0 y1 && (same_tree x2.0 y2)) h in
      let t1 = both (same_tree x1.0 y1) (same_tree x2.0 y2) t0.1 in
      ap (λ z. Expr-F.Any z x1.0 x2.0) (bytes_is x0 y0 t0.0)
      ∙ (ap (λ z. Expr-F.Any y0 z x2.0) (x1.1 y1 t1.0)
      ∙ (ap (λ z. Expr-F.Any y0 y1 z) (x2.1 y2 t1.1)))
  level_is (Expr-F.Every x0 x1 x2) (Expr-F.Every y0 y1 y2) h =
      let t0 = both (bytes_eq x0 y0) (same_tree x1.0 y1 && (same_tree x2.0 y2)) h in
      let t1 = both (same_tree x1.0 y1) (same_tree x2.0 y2) t0.1 in
      ap (λ z. Expr-F.Every z x1.0 x2.0) (bytes_is x0 y0 t0.0)
      ∙ (ap (λ z. Expr-F.Every y0 z x2.0) (x1.1 y1 t1.0)
      ∙ (ap (λ z. Expr-F.Every y0 y1 z) (x2.1 y2 t1.1)))
  level_is (Expr-F.Each x0 x1 x2 None) (Expr-F.Each y0 y1 y2 None) h =
      let t0 = both (bytes_eq x0 y0) (same_tree x1.0 y1 && (same_tree x2.0 y2 && (true))) h in
      let t1 = both (same_tree x1.0 y1) (same_tree x2.0 y2 && (true)) t0.1 in
      let t2 = both (same_tree x2.0 y2) (true) t1.1 in
      ap (λ z. Expr-F.Each z x1.0 x2.0 None) (bytes_is x0 y0 t0.0)
      ∙ (ap (λ z. Expr-F.Each y0 z x2.0 None) (x1.1 y1 t1.0)
      ∙ (ap (λ z. Expr-F.Each y0 y1 z None) (x2.1 y2 t2.0)))
  level_is (Expr-F.Each x0 x1 x2 (Some x3)) (Expr-F.Each y0 y1 y2 (Some y3)) h =
      let t0 = both (bytes_eq x0 y0) (same_tree x1.0 y1 && (same_tree x2.0 y2 && (same_tree x3.0 y3))) h in
      let t1 = both (same_tree x1.0 y1) (same_tree x2.0 y2 && (same_tree x3.0 y3)) t0.1 in
      let t2 = both (same_tree x2.0 y2) (same_tree x3.0 y3) t1.1 in
      ap (λ z. Expr-F.Each z x1.0 x2.0 (Some x3.0)) (bytes_is x0 y0 t0.0)
      ∙ (ap (λ z. Expr-F.Each y0 z x2.0 (Some x3.0)) (x1.1 y1 t1.0)
      ∙ (ap (λ z. Expr-F.Each y0 y1 z (Some x3.0)) (x2.1 y2 t2.0)
      ∙ (ap (λ z. Expr-F.Each y0 y1 y2 (Some z)) (x3.1 y3 t2.1))))
  level_is (Expr-F.First x0 x1 x2 None) (Expr-F.First y0 y1 y2 None) h =
      let t0 = both (bytes_eq x0 y0) (same_tree x1.0 y1 && (same_tree x2.0 y2 && (true))) h in
      let t1 = both (same_tree x1.0 y1) (same_tree x2.0 y2 && (true)) t0.1 in
      let t2 = both (same_tree x2.0 y2) (true) t1.1 in
      ap (λ z. Expr-F.First z x1.0 x2.0 None) (bytes_is x0 y0 t0.0)
      ∙ (ap (λ z. Expr-F.First y0 z x2.0 None) (x1.1 y1 t1.0)
      ∙ (ap (λ z. Expr-F.First y0 y1 z None) (x2.1 y2 t2.0)))
  level_is (Expr-F.First x0 x1 x2 (Some x3)) (Expr-F.First y0 y1 y2 (Some y3)) h =
      let t0 = both (bytes_eq x0 y0) (same_tree x1.0 y1 && (same_tree x2.0 y2 && (same_tree x3.0 y3))) h in
      let t1 = both (same_tree x1.0 y1) (same_tree x2.0 y2 && (same_tree x3.0 y3)) t0.1 in
      let t2 = both (same_tree x2.0 y2) (same_tree x3.0 y3) t1.1 in
      ap (λ z. Expr-F.First z x1.0 x2.0 (Some x3.0)) (bytes_is x0 y0 t0.0)
      ∙ (ap (λ z. Expr-F.First y0 z x2.0 (Some x3.0)) (x1.1 y1 t1.0)
      ∙ (ap (λ z. Expr-F.First y0 y1 z (Some x3.0)) (x2.1 y2 t2.0)
      ∙ (ap (λ z. Expr-F.First y0 y1 y2 (Some z)) (x3.1 y3 t2.1))))
  level_is (Expr-F.Agg x0 None) (Expr-F.Agg y0 None) h =
      let t0 = both (sameb agg.the_type x0 y0) (true) h in
      ap (λ z. Expr-F.Agg z None) (same_true agg.the_type tt x0 y0 t0.0)
  level_is (Expr-F.Agg x0 (Some x1)) (Expr-F.Agg y0 (Some y1)) h =
      let t0 = both (sameb agg.the_type x0 y0) (same_tree x1.0 y1) h in
      ap (λ z. Expr-F.Agg z (Some x1.0)) (same_true agg.the_type tt x0 y0 t0.0)
      ∙ (ap (λ z. Expr-F.Agg y0 (Some z)) (x1.1 y1 t0.1))
  level_is (Expr-F.Case x0 x1 None) (Expr-F.Case y0 y1 (Some z)) h =
      let t0 = both (all_same (map same_tree (map (λ (k : Known). k.0) x0)) y0) ((all_same (map same_tree (map (λ (k : Known). k.0) x1)) y1) && false) h in
      absurd (true≢false (sym (both (all_same (map same_tree (map (λ (k : Known). k.0) x1)) y1) false t0.1).1))
  level_is (Expr-F.Each x0 x1 x2 None) (Expr-F.Each y0 y1 y2 (Some z)) h =
      let t0 = both (bytes_eq x0 y0) (same_tree x1.0 y1 && (same_tree x2.0 y2 && false)) h in
      let t1 = both (same_tree x1.0 y1) (same_tree x2.0 y2 && false) t0.1 in
      absurd (true≢false (sym (both (same_tree x2.0 y2) false t1.1).1))
  level_is (Expr-F.First x0 x1 x2 None) (Expr-F.First y0 y1 y2 (Some z)) h =
      let t0 = both (bytes_eq x0 y0) (same_tree x1.0 y1 && (same_tree x2.0 y2 && false)) h in
      let t1 = both (same_tree x1.0 y1) (same_tree x2.0 y2 && false) t0.1 in
      absurd (true≢false (sym (both (same_tree x2.0 y2) false t1.1).1))
  level_is (Expr-F.Agg x0 None) (Expr-F.Agg y0 (Some z)) h = absurd (true≢false (sym (both (sameb agg.the_type x0 y0) false h).1))
  level_is (Expr-F.Case x0 x1 (Some x)) (Expr-F.Case y0 y1 None) h =
      let t0 = both (all_same (map same_tree (map (λ (k : Known). k.0) x0)) y0) ((all_same (map same_tree (map (λ (k : Known). k.0) x1)) y1) && false) h in
      absurd (true≢false (sym (both (all_same (map same_tree (map (λ (k : Known). k.0) x1)) y1) false t0.1).1))
  level_is (Expr-F.Each x0 x1 x2 (Some x)) (Expr-F.Each y0 y1 y2 None) h =
      let t0 = both (bytes_eq x0 y0) (same_tree x1.0 y1 && (same_tree x2.0 y2 && false)) h in
      let t1 = both (same_tree x1.0 y1) (same_tree x2.0 y2 && false) t0.1 in
      absurd (true≢false (sym (both (same_tree x2.0 y2) false t1.1).1))
  level_is (Expr-F.First x0 x1 x2 (Some x)) (Expr-F.First y0 y1 y2 None) h =
      let t0 = both (bytes_eq x0 y0) (same_tree x1.0 y1 && (same_tree x2.0 y2 && false)) h in
      let t1 = both (same_tree x1.0 y1) (same_tree x2.0 y2 && false) t0.1 in
      absurd (true≢false (sym (both (same_tree x2.0 y2) false t1.1).1))
  level_is (Expr-F.Agg x0 (Some x)) (Expr-F.Agg y0 None) h = absurd (true≢false (sym (both (sameb agg.the_type x0 y0) false h).1))
  level_is y m h = absurd (true≢false (sym h))

  exact_at : (y : Expr-F Known) → Exact (roll-Expr (top y))
  exact_at y b h =
      let at : IsTrue (level y (out-Expr b)) = subst (λ (f : Expr → Bool). IsTrue (f b)) (fold-roll-Expr (Expr → Bool) (λ l e. same_level l (out-Expr e)) (top y)) h in
      ap roll-Expr (level_is y (out-Expr b) at) ∙ roll-out-Expr b

  same_tree-exact : (a : Expr) → Exact a
  same_tree-exact = ind-Expr Exact (λ x y is. subst (λ z. Exact (roll-Expr z)) is (exact_at y))

  -- and each expression is the same as itself
  abbrev Itself : Expr → Type 0
  Itself a = IsTrue (same_tree a a)

  abbrev SameKnown : Type 0
  SameKnown = (a : Expr) × Itself a

  abbrev same_top : Expr-F SameKnown → Expr-F Expr
  same_top y = map-Expr SameKnown Expr (λ k. k.0) y

  value_itself : (v : Value) → IsTrue (same_value v v)
  value_itself v = ap is_eq (tied_itself total (datum_of v))

  bool_itself : (b : Bool) → IsTrue (same_bool b b)
  bool_itself true = refl
  bool_itself false = refl

  nat_itself : (n : ℕ) → IsTrue (n == n)
  nat_itself n = grind (arith, nat_tests)

  bytes_itself : (xs : List ℕ) → IsTrue (bytes_eq xs xs)
  bytes_itself xs = (bytes_eq-Decides xs xs).1 refl

  names_itself : (ms : List (List ℕ)) → IsTrue (same_names ms ms)
  names_itself [] = refl
  names_itself (m ∷ ms) = and _ _ (bytes_itself m) (names_itself ms)

  all_itself : (xs : List SameKnown) → IsTrue (all_same (map same_tree (map (λ (k : SameKnown). k.0) xs)) (map (λ (k : SameKnown). k.0) xs))
  all_itself [] = refl
  all_itself (x ∷ xs) = and _ _ x.1 (all_itself xs)

  level_itself : (y : Expr-F SameKnown) → IsTrue (same_level (map-Expr Expr (Expr → Bool) same_tree (same_top y)) (same_top y))
  level_itself (Expr-F.Const v) = value_itself v
  level_itself Expr-F.Doc = refl
  level_itself (Expr-F.MetaOf own) = bool_itself own
  level_itself (Expr-F.Var name) = bytes_itself name
  level_itself (Expr-F.Key at) = nat_itself at
  level_itself (Expr-F.Field x name) = and _ _ x.1 (bytes_itself name)
  level_itself (Expr-F.Place x at) = and _ _ x.1 at.1
  level_itself (Expr-F.Not x) = x.1
  level_itself (Expr-F.Neg x) = x.1
  level_itself (Expr-F.Two o x y) = and _ _ (true_same op.the_type o o refl) (and _ _ x.1 y.1)
  level_itself (Expr-F.Is o x) = and _ _ (true_same test.the_type o o refl) x.1
  level_itself (Expr-F.Among x y) = and _ _ x.1 y.1
  level_itself (Expr-F.Between x low high) = and _ _ x.1 (and _ _ low.1 high.1)
  level_itself (Expr-F.Call o xs) = and _ _ (true_same fun.the_type o o refl) (all_itself xs)
  level_itself (Expr-F.List xs) = all_itself xs
  level_itself (Expr-F.Build names xs) = and _ _ (names_itself names) (all_itself xs)
  level_itself (Expr-F.Case whens thens None) = and _ _ (all_itself whens) (and _ _ (all_itself thens) refl)
  level_itself (Expr-F.Case whens thens (Some other)) = and _ _ (all_itself whens) (and _ _ (all_itself thens) other.1)
  level_itself (Expr-F.Any name over t) = and _ _ (bytes_itself name) (and _ _ over.1 t.1)
  level_itself (Expr-F.Every name over t) = and _ _ (bytes_itself name) (and _ _ over.1 t.1)
  level_itself (Expr-F.Each name item over None) = and _ _ (bytes_itself name) (and _ _ item.1 (and _ _ over.1 refl))
  level_itself (Expr-F.Each name item over (Some when)) = and _ _ (bytes_itself name) (and _ _ item.1 (and _ _ over.1 when.1))
  level_itself (Expr-F.First name item over None) = and _ _ (bytes_itself name) (and _ _ item.1 (and _ _ over.1 refl))
  level_itself (Expr-F.First name item over (Some when)) = and _ _ (bytes_itself name) (and _ _ item.1 (and _ _ over.1 when.1))
  level_itself (Expr-F.Agg o None) = and _ _ (true_same agg.the_type o o refl) refl
  level_itself (Expr-F.Agg o (Some x)) = and _ _ (true_same agg.the_type o o refl) x.1

  itself_at : (y : Expr-F SameKnown) → Itself (roll-Expr (same_top y))
  itself_at y =
      let whole : same_tree (roll-Expr (same_top y)) (roll-Expr (same_top y)) ≡ same_level (map-Expr Expr (Expr → Bool) same_tree (same_top y)) (out-Expr (roll-Expr (same_top y))) =
      ap (λ (f : Expr → Bool). f (roll-Expr (same_top y))) (fold-roll-Expr (Expr → Bool) (λ l e. same_level l (out-Expr e)) (same_top y)) in
      subst IsTrue (sym (whole ∙ ap (same_level (map-Expr Expr (Expr → Bool) same_tree (same_top y))) (out-roll-Expr (same_top y)))) (level_itself y)

  itself : (a : Expr) → Itself a
  itself = ind-Expr Itself (λ x y is. subst (λ z. Itself (roll-Expr z)) is (itself_at y))

  pub same_tree-Decides : (a b : Expr) → Decides (same_tree a b) (a ≡ b)
  same_tree-Decides a b = (same_tree-exact a b, λ is. subst (λ (c : Expr). IsTrue (same_tree a c)) is (itself a))
