-- Comparisons, IS, IN and BETWEEN.
use Rattle.std.specs.Prelude.{◌≡◌, ℕ, suc, Bool, true, false, nat_le, List, [], ◌∷◌, Option, Some, None, refl}
use Rattle.std.proofs.Common.{sym, ap, ◌∙◌, subst, arith}
use Rattle.n1ql_value.specs.declared.op.Op.{Op}
use Rattle.n1ql_ast.specs.declared.token_class.TokenClass.{TokenClass}
use Rattle.n1ql_ast.specs.declared.token_class.TokenClass.TheVariants.{Keyword, Name, Str, Num, Other}
use Rattle.n1ql_ast.specs.declared.keyword.Keyword.{Keyword as AnyKeyword}
use Rattle.n1ql_ast.specs.declared.keyword.Keyword.TheVariants as keyword
use Rattle.n1ql_ast.specs.declared.unresolved_expr.UnresolvedExpr.{UnresolvedExpr}
use Rattle.n1ql_ast.specs.declared.unresolved_expr.UnresolvedExpr.TheVariants as unresolved
use Rattle.n1ql_ast.specs.declared.test.Test.{Test}
use Rattle.n1ql_ast.specs.declared.test.Test.TheVariants as test
use Rattle.n1ql_ast.specs.Operators.{compare_of}
use Rattle.n1ql_ast.specs.Grammar as g
use Rattle.n1ql_ast.specs.Grammar.{IsRel, MayTest, IsTest, IsRange, IsAdd}
use Rattle.n1ql_parse.specs.declared.expressions.precedence.Precedence.{Precedence}
use Rattle.n1ql_parse.specs.declared.expressions.precedence.Precedence.TheVariants as precedence
use Rattle.n1ql_parse.specs.inner.Steps.{got, Parser, and_then, ◌<$>◌}
use Rattle.n1ql_parse.specs.inner.Parser.{test_of, tested, between, among, range, not_range, is_form, comparison, relation_on, relation}
use Rattle.n1ql_parse.proofs.Reading.Prefixes.{Rel, Stops, Within, Completes, Links, Seq, seq, Pure, none_taken, Next, meant, Either, one, other}
use Rattle.n1ql_parse.proofs.Reading.Combined.{ends, within_as, within_eq, within_seq, within_pure, within_less, within_required, required, links_pure, completes_pure, completes_seq}
use Rattle.n1ql_parse.proofs.Reading.Looks.{Then, behind, completes_then, links_then}
use Rattle.n1ql_parse.proofs.Reading.Taken.{Operated, operated, within_operator}
use Rattle.n1ql_parse.proofs.Reading.Precedences.{up_to, compare_rank, tighter_stops}
use Rattle.n1ql_parse.proofs.Reading.Choices.{IsFrom, Choice, choice_eat, within_then, within_may}
use Rattle.n1ql_parse.proofs.Reading.Zero.{completes_at}

-- What IS tests.

abbrev pub test_seen : TokenClass → Option Test
test_seen (Keyword keyword.Null) = Some test.Null
test_seen (Keyword keyword.Missing) = Some test.Missing
test_seen (Keyword keyword.Valued) = Some test.Valued
test_seen _ = None

test_required : {A : Type 0} (f : Test → Parser A) (ts : List TokenClass) → and_then (test_of ts) f ≡ required test_seen f ts
test_required f [] = refl
test_required f (Keyword keyword.Null ∷ ts) = refl
test_required f (Keyword _ ∷ ts) = refl
test_required f (Name text quoted ∷ ts) = refl
test_required f (Str text ∷ ts) = refl
test_required f (Num n ∷ ts) = refl
test_required f (Other ∷ ts) = refl

test_at : (x : UnresolvedExpr) (t : TokenClass) (c : Test) (us vs : List TokenClass) (y : UnresolvedExpr) → test_seen t ≡ Some c → Pure (unresolved.Is c x) us y vs → IsTest x (t ∷ us) y vs
test_at x (Keyword keyword.Null) c us vs y e r = ends (IsTest x) r (subst (λ c. IsTest x (Keyword keyword.Null ∷ us) (unresolved.Is c x) us) (some_is e) g.is_null)
  where
    some_is : {a b : Test} → Some a ≡ Some b → a ≡ b
    some_is h = cc
test_at x (Keyword keyword.Missing) c us vs y e r = ends (IsTest x) r (subst (λ c. IsTest x (Keyword keyword.Missing ∷ us) (unresolved.Is c x) us) (some_is e) g.is_missing)
  where
    some_is : {a b : Test} → Some a ≡ Some b → a ≡ b
    some_is h = cc
test_at x (Keyword keyword.Valued) c us vs y e r = ends (IsTest x) r (subst (λ c. IsTest x (Keyword keyword.Valued ∷ us) (unresolved.Is c x) us) (some_is e) g.is_valued)
  where
    some_is : {a b : Test} → Some a ≡ Some b → a ≡ b
    some_is h = cc
test_at x (Keyword _) c us vs y e r = cc
test_at x (Name text quoted) c us vs y e r = cc
test_at x (Str text) c us vs y e r = cc
test_at x (Num n) c us vs y e r = cc
test_at x Other c us vs y e r = cc

abbrev TestNext : UnresolvedExpr → Rel UnresolvedExpr
TestNext x = Next test_seen (λ c. Pure (unresolved.Is c x))

of_test : (x : UnresolvedExpr) (us vs : List TokenClass) (y : UnresolvedExpr) → IsTest x us y vs → TestNext x us y vs
of_test x _ _ _ (g.is_null {ts = ts}) = meant (Keyword keyword.Null) test.Null ts refl refl none_taken
of_test x _ _ _ (g.is_missing {ts = ts}) = meant (Keyword keyword.Missing) test.Missing ts refl refl none_taken
of_test x _ _ _ (g.is_valued {ts = ts}) = meant (Keyword keyword.Valued) test.Valued ts refl refl none_taken

test_of_next : (x : UnresolvedExpr) (us vs : List TokenClass) (y : UnresolvedExpr) → TestNext x us y vs → IsTest x us y vs
test_of_next x us vs y (meant t c ws at seen r) = subst (λ l. IsTest x l y vs) (sym at) (test_at x t c ws vs y seen r)

within_tested : (n : ℕ) (goes : TokenClass → Bool) (x : UnresolvedExpr) → Within (suc n) goes (IsTest x) (tested x)
unfolding tested
within_tested n goes x = within_eq
    (within_as {before = goes} (within_required {look = test_seen} {R = λ c. Pure (unresolved.Is c x)} (λ c. within_pure (unresolved.Is c x))
    (record { more = Keyword keyword.Null ∷ []; tree = unresolved.Is test.Null x; reads = λ us. of_test x _ us _ g.is_null }))
    (test_of_next x) (λ us vs y q st. (of_test x us vs y q, st)))
    (test_required (λ c ts. got (unresolved.Is c x) ts))

completes_test : (x : UnresolvedExpr) → Completes (IsTest x)
completes_test x = record { more = Keyword keyword.Null ∷ []; tree = unresolved.Is test.Null x; reads = λ us. g.is_null }

no_not_test : {x y : UnresolvedExpr} {us vs : List TokenClass} → IsTest x (Keyword keyword.Not ∷ us) y vs → ⊥
no_not_test h = elim h [ ]

same_stops : (t : TokenClass) → up_to 5 t ≡ false → up_to 5 t ≡ false
same_stops t e = e

-- the order in which the tests after an operand are tried
abbrev turn : TokenClass → ℕ
turn (Keyword keyword.Is) = 0
turn (Keyword keyword.Not) = 1
turn (Keyword keyword.In) = 2
turn (Keyword keyword.Between) = 3
turn (Keyword keyword.Equal) = 4
turn (Keyword keyword.DoubleEqual) = 4
turn (Keyword keyword.NotEqual) = 4
turn (Keyword keyword.LessGreater) = 4
turn (Keyword keyword.Less) = 4
turn (Keyword keyword.LessEqual) = 4
turn (Keyword keyword.Greater) = 4
turn (Keyword keyword.GreaterEqual) = 4
turn _ = 5

compare_turn : (m : AnyKeyword) (o : Op) → compare_of m ≡ Some o → turn (Keyword m) ≡ 4
compare_turn keyword.Equal o e = refl
compare_turn keyword.DoubleEqual o e = refl
compare_turn keyword.NotEqual o e = refl
compare_turn keyword.LessGreater o e = refl
compare_turn keyword.Less o e = refl
compare_turn keyword.LessEqual o e = refl
compare_turn keyword.Greater o e = refl
compare_turn keyword.GreaterEqual o e = refl
compare_turn _ o e = cc

stop_turn : (t : TokenClass) → up_to 5 t ≡ false → nat_le 4 (turn t) ≡ true
stop_turn (Keyword keyword.Is) e = cc
stop_turn (Keyword keyword.Not) e = cc
stop_turn (Keyword keyword.In) e = cc
stop_turn (Keyword keyword.Between) e = cc
stop_turn (Keyword _) e = refl
stop_turn (Name text quoted) e = refl
stop_turn (Str text) e = refl
stop_turn (Num n) e = refl
stop_turn Other e = refl

module _ (inner : Bool → Precedence → Parser UnresolvedExpr) (agg : Bool) where
  abbrev Add : ℕ → Type 0
  Add n = Within n (up_to 4) (IsAdd agg) (inner agg precedence.Add)

  abbrev High : UnresolvedExpr → UnresolvedExpr → Rel UnresolvedExpr
  High x low = Seq (IsAdd agg) (λ high. Pure (unresolved.Between x low high))

  abbrev Betweens : UnresolvedExpr → Rel UnresolvedExpr
  Betweens x = Seq (IsAdd agg) (λ low. Then keyword.And (High x low))

  completes_high : (x low : UnresolvedExpr) → Completes (High x low)
  completes_high x low = completes_seq (completes_at agg precedence.Add) (λ high. completes_pure (unresolved.Between x low high))

  within_between : (n : ℕ) → Add n → (x : UnresolvedExpr) → Within n (up_to 5) (Betweens x) (between inner agg x)
  unfolding between
  within_between n w x = within_seq w
      (λ low. within_then keyword.And
      (within_seq w (λ high. within_pure (unresolved.Between x low high)) (λ high. links_pure (tighter_stops 4 5 (omega arith))) (λ high. completes_pure (unresolved.Between x low high)))
      (completes_high x low))
      (λ low. links_then refl) (λ low. completes_then keyword.And (completes_high x low))

  abbrev Amongs : UnresolvedExpr → Rel UnresolvedExpr
  Amongs x = Seq (IsAdd agg) (λ y. Pure (unresolved.Among x y))

  within_among : (n : ℕ) → Add n → (x : UnresolvedExpr) → Within n (up_to 5) (Amongs x) (among inner agg x)
  unfolding among
  within_among n w x = within_seq w (λ y. within_pure (unresolved.Among x y)) (λ y. links_pure (tighter_stops 4 5 (omega arith))) (λ y. completes_pure (unresolved.Among x y))

  range_of : (x : UnresolvedExpr) (us vs : List TokenClass) (y : UnresolvedExpr) → Either (Then keyword.In (Amongs x)) (Then keyword.Between (Betweens x)) us y vs → IsRange agg x us y vs
  range_of x us vs y (one (behind (seq z ws p e))) = ends (IsRange agg x) e (g.range_in p)
  range_of x us vs y (other (behind (seq low _ p (behind (seq high ws q e))))) = ends (IsRange agg x) e (g.range_between p q)

  of_range : (x : UnresolvedExpr) (us vs : List TokenClass) (y : UnresolvedExpr) → IsRange agg x us y vs → Either (Then keyword.In (Amongs x)) (Then keyword.Between (Betweens x)) us y vs
  of_range x us vs y (g.range_in p) = one (behind (seq _ _ p none_taken))
  of_range x us vs y (g.range_between p q) = other (behind (seq _ _ p (behind (seq _ _ q none_taken))))

  completes_betweens : (x : UnresolvedExpr) → Completes (Betweens x)
  completes_betweens x = completes_seq (completes_at agg precedence.Add) (λ low. completes_then keyword.And (completes_high x low))

  within_range : (n : ℕ) → Add n → (x : UnresolvedExpr) → Within n (up_to 5) (IsRange agg x) (range inner agg x)
  unfolding range
  within_range n w x = within_as {before = up_to 5}
      (within_may keyword.In (within_among n w x) (within_then keyword.Between (within_between n w x) (completes_betweens x)) (λ us vs y r st. elim r [ ]))
      (range_of x) (λ us vs y q st. (of_range x us vs y q, st))

  -- what NOT stands before
  abbrev Denied : Rel UnresolvedExpr → Rel UnresolvedExpr
  Denied R = Seq R (λ y. Pure (unresolved.Not y))

  within_not : {n : ℕ} {R : Rel UnresolvedExpr} {p : Parser UnresolvedExpr} → Within n (up_to 5) R p → Within n (up_to 5) (Denied R) (unresolved.Not <$> p)
  within_not w = within_seq w (λ y. within_pure (unresolved.Not y)) (λ y. links_pure same_stops) (λ y. completes_pure (unresolved.Not y))

  abbrev IsForm : UnresolvedExpr → Rel UnresolvedExpr
  IsForm x = Either (Then keyword.Not (Denied (IsTest x))) (IsTest x)

  within_is_form : (n : ℕ) (x : UnresolvedExpr) → Within n (up_to 5) (IsForm x) (is_form inner agg x)
  unfolding is_form
  within_is_form n x = within_may keyword.Not (within_not (within_less (omega arith) (within_tested n (up_to 5) x))) (within_less (omega arith) (within_tested n (up_to 5) x)) (λ us vs y r st. no_not_test r)

  abbrev Compared : UnresolvedExpr → Rel UnresolvedExpr
  Compared x = Either (Operated precedence.Test (λ o. Seq (IsAdd agg) (λ y. Pure (unresolved.Two o x y)))) (Pure x)

  choice_comparison : (n : ℕ) → Add n → (x : UnresolvedExpr) → Choice turn 4 (suc n) (up_to 5) (Compared x) (comparison inner agg x)
  unfolding comparison
  choice_comparison n w x = record {
    within = within_operator precedence.Test
        (λ o. within_seq w (λ y. within_pure (unresolved.Two o x y)) (λ y. links_pure (tighter_stops 4 5 (omega arith))) (λ y. completes_pure (unresolved.Two o x y)))
        (within_pure x) off;
    begins = begins;
  }
    where
      off : (m : AnyKeyword) (o : Op) (us vs : List TokenClass) (y : UnresolvedExpr) → compare_of m ≡ Some o → Pure x (Keyword m ∷ us) y vs → Stops (up_to 5) vs → ⊥
      off m o us _ _ e none_taken st = let h : true ≡ false = sym (ap (λ r. nat_le r 5) (compare_rank m o e)) ∙ st in cc

      stopped : (us : List TokenClass) → Stops (up_to 5) us → IsFrom turn 4 us
      stopped [] st = tt
      stopped (t ∷ us) st = stop_turn t st

      begins : (us vs : List TokenClass) (y : UnresolvedExpr) → Compared x us y vs → Stops (up_to 5) vs → IsFrom turn 4 us
      begins _ vs y (one (operated {operator = operator} {o = o} e r)) st = ap (λ r. nat_le 4 r) (compare_turn operator o e)
      begins us _ _ (other none_taken) st = stopped us st

  abbrev Tests : UnresolvedExpr → Rel UnresolvedExpr
  Tests x = Either (Then keyword.Is (IsForm x)) (Either (Then keyword.Not (Denied (IsRange agg x))) (Either (Then keyword.In (Amongs x)) (Either (Then keyword.Between (Betweens x)) (Compared x))))

  tests_of : (x : UnresolvedExpr) (us vs : List TokenClass) (y : UnresolvedExpr) → MayTest agg x us y vs → Tests x us y vs
  tests_of x us vs y g.test_none = other (other (other (other (other none_taken))))
  tests_of x us vs y (g.test_compare e p) = other (other (other (other (one (operated e (seq _ _ p none_taken))))))
  tests_of x us vs y (g.test_is p) = one (behind (other p))
  tests_of x us vs y (g.test_is_not p) = one (behind (one (behind (seq _ _ p none_taken))))
  tests_of x us vs y (g.test_range (g.range_in p)) = other (other (one (behind (seq _ _ p none_taken))))
  tests_of x us vs y (g.test_range (g.range_between p q)) = other (other (other (one (behind (seq _ _ p (behind (seq _ _ q none_taken)))))))
  tests_of x us vs y (g.test_not_range p) = other (one (behind (seq _ _ p none_taken)))

  of_tests : (x : UnresolvedExpr) (us vs : List TokenClass) (y : UnresolvedExpr) → Tests x us y vs → MayTest agg x us y vs
  of_tests x us vs y (one (behind (one (behind (seq z ws p e))))) = ends (MayTest agg x) e (g.test_is_not p)
  of_tests x us vs y (one (behind (other p))) = g.test_is p
  of_tests x us vs y (other (one (behind (seq z ws p e)))) = ends (MayTest agg x) e (g.test_not_range p)
  of_tests x us vs y (other (other (one (behind (seq z ws p e))))) = ends (MayTest agg x) e (g.test_range (g.range_in p))
  of_tests x us vs y (other (other (other (one (behind (seq low _ p (behind (seq high ws q e)))))))) = ends (MayTest agg x) e (g.test_range (g.range_between p q))
  of_tests x us vs y (other (other (other (other (one (operated h (seq z ws p e))))))) = ends (MayTest agg x) e (g.test_compare h p)
  of_tests x us vs y (other (other (other (other (other none_taken))))) = g.test_none

  within_relation_on : (n : ℕ) → Add n → (x : UnresolvedExpr) → Within (suc n) (up_to 5) (MayTest agg x) (relation_on inner agg x)
  unfolding relation_on not_range
  within_relation_on n w x =
      let compared = choice_comparison n w x in
      let betweens = choice_eat keyword.Between refl (within_between n w x) compared in
      let amongs = choice_eat keyword.In refl (within_among n w x) betweens in
      let negative = choice_eat keyword.Not refl (within_not (within_range n w x)) amongs in
      let forms = choice_eat keyword.Is refl (within_is_form n x) negative in
      within_as {before = up_to 5} forms.within (of_tests x) (λ us vs y q st. (tests_of x us vs y q, st))

  links_tests : (x : UnresolvedExpr) → Links (up_to 4) (up_to 5) (MayTest agg x)
  links_tests x = record { stops = go }
    where
      weaker : (vs : List TokenClass) → Stops (up_to 5) vs → Stops (up_to 4) vs
      weaker [] st = tt
      weaker (t ∷ vs) st = tighter_stops 4 5 (omega arith) t st

      go : (us vs : List TokenClass) (y : UnresolvedExpr) → MayTest agg x us y vs → Stops (up_to 5) vs → Stops (up_to 4) us
      go us vs y g.test_none st = weaker us st
      go _ vs y (g.test_compare {operator = operator} {o = o} e p) st = ap (λ r. nat_le r 4) (compare_rank operator o e)
      go us vs y (g.test_is p) st = refl
      go us vs y (g.test_is_not p) st = refl
      go us vs y (g.test_range (g.range_in p)) st = refl
      go us vs y (g.test_range (g.range_between p q)) st = refl
      go us vs y (g.test_not_range p) st = refl

  pub within_relation : (n : ℕ) → Within (suc n) (up_to 4) (IsAdd agg) (inner agg precedence.Add) → Within (suc n) (up_to 5) (IsRel agg) (relation inner agg)
  unfolding relation
  within_relation n w = within_as {before = up_to 5}
      (within_seq w (within_relation_on n (within_less (omega arith) w)) links_tests (λ x. record { more = []; tree = x; reads = λ us. g.test_none }))
      to (λ us vs y q st. (from us vs y q, st))
    where
      to : (us vs : List TokenClass) (y : UnresolvedExpr) → Seq (IsAdd agg) (MayTest agg) us y vs → IsRel agg us y vs
      to us vs y (seq x ws p q) = g.rel p q

      from : (us vs : List TokenClass) (y : UnresolvedExpr) → IsRel agg us y vs → Seq (IsAdd agg) (MayTest agg) us y vs
      from us vs y (g.rel p q) = seq _ _ p q
