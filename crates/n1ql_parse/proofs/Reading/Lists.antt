-- Expressions, pairs and arms, one behind the other.
use Rattle.std.specs.Prelude.{◌≡◌, ℕ, zero, suc, ◌<◌, Bool, true, false, if◌then◌else◌, List, [], ◌∷◌, ◌++◌, length, refl}
use Rattle.std.proofs.Common.{sym, ap, ◌∙◌, subst, append_assoc, arith}
use Rattle.n1ql_ast.specs.declared.token_class.TokenClass.{TokenClass}
use Rattle.n1ql_ast.specs.declared.token_class.TokenClass.TheVariants.{Keyword, Str}
use Rattle.n1ql_ast.specs.declared.keyword.Keyword.{Keyword as AnyKeyword}
use Rattle.n1ql_ast.specs.declared.keyword.Keyword.TheVariants as keyword
use Rattle.n1ql_ast.specs.declared.unresolved_expr.UnresolvedExpr.{UnresolvedExpr}
use Rattle.n1ql_ast.specs.Grammar as g
use Rattle.n1ql_ast.specs.Grammar.{IsExpr, IsExprs, MoreExprs, IsPairs, MorePairs, IsArms, MoreArms}
use Rattle.n1ql_parse.specs.declared.expressions.arms.Arms.{Arms}
use Rattle.n1ql_parse.specs.declared.expressions.precedence.Precedence.{Precedence}
use Rattle.n1ql_parse.specs.declared.expressions.precedence.Precedence.TheVariants as precedence
use Rattle.n1ql_parse.specs.declared.expressions.object_fields.ObjectFields.{ObjectFields}
use Rattle.n1ql_parse.specs.inner.Steps.{Parser, got, stuck, and_then, eat}
use Rattle.n1ql_parse.specs.inner.Parser.{with_field, with_arm, no_fields, no_arms, object_field, arm, wholes_from, wholes, object_fields_from, object_fields, arms_from, arms}
use Rattle.n1ql_parse.proofs.Reading.Prefixes.{Rel, next, Stops, Within, Completes, Links, Seq, seq, Pure, none_taken, Either, one, other}
use Rattle.n1ql_parse.proofs.Reading.Combined.{ends, starts, agrees_none, within_as, within_seq, within_pure, within_less, next_none, links_pure, links_either, completes_pure, completes_other, completes_seq}
use Rattle.n1ql_parse.proofs.Reading.Looks.{Then, behind, Quoted, quoted_by, within_eat, within_string, completes_then, completes_string, links_then}
use Rattle.n1ql_parse.proofs.Reading.Precedences.{up_to, tighter_stops}
use Rattle.n1ql_parse.proofs.Reading.Lookahead.{expr_head, exprs_head}
use Rattle.n1ql_parse.proofs.Reading.Zero.{completes_at}
use Rattle.n1ql_parse.proofs.Reading.Choices.{within_then}

-- A keyword and more, or what was found: the form of each of these loops.

pub may_more : {A : Type 0} {n : ℕ} (m : AnyKeyword) → up_to 8 (Keyword m) ≡ true → (x : A) {R : Rel A} {p : Parser A} → Within n (up_to 8) R p →
    Within (suc n) (up_to 8) (Either (Then m R) (Pure x)) (λ ts. and_then (eat m ts) (λ more. if more then p else (λ us. got x us)))
may_more {A = A} m goes x w = within_eat m w (within_pure x) off
  where
    off : (us vs : List TokenClass) (y : A) → Pure x (Keyword m ∷ us) y vs → Stops (up_to 8) vs → ⊥
    off us _ _ none_taken st = let h : true ≡ false = sym goes ∙ st in cc

pub links_may_more : {A : Type 0} {before : TokenClass → Bool} (m : AnyKeyword) → before (Keyword m) ≡ false → ((t : TokenClass) → up_to 8 t ≡ false → before t ≡ false) → (x : A) {R : Rel A} →
    Links before (up_to 8) (Either (Then m R) (Pure x))
links_may_more m off less x = links_either (links_then off) (links_pure less)

empty : {ts : List TokenClass} → length ts < 1 → ts ≡ []
empty {ts = []} h = refl
empty {ts = t ∷ ts} h = absurd (omega arith)

-- a rule that fails where no token is left, and has to
pub within_none : {A : Type 0} {goes : TokenClass → Bool} {R : Rel A} → Completes R → ((vs : List TokenClass) (y : A) → R [] y vs → ⊥) → Within 1 goes R (λ ts. stuck (length ts))
within_none {R = R} c dead = record {
  agrees = λ ts h. agrees_none R ts c (λ us vs y same r st.
      let e = next_none (same ∙ ap next (empty h)) in
      dead vs y (subst (λ l. R l y vs) e r));
}

module _ (inner : Bool → Precedence → Parser UnresolvedExpr) (agg : Bool) where
  abbrev Whole : ℕ → Type 0
  Whole n = Within n (up_to 7) (IsExpr agg) (inner agg precedence.Or)

  -- Expressions with commas between them, behind those that were found.

  pub data FoundExprs (found : List UnresolvedExpr) (ts : List TokenClass) (ys : List UnresolvedExpr) (vs : List TokenClass) : Type 0 where
    found_exprs : (xs : List UnresolvedExpr) → ys ≡ found ++ xs → IsExprs agg ts xs vs → FoundExprs found ts ys vs

  abbrev ExprThenMore : List UnresolvedExpr → Rel (List UnresolvedExpr)
  ExprThenMore found = Seq (IsExpr agg) (λ x. Either (Then keyword.Comma (FoundExprs (found ++ x ∷ []))) (Pure (found ++ x ∷ [])))

  exprs_to : (found : List UnresolvedExpr) (us vs : List TokenClass) (ys : List UnresolvedExpr) → ExprThenMore found us ys vs → FoundExprs found us ys vs
  exprs_to found us vs ys (seq x _ p (one (behind (found_exprs xs e q)))) = found_exprs (x ∷ xs) (e ∙ append_assoc found (x ∷ []) xs) (g.exprs p (g.exprs_more q))
  exprs_to found us vs ys (seq x ws p (other r)) = ends (FoundExprs found) r (found_exprs (x ∷ []) refl (g.exprs p g.exprs_done))

  exprs_from : (found : List UnresolvedExpr) (us vs : List TokenClass) (ys : List UnresolvedExpr) → FoundExprs found us ys vs → ExprThenMore found us ys vs
  exprs_from found us vs ys (found_exprs _ e (g.exprs {x = x} p g.exprs_done)) =
      seq x vs p (other (subst (λ z. Pure (found ++ x ∷ []) vs z vs) (sym e) none_taken))
  exprs_from found us vs ys (found_exprs _ e (g.exprs {x = x} {xs = xs} p (g.exprs_more q))) =
      seq x _ p (one (behind (found_exprs xs (e ∙ sym (append_assoc found (x ∷ []) xs)) q)))

  completes_found_exprs : (found : List UnresolvedExpr) → Completes (FoundExprs found)
  completes_found_exprs found = let c = completes_at agg precedence.Or in
      record { more = c.more; tree = found ++ c.tree ∷ []; reads = λ us. found_exprs (c.tree ∷ []) refl (g.exprs (c.reads us) g.exprs_done) }

  no_exprs : (found : List UnresolvedExpr) (vs : List TokenClass) (ys : List UnresolvedExpr) → FoundExprs found [] ys vs → ⊥
  no_exprs found vs ys (found_exprs xs e p) = exprs_head p

  within_wholes_from : (n : ℕ) → Whole (suc n) → (found : List UnresolvedExpr) → Within (suc n) (up_to 8) (FoundExprs found) (wholes_from inner agg n found)
  unfolding wholes_from
  within_wholes_from zero w found = within_none (completes_found_exprs found) (no_exprs found)
  within_wholes_from (suc n) w found = within_as {before = up_to 8}
      (within_seq w (λ x. may_more keyword.Comma refl (found ++ x ∷ []) (within_wholes_from n (within_less (omega arith) w) (found ++ x ∷ [])))
      (λ x. links_may_more keyword.Comma refl (tighter_stops 7 8 (omega arith)) (found ++ x ∷ [])) (λ x. completes_other (completes_pure (found ++ x ∷ []))))
      (exprs_to found) (λ us vs y q st. (exprs_from found us vs y q, st))

  exprs_whole : (us vs : List TokenClass) (ys : List UnresolvedExpr) → FoundExprs [] us ys vs → IsExprs agg us ys vs
  exprs_whole us vs ys (found_exprs xs e p) = subst (λ zs. IsExprs agg us zs vs) (sym e) p

  pub within_wholes : (n : ℕ) → Whole n → Within n (up_to 8) (IsExprs agg) (wholes inner agg)
  unfolding wholes
  within_wholes n w = within_as {before = up_to 8} {R = FoundExprs []}
      (record { agrees = λ ts h. (within_wholes_from (length ts) (within_less (omega arith) w) []).agrees ts (omega arith) })
      exprs_whole (λ us vs ys q st. (found_exprs ys refl q, st))

  -- ObjectFields, behind those that were found.

  pub data FoundPairs (found : ObjectFields) (ts : List TokenClass) (y : ObjectFields) (vs : List TokenClass) : Type 0 where
    found_pairs : (names : List (List ℕ)) (xs : List UnresolvedExpr) → y.names ≡ found.names ++ names → y.values ≡ found.values ++ xs →
        IsPairs agg ts names xs vs → FoundPairs found ts y vs

  abbrev PairValue : ObjectFields → List ℕ → Rel ObjectFields
  PairValue found key = Seq (IsExpr agg) (λ x. Pure (with_field found key x))

  abbrev OnePair : ObjectFields → Rel ObjectFields
  OnePair found = Quoted (λ key. Then keyword.Colon (PairValue found key))

  abbrev MorePair : ObjectFields → Rel ObjectFields
  MorePair p = Either (Then keyword.Comma (FoundPairs p)) (Pure p)

  more_pairs : (found : ObjectFields) (key : List ℕ) (x : UnresolvedExpr) (us ws vs : List TokenClass) (y : ObjectFields) → IsExpr agg us x ws → MorePair (with_field found key x) ws y vs →
      FoundPairs found (Str key ∷ Keyword keyword.Colon ∷ us) y vs
  more_pairs found key x us _ vs y p (one (behind (found_pairs names xs en ev q))) =
      found_pairs (key ∷ names) (x ∷ xs) (en ∙ append_assoc found.names (key ∷ []) names) (ev ∙ append_assoc found.values (x ∷ []) xs) (g.pairs p (g.pairs_more q))
  more_pairs found key x us ws vs y p (other r) = ends (FoundPairs found) r (found_pairs (key ∷ []) (x ∷ []) refl refl (g.pairs p g.pairs_done))

  pairs_to : (found : ObjectFields) (us vs : List TokenClass) (y : ObjectFields) → Seq (OnePair found) MorePair us y vs → FoundPairs found us y vs
  pairs_to found _ vs y (seq p ms (quoted_by {text = key} (behind {us = us} (seq x ws q e))) r) = more_pairs found key x us ws vs y q (starts MorePair e r)

  same_pairs : {y : ObjectFields} {names : List (List ℕ)} {xs : List UnresolvedExpr} → y.names ≡ names → y.values ≡ xs → y ≡ record { names = names; values = xs }
  same_pairs en ev = λ i. record { names = en i; values = ev i }

  pairs_back : (found : ObjectFields) (us vs : List TokenClass) (y : ObjectFields) → FoundPairs found us y vs → Seq (OnePair found) MorePair us y vs
  pairs_back found _ vs y (found_pairs _ _ en ev (g.pairs {name = key} {x = x} p g.pairs_done)) =
      seq (with_field found key x) vs (quoted_by (behind (seq x vs p none_taken)))
      (other (subst (λ z. Pure (with_field found key x) vs z vs) (sym (same_pairs en ev)) none_taken))
  pairs_back found _ vs y (found_pairs _ _ en ev (g.pairs {name = key} {x = x} p (g.pairs_more {names = names} {xs = xs} q))) =
      seq (with_field found key x) _ (quoted_by (behind (seq x _ p none_taken)))
      (one (behind (found_pairs names xs (en ∙ sym (append_assoc found.names (key ∷ []) names)) (ev ∙ sym (append_assoc found.values (x ∷ []) xs)) q)))

  completes_value : (found : ObjectFields) (key : List ℕ) → Completes (PairValue found key)
  completes_value found key = completes_seq (completes_at agg precedence.Or) (λ x. completes_pure (with_field found key x))

  completes_pair : (found : ObjectFields) → Completes (OnePair found)
  completes_pair found = completes_string (completes_then keyword.Colon (completes_value found []))

  within_pair : (n : ℕ) → Whole n → (found : ObjectFields) → Within (suc n) (up_to 7) (OnePair found) (object_field inner agg found)
  unfolding object_field
  within_pair n w found = within_string (λ key. within_then keyword.Colon
      (within_seq w (λ x. within_pure (with_field found key x)) (λ x. links_pure (λ t e. e)) (λ x. completes_pure (with_field found key x)))
      (completes_value found key)) (completes_then keyword.Colon (completes_value found []))

  completes_found_pairs : (found : ObjectFields) → Completes (FoundPairs found)
  completes_found_pairs found = let c = completes_seq (completes_pair found) (λ p. completes_other (completes_pure p)) in
      record { more = c.more; tree = c.tree; reads = λ us. pairs_to found (c.more ++ us) us c.tree (c.reads us) }

  no_pair : (found : ObjectFields) (vs : List TokenClass) (y : ObjectFields) → FoundPairs found [] y vs → ⊥
  no_pair found vs y (found_pairs names xs en ev p) = elim p [ ]

  within_pairs_from : (n : ℕ) → Whole n → (found : ObjectFields) → Within (suc n) (up_to 8) (FoundPairs found) (object_fields_from inner agg n found)
  unfolding object_fields_from
  within_pairs_from zero w found = within_none (completes_found_pairs found) (no_pair found)
  within_pairs_from (suc n) w found = within_as {before = up_to 8}
      (within_seq (within_pair (suc n) w found) (λ p. may_more keyword.Comma refl p (within_pairs_from n (within_less (omega arith) w) p))
      (λ p. links_may_more keyword.Comma refl (tighter_stops 7 8 (omega arith)) p) (λ p. completes_other (completes_pure p)))
      (pairs_to found) (λ us vs y q st. (pairs_back found us vs y q, st))

  abbrev pub ArePairs : Rel ObjectFields
  ArePairs ts y vs = IsPairs agg ts y.names y.values vs

  pairs_whole : (us vs : List TokenClass) (y : ObjectFields) → FoundPairs no_fields us y vs → ArePairs us y vs
  pairs_whole us vs y (found_pairs names xs en ev p) = subst (λ ns. IsPairs agg us ns y.values vs) (sym en) (subst (λ zs. IsPairs agg us names zs vs) (sym ev) p)

  pub within_pairs : (n : ℕ) → Whole n → Within (suc n) (up_to 8) ArePairs (object_fields inner agg)
  unfolding object_fields
  within_pairs n w = within_as {before = up_to 8} {R = FoundPairs no_fields}
      (record { agrees = λ ts h. (within_pairs_from (length ts) (within_less (omega arith) w) no_fields).agrees ts (omega arith) })
      pairs_whole (λ us vs y q st. (found_pairs y.names y.values refl refl q, st))

  -- Arms after the first WHEN, behind those that were found.

  pub data FoundArms (found : Arms) (ts : List TokenClass) (y : Arms) (vs : List TokenClass) : Type 0 where
    found_arms : (whens thens : List UnresolvedExpr) → y.whens ≡ found.whens ++ whens → y.thens ≡ found.thens ++ thens →
        IsArms agg (Keyword keyword.When ∷ ts) whens thens vs → FoundArms found ts y vs

  abbrev ArmValue : Arms → UnresolvedExpr → Rel Arms
  ArmValue found x = Seq (IsExpr agg) (λ y. Pure (with_arm found x y))

  abbrev OneArm : Arms → Rel Arms
  OneArm found = Seq (IsExpr agg) (λ x. Then keyword.Then (ArmValue found x))

  abbrev MoreArm : Arms → Rel Arms
  MoreArm a = Either (Then keyword.When (FoundArms a)) (Pure a)

  more_arms : (found : Arms) (x y : UnresolvedExpr) (ts us ws vs : List TokenClass) (a : Arms) → IsExpr agg ts x (Keyword keyword.Then ∷ us) → IsExpr agg us y ws → MoreArm (with_arm found x y) ws a vs →
      FoundArms found ts a vs
  more_arms found x y ts us _ vs a p q (one (behind (found_arms whens thens ew et r))) =
      found_arms (x ∷ whens) (y ∷ thens) (ew ∙ append_assoc found.whens (x ∷ []) whens) (et ∙ append_assoc found.thens (y ∷ []) thens) (g.arms p q (g.arms_more r))
  more_arms found x y ts us ws vs a p q (other r) = ends (FoundArms found) r (found_arms (x ∷ []) (y ∷ []) refl refl (g.arms p q g.arms_done))

  arms_to : (found : Arms) (us vs : List TokenClass) (a : Arms) → Seq (OneArm found) MoreArm us a vs → FoundArms found us a vs
  arms_to found ts vs a (seq b ms (seq x _ p (behind {us = us} (seq y ws q e))) r) = more_arms found x y ts us ws vs a p q (starts MoreArm e r)

  same_arms : {a : Arms} {whens thens : List UnresolvedExpr} → a.whens ≡ whens → a.thens ≡ thens → a ≡ record { whens = whens; thens = thens }
  same_arms ew et = λ i. record { whens = ew i; thens = et i }

  arms_back : (found : Arms) (us vs : List TokenClass) (a : Arms) → FoundArms found us a vs → Seq (OneArm found) MoreArm us a vs
  arms_back found us vs a (found_arms _ _ ew et (g.arms {x = x} {y = y} p q g.arms_done)) =
      seq (with_arm found x y) vs (seq x _ p (behind (seq y vs q none_taken)))
      (other (subst (λ z. Pure (with_arm found x y) vs z vs) (sym (same_arms ew et)) none_taken))
  arms_back found us vs a (found_arms _ _ ew et (g.arms {x = x} {y = y} p q (g.arms_more {whens = whens} {thens = thens} (g.arms p' q' r')))) =
      seq (with_arm found x y) _ (seq x _ p (behind (seq y _ q none_taken)))
      (one (behind (found_arms whens thens (ew ∙ sym (append_assoc found.whens (x ∷ []) whens)) (et ∙ sym (append_assoc found.thens (y ∷ []) thens)) (g.arms p' q' r'))))

  completes_arm_value : (found : Arms) (x : UnresolvedExpr) → Completes (ArmValue found x)
  completes_arm_value found x = completes_seq (completes_at agg precedence.Or) (λ y. completes_pure (with_arm found x y))

  completes_arm : (found : Arms) → Completes (OneArm found)
  completes_arm found = completes_seq (completes_at agg precedence.Or) (λ x. completes_then keyword.Then (completes_arm_value found x))

  within_arm : (n : ℕ) → Whole n → (found : Arms) → Within n (up_to 7) (OneArm found) (arm inner agg found)
  unfolding arm
  within_arm n w found = within_seq w (λ x. within_then keyword.Then
      (within_seq w (λ y. within_pure (with_arm found x y)) (λ y. links_pure (λ t e. e)) (λ y. completes_pure (with_arm found x y)))
      (completes_arm_value found x)) (λ x. links_then refl) (λ x. completes_then keyword.Then (completes_arm_value found x))

  completes_found_arms : (found : Arms) → Completes (FoundArms found)
  completes_found_arms found = let c = completes_seq (completes_arm found) (λ a. completes_other (completes_pure a)) in
      record { more = c.more; tree = c.tree; reads = λ us. arms_to found (c.more ++ us) us c.tree (c.reads us) }

  no_arm : (found : Arms) (vs : List TokenClass) (a : Arms) → FoundArms found [] a vs → ⊥
  no_arm found vs a (found_arms whens thens ew et (g.arms p q r)) = expr_head p

  within_arms_from : (n : ℕ) → Whole (suc n) → (found : Arms) → Within (suc n) (up_to 8) (FoundArms found) (arms_from inner agg n found)
  unfolding arms_from
  within_arms_from zero w found = within_none (completes_found_arms found) (no_arm found)
  within_arms_from (suc n) w found = within_as {before = up_to 8}
      (within_seq (within_arm (suc (suc n)) w found) (λ a. may_more keyword.When refl a (within_arms_from n (within_less (omega arith) w) a))
      (λ a. links_may_more keyword.When refl (tighter_stops 7 8 (omega arith)) a) (λ a. completes_other (completes_pure a)))
      (arms_to found) (λ us vs a q st. (arms_back found us vs a q, st))

  -- arms whose first WHEN was taken
  abbrev pub AreArms : Rel Arms
  AreArms ts a vs = IsArms agg (Keyword keyword.When ∷ ts) a.whens a.thens vs

  arms_whole : (us vs : List TokenClass) (a : Arms) → FoundArms no_arms us a vs → AreArms us a vs
  arms_whole us vs a (found_arms whens thens ew et p) =
      subst (λ ws. IsArms agg (Keyword keyword.When ∷ us) ws a.thens vs) (sym ew) (subst (λ zs. IsArms agg (Keyword keyword.When ∷ us) whens zs vs) (sym et) p)

  pub within_arms : (n : ℕ) → Whole n → Within n (up_to 8) AreArms (arms inner agg)
  unfolding arms
  within_arms n w = within_as {before = up_to 8} {R = FoundArms no_arms}
      (record { agrees = λ ts h. (within_arms_from (length ts) (within_less (omega arith) w) no_arms).agrees ts (omega arith) })
      arms_whole (λ us vs a q st. (found_arms a.whens a.thens refl refl q, st))
