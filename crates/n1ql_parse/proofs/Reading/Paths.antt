-- Fields and places behind a primary.
use Rattle.std.specs.Prelude.{◌≡◌, ℕ, zero, suc, ◌<◌, Bool, true, false, List, [], ◌∷◌, length, refl}
use Rattle.std.proofs.Common.{sym, ap, ◌∙◌, subst, arith}
use Rattle.n1ql_ast.specs.declared.token_class.TokenClass.{TokenClass}
use Rattle.n1ql_ast.specs.declared.token_class.TokenClass.TheVariants.{Keyword}
use Rattle.n1ql_ast.specs.declared.keyword.Keyword.TheVariants as keyword
use Rattle.n1ql_ast.specs.declared.unresolved_expr.UnresolvedExpr.{UnresolvedExpr}
use Rattle.n1ql_ast.specs.declared.unresolved_expr.UnresolvedExpr.TheVariants as unresolved
use Rattle.n1ql_ast.specs.Grammar as g
use Rattle.n1ql_ast.specs.Grammar.{IsExpr, IsPost, MorePost, IsPrim}
use Rattle.n1ql_parse.specs.declared.expressions.precedence.Precedence.{Precedence}
use Rattle.n1ql_parse.specs.declared.expressions.precedence.Precedence.TheVariants as precedence
use Rattle.n1ql_parse.specs.inner.Steps.{Parser, got, and_then, expect, name}
use Rattle.n1ql_parse.specs.inner.Parser.{field, place, path_from, path_on, path, primary}
use Rattle.n1ql_parse.proofs.Reading.Prefixes.{Rel, next, Stops, Agrees, Within, Completes, Links, Seq, seq, Pure, none_taken, Either, one, other}
use Rattle.n1ql_parse.proofs.Reading.Combined.{within_as, within_eq, within_seq, regrouped, within_pure, within_less, next_none}
use Rattle.n1ql_parse.proofs.Reading.Looks.{Then, behind, Worded, worded, within_eat, within_name, completes_then, links_then}
use Rattle.n1ql_parse.proofs.Reading.Precedences.{up_to, tighter_stops}
use Rattle.n1ql_parse.proofs.Reading.Choices.{within_then}

module _ (inner : Bool → Precedence → Parser UnresolvedExpr) (agg : Bool) where
  completes_more : (x : UnresolvedExpr) → Completes (MorePost agg x)
  completes_more x = record { more = []; tree = x; reads = λ us. g.post_done }

  abbrev InPlace : UnresolvedExpr → Rel UnresolvedExpr
  InPlace x = Seq (IsExpr agg) (λ y. Then keyword.CloseSquare (MorePost agg (unresolved.Place x y)))

  -- one field or place with what goes on from there, or nothing
  abbrev Further : UnresolvedExpr → Rel UnresolvedExpr
  Further x = Either (Then keyword.Dot (Worded (λ w. MorePost agg (unresolved.Field x w.text)))) (Either (Then keyword.OpenSquare (InPlace x)) (Pure x))

  further_of : (x : UnresolvedExpr) (us vs : List TokenClass) (y : UnresolvedExpr) → MorePost agg x us y vs → Further x us y vs
  further_of x us vs y g.post_done = other (other none_taken)
  further_of x us vs y (g.post_field p) = one (behind (worded p))
  further_of x us vs y (g.post_place p q) = other (one (behind (seq _ _ p (behind q))))

  of_further : (x : UnresolvedExpr) (us vs : List TokenClass) (y : UnresolvedExpr) → Further x us y vs → MorePost agg x us y vs
  of_further x us vs y (one (behind (worded p))) = g.post_field p
  of_further x us vs y (other (one (behind (seq z _ p (behind q))))) = g.post_place p q
  of_further x us vs y (other (other none_taken)) = g.post_done

  more_end : (x y : UnresolvedExpr) (vs : List TokenClass) → MorePost agg x [] y vs → (y ≡ x) × (vs ≡ [])
  more_end x y vs g.post_done = (refl, refl)

  -- one turn of the loop
  further : (n : ℕ) → Within (suc n) (up_to 7) (IsExpr agg) (inner agg precedence.Or) → ((y : UnresolvedExpr) → Within (suc n) (up_to 2) (MorePost agg y) (path_from inner agg n y)) →
      (x : UnresolvedExpr) → Within (suc (suc n)) (up_to 2) (MorePost agg x) (path_from inner agg (suc n) x)
  unfolding path_from field place
  further n w on x =
      within_as {before = up_to 2}
      (within_eat keyword.Dot in_field (within_eat keyword.OpenSquare in_place (within_pure x) off_place) off_field)
      (of_further x) (λ us vs y q st. (further_of x us vs y q, st))
    where
      in_field : Within (suc n) (up_to 2) (Worded (λ v. MorePost agg (unresolved.Field x v.text))) (λ ts. and_then (field inner agg x ts) (path_from inner agg n))
      in_field = within_eq
          (within_less (omega arith) (within_name (λ key. on (unresolved.Field x key)) (completes_more (unresolved.Field x []))))
          (λ ts. regrouped (name ts) (λ key us. got (unresolved.Field x key) us) (path_from inner agg n))

      closed : (y : UnresolvedExpr) → Within (suc n) (up_to 2) (Then keyword.CloseSquare (MorePost agg (unresolved.Place x y))) (λ us. and_then (and_then (expect keyword.CloseSquare us) (λ _ vs. got (unresolved.Place x y) vs)) (path_from inner agg n))
      closed y = within_eq (within_then keyword.CloseSquare (on (unresolved.Place x y)) (completes_more (unresolved.Place x y)))
          (λ us. regrouped (expect keyword.CloseSquare us) (λ _ vs. got (unresolved.Place x y) vs) (path_from inner agg n))

      in_place : Within (suc n) (up_to 2) (InPlace x) (λ ts. and_then (place inner agg x ts) (path_from inner agg n))
      in_place = within_eq
          (within_seq w closed (λ y. links_then refl) (λ y. completes_then keyword.CloseSquare (completes_more (unresolved.Place x y))))
          (λ ts. regrouped (inner agg precedence.Or ts) (λ y us. and_then (expect keyword.CloseSquare us) (λ _ vs. got (unresolved.Place x y) vs)) (path_from inner agg n))

      off_place : (us vs : List TokenClass) (y : UnresolvedExpr) → Pure x (Keyword keyword.OpenSquare ∷ us) y vs → Stops (up_to 2) vs → ⊥
      off_place us _ _ none_taken st = let h : true ≡ false = st in cc

      off_field : (us vs : List TokenClass) (y : UnresolvedExpr) → Either (Then keyword.OpenSquare (InPlace x)) (Pure x) (Keyword keyword.Dot ∷ us) y vs → Stops (up_to 2) vs → ⊥
      off_field us vs y (one r) st = elim r [ ]
      off_field us _ _ (other none_taken) st = let h : true ≡ false = st in cc

  within_path_from : (n : ℕ) → Within n (up_to 7) (IsExpr agg) (inner agg precedence.Or) → (x : UnresolvedExpr) → Within (suc n) (up_to 2) (MorePost agg x) (path_from inner agg n x)
  unfolding path_from
  within_path_from zero w x = record { agrees = go }
    where
      at_end : (vs : List TokenClass) → length vs < 1 → vs ≡ []
      at_end [] h = refl
      at_end (t ∷ vs) h = absurd (omega arith)

      go : (ts : List TokenClass) → length ts < 1 → Agrees (up_to 2) (MorePost agg x) ts (got x ts)
      go ts h = record {
        front = [];
        is = refl;
        sound = λ us. g.post_done;
        only = λ us vs y e q st.
            let eu = next_none (e ∙ ap next (at_end ts h)) in
            let p = more_end x y vs (subst (λ k. MorePost agg x k y vs) eu q) in
            (p.0, p.1 ∙ sym eu);
      }
  within_path_from (suc n) w x = further n w (within_path_from n (within_less (omega arith) w)) x

  within_path_on : (n : ℕ) → Within n (up_to 7) (IsExpr agg) (inner agg precedence.Or) → (x : UnresolvedExpr) → Within (suc n) (up_to 2) (MorePost agg x) (path_on inner agg x)
  unfolding path_on
  within_path_on n w x = record { agrees = λ ts h. (within_path_from (length ts) (within_less (omega arith) w) x).agrees ts (omega arith) }

  links_more : (x : UnresolvedExpr) → Links (up_to 1) (up_to 2) (MorePost agg x)
  links_more x = record { stops = go }
    where
      weaker : (vs : List TokenClass) → Stops (up_to 2) vs → Stops (up_to 1) vs
      weaker [] st = tt
      weaker (t ∷ vs) st = tighter_stops 1 2 (omega arith) t st

      go : (us vs : List TokenClass) (y : UnresolvedExpr) → MorePost agg x us y vs → Stops (up_to 2) vs → Stops (up_to 1) us
      go us vs y g.post_done st = weaker us st
      go us vs y (g.post_field p) st = refl
      go us vs y (g.post_place p q) st = refl

  pub within_path : (n : ℕ) → Within n (up_to 7) (IsExpr agg) (inner agg precedence.Or) → Within (suc n) (up_to 1) (IsPrim agg) (primary inner agg) →
      Within (suc n) (up_to 2) (IsPost agg) (path inner agg)
  unfolding path
  within_path n w v = within_as {before = up_to 2} (within_seq v (within_path_on n w) links_more completes_more) to (λ us vs y q st. (from us vs y q, st))
    where
      to : (us vs : List TokenClass) (y : UnresolvedExpr) → Seq (IsPrim agg) (MorePost agg) us y vs → IsPost agg us y vs
      to us vs y (seq x ws p q) = g.post p q

      from : (us vs : List TokenClass) (y : UnresolvedExpr) → IsPost agg us y vs → Seq (IsPrim agg) (MorePost agg) us y vs
      from us vs y (g.post p q) = seq _ _ p q
