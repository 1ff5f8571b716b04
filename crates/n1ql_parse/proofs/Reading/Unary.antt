-- NOT and the sign before a number.
use Rattle.std.specs.Prelude.{◌≡◌, ℕ, zero, suc, Bool, true, false, List, ◌∷◌, negsuc}
use Rattle.std.proofs.Common.{arith}
use Rattle.n1ql_value.specs.declared.value.Value.TheVariants as value
use Rattle.n1ql_ast.specs.declared.token_class.TokenClass.{TokenClass}
use Rattle.n1ql_ast.specs.declared.token_class.TokenClass.TheVariants.{Keyword, Num}
use Rattle.n1ql_ast.specs.declared.keyword.Keyword.TheVariants as keyword
use Rattle.n1ql_ast.specs.declared.unresolved_expr.UnresolvedExpr.{UnresolvedExpr}
use Rattle.n1ql_ast.specs.declared.unresolved_expr.UnresolvedExpr.TheVariants as unresolved
use Rattle.n1ql_ast.specs.Grammar as g
use Rattle.n1ql_ast.specs.Grammar.{IsNot, IsRel, IsNeg, IsPost, IsPrim}
use Rattle.n1ql_parse.specs.declared.expressions.precedence.Precedence.{Precedence}
use Rattle.n1ql_parse.specs.declared.expressions.precedence.Precedence.TheVariants as precedence
use Rattle.n1ql_parse.specs.inner.Steps.{Parser, ◌<$>◌}
use Rattle.n1ql_parse.specs.inner.Parser.{not_form, negated, negation}
use Rattle.n1ql_parse.proofs.Reading.Prefixes.{Rel, Stops, Within, Seq, seq, Pure, none_taken, Either, one, other}
use Rattle.n1ql_parse.proofs.Reading.Combined.{within_as, within_seq, ends, within_pure, links_pure, completes_pure}
use Rattle.n1ql_parse.proofs.Reading.Looks.{Then, behind, within_eat}
use Rattle.n1ql_parse.proofs.Reading.Taken.{Least, behind_least, within_least}
use Rattle.n1ql_parse.proofs.Reading.Precedences.{up_to}
use Rattle.n1ql_parse.proofs.Reading.Lookahead.{rel_head, post_head}

no_least_post : {agg : Bool} {ts vs : List TokenClass} {x : UnresolvedExpr} → IsPost agg (Num 9223372036854775808 ∷ ts) x vs → ⊥
no_least_post (g.post (g.prim_number h) q) = omega arith
no_least_post (g.post (g.prim_object h) q) = elim h [ ]

no_least : {agg : Bool} {ts vs : List TokenClass} {x : UnresolvedExpr} → IsNeg agg (Num 9223372036854775808 ∷ ts) x vs → ⊥
no_least (g.neg_post p) = no_least_post p

module _ (inner : Bool → Precedence → Parser UnresolvedExpr) (agg : Bool) (n : ℕ) where
  pub within_not_form : Within n (up_to 5) (IsNot agg) (inner agg precedence.Not) → Within (suc n) (up_to 5) (IsRel agg) (inner agg precedence.Test) →
      Within (suc n) (up_to 5) (IsNot agg) (not_form inner agg)
  unfolding not_form
  within_not_form w v = within_as {before = up_to 5}
      (within_eat keyword.Not (within_seq w (λ x. within_pure (unresolved.Not x)) (λ x. links_pure (λ t e. e)) (λ x. completes_pure (unresolved.Not x))) v off)
      to (λ us vs y q st. (from us vs y q, st))
    where
      off : (us vs : List TokenClass) (y : UnresolvedExpr) → IsRel agg (Keyword keyword.Not ∷ us) y vs → Stops (up_to 5) vs → ⊥
      off us vs y r st = let h : false ≡ true = rel_head r in cc

      to : (us vs : List TokenClass) (y : UnresolvedExpr) → Either (Then keyword.Not (Seq (IsNot agg) (λ x. Pure (unresolved.Not x)))) (IsRel agg) us y vs → IsNot agg us y vs
      to us vs y (one (behind (seq x ws p e))) = ends (IsNot agg) e (g.not_not p)
      to us vs y (other r) = g.not_rel r

      from : (us vs : List TokenClass) (y : UnresolvedExpr) → IsNot agg us y vs → Either (Then keyword.Not (Seq (IsNot agg) (λ x. Pure (unresolved.Not x)))) (IsRel agg) us y vs
      from us vs y (g.not_not p) = one (behind (seq _ _ p none_taken))
      from us vs y (g.not_rel r) = other r

  -- what comes after the sign
  abbrev Negated : Rel UnresolvedExpr
  Negated = Either (Least (Pure (unresolved.Const (value.Int (negsuc 9223372036854775807))))) (Seq (IsNeg agg) (λ x. Pure (unresolved.Neg x)))

  within_negated : Within n (up_to 2) (IsNeg agg) (inner agg precedence.Neg) → Within n (up_to 2) Negated (negated inner agg)
  unfolding negated
  within_negated w = below n w
    where
      signed : (m : ℕ) → Within m (up_to 2) (IsNeg agg) (inner agg precedence.Neg) → Within m (up_to 2) (Seq (IsNeg agg) (λ x. Pure (unresolved.Neg x))) (unresolved.Neg <$> inner agg precedence.Neg)
      signed m v = within_seq v (λ x. within_pure (unresolved.Neg x)) (λ x. links_pure (λ t e. e)) (λ x. completes_pure (unresolved.Neg x))

      off : (us vs : List TokenClass) (y : UnresolvedExpr) → Seq (IsNeg agg) (λ x. Pure (unresolved.Neg x)) (Num 9223372036854775808 ∷ us) y vs → Stops (up_to 2) vs → ⊥
      off us vs y (seq x ws p e) st = no_least p

      below : (m : ℕ) → Within m (up_to 2) (IsNeg agg) (inner agg precedence.Neg) → Within m (up_to 2) Negated (negated inner agg)
      below zero v = record { agrees = λ ts h. absurd (omega arith) }
      below (suc m) v = within_least (within_pure (unresolved.Const (value.Int (negsuc 9223372036854775807)))) (signed (suc m) v) off

  pub within_negation : Within n (up_to 2) (IsNeg agg) (inner agg precedence.Neg) → Within (suc n) (up_to 2) (IsPost agg) (inner agg precedence.Post) →
      Within (suc n) (up_to 2) (IsNeg agg) (negation inner agg)
  unfolding negation
  within_negation w v = within_as {before = up_to 2} (within_eat keyword.Minus (within_negated w) v off) to (λ us vs y q st. (from us vs y q, st))
    where
      off : (us vs : List TokenClass) (y : UnresolvedExpr) → IsPost agg (Keyword keyword.Minus ∷ us) y vs → Stops (up_to 2) vs → ⊥
      off us vs y r st = let h : false ≡ true = post_head r in cc

      to : (us vs : List TokenClass) (y : UnresolvedExpr) → Either (Then keyword.Minus Negated) (IsPost agg) us y vs → IsNeg agg us y vs
      to us vs y (one (behind (one (behind_least none_taken)))) = g.neg_least
      to us vs y (one (behind (other (seq x ws p e)))) = ends (IsNeg agg) e (g.neg_neg p)
      to us vs y (other r) = g.neg_post r

      from : (us vs : List TokenClass) (y : UnresolvedExpr) → IsNeg agg us y vs → Either (Then keyword.Minus Negated) (IsPost agg) us y vs
      from us vs y (g.neg_neg p) = one (behind (other (seq _ _ p none_taken)))
      from us vs y g.neg_least = one (behind (one (behind_least none_taken)))
      from us vs y (g.neg_post r) = other r
