-- The four levels of operators between two operands.
use Rattle.std.specs.Prelude.{◌≡◌, ℕ, Bool, true, false, nat_le, List, ◌∷◌, Some, refl}
use Rattle.std.proofs.Common.{sym, ap, subst, arith}
use Rattle.n1ql_value.specs.declared.op.Op.{Op}
use Rattle.n1ql_value.specs.declared.op.Op.TheVariants as op
use Rattle.n1ql_ast.specs.declared.token_class.TokenClass.{TokenClass}
use Rattle.n1ql_ast.specs.declared.token_class.TokenClass.TheVariants.{Keyword}
use Rattle.n1ql_ast.specs.declared.keyword.Keyword.{Keyword as AnyKeyword}
use Rattle.n1ql_ast.specs.declared.keyword.Keyword.TheVariants as keyword
use Rattle.n1ql_ast.specs.declared.unresolved_expr.UnresolvedExpr.{UnresolvedExpr}
use Rattle.n1ql_ast.specs.declared.unresolved_expr.UnresolvedExpr.TheVariants as unresolved
use Rattle.n1ql_ast.specs.Grammar as g
use Rattle.n1ql_ast.specs.Grammar.{IsExpr, MoreOr, IsAnd, MoreAnd, IsNot, IsAdd, MoreAdd, IsMul, MoreMul, IsNeg}
use Rattle.n1ql_parse.specs.declared.expressions.precedence.Precedence.{Precedence}
use Rattle.n1ql_parse.specs.declared.expressions.precedence.Precedence.TheVariants as precedence
use Rattle.n1ql_parse.specs.inner.Steps.{Parser}
use Rattle.n1ql_parse.specs.inner.Parser.{or_of, and_of, chain}
use Rattle.n1ql_parse.proofs.Reading.Prefixes.{Within, Seq, seq}
use Rattle.n1ql_parse.proofs.Reading.Combined.{within_as}
use Rattle.n1ql_parse.proofs.Reading.Precedences.{up_to, add_rank, mul_rank, tighter_stops}
use Rattle.n1ql_parse.proofs.Reading.Chains.{Chain, chain_done, chain_more, Apart, within_chain}

or_is : (m : AnyKeyword) (o : Op) → or_of m ≡ Some o → (m ≡ keyword.Or) × (o ≡ op.Or)
or_is keyword.Or o e = (refl, cc)
or_is _ o e = cc

and_is : (m : AnyKeyword) (o : Op) → and_of m ≡ Some o → (m ≡ keyword.And) × (o ≡ op.And)
and_is keyword.And o e = (refl, cc)
and_is _ o e = cc

-- OR

chain_or : {agg : Bool} {x y : UnresolvedExpr} {ts vs : List TokenClass} → MoreOr agg x ts y vs → Chain precedence.Or (IsAnd agg) x ts y vs
chain_or g.or_done = chain_done
chain_or (g.or_more p q) = chain_more refl p (chain_or q)

more_or : {agg : Bool} {x y : UnresolvedExpr} {ts vs : List TokenClass} → Chain precedence.Or (IsAnd agg) x ts y vs → MoreOr agg x ts y vs
more_or chain_done = g.or_done
more_or {agg = agg} (chain_more {operator = operator} {o = o} {x = x} {y = y} {z = z} {ts = ts} {us = us} {vs = vs} e p q) =
    let f = or_is operator o e in
    subst (λ m. MoreOr agg x (Keyword m ∷ ts) z vs) (sym f.0) (g.or_more p (subst (λ o. MoreOr agg (unresolved.Two o x y) us z vs) f.1 (more_or q)))

or_apart : Apart precedence.Or (up_to 6) (up_to 7)
or_apart = record {
  less = tighter_stops 6 7 (omega arith);
  off = λ m o e. subst (λ m. up_to 6 (Keyword m) ≡ false) (sym (or_is m o e).0) refl;
  goes = λ m o e. subst (λ m. up_to 7 (Keyword m) ≡ true) (sym (or_is m o e).0) refl;
}

-- AND

chain_and : {agg : Bool} {x y : UnresolvedExpr} {ts vs : List TokenClass} → MoreAnd agg x ts y vs → Chain precedence.And (IsNot agg) x ts y vs
chain_and g.and_done = chain_done
chain_and (g.and_more p q) = chain_more refl p (chain_and q)

more_and : {agg : Bool} {x y : UnresolvedExpr} {ts vs : List TokenClass} → Chain precedence.And (IsNot agg) x ts y vs → MoreAnd agg x ts y vs
more_and chain_done = g.and_done
more_and {agg = agg} (chain_more {operator = operator} {o = o} {x = x} {y = y} {z = z} {ts = ts} {us = us} {vs = vs} e p q) =
    let f = and_is operator o e in
    subst (λ m. MoreAnd agg x (Keyword m ∷ ts) z vs) (sym f.0) (g.and_more p (subst (λ o. MoreAnd agg (unresolved.Two o x y) us z vs) f.1 (more_and q)))

and_apart : Apart precedence.And (up_to 5) (up_to 6)
and_apart = record {
  less = tighter_stops 5 6 (omega arith);
  off = λ m o e. subst (λ m. up_to 5 (Keyword m) ≡ false) (sym (and_is m o e).0) refl;
  goes = λ m o e. subst (λ m. up_to 6 (Keyword m) ≡ true) (sym (and_is m o e).0) refl;
}

-- + - ||

chain_add : {agg : Bool} {x y : UnresolvedExpr} {ts vs : List TokenClass} → MoreAdd agg x ts y vs → Chain precedence.Add (IsMul agg) x ts y vs
chain_add g.add_done = chain_done
chain_add (g.add_more e p q) = chain_more e p (chain_add q)

more_add : {agg : Bool} {x y : UnresolvedExpr} {ts vs : List TokenClass} → Chain precedence.Add (IsMul agg) x ts y vs → MoreAdd agg x ts y vs
more_add chain_done = g.add_done
more_add (chain_more e p q) = g.add_more e p (more_add q)

add_apart : Apart precedence.Add (up_to 3) (up_to 4)
add_apart = record {
  less = tighter_stops 3 4 (omega arith);
  off = λ m o e. ap (λ r. nat_le r 3) (add_rank m o e);
  goes = λ m o e. ap (λ r. nat_le r 4) (add_rank m o e);
}

-- * %

chain_mul : {agg : Bool} {x y : UnresolvedExpr} {ts vs : List TokenClass} → MoreMul agg x ts y vs → Chain precedence.Mul (IsNeg agg) x ts y vs
chain_mul g.mul_done = chain_done
chain_mul (g.mul_more e p q) = chain_more e p (chain_mul q)

more_mul : {agg : Bool} {x y : UnresolvedExpr} {ts vs : List TokenClass} → Chain precedence.Mul (IsNeg agg) x ts y vs → MoreMul agg x ts y vs
more_mul chain_done = g.mul_done
more_mul (chain_more e p q) = g.mul_more e p (more_mul q)

mul_apart : Apart precedence.Mul (up_to 2) (up_to 3)
mul_apart = record {
  less = tighter_stops 2 3 (omega arith);
  off = λ m o e. ap (λ r. nat_le r 2) (mul_rank m o e);
  goes = λ m o e. ap (λ r. nat_le r 3) (mul_rank m o e);
}

module _ (inner : Bool → Precedence → Parser UnresolvedExpr) (agg : Bool) (n : ℕ) where
  pub within_or : Within n (up_to 6) (IsAnd agg) (inner agg precedence.And) → Within n (up_to 7) (IsExpr agg) (chain inner agg precedence.Or)
  within_or w = within_as {before = up_to 7} (within_chain inner agg precedence.Or (IsAnd agg) (up_to 6) (up_to 7) or_apart n w) to (λ us vs y q st. (from us vs y q, st))
    where
      to : (us vs : List TokenClass) (y : UnresolvedExpr) → Seq (IsAnd agg) (Chain precedence.Or (IsAnd agg)) us y vs → IsExpr agg us y vs
      to us vs y (seq x ws p q) = g.expr p (more_or q)

      from : (us vs : List TokenClass) (y : UnresolvedExpr) → IsExpr agg us y vs → Seq (IsAnd agg) (Chain precedence.Or (IsAnd agg)) us y vs
      from us vs y (g.expr p q) = seq _ _ p (chain_or q)

  pub within_and : Within n (up_to 5) (IsNot agg) (inner agg precedence.Not) → Within n (up_to 6) (IsAnd agg) (chain inner agg precedence.And)
  within_and w = within_as {before = up_to 6} (within_chain inner agg precedence.And (IsNot agg) (up_to 5) (up_to 6) and_apart n w) to (λ us vs y q st. (from us vs y q, st))
    where
      to : (us vs : List TokenClass) (y : UnresolvedExpr) → Seq (IsNot agg) (Chain precedence.And (IsNot agg)) us y vs → IsAnd agg us y vs
      to us vs y (seq x ws p q) = g.and p (more_and q)

      from : (us vs : List TokenClass) (y : UnresolvedExpr) → IsAnd agg us y vs → Seq (IsNot agg) (Chain precedence.And (IsNot agg)) us y vs
      from us vs y (g.and p q) = seq _ _ p (chain_and q)

  pub within_add : Within n (up_to 3) (IsMul agg) (inner agg precedence.Mul) → Within n (up_to 4) (IsAdd agg) (chain inner agg precedence.Add)
  within_add w = within_as {before = up_to 4} (within_chain inner agg precedence.Add (IsMul agg) (up_to 3) (up_to 4) add_apart n w) to (λ us vs y q st. (from us vs y q, st))
    where
      to : (us vs : List TokenClass) (y : UnresolvedExpr) → Seq (IsMul agg) (Chain precedence.Add (IsMul agg)) us y vs → IsAdd agg us y vs
      to us vs y (seq x ws p q) = g.add p (more_add q)

      from : (us vs : List TokenClass) (y : UnresolvedExpr) → IsAdd agg us y vs → Seq (IsMul agg) (Chain precedence.Add (IsMul agg)) us y vs
      from us vs y (g.add p q) = seq _ _ p (chain_add q)

  pub within_mul : Within n (up_to 2) (IsNeg agg) (inner agg precedence.Neg) → Within n (up_to 3) (IsMul agg) (chain inner agg precedence.Mul)
  within_mul w = within_as {before = up_to 3} (within_chain inner agg precedence.Mul (IsNeg agg) (up_to 2) (up_to 3) mul_apart n w) to (λ us vs y q st. (from us vs y q, st))
    where
      to : (us vs : List TokenClass) (y : UnresolvedExpr) → Seq (IsNeg agg) (Chain precedence.Mul (IsNeg agg)) us y vs → IsMul agg us y vs
      to us vs y (seq x ws p q) = g.mul p (more_mul q)

      from : (us vs : List TokenClass) (y : UnresolvedExpr) → IsMul agg us y vs → Seq (IsNeg agg) (Chain precedence.Mul (IsNeg agg)) us y vs
      from us vs y (g.mul p q) = seq _ _ p (chain_mul q)
