-- The number 0 is an unresolved expression of each level: what a front is completed with.
use Rattle.std.specs.Prelude.{Bool, List, [], ◌∷◌, pos}
use Rattle.std.proofs.Common.{arith}
use Rattle.n1ql_value.specs.declared.value.Value.TheVariants as value
use Rattle.n1ql_ast.specs.declared.token_class.TokenClass.{TokenClass}
use Rattle.n1ql_ast.specs.declared.token_class.TokenClass.TheVariants.{Num}
use Rattle.n1ql_ast.specs.declared.unresolved_expr.UnresolvedExpr.{UnresolvedExpr}
use Rattle.n1ql_ast.specs.declared.unresolved_expr.UnresolvedExpr.TheVariants as unresolved
use Rattle.n1ql_ast.specs.Grammar as g
use Rattle.n1ql_ast.specs.Grammar.{IsExpr, IsAnd, IsNot, IsRel, IsAdd, IsMul, IsNeg, IsPost, IsPrim}
use Rattle.n1ql_parse.specs.declared.expressions.precedence.Precedence.{Precedence}
use Rattle.n1ql_parse.specs.declared.expressions.precedence.Precedence.TheVariants as precedence
use Rattle.n1ql_parse.proofs.Reading.Prefixes.{Completes}
use Rattle.n1ql_parse.proofs.Reading.Precedences.{IsAt}

abbrev pub zero_const : UnresolvedExpr
zero_const = unresolved.Const (value.Int (pos 0))

zero_prim : (agg : Bool) (us : List TokenClass) → IsPrim agg (Num 0 ∷ us) zero_const us
zero_prim agg us = g.prim_number (omega arith)

zero_post : (agg : Bool) (us : List TokenClass) → IsPost agg (Num 0 ∷ us) zero_const us
zero_post agg us = g.post (zero_prim agg us) g.post_done

zero_neg : (agg : Bool) (us : List TokenClass) → IsNeg agg (Num 0 ∷ us) zero_const us
zero_neg agg us = g.neg_post (zero_post agg us)

zero_mul : (agg : Bool) (us : List TokenClass) → IsMul agg (Num 0 ∷ us) zero_const us
zero_mul agg us = g.mul (zero_neg agg us) g.mul_done

zero_add : (agg : Bool) (us : List TokenClass) → IsAdd agg (Num 0 ∷ us) zero_const us
zero_add agg us = g.add (zero_mul agg us) g.add_done

zero_rel : (agg : Bool) (us : List TokenClass) → IsRel agg (Num 0 ∷ us) zero_const us
zero_rel agg us = g.rel (zero_add agg us) g.test_none

zero_not : (agg : Bool) (us : List TokenClass) → IsNot agg (Num 0 ∷ us) zero_const us
zero_not agg us = g.not_rel (zero_rel agg us)

zero_and : (agg : Bool) (us : List TokenClass) → IsAnd agg (Num 0 ∷ us) zero_const us
zero_and agg us = g.and (zero_not agg us) g.and_done

pub zero_expr : (agg : Bool) (us : List TokenClass) → IsExpr agg (Num 0 ∷ us) zero_const us
zero_expr agg us = g.expr (zero_and agg us) g.or_done

pub completes_at : (agg : Bool) (l : Precedence) → Completes (IsAt agg l)
completes_at agg precedence.Or = record { more = Num 0 ∷ []; tree = zero_const; reads = zero_expr agg }
completes_at agg precedence.And = record { more = Num 0 ∷ []; tree = zero_const; reads = zero_and agg }
completes_at agg precedence.Not = record { more = Num 0 ∷ []; tree = zero_const; reads = zero_not agg }
completes_at agg precedence.Test = record { more = Num 0 ∷ []; tree = zero_const; reads = zero_rel agg }
completes_at agg precedence.Add = record { more = Num 0 ∷ []; tree = zero_const; reads = zero_add agg }
completes_at agg precedence.Mul = record { more = Num 0 ∷ []; tree = zero_const; reads = zero_mul agg }
completes_at agg precedence.Neg = record { more = Num 0 ∷ []; tree = zero_const; reads = zero_neg agg }
completes_at agg precedence.Post = record { more = Num 0 ∷ []; tree = zero_const; reads = zero_post agg }
