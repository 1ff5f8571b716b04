-- The levels of the grammar: what is read at each, and which tokens go on with it.
use Rattle.std.specs.Prelude.{◌≡◌, ℕ, ◌≤◌, ◌<◌, Bool, false, nat_le, Some, refl}
use Rattle.std.proofs.Common.{arith}
use Rattle.std.proofs.lemmas.Bool.{leb-false, lt-leb}
use Rattle.n1ql_value.specs.declared.op.Op.{Op}
use Rattle.n1ql_ast.specs.declared.token_class.TokenClass.{TokenClass}
use Rattle.n1ql_ast.specs.declared.token_class.TokenClass.TheVariants.{Keyword, Name}
use Rattle.n1ql_ast.specs.declared.keyword.Keyword.{Keyword as AnyKeyword}
use Rattle.n1ql_ast.specs.declared.keyword.Keyword.TheVariants as keyword
use Rattle.n1ql_ast.specs.declared.unresolved_expr.UnresolvedExpr.{UnresolvedExpr}
use Rattle.n1ql_ast.specs.Operators.{compare_of, add_of, mul_of}
use Rattle.n1ql_ast.specs.Grammar.{IsExpr, IsAnd, IsNot, IsRel, IsAdd, IsMul, IsNeg, IsPost}
use Rattle.n1ql_parse.specs.declared.expressions.precedence.Precedence.{Precedence}
use Rattle.n1ql_parse.specs.declared.expressions.precedence.Precedence.TheVariants as precedence
use Rattle.n1ql_parse.proofs.Reading.Prefixes.{Rel}

-- how loosely a token goes on with what stands before it
abbrev pub rank : TokenClass → ℕ
rank (Keyword keyword.OpenParenthesis) = 1
rank (Keyword keyword.Dot) = 2
rank (Keyword keyword.OpenSquare) = 2
rank (Keyword keyword.Star) = 3
rank (Keyword keyword.Percent) = 3
rank (Keyword keyword.Plus) = 4
rank (Keyword keyword.Minus) = 4
rank (Keyword keyword.DoubleBar) = 4
rank (Keyword keyword.Equal) = 5
rank (Keyword keyword.DoubleEqual) = 5
rank (Keyword keyword.NotEqual) = 5
rank (Keyword keyword.LessGreater) = 5
rank (Keyword keyword.Less) = 5
rank (Keyword keyword.LessEqual) = 5
rank (Keyword keyword.Greater) = 5
rank (Keyword keyword.GreaterEqual) = 5
rank (Keyword keyword.Is) = 5
rank (Keyword keyword.Not) = 5
rank (Keyword keyword.In) = 5
rank (Keyword keyword.Between) = 5
rank (Keyword keyword.And) = 6
rank (Keyword keyword.Or) = 7
rank (Name text quoted) = 8
rank (Keyword keyword.As) = 8
rank (Keyword keyword.Asc) = 8
rank (Keyword keyword.Desc) = 8
rank (Keyword keyword.Comma) = 8
rank (Keyword keyword.When) = 8
rank (Keyword keyword.Use) = 8
rank (Keyword keyword.Else) = 9
rank (Keyword keyword.Left) = 9
rank (Keyword keyword.Unnest) = 9
rank (Keyword keyword.Where) = 10
rank (Keyword keyword.Using) = 11
rank (Keyword keyword.Group) = 11
rank (Keyword keyword.Having) = 11
rank (Keyword keyword.With) = 12
rank (Keyword keyword.Order) = 12
rank (Keyword keyword.Limit) = 13
rank (Keyword keyword.Offset) = 14
rank _ = 15

-- tokens that go on with an unresolved expression of this tightness
abbrev pub up_to : ℕ → TokenClass → Bool
up_to n t = nat_le (rank t) n

abbrev pub tightness : Precedence → ℕ
tightness precedence.Or = 7
tightness precedence.And = 6
tightness precedence.Not = 5
tightness precedence.Test = 5
tightness precedence.Add = 4
tightness precedence.Mul = 3
tightness precedence.Neg = 2
tightness precedence.Post = 2

-- how many levels stand below, and one more
abbrev pub depth : Precedence → ℕ
depth precedence.Or = 8
depth precedence.And = 7
depth precedence.Not = 6
depth precedence.Test = 5
depth precedence.Add = 4
depth precedence.Mul = 3
depth precedence.Neg = 2
depth precedence.Post = 1

abbrev pub IsAt : Bool → Precedence → Rel UnresolvedExpr
IsAt agg precedence.Or = IsExpr agg
IsAt agg precedence.And = IsAnd agg
IsAt agg precedence.Not = IsNot agg
IsAt agg precedence.Test = IsRel agg
IsAt agg precedence.Add = IsAdd agg
IsAt agg precedence.Mul = IsMul agg
IsAt agg precedence.Neg = IsNeg agg
IsAt agg precedence.Post = IsPost agg

pub add_rank : (m : AnyKeyword) (o : Op) → add_of m ≡ Some o → rank (Keyword m) ≡ 4
add_rank keyword.Plus o e = refl
add_rank keyword.Minus o e = refl
add_rank keyword.DoubleBar o e = refl
add_rank _ o e = cc

pub mul_rank : (m : AnyKeyword) (o : Op) → mul_of m ≡ Some o → rank (Keyword m) ≡ 3
mul_rank keyword.Star o e = refl
mul_rank keyword.Percent o e = refl
mul_rank _ o e = cc

pub compare_rank : (m : AnyKeyword) (o : Op) → compare_of m ≡ Some o → rank (Keyword m) ≡ 5
compare_rank keyword.Equal o e = refl
compare_rank keyword.DoubleEqual o e = refl
compare_rank keyword.NotEqual o e = refl
compare_rank keyword.LessGreater o e = refl
compare_rank keyword.Less o e = refl
compare_rank keyword.LessEqual o e = refl
compare_rank keyword.Greater o e = refl
compare_rank keyword.GreaterEqual o e = refl
compare_rank _ o e = cc

pub le_false : (r m n : ℕ) → m ≤ n → nat_le r n ≡ false → nat_le r m ≡ false
le_false r m n h e = let k : n < r = leb-false r n e in lt-leb r m (omega arith)

-- what stops a looser unresolved expression stops a tighter one
pub tighter_stops : (m n : ℕ) → m ≤ n → (t : TokenClass) → up_to n t ≡ false → up_to m t ≡ false
tighter_stops m n h t e = le_false (rank t) m n h e
