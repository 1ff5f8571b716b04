-- The signs of operators between two expressions.
use Rattle.std.specs.Prelude.{Option, Some, None}
use Rattle.n1ql_value.specs.declared.op.Op.{Op}
use Rattle.n1ql_value.specs.declared.op.Op.TheVariants as op
use Rattle.n1ql_ast.specs.declared.keyword.Keyword.{Keyword}
use Rattle.n1ql_ast.specs.declared.keyword.Keyword.TheVariants as keyword

-- compare = "=" | "==" | "!=" | "<>" | "<" | "<=" | ">" | ">="
abbrev pub compare_of : Keyword → Option Op
compare_of keyword.Equal = Some op.Eq
compare_of keyword.DoubleEqual = Some op.Eq
compare_of keyword.NotEqual = Some op.Ne
compare_of keyword.LessGreater = Some op.Ne
compare_of keyword.Less = Some op.Lt
compare_of keyword.LessEqual = Some op.Le
compare_of keyword.Greater = Some op.Gt
compare_of keyword.GreaterEqual = Some op.Ge
compare_of _ = None

-- "+" | "-" | "||"
abbrev pub add_of : Keyword → Option Op
add_of keyword.Plus = Some op.Add
add_of keyword.Minus = Some op.Sub
add_of keyword.DoubleBar = Some op.Cat
add_of _ = None

-- "*" | "%"
abbrev pub mul_of : Keyword → Option Op
mul_of keyword.Star = Some op.Mul
mul_of keyword.Percent = Some op.Mod
mul_of _ = None
