-- Expressions that are read from a row of an index whole, as the code tests them.
use Rattle.std.specs.Prelude.{Bool, false, ◌&&◌, ◌||◌, List, bytes_eq, codes}
use Rattle.std.specs.List.{list_any}
use Rattle.n1ql_ast.specs.declared.expr.Expr.{Expr, out-Expr}
use Rattle.n1ql_ast.specs.declared.expr.Expr.TheOpen.{Expr-F}
use Rattle.n1ql_ast.specs.declared.key.Key.{Key}
use Rattle.n1ql_ast.specs.declared.key.Key.TheVariants.{Plain, Each}
use Rattle.n1ql_ast.specs.Equality.{same_tree}

-- one level is META of the document, and META().id
abbrev pub is_own_meta : Expr-F Expr → Bool
is_own_meta (Expr-F.MetaOf own) = own
is_own_meta _ = false

abbrev pub is_own_id : Expr-F Expr → Bool
is_own_id (Expr-F.Field x name) = is_own_meta (out-Expr x) && bytes_eq (codes "id") name
is_own_id _ = false

-- a key that isn't an array key is the expression
abbrev pub is_plain : Expr → Key → Bool
is_plain e (Plain k) = same_tree k e
is_plain e (Each distinct item var over when) = false

-- some key is the expression, or it is META().id
abbrev pub is_read_whole : List Key → Expr → Bool
is_read_whole keys e = list_any (is_plain e) keys || is_own_id (out-Expr e)
