-- One level of an expression over the keys of an index, as the code makes it.
use Rattle.std.specs.Prelude.{List, map, option_map}
use Rattle.n1ql_ast.specs.declared.expr.Expr.{Expr, out-Expr}
use Rattle.n1ql_ast.specs.declared.expr.Expr.TheOpen.{Expr-F}
use Rattle.n1ql_ast.specs.declared.expr.Expr.TheVariants as expr
use Rattle.n1ql_spans.specs.Covering.{over_keys}

-- the same level, with each of its parts over the keys
abbrev pub level_over : List Expr → Expr-F Expr → Expr
level_over keys (Expr-F.Const v) = expr.Const v
level_over keys Expr-F.Doc = expr.Doc
level_over keys (Expr-F.MetaOf own) = expr.MetaOf own
level_over keys (Expr-F.Var name) = expr.Var name
level_over keys (Expr-F.Key at) = expr.Key at
level_over keys (Expr-F.Field x name) = expr.Field (over_keys keys x) name
level_over keys (Expr-F.Place x at) = expr.Place (over_keys keys x) (over_keys keys at)
level_over keys (Expr-F.Not x) = expr.Not (over_keys keys x)
level_over keys (Expr-F.Neg x) = expr.Neg (over_keys keys x)
level_over keys (Expr-F.Two op x y) = expr.Two op (over_keys keys x) (over_keys keys y)
level_over keys (Expr-F.Is test x) = expr.Is test (over_keys keys x)
level_over keys (Expr-F.Among x y) = expr.Among (over_keys keys x) (over_keys keys y)
level_over keys (Expr-F.Between x low high) = expr.Between (over_keys keys x) (over_keys keys low) (over_keys keys high)
level_over keys (Expr-F.Call fun xs) = expr.Call fun (map (over_keys keys) xs)
level_over keys (Expr-F.List xs) = expr.List (map (over_keys keys) xs)
level_over keys (Expr-F.Build names xs) = expr.Build names (map (over_keys keys) xs)
level_over keys (Expr-F.Case whens thens other) = expr.Case (map (over_keys keys) whens) (map (over_keys keys) thens) (option_map (over_keys keys) other)
level_over keys (Expr-F.Any name over test) = expr.Any name (over_keys keys over) (over_keys keys test)
level_over keys (Expr-F.Every name over test) = expr.Every name (over_keys keys over) (over_keys keys test)
level_over keys (Expr-F.Each name item over when) = expr.Each name (over_keys keys item) (over_keys keys over) (option_map (over_keys keys) when)
level_over keys (Expr-F.First name item over when) = expr.First name (over_keys keys item) (over_keys keys over) (option_map (over_keys keys) when)
level_over keys (Expr-F.Agg agg x) = expr.Agg agg (option_map (over_keys keys) x)

-- an expression with each of its parts over the keys
abbrev pub parts_over : List Expr → Expr → Expr
parts_over keys e = level_over keys (out-Expr e)
