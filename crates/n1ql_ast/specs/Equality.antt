-- Whether two expressions are the same tree.
use Rattle.std.specs.Prelude.{ℕ, Bool, true, false, ◌&&◌, ◌==◌, bytes_eq, List, [], ◌∷◌, Option, Some, None}
use Rattle.std.specs.Ordering.{is_eq}
use denote.Enum.Bare.{sameb}
use Rattle.n1ql_value.specs.declared.value.Value.{Value}
use Rattle.n1ql_value.specs.Datum.{datum_of}
use Rattle.n1ql_value.specs.Collation.{value_cmp}
use Rattle.n1ql_value.specs.contracts.op.Op as op
use Rattle.n1ql_value.specs.contracts.fun.Fun as fun
use Rattle.n1ql_ast.specs.contracts.test.Test as test
use Rattle.n1ql_ast.specs.contracts.agg.Agg as agg
use Rattle.n1ql_ast.specs.declared.expr.Expr.{Expr, fold-Expr, out-Expr}
use Rattle.n1ql_ast.specs.declared.expr.Expr.TheOpen.{Expr-F}

abbrev pub same_bool : Bool → Bool → Bool
same_bool true true = true
same_bool false false = true
same_bool _ _ = false

-- two values are the same by the order of values
abbrev pub same_value : Value → Value → Bool
same_value v w = is_eq (value_cmp (datum_of v) (datum_of w))

abbrev pub same_names : List (List ℕ) → List (List ℕ) → Bool
same_names [] [] = true
same_names (m ∷ ms) (n ∷ ns) = bytes_eq m n && same_names ms ns
same_names _ _ = false

-- equally many, and each is the one at its place
abbrev pub all_same : List (Expr → Bool) → List Expr → Bool
all_same [] [] = true
all_same (f ∷ fs) (e ∷ es) = f e && all_same fs es
all_same _ _ = false

-- both are there and the same, or neither is there
abbrev pub same_if_any : Option (Expr → Bool) → Option Expr → Bool
same_if_any None None = true
same_if_any (Some f) (Some e) = f e
same_if_any _ _ = false

-- one level is the level of another expression, given which expressions its parts are the same as
abbrev pub same_level : Expr-F (Expr → Bool) → Expr-F Expr → Bool
same_level (Expr-F.Const v) (Expr-F.Const w) = same_value v w
same_level Expr-F.Doc Expr-F.Doc = true
same_level (Expr-F.MetaOf a) (Expr-F.MetaOf b) = same_bool a b
same_level (Expr-F.Var m) (Expr-F.Var n) = bytes_eq m n
same_level (Expr-F.Key m) (Expr-F.Key n) = m == n
same_level (Expr-F.Field f m) (Expr-F.Field x n) = f x && bytes_eq m n
same_level (Expr-F.Place f g) (Expr-F.Place x y) = f x && g y
same_level (Expr-F.Not f) (Expr-F.Not x) = f x
same_level (Expr-F.Neg f) (Expr-F.Neg x) = f x
same_level (Expr-F.Two o f g) (Expr-F.Two p x y) = sameb op.the_type o p && (f x && g y)
same_level (Expr-F.Is o f) (Expr-F.Is p x) = sameb test.the_type o p && f x
same_level (Expr-F.Among f g) (Expr-F.Among x y) = f x && g y
same_level (Expr-F.Between f g h) (Expr-F.Between x y z) = f x && (g y && h z)
same_level (Expr-F.Call o fs) (Expr-F.Call p xs) = sameb fun.the_type o p && all_same fs xs
same_level (Expr-F.List fs) (Expr-F.List xs) = all_same fs xs
same_level (Expr-F.Build ms fs) (Expr-F.Build ns xs) = same_names ms ns && all_same fs xs
same_level (Expr-F.Case fs gs h) (Expr-F.Case xs ys z) = all_same fs xs && (all_same gs ys && same_if_any h z)
same_level (Expr-F.Any m f g) (Expr-F.Any n x y) = bytes_eq m n && (f x && g y)
same_level (Expr-F.Every m f g) (Expr-F.Every n x y) = bytes_eq m n && (f x && g y)
same_level (Expr-F.Each m f g h) (Expr-F.Each n x y z) = bytes_eq m n && (f x && (g y && same_if_any h z))
same_level (Expr-F.First m f g h) (Expr-F.First n x y z) = bytes_eq m n && (f x && (g y && same_if_any h z))
same_level (Expr-F.Agg o f) (Expr-F.Agg p x) = sameb agg.the_type o p && same_if_any f x
same_level _ _ = false

-- the same expression, part by part
abbrev pub same_tree : Expr → Expr → Bool
same_tree = fold-Expr (Expr → Bool) (λ level e. same_level level (out-Expr e))
