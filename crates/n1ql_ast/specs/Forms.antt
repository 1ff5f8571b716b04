-- Conditions on the form of an expression, at every depth.
use Rattle.std.specs.Prelude.{ℕ, Bool, true, false, ◌&&◌, ◌==◌, nat_le, List, length, Option, Some, None, IsTrue}
use Rattle.std.specs.List.{list_all}
use Rattle.n1ql_value.specs.declared.fun.Fun.{Fun}
use Rattle.n1ql_value.specs.Functions.{least_count, most_count}
use Rattle.n1ql_ast.specs.declared.expr.Expr.{Expr, fold-Expr}
use Rattle.n1ql_ast.specs.declared.expr.Expr.TheOpen.{Expr-F}

-- all of them hold, and what there is holds
abbrev pub all_hold : List Bool → Bool
all_hold bs = list_all (λ b. b) bs

abbrev pub held_if_any : Option Bool → Bool
held_if_any None = true
held_if_any (Some b) = b

-- it holds of each part of one level
abbrev pub of_each_part : Expr-F Bool → Bool
of_each_part (Expr-F.Const v) = true
of_each_part Expr-F.Doc = true
of_each_part (Expr-F.MetaOf own) = true
of_each_part (Expr-F.Var name) = true
of_each_part (Expr-F.Key at) = true
of_each_part (Expr-F.Field x name) = x
of_each_part (Expr-F.Place x at) = x && at
of_each_part (Expr-F.Not x) = x
of_each_part (Expr-F.Neg x) = x
of_each_part (Expr-F.Two op x y) = x && y
of_each_part (Expr-F.Is test x) = x
of_each_part (Expr-F.Among x y) = x && y
of_each_part (Expr-F.Between x low high) = x && (low && high)
of_each_part (Expr-F.Call fun xs) = all_hold xs
of_each_part (Expr-F.List xs) = all_hold xs
of_each_part (Expr-F.Build names xs) = all_hold xs
of_each_part (Expr-F.Case whens thens other) = all_hold whens && (all_hold thens && held_if_any other)
of_each_part (Expr-F.Any name over test) = over && test
of_each_part (Expr-F.Every name over test) = over && test
of_each_part (Expr-F.Each name item over when) = item && (over && held_if_any when)
of_each_part (Expr-F.First name item over when) = item && (over && held_if_any when)
of_each_part (Expr-F.Agg agg x) = held_if_any x

-- a function takes this many arguments
abbrev pub is_within : Option ℕ → ℕ → Bool
is_within None n = true
is_within (Some most) n = nat_le n most

abbrev pub takes_count : Fun → ℕ → Bool
takes_count fun n = nat_le (least_count fun) n && is_within (most_count fun) n

-- at one level a call has as many arguments as its function takes, and the two lists of Case and of Build are equally long
abbrev pub has_its_counts : {A : Type 0} → Expr-F A → Bool
has_its_counts (Expr-F.Call fun xs) = takes_count fun (length xs)
has_its_counts (Expr-F.Build names xs) = length names == length xs
has_its_counts (Expr-F.Case whens thens other) = length whens == length thens
has_its_counts _ = true

abbrev pub is_no_aggregate : {A : Type 0} → Expr-F A → Bool
is_no_aggregate (Expr-F.Agg agg x) = false
is_no_aggregate _ = true

-- each call has as many arguments as its function takes, and the two lists of each Case and of each Build are equally long
abbrev pub is_well_formed : Expr → Bool
is_well_formed = fold-Expr Bool (λ l. has_its_counts l && of_each_part l)

-- no aggregate stands in the expression
abbrev pub has_no_aggregate : Expr → Bool
has_no_aggregate = fold-Expr Bool (λ l. is_no_aggregate l && of_each_part l)

abbrev pub IsWellFormed : Expr → Type 0
IsWellFormed e = IsTrue (is_well_formed e)

abbrev pub HasNoAggregate : Expr → Type 0
HasNoAggregate e = IsTrue (has_no_aggregate e)
