-- Which names of an expression are bound inside it, and expressions that nothing around them changes.
use Rattle.std.specs.Prelude.{◌≡◌, ℕ, Bool, true, false, ◌&&◌, List, [], ◌∷◌, option_map, bytes_eq, IsTrue}
use Rattle.std.specs.List.{list_any}
use Rattle.n1ql_value.specs.Names.{under_name}
use Rattle.n1ql_ast.specs.declared.expr.Expr.{Expr, fold-Expr, map-Expr}
use Rattle.n1ql_ast.specs.declared.expr.Expr.TheOpen.{Expr-F}
use Rattle.n1ql_ast.specs.Evaluation.{Environment}
use Rattle.n1ql_ast.specs.Forms.{of_each_part}

-- Each part of one level in its scope, where `s` is the scope of the level: what binds a name is entered with it, for all of its
-- parts but the collection.
abbrev pub in_scope : {S A : Type 0} → (List ℕ → S → S) → Expr-F (S → A) → S → Expr-F A
in_scope enter (Expr-F.Any name over test) s = Expr-F.Any name (over s) (test (enter name s))
in_scope enter (Expr-F.Every name over test) s = Expr-F.Every name (over s) (test (enter name s))
in_scope enter (Expr-F.Each name item over when) s =
    Expr-F.Each name (item (enter name s)) (over s) (option_map (λ x. x (enter name s)) when)
in_scope enter (Expr-F.First name item over when) s =
    Expr-F.First name (item (enter name s)) (over s) (option_map (λ x. x (enter name s)) when)
in_scope {S = S} {A = A} enter l s = map-Expr (S → A) A (λ x. x s) l

-- `own` holds of each level of the expression, in its scope
abbrev pub holds_within : {S : Type 0} → (List ℕ → S → S) → (Expr-F (S → Bool) → S → Bool) → Expr → S → Bool
holds_within {S = S} enter own = fold-Expr (S → Bool) (λ l s. own l s && of_each_part (in_scope enter l s))

-- the scope that has one more name
abbrev pub with_name : List ℕ → List (List ℕ) → List (List ℕ)
with_name name names = name ∷ names

-- one level by itself is no variable, or one of the names
abbrev pub is_bound : {A : Type 0} → Expr-F A → List (List ℕ) → Bool
is_bound (Expr-F.Var name) names = list_any (bytes_eq name) names
is_bound _ names = true

-- each variable is one of the names, or bound inside the expression
abbrev pub is_closed_in : Expr → List (List ℕ) → Bool
is_closed_in = holds_within with_name is_bound

-- each variable is bound inside the expression
abbrev pub is_closed : Expr → Bool
is_closed e = is_closed_in e []

abbrev pub IsClosedIn : List (List ℕ) → Expr → Type 0
IsClosedIn names e = IsTrue (is_closed_in e names)

abbrev pub IsClosed : Expr → Type 0
IsClosed e = IsClosedIn [] e

-- one level by itself is no name, no part of the document, of META or of the keys of a row, and no aggregate
abbrev pub names_nothing : {A : Type 0} → Expr-F A → Bool
names_nothing Expr-F.Doc = false
names_nothing (Expr-F.MetaOf own) = false
names_nothing (Expr-F.Var name) = false
names_nothing (Expr-F.Key at) = false
names_nothing (Expr-F.Agg agg x) = false
names_nothing _ = true

-- an expression without names, META, keys or aggregates
abbrev pub is_constant : Expr → Bool
is_constant e = holds_within {S = Unit {0}} (λ name s. s) (λ l s. names_nothing l) e tt

-- two environments of one document that bind the same to each of the names
pub record Alike (names : List (List ℕ)) (a b : Environment) : Type 0 where
  pub id : a.id ≡ b.id
  pub doc : a.doc ≡ b.doc
  pub keys : a.keys ≡ b.keys
  pub bound : (n : List ℕ) → IsTrue (list_any (bytes_eq n) names) → under_name n a.bound ≡ under_name n b.bound
