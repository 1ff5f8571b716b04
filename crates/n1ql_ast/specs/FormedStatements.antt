-- The form of statements on indexes: each expression in them can be evaluated, and its variables are bound inside it.
use Rattle.std.specs.Prelude.{◌≡◌, ℕ, ◌<◌, List, [], ◌∷◌, length, None, IfSome, IsTrue, ⊤}
use Rattle.std.specs.List.{All}
use Rattle.n1ql_ast.specs.declared.create.Create.{Create}
use Rattle.n1ql_ast.specs.declared.ddl.Ddl.{Ddl}
use Rattle.n1ql_ast.specs.declared.ddl.Ddl.TheVariants as ddl
use Rattle.n1ql_ast.specs.declared.expr.Expr.{Expr}
use Rattle.n1ql_ast.specs.declared.key.Key.{Key}
use Rattle.n1ql_ast.specs.declared.key.Key.TheVariants as key
use Rattle.n1ql_ast.specs.Bindings.{IsClosedIn}
use Rattle.n1ql_ast.specs.Forms.{HasNoAggregate, IsWellFormed}
use Rattle.n1ql_ast.specs.Statements.{primary_key}

-- an expression that can be evaluated on a document: it is well formed, and no aggregate stands in it
abbrev pub IsEvaluable : Expr → Type 0
IsEvaluable e = IsWellFormed e × HasNoAggregate e

-- an expression of a definition, where these names are bound around it: each of its variables is one of them, or bound inside it
abbrev pub IsFormedIn : List (List ℕ) → Expr → Type 0
IsFormedIn names e = IsEvaluable e × IsClosedIn names e

-- the item and WHEN of an array key may read its variable, and nothing else of a definition may read any that is bound around it
abbrev pub IsFormedKey : Key → Type 0
IsFormedKey (key.Plain e) = IsFormedIn [] e
IsFormedKey (key.Each distinct item var over when) =
    IsFormedIn (var ∷ []) item × IsFormedIn [] over × IfSome when (IsFormedIn (var ∷ []))

-- so is each expression of a definition, and there is a key; a primary index has the one key META().id, and no filter
pub record IsFormedCreate (c : Create) : Type 0 where
  pub keys : All IsFormedKey c.keys
  pub some : 0 < length c.keys
  pub filter : IfSome c.filter (IsFormedIn [])
  pub options : IfSome c.options IsEvaluable
  pub primary : IsTrue c.primary → (c.keys ≡ primary_key ∷ []) × (c.filter ≡ None)

-- so is each definition in a statement
abbrev pub IsFormedDdl : Ddl → Type 0
IsFormedDdl (ddl.Create c) = IsFormedCreate c
IsFormedDdl _ = ⊤
