-- The form of definitions: each expression in them can be evaluated and reads no name that isn't bound inside it, there is a key, and
-- a primary index has the one key META().id and no filter.
use Rattle.std.specs.Prelude.{◌≡◌, ◌<◌, [], ◌∷◌, length, None, IfSome, IsTrue}
use Rattle.std.specs.List.{All}
use Rattle.n1ql_ast.specs.declared.create.Create.{Create}
use Rattle.n1ql_ast.specs.FormedStatements.{IsFormedIn, IsFormedKey}
use Rattle.n1ql_ast.specs.Statements.{primary_key}
use Rattle.index_def.specs.declared.definition.IndexDef.{IndexDef}

pub record IsFormed (def : IndexDef) : Type 0 where
  pub keys : All IsFormedKey def.keys
  pub some : 0 < length def.keys
  pub filter : All (IsFormedIn []) def.filter
  pub primary : IsTrue def.primary → (def.keys ≡ primary_key ∷ []) × (def.filter ≡ [])

-- the same of what a statement gives a definition: its keys and its WHERE, and no options
pub record DefinesFormed (c : Create) : Type 0 where
  pub keys : All IsFormedKey c.keys
  pub some : 0 < length c.keys
  pub filter : IfSome c.filter (IsFormedIn [])
  pub primary : IsTrue c.primary → (c.keys ≡ primary_key ∷ []) × (c.filter ≡ None)
