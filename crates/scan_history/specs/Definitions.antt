-- What defines an index.
use Rattle.std.specs.Prelude.{◌≡◌, ℕ, List, None}
use Rattle.n1ql_ast.specs.declared.create.Create.{Create}
use Rattle.n1ql_ast.specs.declared.ddl.Ddl.TheVariants as ddl
use Rattle.n1ql_parse.specs.Readings.{IsReadingDdl}
use Rattle.index_def.specs.declared.definition.IndexDef.{IndexDef}
use Rattle.index_def.specs.Definitions.{definition_of}
use Rattle.index_def.specs.Reasons.{first_reason}

-- The text reads as a creation, there is no reason against it, and it asks for this definition.
pub record Defines (text : List ℕ) (def : IndexDef) : Type 0 where
  pub create : Create
  pub read : IsReadingDdl text (ddl.Create create)
  pub good : first_reason create ≡ None
  pub asked : definition_of create ≡ def
