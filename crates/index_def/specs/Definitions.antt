-- The definition of an index that a statement asks for.
use Rattle.n1ql_ast.specs.declared.create.Create.{Create}
use Rattle.n1ql_ast.specs.Conjunction.{conjuncts_in}
use Rattle.index_def.specs.declared.definition.IndexDef.{IndexDef}

-- the statement's name and keys, and the conjuncts of its WHERE
abbrev pub definition_of : Create → IndexDef
definition_of c = record { name = c.name; keys = c.keys; filter = conjuncts_in c.filter; primary = c.primary }
