-- The rules of the statements on indexes as functions on the classes of tokens, for private clauses and for proofs.
--
-- The keyspace of a definition stands before its expressions, so these are read with their names resolved.
use Rattle.std.specs.Prelude.{ℕ, zero, suc, Bool, true, false, if◌then◌else◌, List, [], ◌∷◌, ◌++◌, length, Option, Some, None}
use Rattle.n1ql_ast.specs.declared.ddl.Ddl.{Ddl}
use Rattle.n1ql_ast.specs.declared.ddl.Ddl.TheVariants as statement
use Rattle.n1ql_ast.specs.declared.expr.Expr.{Expr}
use Rattle.n1ql_ast.specs.declared.key.Key.{Key}
use Rattle.n1ql_ast.specs.declared.key.Key.TheVariants as any_key
use Rattle.n1ql_ast.specs.declared.token_class.TokenClass.TheVariants.{Name}
use Rattle.n1ql_ast.specs.declared.keyword.Keyword.TheVariants as keyword
use Rattle.n1ql_ast.specs.declared.unresolved_expr.UnresolvedExpr.{UnresolvedExpr}
use Rattle.n1ql_ast.specs.Statements.{on_document, array_key as array_key_of, primary_index, primary_name}
use Rattle.n1ql_parse.specs.declared.expressions.each.Each.{Each}
use Rattle.n1ql_parse.specs.inner.Parser.{at, enough, parsed, each, object}
use Rattle.n1ql_parse.specs.inner.Steps.{got, Parser, ◌>>=◌, ◌>>◌, pure, fail, end, eat, expect, name}

-- an object without aggregates, after its opening brace
unfoldable pub parsed_object : Parser UnresolvedExpr
parsed_object = λ ts. object (at (enough ts)) false ts

-- what comes after ARRAY, without aggregates
unfoldable pub parsed_each : Parser Each
parsed_each = λ ts. each (at (enough ts)) false ts

-- [name]
abbrev pub may_name : Parser (Option (List ℕ))
may_name (Name text quoted ∷ ts) = got (Some text) ts
may_name ts = got None ts

-- [USING GSI]
unfoldable pub may_using : Parser (Unit {0})
may_using = do
  found ← eat keyword.Using
  if found then expect keyword.Gsi else pure tt

-- after WITH
unfoldable pub options : List ℕ → Parser (Option Expr)
options keyspace = do
  expect keyword.OpenBrace
  x ← parsed_object
  pure (Some (on_document keyspace x))

-- [WITH object]
unfoldable pub may_with : List ℕ → Parser (Option Expr)
may_with keyspace = do
  found ← eat keyword.With
  if found then options keyspace else pure None

-- after WHERE
unfoldable pub filter : List ℕ → Parser (Option Expr)
filter keyspace = do
  x ← parsed false
  pure (Some (on_document keyspace x))

-- [WHERE expr]
unfoldable pub may_where : List ℕ → Parser (Option Expr)
may_where keyspace = do
  found ← eat keyword.Where
  if found then filter keyspace else pure None

-- ARRAY expr FOR name IN expr [WHEN expr] END, after ALL or DISTINCT
unfoldable pub array_key : List ℕ → Bool → Parser Key
array_key keyspace distinct = do
  expect keyword.Array
  e ← parsed_each
  pure (array_key_of keyspace distinct e.variable e.item e.over e.when)

-- an expression as a key
unfoldable pub plain_key : List ℕ → Parser Key
plain_key keyspace = do
  x ← parsed false
  pure (any_key.Plain (on_document keyspace x))

-- key
unfoldable pub key : List ℕ → Parser Key
key keyspace = do
  is_all ← eat keyword.All
  if is_all then array_key keyspace false else (do
    is_distinct ← eat keyword.Distinct
    if is_distinct then array_key keyspace true else plain_key keyspace)

-- keys with commas between them, behind those that were found
unfoldable pub keys_from : List ℕ → ℕ → List Key → Parser (List Key)
keys_from keyspace zero found = fail
keys_from keyspace (suc n) found = do
  k ← key keyspace
  more ← eat keyword.Comma
  if more then keys_from keyspace n (found ++ k ∷ []) else pure (found ++ k ∷ [])

-- key {"," key}
unfoldable pub keys : List ℕ → Parser (List Key)
keys keyspace = λ ts. keys_from keyspace (length ts) [] ts

-- names with commas between them, behind those that were found
unfoldable pub names_from : ℕ → List (List ℕ) → Parser (List (List ℕ))
names_from zero found = fail
names_from (suc n) found = do
  text ← name
  more ← eat keyword.Comma
  if more then names_from n (found ++ text ∷ []) else pure (found ++ text ∷ [])

-- name {"," name}
unfoldable pub names : Parser (List (List ℕ))
names = λ ts. names_from (length ts) [] ts

-- ON name
unfoldable pub on_keyspace : Parser (List ℕ)
on_keyspace = do
  expect keyword.On
  name

-- "(" key {"," key} ")"
unfoldable pub key_list : List ℕ → Parser (List Key)
key_list keyspace = do
  expect keyword.OpenParenthesis
  ks ← keys keyspace
  expect keyword.CloseParenthesis
  pure ks

-- CREATE INDEX, after its name and its keyspace
unfoldable pub create_on : List ℕ → List ℕ → Parser Ddl
create_on text keyspace = do
  ks ← key_list keyspace
  condition ← may_where keyspace
  may_using
  settings ← may_with keyspace
  pure (statement.Create (record { name = text; keyspace = keyspace; keys = ks; filter = condition; options = settings; primary = false }))

-- CREATE INDEX, after its words
unfoldable pub create_index : Parser Ddl
create_index = do
  text ← name
  keyspace ← on_keyspace
  create_on text keyspace

-- CREATE PRIMARY INDEX, after PRIMARY
unfoldable pub create_primary : Parser Ddl
create_primary = do
  expect keyword.Index
  text ← may_name
  keyspace ← on_keyspace
  may_using
  settings ← may_with keyspace
  pure (statement.Create (primary_index text keyspace settings))

-- after CREATE
unfoldable pub create : Parser Ddl
create = do
  is_primary ← eat keyword.Primary
  if is_primary then create_primary else (do expect keyword.Index; create_index)

-- "(" name {"," name} ")"
unfoldable pub name_list : Parser (List (List ℕ))
name_list = do
  expect keyword.OpenParenthesis
  texts ← names
  expect keyword.CloseParenthesis
  pure texts

-- after BUILD
unfoldable pub build : Parser Ddl
build = do
  expect keyword.Index
  keyspace ← on_keyspace
  texts ← name_list
  may_using
  pure (statement.Build keyspace texts)

-- ON name [USING GSI], after the name of an index
unfoldable pub remove_on : List ℕ → Parser Ddl
remove_on text = do
  expect keyword.On
  keyspace ← name
  may_using
  pure (statement.Remove keyspace text)

-- name [USING GSI], after the name of a keyspace and its point
unfoldable pub remove_in : List ℕ → Parser Ddl
remove_in keyspace = do
  text ← name
  may_using
  pure (statement.Remove keyspace text)

-- DROP INDEX, after its words
unfoldable pub remove_index : Parser Ddl
remove_index = do
  text ← name
  is_in ← eat keyword.Dot
  if is_in then remove_in text else remove_on text

-- DROP PRIMARY INDEX, after PRIMARY
unfoldable pub remove_primary : Parser Ddl
remove_primary = do
  expect keyword.Index
  remove_on primary_name

-- after DROP
unfoldable pub remove : Parser Ddl
remove = do
  is_primary ← eat keyword.Primary
  if is_primary then remove_primary else (do expect keyword.Index; remove_index)

-- a statement at the front of the tokens
unfoldable pub statement_parsed : Parser Ddl
statement_parsed = do
  is_create ← eat keyword.Create
  if is_create then create else (do
    is_build ← eat keyword.Build
    if is_build then build else (do expect keyword.Drop; remove))

-- the whole list as a statement
unfoldable pub whole_statement : Parser Ddl
whole_statement = do
  d ← statement_parsed
  end
  pure d
