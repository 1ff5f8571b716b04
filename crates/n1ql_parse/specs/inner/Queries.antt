-- The rules of SELECT as functions on the classes of tokens, for private clauses and for proofs.
--
-- The names of a SELECT are resolved when it is read whole, since FROM and UNNEST stand behind its result.
use Rattle.std.specs.Prelude.{ℕ, zero, suc, ◌^◌, Bool, true, false, ◌&&◌, if◌then◌else◌, nat_lt, List, [], ◌∷◌, ◌++◌, length, drop, Option, Some, None, unwrap_or}
use Rattle.std.specs.Option.{is_some}
use Rattle.n1ql_ast.specs.declared.keyword.Keyword.{Keyword as AnyKeyword}
use Rattle.n1ql_ast.specs.declared.keyword.Keyword.TheVariants as keyword
use Rattle.n1ql_ast.specs.declared.order.Order.{Order}
use Rattle.n1ql_ast.specs.declared.selection.Selection.{Selection}
use Rattle.n1ql_ast.specs.declared.term.Term.{Term}
use Rattle.n1ql_ast.specs.declared.term.Term.TheVariants as any_term
use Rattle.n1ql_ast.specs.declared.token_class.TokenClass.{TokenClass}
use Rattle.n1ql_ast.specs.declared.token_class.TokenClass.TheVariants.{Name, Num}
use Rattle.n1ql_ast.specs.declared.unnest.Unnest.{Unnest}
use Rattle.n1ql_ast.specs.declared.unresolved_expr.UnresolvedExpr.{UnresolvedExpr}
use Rattle.n1ql_ast.specs.Selections.{tokens_before, own_name, name_alone, or_own}
use Rattle.n1ql_parse.specs.declared.queries.finish.Finish.{Finish}
use Rattle.n1ql_parse.specs.declared.queries.grouping.Grouping.{Grouping}
use Rattle.n1ql_parse.specs.declared.queries.head.Head.{Head}
use Rattle.n1ql_parse.specs.declared.queries.projection.Projection.{Projection}
use Rattle.n1ql_parse.specs.declared.queries.rows.Rows.{Rows}
use Rattle.n1ql_parse.specs.declared.queries.source.Source.{Source}
use Rattle.n1ql_parse.specs.declared.queries.tail.Tail.{Tail}
use Rattle.n1ql_parse.specs.inner.Parser.{at, enough, parsed, taken_if_some, whole_after, wholes}
use Rattle.n1ql_parse.specs.inner.Statements.{may_name, may_using}
use Rattle.n1ql_parse.specs.inner.Steps.{got, and_then, Parser, ◌>>=◌, ◌>>◌, ◌<$>◌, pure, fail, end, sees, eat, expect, name, if_some}

-- what comes after this keyword, if it comes next: an expression, in which aggregates may stand or not
unfoldable pub parsed_after : Bool → AnyKeyword → Parser (Option UnresolvedExpr)
parsed_after agg m = λ ts. whole_after (at (enough ts)) agg m ts

-- expressions without aggregates, with commas between them
unfoldable pub parsed_exprs : Parser (List UnresolvedExpr)
parsed_exprs = λ ts. wholes (at (enough ts)) false ts

-- [[AS] name]
unfoldable pub may_as : Parser (Option (List ℕ))
may_as = do
  found ← eat keyword.As
  if found then (do text ← name; pure (Some text)) else may_name

-- [AS] name
unfoldable pub as_name : Parser (List ℕ)
as_name = do
  eat keyword.As
  name

-- a point and a star come next
abbrev pub spreads_behind : List TokenClass → Bool
spreads_behind ts = sees keyword.Dot ts && sees keyword.Star (drop 1 ts)

-- a name, a point and a star come next
abbrev pub spreads : List TokenClass → Bool
spreads (Name text quoted ∷ ts) = spreads_behind ts
spreads _ = false

-- name "." "*"
unfoldable pub spread : Parser (Term UnresolvedExpr)
spread = do
  text ← name
  expect keyword.Dot
  expect keyword.Star
  pure (any_term.Spread text)

-- a term of a value, of the name that is written behind it and of the one that it has by itself
abbrev pub one_term : UnresolvedExpr → Option (List ℕ) → Option (List ℕ) → Term UnresolvedExpr
one_term x own given = any_term.One x (or_own given own) (is_some given)

-- aexpr [[AS] name]
unfoldable pub value_term : Parser (Term UnresolvedExpr)
value_term = λ ts. and_then (parsed true ts) (λ x us. and_then (may_as us) (λ given vs. got (one_term x (own_name (tokens_before ts us) x) given) vs))

-- term
unfoldable pub term : Parser (Term UnresolvedExpr)
term = do
  is_all ← eat keyword.Star
  if is_all then pure any_term.All else (λ ts. if spreads ts then spread ts else value_term ts)

-- terms with commas between them, behind those that were found
unfoldable pub terms_from : ℕ → List (Term UnresolvedExpr) → Parser (List (Term UnresolvedExpr))
terms_from zero found = fail
terms_from (suc n) found = do
  t ← term
  more ← eat keyword.Comma
  if more then terms_from n (found ++ t ∷ []) else pure (found ++ t ∷ [])

-- term {"," term}
unfoldable pub terms : Parser (List (Term UnresolvedExpr))
terms = λ ts. terms_from (length ts) [] ts

-- aexpr, after RAW
unfoldable pub raw : Parser Projection
raw = do
  x ← parsed true
  pure (record { raw = Some x; terms = [] })

-- terms as a result
unfoldable pub listed : Parser Projection
listed = do
  ts ← terms
  pure (record { raw = None; terms = ts })

-- result
unfoldable pub projection : Parser Projection
projection = do
  is_raw ← eat keyword.Raw
  if is_raw then raw else listed

-- after USE
unfoldable pub used : Parser (Option (List ℕ))
used = do
  expect keyword.Index
  expect keyword.OpenParenthesis
  text ← name
  may_using
  expect keyword.CloseParenthesis
  pure (Some text)

-- [USE INDEX "(" name [USING GSI] ")"]
unfoldable pub may_use : Parser (Option (List ℕ))
may_use = do
  found ← eat keyword.Use
  if found then used else pure None

-- what is read from, where it may have a second name
abbrev pub source_of : List ℕ → Option (List ℕ) → Option (List ℕ) → Source
source_of keyspace second hint = record { keyspace = keyspace; alias = unwrap_or second keyspace; hint = hint }

-- FROM name [[AS] name] [USE INDEX ..]
unfoldable pub source : Parser Source
source = do
  expect keyword.From
  keyspace ← name
  second ← may_as
  hint ← may_use
  pure (source_of keyspace second hint)

-- expr [AS] name, after UNNEST
unfoldable pub unnest : Bool → Parser (Unnest UnresolvedExpr)
unnest left = do
  x ← parsed false
  text ← as_name
  pure (record { left = left; over = x; name = text })

-- UNNEST .., after LEFT
unfoldable pub left_unnest : Parser (Unnest UnresolvedExpr)
left_unnest = do
  expect keyword.Unnest
  unnest true

-- UNNESTs, behind those that were found
unfoldable pub unnests_from : ℕ → List (Unnest UnresolvedExpr) → Parser (List (Unnest UnresolvedExpr))
unnests_from zero found = pure found
unnests_from (suc n) found = do
  is_left ← eat keyword.Left
  if is_left then (do u ← left_unnest; unnests_from n (found ++ u ∷ [])) else (do
    is_inner ← eat keyword.Unnest
    if is_inner then (do u ← unnest false; unnests_from n (found ++ u ∷ [])) else pure found)

-- {[LEFT] UNNEST expr [AS] name}
unfoldable pub unnests : Parser (List (Unnest UnresolvedExpr))
unnests = λ ts. unnests_from (length ts) [] ts

-- {[LEFT] UNNEST expr [AS] name} [WHERE expr]
unfoldable pub rows : Parser Rows
rows = do
  us ← unnests
  condition ← parsed_after false keyword.Where
  pure (record { unnests = us; filter = condition })

-- no groups
abbrev pub no_grouping : Grouping
no_grouping = record { groups = []; having = None }

-- BY expr {"," expr} [HAVING aexpr], after GROUP
unfoldable pub grouped : Parser Grouping
grouped = do
  expect keyword.By
  xs ← parsed_exprs
  condition ← parsed_after true keyword.Having
  pure (record { groups = xs; having = condition })

-- [GROUP BY expr {"," expr} [HAVING aexpr]]
unfoldable pub grouping : Parser Grouping
grouping = do
  found ← eat keyword.Group
  if found then grouped else pure no_grouping

-- [ASC | DESC]
unfoldable pub direction : Parser Bool
direction = do
  is_desc ← eat keyword.Desc
  if is_desc then pure true else (do
    eat keyword.Asc
    pure false)

-- aexpr [ASC | DESC]
unfoldable pub order : Parser (Order UnresolvedExpr)
order = λ ts. and_then (parsed true ts) (λ x us. and_then (direction us)
    (λ desc vs. got (record { key = x; desc = desc; alone = name_alone (tokens_before ts us) x }) vs))

-- keys of ORDER BY with commas between them, behind those that were found
unfoldable pub orders_from : ℕ → List (Order UnresolvedExpr) → Parser (List (Order UnresolvedExpr))
orders_from zero found = fail
orders_from (suc n) found = do
  o ← order
  more ← eat keyword.Comma
  if more then orders_from n (found ++ o ∷ []) else pure (found ++ o ∷ [])

-- order {"," order}
unfoldable pub orders : Parser (List (Order UnresolvedExpr))
orders = λ ts. orders_from (length ts) [] ts

-- BY order {"," order}, after ORDER
unfoldable pub ordered : Parser (List (Order UnresolvedExpr))
ordered = do
  expect keyword.By
  orders

-- [ORDER BY order {"," order}]
unfoldable pub may_order : Parser (List (Order UnresolvedExpr))
may_order = do
  found ← eat keyword.Order
  if found then ordered else pure []

-- the number below 2^63 that the next token is
abbrev pub next_count : List TokenClass → Option ℕ
next_count (Num n ∷ ts) = if nat_lt n (2 ^ 63) then Some n else None
next_count _ = None

-- takes a number below 2^63
abbrev pub count : Parser ℕ
count = λ ts. and_then (taken_if_some (next_count ts) ts) (λ c. if_some c pure fail)

-- [LIMIT number]
unfoldable pub may_limit : Parser (Option ℕ)
may_limit = do
  found ← eat keyword.Limit
  if found then (do n ← count; pure (Some n)) else pure None

-- [OFFSET number]
unfoldable pub may_offset : Parser ℕ
may_offset = do
  found ← eat keyword.Offset
  if found then count else pure 0

-- [ORDER BY order {"," order}] [LIMIT number] [OFFSET number]
unfoldable pub finish : Parser Finish
finish = do
  os ← may_order
  n ← may_limit
  m ← may_offset
  pure (record { orders = os; limit = n; offset = m })

-- SELECT [DISTINCT] result FROM name [[AS] name] [USE INDEX ..]
unfoldable pub head : Parser Head
head = do
  expect keyword.Select
  distinct ← eat keyword.Distinct
  p ← projection
  s ← source
  pure (record { distinct = distinct; projection = p; source = s })

-- {UNNEST ..} [WHERE ..] [GROUP BY ..] [ORDER BY ..] [LIMIT ..] [OFFSET ..]
unfoldable pub tail : Parser Tail
tail = do
  r ← rows
  g ← grouping
  f ← finish
  pure (record { rows = r; grouping = g; finish = f })

-- a SELECT of its parts
abbrev pub select_of : Head → Tail → Selection UnresolvedExpr
select_of h t = record {
  distinct = h.distinct;
  raw = h.projection.raw;
  terms = h.projection.terms;
  keyspace = h.source.keyspace;
  alias = h.source.alias;
  hint = h.source.hint;
  unnests = t.rows.unnests;
  filter = t.rows.filter;
  groups = t.grouping.groups;
  having = t.grouping.having;
  orders = t.finish.orders;
  limit = t.finish.limit;
  offset = t.finish.offset;
}

-- a SELECT at the front of the tokens
unfoldable pub select_parsed : Parser (Selection UnresolvedExpr)
select_parsed = do
  h ← head
  t ← tail
  pure (select_of h t)

-- the whole list as a SELECT
unfoldable pub whole_select : Parser (Selection UnresolvedExpr)
whole_select = do
  q ← select_parsed
  end
  pure q
