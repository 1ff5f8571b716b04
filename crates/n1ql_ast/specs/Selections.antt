-- The grammar of SELECT, a case for each production, on top of the grammar of expressions.
--
-- What the names of the result mean is told behind it, in FROM and in UNNEST; so each production has the expression as it is written.
use Rattle.std.specs.Prelude.{ℕ, ◌<◌, ◌^◌, ◌-◌, Bool, true, false, List, [], ◌∷◌, length, take, slice_get, Option, Some, None, unwrap_or}
use Rattle.std.specs.Option.{is_some}
use Rattle.n1ql_ast.specs.declared.order.Order.{Order}
use Rattle.n1ql_ast.specs.declared.selection.Selection.{Selection}
use Rattle.n1ql_ast.specs.declared.term.Term.{Term}
use Rattle.n1ql_ast.specs.declared.term.Term.TheVariants.{All, Spread, One}
use Rattle.n1ql_ast.specs.declared.token_class.TokenClass.{TokenClass}
use Rattle.n1ql_ast.specs.declared.token_class.TokenClass.TheVariants.{Keyword, Name, Num}
use Rattle.n1ql_ast.specs.declared.keyword.Keyword.TheVariants as keyword
use Rattle.n1ql_ast.specs.declared.unnest.Unnest.{Unnest}
use Rattle.n1ql_ast.specs.declared.unresolved_expr.UnresolvedExpr.{UnresolvedExpr, out-UnresolvedExpr}
use Rattle.n1ql_ast.specs.declared.unresolved_expr.UnresolvedExpr.TheOpen.{UnresolvedExpr-F}
use Rattle.n1ql_ast.specs.Grammar.{IsExpr, IsExprs}
use Rattle.n1ql_ast.specs.Statements.{MayUsing}

-- the tokens that stand before the rest, and the last of some tokens
abbrev pub tokens_before : List TokenClass → List TokenClass → List TokenClass
tokens_before ts rest = take (length ts - length rest) ts

abbrev pub last_of : List TokenClass → Option TokenClass
last_of ts = slice_get ts (length ts - 1)

-- The name that an expression of these tokens has by itself: the last token, where that is a name and the expression is this name or
-- a field of it. Brackets around the whole leave it without one, since a bracket is then the last token.
abbrev pub name_at_end : Option TokenClass → UnresolvedExpr-F UnresolvedExpr → Option (List ℕ)
name_at_end (Some (Name name quoted)) (UnresolvedExpr-F.Name n) = Some name
name_at_end (Some (Name name quoted)) (UnresolvedExpr-F.Field x n) = Some name
name_at_end last level = None

abbrev pub own_name : List TokenClass → UnresolvedExpr → Option (List ℕ)
own_name ts x = name_at_end (last_of ts) (out-UnresolvedExpr x)

-- the name that an expression of these tokens is, and nothing else
abbrev pub name_only : Option TokenClass → UnresolvedExpr-F UnresolvedExpr → Option (List ℕ)
name_only (Some (Name name quoted)) (UnresolvedExpr-F.Name n) = Some name
name_only last level = None

abbrev pub name_alone : List TokenClass → UnresolvedExpr → Option (List ℕ)
name_alone ts x = name_only (last_of ts) (out-UnresolvedExpr x)

-- a name that is written goes before the one that an expression has by itself
abbrev pub or_own : Option (List ℕ) → Option (List ℕ) → Option (List ℕ)
or_own None own = own
or_own (Some given) own = Some given

-- [DISTINCT]
pub data MayDistinct : (ts : List TokenClass) (distinct : Bool) (rest : List TokenClass) → Type 0 where
  distinct_none : {ts : List TokenClass} → MayDistinct ts false ts
  distinct_some : {ts : List TokenClass} → MayDistinct (Keyword keyword.Distinct ∷ ts) true ts

-- [[AS] name]
pub data MayAs : (ts : List TokenClass) (name : Option (List ℕ)) (rest : List TokenClass) → Type 0 where
  as_none : {ts : List TokenClass} → MayAs ts None ts
  as_name : {quoted : Bool} {name : List ℕ} {ts : List TokenClass} → MayAs (Name name quoted ∷ ts) (Some name) ts
  as_word : {quoted : Bool} {name : List ℕ} {ts : List TokenClass} → MayAs (Keyword keyword.As ∷ Name name quoted ∷ ts) (Some name) ts

-- term = "*" | name "." "*" | aexpr [[AS] name]
pub data IsTerm : (ts : List TokenClass) (t : Term UnresolvedExpr) (rest : List TokenClass) → Type 0 where
  term_all : {ts : List TokenClass} → IsTerm (Keyword keyword.Star ∷ ts) All ts
  term_spread : {quoted : Bool} {name : List ℕ} {ts : List TokenClass} →
      IsTerm (Name name quoted ∷ Keyword keyword.Dot ∷ Keyword keyword.Star ∷ ts) (Spread name) ts
  term_one : {x : UnresolvedExpr} {given : Option (List ℕ)} {ts us rest : List TokenClass} →
      IsExpr true ts x us → MayAs us given rest → IsTerm ts (One x (or_own given (own_name (tokens_before ts us) x)) (is_some given)) rest

-- term {"," term}
mutual
  pub data IsTerms : (ts : List TokenClass) (terms : List (Term UnresolvedExpr)) (rest : List TokenClass) → Type 0 where
    terms : {t : Term UnresolvedExpr} {more : List (Term UnresolvedExpr)} {ts us rest : List TokenClass} →
        IsTerm ts t us → MoreTerms us more rest → IsTerms ts (t ∷ more) rest

  pub data MoreTerms : (ts : List TokenClass) (terms : List (Term UnresolvedExpr)) (rest : List TokenClass) → Type 0 where
    terms_done : {ts : List TokenClass} → MoreTerms ts [] ts
    terms_more : {more : List (Term UnresolvedExpr)} {ts rest : List TokenClass} →
        IsTerms ts more rest → MoreTerms (Keyword keyword.Comma ∷ ts) more rest

-- result = RAW aexpr | term {"," term}
pub data IsResult : (ts : List TokenClass) (raw : Option UnresolvedExpr) (terms : List (Term UnresolvedExpr)) (rest : List TokenClass) → Type 0 where
  result_raw : {x : UnresolvedExpr} {ts rest : List TokenClass} →
      IsExpr true ts x rest → IsResult (Keyword keyword.Raw ∷ ts) (Some x) [] rest
  result_terms : {terms : List (Term UnresolvedExpr)} {ts rest : List TokenClass} →
      IsTerms ts terms rest → IsResult ts None terms rest

-- [USE INDEX "(" name [USING GSI] ")"]
pub data MayUse : (ts : List TokenClass) (hint : Option (List ℕ)) (rest : List TokenClass) → Type 0 where
  use_none : {ts : List TokenClass} → MayUse ts None ts
  use_some : {quoted : Bool} {name : List ℕ} {ts rest : List TokenClass} →
      MayUsing ts (Keyword keyword.CloseParenthesis ∷ rest) →
      MayUse (Keyword keyword.Use ∷ Keyword keyword.Index ∷ Keyword keyword.OpenParenthesis ∷ Name name quoted ∷ ts) (Some name) rest

-- [LEFT] UNNEST
pub data IsLeftOrNot : (ts : List TokenClass) (left : Bool) (rest : List TokenClass) → Type 0 where
  unnest_inner : {ts : List TokenClass} → IsLeftOrNot (Keyword keyword.Unnest ∷ ts) false ts
  unnest_left : {ts : List TokenClass} → IsLeftOrNot (Keyword keyword.Left ∷ Keyword keyword.Unnest ∷ ts) true ts

-- [LEFT] UNNEST expr [AS] name
pub data IsUnnest : (ts : List TokenClass) (u : Unnest UnresolvedExpr) (rest : List TokenClass) → Type 0 where
  unnest : {left : Bool} {x : UnresolvedExpr} {name : List ℕ} {ts us vs rest : List TokenClass} →
      IsLeftOrNot ts left us → IsExpr false us x vs → MayAs vs (Some name) rest →
      IsUnnest ts (record { left = left; over = x; name = name }) rest

-- {[LEFT] UNNEST expr [AS] name}
pub data AreUnnests : (ts : List TokenClass) (unnests : List (Unnest UnresolvedExpr)) (rest : List TokenClass) → Type 0 where
  unnests_done : {ts : List TokenClass} → AreUnnests ts [] ts
  unnests_more : {u : Unnest UnresolvedExpr} {more : List (Unnest UnresolvedExpr)} {ts us rest : List TokenClass} →
      IsUnnest ts u us → AreUnnests us more rest → AreUnnests ts (u ∷ more) rest

-- [WHERE expr]
pub data MayFilter : (ts : List TokenClass) (filter : Option UnresolvedExpr) (rest : List TokenClass) → Type 0 where
  filter_none : {ts : List TokenClass} → MayFilter ts None ts
  filter_some : {x : UnresolvedExpr} {ts rest : List TokenClass} →
      IsExpr false ts x rest → MayFilter (Keyword keyword.Where ∷ ts) (Some x) rest

-- [HAVING aexpr]
pub data MayHaving : (ts : List TokenClass) (having : Option UnresolvedExpr) (rest : List TokenClass) → Type 0 where
  having_none : {ts : List TokenClass} → MayHaving ts None ts
  having_some : {x : UnresolvedExpr} {ts rest : List TokenClass} →
      IsExpr true ts x rest → MayHaving (Keyword keyword.Having ∷ ts) (Some x) rest

-- [GROUP BY expr {"," expr} [HAVING aexpr]]
pub data MayGroup : (ts : List TokenClass) (groups : List UnresolvedExpr) (having : Option UnresolvedExpr) (rest : List TokenClass) → Type 0 where
  group_none : {ts : List TokenClass} → MayGroup ts [] None ts
  group_some : {groups : List UnresolvedExpr} {having : Option UnresolvedExpr} {ts us rest : List TokenClass} →
      IsExprs false ts groups us → MayHaving us having rest →
      MayGroup (Keyword keyword.Group ∷ Keyword keyword.By ∷ ts) groups having rest

-- [ASC | DESC]
pub data MayDirection : (ts : List TokenClass) (desc : Bool) (rest : List TokenClass) → Type 0 where
  direction_none : {ts : List TokenClass} → MayDirection ts false ts
  direction_asc : {ts : List TokenClass} → MayDirection (Keyword keyword.Asc ∷ ts) false ts
  direction_desc : {ts : List TokenClass} → MayDirection (Keyword keyword.Desc ∷ ts) true ts

-- order = aexpr [ASC | DESC]
pub data IsOrder : (ts : List TokenClass) (o : Order UnresolvedExpr) (rest : List TokenClass) → Type 0 where
  order : {x : UnresolvedExpr} {desc : Bool} {ts us rest : List TokenClass} →
      IsExpr true ts x us → MayDirection us desc rest →
      IsOrder ts (record { key = x; desc = desc; alone = name_alone (tokens_before ts us) x }) rest

-- order {"," order}
mutual
  pub data IsOrders : (ts : List TokenClass) (orders : List (Order UnresolvedExpr)) (rest : List TokenClass) → Type 0 where
    orders : {o : Order UnresolvedExpr} {more : List (Order UnresolvedExpr)} {ts us rest : List TokenClass} →
        IsOrder ts o us → MoreOrders us more rest → IsOrders ts (o ∷ more) rest

  pub data MoreOrders : (ts : List TokenClass) (orders : List (Order UnresolvedExpr)) (rest : List TokenClass) → Type 0 where
    orders_done : {ts : List TokenClass} → MoreOrders ts [] ts
    orders_more : {more : List (Order UnresolvedExpr)} {ts rest : List TokenClass} →
        IsOrders ts more rest → MoreOrders (Keyword keyword.Comma ∷ ts) more rest

-- [ORDER BY order {"," order}]
pub data MayOrder : (ts : List TokenClass) (orders : List (Order UnresolvedExpr)) (rest : List TokenClass) → Type 0 where
  order_none : {ts : List TokenClass} → MayOrder ts [] ts
  order_some : {orders : List (Order UnresolvedExpr)} {ts rest : List TokenClass} →
      IsOrders ts orders rest → MayOrder (Keyword keyword.Order ∷ Keyword keyword.By ∷ ts) orders rest

-- [LIMIT number], of a number below 2^63
pub data MayLimit : (ts : List TokenClass) (limit : Option ℕ) (rest : List TokenClass) → Type 0 where
  limit_none : {ts : List TokenClass} → MayLimit ts None ts
  limit_some : {n : ℕ} {ts : List TokenClass} → n < 2 ^ 63 → MayLimit (Keyword keyword.Limit ∷ Num n ∷ ts) (Some n) ts

-- [OFFSET number], of a number below 2^63
pub data MayOffset : (ts : List TokenClass) (offset : ℕ) (rest : List TokenClass) → Type 0 where
  offset_none : {ts : List TokenClass} → MayOffset ts 0 ts
  offset_some : {n : ℕ} {ts : List TokenClass} → n < 2 ^ 63 → MayOffset (Keyword keyword.Offset ∷ Num n ∷ ts) n ts

-- SELECT [DISTINCT] result FROM name [[AS] name] [USE INDEX ..] {UNNEST ..} [WHERE ..] [GROUP BY ..] [ORDER BY ..] [LIMIT ..] [OFFSET ..].
-- The document has the second name of FROM, or else that of its keyspace.
pub data IsSelect : (ts : List TokenClass) (q : Selection UnresolvedExpr) (rest : List TokenClass) → Type 0 where
  select : {distinct quoted : Bool} {raw filter having : Option UnresolvedExpr} {terms : List (Term UnresolvedExpr)} {keyspace : List ℕ}
      {second hint : Option (List ℕ)} {unnests : List (Unnest UnresolvedExpr)} {groups : List UnresolvedExpr}
      {orders : List (Order UnresolvedExpr)} {limit : Option ℕ} {offset : ℕ}
      {t0 t1 t2 t3 t4 t5 t6 t7 t8 t9 rest : List TokenClass} →
      MayDistinct t0 distinct t1 → IsResult t1 raw terms (Keyword keyword.From ∷ Name keyspace quoted ∷ t2) → MayAs t2 second t3 →
      MayUse t3 hint t4 → AreUnnests t4 unnests t5 → MayFilter t5 filter t6 → MayGroup t6 groups having t7 → MayOrder t7 orders t8 →
      MayLimit t8 limit t9 → MayOffset t9 offset rest →
      IsSelect (Keyword keyword.Select ∷ t0)
      (record {
        distinct = distinct;
        raw = raw;
        terms = terms;
        keyspace = keyspace;
        alias = unwrap_or second keyspace;
        hint = hint;
        unnests = unnests;
        filter = filter;
        groups = groups;
        having = having;
        orders = orders;
        limit = limit;
        offset = offset;
      }) rest

-- the whole list is one SELECT
abbrev pub IsWholeSelect : List TokenClass → Selection UnresolvedExpr → Type 0
IsWholeSelect ts q = IsSelect ts q []

-- the tokens are one SELECT
abbrev pub FollowsSelect : List TokenClass → Type 0
FollowsSelect ts = (q : Selection UnresolvedExpr) × IsWholeSelect ts q
