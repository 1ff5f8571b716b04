-- The rules of the grammar as functions on the classes of tokens, for private clauses and for proofs.
--
-- The number of `at` bounds how deep rules nest: 8 for each token and 8 more are enough. The numbers of the loops bound their
-- turns, and each turn takes a token.
use Rattle.std.specs.Prelude.{ℕ, zero, suc, ◌+◌, ◌*◌, ◌^◌, Bool, true, false, ◌&&◌, not, if◌then◌else◌, ◌==◌, nat_lt, List, [], ◌∷◌, ◌++◌, length, drop, Option, Some, None, pos, negsuc}
use Rattle.n1ql_value.specs.declared.fun.Fun.{Fun}
use Rattle.n1ql_value.specs.declared.op.Op.{Op}
use Rattle.n1ql_value.specs.declared.op.Op.TheVariants as op
use Rattle.n1ql_value.specs.declared.value.Value.{Value}
use Rattle.n1ql_value.specs.declared.value.Value.TheVariants as value
use Rattle.n1ql_value.specs.Functions.{least_count, most_count}
use Rattle.n1ql_ast.specs.declared.agg.Agg.{Agg}
use Rattle.n1ql_ast.specs.declared.agg.Agg.TheVariants as over_rows
use Rattle.n1ql_ast.specs.declared.callee.Callee.{Callee}
use Rattle.n1ql_ast.specs.declared.callee.Callee.TheVariants as callee
use Rattle.n1ql_ast.specs.declared.token_class.TokenClass.{TokenClass}
use Rattle.n1ql_ast.specs.declared.token_class.TokenClass.TheVariants.{Keyword, Str, Num}
use Rattle.n1ql_ast.specs.declared.keyword.Keyword.{Keyword as AnyKeyword}
use Rattle.n1ql_ast.specs.declared.keyword.Keyword.TheVariants as keyword
use Rattle.n1ql_ast.specs.declared.unresolved_expr.UnresolvedExpr.{UnresolvedExpr}
use Rattle.n1ql_ast.specs.declared.unresolved_expr.UnresolvedExpr.TheVariants as unresolved
use Rattle.n1ql_ast.specs.declared.test.Test.{Test}
use Rattle.n1ql_ast.specs.declared.test.Test.TheVariants as test
use Rattle.n1ql_ast.specs.Callees.{callee_of}
use Rattle.n1ql_ast.specs.Operators.{compare_of, add_of, mul_of}
use Rattle.n1ql_parse.specs.declared.expressions.arms.Arms.{Arms}
use Rattle.n1ql_parse.specs.declared.expressions.each.Each.{Each}
use Rattle.n1ql_parse.specs.declared.expressions.precedence.Precedence.{Precedence}
use Rattle.n1ql_parse.specs.declared.expressions.precedence.Precedence.TheVariants as precedence
use Rattle.n1ql_parse.specs.declared.expressions.object_fields.ObjectFields.{ObjectFields}
use Rattle.n1ql_parse.specs.declared.expressions.quantified.Quantified.{Quantified}
use Rattle.n1ql_parse.specs.declared.tokens.word.Word.{Word}
use Rattle.n1ql_parse.specs.inner.Steps.{Outcome, got, stuck, Parser, ◌>>=◌, ◌>>◌, ◌<$>◌, pure, fail, end, skip, sees, eat, expect, word, name, string, if_some}

-- the level of the operands of a level
abbrev pub tighter : Precedence → Precedence
tighter precedence.Or = precedence.And
tighter precedence.And = precedence.Not
tighter precedence.Not = precedence.Test
tighter precedence.Test = precedence.Add
tighter precedence.Add = precedence.Mul
tighter precedence.Mul = precedence.Neg
tighter precedence.Neg = precedence.Post
tighter precedence.Post = precedence.Post

-- OR
abbrev pub or_of : AnyKeyword → Option Op
or_of keyword.Or = Some op.Or
or_of _ = None

-- AND
abbrev pub and_of : AnyKeyword → Option Op
and_of keyword.And = Some op.And
and_of _ = None

-- the operator of a level that a keyword is, where the level is one of operators between two operands
abbrev pub op_at : Precedence → AnyKeyword → Option Op
op_at precedence.Or m = or_of m
op_at precedence.And m = and_of m
op_at precedence.Test m = compare_of m
op_at precedence.Add m = add_of m
op_at precedence.Mul m = mul_of m
op_at _ m = None

-- the operator that the next token is
abbrev pub next_op : Precedence → List TokenClass → Option Op
next_op l (Keyword m ∷ ts) = op_at l m
next_op l _ = None

-- the next token is taken where it is something
abbrev pub taken_if_some : {A : Type 0} → Option A → List TokenClass → Outcome (Option A)
taken_if_some (Some x) ts = got (Some x) (drop 1 ts)
taken_if_some None ts = got None ts

-- takes an operator of a level where one comes next
abbrev pub operator : Precedence → Parser (Option Op)
operator l = λ ts. taken_if_some (next_op l ts) ts

-- the constant that the next token is by itself
abbrev pub next_constant : List TokenClass → Option Value
next_constant (Num n ∷ ts) = if nat_lt n (2 ^ 63) then Some (value.Int (pos n)) else None
next_constant (Str text ∷ ts) = Some (value.Text text)
next_constant (Keyword keyword.True ∷ ts) = Some (value.Bool true)
next_constant (Keyword keyword.False ∷ ts) = Some (value.Bool false)
next_constant (Keyword keyword.Null ∷ ts) = Some value.Null
next_constant (Keyword keyword.Missing ∷ ts) = Some value.Missing
next_constant _ = None

-- takes a constant where one comes next
abbrev pub constant : Parser (Option Value)
constant = λ ts. taken_if_some (next_constant ts) ts

-- the next token is the number 2^63
abbrev pub sees_least : List TokenClass → Bool
sees_least (Num n ∷ ts) = n == 9223372036854775808
sees_least _ = false

-- takes the number 2^63 where it comes next
abbrev pub eat_least : Parser Bool
eat_least = λ ts. if sees_least ts then got true (drop 1 ts) else got false ts

-- what IS tests
abbrev pub test_of : List TokenClass → Outcome Test
test_of (Keyword keyword.Null ∷ ts) = got test.Null ts
test_of (Keyword keyword.Missing ∷ ts) = got test.Missing ts
test_of (Keyword keyword.Valued ∷ ts) = got test.Valued ts
test_of ts = stuck (length ts)

-- IS and what it tests
unfoldable pub tested : UnresolvedExpr → Parser UnresolvedExpr
tested x = do
  t ← test_of
  pure (unresolved.Is t x)

-- META of a name or of none, after its opening bracket
unfoldable pub meta : Parser UnresolvedExpr
meta = do
  none ← eat keyword.CloseParenthesis
  if none then pure (unresolved.Meta None) else (do
    whose ← name
    expect keyword.CloseParenthesis
    pure (unresolved.Meta (Some whose)))

-- the aggregate that may count all rows
abbrev pub is_count : Agg → Bool
is_count over_rows.Count = true
is_count _ = false

-- a function takes more than this many arguments
abbrev pub is_below : ℕ → Option ℕ → Bool
is_below n None = true
is_below n (Some most) = nat_lt n most

-- whether another argument comes after this many
unfoldable pub comma_after : Fun → ℕ → Parser Bool
comma_after fun n =
    if nat_lt n (least_count fun) then (do expect keyword.Comma; pure true)
    else (if is_below n (most_count fun) then eat keyword.Comma else pure false)

-- no pairs of an object yet
abbrev pub no_fields : ObjectFields
no_fields = record { names = []; values = [] }

-- one more pair
abbrev pub with_field : ObjectFields → List ℕ → UnresolvedExpr → ObjectFields
with_field p name x = record { names = p.names ++ name ∷ []; values = p.values ++ x ∷ [] }

-- no arms of CASE yet
abbrev pub no_arms : Arms
no_arms = record { whens = []; thens = [] }

-- one more arm
abbrev pub with_arm : Arms → UnresolvedExpr → UnresolvedExpr → Arms
with_arm a x y = record { whens = a.whens ++ x ∷ []; thens = a.thens ++ y ∷ [] }

-- The rules over the parser of what stands inside them: whether aggregates may stand in it, and its precedence.
module _ (inner : Bool → Precedence → Parser UnresolvedExpr) (agg : Bool) where
  -- a whole expression
  abbrev pub whole : Parser UnresolvedExpr
  whole = inner agg precedence.Or

  -- what comes after this keyword, if it comes next
  unfoldable pub whole_after : AnyKeyword → Parser (Option UnresolvedExpr)
  whole_after m = do
    found ← eat m
    if found then (do x ← whole; pure (Some x)) else pure None

  -- operands with operators of one level between them, from the left
  unfoldable pub chain_from : Precedence → ℕ → UnresolvedExpr → Parser UnresolvedExpr
  chain_from l zero x = pure x
  chain_from l (suc n) x = do
    o ← operator l
    if_some o (λ op. do y ← inner agg (tighter l); chain_from l n (unresolved.Two op x y)) (pure x)

  -- operators and operands behind a first one
  unfoldable pub chain_on : Precedence → UnresolvedExpr → Parser UnresolvedExpr
  chain_on l x = λ ts. chain_from l (length ts) x ts

  -- operands of the tighter level with operators of this one between them
  unfoldable pub chain : Precedence → Parser UnresolvedExpr
  chain l = do
    x ← inner agg (tighter l)
    chain_on l x

  -- NOT, or what is tighter
  unfoldable pub not_form : Parser UnresolvedExpr
  not_form = do
    found ← eat keyword.Not
    if found then unresolved.Not <$> inner agg precedence.Not else inner agg precedence.Test

  -- after BETWEEN
  unfoldable pub between : UnresolvedExpr → Parser UnresolvedExpr
  between x = do
    low ← inner agg precedence.Add
    expect keyword.And
    high ← inner agg precedence.Add
    pure (unresolved.Between x low high)

  -- after IN
  unfoldable pub among : UnresolvedExpr → Parser UnresolvedExpr
  among x = do
    y ← inner agg precedence.Add
    pure (unresolved.Among x y)

  -- IN or BETWEEN, which NOT may stand before
  unfoldable pub range : UnresolvedExpr → Parser UnresolvedExpr
  range x = do
    is_in ← eat keyword.In
    if is_in then among x else (do expect keyword.Between; between x)

  -- after NOT in a relation
  unfoldable pub not_range : UnresolvedExpr → Parser UnresolvedExpr
  not_range x = unresolved.Not <$> range x

  -- after IS
  unfoldable pub is_form : UnresolvedExpr → Parser UnresolvedExpr
  is_form x = do
    negative ← eat keyword.Not
    if negative then unresolved.Not <$> tested x else tested x

  -- a comparison, if its sign comes next
  unfoldable pub comparison : UnresolvedExpr → Parser UnresolvedExpr
  comparison x = do
    o ← operator precedence.Test
    if_some o (λ op. do y ← inner agg precedence.Add; pure (unresolved.Two op x y)) (pure x)

  -- what may come after the first operand of a relation
  unfoldable pub relation_on : UnresolvedExpr → Parser UnresolvedExpr
  relation_on x = do
    is ← eat keyword.Is
    if is then is_form x else (do
      negative ← eat keyword.Not
      if negative then not_range x else (do
        is_in ← eat keyword.In
        if is_in then among x else (do
          is_between ← eat keyword.Between
          if is_between then between x else comparison x)))

  -- comparisons, IS, IN and BETWEEN
  unfoldable pub relation : Parser UnresolvedExpr
  relation = do
    x ← inner agg precedence.Add
    relation_on x

  -- after the sign of a number: 2^63 together with it is one constant
  unfoldable pub negated : Parser UnresolvedExpr
  negated = do
    is_least ← eat_least
    if is_least then pure (unresolved.Const (value.Int (negsuc 9223372036854775807))) else unresolved.Neg <$> inner agg precedence.Neg

  -- a sign, or what is tighter
  unfoldable pub negation : Parser UnresolvedExpr
  negation = do
    found ← eat keyword.Minus
    if found then negated else inner agg precedence.Post

  -- expressions with commas between them, behind those that were found
  unfoldable pub wholes_from : ℕ → List UnresolvedExpr → Parser (List UnresolvedExpr)
  wholes_from zero found = fail
  wholes_from (suc n) found = do
    x ← whole
    more ← eat keyword.Comma
    if more then wholes_from n (found ++ x ∷ []) else pure (found ++ x ∷ [])

  -- one expression or more, with commas between them
  unfoldable pub wholes : Parser (List UnresolvedExpr)
  wholes = λ ts. wholes_from (length ts) [] ts

  -- the arguments of a function, behind those that were found
  unfoldable pub arguments_from : Fun → ℕ → List UnresolvedExpr → Parser (List UnresolvedExpr)
  arguments_from fun zero found = fail
  arguments_from fun (suc n) found = do
    x ← whole
    more ← comma_after fun (length found + 1)
    if more then arguments_from fun n (found ++ x ∷ []) else pure (found ++ x ∷ [])

  -- as many arguments as a function takes
  unfoldable pub arguments : Fun → Parser (List UnresolvedExpr)
  arguments fun = λ ts. arguments_from fun (length ts) [] ts

  -- after the opening bracket
  unfoldable pub call : Fun → Parser UnresolvedExpr
  call fun = do
    xs ← arguments fun
    expect keyword.CloseParenthesis
    pure (unresolved.Call fun xs)

  -- an aggregate of an expression, in which no aggregate stands
  unfoldable pub aggregate_over : Agg → Parser UnresolvedExpr
  aggregate_over a = do
    x ← inner false precedence.Or
    expect keyword.CloseParenthesis
    pure (unresolved.Agg a (Some x))

  -- COUNT of all rows or of an expression
  unfoldable pub count : Parser UnresolvedExpr
  count = do
    all ← eat keyword.Star
    if all then (do expect keyword.CloseParenthesis; pure (unresolved.Agg over_rows.CountAll None)) else aggregate_over over_rows.Count

  -- an aggregate, after its opening bracket
  unfoldable pub aggregate : Agg → Parser UnresolvedExpr
  aggregate a = if is_count a then count else aggregate_over a

  -- a name, or what it calls with the bracket that comes next
  abbrev pub named_as : Word → Callee → Parser UnresolvedExpr
  named_as w (callee.Function fun) = skip >> call fun
  named_as w callee.Meta = skip >> meta
  named_as w (callee.Aggregate a) = if agg then skip >> aggregate a else pure (unresolved.Name w.text)
  named_as w callee.Nothing = pure (unresolved.Name w.text)

  -- a name without backquotes may call something where a bracket comes next
  unfoldable pub named_by : Word → Parser UnresolvedExpr
  named_by w = λ ts.
      if sees keyword.OpenParenthesis ts && not w.quoted then named_as w (callee_of w.text) ts else got (unresolved.Name w.text) ts

  -- a name, or what it calls
  unfoldable pub named : Parser UnresolvedExpr
  named = do
    w ← word
    named_by w

  -- an expression in brackets, after the opening one
  unfoldable pub parenthesized : Parser UnresolvedExpr
  parenthesized = do
    x ← whole
    expect keyword.CloseParenthesis
    pure x

  -- an array, after its opening bracket
  unfoldable pub list : Parser UnresolvedExpr
  list = do
    is_empty ← eat keyword.CloseSquare
    if is_empty then pure (unresolved.List []) else (do
      xs ← wholes
      expect keyword.CloseSquare
      pure (unresolved.List xs))

  -- one more pair behind those that were found
  unfoldable pub object_field : ObjectFields → Parser ObjectFields
  object_field found = do
    key ← string
    expect keyword.Colon
    x ← whole
    pure (with_field found key x)

  -- pairs with commas between them, behind those that were found
  unfoldable pub object_fields_from : ℕ → ObjectFields → Parser ObjectFields
  object_fields_from zero found = fail
  object_fields_from (suc n) found = do
    p ← object_field found
    more ← eat keyword.Comma
    if more then object_fields_from n p else pure p

  -- one pair or more, with commas between them
  unfoldable pub object_fields : Parser ObjectFields
  object_fields = λ ts. object_fields_from (length ts) no_fields ts

  -- an object, after its opening brace
  unfoldable pub object : Parser UnresolvedExpr
  object = do
    is_empty ← eat keyword.CloseBrace
    if is_empty then pure (unresolved.Build [] []) else (do
      p ← object_fields
      expect keyword.CloseBrace
      pure (unresolved.Build p.names p.values))

  -- one more arm, after its WHEN, behind those that were found
  unfoldable pub arm : Arms → Parser Arms
  arm found = do
    x ← whole
    expect keyword.Then
    y ← whole
    pure (with_arm found x y)

  -- arms after their first WHEN, behind those that were found
  unfoldable pub arms_from : ℕ → Arms → Parser Arms
  arms_from zero found = fail
  arms_from (suc n) found = do
    a ← arm found
    more ← eat keyword.When
    if more then arms_from n a else pure a

  -- one arm or more
  unfoldable pub arms : Parser Arms
  arms = λ ts. arms_from (length ts) no_arms ts

  -- CASE, after its word
  unfoldable pub case : Parser UnresolvedExpr
  case = do
    expect keyword.When
    a ← arms
    other ← whole_after keyword.Else
    expect keyword.End
    pure (unresolved.Case a.whens a.thens other)

  -- name IN expr SATISFIES expr END
  unfoldable pub quantified : Parser Quantified
  quantified = do
    variable ← name
    expect keyword.In
    over ← whole
    expect keyword.Satisfies
    test ← whole
    expect keyword.End
    pure (record { variable = variable; over = over; test = test })

  -- ANY, after its word
  unfoldable pub any : Parser UnresolvedExpr
  any = do
    q ← quantified
    pure (unresolved.Any q.variable q.over q.test)

  -- EVERY, after its word
  unfoldable pub every : Parser UnresolvedExpr
  every = do
    q ← quantified
    pure (unresolved.Every q.variable q.over q.test)

  -- expr FOR name IN expr [WHEN expr] END
  unfoldable pub each : Parser Each
  each = do
    item ← whole
    expect keyword.For
    variable ← name
    expect keyword.In
    over ← whole
    when ← whole_after keyword.When
    expect keyword.End
    pure (record { variable = variable; item = item; over = over; when = when })

  -- ARRAY, after its word
  unfoldable pub array : Parser UnresolvedExpr
  array = do
    e ← each
    pure (unresolved.Each e.variable e.item e.over e.when)

  -- FIRST, after its word
  unfoldable pub first : Parser UnresolvedExpr
  first = do
    e ← each
    pure (unresolved.First e.variable e.item e.over e.when)

  -- the forms that begin with a word
  unfoldable pub worded : Parser UnresolvedExpr
  worded = do
    is_case ← eat keyword.Case
    if is_case then case else (do
      is_any ← eat keyword.Any
      if is_any then any else (do
        is_every ← eat keyword.Every
        if is_every then every else (do
          is_array ← eat keyword.Array
          if is_array then array else (do
            is_first ← eat keyword.First
            if is_first then first else named))))

  -- the forms that begin with a bracket, and those above
  unfoldable pub enclosed : Parser UnresolvedExpr
  enclosed = do
    is_parenthesis ← eat keyword.OpenParenthesis
    if is_parenthesis then parenthesized else (do
      is_list ← eat keyword.OpenSquare
      if is_list then list else (do
        is_object ← eat keyword.OpenBrace
        if is_object then object else worded))

  -- a constant, or what is put together
  unfoldable pub primary : Parser UnresolvedExpr
  primary = do
    c ← constant
    if_some c (λ v. pure (unresolved.Const v)) enclosed

  -- a field, after its point
  unfoldable pub field : UnresolvedExpr → Parser UnresolvedExpr
  field x = do
    key ← name
    pure (unresolved.Field x key)

  -- a place, after its opening bracket
  unfoldable pub place : UnresolvedExpr → Parser UnresolvedExpr
  place x = do
    y ← whole
    expect keyword.CloseSquare
    pure (unresolved.Place x y)

  -- fields and places, behind what was read
  unfoldable pub path_from : ℕ → UnresolvedExpr → Parser UnresolvedExpr
  path_from zero x = pure x
  path_from (suc n) x = do
    is_field ← eat keyword.Dot
    if is_field then (do y ← field x; path_from n y) else (do
      is_place ← eat keyword.OpenSquare
      if is_place then (do y ← place x; path_from n y) else pure x)

  -- fields and places behind an unresolved expression
  unfoldable pub path_on : UnresolvedExpr → Parser UnresolvedExpr
  path_on x = λ ts. path_from (length ts) x ts

  -- a primary with its fields and places
  unfoldable pub path : Parser UnresolvedExpr
  path = do
    x ← primary
    path_on x

  -- the rule of a level
  abbrev pub rule : Precedence → Parser UnresolvedExpr
  rule precedence.Or = chain precedence.Or
  rule precedence.And = chain precedence.And
  rule precedence.Not = not_form
  rule precedence.Test = relation
  rule precedence.Add = chain precedence.Add
  rule precedence.Mul = chain precedence.Mul
  rule precedence.Neg = negation
  rule precedence.Post = path

-- an expression of a level, where rules nest no deeper than the number
unfoldable pub at : ℕ → Bool → Precedence → Parser UnresolvedExpr
at zero agg l = fail
at (suc fuel) agg l = rule (at fuel) agg l

-- as deep as rules can nest in these tokens
abbrev pub enough : List TokenClass → ℕ
enough ts = 8 * length ts + 8

-- a whole expression at the front of the tokens, in which aggregates may stand or not
unfoldable pub parsed : Bool → Parser UnresolvedExpr
parsed agg = λ ts. at (enough ts) agg precedence.Or ts

-- the whole list as an expression
unfoldable pub parsed_whole : Parser UnresolvedExpr
parsed_whole = do
  x ← parsed false
  end
  pure x
