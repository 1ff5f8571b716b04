-- The grammar of expressions, a case for each production, over what the grammar sees of tokens.
--
-- `IsX agg ts x rest` says that the tokens ts begin with an X whose tree is x, and that rest comes after it. Where agg is
-- true, aggregates may stand in it. A part in braces has a family of its own, which goes on from what was read before, and so
-- has a part in square brackets.
use Rattle.std.specs.Prelude.{◌≡◌, ℕ, ◌<◌, ◌^◌, Bool, true, false, List, [], ◌∷◌, length, Option, Some, None, pos, negsuc}
use Rattle.n1ql_value.specs.declared.fun.Fun.{Fun}
use Rattle.n1ql_value.specs.declared.op.Op.{Op}
use Rattle.n1ql_value.specs.declared.op.Op.TheVariants as op
use Rattle.n1ql_value.specs.declared.value.Value.TheVariants as value
use Rattle.n1ql_value.specs.Functions.{TakesCount}
use Rattle.n1ql_ast.specs.declared.agg.Agg.{Agg}
use Rattle.n1ql_ast.specs.declared.agg.Agg.TheVariants as agg
use Rattle.n1ql_ast.specs.declared.callee.Callee.TheVariants as callee
use Rattle.n1ql_ast.specs.declared.token_class.TokenClass.{TokenClass}
use Rattle.n1ql_ast.specs.declared.token_class.TokenClass.TheVariants.{Keyword, Name, Str, Num}
use Rattle.n1ql_ast.specs.declared.keyword.Keyword.{Keyword as AnyKeyword}
use Rattle.n1ql_ast.specs.declared.keyword.Keyword.TheVariants as keyword
use Rattle.n1ql_ast.specs.declared.unresolved_expr.UnresolvedExpr.{UnresolvedExpr}
use Rattle.n1ql_ast.specs.declared.unresolved_expr.UnresolvedExpr.TheVariants as unresolved
use Rattle.n1ql_ast.specs.declared.test.Test.TheVariants as test
use Rattle.n1ql_ast.specs.Callees.{callee_of}
use Rattle.n1ql_ast.specs.Operators.{compare_of, add_of, mul_of}

mutual
  -- expr = and {OR and}
  pub data IsExpr : (agg : Bool) (ts : List TokenClass) (x : UnresolvedExpr) (rest : List TokenClass) → Type 0 where
    expr : {agg : Bool} {ts us rest : List TokenClass} {x y : UnresolvedExpr} →
        IsAnd agg ts x us → MoreOr agg x us y rest → IsExpr agg ts y rest

  pub data MoreOr : (agg : Bool) (x : UnresolvedExpr) (ts : List TokenClass) (y : UnresolvedExpr) (rest : List TokenClass) → Type 0 where
    or_done : {agg : Bool} {x : UnresolvedExpr} {ts : List TokenClass} → MoreOr agg x ts x ts
    or_more : {agg : Bool} {x y z : UnresolvedExpr} {ts us rest : List TokenClass} →
        IsAnd agg ts y us → MoreOr agg (unresolved.Two op.Or x y) us z rest → MoreOr agg x (Keyword keyword.Or ∷ ts) z rest

  -- and = not {AND not}
  pub data IsAnd : (agg : Bool) (ts : List TokenClass) (x : UnresolvedExpr) (rest : List TokenClass) → Type 0 where
    and : {agg : Bool} {ts us rest : List TokenClass} {x y : UnresolvedExpr} →
        IsNot agg ts x us → MoreAnd agg x us y rest → IsAnd agg ts y rest

  pub data MoreAnd : (agg : Bool) (x : UnresolvedExpr) (ts : List TokenClass) (y : UnresolvedExpr) (rest : List TokenClass) → Type 0 where
    and_done : {agg : Bool} {x : UnresolvedExpr} {ts : List TokenClass} → MoreAnd agg x ts x ts
    and_more : {agg : Bool} {x y z : UnresolvedExpr} {ts us rest : List TokenClass} →
        IsNot agg ts y us → MoreAnd agg (unresolved.Two op.And x y) us z rest → MoreAnd agg x (Keyword keyword.And ∷ ts) z rest

  -- not = NOT not | rel
  pub data IsNot : (agg : Bool) (ts : List TokenClass) (x : UnresolvedExpr) (rest : List TokenClass) → Type 0 where
    not_not : {agg : Bool} {ts rest : List TokenClass} {x : UnresolvedExpr} →
        IsNot agg ts x rest → IsNot agg (Keyword keyword.Not ∷ ts) (unresolved.Not x) rest
    not_rel : {agg : Bool} {ts rest : List TokenClass} {x : UnresolvedExpr} → IsRel agg ts x rest → IsNot agg ts x rest

  -- rel = add [compare add | IS [NOT] (NULL | MISSING | VALUED) | [NOT] IN add | [NOT] BETWEEN add AND add]
  pub data IsRel : (agg : Bool) (ts : List TokenClass) (x : UnresolvedExpr) (rest : List TokenClass) → Type 0 where
    rel : {agg : Bool} {ts us rest : List TokenClass} {x y : UnresolvedExpr} →
        IsAdd agg ts x us → MayTest agg x us y rest → IsRel agg ts y rest

  pub data MayTest : (agg : Bool) (x : UnresolvedExpr) (ts : List TokenClass) (y : UnresolvedExpr) (rest : List TokenClass) → Type 0 where
    test_none : {agg : Bool} {x : UnresolvedExpr} {ts : List TokenClass} → MayTest agg x ts x ts
    test_compare : {agg : Bool} {operator : AnyKeyword} {o : Op} {x y : UnresolvedExpr} {ts rest : List TokenClass} →
        compare_of operator ≡ Some o → IsAdd agg ts y rest → MayTest agg x (Keyword operator ∷ ts) (unresolved.Two o x y) rest
    test_is : {agg : Bool} {x y : UnresolvedExpr} {ts rest : List TokenClass} →
        IsTest x ts y rest → MayTest agg x (Keyword keyword.Is ∷ ts) y rest
    test_is_not : {agg : Bool} {x y : UnresolvedExpr} {ts rest : List TokenClass} →
        IsTest x ts y rest → MayTest agg x (Keyword keyword.Is ∷ Keyword keyword.Not ∷ ts) (unresolved.Not y) rest
    test_range : {agg : Bool} {x y : UnresolvedExpr} {ts rest : List TokenClass} →
        IsRange agg x ts y rest → MayTest agg x ts y rest
    test_not_range : {agg : Bool} {x y : UnresolvedExpr} {ts rest : List TokenClass} →
        IsRange agg x ts y rest → MayTest agg x (Keyword keyword.Not ∷ ts) (unresolved.Not y) rest

  -- NULL | MISSING | VALUED
  pub data IsTest : (x : UnresolvedExpr) (ts : List TokenClass) (y : UnresolvedExpr) (rest : List TokenClass) → Type 0 where
    is_null : {x : UnresolvedExpr} {ts : List TokenClass} → IsTest x (Keyword keyword.Null ∷ ts) (unresolved.Is test.Null x) ts
    is_missing : {x : UnresolvedExpr} {ts : List TokenClass} → IsTest x (Keyword keyword.Missing ∷ ts) (unresolved.Is test.Missing x) ts
    is_valued : {x : UnresolvedExpr} {ts : List TokenClass} → IsTest x (Keyword keyword.Valued ∷ ts) (unresolved.Is test.Valued x) ts

  -- IN add | BETWEEN add AND add
  pub data IsRange : (agg : Bool) (x : UnresolvedExpr) (ts : List TokenClass) (y : UnresolvedExpr) (rest : List TokenClass) → Type 0 where
    range_in : {agg : Bool} {x y : UnresolvedExpr} {ts rest : List TokenClass} →
        IsAdd agg ts y rest → IsRange agg x (Keyword keyword.In ∷ ts) (unresolved.Among x y) rest
    range_between : {agg : Bool} {x low high : UnresolvedExpr} {ts us rest : List TokenClass} →
        IsAdd agg ts low (Keyword keyword.And ∷ us) → IsAdd agg us high rest →
        IsRange agg x (Keyword keyword.Between ∷ ts) (unresolved.Between x low high) rest

  -- add = mul {("+" | "-" | "||") mul}
  pub data IsAdd : (agg : Bool) (ts : List TokenClass) (x : UnresolvedExpr) (rest : List TokenClass) → Type 0 where
    add : {agg : Bool} {ts us rest : List TokenClass} {x y : UnresolvedExpr} →
        IsMul agg ts x us → MoreAdd agg x us y rest → IsAdd agg ts y rest

  pub data MoreAdd : (agg : Bool) (x : UnresolvedExpr) (ts : List TokenClass) (y : UnresolvedExpr) (rest : List TokenClass) → Type 0 where
    add_done : {agg : Bool} {x : UnresolvedExpr} {ts : List TokenClass} → MoreAdd agg x ts x ts
    add_more : {agg : Bool} {operator : AnyKeyword} {o : Op} {x y z : UnresolvedExpr} {ts us rest : List TokenClass} →
        add_of operator ≡ Some o → IsMul agg ts y us → MoreAdd agg (unresolved.Two o x y) us z rest →
        MoreAdd agg x (Keyword operator ∷ ts) z rest

  -- mul = neg {("*" | "%") neg}
  pub data IsMul : (agg : Bool) (ts : List TokenClass) (x : UnresolvedExpr) (rest : List TokenClass) → Type 0 where
    mul : {agg : Bool} {ts us rest : List TokenClass} {x y : UnresolvedExpr} →
        IsNeg agg ts x us → MoreMul agg x us y rest → IsMul agg ts y rest

  pub data MoreMul : (agg : Bool) (x : UnresolvedExpr) (ts : List TokenClass) (y : UnresolvedExpr) (rest : List TokenClass) → Type 0 where
    mul_done : {agg : Bool} {x : UnresolvedExpr} {ts : List TokenClass} → MoreMul agg x ts x ts
    mul_more : {agg : Bool} {operator : AnyKeyword} {o : Op} {x y z : UnresolvedExpr} {ts us rest : List TokenClass} →
        mul_of operator ≡ Some o → IsNeg agg ts y us → MoreMul agg (unresolved.Two o x y) us z rest →
        MoreMul agg x (Keyword operator ∷ ts) z rest

  -- neg = "-" neg | post. The number 2^63 stands directly after the sign alone, and both together are one constant. What
  -- follows a neg is no part of a post, so neither "." nor "[" can.
  pub data IsNeg : (agg : Bool) (ts : List TokenClass) (x : UnresolvedExpr) (rest : List TokenClass) → Type 0 where
    neg_neg : {agg : Bool} {ts rest : List TokenClass} {x : UnresolvedExpr} →
        IsNeg agg ts x rest → IsNeg agg (Keyword keyword.Minus ∷ ts) (unresolved.Neg x) rest
    neg_least : {agg : Bool} {ts : List TokenClass} →
        IsNeg agg (Keyword keyword.Minus ∷ Num 9223372036854775808 ∷ ts)
        (unresolved.Const (value.Int (negsuc 9223372036854775807))) ts
    neg_post : {agg : Bool} {ts rest : List TokenClass} {x : UnresolvedExpr} → IsPost agg ts x rest → IsNeg agg ts x rest

  -- post = prim {"." name | "[" expr "]"}
  pub data IsPost : (agg : Bool) (ts : List TokenClass) (x : UnresolvedExpr) (rest : List TokenClass) → Type 0 where
    post : {agg : Bool} {ts us rest : List TokenClass} {x y : UnresolvedExpr} →
        IsPrim agg ts x us → MorePost agg x us y rest → IsPost agg ts y rest

  pub data MorePost : (agg : Bool) (x : UnresolvedExpr) (ts : List TokenClass) (y : UnresolvedExpr) (rest : List TokenClass) → Type 0 where
    post_done : {agg : Bool} {x : UnresolvedExpr} {ts : List TokenClass} → MorePost agg x ts x ts
    post_field : {agg quoted : Bool} {name : List ℕ} {x y : UnresolvedExpr} {ts rest : List TokenClass} →
        MorePost agg (unresolved.Field x name) ts y rest →
        MorePost agg x (Keyword keyword.Dot ∷ Name name quoted ∷ ts) y rest
    post_place : {agg : Bool} {x y z : UnresolvedExpr} {ts us rest : List TokenClass} →
        IsExpr agg ts y (Keyword keyword.CloseSquare ∷ us) → MorePost agg (unresolved.Place x y) us z rest →
        MorePost agg x (Keyword keyword.OpenSquare ∷ ts) z rest

  -- prim, in the order of its forms
  pub data IsPrim : (agg : Bool) (ts : List TokenClass) (x : UnresolvedExpr) (rest : List TokenClass) → Type 0 where
    prim_number : {agg : Bool} {n : ℕ} {ts : List TokenClass} →
        n < 2 ^ 63 → IsPrim agg (Num n ∷ ts) (unresolved.Const (value.Int (pos n))) ts
    prim_string : {agg : Bool} {text : List ℕ} {ts : List TokenClass} →
        IsPrim agg (Str text ∷ ts) (unresolved.Const (value.Text text)) ts
    prim_true : {agg : Bool} {ts : List TokenClass} →
        IsPrim agg (Keyword keyword.True ∷ ts) (unresolved.Const (value.Bool true)) ts
    prim_false : {agg : Bool} {ts : List TokenClass} →
        IsPrim agg (Keyword keyword.False ∷ ts) (unresolved.Const (value.Bool false)) ts
    prim_null : {agg : Bool} {ts : List TokenClass} → IsPrim agg (Keyword keyword.Null ∷ ts) (unresolved.Const value.Null) ts
    prim_missing : {agg : Bool} {ts : List TokenClass} → IsPrim agg (Keyword keyword.Missing ∷ ts) (unresolved.Const value.Missing) ts
    prim_name : {agg quoted : Bool} {name : List ℕ} {ts : List TokenClass} →
        IsPrim agg (Name name quoted ∷ ts) (unresolved.Name name) ts
    -- "(" expr ")"
    prim_parenthesis : {agg : Bool} {x : UnresolvedExpr} {ts rest : List TokenClass} →
        IsExpr agg ts x (Keyword keyword.CloseParenthesis ∷ rest) → IsPrim agg (Keyword keyword.OpenParenthesis ∷ ts) x rest
    -- "[" [expr {"," expr}] "]"
    prim_empty : {agg : Bool} {ts : List TokenClass} →
        IsPrim agg (Keyword keyword.OpenSquare ∷ Keyword keyword.CloseSquare ∷ ts) (unresolved.List []) ts
    prim_list : {agg : Bool} {xs : List UnresolvedExpr} {ts rest : List TokenClass} →
        IsExprs agg ts xs (Keyword keyword.CloseSquare ∷ rest) → IsPrim agg (Keyword keyword.OpenSquare ∷ ts) (unresolved.List xs) rest
    prim_object : {agg : Bool} {x : UnresolvedExpr} {ts rest : List TokenClass} → IsObject agg ts x rest → IsPrim agg ts x rest
    -- CASE WHEN expr THEN expr {WHEN expr THEN expr} [ELSE expr] END
    prim_case : {agg : Bool} {whens thens : List UnresolvedExpr} {other : Option UnresolvedExpr} {ts us rest : List TokenClass} →
        IsArms agg ts whens thens us → MayElse agg us other (Keyword keyword.End ∷ rest) →
        IsPrim agg (Keyword keyword.Case ∷ ts) (unresolved.Case whens thens other) rest
    -- (ANY | EVERY) name IN expr SATISFIES expr END
    prim_any : {agg : Bool} {name : List ℕ} {over test : UnresolvedExpr} {ts rest : List TokenClass} →
        IsQuantified agg ts name over test rest → IsPrim agg (Keyword keyword.Any ∷ ts) (unresolved.Any name over test) rest
    prim_every : {agg : Bool} {name : List ℕ} {over test : UnresolvedExpr} {ts rest : List TokenClass} →
        IsQuantified agg ts name over test rest → IsPrim agg (Keyword keyword.Every ∷ ts) (unresolved.Every name over test) rest
    -- (ARRAY | FIRST) expr FOR name IN expr [WHEN expr] END
    prim_array : {agg : Bool} {name : List ℕ} {item over : UnresolvedExpr} {when : Option UnresolvedExpr} {ts rest : List TokenClass} →
        IsEach agg ts name item over when rest → IsPrim agg (Keyword keyword.Array ∷ ts) (unresolved.Each name item over when) rest
    prim_first : {agg : Bool} {name : List ℕ} {item over : UnresolvedExpr} {when : Option UnresolvedExpr} {ts rest : List TokenClass} →
        IsEach agg ts name item over when rest → IsPrim agg (Keyword keyword.First ∷ ts) (unresolved.First name item over when) rest
    -- function "(" expr {"," expr} ")", with as many arguments as the function takes
    prim_call : {agg : Bool} {name : List ℕ} {fun : Fun} {xs : List UnresolvedExpr} {ts rest : List TokenClass} →
        callee_of name ≡ callee.Function fun → IsExprs agg ts xs (Keyword keyword.CloseParenthesis ∷ rest) →
        TakesCount fun (length xs) →
        IsPrim agg (Name name false ∷ Keyword keyword.OpenParenthesis ∷ ts) (unresolved.Call fun xs) rest
    -- META "(" [name] ")"
    prim_meta : {agg : Bool} {name : List ℕ} {ts : List TokenClass} → callee_of name ≡ callee.Meta →
        IsPrim agg (Name name false ∷ Keyword keyword.OpenParenthesis ∷ Keyword keyword.CloseParenthesis ∷ ts) (unresolved.Meta None) ts
    prim_meta_of : {agg quoted : Bool} {name whose : List ℕ} {ts : List TokenClass} → callee_of name ≡ callee.Meta →
        IsPrim agg (Name name false ∷ Keyword keyword.OpenParenthesis ∷ Name whose quoted ∷ Keyword keyword.CloseParenthesis ∷ ts)
        (unresolved.Meta (Some whose)) ts
    -- COUNT "(" "*" ")", where aggregates may stand
    prim_count_all : {name : List ℕ} {ts : List TokenClass} → callee_of name ≡ callee.Aggregate agg.Count →
        IsPrim true (Name name false ∷ Keyword keyword.OpenParenthesis ∷ Keyword keyword.Star ∷ Keyword keyword.CloseParenthesis ∷ ts)
        (unresolved.Agg agg.CountAll None) ts
    -- (COUNT | SUM | MIN | MAX | ARRAY_AGG) "(" expr ")", where aggregates may stand; none stands inside
    prim_aggregate : {name : List ℕ} {a : Agg} {x : UnresolvedExpr} {ts rest : List TokenClass} →
        callee_of name ≡ callee.Aggregate a → IsExpr false ts x (Keyword keyword.CloseParenthesis ∷ rest) →
        IsPrim true (Name name false ∷ Keyword keyword.OpenParenthesis ∷ ts) (unresolved.Agg a (Some x)) rest

  -- expr {"," expr}
  pub data IsExprs : (agg : Bool) (ts : List TokenClass) (xs : List UnresolvedExpr) (rest : List TokenClass) → Type 0 where
    exprs : {agg : Bool} {x : UnresolvedExpr} {xs : List UnresolvedExpr} {ts us rest : List TokenClass} →
        IsExpr agg ts x us → MoreExprs agg us xs rest → IsExprs agg ts (x ∷ xs) rest

  pub data MoreExprs : (agg : Bool) (ts : List TokenClass) (xs : List UnresolvedExpr) (rest : List TokenClass) → Type 0 where
    exprs_done : {agg : Bool} {ts : List TokenClass} → MoreExprs agg ts [] ts
    exprs_more : {agg : Bool} {xs : List UnresolvedExpr} {ts rest : List TokenClass} →
        IsExprs agg ts xs rest → MoreExprs agg (Keyword keyword.Comma ∷ ts) xs rest

  -- object = "{" [string ":" expr {"," string ":" expr}] "}"
  pub data IsObject : (agg : Bool) (ts : List TokenClass) (x : UnresolvedExpr) (rest : List TokenClass) → Type 0 where
    object_empty : {agg : Bool} {ts : List TokenClass} →
        IsObject agg (Keyword keyword.OpenBrace ∷ Keyword keyword.CloseBrace ∷ ts) (unresolved.Build [] []) ts
    object_pairs : {agg : Bool} {names : List (List ℕ)} {xs : List UnresolvedExpr} {ts rest : List TokenClass} →
        IsPairs agg ts names xs (Keyword keyword.CloseBrace ∷ rest) →
        IsObject agg (Keyword keyword.OpenBrace ∷ ts) (unresolved.Build names xs) rest

  -- string ":" expr {"," string ":" expr}
  pub data IsPairs : (agg : Bool) (ts : List TokenClass) (names : List (List ℕ)) (xs : List UnresolvedExpr) (rest : List TokenClass) → Type 0 where
    pairs : {agg : Bool} {name : List ℕ} {names : List (List ℕ)} {x : UnresolvedExpr} {xs : List UnresolvedExpr} {ts us rest : List TokenClass} →
        IsExpr agg ts x us → MorePairs agg us names xs rest →
        IsPairs agg (Str name ∷ Keyword keyword.Colon ∷ ts) (name ∷ names) (x ∷ xs) rest

  pub data MorePairs : (agg : Bool) (ts : List TokenClass) (names : List (List ℕ)) (xs : List UnresolvedExpr) (rest : List TokenClass) → Type 0 where
    pairs_done : {agg : Bool} {ts : List TokenClass} → MorePairs agg ts [] [] ts
    pairs_more : {agg : Bool} {names : List (List ℕ)} {xs : List UnresolvedExpr} {ts rest : List TokenClass} →
        IsPairs agg ts names xs rest → MorePairs agg (Keyword keyword.Comma ∷ ts) names xs rest

  -- WHEN expr THEN expr {WHEN expr THEN expr}
  pub data IsArms : (agg : Bool) (ts : List TokenClass) (whens thens : List UnresolvedExpr) (rest : List TokenClass) → Type 0 where
    arms : {agg : Bool} {x y : UnresolvedExpr} {whens thens : List UnresolvedExpr} {ts us vs rest : List TokenClass} →
        IsExpr agg ts x (Keyword keyword.Then ∷ us) → IsExpr agg us y vs → MoreArms agg vs whens thens rest →
        IsArms agg (Keyword keyword.When ∷ ts) (x ∷ whens) (y ∷ thens) rest

  pub data MoreArms : (agg : Bool) (ts : List TokenClass) (whens thens : List UnresolvedExpr) (rest : List TokenClass) → Type 0 where
    arms_done : {agg : Bool} {ts : List TokenClass} → MoreArms agg ts [] [] ts
    arms_more : {agg : Bool} {whens thens : List UnresolvedExpr} {ts rest : List TokenClass} →
        IsArms agg ts whens thens rest → MoreArms agg ts whens thens rest

  -- [ELSE expr]
  pub data MayElse : (agg : Bool) (ts : List TokenClass) (other : Option UnresolvedExpr) (rest : List TokenClass) → Type 0 where
    else_none : {agg : Bool} {ts : List TokenClass} → MayElse agg ts None ts
    else_some : {agg : Bool} {x : UnresolvedExpr} {ts rest : List TokenClass} →
        IsExpr agg ts x rest → MayElse agg (Keyword keyword.Else ∷ ts) (Some x) rest

  -- name IN expr SATISFIES expr END
  pub data IsQuantified : (agg : Bool) (ts : List TokenClass) (name : List ℕ) (over test : UnresolvedExpr) (rest : List TokenClass) → Type 0 where
    quantified : {agg quoted : Bool} {name : List ℕ} {over test : UnresolvedExpr} {ts us rest : List TokenClass} →
        IsExpr agg ts over (Keyword keyword.Satisfies ∷ us) → IsExpr agg us test (Keyword keyword.End ∷ rest) →
        IsQuantified agg (Name name quoted ∷ Keyword keyword.In ∷ ts) name over test rest

  -- expr FOR name IN expr [WHEN expr] END
  pub data IsEach : (agg : Bool) (ts : List TokenClass) (name : List ℕ) (item over : UnresolvedExpr) (when : Option UnresolvedExpr) (rest : List TokenClass) → Type 0 where
    each : {agg quoted : Bool} {name : List ℕ} {item over : UnresolvedExpr} {when : Option UnresolvedExpr} {ts us vs rest : List TokenClass} →
        IsExpr agg ts item (Keyword keyword.For ∷ Name name quoted ∷ Keyword keyword.In ∷ us) → IsExpr agg us over vs →
        MayWhen agg vs when (Keyword keyword.End ∷ rest) → IsEach agg ts name item over when rest

  -- [WHEN expr]
  pub data MayWhen : (agg : Bool) (ts : List TokenClass) (when : Option UnresolvedExpr) (rest : List TokenClass) → Type 0 where
    when_none : {agg : Bool} {ts : List TokenClass} → MayWhen agg ts None ts
    when_some : {agg : Bool} {x : UnresolvedExpr} {ts rest : List TokenClass} →
        IsExpr agg ts x rest → MayWhen agg (Keyword keyword.When ∷ ts) (Some x) rest

-- the whole list is one expression without aggregates
abbrev pub IsWhole : List TokenClass → UnresolvedExpr → Type 0
IsWhole ts x = IsExpr false ts x []
