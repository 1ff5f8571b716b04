-- The tokens that unresolved expressions begin with.
use Rattle.std.specs.Prelude.{◌≡◌, Bool, true, false, List, [], ◌∷◌, refl}
use Rattle.n1ql_ast.specs.declared.token_class.TokenClass.{TokenClass}
use Rattle.n1ql_ast.specs.declared.token_class.TokenClass.TheVariants.{Keyword, Name, Str, Num}
use Rattle.n1ql_ast.specs.declared.keyword.Keyword.TheVariants as keyword
use Rattle.n1ql_ast.specs.declared.unresolved_expr.UnresolvedExpr.{UnresolvedExpr}
use Rattle.n1ql_ast.specs.Grammar as g
use Rattle.n1ql_ast.specs.Grammar.{IsExpr, IsAnd, IsNot, IsRel, IsAdd, IsMul, IsNeg, IsPost, IsPrim, IsObject, IsExprs}

abbrev pub begins_prim : TokenClass → Bool
begins_prim (Num n) = true
begins_prim (Str text) = true
begins_prim (Name text quoted) = true
begins_prim (Keyword keyword.True) = true
begins_prim (Keyword keyword.False) = true
begins_prim (Keyword keyword.Null) = true
begins_prim (Keyword keyword.Missing) = true
begins_prim (Keyword keyword.OpenParenthesis) = true
begins_prim (Keyword keyword.OpenSquare) = true
begins_prim (Keyword keyword.OpenBrace) = true
begins_prim (Keyword keyword.Case) = true
begins_prim (Keyword keyword.Any) = true
begins_prim (Keyword keyword.Every) = true
begins_prim (Keyword keyword.Array) = true
begins_prim (Keyword keyword.First) = true
begins_prim _ = false

abbrev pub begins_neg : TokenClass → Bool
begins_neg (Keyword keyword.Minus) = true
begins_neg t = begins_prim t

abbrev pub begins_expr : TokenClass → Bool
begins_expr (Keyword keyword.Not) = true
begins_expr t = begins_neg t

-- there is a first token, and it is such a one
abbrev pub Heads : (TokenClass → Bool) → List TokenClass → Type 0
Heads p [] = ⊥
Heads p (t ∷ ts) = p t ≡ true

neg_too : (ts : List TokenClass) → Heads begins_prim ts → Heads begins_neg ts
neg_too [] h = h
neg_too (Keyword keyword.Minus ∷ ts) h = refl
neg_too (_ ∷ ts) h = h

expr_too : (ts : List TokenClass) → Heads begins_neg ts → Heads begins_expr ts
expr_too [] h = h
expr_too (Keyword keyword.Not ∷ ts) h = refl
expr_too (_ ∷ ts) h = h

object_head : {agg : Bool} {ts vs : List TokenClass} {x : UnresolvedExpr} → IsObject agg ts x vs → Heads begins_prim ts
object_head g.object_empty = refl
object_head (g.object_pairs p) = refl

pub prim_head : {agg : Bool} {ts vs : List TokenClass} {x : UnresolvedExpr} → IsPrim agg ts x vs → Heads begins_prim ts
prim_head (g.prim_number h) = refl
prim_head g.prim_string = refl
prim_head g.prim_true = refl
prim_head g.prim_false = refl
prim_head g.prim_null = refl
prim_head g.prim_missing = refl
prim_head g.prim_name = refl
prim_head (g.prim_parenthesis p) = refl
prim_head g.prim_empty = refl
prim_head (g.prim_list p) = refl
prim_head (g.prim_object p) = object_head p
prim_head (g.prim_case p q) = refl
prim_head (g.prim_any p) = refl
prim_head (g.prim_every p) = refl
prim_head (g.prim_array p) = refl
prim_head (g.prim_first p) = refl
prim_head (g.prim_call e p q) = refl
prim_head (g.prim_meta e) = refl
prim_head (g.prim_meta_of e) = refl
prim_head (g.prim_count_all e) = refl
prim_head (g.prim_aggregate e p) = refl

pub post_head : {agg : Bool} {ts vs : List TokenClass} {x : UnresolvedExpr} → IsPost agg ts x vs → Heads begins_prim ts
post_head (g.post p q) = prim_head p

pub neg_head : {agg : Bool} {ts vs : List TokenClass} {x : UnresolvedExpr} → IsNeg agg ts x vs → Heads begins_neg ts
neg_head (g.neg_neg p) = refl
neg_head g.neg_least = refl
neg_head {ts = ts} (g.neg_post p) = neg_too ts (post_head p)

pub add_head : {agg : Bool} {ts vs : List TokenClass} {x : UnresolvedExpr} → IsAdd agg ts x vs → Heads begins_neg ts
add_head (g.add (g.mul p q) r) = neg_head p

pub rel_head : {agg : Bool} {ts vs : List TokenClass} {x : UnresolvedExpr} → IsRel agg ts x vs → Heads begins_neg ts
rel_head (g.rel p q) = add_head p

pub not_head : {agg : Bool} {ts vs : List TokenClass} {x : UnresolvedExpr} → IsNot agg ts x vs → Heads begins_expr ts
not_head (g.not_not p) = refl
not_head {ts = ts} (g.not_rel p) = expr_too ts (rel_head p)

pub expr_head : {agg : Bool} {ts vs : List TokenClass} {x : UnresolvedExpr} → IsExpr agg ts x vs → Heads begins_expr ts
expr_head (g.expr (g.and p q) r) = not_head p

pub exprs_head : {agg : Bool} {ts vs : List TokenClass} {xs : List UnresolvedExpr} → IsExprs agg ts xs vs → Heads begins_expr ts
exprs_head (g.exprs p q) = expr_head p
