-- The grammar of the statements on indexes, a case for each production, on top of the grammar of expressions.
--
-- The names of a definition mean what they mean on a document of its keyspace, which stands before all its expressions; so each
-- production has the expression itself, with its names resolved.
use Rattle.std.specs.Prelude.{ℕ, Bool, true, false, List, [], ◌∷◌, codes, Option, Some, None, option_map}
use Rattle.n1ql_ast.specs.declared.create.Create.{Create}
use Rattle.n1ql_ast.specs.declared.ddl.Ddl.{Ddl}
use Rattle.n1ql_ast.specs.declared.ddl.Ddl.TheVariants as ddl
use Rattle.n1ql_ast.specs.declared.expr.Expr.{Expr}
use Rattle.n1ql_ast.specs.declared.expr.Expr.TheVariants as expr
use Rattle.n1ql_ast.specs.declared.key.Key.{Key}
use Rattle.n1ql_ast.specs.declared.key.Key.TheVariants as key
use Rattle.n1ql_ast.specs.declared.token_class.TokenClass.{TokenClass}
use Rattle.n1ql_ast.specs.declared.token_class.TokenClass.TheVariants.{Keyword, Name}
use Rattle.n1ql_ast.specs.declared.keyword.Keyword.TheVariants as keyword
use Rattle.n1ql_ast.specs.declared.unresolved_expr.UnresolvedExpr.{UnresolvedExpr}
use Rattle.n1ql_ast.specs.Grammar.{IsExpr, IsEach, IsObject}
use Rattle.n1ql_ast.specs.Names.{outermost, inside, resolved}

-- what an unresolved expression is on a document of the keyspace, and what it is where a variable is bound
abbrev pub on_document : List ℕ → UnresolvedExpr → Expr
on_document keyspace x = resolved x (outermost keyspace)

abbrev pub on_element : List ℕ → List ℕ → UnresolvedExpr → Expr
on_element keyspace name x = resolved x (inside name (outermost keyspace))

-- the name of a primary index that is given none, and the one key of each
abbrev pub primary_name : List ℕ
primary_name = codes "#primary"

abbrev pub primary_key : Key
primary_key = key.Plain (expr.Field (expr.MetaOf true) (codes "id"))

-- [name]
pub data MayName : (ts : List TokenClass) (name : Option (List ℕ)) (rest : List TokenClass) → Type 0 where
  name_none : {ts : List TokenClass} → MayName ts None ts
  name_some : {quoted : Bool} {name : List ℕ} {ts : List TokenClass} → MayName (Name name quoted ∷ ts) (Some name) ts

-- [USING GSI]
pub data MayUsing : (ts rest : List TokenClass) → Type 0 where
  using_none : {ts : List TokenClass} → MayUsing ts ts
  using_gsi : {ts : List TokenClass} → MayUsing (Keyword keyword.Using ∷ Keyword keyword.Gsi ∷ ts) ts

-- [WITH object]
pub data MayWith : (keyspace : List ℕ) (ts : List TokenClass) (options : Option Expr) (rest : List TokenClass) → Type 0 where
  with_none : {keyspace : List ℕ} {ts : List TokenClass} → MayWith keyspace ts None ts
  with_some : {keyspace : List ℕ} {x : UnresolvedExpr} {ts rest : List TokenClass} →
      IsObject false ts x rest → MayWith keyspace (Keyword keyword.With ∷ ts) (Some (on_document keyspace x)) rest

-- [WHERE expr]
pub data MayWhere : (keyspace : List ℕ) (ts : List TokenClass) (filter : Option Expr) (rest : List TokenClass) → Type 0 where
  where_none : {keyspace : List ℕ} {ts : List TokenClass} → MayWhere keyspace ts None ts
  where_some : {keyspace : List ℕ} {x : UnresolvedExpr} {ts rest : List TokenClass} →
      IsExpr false ts x rest → MayWhere keyspace (Keyword keyword.Where ∷ ts) (Some (on_document keyspace x)) rest

-- the array key of what ARRAY begins
abbrev pub array_key : List ℕ → Bool → List ℕ → UnresolvedExpr → UnresolvedExpr → Option UnresolvedExpr → Key
array_key keyspace distinct name item over when =
    key.Each distinct (on_element keyspace name item) name (on_document keyspace over) (option_map (on_element keyspace name) when)

-- key = expr | (ALL | DISTINCT) ARRAY expr FOR name IN expr [WHEN expr] END
pub data IsKey : (keyspace : List ℕ) (ts : List TokenClass) (k : Key) (rest : List TokenClass) → Type 0 where
  key_plain : {keyspace : List ℕ} {x : UnresolvedExpr} {ts rest : List TokenClass} →
      IsExpr false ts x rest → IsKey keyspace ts (key.Plain (on_document keyspace x)) rest
  key_all : {keyspace name : List ℕ} {item over : UnresolvedExpr} {when : Option UnresolvedExpr} {ts rest : List TokenClass} →
      IsEach false ts name item over when rest →
      IsKey keyspace (Keyword keyword.All ∷ Keyword keyword.Array ∷ ts) (array_key keyspace false name item over when) rest
  key_distinct : {keyspace name : List ℕ} {item over : UnresolvedExpr} {when : Option UnresolvedExpr} {ts rest : List TokenClass} →
      IsEach false ts name item over when rest →
      IsKey keyspace (Keyword keyword.Distinct ∷ Keyword keyword.Array ∷ ts) (array_key keyspace true name item over when) rest

-- key {"," key}
mutual
  pub data IsKeys : (keyspace : List ℕ) (ts : List TokenClass) (ks : List Key) (rest : List TokenClass) → Type 0 where
    keys : {keyspace : List ℕ} {k : Key} {ks : List Key} {ts us rest : List TokenClass} →
        IsKey keyspace ts k us → MoreKeys keyspace us ks rest → IsKeys keyspace ts (k ∷ ks) rest

  pub data MoreKeys : (keyspace : List ℕ) (ts : List TokenClass) (ks : List Key) (rest : List TokenClass) → Type 0 where
    keys_done : {keyspace : List ℕ} {ts : List TokenClass} → MoreKeys keyspace ts [] ts
    keys_more : {keyspace : List ℕ} {ks : List Key} {ts rest : List TokenClass} →
        IsKeys keyspace ts ks rest → MoreKeys keyspace (Keyword keyword.Comma ∷ ts) ks rest

-- name {"," name}
mutual
  pub data IsNames : (ts : List TokenClass) (names : List (List ℕ)) (rest : List TokenClass) → Type 0 where
    names : {quoted : Bool} {name : List ℕ} {more : List (List ℕ)} {ts rest : List TokenClass} →
        MoreNames ts more rest → IsNames (Name name quoted ∷ ts) (name ∷ more) rest

  pub data MoreNames : (ts : List TokenClass) (names : List (List ℕ)) (rest : List TokenClass) → Type 0 where
    names_done : {ts : List TokenClass} → MoreNames ts [] ts
    names_more : {more : List (List ℕ)} {ts rest : List TokenClass} →
        IsNames ts more rest → MoreNames (Keyword keyword.Comma ∷ ts) more rest

-- the definition of a primary index
abbrev pub primary_index : Option (List ℕ) → List ℕ → Option Expr → Create
primary_index None keyspace options =
    record { name = primary_name; keyspace = keyspace; keys = primary_key ∷ []; filter = None; options = options; primary = true }
primary_index (Some name) keyspace options =
    record { name = name; keyspace = keyspace; keys = primary_key ∷ []; filter = None; options = options; primary = true }

-- ddl, in the order of its forms
pub data IsDdl : (ts : List TokenClass) (d : Ddl) (rest : List TokenClass) → Type 0 where
  -- CREATE INDEX name ON name "(" key {"," key} ")" [WHERE expr] [USING GSI] [WITH object]
  ddl_create : {q r : Bool} {name keyspace : List ℕ} {ks : List Key} {filter options : Option Expr} {ts us vs ws rest : List TokenClass} →
      IsKeys keyspace ts ks (Keyword keyword.CloseParenthesis ∷ us) → MayWhere keyspace us filter vs → MayUsing vs ws →
      MayWith keyspace ws options rest →
      IsDdl (Keyword keyword.Create ∷ Keyword keyword.Index ∷ Name name q ∷ Keyword keyword.On ∷ Name keyspace r ∷ Keyword keyword.OpenParenthesis ∷ ts)
      (ddl.Create (record { name = name; keyspace = keyspace; keys = ks; filter = filter; options = options; primary = false })) rest
  -- CREATE PRIMARY INDEX [name] ON name [USING GSI] [WITH object]
  ddl_primary : {q : Bool} {name : Option (List ℕ)} {keyspace : List ℕ} {options : Option Expr} {ts us vs rest : List TokenClass} →
      MayName ts name (Keyword keyword.On ∷ Name keyspace q ∷ us) → MayUsing us vs → MayWith keyspace vs options rest →
      IsDdl (Keyword keyword.Create ∷ Keyword keyword.Primary ∷ Keyword keyword.Index ∷ ts) (ddl.Create (primary_index name keyspace options)) rest
  -- BUILD INDEX ON name "(" name {"," name} ")" [USING GSI]
  ddl_build : {q : Bool} {keyspace : List ℕ} {more : List (List ℕ)} {ts us rest : List TokenClass} →
      IsNames ts more (Keyword keyword.CloseParenthesis ∷ us) → MayUsing us rest →
      IsDdl (Keyword keyword.Build ∷ Keyword keyword.Index ∷ Keyword keyword.On ∷ Name keyspace q ∷ Keyword keyword.OpenParenthesis ∷ ts)
      (ddl.Build keyspace more) rest
  -- DROP INDEX name ON name [USING GSI]
  ddl_drop : {q r : Bool} {name keyspace : List ℕ} {ts rest : List TokenClass} → MayUsing ts rest →
      IsDdl (Keyword keyword.Drop ∷ Keyword keyword.Index ∷ Name name q ∷ Keyword keyword.On ∷ Name keyspace r ∷ ts) (ddl.Remove keyspace name) rest
  -- DROP INDEX name "." name [USING GSI], where the keyspace stands first
  ddl_drop_in : {q r : Bool} {name keyspace : List ℕ} {ts rest : List TokenClass} → MayUsing ts rest →
      IsDdl (Keyword keyword.Drop ∷ Keyword keyword.Index ∷ Name keyspace q ∷ Keyword keyword.Dot ∷ Name name r ∷ ts) (ddl.Remove keyspace name) rest
  -- DROP PRIMARY INDEX ON name [USING GSI]
  ddl_drop_primary : {q : Bool} {keyspace : List ℕ} {ts rest : List TokenClass} → MayUsing ts rest →
      IsDdl (Keyword keyword.Drop ∷ Keyword keyword.Primary ∷ Keyword keyword.Index ∷ Keyword keyword.On ∷ Name keyspace q ∷ ts)
      (ddl.Remove keyspace primary_name) rest

-- the whole list is one statement
abbrev pub IsStatement : List TokenClass → Ddl → Type 0
IsStatement ts d = IsDdl ts d []

-- the tokens are one statement
abbrev pub FollowsDdl : List TokenClass → Type 0
FollowsDdl ts = (d : Ddl) × IsStatement ts d
