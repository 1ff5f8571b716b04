-- Each expression of a statement on indexes is well formed, no aggregate stands in it, and its variables are bound inside it.
--
-- `Bound` is the law on what the names of an unresolved expression mean, which the caller has.
use Rattle.std.proofs.Common.{List, [], ◌∷◌, ℕ, Bool, true, false, ◌&&◌, Option, Some, None, IsTrue, refl, sym, ap, subst, arith}
use Rattle.std.specs.Prelude.{◌<◌, length}
use Rattle.std.specs.Prelude.{codes}
use Rattle.std.specs.Option.{IfSome, option_map}
use Rattle.std.specs.List.{All}
use Rattle.std.proofs.lemmas.List.Elements.{All-nil, All-cons}
use Rattle.n1ql_ast.specs.declared.ddl.Ddl.{Ddl}
use Rattle.n1ql_ast.specs.declared.expr.Expr.{Expr, fold-roll-Expr}
use Rattle.n1ql_ast.specs.declared.expr.Expr.TheOpen.{Expr-F}
use Rattle.n1ql_ast.specs.declared.expr.Expr.TheVariants as expr
use Rattle.n1ql_ast.specs.declared.key.Key.{Key}
use Rattle.n1ql_ast.specs.declared.token_class.TokenClass.{TokenClass}
use Rattle.n1ql_ast.specs.declared.unresolved_expr.UnresolvedExpr.{UnresolvedExpr}
use Rattle.n1ql_ast.specs.declared.scope.Scope.{Scope}
use Rattle.n1ql_ast.specs.Bindings.{IsClosedIn, in_scope, is_bound, with_name}
use Rattle.n1ql_ast.specs.Forms.{of_each_part}
use Rattle.n1ql_ast.specs.FormedStatements.{IsEvaluable, IsFormedCreate, IsFormedDdl, IsFormedIn, IsFormedKey}
use Rattle.n1ql_ast.specs.Grammar.{IsExpr, IsObject, IsEach}
use Rattle.n1ql_ast.specs.Names.{outermost, inside, resolved}
use Rattle.n1ql_ast.specs.Statements as s
use Rattle.n1ql_ast.specs.Statements.{MayWith, MayWhere, IsKey, IsKeys, MoreKeys, IsDdl, array_key, primary_index, primary_key}
use Rattle.n1ql_parse.proofs.Formed.{kept, kept-object, kept-each}
use Rattle.n1ql_parse.proofs.Kept.{Keeps, KeepsIfAny, field-holds, meta-holds}
use Rattle.n1ql_parse.proofs.Whole.{allows-counts, allows-plain, counted_where, plain_where}

-- each variable of what an unresolved expression is in a scope is bound in the scope, or inside the expression
abbrev pub Bound : Type 0
Bound = (x : UnresolvedExpr) (scope : Scope) → IsClosedIn scope.bound (resolved x scope)

-- in whatever scope
evaluable : (x : UnresolvedExpr) → Keeps (counted_where false) x → Keeps (plain_where false) x → (scope : Scope) → IsEvaluable (resolved x scope)
evaluable x counts plain scope = (counts scope, plain scope)

formed : Bound → (x : UnresolvedExpr) → Keeps (counted_where false) x → Keeps (plain_where false) x → (scope : Scope) →
    IsFormedIn scope.bound (resolved x scope)
formed bound x counts plain scope = (evaluable x counts plain scope, bound x scope)

pub expr-formed : Bound → {x : UnresolvedExpr} {ts rest : List TokenClass} → IsExpr false ts x rest → (scope : Scope) → IsFormedIn scope.bound (resolved x scope)
expr-formed bound {x = x} p = formed bound x (kept counted_where false allows-counts p) (kept plain_where false allows-plain p)

object-evaluable : {x : UnresolvedExpr} {ts rest : List TokenClass} → IsObject false ts x rest → (scope : Scope) → IsEvaluable (resolved x scope)
object-evaluable {x = x} p = evaluable x (kept-object counted_where false allows-counts p) (kept-object plain_where false allows-plain p)

formed-if-any : Bound → (x : Option UnresolvedExpr) → KeepsIfAny (counted_where false) x → KeepsIfAny (plain_where false) x → (scope : Scope) →
    IfSome (option_map (λ y. resolved y scope) x) (IsFormedIn scope.bound)
formed-if-any bound None counts plain scope = tt
formed-if-any bound (Some x) counts plain scope = ((counts scope, plain scope), bound x scope)

each-formed : Bound → (keyspace : List ℕ) (distinct : Bool) {name : List ℕ} {item over : UnresolvedExpr} {when : Option UnresolvedExpr} {ts rest : List TokenClass} →
    IsEach false ts name item over when rest → IsFormedKey (array_key keyspace distinct name item over when)
each-formed bound keyspace distinct {name = name} {item = item} {over = over} {when = when} p =
    let c = kept-each counted_where false allows-counts p in
    let d = kept-each plain_where false allows-plain p in
    let element : Scope = inside name (outermost keyspace) in
    (formed bound item c.item d.item element, formed bound over c.over d.over (outermost keyspace), formed-if-any bound when c.passes d.passes element)

key-formed : Bound → {keyspace : List ℕ} {k : Key} {ts rest : List TokenClass} → IsKey keyspace ts k rest → IsFormedKey k
key-formed bound {keyspace = keyspace} (s.key_plain p) = expr-formed bound p (outermost keyspace)
key-formed bound {keyspace = keyspace} (s.key_all p) = each-formed bound keyspace false p
key-formed bound {keyspace = keyspace} (s.key_distinct p) = each-formed bound keyspace true p

mutual
  keys-formed : Bound → {keyspace : List ℕ} {ks : List Key} {ts rest : List TokenClass} → IsKeys keyspace ts ks rest → All IsFormedKey ks
  keys-formed bound (s.keys {k = k} {ks = ks} p m) = All-cons IsFormedKey k ks (key-formed bound p) (more_keys-formed bound m)

  more_keys-formed : Bound → {keyspace : List ℕ} {ks : List Key} {ts rest : List TokenClass} → MoreKeys keyspace ts ks rest → All IsFormedKey ks
  more_keys-formed bound s.keys_done = All-nil IsFormedKey
  more_keys-formed bound (s.keys_more p) = keys-formed bound p

some-keys : {keyspace : List ℕ} {ks : List Key} {ts rest : List TokenClass} → IsKeys keyspace ts ks rest → 0 < length ks
some-keys (s.keys p m) = omega arith

where-formed : Bound → {keyspace : List ℕ} {filter : Option Expr} {ts rest : List TokenClass} → MayWhere keyspace ts filter rest → IfSome filter (IsFormedIn [])
where-formed bound s.where_none = tt
where-formed bound {keyspace = keyspace} (s.where_some p) = expr-formed bound p (outermost keyspace)

with-formed : {keyspace : List ℕ} {options : Option Expr} {ts rest : List TokenClass} → MayWith keyspace ts options rest → IfSome options IsEvaluable
with-formed s.with_none = tt
with-formed {keyspace = keyspace} (s.with_some p) = object-evaluable p (outermost keyspace)

-- a level with its parts, where no name is bound around it
abbrev closed_level : Expr-F (List (List ℕ) → Bool) → List (List ℕ) → Bool
closed_level l names = is_bound l names && of_each_part (in_scope with_name l names)

meta-closed : IsClosedIn [] (expr.MetaOf true)
meta-closed =
    subst (IsClosedIn []) (expr.rolls-MetaOf true)
    (subst IsTrue (sym (ap (λ (f : List (List ℕ) → Bool). f []) (fold-roll-Expr (List (List ℕ) → Bool) closed_level (Expr-F.MetaOf true)))) refl)

id-closed : IsClosedIn [] (expr.Field (expr.MetaOf true) (codes "id"))
id-closed =
    subst (IsClosedIn []) (expr.rolls-Field (expr.MetaOf true) (codes "id"))
    (subst IsTrue (sym (ap (λ (f : List (List ℕ) → Bool). f []) (fold-roll-Expr (List (List ℕ) → Bool) closed_level (Expr-F.Field (expr.MetaOf true) (codes "id"))))) meta-closed)

-- the key of a primary index
primary_key-formed : IsFormedKey primary_key
primary_key-formed = (
  (
    field-holds counted_where false (expr.MetaOf true) (codes "id") allows-counts (meta-holds counted_where false true allows-counts),
    field-holds plain_where false (expr.MetaOf true) (codes "id") allows-plain (meta-holds plain_where false true allows-plain),
  ),
  id-closed,
)

primary_keys-formed : All IsFormedKey (primary_key ∷ [])
primary_keys-formed = All-cons IsFormedKey primary_key [] primary_key-formed (All-nil IsFormedKey)

primary-formed : (name : Option (List ℕ)) (keyspace : List ℕ) (options : Option Expr) → IfSome options IsEvaluable →
    IsFormedCreate (primary_index name keyspace options)
primary-formed None keyspace options h =
    record { keys = primary_keys-formed; some = omega arith; filter = tt; options = h; primary = λ _. (refl, refl) }
primary-formed (Some name) keyspace options h =
    record { keys = primary_keys-formed; some = omega arith; filter = tt; options = h; primary = λ _. (refl, refl) }

pub ddl-formed : Bound → {ts rest : List TokenClass} {d : Ddl} → IsDdl ts d rest → IsFormedDdl d
ddl-formed bound (s.ddl_create p q r w) = record {
  keys = keys-formed bound p;
  some = some-keys p;
  filter = where-formed bound q;
  options = with-formed w;
  primary = λ is. absurd cc;
}
ddl-formed bound (s.ddl_primary {name = name} {keyspace = keyspace} {options = options} p q r) = primary-formed name keyspace options (with-formed r)
ddl-formed bound (s.ddl_build p q) = tt
ddl-formed bound (s.ddl_drop q) = tt
ddl-formed bound (s.ddl_drop_in q) = tt
ddl-formed bound (s.ddl_drop_primary q) = tt
