-- Statements that read alike: one on documents, and one on rows of an index, which show the id of a document and the values of keys on it,
-- but not the document.
use Rattle.std.specs.Prelude.{◌≡◌, ℕ, List, [], map, Option, Some, None, IsTrue, ⊤}
use Rattle.std.specs.List.{AllZip, list_any}
use Rattle.std.specs.Option.{option_map}
use Rattle.std.specs.Str.{bytes_eq}
use Rattle.n1ql_value.specs.declared.datum.Datum.{Datum}
use Rattle.n1ql_value.specs.declared.value.Value.{Value}
use Rattle.n1ql_value.specs.declared.value.Value.TheVariants.{Missing}
use Rattle.n1ql_ast.specs.declared.expr.Expr.{Expr}
use Rattle.n1ql_ast.specs.declared.order.Order.{Order}
use Rattle.n1ql_ast.specs.declared.selection.Selection.{Selection}
use Rattle.n1ql_ast.specs.declared.term.Term.{Term}
use Rattle.n1ql_ast.specs.declared.term.Term.TheVariants.{Spread, One}
use Rattle.n1ql_ast.specs.declared.unnest.Unnest.{Unnest}
use Rattle.n1ql_ast.specs.Evaluation.{Environment}
use Rattle.n1ql_ast.specs.FormedSelections.{unnest_names}
use Rattle.n1ql_meaning.specs.Groups.{is_grouped, value_over}
use Rattle.n1ql_meaning.specs.OrderKeys.{order_key}
use Rattle.n1ql_meaning.specs.Rows.{AreBoundBy, InputRow, document_with, meets}

-- with no name bound
abbrev pub bare : Environment → Environment
bare env = record { id = env.id; doc = env.doc; keys = env.keys; bound = [] }

-- What a row of an index shows of an environment: in place of the document the values that `keys` gives of it.
abbrev pub viewed : (Environment → List Datum) → Environment → Environment
viewed keys env = record { id = env.id; doc = Missing; keys = keys (bare env); bound = env.bound }

abbrev pub viewed_row : (Environment → List Datum) → InputRow → InputRow
viewed_row keys row = record { env = viewed keys row.env; base = row.base }

abbrev pub viewed_group : (Environment → List Datum) → Option (List Environment) → Option (List Environment)
viewed_group keys group = option_map (map (viewed keys)) group

-- `over` has of what is shown, on a group too, the value that `e` has
abbrev pub ReadsAs : (Environment → List Datum) → Expr → Expr → Type 0
ReadsAs keys over e = (group : Option (List Environment)) (env : Environment)
    → value_over (viewed_group keys group) over (viewed keys env) ≡ value_over group e env

-- both are there and so, or neither is there
abbrev pub ReadsIfAny : (Environment → List Datum) → Option Expr → Option Expr → Type 0
ReadsIfAny keys None None = ⊤
ReadsIfAny keys (Some over) (Some e) = ReadsAs keys over e
ReadsIfAny keys _ _ = ⊥

-- terms of one name, where only the names of UNNESTs are spread
abbrev pub TermReadsAs : List (List ℕ) → (Environment → List Datum) → Term Expr → Term Expr → Type 0
TermReadsAs names keys (Spread over) (Spread name) = (over ≡ name) × IsTrue (list_any (bytes_eq name) names)
TermReadsAs names keys (One over over_name over_given) (One value name given) = ReadsAs keys over value × (over_name ≡ name)
TermReadsAs names keys _ _ = ⊥

-- UNNESTs of one name
pub record UnnestReadsAs (keys : Environment → List Datum) (over u : Unnest Expr) : Type 0 where
  pub left : over.left ≡ u.left
  pub name : over.name ≡ u.name
  pub array : ReadsAs keys over.over u.over

-- The expressions of two statements read alike, part by part, and all else of them is the same. WHERE is left open, and so is how a key
-- of ORDER BY is written.
pub record ReadAlike (keys : Environment → List Datum) (over q : Selection Expr) : Type 0 where
  pub distinct : over.distinct ≡ q.distinct
  pub raw : ReadsIfAny keys over.raw q.raw
  pub terms : AllZip (TermReadsAs (unnest_names q.unnests) keys) over.terms q.terms
  pub unnests : AllZip (UnnestReadsAs keys) over.unnests q.unnests
  pub grouped : is_grouped over ≡ is_grouped q
  pub groups : AllZip (ReadsAs keys) over.groups q.groups
  pub having : ReadsIfAny keys over.having q.having
  pub orders : AllZip (λ (o p : Order Expr). ReadsAs keys (order_key over o) (order_key q p) × (o.desc ≡ p.desc)) over.orders q.orders
  pub limit : over.limit ≡ q.limit
  pub offset : over.offset ≡ q.offset

-- whatever is bound to the names of the UNNESTs, WHERE of the one is TRUE of what is shown of the document exactly where WHERE of the other
-- is TRUE on the document
abbrev pub WhereAlike : (Environment → List Datum) → Selection Expr → Selection Expr → List ℕ × Value → Type 0
WhereAlike keys over q e = (bound : List (List ℕ × Value)) → AreBoundBy q bound
    → meets over.filter (viewed keys (document_with bound e)) ≡ meets q.filter (document_with bound e)
