-- The law of spans, for a definition that is formed and qualifies.
use Rattle.std.proofs.Common.{◌≡◌, ℕ, Bool, true, false, ◌&&◌, List, [], ◌∷◌, Option, Some, None, IsSome, IsTrue, inr, refl, sym, ap, subst, ◌∙◌}
use Rattle.std.specs.Prelude.{if◌then◌else◌, slice_get}
use Rattle.std.specs.List.{All, list_all, list_any}
use Rattle.std.specs.Option.{option_map_or}
use Rattle.n1ql_value.specs.declared.row.Row.{Row}
use Rattle.n1ql_value.specs.declared.value.Value.{Value}
use Rattle.n1ql_value.specs.Kinds.{is_true}
use Rattle.n1ql_value.specs.Ranges.{some_span_holds}
use Rattle.n1ql_ast.specs.declared.expr.Expr.{Expr}
use Rattle.n1ql_ast.specs.declared.key.Key.{Key}
use Rattle.n1ql_ast.specs.declared.selection.Selection.{Selection}
use Rattle.n1ql_ast.specs.Conjunction.{all_true, conjuncts_in}
use Rattle.n1ql_ast.specs.Evaluation.{on_document, value_of}
use Rattle.n1ql_ast.specs.FormedStatements.{IsFormedKey}
use Rattle.n1ql_ast.specs.Statements.{primary_key}
use Rattle.index_def.specs.declared.definition.IndexDef.{IndexDef}
use Rattle.index_def.specs.Forms.{IsFormed}
use Rattle.index_def.specs.Keys.{keys_of}
use Rattle.n1ql_meaning.specs.Rows.{document_with, meets}
use Rattle.n1ql_spans.specs.declared.fits.Fit.{Fit}
use Rattle.n1ql_spans.specs.Fits.{fit_of, is_bounded, qualifies}
use Rattle.n1ql_spans.specs.Spans.{are_among, spans_of}
use Rattle.n1ql_spans.proofs.LawsBelow.{OrderLaws, TreeLaws}
use Rattle.n1ql_spans.proofs.SpansHold.{admitted, all_serve, first_all, in_some_span, serves_later}
use Rattle.n1ql_spans.proofs.Tests.{both, or_cases}

module _ (order : OrderLaws) (trees : TreeLaws) (id : List ℕ) (doc : Value) (bound : List (List ℕ × Value)) where
  module _ (cs : List Expr) (def : IndexDef) where
    abbrev Held : Type 0
    Held = IsTrue (list_any (λ (row : Row). some_span_holds (spans_of cs def) row.keys) (keys_of def id doc))

    primary_held : IsFormed def → IsTrue def.primary → IsTrue (all_true cs (document_with bound (id, doc))) → Held
    primary_held formed primary h =
        let is = formed.primary primary in
        let keys : All IsFormedKey (primary_key ∷ []) = subst (All IsFormedKey) is.0 formed.keys in
        in_some_span order trees id doc bound cs def primary_key [] is.0 ((first_all IsFormedKey primary_key [] keys, (refl, λ l. inr refl)), tt)
        (ap (λ es. list_all (λ e. is_true (value_of e (on_document id doc []))) es) is.1) h

    -- the other indexes, by their keys
    other_held : IsFormed def → (keys : List Key) → def.keys ≡ keys → IsTrue (are_among cs def.filter) → IsTrue (option_map_or (is_bounded cs) (slice_get keys 0) false)
        → IsTrue (list_all (serves_later order trees id doc bound cs) keys) → IsTrue (all_true cs (document_with bound (id, doc))) → Held
    other_held formed [] is among some served h = absurd cc
    other_held formed (key ∷ keys) is among some served h =
        in_some_span order trees id doc bound cs def key keys is
        (all_serve order trees id doc bound cs key keys (subst (All IsFormedKey) is formed.keys) some served)
        (admitted order trees id doc bound cs def.filter formed.filter among h) h

    held : IsFormed def → IsTrue (qualifies cs def) → IsTrue (all_true cs (document_with bound (id, doc))) → Held
    held formed qualified h =
        let leads : Bool = option_map_or (is_bounded cs) (slice_get def.keys 0) false in
        let served : Bool = list_all (serves_later order trees id doc bound cs) def.keys in
        or_cases def.primary (are_among cs def.filter && (leads && served)) qualified
        (λ primary. primary_held formed primary h)
        (λ other.
        let two = both (are_among cs def.filter) (leads && served) other in
        let keys = both leads served two.1 in
        other_held formed def.keys refl two.0 keys.0 keys.1 h)

  -- WHERE is TRUE where all of its conjuncts are
  conjuncts_true : (filter : Option Expr) → IsTrue (meets filter (document_with bound (id, doc))) → IsTrue (all_true (conjuncts_in filter) (document_with bound (id, doc)))
  conjuncts_true None h = refl
  conjuncts_true (Some e) h = sym (trees.conjuncts e (document_with bound (id, doc))) ∙ h

  qualified_if_fit : (b : Bool) (fit : Fit) → IsSome (if b then Some fit else None) → IsTrue b
  qualified_if_fit true fit h = refl
  qualified_if_fit false fit h = absurd cc

  pub law_of_spans : (def : IndexDef) → IsFormed def → (q : Selection Expr) → IsSome (fit_of q def) → IsTrue (meets q.filter (document_with bound (id, doc)))
      → Held (conjuncts_in q.filter) def
  law_of_spans def formed q some h =
      held (conjuncts_in q.filter) def formed (qualified_if_fit (qualifies (conjuncts_in q.filter) def) _ some) (conjuncts_true q.filter h)
