-- A statement that an index covers is answered from the rows in its spans.
use Rattle.std.proofs.Common.{◌≡◌, ℕ, Bool, true, false, not, ◌&&◌, List, [], ◌∷◌, map, Option, Some, None, IsSome, IsTrue, cond, refl, sym, ap, subst, ◌∙◌}
use Rattle.std.specs.List.{All, AllByRecursion, filter, list_all, list_any}
use Rattle.std.specs.Option.{option_map_or}
use Rattle.std.proofs.lemmas.Bool.{true≢false}
use Rattle.std.proofs.lemmas.List.Elements.{All-from_recursion, recursion_from_All}
use Rattle.n1ql_value.specs.declared.datum.Datum.{Datum}
use Rattle.n1ql_value.specs.declared.range.Range.{Range}
use Rattle.n1ql_value.specs.declared.row.Row.{Row}
use Rattle.n1ql_value.specs.declared.value.Value.{Value}
use Rattle.n1ql_value.specs.Ranges.{some_span_holds}
use Rattle.n1ql_ast.specs.declared.expr.Expr.{Expr}
use Rattle.n1ql_ast.specs.declared.selection.Selection.{Selection}
use Rattle.n1ql_ast.specs.declared.unnest.Unnest.{Unnest}
use Rattle.n1ql_ast.specs.Conjunction.{conjuncts_in}
use Rattle.n1ql_ast.specs.Evaluation.{Environment}
use Rattle.n1ql_ast.specs.FormedStatements.{IsFormedIn, IsFormedKey}
use Rattle.index_def.specs.declared.definition.IndexDef.{IndexDef}
use Rattle.index_def.specs.Forms.{IsFormed}
use Rattle.index_def.specs.Keys.{keys_of}
use Rattle.index_def.specs.Reasons.{is_array}
use Rattle.n1ql_spans.specs.declared.fits.Fit.{Fit}
use Rattle.n1ql_spans.specs.Covering.{covers, covers_groups, covers_result, covers_rows, is_covered, plain_keys, rest_of}
use Rattle.n1ql_spans.specs.Fits.{fit_of, qualifies}
use Rattle.n1ql_spans.specs.Spans.{spans_of}
use Rattle.n1ql_meaning.specs.Groups.{is_grouped}
use Rattle.n1ql_meaning.specs.Likeness.{ReadAlike, WhereAlike, viewed_row}
use Rattle.n1ql_meaning.specs.Meaning.{results_of, results_of_rows}
use Rattle.n1ql_meaning.specs.Rows.{InputRow, IsRejected, document_with, meets, row_of_document, rows_from, rows_of}
use Rattle.n1ql_covered.specs.OverKeys.{over_index}
use Rattle.n1ql_covered.specs.ShownRows.{keys_on, rows_from_index}
use Rattle.n1ql_covered.proofs.Conditions.{ConjunctLaws, where_alike}
use Rattle.n1ql_covered.proofs.Reading.{TreeLaws, both}
use Rattle.n1ql_covered.proofs.Shown.{all_kept, is_met, met_admitted, shown_rows}
use Rattle.n1ql_covered.proofs.AlikeStatements.{plain_formed, read_alike}

-- what the crates below say of spans and of meanings
pub record MeaningLaws : Type 0 where
  pub spans : (def : IndexDef) → IsFormed def → (q : Selection Expr) → IsSome (fit_of q def)
      → (id : List ℕ) (doc : Value) (bound : List (List ℕ × Value)) → IsTrue (meets q.filter (document_with bound (id, doc)))
      → IsTrue (list_any (λ (row : Row). some_span_holds (spans_of (conjuncts_in q.filter) def) row.keys) (keys_of def id doc))
  pub rejected : (q : Selection Expr) (e : List ℕ × Value) → IsRejected q e → rows_of q (e ∷ []) ≡ []
  pub left_out : (q : Selection Expr) (keep : List ℕ × Value → Bool) (docs : List (List ℕ × Value))
      → All (λ e. keep e ≡ false → rows_of q (e ∷ []) ≡ []) docs → results_of q (filter keep docs) ≡ results_of q docs
  pub alike_rows : (keys : Environment → List Datum) (over q : Selection Expr) → ReadAlike keys over q → (docs : List (List ℕ × Value))
      → All (WhereAlike keys over q) docs
      → rows_from over (map (λ e. viewed_row keys (row_of_document e)) docs) ≡ map (viewed_row keys) (rows_of q docs)
  pub alike_some : (keys : Environment → List Datum) (over q : Selection Expr) → ReadAlike keys over q → (row : InputRow) (rows : List InputRow)
      → results_of_rows over (map (viewed_row keys) (row ∷ rows)) ≡ results_of_rows q (row ∷ rows)

not_true : (b : Bool) → (b ≡ true → true ≡ false) → b ≡ false
not_true true h = h refl
not_true false h = refl

not_any : (b : Bool) → IsTrue (not b) → b ≡ false
not_any true h = absurd cc
not_any false h = refl

-- an index that covers
covers_if : (b : Bool) (f g : Fit) → cond b (Some f) None ≡ Some g → g.covered ≡ true → IsTrue f.covered
covers_if true f g is covered = ap (λ (o : Option Fit). option_map_or (λ (h : Fit). h.covered) o true) is ∙ covered
covers_if false f g is covered = absurd cc

pub without_arrays : (def : IndexDef) (q : Selection Expr) (fit : Fit) → fit_of q def ≡ Some fit → fit.covered ≡ true → list_any is_array def.keys ≡ false
without_arrays def q fit fits covered =
    let whole : IsTrue (covers q def) = covers_if (qualifies (conjuncts_in q.filter) def) _ fit fits covered in
    let keys : List Expr = plain_keys def.keys in
    not_any (list_any is_array def.keys)
    (both (not (list_any is_array def.keys)) (covers_result keys q && (covers_rows keys (rest_of def.filter (conjuncts_in q.filter)) q && covers_groups keys q)) whole).0

module _ (trees : TreeLaws) (conjuncts : ConjunctLaws) (laws : MeaningLaws) (def : IndexDef) (formed : IsFormed def) (q : Selection Expr) (fit : Fit)
    (fits : fit_of q def ≡ Some fit) (covered : fit.covered ≡ true) where
  abbrev keys : List Expr
  keys = plain_keys def.keys

  abbrev spans : List (List Range)
  spans = spans_of (conjuncts_in q.filter) def

  abbrev left : List Expr
  left = rest_of def.filter (conjuncts_in q.filter)

  abbrev Parts : Type 0
  Parts = (list_any is_array def.keys ≡ false) × (IsTrue (covers_result keys q)
      × ((IsTrue (list_all (λ (u : Unnest Expr). is_covered keys u.over) q.unnests) × IsTrue (list_all (is_covered keys) left)) × IsTrue (covers_groups keys q)))

  parts : Parts
  parts =
      let whole : IsTrue (covers q def) = covers_if (qualifies (conjuncts_in q.filter) def) _ fit fits covered in
      let plain = both (not (list_any is_array def.keys)) (covers_result keys q && (covers_rows keys left q && covers_groups keys q)) whole in
      let result = both (covers_result keys q) (covers_rows keys left q && covers_groups keys q) plain.1 in
      let rows = both (covers_rows keys left q) (covers_groups keys q) result.1 in
      (not_any (list_any is_array def.keys) plain.0, (result.0, (both (list_all (λ (u : Unnest Expr). is_covered keys u.over) q.unnests) (list_all (is_covered keys) left) rows.0, rows.1)))

  keys_formed : AllByRecursion (IsFormedIn []) keys
  keys_formed = plain_formed def.keys (recursion_from_All IsFormedKey def.keys formed.keys)

  alike : ReadAlike (keys_on keys) (over_index q def) q
  alike = read_alike trees def q keys_formed parts.1.0 parts.1.1.0.0 parts.1.1.1

  abbrev met : List ℕ × Value → Bool
  met = is_met def parts.0 spans

  -- a document without a row in the spans
  unmet_rejected : (e : List ℕ × Value) → met e ≡ false → IsRejected q e
  unmet_rejected e unmet bound at =
      not_true (meets q.filter (document_with bound e))
      (λ h. sym (laws.spans def formed q (subst IsSome (sym fits) refl) e.0 e.1 bound h) ∙ unmet)

  met_alone : (docs : List (List ℕ × Value)) → results_of q (filter met docs) ≡ results_of q docs
  met_alone docs =
      laws.left_out q met docs (λ k d l unmet. laws.rejected q _ (unmet_rejected _ unmet))

  met_alike : (docs : List (List ℕ × Value)) → All (WhereAlike (keys_on keys) (over_index q def) q) (filter met docs)
  met_alike docs =
      All-from_recursion (WhereAlike (keys_on keys) (over_index q def) q) (filter met docs)
      (all_kept (WhereAlike (keys_on keys) (over_index q def) q) met
      (λ e h. where_alike trees conjuncts def keys_formed (recursion_from_All (IsFormedIn []) def.filter formed.filter) q parts.1.1.0.1 e (met_admitted def parts.0 spans e h)) docs)

  rows_are : (docs : List (List ℕ × Value)) → rows_from_index q def docs ≡ map (viewed_row (keys_on keys)) (rows_of q (filter met docs))
  rows_are docs =
      ap (rows_from (over_index q def)) (shown_rows def parts.0 spans docs)
      ∙ laws.alike_rows (keys_on keys) (over_index q def) q alike (filter met docs) (met_alike docs)

  from_some : (row : InputRow) (rows xs : List InputRow) → map (viewed_row (keys_on keys)) xs ≡ row ∷ rows
      → results_of_rows (over_index q def) (row ∷ rows) ≡ results_of_rows q xs
  from_some row rows [] is = absurd cc
  from_some row rows (x ∷ xs) is = ap (results_of_rows (over_index q def)) (sym is) ∙ laws.alike_some (keys_on keys) (over_index q def) q alike x xs

  from_none : (xs : List InputRow) → map (viewed_row (keys_on keys)) xs ≡ [] → results_of_rows q [] ≡ results_of_rows q xs
  from_none [] is = refl
  from_none (x ∷ xs) is = absurd cc

  pub some_rows : (docs : List (List ℕ × Value)) (row : InputRow) (rows : List InputRow) → rows_from_index q def docs ≡ row ∷ rows
      → results_of_rows (over_index q def) (row ∷ rows) ≡ results_of q docs
  some_rows docs row rows is = from_some row rows (rows_of q (filter met docs)) (sym (rows_are docs) ∙ is) ∙ met_alone docs

  pub no_rows : (docs : List (List ℕ × Value)) → rows_from_index q def docs ≡ [] → results_of_rows q [] ≡ results_of q docs
  no_rows docs is = from_none (rows_of q (filter met docs)) (sym (rows_are docs) ∙ is) ∙ met_alone docs
