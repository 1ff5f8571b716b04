-- A statement without groups that an index covers has, over the rows of a snapshot in its spans, its results on all documents.
use Rattle.std.proofs.Common.{◌≡◌, ℕ, Bool, true, false, List, [], ◌∷◌, map, Some, cond, refl, sym, ap, ◌∙◌}
use Rattle.std.specs.Arc.{arc_value}
use Rattle.std.specs.FinMap as finite
use Rattle.std.specs.List.{filter, list_any}
use Rattle.sorted_lists.specs.SortedLists.{sort_of}
use Rattle.n1ql_value.specs.declared.value.Value.{Value}
use Rattle.n1ql_value.specs.Documents.{Documents}
use Rattle.n1ql_ast.specs.declared.expr.Expr.{Expr}
use Rattle.n1ql_ast.specs.declared.selection.Selection.{Selection}
use Rattle.n1ql_ast.specs.Conjunction.{conjuncts_in}
use Rattle.index_def.specs.declared.definition.IndexDef.{IndexDef}
use Rattle.index_def.specs.Forms.{IsFormed}
use Rattle.index_def.specs.Reasons.{is_array}
use Rattle.index_tree.specs.Range.{rows_within}
use Rattle.vb_store.specs.declared.mutation.Mutation.{Mutation}
use Rattle.vb_store.specs.Documents.{documents_at}
use Rattle.index_snapshot.specs.declared.snapshot.Snapshot.{Snapshot}
use Rattle.index_snapshot.specs.Stands.{SnapshotStands}
use Rattle.n1ql_spans.specs.declared.fits.Fit.{Fit}
use Rattle.n1ql_spans.specs.Fits.{fit_of}
use Rattle.n1ql_spans.specs.Spans.{spans_of}
use Rattle.n1ql_plan.specs.declared.query_plan.Plan.{Plan}
use Rattle.n1ql_meaning.specs.Finish.{finished}
use Rattle.n1ql_meaning.specs.Groups.{is_grouped}
use Rattle.n1ql_meaning.specs.Meaning.{meaning_of, results_of, results_of_rows}
use Rattle.n1ql_meaning.specs.Results.{has, group_whole, placed_result, row_alone}
use Rattle.n1ql_meaning.specs.Groups.{groups_of}
use Rattle.n1ql_meaning.specs.Rows.{InputRow, rows_from}
use Rattle.n1ql_covered.specs.OverKeys.{over_index}
use Rattle.n1ql_covered.specs.ShownRows.{row_shown, rows_from_index, rows_in}
use Rattle.query_run.specs.Plans.{IsCoveringPlan}
use Rattle.query_run.specs.inner.Runs.{by_id, plain_results, results_over, results_with, statement_for}
use Rattle.query_run.proofs.ById.{RowLaws, rows_by_documents}

-- what the crate of covered statements says of them
pub record CoveredLaws : Type 0 where
  pub some : (def : IndexDef) → IsFormed def → (q : Selection Expr) (fit : Fit) → fit_of q def ≡ Some fit → fit.covered ≡ true
      → (docs : List (List ℕ × Value)) (row : InputRow) (rows : List InputRow) → rows_from_index q def docs ≡ row ∷ rows
      → results_of_rows (over_index q def) (row ∷ rows) ≡ results_of q docs
  pub none : (def : IndexDef) → IsFormed def → (q : Selection Expr) (fit : Fit) → fit_of q def ≡ Some fit → fit.covered ≡ true
      → (docs : List (List ℕ × Value)) → rows_from_index q def docs ≡ [] → results_of_rows q [] ≡ results_of q docs
  pub plain : (def : IndexDef) (q : Selection Expr) (fit : Fit) → fit_of q def ≡ Some fit → fit.covered ≡ true → list_any is_array def.keys ≡ false
  pub grouped : (def : IndexDef) → IsFormed def → (q : Selection Expr) → is_grouped (over_index q def) ≡ is_grouped q

each_after : {A B C : Type 0} (f : A → B) (g : B → C) (xs : List A) → map g (map f xs) ≡ map (λ x. g (f x)) xs
each_after f g [] = refl
each_after f g (x ∷ xs) = ap (λ ys. g (f x) ∷ ys) (each_after f g xs)

-- without groups each row stands for itself
plain_is : (q : Selection Expr) → is_grouped q ≡ false → (rows : List InputRow) → plain_results q rows ≡ results_of_rows q rows
plain_is q ungrouped rows =
    ap (finished q) (sym (each_after row_alone (placed_result q) rows))
    ∙ ap (λ b. finished q (map (placed_result q) (cond b (filter (has q.having) (map group_whole (groups_of q.groups rows))) (map row_alone rows)))) (sym ungrouped)

module _ (laws : CoveredLaws) (def : IndexDef) (formed : IsFormed def) (q : Selection Expr) (ungrouped : is_grouped q ≡ false)
    (fit : Fit) (fits : fit_of q def ≡ Some fit) (covers : fit.covered ≡ true) (docs : List (List ℕ × Value)) where
  over_ungrouped : is_grouped (over_index q def) ≡ false
  over_ungrouped = laws.grouped def formed q ∙ ungrouped

  -- on the rows that there are
  run : (rows : List InputRow) → rows_from_index q def docs ≡ rows → plain_results (statement_for q (over_index q def) rows) rows ≡ results_of q docs
  run [] is = plain_is q ungrouped [] ∙ laws.none def formed q fit fits covers docs is
  run (row ∷ rows) is = plain_is (over_index q def) over_ungrouped (row ∷ rows) ∙ laws.some def formed q fit fits covers docs row rows is

pub answered : RowLaws → CoveredLaws → (plan : Plan) (q : Selection Expr) (s : Snapshot) → is_grouped q ≡ false → IsFormed (arc_value s.def)
    → IsCoveringPlan plan q (arc_value s.def) → (n : ℕ) (log : List Mutation) → SnapshotStands n log s
    → results_over q (arc_value s.def) (sort_of by_id (rows_within plan.spans s.rows)) ≡ meaning_of q (documents_at log (arc_value s.vector))
answered rows laws plan q s ungrouped formed planned n log stands =
    let def : IndexDef = arc_value s.def in
    let docs : Documents = documents_at log (arc_value s.vector) in
    ap (λ spans. results_over q def (sort_of by_id (rows_within spans s.rows))) planned.spans
    ∙ (ap (λ all. results_over q def (sort_of by_id (rows_within (spans_of (conjuncts_in q.filter) def) all))) stands.rows
    ∙ (ap (results_over q def) (rows_by_documents rows def (laws.plain def q planned.fit planned.fits planned.covers) (spans_of (conjuncts_in q.filter) def) docs)
    ∙ run laws def formed q ungrouped planned.fit planned.fits planned.covers (finite.entries docs) (rows_from_index q def (finite.entries docs)) refl))
