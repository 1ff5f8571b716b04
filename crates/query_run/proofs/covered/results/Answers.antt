use Rattle.std.proofs.Common.{◌≡◌, map, rules, ap, ◌∙◌}
use Rattle.std.specs.Arc.{arc_value}
use Rattle.std.proofs.lemmas.Result.{IfOk-weaker}
use Rattle.sorted_lists.specs.SortedLists.{sort_of}
use Rattle.n1ql_value.specs.Datum.{datum_of}
use Rattle.index_tree.specs.Range.{rows_within}
use Rattle.query_run.specs.inner.Runs.{by_id, results_over}
use Rattle.query_run.proofs.covered.results.Goals as goal

pub returns : goal.returns
returns c =
    let q = c.args.q.now in
    let s = c.args.s.now in
    let rows : c.in_ok-rows.rows ≡ sort_of by_id (rows_within c.args.plan.now.spans s.rows) = search rules in
    IfOk-weaker c.results_over.result _ _
    (λ vs h n log stands.
    h
    ∙ (ap (λ def. map datum_of (results_over q def c.in_ok-rows.rows)) c.deref.ensures
    ∙ (ap (λ rs. map datum_of (results_over q (arc_value s.def) rs)) rows
    ∙ ap (map datum_of) (c.covered_rows_give_the_meaning.ensures c.args.plan.now q s c.requires.ungrouped c.requires.definition c.requires.planned n log stands))))
    c.results_over.ensures
