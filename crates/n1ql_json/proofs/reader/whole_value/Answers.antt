use Rattle.std.proofs.Common.{◌≡◌, Some, option_and_then, sym, ap, ◌∙◌}
use Rattle.std.proofs.lemmas.Result.{IfOk-weaker}
use Rattle.json.specs.Json.{if_last, value}
use Rattle.json.specs.Lex.{tokens}
use Rattle.json.specs.Value.{value_view}
use Rattle.n1ql_value.specs.Datum.{datum_of}
use Rattle.serde_json.specs.Read.{max_depth}
use Rattle.n1ql_json.proofs.Trees.{whole_read}
use Rattle.n1ql_json.proofs.reader.whole_value.Goals as goal

pub returns-in_ok-tree-in-Ok : goal.returns-in_ok-tree-in-Ok
returns-in_ok-tree-in-Ok c =
    let tree = c.in_ok-tree-in-Ok in
    let read : option_and_then (λ p. if_last p.0 p.1) (value max_depth (tokens c.args.bytes.now)) ≡ Some (value_view tree.tree) =
    ap (λ text. option_and_then (λ p. if_last p.0 p.1) (value max_depth (tokens text))) (sym c.in-Ok.ensures.cases.0) ∙ tree.ensures in
    IfOk-weaker c.value_of.result _ _ (λ v h. whole_read c.args.bytes.now (value_view tree.tree) (datum_of v) c.in-Ok.ensures.cases.1 read h) c.value_of.ensures
