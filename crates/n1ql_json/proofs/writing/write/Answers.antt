use Rattle.std.proofs.Common.{◌≤◌, ◌++◌, Some, sym, ap, ◌∙◌, subst}
use Rattle.serde_json.specs.Data.{depth as json_depth}
use Rattle.serde_json.specs.Read.{max_depth}
use Rattle.serde_json.specs.Written.{has_float, compact_text}
use Rattle.n1ql_value.specs.Datum.{datum_of}
use Rattle.n1ql_json.proofs.Back.{read_back}
use Rattle.n1ql_json.proofs.Floats.{no_float}
use Rattle.n1ql_json.proofs.writing.write.Goals as goal

pub returns-clause-ok : goal.returns-clause-ok
returns-clause-ok c =
    let free = ap has_float c.in_ok-json.ensures.json ∙ no_float (datum_of c.args.value.now) in
    c.in_ok-extend_from_slice.ensures.items ∙ ap (λ text. c.args.out.now.items ++ text) (c.deref.ensures.value ∙ (c.in_ok-text.ensures.text free ∙ ap compact_text c.in_ok-json.ensures.json))

pub returns-clause-reads_back : goal.returns-clause-reads_back
returns-clause-reads_back c =
    let d = datum_of c.args.value.now in
    let is = c.in_ok-json.ensures.json in
    let free = ap has_float is ∙ no_float d in
    read_back d c.in_ok-text.text.items (c.in_ok-text.ensures.text free ∙ ap compact_text is) c.in_ok-text.ensures.utf8
    (λ shallow. c.in_ok-text.ensures.reads_back (subst (λ j. json_depth j ≤ max_depth) (sym is) shallow) ∙ ap Some is)
    c.in_ok-json.ensures.held
