use Rattle.std.proofs.Common.{◌≡◌, ◌++◌, ap, ◌∙◌, List, ℕ}
use Rattle.json.specs.Print.{quoted}
use Rattle.serde_json.specs.Written.{compact_text}
use Rattle.n1ql_value.specs.declared.value.Value.TheVariants.{Text}
use Rattle.n1ql_value.specs.Datum.{datum_of, out_datum_of}
use Rattle.n1ql_json.specs.Json.{text_of, json_of, json_layer}
use Rattle.serde_json.specs.Data.{Data}
use Rattle.n1ql_value.specs.declared.datum.Datum.{Datum}
use Rattle.n1ql_value.specs.declared.datum.Datum.TheFolds.{map-Datum, fold_out-Datum}
use Rattle.script_text.proofs.reporting.text.put_string.Goals as goal

text_of-text : (t : List ℕ) → text_of (datum_of (Text t)) ≡ quoted t
text_of-text t =
    ap compact_text (fold_out-Datum Data json_layer (datum_of (Text t)) ∙ ap (λ d. json_layer (map-Datum Datum Data json_of d)) (out_datum_of (Text t)))

pub returns : goal.returns
returns c =
    let quotes = text_of-text c.in_ok-copy.field-0 ∙ ap quoted c.in_ok-copy.ensures in
    c.in_ok-write.ensures.ok ∙ ap (λ (s : List ℕ). c.args.out.now.items ++ s) quotes
