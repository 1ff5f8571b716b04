use Rattle.std.proofs.Common.{ap, sym, ◌∙◌, List, ℕ, map}
use Rattle.n1ql_value.specs.declared.datum.Datum.{Datum}
use Rattle.n1ql_value.specs.declared.datum.Datum.TheVariants as datum
use Rattle.n1ql_value.specs.declared.value.Value.TheVariants.{Array}
use Rattle.n1ql_value.specs.FunctionValues.{names_of}
use Rattle.n1ql_funcs.proofs.Read.{names_told}
use Rattle.n1ql_funcs.proofs.calls.object_names.Goals as goal

pub returns-in_ok-names-in-Object : goal.returns-in_ok-names-in-Object
returns-in_ok-names-in-Object c =
    ap Array (c.in_ok-names-in-Object.ensures ∙ (names_told c.as_slice.result.now ∙ ap (map (λ (p : List ℕ × Datum). datum.Text p.0)) c.as_slice.ensures.pairs))
    ∙ sym (ap names_of c.in-Object.is)
