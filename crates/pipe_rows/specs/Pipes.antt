-- What the types of this crate stand for.
use Rattle.std.specs.Prelude.{ℕ, List, [], ◌∷◌, map, reverse, None, Some}
use Rattle.std.specs.Arc.{arc_value}
use Rattle.n1ql_value.specs.declared.datum.Datum.{Datum}
use Rattle.n1ql_value.specs.declared.datum.Datum.TheVariants as datum
use Rattle.n1ql_value.specs.declared.value.Value.{Value}
use Rattle.n1ql_ast.specs.Evaluation.{Environment, on_document}
use Rattle.n1ql_meaning.specs.Results.{PlacedResult, Subject}
use Rattle.n1ql_meaning.specs.Rows.{InputRow}
use Rattle.pipe_rows.specs.declared.element.Element.{Element}
use Rattle.pipe_rows.specs.declared.input.Input.{Input}
use Rattle.pipe_rows.specs.declared.out.Out.{Out}
use Rattle.pipe_rows.specs.declared.pipe_row.PipeRow.{PipeRow}

-- an input by itself
abbrev pub input_row : Input → InputRow
input_row input = record { env = on_document input.id input.doc input.keys; base = datum.Text input.id ∷ [] }

-- the name that an element is bound to, with its value, and its place
abbrev pub bound_pair : Element → List ℕ × Value
bound_pair e = (e.name.now, arc_value e.value)

abbrev pub place_in : Element → Datum
place_in e = datum.Int e.place

-- an input with these elements, the first UNNEST's first
abbrev pub row_with : Input → List Element → InputRow
row_with input es = record {
  env = record { id = Some input.id; doc = input.doc; keys = input.keys; bound = reverse (map bound_pair es) };
  base = datum.Text input.id ∷ map place_in es;
}

abbrev pub row_of : PipeRow → InputRow
row_of row = row_with row.input.now row.elements.items

-- what gives a result by itself, where only its environment matters
abbrev pub alone : Environment → Subject
alone env = record { env = env; group = None; base = [] }

abbrev pub placed : Out → PlacedResult
placed o = record { result = o.result; order = o.order; base = o.base }
