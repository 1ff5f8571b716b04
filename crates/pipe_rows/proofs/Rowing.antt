-- Rows with one more element.
use Rattle.std.proofs.Common.{◌≡◌, ℕ, pos, List, [], ◌∷◌, ◌++◌, map, reverse, Some, ap, ap₂, ◌∙◌}
use Rattle.std.specs.Arc.{arc_value}
use Rattle.std.proofs.lemmas.List.{map-append, reverse-append}
use Rattle.n1ql_value.specs.declared.datum.Datum.{Datum}
use Rattle.n1ql_value.specs.declared.datum.Datum.TheVariants as datum
use Rattle.n1ql_value.specs.declared.value.Value.{Value}
use Rattle.n1ql_meaning.specs.Rows.{InputRow, with_element}
use Rattle.pipe_rows.specs.declared.element.Element.{Element}
use Rattle.pipe_rows.specs.declared.input.Input.{Input}
use Rattle.pipe_rows.specs.Pipes.{bound_pair, place_in, row_with}

bound_more : (es more : List Element) (e : Element) → map bound_pair more ≡ map bound_pair es
    → reverse (map bound_pair (more ++ e ∷ [])) ≡ bound_pair e ∷ reverse (map bound_pair es)
bound_more es more e h =
    ap reverse (map-append bound_pair more (e ∷ []))
    ∙ (reverse-append (map bound_pair more) (bound_pair e ∷ []) ∙ ap (λ ps. bound_pair e ∷ reverse ps) h)

places_more : (es more : List Element) (e : Element) → map place_in more ≡ map place_in es
    → map place_in (more ++ e ∷ []) ≡ map place_in es ++ place_in e ∷ []
places_more es more e h = map-append place_in more (e ∷ []) ∙ ap (λ ps. ps ++ place_in e ∷ []) h

abbrev row_made : Input → List (List ℕ × Value) → List Datum → InputRow
row_made input bound base =
    record { env = record { id = Some input.id; doc = input.doc; keys = input.keys; bound = bound }; base = base }

pub row_more : (input : Input) (es more : List Element) (e : Element) (n : ℕ) → map bound_pair more ≡ map bound_pair es
    → map place_in more ≡ map place_in es → e.place ≡ pos n
    → row_with input (more ++ e ∷ []) ≡ with_element e.name.now (row_with input es) n (arc_value e.value)
row_more input es more e n h k p =
    ap₂ (row_made input) (bound_more es more e h)
    (ap (λ ds. datum.Text input.id ∷ ds) (places_more es more e k ∙ ap (λ z. map place_in es ++ datum.Int z ∷ []) p))
