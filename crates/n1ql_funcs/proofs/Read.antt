-- What is read out of lists of values, which contracts see as lists of plain trees.
use Rattle.std.proofs.Common.{◌≡◌, ◌<◌, ℕ, zero, suc, List, [], ◌∷◌, length, get_or, map, refl, sym, ap, arith}
use Rattle.n1ql_value.specs.declared.datum.Datum.{Datum}
use Rattle.n1ql_value.specs.declared.datum.Datum.TheVariants as datum
use Rattle.n1ql_value.specs.declared.value.Value.{Value}
use Rattle.n1ql_value.specs.declared.text.Text.{Text as Bytes}
use Rattle.n1ql_value.specs.Datum.{datum_of, pair_of, value_of, value_of-datum_of}
use Rattle.n1ql_value.specs.Collation.{key_at}

pub argument_at : (vs : List Value) (place : ℕ) (d : Value) → place < length vs → get_or vs place d ≡ value_of (key_at (map datum_of vs) place)
argument_at [] place d h = absurd (omega arith)
argument_at (v ∷ vs) zero d h = sym (value_of-datum_of v)
argument_at (v ∷ vs) (suc place) d h = argument_at vs place d (omega arith)

-- the names of pairs
pub names_told : (es : List (Bytes × Value)) → map (λ (e : Bytes × Value). datum.Text e.0) es ≡ map (λ (p : List ℕ × Datum). datum.Text p.0) (map pair_of es)
names_told [] = refl
names_told (e ∷ es) = ap (λ ds. datum.Text e.0 ∷ ds) (names_told es)
