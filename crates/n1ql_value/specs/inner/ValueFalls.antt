-- What stands inside a value nests less deep than it.
use Rattle.std.specs.Prelude.{◌≤◌, ℕ, max, List, [], ◌∷◌, map}
use Rattle.std.proofs.Common.{arith}
use denote.Param.Weighed.{most}
use Rattle.n1ql_value.specs.declared.text.Text.{Text as Bytes}
use Rattle.n1ql_value.specs.declared.datum.Datum.{Datum}
use Rattle.n1ql_value.specs.declared.value.Value.{Value}
use Rattle.n1ql_value.specs.declared.value.Value.TheVariants.{Missing, Null, Bool, Int, Text, Array, Object}
use Rattle.n1ql_value.specs.declared.pairs.Pairs.TheDeep.{deep-Value}
use Rattle.n1ql_value.specs.Datum.{datum_of}
use Rattle.n1ql_value.specs.Depth.{largest, depth, depth-array, depth-object}

pub deep_le-depth : (v : Value) → deep-Value v ≤ depth (datum_of v)
deep_le-depth Missing = omega arith
deep_le-depth Null = omega arith
deep_le-depth (Bool b) = omega arith
deep_le-depth (Int z) = omega arith
deep_le-depth (Text t) = omega arith
deep_le-depth (Array ds) = omega (arith, depth-array ds)
deep_le-depth (Object ps) = omega (arith, depth-object ps)

pub most_le-items : (vs : List Value) → max (most deep-Value vs) 0 ≤ largest (map depth (map datum_of vs))
most_le-items [] = omega arith
most_le-items (v ∷ vs) = omega (arith, deep_le-depth v, most_le-items vs)

pub most_le-pairs : (es : List (Bytes × Value)) → max (most (λ (e : Bytes × Value). max 0 (max (deep-Value e.1) 0)) es) 0 ≤ largest (map (λ (p : List ℕ × Datum). depth p.1) (map (λ (e : Bytes × Value). (e.0, datum_of e.1)) es))
most_le-pairs [] = omega arith
most_le-pairs (e ∷ es) = omega (arith, deep_le-depth e.1, most_le-pairs es)
