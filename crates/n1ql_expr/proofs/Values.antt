-- Values and the trees that contracts see of them inside other values.
use Rattle.std.proofs.Common.{◌≡◌, ◌<◌, ℕ, zero, suc, List, [], ◌∷◌, ◌++◌, length, get_or, map, take, Option, Some, None, slice_get, refl, sym, ap, ◌∙◌, arith}
use Rattle.std.specs.List.{fold, zip}
use Rattle.std.specs.Option.{option_map}
use Rattle.n1ql_value.specs.declared.datum.Datum.{Datum}
use Rattle.n1ql_value.specs.declared.datum.Datum.TheVariants as datum
use Rattle.n1ql_value.specs.declared.value.Value.{Value}
use Rattle.n1ql_value.specs.Datum.{datum_of, pair_of, value_of, value_with, value_of-datum_of}
use Rattle.n1ql_value.specs.Collation.{key_at}
use Rattle.n1ql_value.specs.Constructors.{with_given}
use Rattle.n1ql_value.specs.Kinds.{or_missing}

pub read_back : (v : Value) → value_of (datum_of v) ≡ v
read_back v = value_of-datum_of v

value_in : (found : Option Value) → option_map value_of (option_map datum_of found) ≡ found
value_in None = refl
value_in (Some v) = ap Some (value_of-datum_of v)

key_read : (ks : List Datum) (place : ℕ) → or_missing (option_map value_of (slice_get ks place)) ≡ value_of (key_at ks place)
key_read [] place = sym (ap value_with datum.outs-Missing)
key_read (k ∷ ks) zero = refl
key_read (k ∷ ks) (suc place) = key_read ks place

-- a place past the keys reads MISSING
pub key_found : (found : Option Value) (ks : List Datum) (place : ℕ) → option_map datum_of found ≡ slice_get ks place → or_missing found ≡ value_of (key_at ks place)
key_found found ks place e = ap or_missing (sym (value_in found)) ∙ (ap (λ told. or_missing (option_map value_of told)) e ∙ key_read ks place)

-- pairs of names and values, one more each time
more_given : (ps : List (List ℕ × Datum)) (ns : List (List ℕ)) (vs : List Value) (v : Value) (n : List ℕ) → length vs < length ns → n ≡ get_or ns (length vs) n
    → with_given (fold with_given ps (zip (take (length vs) ns) (map datum_of vs))) (pair_of (n, v)) ≡ fold with_given ps (zip (take (suc (length vs)) ns) (map datum_of (vs ++ v ∷ [])))
more_given ps [] vs v n h e = absurd (omega arith)
more_given ps (m ∷ ns) [] v n h e = ap (λ k. with_given ps (pair_of (k, v))) e
more_given ps (m ∷ ns) (w ∷ vs) v n h e = more_given (with_given ps (pair_of (m, w))) ns vs v n (omega arith) e

pub given_more : (ns : List (List ℕ)) (vs : List Value) (v : Value) (n : List ℕ) (i j : ℕ) → i ≡ length vs → j ≡ suc (length vs) → i < length ns → n ≡ get_or ns i n
    → with_given (fold with_given [] (zip (take i ns) (map datum_of vs))) (pair_of (n, v)) ≡ fold with_given [] (zip (take j ns) (map datum_of (vs ++ v ∷ [])))
given_more ns vs v n i j i_is j_is h e = rw (i_is, j_is) (more_given [] ns vs v n (rw i_is at h) (rw i_is at e))
