-- The order of values by cases on two values.
use Rattle.std.specs.Prelude.{◌≡◌, ◌≢◌, ◌≤◌, ℕ, ℤ, true, false, List, length, refl}
use Rattle.std.proofs.Common.{sym, ap, ◌∙◌, arith}
use Rattle.std.specs.Ordering.{nat_cmp, int_cmp, ordering_then}
use Rattle.std.specs.declared.cmp.Ordering.{Ordering}
use Rattle.std.specs.declared.cmp.Ordering.TheVariants.{Less, Equal, Greater}
use Rattle.std.specs.Cmp.Lexicographic.{slice_cmp}
use Rattle.n1ql_value.specs.declared.datum.Datum.{Datum}
use Rattle.n1ql_value.specs.declared.value.Value.{Value}
use Rattle.n1ql_value.specs.declared.value.Value.TheVariants.{Missing, Null, Int, Text, Array, Object}
use Rattle.n1ql_value.specs.declared.value.Value.TheVariants as value
use Rattle.n1ql_value.specs.Datum.{datum_of, layer_of, out_datum_of}
use Rattle.n1ql_value.specs.Collation.{pair_cmp, layer_cmp, value_cmp}
use Rattle.n1ql_value.specs.inner.CollationByCases.{value_cmp-by_layer}
use Rattle.n1ql_value.specs.inner.CollationLaws.{nat_cmp-exact}
use Rattle.n1ql_value.specs.inner.Rank.{rank_of}

pub value_cmp-layers : (a b : Value) → value_cmp (datum_of a) (datum_of b) ≡ layer_cmp value_cmp (layer_of a) (layer_of b)
value_cmp-layers a b = value_cmp-by_layer (datum_of a) (datum_of b) ∙ cc (out_datum_of a, out_datum_of b)

then_nothing : (o : Ordering) → ordering_then o Equal ≡ o
then_nothing Less = refl
then_nothing Equal = refl
then_nothing Greater = refl

pub numbers_by_value : (y z : ℤ) → value_cmp (datum_of (Int y)) (datum_of (Int z)) ≡ int_cmp y z
numbers_by_value y z = value_cmp-layers (Int y) (Int z) ∙ then_nothing (int_cmp y z)

pub strings_by_bytes : (s t : List ℕ) → value_cmp (datum_of (Text s)) (datum_of (Text t)) ≡ slice_cmp nat_cmp s t
strings_by_bytes s t = value_cmp-layers (Text s) (Text t) ∙ then_nothing (slice_cmp nat_cmp s t)

pub arrays_by_elements : (ds es : List Datum) → value_cmp (datum_of (Array ds)) (datum_of (Array es)) ≡ slice_cmp value_cmp ds es
arrays_by_elements ds es = value_cmp-layers (Array ds) (Array es) ∙ then_nothing (slice_cmp value_cmp ds es)

-- by the number of names, then by the pairs
pub objects_by_pairs : (ps qs : List (List ℕ × Datum)) → value_cmp (datum_of (Object ps)) (datum_of (Object qs)) ≡ ordering_then (nat_cmp (length ps) (length qs)) (slice_cmp (pair_cmp value_cmp) ps qs)
objects_by_pairs ps qs = value_cmp-layers (Object ps) (Object qs)

then_unless_equal : (o p : Ordering) → o ≢ Equal → ordering_then o p ≡ o
then_unless_equal Less p h = refl
then_unless_equal Equal p h = absurd (h refl)
then_unless_equal Greater p h = refl

-- values of two types go by their types
pub types_by_rank : (a b : Value) → rank_of a ≢ rank_of b → value_cmp (datum_of a) (datum_of b) ≡ nat_cmp (rank_of a) (rank_of b)
types_by_rank a b apart = value_cmp-layers a b ∙ then_unless_equal (nat_cmp (rank_of a) (rank_of b)) _ (λ e. apart (nat_cmp-exact (rank_of a) (rank_of b) e))

plain_layers : (a b : Value) → rank_of a ≤ 3 → layer_cmp value_cmp (layer_of a) (layer_of b) ≡ nat_cmp (rank_of a) (rank_of b)
plain_layers Missing Missing h = refl
plain_layers Missing Null h = refl
plain_layers Missing (value.Bool false) h = refl
plain_layers Missing (value.Bool true) h = refl
plain_layers Missing (Int z) h = refl
plain_layers Missing (Text t) h = refl
plain_layers Missing (Array ds) h = refl
plain_layers Missing (Object ps) h = refl
plain_layers Null Missing h = refl
plain_layers Null Null h = refl
plain_layers Null (value.Bool false) h = refl
plain_layers Null (value.Bool true) h = refl
plain_layers Null (Int z) h = refl
plain_layers Null (Text t) h = refl
plain_layers Null (Array ds) h = refl
plain_layers Null (Object ps) h = refl
plain_layers (value.Bool false) Missing h = refl
plain_layers (value.Bool false) Null h = refl
plain_layers (value.Bool false) (value.Bool false) h = refl
plain_layers (value.Bool false) (value.Bool true) h = refl
plain_layers (value.Bool false) (Int z) h = refl
plain_layers (value.Bool false) (Text t) h = refl
plain_layers (value.Bool false) (Array ds) h = refl
plain_layers (value.Bool false) (Object ps) h = refl
plain_layers (value.Bool true) Missing h = refl
plain_layers (value.Bool true) Null h = refl
plain_layers (value.Bool true) (value.Bool false) h = refl
plain_layers (value.Bool true) (value.Bool true) h = refl
plain_layers (value.Bool true) (Int z) h = refl
plain_layers (value.Bool true) (Text t) h = refl
plain_layers (value.Bool true) (Array ds) h = refl
plain_layers (value.Bool true) (Object ps) h = refl
plain_layers _ b h = absurd (omega arith)

-- MISSING, NULL, FALSE and TRUE stand for themselves
pub plain_by_rank : (a b : Value) → rank_of a ≤ 3 → value_cmp (datum_of a) (datum_of b) ≡ nat_cmp (rank_of a) (rank_of b)
plain_by_rank a b h = value_cmp-layers a b ∙ plain_layers a b h

number_by_rank : (b : Value) → 4 ≡ rank_of b → (x : ℤ) × (b ≡ Int x)
number_by_rank Missing e = absurd (omega arith)
number_by_rank Null e = absurd (omega arith)
number_by_rank (value.Bool false) e = absurd (omega arith)
number_by_rank (value.Bool true) e = absurd (omega arith)
number_by_rank (Int z) e = (z, refl)
number_by_rank (Text t) e = absurd (omega arith)
number_by_rank (Array ds) e = absurd (omega arith)
number_by_rank (Object ps) e = absurd (omega arith)

-- a number against a value of another type
pub number_apart : (a b : Value) (x : ℤ) → a ≡ Int x → ((y : ℤ) → b ≡ Int y → ⊥) → value_cmp (datum_of a) (datum_of b) ≡ nat_cmp (rank_of a) (rank_of b)
number_apart a b x is not = types_by_rank a b (λ e. let found = number_by_rank b (sym (ap rank_of is) ∙ e) in not found.0 found.1)

string_by_rank : (b : Value) → 5 ≡ rank_of b → (x : List ℕ) × (b ≡ Text x)
string_by_rank Missing e = absurd (omega arith)
string_by_rank Null e = absurd (omega arith)
string_by_rank (value.Bool false) e = absurd (omega arith)
string_by_rank (value.Bool true) e = absurd (omega arith)
string_by_rank (Int z) e = absurd (omega arith)
string_by_rank (Text t) e = (t, refl)
string_by_rank (Array ds) e = absurd (omega arith)
string_by_rank (Object ps) e = absurd (omega arith)

-- a string against a value of another type
pub string_apart : (a b : Value) (x : List ℕ) → a ≡ Text x → ((y : List ℕ) → b ≡ Text y → ⊥) → value_cmp (datum_of a) (datum_of b) ≡ nat_cmp (rank_of a) (rank_of b)
string_apart a b x is not = types_by_rank a b (λ e. let found = string_by_rank b (sym (ap rank_of is) ∙ e) in not found.0 found.1)

array_by_rank : (b : Value) → 6 ≡ rank_of b → (x : List Datum) × (b ≡ Array x)
array_by_rank Missing e = absurd (omega arith)
array_by_rank Null e = absurd (omega arith)
array_by_rank (value.Bool false) e = absurd (omega arith)
array_by_rank (value.Bool true) e = absurd (omega arith)
array_by_rank (Int z) e = absurd (omega arith)
array_by_rank (Text t) e = absurd (omega arith)
array_by_rank (Array ds) e = (ds, refl)
array_by_rank (Object ps) e = absurd (omega arith)

-- an array against a value of another type
pub array_apart : (a b : Value) (x : List Datum) → a ≡ Array x → ((y : List Datum) → b ≡ Array y → ⊥) → value_cmp (datum_of a) (datum_of b) ≡ nat_cmp (rank_of a) (rank_of b)
array_apart a b x is not = types_by_rank a b (λ e. let found = array_by_rank b (sym (ap rank_of is) ∙ e) in not found.0 found.1)

object_by_rank : (b : Value) → 7 ≡ rank_of b → (x : List (List ℕ × Datum)) × (b ≡ Object x)
object_by_rank Missing e = absurd (omega arith)
object_by_rank Null e = absurd (omega arith)
object_by_rank (value.Bool false) e = absurd (omega arith)
object_by_rank (value.Bool true) e = absurd (omega arith)
object_by_rank (Int z) e = absurd (omega arith)
object_by_rank (Text t) e = absurd (omega arith)
object_by_rank (Array ds) e = absurd (omega arith)
object_by_rank (Object ps) e = (ps, refl)

-- an object against a value of another type
pub object_apart : (a b : Value) (x : List (List ℕ × Datum)) → a ≡ Object x → ((y : List (List ℕ × Datum)) → b ≡ Object y → ⊥) → value_cmp (datum_of a) (datum_of b) ≡ nat_cmp (rank_of a) (rank_of b)
object_apart a b x is not = types_by_rank a b (λ e. let found = object_by_rank b (sym (ap rank_of is) ∙ e) in not found.0 found.1)

is_plain : (a : Value) → ((z : ℤ) → a ≡ Int z → ⊥) → ((t : List ℕ) → a ≡ Text t → ⊥) → ((ds : List Datum) → a ≡ Array ds → ⊥) → ((ps : List (List ℕ × Datum)) → a ≡ Object ps → ⊥) → rank_of a ≤ 3
is_plain Missing n s l o = omega arith
is_plain Null n s l o = omega arith
is_plain (value.Bool false) n s l o = omega arith
is_plain (value.Bool true) n s l o = omega arith
is_plain (Int z) n s l o = absurd (n z refl)
is_plain (Text t) n s l o = absurd (s t refl)
is_plain (Array ds) n s l o = absurd (l ds refl)
is_plain (Object ps) n s l o = absurd (o ps refl)

pub plain_apart : (a b : Value) → ((z : ℤ) → a ≡ Int z → ⊥) → ((t : List ℕ) → a ≡ Text t → ⊥) → ((ds : List Datum) → a ≡ Array ds → ⊥) → ((ps : List (List ℕ × Datum)) → a ≡ Object ps → ⊥) → value_cmp (datum_of a) (datum_of b) ≡ nat_cmp (rank_of a) (rank_of b)
plain_apart a b n s l o = plain_by_rank a b (is_plain a n s l o)
