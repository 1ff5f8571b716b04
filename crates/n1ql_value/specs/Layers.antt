-- One layer of a value: its class, and the parts that a value of its class has. A part that a value doesn't have is empty.
use Rattle.std.specs.Prelude.{ℕ, ℤ, pos, true, false, List, []}
use Rattle.n1ql_value.specs.declared.datum.Datum.TheOpen.{Datum-F}

-- the order of the types: MISSING, NULL, FALSE, TRUE, number, string, array, object
abbrev pub class_of : {A : Type 0} → Datum-F A → ℕ
class_of Datum-F.Missing = 0
class_of Datum-F.Null = 1
class_of (Datum-F.Bool false) = 2
class_of (Datum-F.Bool true) = 3
class_of (Datum-F.Int z) = 4
class_of (Datum-F.Text t) = 5
class_of (Datum-F.Array ds) = 6
class_of (Datum-F.Object ps) = 7

abbrev pub number_of : {A : Type 0} → Datum-F A → ℤ
number_of Datum-F.Missing = pos 0
number_of Datum-F.Null = pos 0
number_of (Datum-F.Bool b) = pos 0
number_of (Datum-F.Int z) = z
number_of (Datum-F.Text t) = pos 0
number_of (Datum-F.Array ds) = pos 0
number_of (Datum-F.Object ps) = pos 0

abbrev pub bytes_of : {A : Type 0} → Datum-F A → List ℕ
bytes_of Datum-F.Missing = []
bytes_of Datum-F.Null = []
bytes_of (Datum-F.Bool b) = []
bytes_of (Datum-F.Int z) = []
bytes_of (Datum-F.Text t) = t
bytes_of (Datum-F.Array ds) = []
bytes_of (Datum-F.Object ps) = []

abbrev pub elements_of : {A : Type 0} → Datum-F A → List A
elements_of Datum-F.Missing = []
elements_of Datum-F.Null = []
elements_of (Datum-F.Bool b) = []
elements_of (Datum-F.Int z) = []
elements_of (Datum-F.Text t) = []
elements_of (Datum-F.Array ds) = ds
elements_of (Datum-F.Object ps) = []

abbrev pub pairs_of : {A : Type 0} → Datum-F A → List (List ℕ × A)
pairs_of Datum-F.Missing = []
pairs_of Datum-F.Null = []
pairs_of (Datum-F.Bool b) = []
pairs_of (Datum-F.Int z) = []
pairs_of (Datum-F.Text t) = []
pairs_of (Datum-F.Array ds) = []
pairs_of (Datum-F.Object ps) = ps
