-- Values in which MISSING stands somewhere.
use Rattle.std.specs.Prelude.{List, [], ◌∷◌, Bool, true, false, ◌||◌, map}
use Rattle.n1ql_value.specs.declared.datum.Datum.{Datum, fold-Datum}
use Rattle.n1ql_value.specs.declared.datum.Datum.TheOpen.{Datum-F}

-- some of the tests are true
abbrev pub some_true : List Bool → Bool
some_true [] = false
some_true (b ∷ bs) = b || some_true bs

abbrev pub missing_in_layer : Datum-F Bool → Bool
missing_in_layer Datum-F.Missing = true
missing_in_layer Datum-F.Null = false
missing_in_layer (Datum-F.Bool b) = false
missing_in_layer (Datum-F.Int z) = false
missing_in_layer (Datum-F.Text t) = false
missing_in_layer (Datum-F.Array bs) = some_true bs
missing_in_layer (Datum-F.Object ps) = some_true (map (λ p. p.1) ps)

-- MISSING stands somewhere in the value, at whatever depth
abbrev pub has_missing : Datum → Bool
has_missing = fold-Datum Bool missing_in_layer
