-- The functions of the language: their names, and how many arguments each takes.
use Rattle.std.specs.Prelude.{ℕ, ◌≤◌, List, [], ◌∷◌, Option, Some, None, find, codes, MatchOption, ⊤}
use Rattle.std.specs.Str.{str_eq_ignore_ascii_case}
use Rattle.n1ql_value.specs.declared.fun.Fun.{Fun}
use Rattle.n1ql_value.specs.declared.fun.Fun.TheVariants.{Abs, ArrayLength, ArrayContains, Contains, Greatest, Least, IfMissing, IfNull, IfMissingOrNull, Length, ObjectNames, ToString, TypeOf}

abbrev pub functions : List Fun
functions =
    Abs ∷ ArrayLength ∷ ArrayContains ∷ Contains ∷ Greatest ∷ Least ∷ IfMissing ∷ IfNull ∷ IfMissingOrNull ∷
    Length ∷ ObjectNames ∷ ToString ∷ TypeOf ∷ []

-- the name of a function, in capitals
abbrev pub name_of : Fun → List ℕ
name_of Abs = codes "ABS"
name_of ArrayLength = codes "ARRAY_LENGTH"
name_of ArrayContains = codes "ARRAY_CONTAINS"
name_of Contains = codes "CONTAINS"
name_of Greatest = codes "GREATEST"
name_of Least = codes "LEAST"
name_of IfMissing = codes "IFMISSING"
name_of IfNull = codes "IFNULL"
name_of IfMissingOrNull = codes "IFMISSINGORNULL"
name_of Length = codes "LENGTH"
name_of ObjectNames = codes "OBJECT_NAMES"
name_of ToString = codes "TOSTRING"
name_of TypeOf = codes "TYPE"

-- the function that a name is without regard to case
unfoldable pub function_of : List ℕ → Option Fun
function_of name = find (λ fun. str_eq_ignore_ascii_case name (name_of fun)) functions

-- the least number of arguments
abbrev pub least_count : Fun → ℕ
least_count Abs = 1
least_count ArrayLength = 1
least_count ArrayContains = 2
least_count Contains = 2
least_count Greatest = 1
least_count Least = 1
least_count IfMissing = 2
least_count IfNull = 2
least_count IfMissingOrNull = 2
least_count Length = 1
least_count ObjectNames = 1
least_count ToString = 1
least_count TypeOf = 1

-- the greatest number of arguments, or none where any number may follow
abbrev pub most_count : Fun → Option ℕ
most_count Abs = Some 1
most_count ArrayLength = Some 1
most_count ArrayContains = Some 2
most_count Contains = Some 2
most_count Greatest = None
most_count Least = None
most_count IfMissing = None
most_count IfNull = None
most_count IfMissingOrNull = None
most_count Length = Some 1
most_count ObjectNames = Some 1
most_count ToString = Some 1
most_count TypeOf = Some 1

-- a function takes this many arguments
abbrev pub TakesCount : Fun → ℕ → Type 0
TakesCount fun n = (least_count fun ≤ n) × MatchOption (most_count fun) ⊤ (λ most. n ≤ most)
