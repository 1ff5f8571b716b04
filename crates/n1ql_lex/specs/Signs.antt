-- Signs, the longest one at the front.
use Rattle.std.specs.Prelude.{ℕ, Bool, ◌==◌, List, [], ◌∷◌, codes, if◌then◌else◌}
use Rattle.std.specs.List.{list_any}
use Rattle.std.specs.Str.{bytes_eq}

abbrev pub signs_of_one : List ℕ
signs_of_one = codes "()[]{},.:+-*%=<>"

abbrev pub signs_of_two : List (List ℕ)
signs_of_two = codes "==" ∷ codes "!=" ∷ codes "<>" ∷ codes "<=" ∷ codes ">=" ∷ codes "||" ∷ []

abbrev pub is_sign : ℕ → Bool
is_sign b = list_any (λ sign. sign == b) signs_of_one

abbrev pub is_sign_of_two : ℕ → ℕ → Bool
is_sign_of_two a b = list_any (λ sign. bytes_eq sign (a ∷ b ∷ [])) signs_of_two

-- the sign at the front, of two bytes where it can be, or none
unfoldable pub sign_of : List ℕ → List ℕ
sign_of [] = []
sign_of (a ∷ []) = if is_sign a then a ∷ [] else []
sign_of (a ∷ b ∷ bytes) = if is_sign_of_two a b then a ∷ b ∷ [] else (if is_sign a then a ∷ [] else [])
