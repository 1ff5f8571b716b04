-- Members and items as the program holds them: lists of values.
use Rattle.std.proofs.Common.{◌≡◌, ℕ, List, [], ◌∷◌, Bool, map, Option, Some, None, option_map, unwrap_or, refl, ap, ap₂, sym, ◌∙◌}
use Rattle.std.specs.Prelude.{◌&&◌}
use Rattle.std.specs.List.{list_all}
use Rattle.n1ql_value.specs.declared.text.Text.{Text as Bytes}
use Rattle.n1ql_value.specs.declared.value.Value.{Value}
use Rattle.n1ql_value.specs.Datum.{datum_of, pair_of, value_of, value_of-datum_of}
use Rattle.n1ql_value.specs.declared.datum.Datum.{Datum}
use Rattle.n1ql_value.specs.Names.{under_name}
use Rattle.script_text.specs.Members.{Members, value_at, each_member, each_item}

pub each_member-entries : (test : List ℕ → Value → Bool) (entries : List (Bytes × Value)) → list_all (λ e. test e.0 e.1) entries ≡ each_member test (map pair_of entries)
each_member-entries test [] = refl
each_member-entries test (e ∷ entries) =
    ap₂ (λ (a b : Bool). a && b) (ap (test e.0) (sym (value_of-datum_of e.1))) (each_member-entries test entries)

pub each_item-values : (test : Value → Bool) (values : List Value) → list_all test values ≡ each_item test (map datum_of values)
each_item-values test [] = refl
each_item-values test (v ∷ values) = ap₂ (λ (a b : Bool). a && b) (ap test (sym (value_of-datum_of v))) (each_item-values test values)

-- the same of the members and the items that a call gave
pub member_answer : (test : List ℕ → Value → Bool) (entries : List (Bytes × Value)) (members : Members) (r : Bool)
    → r ≡ list_all (λ e. test e.0 e.1) entries → map pair_of entries ≡ members → r ≡ each_member test members
member_answer test entries members r e is = e ∙ (each_member-entries test entries ∙ ap (each_member test) is)

pub item_answer : (test : Value → Bool) (values : List Value) (items : List Datum) (r : Bool)
    → r ≡ list_all test values → map datum_of values ≡ items → r ≡ each_item test items
item_answer test values items r e is = e ∙ (each_item-values test values ∙ ap (each_item test) is)

-- the member of the program is the member of the definition
pub value_at-found : (found : Option Value) (name : List ℕ) (members : Members) → option_map datum_of found ≡ under_name name members → found ≡ value_at name members
value_at-found None name members e = ap (option_map value_of) e
value_at-found (Some v) name members e = sym (ap Some (value_of-datum_of v)) ∙ ap (option_map value_of) e

-- so is the value that is taken out
pub value_at-taken : (found : Option Value) (name : List ℕ) (members : Members) (other : Value) → option_map datum_of found ≡ under_name name members
    → unwrap_or found other ≡ unwrap_or (value_at name members) other
value_at-taken found name members other e = ap (λ (o : Option Value). unwrap_or o other) (value_at-found found name members e)
