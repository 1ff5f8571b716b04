-- The elements of an array, gone over.
use Rattle.std.proofs.Common.{◌≡◌, ◌<◌, ℕ, zero, suc, length, get_or, drop, Bool, true, false, ◌||◌, List, [], ◌∷◌, map, Option, Some, None, refl, sym, ap, ◌∙◌, if◌then◌else◌, arith}
use Rattle.std.proofs.lemmas.List.{length-map}
use Rattle.std.specs.List.{find, list_any}
use Rattle.std.specs.Option.{is_some, option_copied}
use Rattle.std.proofs.Common.{Bor}
use Rattle.n1ql_value.specs.declared.datum.Datum.{Datum}
use Rattle.n1ql_value.specs.declared.value.Value.{Value}
use Rattle.n1ql_value.specs.declared.value.Value.TheVariants.{Array}
use Rattle.n1ql_value.specs.Datum.{datum_of, value_of, values_of-data_of}
use Rattle.n1ql_value.specs.Kinds.{is_true}
use Rattle.n1ql_ast.specs.declared.expr.Expr.{Expr}
use Rattle.n1ql_ast.specs.Evaluation.{Environment, first_case, over_elements, value_of as value_in, values_in}

pub over_array : (f : List Value → Value) (vs : List Value) (v : Value) (ds : List Datum) → v ≡ Array ds → map datum_of vs ≡ ds → f vs ≡ over_elements f v
over_array f vs v ds is told = ap f (sym (values_of-data_of vs)) ∙ (ap (λ es. f (map value_of es)) told ∙ ap (over_elements f) (sym is))

found_or : (b : Bool) (v : Value) (o : Option Value) (rest : Bool) → is_some o ≡ rest → is_some (if b then Some v else o) ≡ (b || rest)
found_or true v o rest e = refl
found_or false v o rest e = e

some_found : (so : Value → Bool) (vs : List Value) → is_some (find so vs) ≡ list_any so vs
some_found so [] = refl
some_found so (v ∷ vs) = found_or (so v) v (find so vs) (list_any so vs) (some_found so vs)

some_copied : (found : Option (Bor Value)) → is_some found ≡ is_some (option_copied found)
some_copied None = refl
some_copied (Some v) = refl

pub any_found : (so : Value → Bool) (found : Option (Bor Value)) (vs : List Value) → option_copied found ≡ find so vs → is_some found ≡ list_any so vs
any_found so found vs e = some_copied found ∙ (ap is_some e ∙ some_found so vs)

pub values_count : (es : List Expr) (env : Environment) → length (values_in (map value_in es) env) ≡ length es
values_count es env = length-map (map value_in es) (λ (x : Environment → Value). x env) ∙ length-map es value_in

abbrev cases : List Expr → List Expr → Environment → Option Value
cases ws ts env = first_case (values_in (map value_in ws) env) (values_in (map value_in ts) env)

-- a WHEN that isn't TRUE is passed by
case_passed : (ws ts : List Expr) (env : Environment) (i : ℕ) (d : Expr) → i < length ws → i < length ts → is_true (value_in (get_or ws i d) env) ≡ false
    → cases (drop (suc i) ws) (drop (suc i) ts) env ≡ cases (drop i ws) (drop i ts) env
case_passed [] ts env i d h k untrue = absurd (omega arith)
case_passed (w ∷ ws) [] env i d h k untrue = absurd (omega arith)
case_passed (w ∷ ws) (t ∷ ts) env zero d h k untrue = rw untrue refl
case_passed (w ∷ ws) (t ∷ ts) env (suc i) d h k untrue = case_passed ws ts env i d (omega arith) (omega arith) untrue

pub next_case : (ws ts : List Expr) (env : Environment) (i j : ℕ) (d : Expr) → j ≡ suc i → i < length ws → i < length ts → is_true (value_in (get_or ws i d) env) ≡ false
    → cases (drop j ws) (drop j ts) env ≡ cases (drop i ws) (drop i ts) env
next_case ws ts env i j d next h k untrue = rw next (case_passed ws ts env i d h k untrue)
