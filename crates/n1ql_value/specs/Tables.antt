-- What most operators and functions have in common: MISSING of an operand that is MISSING, and NULL of one that is of another
-- kind than the operator takes.
use Rattle.std.specs.Prelude.{Bool, ◌||◌, Option, if◌then◌else◌}
use Rattle.std.specs.Option.{option_map, option_zip}
use Rattle.n1ql_value.specs.declared.value.Value.{Value}
use Rattle.n1ql_value.specs.declared.value.Value.TheVariants.{Missing}
use Rattle.n1ql_value.specs.Kinds.{is_missing, or_null}

-- one of two operands is so
abbrev pub either : (Value → Bool) → Value → Value → Bool
either so a b = so a || so b

-- of one operand, that holds what the operator takes
abbrev pub on_kind : {A : Type 0} → (Value → Option A) → (A → Value) → Value → Value
on_kind held f v = (if is_missing v then Missing else or_null (option_map f (held v)))

-- of two operands, that both hold what the operator takes
abbrev pub on_kinds : {A : Type 0} → (Value → Option A) → (A → A → Value) → Value → Value → Value
on_kinds {A = A} held f a b = (if either is_missing a b then Missing else or_null (option_map (λ (p : A × A). f p.0 p.1) (option_zip (held a) (held b))))
