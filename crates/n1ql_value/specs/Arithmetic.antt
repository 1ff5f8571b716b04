-- Arithmetic on whole numbers of 64 bits, and the joining of strings.
use Rattle.std.specs.Prelude.{ℤ, pos, negsuc, neg_ℤ, ◌+ℤ◌, ◌-ℤ◌, ◌*ℤ◌, ◌^◌, nat_lt, Bool, true, false, ◌++◌, int_rem, if◌then◌else◌}
use Rattle.std.specs.Ordering.{int_eq}
use Rattle.n1ql_value.specs.declared.op.Op.{Op}
use Rattle.n1ql_value.specs.declared.op.Op.TheVariants.{Add, Sub, Mul, Mod}
use Rattle.n1ql_value.specs.declared.value.Value.{Value}
use Rattle.n1ql_value.specs.declared.value.Value.TheVariants.{Null, Int, Text}
use Rattle.n1ql_value.specs.Kinds.{number_in, text_in}
use Rattle.n1ql_value.specs.Tables.{on_kind, on_kinds}

-- a number from -2^63 to 2^63 - 1
abbrev pub is_in_range : ℤ → Bool
is_in_range (pos n) = nat_lt n (2 ^ 63)
is_in_range (negsuc n) = nat_lt n (2 ^ 63)

-- the number, NULL outside the range
abbrev pub number_of : ℤ → Value
number_of z = (if is_in_range z then Int z else Null)

-- one of the four operators on two numbers
abbrev pub is_arithmetic : Op → Bool
is_arithmetic Add = true
is_arithmetic Sub = true
is_arithmetic Mul = true
is_arithmetic Mod = true
is_arithmetic _ = false

-- what the operators make of two numbers; the remainder has the sign of the first, and by 0 it is NULL
abbrev pub result_of : Op → ℤ → ℤ → Value
result_of Add x y = number_of (x +ℤ y)
result_of Sub x y = number_of (x -ℤ y)
result_of Mul x y = number_of (x *ℤ y)
result_of Mod x y = (if int_eq y (pos 0) then Null else Int (int_rem x y))
result_of _ x y = Null

abbrev pub arithmetic_of : Op → Value → Value → Value
arithmetic_of op a b = on_kinds number_in (result_of op) a b

-- the unary minus
abbrev pub negation_of : Value → Value
negation_of v = on_kind number_in (λ z. number_of (neg_ℤ z)) v

-- a || b
abbrev pub joined_of : Value → Value → Value
joined_of a b = on_kinds text_in (λ s t. Text (s ++ t)) a b
