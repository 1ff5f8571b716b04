-- The value of an operator between two values.
use Rattle.n1ql_value.specs.declared.op.Op.{Op}
use Rattle.n1ql_value.specs.declared.op.Op.TheVariants.{Or, And, Eq, Ne, Lt, Le, Gt, Ge, Add, Sub, Mul, Mod, Cat}
use Rattle.n1ql_value.specs.declared.value.Value.{Value}
use Rattle.n1ql_value.specs.Logic.{and_of, or_of}
use Rattle.n1ql_value.specs.Comparison.{comparison_of}
use Rattle.n1ql_value.specs.Arithmetic.{arithmetic_of, joined_of}

abbrev pub operation_of : Op → Value → Value → Value
operation_of Or a b = or_of a b
operation_of And a b = and_of a b
operation_of Eq a b = comparison_of Eq a b
operation_of Ne a b = comparison_of Ne a b
operation_of Lt a b = comparison_of Lt a b
operation_of Le a b = comparison_of Le a b
operation_of Gt a b = comparison_of Gt a b
operation_of Ge a b = comparison_of Ge a b
operation_of Add a b = arithmetic_of Add a b
operation_of Sub a b = arithmetic_of Sub a b
operation_of Mul a b = arithmetic_of Mul a b
operation_of Mod a b = arithmetic_of Mod a b
operation_of Cat a b = joined_of a b
