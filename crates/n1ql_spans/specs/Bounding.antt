-- The ranges in which a conjunct keeps the value of a key.
use Rattle.std.specs.Prelude.{Bool, true, false, not, ◌&&◌, List, [], ◌∷◌, map, Option, Some, None, option_map, if◌then◌else◌}
use Rattle.std.specs.List.{filter}
use Rattle.std.specs.Option.{option_map_or}
use Rattle.n1ql_value.specs.declared.datum.Datum.{Datum}
use Rattle.n1ql_value.specs.declared.op.Op.{Op}
use Rattle.n1ql_value.specs.declared.op.Op.TheVariants.{Eq, Lt, Le, Gt, Ge}
use Rattle.n1ql_value.specs.declared.range.Range.{Range}
use Rattle.n1ql_value.specs.declared.value.Value.{Value}
use Rattle.n1ql_value.specs.declared.value.Value.TheVariants.{Null}
use Rattle.n1ql_value.specs.Collation.{value_cmp}
use Rattle.n1ql_value.specs.Datum.{value_of as value_at}
use Rattle.n1ql_value.specs.Kinds.{is_valued, is_null, array_in}
use Rattle.sorted_lists.specs.SortedLists.{each_once, sort_of}
use Rattle.n1ql_ast.specs.declared.expr.Expr.{Expr, out-Expr}
use Rattle.n1ql_ast.specs.declared.expr.Expr.TheOpen.{Expr-F}
use Rattle.n1ql_ast.specs.declared.test.Test.{Test}
use Rattle.n1ql_ast.specs.declared.test.Test.TheVariants as test
use Rattle.n1ql_ast.specs.Bindings.{is_constant}
use Rattle.n1ql_ast.specs.Equality.{same_tree}
use Rattle.n1ql_ast.specs.Evaluation.{value_of}
use Rattle.n1ql_meaning.specs.Results.{nowhere}

-- the value of a constant, which it has everywhere
abbrev pub constant_value : Expr → Value
constant_value c = value_of c nowhere

-- from a value to another, both in
abbrev pub closed : Value → Value → Range
closed low high = record { low = Some low; high = Some high; incl = 3 }

-- the range of one value
abbrev pub point : Value → Range
point v = closed v v

-- from a value, out or in
abbrev pub from : Value → Bool → Range
from low included = record { low = Some low; high = None; incl = (if included then 1 else 0) }

-- from NULL, out, to a value, out or in
abbrev pub up_to : Value → Bool → Range
up_to high included = record { low = Some Null; high = Some high; incl = (if included then 2 else 0) }

-- a range of a compared constant, and none of MISSING or NULL
abbrev pub if_valued : Value → Range → List Range
if_valued c r = (if is_valued c then r ∷ [] else [])

-- the range of a comparison with a constant, where the key stands on the left; an operator that is none of these bounds nothing
abbrev pub range_for : Op → Value → Option Range
range_for Eq c = Some (point c)
range_for Gt c = Some (from c false)
range_for Ge c = Some (from c true)
range_for Lt c = Some (up_to c false)
range_for Le c = Some (up_to c true)
range_for _ c = None

abbrev pub compared : Op → Value → Option (List Range)
compared op c = option_map (if_valued c) (range_for op c)

-- the operator with its operands exchanged
abbrev pub mirror : Op → Op
mirror Lt = Gt
mirror Le = Ge
mirror Gt = Lt
mirror Ge = Le
mirror op = op

-- both bounds in, and none where one is MISSING or NULL
abbrev pub between : Value → Value → List Range
between low high = (if is_valued low && is_valued high then closed low high ∷ [] else [])

-- the distinct elements that aren't NULL, in order
abbrev pub distinct : List Datum → List Datum
distinct ds = each_once value_cmp (sort_of value_cmp (filter (λ d. not (is_null (value_at d))) ds))

-- a point for each of the elements, and none where the value is no array
abbrev pub among : Value → List Range
among list = option_map_or (λ ds. map (λ d. point (value_at d)) (distinct ds)) (array_in list) []

-- what IS and IS NOT say of a key
abbrev pub tested : Test → Option (List Range)
tested test.Null = Some (closed Null Null ∷ [])
tested test.Valued = Some (from Null false ∷ [])
tested test.Missing = None

abbrev pub tested_not : Test → Option (List Range)
tested_not test.Missing = Some (from Null true ∷ [])
tested_not test.Null = Some (from Null false ∷ [])
tested_not test.Valued = None

-- one level behind a NOT
abbrev pub denied : Expr → Expr-F Expr → Option (List Range)
denied e (Expr-F.Is t x) = (if same_tree x e then tested_not t else None)
denied e _ = None

-- one level of a conjunct
abbrev pub bounding_level : Expr → Expr-F Expr → Option (List Range)
bounding_level e (Expr-F.Two op x y) =
    (if same_tree x e && is_constant y then compared op (constant_value y)
    else (if same_tree y e && is_constant x then compared (mirror op) (constant_value x) else None))
bounding_level e (Expr-F.Between x low high) =
    (if same_tree x e && (is_constant low && is_constant high) then Some (between (constant_value low) (constant_value high)) else None)
bounding_level e (Expr-F.Among x list) = (if same_tree x e && is_constant list then Some (among (constant_value list)) else None)
bounding_level e (Expr-F.Is t x) = (if same_tree x e then tested t else None)
bounding_level e (Expr-F.Not x) = denied e (out-Expr x)
bounding_level e _ = None

-- The ranges of a conjunct c that bounds the key e: an empty list where no value of the key makes c TRUE, and none where c is no
-- bounding conjunct.
abbrev pub bounding : Expr → Expr → Option (List Range)
bounding e c = bounding_level e (out-Expr c)
