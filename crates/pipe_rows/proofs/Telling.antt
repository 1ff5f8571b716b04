-- What a set holds once a result is in it.
use Rattle.std.proofs.Common.{◌≡◌, Bool, true, false, cond, ◌||◌, refl, ap, ◌∙◌}
use Rattle.std.specs.Cmp.{IsTotalOrder}
use Rattle.std.specs.Ordering.{is_eq, ordering_reverse}
use Rattle.std.specs.declared.cmp.Ordering.{Ordering}
use Rattle.std.specs.declared.cmp.Ordering.TheVariants.{Less, Equal, Greater}
use Rattle.n1ql_value.specs.declared.datum.Datum.{Datum}
use Rattle.n1ql_value.specs.declared.value.Value.{Value}
use Rattle.n1ql_value.specs.Collation.{value_cmp}
use Rattle.n1ql_value.specs.Datum.{datum_of}
use Rattle.n1ql_ast.specs.Equality.{same_value}

turned_back : (o : Ordering) → is_eq (ordering_reverse o) ≡ is_eq o
turned_back Less = refl
turned_back Equal = refl
turned_back Greater = refl

turned : IsTotalOrder value_cmp → (a b : Datum) → is_eq (value_cmp a b) ≡ is_eq (value_cmp b a)
turned o a b = ap is_eq (o.antisymm a b) ∙ turned_back (value_cmp b a)

or_true : (b old : Bool) → cond b true old ≡ (b || old)
or_true true old = refl
or_true false old = refl

pub seen_more : IsTotalOrder value_cmp → (x put v : Value) (old new : Bool) → put ≡ x → new ≡ cond (is_eq (value_cmp (datum_of put) (datum_of v))) true old
    → new ≡ (same_value v x || old)
seen_more o x put v old new p e =
    e ∙ (ap (λ (w : Value). cond (is_eq (value_cmp (datum_of w) (datum_of v))) true old) p
    ∙ (ap (λ b. cond b true old) (turned o (datum_of x) (datum_of v)) ∙ or_true (same_value v x) old))
