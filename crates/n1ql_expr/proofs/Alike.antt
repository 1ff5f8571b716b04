-- Values that the order calls equal are the same, and lists that agree place by place.
use Rattle.std.proofs.Common.{◌≡◌, IsTrue, refl, sym, ap, ◌∙◌}
use Rattle.std.proofs.lemmas.Cmp.{tied_itself}
use Rattle.std.specs.Ordering.{is_eq}
use Rattle.std.specs.declared.cmp.Ordering.{Ordering}
use Rattle.std.specs.declared.cmp.Ordering.TheVariants.{Less, Equal, Greater}
use Rattle.n1ql_value.specs.declared.value.Value.{Value}
use Rattle.n1ql_value.specs.Datum.{datum_of, value_of, value_of-datum_of}
use Rattle.n1ql_value.specs.Collation.{value_cmp}
use Rattle.n1ql_value.specs.inner.CollationLaws.{value_cmp-exact, value_cmp-total}

is_equal : (o : Ordering) → IsTrue (is_eq o) → o ≡ Equal
is_equal Equal h = refl
is_equal Less h = absurd (cc)
is_equal Greater h = absurd (cc)

pub tied_is_same : (a b : Value) → IsTrue (is_eq (value_cmp (datum_of a) (datum_of b))) → a ≡ b
tied_is_same a b h = sym (value_of-datum_of a) ∙ (ap value_of (value_cmp-exact (datum_of a) (datum_of b) (is_equal (value_cmp (datum_of a) (datum_of b)) h)) ∙ value_of-datum_of b)

pub same_is_tied : (a b : Value) → a ≡ b → IsTrue (is_eq (value_cmp (datum_of a) (datum_of b)))
same_is_tied a b e = rw e (ap is_eq (tied_itself value_cmp-total (datum_of b)))
