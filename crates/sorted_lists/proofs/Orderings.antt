-- What one answer of an order says of another.
use Rattle.std.proofs.Common.{◌≡◌, ◌≤◌, true, false, refl, sym, ap, ◌∙◌, arith}
use Rattle.std.specs.Cmp.{IsTotalOrder}
use Rattle.std.specs.Ordering.{is_lt, is_eq, is_gt, ordering_index, ordering_reverse}
use Rattle.std.specs.declared.cmp.Ordering.{Ordering}
use Rattle.std.specs.declared.cmp.Ordering.TheVariants.{Less, Equal, Greater}

pub gt_not_eq : (r : Ordering) → is_gt r ≡ true → is_eq r ≡ false
gt_not_eq Less e = refl
gt_not_eq Equal e = sym e
gt_not_eq Greater e = refl

pub gt_not_lt : (r : Ordering) → is_gt r ≡ true → is_lt r ≡ false
gt_not_lt Less e = sym e
gt_not_lt Equal e = refl
gt_not_lt Greater e = refl

pub lt_not_eq : (r : Ordering) → is_lt r ≡ true → is_eq r ≡ false
lt_not_eq Less e = refl
lt_not_eq Equal e = sym e
lt_not_eq Greater e = refl

pub is_gt-ordering_reverse : (r : Ordering) → is_gt (ordering_reverse r) ≡ is_lt r
is_gt-ordering_reverse Less = refl
is_gt-ordering_reverse Equal = refl
is_gt-ordering_reverse Greater = refl

pub is_eq-ordering_reverse : (r : Ordering) → is_eq (ordering_reverse r) ≡ is_eq r
is_eq-ordering_reverse Less = refl
is_eq-ordering_reverse Equal = refl
is_eq-ordering_reverse Greater = refl

pub equal_of : (r : Ordering) → is_eq r ≡ true → r ≡ Equal
equal_of Less e = cc
equal_of Equal e = refl
equal_of Greater e = cc

pub lt_below : (r s : Ordering) → ordering_index r ≤ ordering_index s → is_lt s ≡ true → is_lt r ≡ true
lt_below Less s h e = refl
lt_below Equal Less h e = absurd (omega arith)
lt_below Equal Equal h e = e
lt_below Equal Greater h e = e
lt_below Greater Less h e = absurd (omega arith)
lt_below Greater Equal h e = e
lt_below Greater Greater h e = e

-- r is above, and s no lower
pub not_eq_above : (r s : Ordering) → ordering_index r ≤ ordering_index s → is_lt r ≡ false → is_eq r ≡ false → is_eq s ≡ false
not_eq_above Less s h e f = cc
not_eq_above Equal s h e f = cc
not_eq_above Greater Less h e f = absurd (omega arith)
not_eq_above Greater Equal h e f = absurd (omega arith)
not_eq_above Greater Greater h e f = refl

-- neither above nor equal
pub is_below : (r : Ordering) → is_gt r ≡ false → is_eq r ≡ false → is_lt r ≡ true
is_below Less g e = refl
is_below Equal g e = absurd cc
is_below Greater g e = absurd cc

-- to turn the two round is to turn the answer round
module _ {X : Type 0} {R : X → X → Ordering} (o : IsTotalOrder R) where
  pub turned : (x y : X) → is_gt (R x y) ≡ is_lt (R y x)
  turned x y = ap is_gt (o.antisymm x y) ∙ is_gt-ordering_reverse (R y x)

  pub turned_eq : (x y : X) → is_eq (R x y) ≡ is_eq (R y x)
  turned_eq x y = ap is_eq (o.antisymm x y) ∙ is_eq-ordering_reverse (R y x)
