-- The order of values is total, and values that it calls equal are the same.
use Rattle.std.specs.List.{AllByRecursion}
use Rattle.std.specs.Prelude.{◌<ℤ◌, ◌≡◌, ◌<◌, ℕ, ℤ, zero, suc, max, true, false, List, [], ◌∷◌, map, length, refl}
use Rattle.std.proofs.Common.{sym, ap, ◌∙◌, subst, arith}
use Rattle.std.specs.Cmp.{IsTotalOrder}
use Rattle.std.proofs.lemmas.Map.Lookups.{exact_unsigned}
use Rattle.std.proofs.lemmas.Cmp.{nat_cmp_total, int_cmp_total, nat_list_cmp_total, on_total, then_total, lists_total, int_ranked}
use Rattle.std.specs.Ordering.{nat_cmp, int_cmp, ordering_then, ordering_reverse, MatchOrdering}
use Rattle.std.specs.declared.cmp.Ordering.{Ordering}
use Rattle.std.specs.declared.cmp.Ordering.TheVariants.{Less, Equal, Greater}
use Rattle.std.specs.Cmp.Lexicographic.{slice_cmp}
use Rattle.n1ql_value.specs.declared.datum.Datum.{Datum, out-Datum, roll-Datum, roll-out-Datum}
use Rattle.n1ql_value.specs.declared.datum.Datum.TheOpen.{Datum-F}
use Rattle.n1ql_value.specs.declared.datum.Datum.TheFolds.{map-Datum, fold_out-Datum}
use Rattle.n1ql_value.specs.Layers.{class_of, number_of, bytes_of, elements_of, pairs_of}
use Rattle.n1ql_value.specs.Depth.{largest, depth_step, depth}
use Rattle.n1ql_value.specs.Collation.{pair_cmp, layer_cmp, value_cmp}
use Rattle.n1ql_value.specs.inner.CollationByCases.{value_cmp-by_layer}

-- the order of values that nest less deep than n
abbrev cmp_at : ℕ → Datum → Datum → Ordering
cmp_at zero a b = Equal
cmp_at (suc n) a b = layer_cmp (cmp_at n) (out-Datum a) (out-Datum b)

pair_cmp-total : {R : Datum → Datum → Ordering} → IsTotalOrder R → IsTotalOrder (pair_cmp R)
pair_cmp-total {R} t = then_total (on_total (λ (p : List ℕ × Datum). p.0) nat_list_cmp_total) (on_total (λ (p : List ℕ × Datum). p.1) t)

layer_cmp-total : {R : Datum → Datum → Ordering} → IsTotalOrder R → IsTotalOrder (λ a b. layer_cmp R (out-Datum a) (out-Datum b))
layer_cmp-total {R} t =
    then_total (on_total (λ (a : Datum). class_of (out-Datum a)) nat_cmp_total)
    (then_total (on_total (λ (a : Datum). number_of (out-Datum a)) int_cmp_total)
    (then_total (on_total (λ (a : Datum). bytes_of (out-Datum a)) nat_list_cmp_total)
    (then_total (on_total (λ (a : Datum). elements_of (out-Datum a)) (lists_total t))
    (then_total (on_total (λ (a : Datum). length (pairs_of (out-Datum a))) nat_cmp_total)
    (on_total (λ (a : Datum). pairs_of (out-Datum a)) (lists_total (pair_cmp-total t)))))))

equal-total : IsTotalOrder (cmp_at zero)
equal-total = record { antisymm = λ x y. refl; trans = λ x y z h k. h; congr = λ x y z h. refl }

cmp_at-total : (n : ℕ) → IsTotalOrder (cmp_at n)
cmp_at-total zero = equal-total
cmp_at-total (suc n) = layer_cmp-total (cmp_at-total n)

-- two orders that agree on the values that nest less deep than n, on the left
record Agree (R S : Datum → Datum → Ordering) (n : ℕ) : Type 0 where
  below : (a b : Datum) → depth a < n → R a b ≡ S a b

module _ {R S : Datum → Datum → Ordering} (n : ℕ) (agree : Agree R S n) where
  agree_items : (xs ys : List Datum) → largest (map depth xs) < n → slice_cmp R xs ys ≡ slice_cmp S xs ys
  agree_items [] [] h = refl
  agree_items [] (y ∷ ys) h = refl
  agree_items (x ∷ xs) [] h = refl
  agree_items (x ∷ xs) (y ∷ ys) h = cc (agree.below x y (omega arith), agree_items xs ys (omega arith))

  agree_pairs : (xs ys : List (List ℕ × Datum)) → largest (map (λ (p : List ℕ × ℕ). p.1) (map (λ (p : List ℕ × Datum). (p.0, depth p.1)) xs)) < n → slice_cmp (pair_cmp R) xs ys ≡ slice_cmp (pair_cmp S) xs ys
  agree_pairs [] [] h = refl
  agree_pairs [] (y ∷ ys) h = refl
  agree_pairs (x ∷ xs) [] h = refl
  agree_pairs (x ∷ xs) (y ∷ ys) h = cc (agree.below x.1 y.1 (omega arith), agree_pairs xs ys (omega arith))

none_below : (R S : Datum → Datum → Ordering) (ys : List Datum) → slice_cmp R [] ys ≡ slice_cmp S [] ys
none_below R S [] = refl
none_below R S (y ∷ ys) = refl

no_pairs_below : (R S : Datum → Datum → Ordering) (ys : List (List ℕ × Datum)) → slice_cmp (pair_cmp R) [] ys ≡ slice_cmp (pair_cmp S) [] ys
no_pairs_below R S [] = refl
no_pairs_below R S (y ∷ ys) = refl

agree_layers : {R S : Datum → Datum → Ordering} (n : ℕ) → Agree R S n → (a b : Datum-F Datum) → depth_step (map-Datum Datum ℕ depth a) < suc n → layer_cmp R a b ≡ layer_cmp S a b
agree_layers {R = R} {S = S} n agree Datum-F.Missing b h = cc (none_below R S (elements_of b), no_pairs_below R S (pairs_of b))
agree_layers {R = R} {S = S} n agree Datum-F.Null b h = cc (none_below R S (elements_of b), no_pairs_below R S (pairs_of b))
agree_layers {R = R} {S = S} n agree (Datum-F.Bool v) b h = cc (none_below R S (elements_of b), no_pairs_below R S (pairs_of b))
agree_layers {R = R} {S = S} n agree (Datum-F.Int z) b h = cc (none_below R S (elements_of b), no_pairs_below R S (pairs_of b))
agree_layers {R = R} {S = S} n agree (Datum-F.Text t) b h = cc (none_below R S (elements_of b), no_pairs_below R S (pairs_of b))
agree_layers {R = R} {S = S} n agree (Datum-F.Array ds) b h = cc (agree_items n agree ds (elements_of b) (omega arith), no_pairs_below R S (pairs_of b))
agree_layers {R = R} {S = S} n agree (Datum-F.Object ps) b h = cc (none_below R S (elements_of b), agree_pairs n agree ps (pairs_of b) (omega arith))

cmp_at-is : (n : ℕ) → Agree value_cmp (cmp_at n) n
cmp_at-is zero = record { below = λ a b h. absurd (omega arith) }
cmp_at-is (suc n) = record {
  below = λ a b h. value_cmp-by_layer a b ∙ agree_layers n (cmp_at-is n) (out-Datum a) (out-Datum b) (subst (λ (d : ℕ). d < suc n) (fold_out-Datum ℕ depth_step a) h);
}

-- the order of values is that of any level above them
at_level : (n : ℕ) (a b : Datum) → depth a < n → value_cmp a b ≡ cmp_at n a b
at_level n a b h = (cmp_at-is n).below a b h

pub value_cmp-total : IsTotalOrder value_cmp
value_cmp-total = record {
  antisymm = λ a b.
      let n : ℕ = suc (max (depth a) (depth b)) in
      at_level n a b (omega arith) ∙ ((cmp_at-total n).antisymm a b ∙ ap ordering_reverse (sym (at_level n b a (omega arith))));
  trans = λ a b c h k.
      let n : ℕ = suc (max (depth a) (max (depth b) (depth c))) in
      at_level n a c (omega arith) ∙ (cmp_at-total n).trans a b c (sym (at_level n a b (omega arith)) ∙ h) (sym (at_level n b c (omega arith)) ∙ k);
  congr = λ a b c h.
      let n : ℕ = suc (max (depth a) (max (depth b) (depth c))) in
      at_level n a c (omega arith) ∙ ((cmp_at-total n).congr a b c (sym (at_level n a b (omega arith)) ∙ h) ∙ sym (at_level n b c (omega arith)));
}

-- ---- values that the order calls equal are the same

pub then_equal : (o p : Ordering) → ordering_then o p ≡ Equal → (o ≡ Equal) × (p ≡ Equal)
then_equal Less p h = absurd (cc)
then_equal Equal p h = (refl, h)
then_equal Greater p h = absurd (cc)

pub nat_cmp-exact : (m n : ℕ) → nat_cmp m n ≡ Equal → m ≡ n
nat_cmp-exact m n h = exact_unsigned m n h

pub int_cmp-exact : (y z : ℤ) → int_cmp y z ≡ Equal → y ≡ z
int_cmp-exact y z h = let r : MatchOrdering Equal (y <ℤ z) (y ≡ z) (z <ℤ y) = int_ranked y z Equal (sym h) in r

-- lists whose elements are the same where they compare equal
pub slice_cmp-exact : {A : Type 0} (R : A → A → Ordering) (xs ys : List A) → AllByRecursion (λ x. (y : A) → R x y ≡ Equal → x ≡ y) xs → slice_cmp R xs ys ≡ Equal → xs ≡ ys
slice_cmp-exact R [] [] h e = refl
slice_cmp-exact R [] (y ∷ ys) h e = absurd (cc)
slice_cmp-exact R (x ∷ xs) [] h e = absurd (cc)
slice_cmp-exact R (x ∷ xs) (y ∷ ys) h e =
    let both = then_equal (R x y) (slice_cmp R xs ys) e in
    cc (h.0 y both.0, slice_cmp-exact R xs ys h.1 both.1)

pub bytes-exact : (xs ys : List ℕ) → slice_cmp nat_cmp xs ys ≡ Equal → xs ≡ ys
bytes-exact [] [] e = refl
bytes-exact [] (y ∷ ys) e = absurd (cc)
bytes-exact (x ∷ xs) [] e = absurd (cc)
bytes-exact (x ∷ xs) (y ∷ ys) e =
    let both = then_equal (nat_cmp x y) (slice_cmp nat_cmp xs ys) e in
    cc (nat_cmp-exact x y both.0, bytes-exact xs ys both.1)

-- layers of one class with the same parts
same_layer : (a b : Datum-F Datum) → class_of a ≡ class_of b → number_of a ≡ number_of b → bytes_of a ≡ bytes_of b → elements_of a ≡ elements_of b → pairs_of a ≡ pairs_of b → a ≡ b
same_layer Datum-F.Missing Datum-F.Missing c n t e p = refl
same_layer Datum-F.Null Datum-F.Null c n t e p = refl
same_layer (Datum-F.Bool false) (Datum-F.Bool false) c n t e p = refl
same_layer (Datum-F.Bool true) (Datum-F.Bool true) c n t e p = refl
same_layer (Datum-F.Int y) (Datum-F.Int z) c n t e p = ap Datum-F.Int n
same_layer (Datum-F.Text y) (Datum-F.Text z) c n t e p = ap Datum-F.Text t
same_layer (Datum-F.Array y) (Datum-F.Array z) c n t e p = ap Datum-F.Array e
same_layer (Datum-F.Object y) (Datum-F.Object z) c n t e p = ap Datum-F.Object p
same_layer Datum-F.Missing (Datum-F.Bool false) c n t e p = absurd (omega arith)
same_layer Datum-F.Null (Datum-F.Bool false) c n t e p = absurd (omega arith)
same_layer (Datum-F.Int z) (Datum-F.Bool false) c n t e p = absurd (omega arith)
same_layer (Datum-F.Text z) (Datum-F.Bool false) c n t e p = absurd (omega arith)
same_layer (Datum-F.Array z) (Datum-F.Bool false) c n t e p = absurd (omega arith)
same_layer (Datum-F.Object z) (Datum-F.Bool false) c n t e p = absurd (omega arith)
same_layer _ _ c n t e p = absurd (omega arith)

-- values that nest less deep than n, on the left, are the same where they compare equal
abbrev IsExactBelow : ℕ → Type 0
IsExactBelow n = (a b : Datum) → depth a < n → value_cmp a b ≡ Equal → a ≡ b

same_pair : (p q : List ℕ × Datum) → p.0 ≡ q.0 → p.1 ≡ q.1 → p ≡ q
same_pair p q name value = ap (λ (n : List ℕ). (n, p.1)) name ∙ ap (λ (d : Datum). (q.0, d)) value

exact_items : (n : ℕ) → IsExactBelow n → (xs : List Datum) → largest (map depth xs) < n → AllByRecursion (λ x. (y : Datum) → value_cmp x y ≡ Equal → x ≡ y) xs
exact_items n exact [] h = tt
exact_items n exact (x ∷ xs) h = (λ y e. exact x y (omega arith) e, exact_items n exact xs (omega arith))

exact_pairs : (n : ℕ) → IsExactBelow n → (xs : List (List ℕ × Datum)) → largest (map (λ (p : List ℕ × ℕ). p.1) (map (λ (p : List ℕ × Datum). (p.0, depth p.1)) xs)) < n → AllByRecursion (λ x. (y : List ℕ × Datum) → pair_cmp value_cmp x y ≡ Equal → x ≡ y) xs
exact_pairs n exact [] h = tt
exact_pairs n exact (x ∷ xs) h = (
  λ y e. let both = then_equal (slice_cmp nat_cmp x.0 y.0) (value_cmp x.1 y.1) e in same_pair x y (bytes-exact x.0 y.0 both.0) (exact x.1 y.1 (omega arith) both.1),
  exact_pairs n exact xs (omega arith),
)

-- the elements and the pairs of a layer nest less deep than the whole
exact_elements : (n : ℕ) → IsExactBelow n → (a : Datum-F Datum) → depth_step (map-Datum Datum ℕ depth a) < suc n → AllByRecursion (λ x. (y : Datum) → value_cmp x y ≡ Equal → x ≡ y) (elements_of a)
exact_elements n exact Datum-F.Missing h = tt
exact_elements n exact Datum-F.Null h = tt
exact_elements n exact (Datum-F.Bool v) h = tt
exact_elements n exact (Datum-F.Int z) h = tt
exact_elements n exact (Datum-F.Text t) h = tt
exact_elements n exact (Datum-F.Array ds) h = exact_items n exact ds (omega arith)
exact_elements n exact (Datum-F.Object ps) h = tt

exact_entries : (n : ℕ) → IsExactBelow n → (a : Datum-F Datum) → depth_step (map-Datum Datum ℕ depth a) < suc n → AllByRecursion (λ x. (y : List ℕ × Datum) → pair_cmp value_cmp x y ≡ Equal → x ≡ y) (pairs_of a)
exact_entries n exact Datum-F.Missing h = tt
exact_entries n exact Datum-F.Null h = tt
exact_entries n exact (Datum-F.Bool v) h = tt
exact_entries n exact (Datum-F.Int z) h = tt
exact_entries n exact (Datum-F.Text t) h = tt
exact_entries n exact (Datum-F.Array ds) h = tt
exact_entries n exact (Datum-F.Object ps) h = exact_pairs n exact ps (omega arith)

exact_layers : (n : ℕ) → IsExactBelow n → (a b : Datum-F Datum) → depth_step (map-Datum Datum ℕ depth a) < suc n → layer_cmp value_cmp a b ≡ Equal → a ≡ b
exact_layers n exact a b h equal =
    let class = then_equal _ _ equal in
    let number = then_equal _ _ class.1 in
    let bytes = then_equal _ _ number.1 in
    let elements = then_equal _ _ bytes.1 in
    let count = then_equal _ _ elements.1 in
    same_layer a b
    (nat_cmp-exact (class_of a) (class_of b) class.0)
    (int_cmp-exact (number_of a) (number_of b) number.0)
    (bytes-exact (bytes_of a) (bytes_of b) bytes.0)
    (slice_cmp-exact value_cmp (elements_of a) (elements_of b) (exact_elements n exact a h) elements.0)
    (slice_cmp-exact (pair_cmp value_cmp) (pairs_of a) (pairs_of b) (exact_entries n exact a h) count.1)

exact_at : (n : ℕ) → IsExactBelow n
exact_at zero a b h equal = absurd (omega arith)
exact_at (suc n) a b h equal =
    let layers = exact_layers n (exact_at n) (out-Datum a) (out-Datum b) (subst (λ (d : ℕ). d < suc n) (fold_out-Datum ℕ depth_step a) h) (sym (value_cmp-by_layer a b) ∙ equal) in
    sym (roll-out-Datum a) ∙ (ap roll-Datum layers ∙ roll-out-Datum b)

pub value_cmp-exact : (a b : Datum) → value_cmp a b ≡ Equal → a ≡ b
value_cmp-exact a b equal = exact_at (suc (depth a)) a b (omega arith) equal
