-- Where a name stands among the pairs of an object: what is found there, and what is put there.
use Rattle.std.proofs.Common.{◌≡◌, ◌<◌, ◌≤◌, ℕ, zero, suc, Bool, true, false, cond, List, [], ◌∷◌, length, get_or, set, map, Some, None, refl, sym, ap, ◌∙◌, subst, arith}
use Rattle.std.proofs.lemmas.Cmp.{nat_list_cmp_total, tied_itself}
use Rattle.std.proofs.lemmas.Bool.{false≢true}
use Rattle.std.specs.List.{insert}
use Rattle.std.specs.List.Sorted.{IsPartitionedBy, IsPartitionPoint}
use Rattle.std.specs.Ordering.{nat_cmp, is_lt, is_eq, ordering_reverse, match_ordering}
use Rattle.std.specs.declared.cmp.Ordering.{Ordering}
use Rattle.std.specs.declared.cmp.Ordering.TheVariants.{Less, Equal, Greater}
use Rattle.std.specs.Cmp.Lexicographic.{slice_cmp}
use Rattle.n1ql_value.specs.declared.text.Text.{Text as Bytes}
use Rattle.n1ql_value.specs.declared.value.Value.{Value}
use Rattle.n1ql_value.specs.Datum.{datum_of, pair_of}
use Rattle.n1ql_value.specs.Names.{IsBelowFirst, NamesGrow, under_name, with_pair}
use Rattle.n1ql_value.specs.inner.Places.{IsPlace, HasName, LacksName}
use Rattle.n1ql_value.specs.inner.CollationLaws.{bytes-exact}

abbrev name_cmp : List ℕ → List ℕ → Ordering
name_cmp = slice_cmp nat_cmp

abbrev Entries : Type 0
Entries = List (Bytes × Value)

abbrev Entry : Type 0
Entry = Bytes × Value

is_lt-less : (o : Ordering) → is_lt o ≡ true → o ≡ Less
is_lt-less Less e = refl
is_lt-less Equal e = absurd (false≢true e)
is_lt-less Greater e = absurd (false≢true e)

-- a name below the first is below all
below_each : (name : List ℕ) (es : Entries) → IsBelowFirst name (map pair_of es) → NamesGrow (map pair_of es) → (j : ℕ) (d : Entry) → j < length es → name_cmp name (get_or es j d).0 ≡ Less
below_each name [] b g j d h = absurd (omega arith)
below_each name (e ∷ es) b g zero d h = b
below_each name (e ∷ es) b g (suc j) d h = nat_list_cmp_total.trans name e.0 (get_or es j d).0 b (below_each e.0 es g.0 g.1 j d (omega arith))

pub names_parted : (name : List ℕ) (es : Entries) → NamesGrow (map pair_of es) → IsPartitionedBy (λ (e : Entry). is_lt (name_cmp e.0 name)) es
names_parted name [] g i j d le h p = absurd (omega arith)
names_parted name (e ∷ es) g zero zero d le h p = p
names_parted name (e ∷ es) g zero (suc j) d le h p =
    rw (nat_list_cmp_total.trans e.0 (get_or es j d).0 name (below_each e.0 es g.0 g.1 j d (omega arith)) (is_lt-less _ p)) refl
names_parted name (e ∷ es) g (suc i) zero d le h p = absurd (omega arith)
names_parted name (e ∷ es) g (suc i) (suc j) d le h p = names_parted name es g.1 i j d (omega arith) (omega arith) p

place_after : (e : Entry) (es : Entries) (name : List ℕ) (at : ℕ) → IsPlace (e ∷ es) name (suc at) → IsPlace es name at
place_after e es name at p = record {
  bound = let h = p.bound in omega arith;
  below = λ k d h. p.below (suc k) d (omega arith);
  above = λ k d h l. p.above (suc k) d (omega arith) (omega arith);
}

flipped : (a b : List ℕ) → name_cmp a b ≡ Less → name_cmp b a ≡ Greater
flipped a b h = nat_list_cmp_total.antisymm b a ∙ ap ordering_reverse h

not_equal : (a b : List ℕ) → is_lt (name_cmp a b) ≡ true → is_eq (name_cmp b a) ≡ false
not_equal a b h = ap is_eq (flipped a b (is_lt-less _ h))

-- where the place has the name, its value stands under it
pub found_at : (es : Entries) (name : List ℕ) (at : ℕ) (e : Entry) → IsPlace es name at → at < length es → e ≡ get_or es at e → e.0 ≡ name → under_name name (map pair_of es) ≡ Some (datum_of e.1)
found_at [] name at e p h is same = absurd (omega arith)
found_at (x ∷ es) name zero e p h is same =
    ap (λ (b : Bool). cond b (Some (datum_of x.1)) (under_name name (map pair_of es))) (ap is_eq (ap (name_cmp name) (sym (ap (λ (y : Entry). y.0) is) ∙ same) ∙ tied_itself nat_list_cmp_total name))
    ∙ ap (λ (y : Entry). Some (datum_of y.1)) (sym is)
found_at (x ∷ es) name (suc at) e p h is same =
    ap (λ (b : Bool). cond b (Some (datum_of x.1)) (under_name name (map pair_of es))) (not_equal x.0 name (p.below zero x (omega arith)))
    ∙ found_at es name at e (place_after x es name at p) (omega arith) is same

-- no pair has the name
none_named : (es : Entries) (name : List ℕ) → ((k : ℕ) (d : Entry) → k < length es → is_eq (name_cmp name (get_or es k d).0) ≡ false) → under_name name (map pair_of es) ≡ None
none_named [] name h = refl
none_named (x ∷ es) name h =
    ap (λ (b : Bool). cond b (Some (datum_of x.1)) (under_name name (map pair_of es))) (h zero x (omega arith))
    ∙ none_named es name (λ k d l. h (suc k) d (omega arith))

-- what is not below a name and not the same is above it
above_name : (a b : List ℕ) → is_lt (name_cmp a b) ≡ false → (a ≡ b → ⊥) → name_cmp b a ≡ Less
above_name a b h apart = above_by (name_cmp a b) refl h
  where
    above_by : (o : Ordering) → name_cmp a b ≡ o → is_lt o ≡ false → name_cmp b a ≡ Less
    above_by Less is lt = absurd (false≢true (sym lt))
    above_by Equal is lt = absurd (apart (bytes-exact a b is))
    above_by Greater is lt = nat_list_cmp_total.antisymm b a ∙ ap ordering_reverse is

-- where the place has no pair, or one of another name, nothing stands under the name
pub absent_at : (es : Entries) (name : List ℕ) (at : ℕ) → NamesGrow (map pair_of es) → IsPlace es name at → ((d : Entry) → at < length es → (get_or es at d).0 ≡ name → ⊥) → under_name name (map pair_of es) ≡ None
absent_at [] name at g p other = refl
absent_at (x ∷ es) name zero g p other =
    let over : name_cmp name x.0 ≡ Less = above_name x.0 name (p.above zero x (omega arith) (omega arith)) (other x (omega arith)) in
    none_named (x ∷ es) name (apart_from over)
  where
    apart_from : name_cmp name x.0 ≡ Less → (k : ℕ) (d : Entry) → k < length (x ∷ es) → is_eq (name_cmp name (get_or (x ∷ es) k d).0) ≡ false
    apart_from over zero d h = ap is_eq over
    apart_from over (suc k) d h = ap is_eq (nat_list_cmp_total.trans name x.0 (get_or es k d).0 over (below_each x.0 es g.0 g.1 k d (omega arith)))
absent_at (x ∷ es) name (suc at) g p other =
    ap (λ (b : Bool). cond b (Some (datum_of x.1)) (under_name name (map pair_of es))) (not_equal x.0 name (p.below zero x (omega arith)))
    ∙ absent_at es name at g.1 (place_after x es name at p) (λ d h e. other d (omega arith) e)

-- a pair put in keeps the names growing
grow_front : {A : Type 0} (front name : List ℕ) (a : A) (ps : List (List ℕ × A)) → name_cmp front name ≡ Less → IsBelowFirst front ps → IsBelowFirst front (with_pair name a ps)
grow_front front name a [] h b = h
grow_front front name a (p ∷ ps) h b = grow_by (name_cmp name p.0) refl
  where
    grow_by : (o : Ordering) → name_cmp name p.0 ≡ o → IsBelowFirst front (match_ordering o ((name, a) ∷ p ∷ ps) ((name, a) ∷ ps) (p ∷ with_pair name a ps))
    grow_by Less is = h
    grow_by Equal is = h
    grow_by Greater is = b

same_below : {A : Type 0} (name other : List ℕ) (ps : List (List ℕ × A)) → other ≡ name → IsBelowFirst other ps → IsBelowFirst name ps
same_below name other [] e b = tt
same_below name other (p ∷ ps) e b = subst (λ (n : List ℕ). name_cmp n p.0 ≡ Less) e b

pub NamesGrow-with_pair : {A : Type 0} (name : List ℕ) (a : A) (ps : List (List ℕ × A)) → NamesGrow ps → NamesGrow (with_pair name a ps)
NamesGrow-with_pair name a [] g = (tt, tt)
NamesGrow-with_pair name a (p ∷ ps) g = grows_by (NamesGrow-with_pair name a ps g.1) (name_cmp name p.0) refl
  where
    grows_by : NamesGrow (with_pair name a ps) → (o : Ordering) → name_cmp name p.0 ≡ o → NamesGrow (match_ordering o ((name, a) ∷ p ∷ ps) ((name, a) ∷ ps) (p ∷ with_pair name a ps))
    grows_by rest Less is = (is, g)
    grows_by rest Equal is = (same_below name p.0 ps (sym (bytes-exact name p.0 is)) g.0, g.1)
    grows_by rest Greater is = (grow_front p.0 name a ps (nat_list_cmp_total.antisymm p.0 name ∙ ap ordering_reverse is) g.0, rest)

-- the pair at the place gives way
pub replaced_at : (es : Entries) (name : List ℕ) (v : Value) (at : ℕ) → IsPlace es name at → ((d : Entry) → (get_or es at d).0 ≡ name) → at < length es → map pair_of (set es at (name, v)) ≡ with_pair name (datum_of v) (map pair_of es)
replaced_at [] name v at p same h = absurd (omega arith)
replaced_at (x ∷ es) name v zero p same h =
    sym (ap (λ o. match_ordering o ((name, datum_of v) ∷ pair_of x ∷ map pair_of es) ((name, datum_of v) ∷ map pair_of es) (pair_of x ∷ with_pair name (datum_of v) (map pair_of es)))
    (ap (name_cmp name) (same x) ∙ tied_itself nat_list_cmp_total name))
replaced_at (x ∷ es) name v (suc at) p same h =
    ap (λ ps. pair_of x ∷ ps) (replaced_at es name v at (place_after x es name at p) same (omega arith))
    ∙ sym (ap (λ o. match_ordering o ((name, datum_of v) ∷ pair_of x ∷ map pair_of es) ((name, datum_of v) ∷ map pair_of es) (pair_of x ∷ with_pair name (datum_of v) (map pair_of es)))
    (flipped x.0 name (is_lt-less _ (p.below zero x (omega arith)))))

-- the pair goes in at the place
pub inserted_at : (es : Entries) (name : List ℕ) (v : Value) (at : ℕ) → IsPlace es name at → ((d : Entry) → at < length es → (get_or es at d).0 ≡ name → ⊥) → map pair_of (insert es at (name, v)) ≡ with_pair name (datum_of v) (map pair_of es)
inserted_at [] name v zero p other = refl
inserted_at [] name v (suc at) p other = absurd (let h = p.bound in omega arith)
inserted_at (x ∷ es) name v zero p other =
    sym (ap (λ o. match_ordering o ((name, datum_of v) ∷ pair_of x ∷ map pair_of es) ((name, datum_of v) ∷ map pair_of es) (pair_of x ∷ with_pair name (datum_of v) (map pair_of es)))
    (above_name x.0 name (p.above zero x (omega arith) (omega arith)) (other x (omega arith))))
inserted_at (x ∷ es) name v (suc at) p other =
    ap (λ ps. pair_of x ∷ ps) (inserted_at es name v at (place_after x es name at p) (λ d h e. other d (omega arith) e))
    ∙ sym (ap (λ o. match_ordering o ((name, datum_of v) ∷ pair_of x ∷ map pair_of es) ((name, datum_of v) ∷ map pair_of es) (pair_of x ∷ with_pair name (datum_of v) (map pair_of es)))
    (flipped x.0 name (is_lt-less _ (p.below zero x (omega arith)))))

-- what the binary search gives
pub is_place : (es : Entries) (name : List ℕ) (at : ℕ) → at ≤ length es → IsPartitionPoint (λ (e : Entry). is_lt (name_cmp e.0 name) ≡ true) (λ (e : Entry). is_lt (name_cmp e.0 name) ≡ false) es at → IsPlace es name at
is_place es name at h p = record { bound = h; below = λ k d l. p.0 k d (omega arith) l; above = λ k d l m. p.1 k d l m }

pub NamesGrow-replaced : (es : Entries) (name : List ℕ) (v : Value) (at : ℕ) → NamesGrow (map pair_of es) → map pair_of (set es at (name, v)) ≡ with_pair name (datum_of v) (map pair_of es) → NamesGrow (map pair_of (set es at (name, v)))
NamesGrow-replaced es name v at g e = rw e (NamesGrow-with_pair name (datum_of v) (map pair_of es) g)

pub NamesGrow-inserted : (es : Entries) (name : List ℕ) (v : Value) (at : ℕ) → NamesGrow (map pair_of es) → map pair_of (insert es at (name, v)) ≡ with_pair name (datum_of v) (map pair_of es) → NamesGrow (map pair_of (insert es at (name, v)))
NamesGrow-inserted es name v at g e = rw e (NamesGrow-with_pair name (datum_of v) (map pair_of es) g)

pub place_along : {es fs : Entries} {name other : List ℕ} (at : ℕ) → es ≡ fs → name ≡ other → IsPlace es name at → IsPlace fs other at
place_along {es = es} {fs = fs} {name = name} {other = other} at entries names p = subst (λ (n : List ℕ). IsPlace fs n at) names (subst (λ (l : Entries). IsPlace l name at) entries p)

pub named_along : {es fs : Entries} {name other : List ℕ} (at : ℕ) → es ≡ fs → name ≡ other → HasName es at name → HasName fs at other
named_along {es = es} {fs = fs} {name = name} {other = other} at entries names p = subst (λ (n : List ℕ). HasName fs at n) names (subst (λ (l : Entries). HasName l at name) entries p)

pub unnamed_along : {es fs : Entries} {name other : List ℕ} (at : ℕ) → es ≡ fs → name ≡ other → LacksName es at name → LacksName fs at other
unnamed_along {es = es} {fs = fs} {name = name} {other = other} at entries names p = subst (λ (n : List ℕ). LacksName fs at n) names (subst (λ (l : Entries). LacksName l at name) entries p)
