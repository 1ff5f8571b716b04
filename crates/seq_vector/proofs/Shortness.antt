-- The first vBucket that is short, as it is found and as it is told.
use Rattle.std.proofs.Common.{◌≡◌, ℕ, zero, suc, ◌<◌, ◌≤◌, Bool, true, false, cond, nat_lt, Option, Some, None, option_map, List, [], ◌∷◌, get_or, drop, refl, sym, ap, arith}
use Rattle.std.proofs.lemmas.Bool.{ltb-true, ltb-false, lt-ltb, true≢false}
use Rattle.std.proofs.lemmas.Bool.Decides.{nat_tests}
use Rattle.std.specs.Option.{is_none}
use Rattle.seq_vector.specs.Vectors.{entry, IsCovered, IsFirstShort, first_short, covers}

entry-rest : (v : List ℕ) (k : ℕ) → get_or (drop 1 v) k 0 ≡ get_or v (suc k) 0
entry-rest [] k = refl
entry-rest (x ∷ v) k = refl

found : (short : Bool) (rest : Option ℕ) (vb : ℕ) → cond short (Some 0) (option_map suc rest) ≡ Some (suc vb) → (short ≡ false) × (rest ≡ Some vb)
found true rest vb e = absurd cc
found false None vb e = absurd cc
found false (Some k) vb e = (refl, cc)

found_first : (short : Bool) (rest : Option ℕ) → cond short (Some 0) (option_map suc rest) ≡ Some 0 → short ≡ true
found_first true rest e = refl
found_first false None e = absurd cc
found_first false (Some k) e = absurd cc

not_found : (short : Bool) (rest : Option ℕ) → cond short (Some 0) (option_map suc rest) ≡ None → (short ≡ false) × (rest ≡ None)
not_found true rest e = absurd cc
not_found false None e = (refl, refl)
not_found false (Some k) e = absurd cc

not_below : (m n : ℕ) → n ≤ m → nat_lt m n ≡ false
not_below m n h = grind (arith, nat_tests)

before_next : (have : List ℕ) (w : ℕ) (ws : List ℕ) (vb : ℕ) → w ≤ entry have 0 → ((k : ℕ) → k < vb → entry ws k ≤ entry (drop 1 have) k) → (k : ℕ) → k < suc vb → entry (w ∷ ws) k ≤ entry have k
before_next have w ws vb first rest zero h = first
before_next have w ws vb first rest (suc k) h = omega (arith, rest k (omega arith), entry-rest have k)

pub first_short-told : (have want : List ℕ) (vb : ℕ) → first_short have want ≡ Some vb → IsFirstShort have want vb
first_short-told have [] vb e = absurd cc
first_short-told have (w ∷ ws) zero e =
    let short = found_first (nat_lt (entry have 0) w) (first_short (drop 1 have) ws) e in
    record { within = omega arith; short = ltb-true _ _ short; before = λ k h. absurd (omega arith) }
first_short-told have (w ∷ ws) (suc vb) e =
    let later = found (nat_lt (entry have 0) w) (first_short (drop 1 have) ws) vb e in
    let rest = first_short-told (drop 1 have) ws vb later.1 in
    record {
      within = omega (arith, rest.within);
      short = omega (arith, rest.short, entry-rest have vb);
      before = before_next have w ws vb (ltb-false (entry have 0) w later.0) rest.before;
    }

pub first_short-found : (have want : List ℕ) (vb : ℕ) → IsFirstShort have want vb → first_short have want ≡ Some vb
first_short-found have [] vb is = absurd (omega (arith, is.within))
first_short-found have (w ∷ ws) zero is = let short : nat_lt (entry have 0) w ≡ true = lt-ltb _ _ is.short in rw short refl
first_short-found have (w ∷ ws) (suc vb) is =
    let first : nat_lt (entry have 0) w ≡ false = not_below (entry have 0) w (is.before 0 (omega arith)) in
    let rest = first_short-found (drop 1 have) ws vb (record {
      within = omega (arith, is.within);
      short = omega (arith, is.short, entry-rest have vb);
      before = λ k h. omega (arith, is.before (suc k) (omega arith), entry-rest have k);
    }) in
    rw first (ap (option_map suc) rest)

pub first_short-none : (have want : List ℕ) → first_short have want ≡ None → IsCovered want have
first_short-none have [] e vb h = absurd (omega arith)
first_short-none have (w ∷ ws) e zero h = ltb-false _ _ (not_found (nat_lt (entry have 0) w) (first_short (drop 1 have) ws) e).0
first_short-none have (w ∷ ws) e (suc vb) h =
    omega (arith, first_short-none (drop 1 have) ws (not_found (nat_lt (entry have 0) w) (first_short (drop 1 have) ws) e).1 vb (omega arith), entry-rest have vb)

pub first_short-covered : (have want : List ℕ) → IsCovered want have → first_short have want ≡ None
first_short-covered have [] c = refl
first_short-covered have (w ∷ ws) c =
    let first : nat_lt (entry have 0) w ≡ false = not_below (entry have 0) w (c 0 (omega arith)) in
    rw first (ap (option_map suc) (first_short-covered (drop 1 have) ws (λ vb h. omega (arith, c (suc vb) (omega arith), entry-rest have vb))))

none_is : (o : Option ℕ) → is_none o ≡ true → o ≡ None
none_is None e = refl
none_is (Some vb) e = absurd (true≢false (sym e))

pub covers-told : (have want : List ℕ) → covers have want ≡ true → IsCovered want have
covers-told have want e = first_short-none have want (none_is (first_short have want) e)

pub covers-found : (have want : List ℕ) → IsCovered want have → covers have want ≡ true
covers-found have want c = ap is_none (first_short-covered have want c)
