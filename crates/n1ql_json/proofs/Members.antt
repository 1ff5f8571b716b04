-- Reading the items of an array and the members of an object, one after another.
use Rattle.std.proofs.Common.{◌≡◌, ℕ, List, [], ◌∷◌, ◌++◌, Option, Some, None, option_map, Less, Greater, string_bytes, string_cmp, nat_cmp, refl, sym, ap, ◌∙◌, subst, append_assoc}
use Rattle.std.specs.Prelude.{⊤}
use Rattle.std.proofs.lemmas.Cmp.{nat_list_cmp_total}
use Rattle.std.specs.Cmp.Lexicographic.{slice_cmp}
use Rattle.std.specs.List.{AllByRecursion}
use Rattle.std.specs.List.Sorted.{IsStrictlySortedBy}
use Rattle.std.specs.Map.{keys_of}
use Rattle.std.specs.Ordering.{ordering_reverse}
use Rattle.serde_json.specs.View.{view, members_view}
use Rattle.serde_json.proofs.Views.{Entry as JsonEntry}
use Rattle.n1ql_value.specs.declared.datum.Datum.{Datum}
use Rattle.n1ql_value.specs.Names.{with_pair}
use Rattle.n1ql_json.specs.Reads.{value_read, members_read}

abbrev pub Entry : Type 0
Entry = JsonEntry

abbrev pub Pair : Type 0
Pair = List ℕ × Datum

-- the pairs have the names of the entries
abbrev pub IsNamed : List Entry → List Pair → Type 0
IsNamed [] [] = ⊤
IsNamed [] (p ∷ ps) = ⊥
IsNamed (e ∷ es) [] = ⊥
IsNamed (e ∷ es) (p ∷ ps) = (p.0 ≡ string_bytes e.0) × IsNamed es ps

module _ {A : Type 0} where
  -- what was taken, and one more, before what is left
  pub moved : (front rest : List A) (a : A) (o : Option (List A)) → option_map (λ (xs : List A). front ++ xs) (option_map (λ (xs : List A). a ∷ xs) o) ≡ option_map (λ (xs : List A). (front ++ a ∷ []) ++ xs) o
  moved front rest a None = refl
  moved front rest a (Some xs) = ap Some (sym (append_assoc front (a ∷ []) xs))

below_middle : (first : Entry) (es : List Entry) (e : Entry) (more : List Entry) → AllByRecursion (λ y. string_cmp first.0 y ≡ Less) (keys_of (es ++ e ∷ more)) → string_cmp first.0 e.0 ≡ Less
below_middle first [] e more h = h.0
below_middle first (x ∷ es) e more h = below_middle first es e more h.1

-- a name above those before it goes last
pub with_pair_last : (done : List Entry) (e : Entry) (more : List Entry) (ps : List Pair) (d : Datum) → IsNamed done ps → IsStrictlySortedBy string_cmp (keys_of (done ++ e ∷ more))
    → with_pair (string_bytes e.0) d ps ≡ ps ++ (string_bytes e.0, d) ∷ []
unfolding IsStrictlySortedBy
with_pair_last [] e more [] d n h = refl
with_pair_last [] e more (p ∷ ps) d n h = absurd n
with_pair_last (x ∷ done) e more [] d n h = absurd n
with_pair_last (x ∷ done) e more (p ∷ ps) d n h =
    let above : slice_cmp nat_cmp (string_bytes e.0) p.0 ≡ Greater =
    ap (slice_cmp nat_cmp (string_bytes e.0)) n.0 ∙ (nat_list_cmp_total.antisymm (string_bytes e.0) (string_bytes x.0) ∙ ap ordering_reverse (below_middle x done e more h.0)) in
    rw above (ap (λ qs. p ∷ qs) (with_pair_last done e more ps d n.1 h.1))

pub IsNamed-push : (done : List Entry) (ps : List Pair) (e : Entry) (p : Pair) → IsNamed done ps → p.0 ≡ string_bytes e.0 → IsNamed (done ++ e ∷ []) (ps ++ p ∷ [])
IsNamed-push [] [] e p n same = (same, tt)
IsNamed-push [] (q ∷ ps) e p n same = absurd n
IsNamed-push (x ∷ done) [] e p n same = absurd n
IsNamed-push (x ∷ done) (q ∷ ps) e p n same = (n.0, IsNamed-push done ps e p n.1 same)

-- a member that is read joins the pairs
pub member_step : (e : Entry) (left : List Entry) (d : Datum) (ps : List Pair) → value_read (view e.1) ≡ Some d
    → option_map (λ (qs : List Pair). ps ++ qs) (members_read (members_view (e ∷ left))) ≡ option_map (λ (qs : List Pair). (ps ++ (string_bytes e.0, d) ∷ []) ++ qs) (members_read (members_view left))
member_step e left d ps is = rw is (moved ps [] (string_bytes e.0, d) (members_read (members_view left)))

-- one turn over the members
pub members_step : (all left : List Entry) (done : List Entry) (e : Entry) (ps new : List Pair) (name : List ℕ) (d : Datum)
    → all ≡ done ++ e ∷ left → IsStrictlySortedBy string_cmp (keys_of all) → IsNamed done ps
    → members_read (members_view all) ≡ option_map (λ (qs : List Pair). ps ++ qs) (members_read (members_view (e ∷ left)))
    → value_read (view e.1) ≡ Some d → name ≡ string_bytes e.0 → new ≡ with_pair name d ps
    → (more : List Entry) × (all ≡ more ++ left) × IsNamed more new × (members_read (members_view all) ≡ option_map (λ (qs : List Pair). new ++ qs) (members_read (members_view left)))
members_step all left done e ps new name d is sorted named before read same put =
    let last : new ≡ ps ++ (string_bytes e.0, d) ∷ [] =
    put ∙ (ap (λ (n : List ℕ). with_pair n d ps) same ∙ with_pair_last done e left ps d named (subst (λ (es : List Entry). IsStrictlySortedBy string_cmp (keys_of es)) is sorted)) in (
      done ++ e ∷ [],
      is ∙ sym (append_assoc done (e ∷ []) left),
      subst (λ (qs : List Pair). IsNamed (done ++ e ∷ []) qs) (sym last) (IsNamed-push done ps e (string_bytes e.0, d) named refl),
      before ∙ (member_step e left d ps read ∙ ap (λ (front : List Pair). option_map (λ (qs : List Pair). front ++ qs) (members_read (members_view left))) (sym last)),
    )
