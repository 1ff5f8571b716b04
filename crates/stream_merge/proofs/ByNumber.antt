-- Positions by the numbers of their indexes, as a tree map has them.
use Rattle.std.proofs.Common.{◌≡◌, ℕ, cond, List, [], ◌∷◌, refl, sym, ap, ◌∙◌, subst, Some, None, Option, MutBor}
use Rattle.std.proofs.lemmas.Cmp.{nat_cmp_total}
use Rattle.std.specs.Cmp.{eq_by_cmp_equiv}
use Rattle.std.specs.FinMap as map
use Rattle.std.specs.FinMap.{nat_cmp-IsAntisymmetric}
use Rattle.std.specs.FinMap.Entries.{find}
use Rattle.std.specs.BTreeMap as tree
use Rattle.std.specs.BTreeMap.{BTreeMap, UpdatesBy, is_at}
use Rattle.std.specs.Map.{lookup}
use Rattle.std.specs.Option.{option_copied_mut}
use Rattle.std.specs.Prelude.{IsSome, OnSome}
use Rattle.std.specs.Ordering.{is_eq, nat_cmp, eq_by_cmp}
use Rattle.dcp_stream.specs.Pieces.{Marked}

abbrev pub seen_in : BTreeMap ℕ Marked → map.FinMap nat_cmp Marked
seen_in m = map.from_entries m.entries

find_is_lookup : {X : Type 0} (q : ℕ) (es : List (ℕ × X)) → find nat_cmp q es ≡ lookup (is_at (nat_cmp q)) es
find_is_lookup q [] = refl
find_is_lookup q (e ∷ es) = ap (λ v. cond (is_eq (nat_cmp q e.0)) (Some e.1) v) (find_is_lookup q es)

pub get-seen_in : (m : BTreeMap ℕ Marked) (q : ℕ) → map.get (seen_in m) q ≡ tree.get nat_cmp m q
get-seen_in m q = map.get-from_entries nat_cmp_total m.entries q ∙ find_is_lookup q m.entries

pub seen_in-insert : (m n : BTreeMap ℕ Marked) (k : ℕ) (w : Marked) → UpdatesBy nat_cmp (nat_cmp k) m n (Some w) → seen_in n ≡ map.insert (seen_in m) k w
seen_in-insert m n k w u =
    map.same_map nat_cmp_total nat_cmp-IsAntisymmetric _ _ (λ q.
    get-seen_in n q ∙ u.0 q
    ∙ ap (λ b. cond b (Some w) (tree.get nat_cmp m q)) ((eq_by_cmp_equiv nat_cmp_total).symm k q)
    ∙ ap (cond (eq_by_cmp nat_cmp q k) (Some w)) (sym (get-seen_in m q))
    ∙ sym (map.get-insert nat_cmp_total (seen_in m) k w q))

pub seen_in-remove : (m n : BTreeMap ℕ Marked) (k : ℕ) → UpdatesBy nat_cmp (nat_cmp k) m n None → seen_in n ≡ map.remove (seen_in m) k
seen_in-remove m n k u =
    map.same_map nat_cmp_total nat_cmp-IsAntisymmetric _ _ (λ q.
    get-seen_in n q ∙ u.0 q
    ∙ ap (λ b. cond b None (tree.get nat_cmp m q)) ((eq_by_cmp_equiv nat_cmp_total).symm k q)
    ∙ ap (cond (eq_by_cmp nat_cmp q k) None) (sym (get-seen_in m q))
    ∙ sym (map.get-remove nat_cmp_total (seen_in m) k q))

-- what holds where something is found
pub where_found : (r : Option (MutBor Marked)) (found : Option Marked) (P : Type 0) → option_copied_mut r ≡ found → (IsSome found → P) → OnSome r P
where_found None found P e f = tt
where_found (Some x) found P e f = f (subst IsSome e refl)
