-- The order of rows is total, and rows that it calls equal are the same.
use Rattle.std.specs.Prelude.{◌≡◌, ◌≤◌, ℕ, zero, suc, max, List, [], ◌∷◌, length, refl}
use Rattle.std.proofs.Common.{sym, ap, ◌∙◌, arith}
use Rattle.std.specs.Cmp.{IsTotalOrder}
use Rattle.std.proofs.lemmas.Cmp.{nat_cmp_total, nat_list_cmp_total, on_total, then_total, lists_total, tied_itself}
use Rattle.std.specs.Ordering.{ordering_then, ordering_reverse}
use Rattle.std.specs.declared.cmp.Ordering.TheVariants.{Equal}
use Rattle.std.specs.Cmp.Lexicographic.{slice_cmp}
use Rattle.n1ql_value.specs.declared.datum.Datum.{Datum}
use Rattle.n1ql_value.specs.declared.datum.Datum.TheVariants.{Missing}
use Rattle.n1ql_value.specs.declared.row.Row.{Row}
use Rattle.n1ql_value.specs.Collation.{value_cmp, keys_cmp, row_cmp}
use Rattle.n1ql_value.specs.inner.CollationLaws.{value_cmp-total, value_cmp-exact, then_equal, nat_cmp-exact, bytes-exact}

-- the keys at n places
abbrev padded : ℕ → List Datum → List Datum
padded zero ks = []
padded (suc n) [] = Missing ∷ padded n []
padded (suc n) (k ∷ ks) = k ∷ padded n ks

missing_is_itself : value_cmp Missing Missing ≡ Equal
missing_is_itself = tied_itself value_cmp-total Missing

keys_cmp-padded : (n : ℕ) (js ks : List Datum) → length js ≤ n → length ks ≤ n → keys_cmp js ks ≡ slice_cmp value_cmp (padded n js) (padded n ks)
keys_cmp-padded zero [] [] h k = refl
keys_cmp-padded zero [] (x ∷ xs) h k = absurd (omega arith)
keys_cmp-padded zero (x ∷ xs) ks h k = absurd (omega arith)
keys_cmp-padded (suc n) [] [] h k = keys_cmp-padded n [] [] (omega arith) (omega arith) ∙ sym (ap (λ o. ordering_then o (slice_cmp value_cmp (padded n []) (padded n []))) missing_is_itself)
keys_cmp-padded (suc n) [] (x ∷ xs) h k = ap (ordering_then (value_cmp Missing x)) (keys_cmp-padded n [] xs (omega arith) (omega arith))
keys_cmp-padded (suc n) (x ∷ xs) [] h k = ap (ordering_then (value_cmp x Missing)) (keys_cmp-padded n xs [] (omega arith) (omega arith))
keys_cmp-padded (suc n) (x ∷ xs) (y ∷ ys) h k = ap (ordering_then (value_cmp x y)) (keys_cmp-padded n xs ys (omega arith) (omega arith))

padded-total : (n : ℕ) → IsTotalOrder (λ (js ks : List Datum). slice_cmp value_cmp (padded n js) (padded n ks))
padded-total n = on_total (padded n) (lists_total value_cmp-total)

pub keys_cmp-total : IsTotalOrder keys_cmp
keys_cmp-total = record {
  antisymm = λ a b.
      let n : ℕ = max (length a) (length b) in
      keys_cmp-padded n a b (omega arith) (omega arith) ∙ ((padded-total n).antisymm a b ∙ ap ordering_reverse (sym (keys_cmp-padded n b a (omega arith) (omega arith))));
  trans = λ a b c h k.
      let n : ℕ = max (length a) (max (length b) (length c)) in
      keys_cmp-padded n a c (omega arith) (omega arith) ∙ (padded-total n).trans a b c (sym (keys_cmp-padded n a b (omega arith) (omega arith)) ∙ h) (sym (keys_cmp-padded n b c (omega arith) (omega arith)) ∙ k);
  congr = λ a b c h.
      let n : ℕ = max (length a) (max (length b) (length c)) in
      keys_cmp-padded n a c (omega arith) (omega arith) ∙ ((padded-total n).congr a b c (sym (keys_cmp-padded n a b (omega arith) (omega arith)) ∙ h) ∙ sym (keys_cmp-padded n b c (omega arith) (omega arith)));
}

pub row_cmp-total : IsTotalOrder row_cmp
row_cmp-total =
    then_total (on_total (λ (a : Row). a.keys) keys_cmp-total)
    (then_total (on_total (λ (a : Row). length a.keys) nat_cmp_total) (on_total (λ (a : Row). a.id) nat_list_cmp_total))

same_keys : (js ks : List Datum) → length js ≡ length ks → keys_cmp js ks ≡ Equal → js ≡ ks
same_keys [] [] l e = refl
same_keys [] (k ∷ ks) l e = absurd (omega arith)
same_keys (j ∷ js) [] l e = absurd (omega arith)
same_keys (j ∷ js) (k ∷ ks) l e =
    let both = then_equal (value_cmp j k) (keys_cmp js ks) e in
    cc (value_cmp-exact j k both.0, same_keys js ks (omega arith) both.1)

same_row : (a b : Row) → a.keys ≡ b.keys → a.id ≡ b.id → a ≡ b
same_row a b keys id = ap (λ (ks : List Datum). let row : Row = record { keys = ks; id = a.id } in row) keys ∙ ap (λ (i : List ℕ). let row : Row = record { keys = b.keys; id = i } in row) id

pub row_cmp-exact : (a b : Row) → row_cmp a b ≡ Equal → a ≡ b
row_cmp-exact a b equal =
    let keys = then_equal _ _ equal in
    let count = then_equal _ _ keys.1 in
    same_row a b (same_keys a.keys b.keys (nat_cmp-exact (length a.keys) (length b.keys) count.0) keys.0) (bytes-exact a.id b.id count.1)
