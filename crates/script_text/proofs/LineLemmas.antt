-- Texts with commas, and the entries of a vector.
use Rattle.std.proofs.Common.{◌≡◌, ℕ, zero, suc, ◌+◌, ◌<◌, List, [], ◌∷◌, ◌++◌, Bool, true, false, cond, eqb, length, get_or, take, drop, map, Less, Equal, Greater, refl, ap, sym, ◌∙◌, arith, append_assoc, append-nil, add-one, inl, inr}
use Rattle.std.specs.Prelude.{◌||◌, decimal, flat_map}
use Rattle.std.specs.Cmp.Lexicographic.{slice_cmp}
use Rattle.std.specs.Ordering.{match_ordering, nat_cmp}
use Rattle.std.specs.declared.cmp.Ordering.{Ordering}
use Rattle.std.proofs.lemmas.List.{take_more, map-append, flat_map_more, length-map, length-take-le}
use Rattle.std.proofs.lemmas.Bool.Decides.{eqb_tells}
use Rattle.std.proofs.Math.Seq.{drop-cons}
use Rattle.serde_json.specs.Data.{Members, no_members, member, number, unsigned, put}
use Rattle.serde_json.specs.Written.{has_float, members_have_float}
use Rattle.std.specs.Borrow.{Bor}
use Rattle.script_text.specs.declared.reporting.member.ReportValue.{ReportValue}
use Rattle.script_text.specs.inner.ReportMembers.{written, named_texts}
use Rattle.script_text.specs.Lines.{joined, member_text, object_of, line_of, with_entries}

not_zero : (n : ℕ) → eqb (suc n) 0 ≡ false
not_zero n = elim (eqb_tells (suc n) 0) [ inl w ↦ absurd (omega (arith, w.1)) | inr w ↦ w.0 ]

joined_push : (ts : List (List ℕ)) (t : List ℕ) → joined (ts ++ t ∷ []) ≡ joined ts ++ (cond (eqb (length ts) 0) [] (44 ∷ []) ++ t)
joined_push [] t = append-nil t
joined_push (u ∷ ts) t =
    let before : List ℕ = u ++ flat_map (λ v. 44 ∷ v) ts in
    sym (flat_map_more (λ v. 44 ∷ v) u ts t) ∙ ap (λ b. before ++ (cond b [] (44 ∷ []) ++ t)) (sym (not_zero (length ts)))

-- two parts and three parts, one behind the other
pub two_parts : (o a b x y : List ℕ) → a ≡ o ++ x → b ≡ a ++ y → b ≡ o ++ (x ++ y)
two_parts o a b x y p q = q ∙ (ap (λ s. s ++ y) p ∙ append_assoc o x y)

pub three_parts : (o a b c x y z : List ℕ) → a ≡ o ++ x → b ≡ a ++ y → c ≡ b ++ z → c ≡ o ++ (x ++ (y ++ z))
three_parts o a b c x y z p q r = r ∙ (ap (λ s. s ++ z) (two_parts o a b x y p q) ∙ (append_assoc o (x ++ y) z ∙ ap (λ s. o ++ s) (append_assoc x y z)))

-- an object that isn't closed
abbrev pub opened : List (List ℕ × List ℕ) → List ℕ
opened ms = 123 ∷ joined (map member_text ms)

-- members by their texts
pub written_texts : (ms : List (Bor (List ℕ) × ReportValue)) → map written ms ≡ map member_text (named_texts ms)
written_texts [] = refl
written_texts (m ∷ ms) = ap (λ ts. written m ∷ ts) (written_texts ms)

pub end_of_object : (o a b : List ℕ) (ms : List (List ℕ × List ℕ)) → a ≡ o ++ opened ms → b ≡ a ++ 125 ∷ [] → b ≡ o ++ object_of ms
end_of_object o a b ms h g = two_parts o a b (opened ms) (125 ∷ []) h g

pub end_of_line : (o a b : List ℕ) (ms : List (List ℕ × List ℕ)) → a ≡ o ++ opened ms → b ≡ a ++ 125 ∷ 10 ∷ [] → b ≡ o ++ line_of ms
end_of_line o a b ms h g =
    two_parts o a b (opened ms) (125 ∷ 10 ∷ []) h g
    ∙ ap (λ s. o ++ 123 ∷ s) (sym (append_assoc (joined (map member_text ms)) (125 ∷ []) (10 ∷ [])))

-- one more item
pub item_more : {X : Type 0} (f : X → List ℕ) (xs : List X) (i : ℕ) (x : X) (o a b c : List ℕ) → i < length xs → x ≡ get_or xs i x
    → a ≡ o ++ joined (map f (take i xs)) → b ≡ a ++ cond (eqb i 0) [] (44 ∷ []) → c ≡ b ++ f x → c ≡ o ++ joined (map f (take (i + 1) xs))
item_more {X} f xs i x o a b c lt is ha hb hc =
    let before : List (List ℕ) = map f (take i xs) in
    let n : length before ≡ i = length-map (take i xs) f ∙ length-take-le i xs (omega arith) in
    let more : map f (take (i + 1) xs) ≡ before ++ f x ∷ [] =
    ap (map f) (take_more xs i x lt) ∙ (map-append f (take i xs) (get_or xs i x ∷ []) ∙ ap (λ (y : X). before ++ f y ∷ []) (sym is)) in
    let comma : List ℕ = cond (eqb i 0) [] (44 ∷ []) in
    let pushed : joined (map f (take (i + 1) xs)) ≡ joined before ++ (comma ++ f x) =
    ap joined more ∙ (joined_push before (f x) ∙ ap (λ k. joined before ++ (cond (eqb k 0) [] (44 ∷ []) ++ f x)) n) in
    hc ∙ (ap (λ s. s ++ f x) (hb ∙ ap (λ s. s ++ comma) ha)
    ∙ (append_assoc (o ++ joined before) comma (f x) ∙ (append_assoc o (joined before) (comma ++ f x) ∙ ap (λ s. o ++ s) (sym pushed))))

same_from : (xs : List ℕ) (i d e : ℕ) → i < length xs → get_or xs i d ≡ get_or xs i e
same_from [] i d e h = absurd (omega arith)
same_from (x ∷ xs) zero d e h = refl
same_from (x ∷ xs) (suc i) d e h = same_from xs i d e (omega arith)

-- a number that is read at any default
pub same_at : (xs : List ℕ) (i : ℕ) → i < length xs → get_or xs i 0 ≡ get_or xs i (get_or xs i 0)
same_at xs i h = same_from xs i 0 (get_or xs i 0) h

-- one more entry
pub entry_more : (v : List ℕ) (vb : ℕ) (old new all : Members) → vb < length v
    → new ≡ cond (eqb (get_or v vb 0) 0) old (put (decimal vb) (number (unsigned (get_or v vb 0))) old)
    → with_entries vb (drop vb v) old ≡ all → with_entries (vb + 1) (drop (vb + 1) v) new ≡ all
entry_more v vb old new all lt is h =
    ap (with_entries (vb + 1) (drop (vb + 1) v)) is
    ∙ (ap (λ k. with_entries (vb + 1) (drop k v) (cond (eqb (get_or v vb 0) 0) old (put (decimal vb) (number (unsigned (get_or v vb 0))) old))) (add-one vb)
    ∙ (sym (ap (λ ns. with_entries vb ns old) (drop-cons v vb 0 lt)) ∙ h))

or_parts : (a b : Bool) → (a || b) ≡ false → (a ≡ false) × (b ≡ false)
or_parts true b h = absurd cc
or_parts false b h = (refl, h)

or_false : (a b : Bool) → a ≡ false → b ≡ false → (a || b) ≡ false
or_false true b h g = h
or_false false b h g = g

free_of : (o : Ordering) (a b c : Members) → members_have_float a ≡ false → members_have_float b ≡ false → members_have_float c ≡ false → members_have_float (match_ordering o a b c) ≡ false
free_of Less a b c ha hb hc = ha
free_of Equal a b c ha hb hc = hb
free_of Greater a b c ha hb hc = hc

put_free : (k : List ℕ) (n : ℕ) (ms : Members) → members_have_float ms ≡ false → members_have_float (put k (number (unsigned n)) ms) ≡ false
put_free k n no_members h = refl
put_free k n (member l e ms) h =
    let parts = or_parts (has_float e) (members_have_float ms) h in
    free_of (slice_cmp nat_cmp k l) (member k (number (unsigned n)) (member l e ms)) (member l (number (unsigned n)) ms) (member l e (put k (number (unsigned n)) ms))
    h parts.1 (or_false (has_float e) (members_have_float (put k (number (unsigned n)) ms)) parts.0 (put_free k n ms parts.1))

free_if : (b : Bool) (x y : Members) → members_have_float x ≡ false → members_have_float y ≡ false → members_have_float (cond b x y) ≡ false
free_if true x y h g = h
free_if false x y h g = g

-- no entry is a float
pub entries_free : (vb : ℕ) (ns : List ℕ) (ms : Members) → members_have_float ms ≡ false → members_have_float (with_entries vb ns ms) ≡ false
entries_free vb [] ms h = h
entries_free vb (n ∷ ns) ms h =
    entries_free (vb + 1) ns (cond (eqb n 0) ms (put (decimal vb) (number (unsigned n)) ms))
    (free_if (eqb n 0) ms (put (decimal vb) (number (unsigned n)) ms) h (put_free (decimal vb) n ms h))
