-- The text of a vector, which tells each of its entries.
use Rattle.std.proofs.Common.{◌≡◌, ℕ, zero, suc, ◌+◌, ◌^◌, ◌<◌, ◌≤◌, Bool, true, false, cond, eqb, List, [], ◌∷◌, ◌++◌, length, get_or, drop, Option, Some, None, Less, Equal, Greater, inl, inr, refl, sym, ap, ◌∙◌, subst, append_assoc, append-nil, decimal, arith}
use Rattle.std.specs.List.{AllByRecursion}
use Rattle.std.specs.Cmp.Lexicographic.{slice_cmp}
use Rattle.std.specs.Ordering.{match_ordering, nat_cmp}
use Rattle.std.specs.declared.cmp.Ordering.{Ordering}
use Rattle.std.proofs.lemmas.Bool.Decides.{eqb_tells}
use Rattle.json.specs.Print.{escape, quoted}
use Rattle.json.proofs.Printed.Strings.{escape_byte_plain}
use Rattle.serde_json.specs.Data.{Data, null, boolean, number, string, array, object, Members, no_members, member, unsigned, put}
use Rattle.serde_json.specs.Find.{get_member}
use Rattle.serde_json.specs.Written.{comma_if, compact_text, members_text}
use Rattle.serde_json.proofs.Views.{get_member-put, get_member-put_other}
use Rattle.script_text.specs.Lines.{with_entries, vector_text}
use Rattle.script_text.proofs.Decimals.{IsDigit, AreDigits, IsWritten, decimal_digits, decimal_tells, after_decimal, read_decimal}

-- a member is the entry of a vBucket
pub record IsEntry (k : List ℕ) (d : Data) : Type 0 where
  pub vb : ℕ
  pub n : ℕ
  pub written : IsWritten n
  pub name : k ≡ decimal vb
  pub value : d ≡ number (unsigned n)

abbrev AreEntries : Members → Type 0
AreEntries no_members = Unit {0}
AreEntries (member k d ms) = IsEntry k d × AreEntries ms

placed : (o : Ordering) (a b c : Members) → AreEntries a → AreEntries b → AreEntries c → AreEntries (match_ordering o a b c)
placed Less a b c p q r = p
placed Equal a b c p q r = q
placed Greater a b c p q r = r

put_entry : (vb n : ℕ) (ms : Members) → IsWritten n → AreEntries ms → AreEntries (put (decimal vb) (number (unsigned n)) ms)
put_entry vb n no_members small all = (record { vb = vb; n = n; written = small; name = refl; value = refl }, tt)
put_entry vb n (member l e ms) small all =
    let d : Data = number (unsigned n) in
    let it : IsEntry (decimal vb) d = record { vb = vb; n = n; written = small; name = refl; value = refl } in
    let here : IsEntry l d → AreEntries (member l d ms) = λ i. (i, all.1) in
    placed (slice_cmp nat_cmp (decimal vb) l) (member (decimal vb) d (member l e ms)) (member l d ms) (member l e (put (decimal vb) d ms))
    (it, all) (record { vb = all.0.vb; n = n; written = small; name = all.0.name; value = refl }, all.1) (all.0, put_entry vb n ms small all.1)

kept_if : (P : Members → Type 0) (b : Bool) (x y : Members) → P x → P y → P (cond b x y)
kept_if P true x y p q = p
kept_if P false x y p q = q

are_entries : (vb : ℕ) (ns : List ℕ) (ms : Members) → AllByRecursion IsWritten ns → AreEntries ms → AreEntries (with_entries vb ns ms)
are_entries vb [] ms small all = all
are_entries vb (n ∷ ns) ms small all =
    are_entries (vb + 1) ns (cond (eqb n 0) ms (put (decimal vb) (number (unsigned n)) ms)) small.1
    (kept_if AreEntries (eqb n 0) ms (put (decimal vb) (number (unsigned n)) ms) all (put_entry vb n ms small.0 all))

-- digits need no escape
plain : (ds : List ℕ) → AreDigits ds → escape ds ≡ ds
plain [] all = refl
plain (d ∷ ds) all =
    ap (λ l. l ++ escape ds) (escape_byte_plain d (λ e. omega (arith, all.0)) (λ e. omega (arith, all.0)) (omega (arith, all.0)))
    ∙ ap (λ l. d ∷ l) (plain ds all.1)

quoted_decimal : (vb : ℕ) → quoted (decimal vb) ≡ 34 ∷ (decimal vb ++ 34 ∷ [])
quoted_decimal vb = ap (λ l. 34 ∷ (l ++ 34 ∷ [])) (plain (decimal vb) (decimal_digits vb))

-- the text of a member and of those behind it
abbrev entry_text : ℕ → ℕ → List ℕ → List ℕ
entry_text vb n rest = 34 ∷ (decimal vb ++ 34 ∷ 58 ∷ (decimal n ++ rest))

entry_is : (k : List ℕ) (d : Data) (more : List ℕ) (i : IsEntry k d) → quoted k ++ 58 ∷ (compact_text d ++ more) ≡ entry_text i.vb i.n more
entry_is k d more i =
    ap (λ l. quoted l ++ 58 ∷ (compact_text d ++ more)) i.name
    ∙ (ap (λ x. quoted (decimal i.vb) ++ 58 ∷ (compact_text x ++ more)) i.value
    ∙ (ap (λ l. l ++ 58 ∷ (decimal i.n ++ more)) (quoted_decimal i.vb)
    ∙ ap (λ l. 34 ∷ l) (append_assoc (decimal i.vb) (34 ∷ []) (58 ∷ (decimal i.n ++ more)))))

-- what stands behind the value of a member: the next one, or the end
pub record Follows (ms : Members) (r : List ℕ) : Type 0 where
  pub byte : ℕ
  pub rest : List ℕ
  pub other : IsDigit byte → ⊥
  pub text : members_text true ms ++ r ≡ byte ∷ rest

follows : (ms : Members) (r : List ℕ) → Follows ms r
follows no_members r = record { byte = 125; rest = r; other = λ d. omega (arith, d); text = refl }
follows (member k d ms) r = record { byte = 44; rest = (quoted k ++ 58 ∷ (compact_text d ++ members_text true ms)) ++ r; other = λ d. omega (arith, d); text = refl }

entries_read : (v w x y : ℕ) (ms others : Members) (r s : List ℕ) → IsWritten x → IsWritten y
    → entry_text v x (members_text true ms ++ r) ≡ entry_text w y (members_text true others ++ s)
    → (decimal v ≡ decimal w) × (x ≡ y) × (members_text true ms ++ r ≡ members_text true others ++ s)
entries_read v w x y ms others r s px py e =
    let inside : decimal v ++ 34 ∷ 58 ∷ (decimal x ++ (members_text true ms ++ r)) ≡ decimal w ++ 34 ∷ 58 ∷ (decimal y ++ (members_text true others ++ s)) = cc in
    let names = after_decimal v w (58 ∷ (decimal x ++ (members_text true ms ++ r))) (58 ∷ (decimal y ++ (members_text true others ++ s))) 34 34 (λ d. omega (arith, d)) (λ d. omega (arith, d)) inside in
    let tail : decimal x ++ (members_text true ms ++ r) ≡ decimal y ++ (members_text true others ++ s) = let behind = names.1 in cc in
    let f = follows ms r in
    let g = follows others s in
    let values = read_decimal x y f.rest g.rest f.byte g.byte px py f.other g.other
    (ap (λ l. decimal x ++ l) (sym f.text) ∙ (tail ∙ ap (λ l. decimal y ++ l) g.text)) in
    (names.0, values.0, f.text ∙ (values.1 ∙ sym g.text))

front : (later : Bool) (k : List ℕ) (d : Data) (ms : Members) (r : List ℕ) (i : IsEntry k d)
    → members_text later (member k d ms) ++ r ≡ comma_if later ++ entry_text i.vb i.n (members_text true ms ++ r)
front later k d ms r i =
    append_assoc (comma_if later) (quoted k ++ 58 ∷ (compact_text d ++ members_text true ms)) r
    ∙ ap (λ l. comma_if later ++ l)
    (append_assoc (quoted k) (58 ∷ (compact_text d ++ members_text true ms)) r
    ∙ (ap (λ l. quoted k ++ 58 ∷ l) (append_assoc (compact_text d) (members_text true ms) r) ∙ entry_is k d (members_text true ms ++ r) i))

uncomma : (later : Bool) (a b : List ℕ) → comma_if later ++ a ≡ comma_if later ++ b → a ≡ b
uncomma true a b e = cc
uncomma false a b e = e

-- the end is no member
no_entry : (later : Bool) (r t : List ℕ) → 125 ∷ r ≡ comma_if later ++ 34 ∷ t → ⊥
no_entry true r t e = omega (arith, ap (λ l. get_or l 0 0) e)
no_entry false r t e = omega (arith, ap (λ l. get_or l 0 0) e)

no_member : (later : Bool) (k : List ℕ) (d : Data) (ms : Members) (r s : List ℕ) → IsEntry k d → 125 ∷ r ≡ members_text later (member k d ms) ++ s → ⊥
no_member later k d ms r s i e =
    no_entry later r (decimal i.vb ++ 34 ∷ 58 ∷ (decimal i.n ++ (members_text true ms ++ s))) (e ∙ front later k d ms s i)

next_read : (later : Bool) (k l : List ℕ) (d f : Data) (ms others : Members) (r s : List ℕ) → IsEntry k d → IsEntry l f
    → (members_text true ms ++ r ≡ members_text true others ++ s → (ms ≡ others) × (r ≡ s))
    → members_text later (member k d ms) ++ r ≡ members_text later (member l f others) ++ s → (member k d ms ≡ member l f others) × (r ≡ s)
next_read later k l d f ms others r s i j rest e =
    let parts = entries_read i.vb j.vb i.n j.n ms others r s i.written j.written
    (uncomma later (entry_text i.vb i.n (members_text true ms ++ r)) (entry_text j.vb j.n (members_text true others ++ s))
    (sym (front later k d ms r i) ∙ (e ∙ front later l f others s j))) in
    let behind = rest parts.2 in
    let name : k ≡ l = i.name ∙ (parts.0 ∙ sym j.name) in
    let value : d ≡ f = i.value ∙ (ap (λ n. number (unsigned n)) parts.1 ∙ sym j.value) in
    (ap (λ x. member x d ms) name ∙ (ap (λ x. member l x ms) value ∙ ap (member l f) behind.0), behind.1)

members_read : (later : Bool) (ms others : Members) (r s : List ℕ) → AreEntries ms → AreEntries others
    → members_text later ms ++ r ≡ members_text later others ++ s → (ms ≡ others) × (r ≡ s)
members_read later no_members no_members r s p q e = (refl, ap (drop 1) e)
members_read later no_members (member k d ms) r s p q e = absurd (no_member later k d ms r s q.0 e)
members_read later (member k d ms) no_members r s p q e = absurd (no_member later k d ms s r p.0 (sym e))
members_read later (member k d ms) (member l f others) r s p q e =
    next_read later k l d f ms others r s p.0 q.0 (members_read true ms others r s p.1 q.1) e

-- the number of an entry, 0 where there is none
abbrev entry_of : Option Data → ℕ
entry_of (Some (number (unsigned n))) = n
entry_of _ = 0

-- no entry from a vBucket on
abbrev IsBare : ℕ → Members → Type 0
IsBare vb ms = (i : ℕ) → vb ≤ i → IsWritten i → get_member (decimal i) ms ≡ None

bare_next : (vb n : ℕ) (ms : Members) → IsWritten vb → IsBare vb ms → IsBare (vb + 1) (cond (eqb n 0) ms (put (decimal vb) (number (unsigned n)) ms))
bare_next vb n ms small bare i le written =
    kept_if (λ x. get_member (decimal i) x ≡ None) (eqb n 0) ms (put (decimal vb) (number (unsigned n)) ms) (bare i (omega arith) written)
    (get_member-put_other (decimal i) (decimal vb) (number (unsigned n)) ms (λ same. let e : i ≡ vb = decimal_tells i vb written small same in omega arith)
    ∙ bare i (omega arith) written)

-- entries that go in later leave those before
before : (vb : ℕ) (ns : List ℕ) (ms : Members) (i : ℕ) → i < vb → vb + length ns ≤ 10 ^ 64
    → get_member (decimal i) (with_entries vb ns ms) ≡ get_member (decimal i) ms
before vb [] ms i lt fits = refl
before vb (n ∷ ns) ms i lt fits =
    let put_in : Members = put (decimal vb) (number (unsigned n)) ms in
    before (vb + 1) ns (cond (eqb n 0) ms put_in) i (omega arith) (omega arith)
    ∙ kept_if (λ x. get_member (decimal i) x ≡ get_member (decimal i) ms) (eqb n 0) ms put_in refl
    (get_member-put_other (decimal i) (decimal vb) (number (unsigned n)) ms (λ same. let e : i ≡ vb = decimal_tells i vb (omega arith) (omega arith) same in omega arith))

first_found : (vb n : ℕ) (ns : List ℕ) (ms : Members) → vb + suc (length ns) ≤ 10 ^ 64 → IsBare vb ms
    → entry_of (get_member (decimal vb) (with_entries vb (n ∷ ns) ms)) ≡ n
first_found vb n ns ms fits bare =
    let put_in : Members = put (decimal vb) (number (unsigned n)) ms in
    ap entry_of (before (vb + 1) ns (cond (eqb n 0) ms put_in) vb (omega arith) (omega arith))
    ∙ elim (eqb_tells n 0) [
      | inl is ↦ ap (λ b. entry_of (get_member (decimal vb) (cond b ms put_in))) is.0 ∙ (ap entry_of (bare vb (omega arith) (omega arith)) ∙ sym is.1)
      | inr is ↦ ap (λ b. entry_of (get_member (decimal vb) (cond b ms put_in))) is.0 ∙ ap entry_of (get_member-put (decimal vb) (number (unsigned n)) ms)
    ]

-- the entries tell the vector
entries_tell : (vb : ℕ) (v w : List ℕ) (ms others : Members) → vb + length v ≤ 10 ^ 64 → length v ≡ length w → IsBare vb ms → IsBare vb others
    → with_entries vb v ms ≡ with_entries vb w others → v ≡ w
entries_tell vb [] [] ms others fits size bare free same = refl
entries_tell vb [] (y ∷ ys) ms others fits size bare free same = absurd (omega arith)
entries_tell vb (x ∷ xs) [] ms others fits size bare free same = absurd (omega arith)
entries_tell vb (x ∷ xs) (y ∷ ys) ms others fits size bare free same =
    let head : x ≡ y =
    sym (first_found vb x xs ms (omega arith) bare) ∙ (ap (λ l. entry_of (get_member (decimal vb) l)) same ∙ first_found vb y ys others (omega arith) free) in
    let tail : xs ≡ ys =
    entries_tell (vb + 1) xs ys (cond (eqb x 0) ms (put (decimal vb) (number (unsigned x)) ms)) (cond (eqb y 0) others (put (decimal vb) (number (unsigned y)) others))
    (omega arith) (omega arith) (bare_next vb x ms (omega arith) bare) (bare_next vb y others (omega arith) free) same in
    cc

-- the text of a vector of a known size tells the vector and where it ends
pub read_vector : (v w r s : List ℕ) → length v ≤ 10 ^ 64 → length v ≡ length w → AllByRecursion IsWritten v → AllByRecursion IsWritten w
    → vector_text v ++ r ≡ vector_text w ++ s → (v ≡ w) × (r ≡ s)
unfolding vector_text
read_vector v w r s fits size small few e =
    let texts : members_text false (with_entries 0 v no_members) ++ r ≡ members_text false (with_entries 0 w no_members) ++ s = cc in
    let parts = members_read false (with_entries 0 v no_members) (with_entries 0 w no_members) r s
    (are_entries 0 v no_members small tt) (are_entries 0 w no_members few tt) texts in
    (entries_tell 0 v w no_members no_members (omega arith) size (λ i le written. refl) (λ i le written. refl) parts.0, parts.1)
