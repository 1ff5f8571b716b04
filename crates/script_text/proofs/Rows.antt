-- Going over a row.
use Rattle.std.proofs.Common.{◌≡◌, ℕ, ◌+◌, ◌<◌, ◌≤◌, Bool, true, false, cond, List, length, drop, get_or, sym, ap, ◌∙◌}
use Rattle.std.specs.Str.{bytes_eq}
use Rattle.std.proofs.lemmas.List.{at_drop_more, at_drop_all}
use Rattle.n1ql_value.specs.declared.value.Value.{Value}
use Rattle.script_text.specs.declared.reader.format.member.Member.{Member}
use Rattle.script_text.specs.Rows.{spelling, has_kind, stands_in}

-- the member of the row at a place, and those after it
stands_at : (row : List Member) (i : ℕ) (d : Member) (n : List ℕ) (v : Value) (t : Bool) → i < length row → t ≡ bytes_eq n (spelling (get_or row i d).name)
    → stands_in (drop i row) n v ≡ cond t (has_kind (get_or row i d).kind v) (stands_in (drop (i + 1) row) n v)
stands_at row i d n v t h e =
    at_drop_more (λ r. stands_in r n v) row i d h
    ∙ ap (λ b. cond b (has_kind (get_or row i d).kind v) (stands_in (drop (i + 1) row) n v)) (sym e)

-- the name is that of the member, or another one
pub stands_here : (row : List Member) (i : ℕ) (d : Member) (n : List ℕ) (v : Value) (t : Bool) (name : List ℕ) (r : Bool) → i < length row
    → stands_in row n v ≡ stands_in (drop i row) n v → t ≡ true → t ≡ bytes_eq n name → name ≡ spelling (get_or row i d).name
    → r ≡ has_kind (get_or row i d).kind v → r ≡ stands_in row n v
stands_here row i d n v t name r h so same is at has =
    has ∙ (ap (λ b. cond b (has_kind (get_or row i d).kind v) (stands_in (drop (i + 1) row) n v)) (sym same)
    ∙ (sym (stands_at row i d n v t h (is ∙ ap (bytes_eq n) at)) ∙ sym so))

pub stands_later : (row : List Member) (i : ℕ) (d : Member) (n : List ℕ) (v : Value) (t : Bool) (name : List ℕ) → i < length row
    → stands_in row n v ≡ stands_in (drop i row) n v → t ≡ false → t ≡ bytes_eq n name → name ≡ spelling (get_or row i d).name
    → stands_in row n v ≡ stands_in (drop (i + 1) row) n v
stands_later row i d n v t name h so other is at =
    so ∙ (stands_at row i d n v t h (is ∙ ap (bytes_eq n) at)
    ∙ ap (λ b. cond b (has_kind (get_or row i d).kind v) (stands_in (drop (i + 1) row) n v)) other)

pub stands_nowhere : (row : List Member) (i : ℕ) (n : List ℕ) (v : Value) → length row ≤ i → stands_in row n v ≡ stands_in (drop i row) n v → false ≡ stands_in row n v
stands_nowhere row i n v h so = sym (so ∙ at_drop_all (λ r. stands_in r n v) row i h)
