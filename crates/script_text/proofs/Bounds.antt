-- What the ranges of a row say of the values that stand in it.
use Rattle.std.proofs.Common.{◌≡◌, ℕ, ◌≤◌, Bool, true, false, Option, Some, None, ℤ, pos, negsuc, unwrap_or, refl, arith}
use Rattle.std.specs.Prelude.{◌&&◌, int_le, unsigned_abs, codes, option_and_then}
use Rattle.std.specs.Option.{option_map_or, is_some}
use Rattle.std.proofs.lemmas.Bool.{leb-true}
use Rattle.n1ql_value.specs.Limits.{max_vbuckets, max_clients, max_workers, max_batch, max_keyspace_bytes}
use Rattle.n1ql_value.specs.declared.value.Value.{Value}
use Rattle.n1ql_value.specs.declared.value.Value.TheVariants.{Missing, Null, Bool as Flag, Int, Text, Array, Object}
use Rattle.script_text.specs.declared.reader.format.member_kind.MemberKind.{MemberKind}
use Rattle.script_text.specs.declared.reader.format.member_kind.MemberKind.TheVariants as kind
use Rattle.script_text.specs.declared.reader.format.sizes.Sizes.{Sizes}
use Rattle.n1ql_value.specs.Kinds.{number_in}
use Rattle.script_text.specs.Members.{Members, value_at, count_at}
use Rattle.script_text.specs.Rows.{in_range, is_number_within, is_within, header_row}
use Rattle.script_text.specs.Items.{no_sizes}

-- both tests pass
pub both : (a b : Bool) → (a && b) ≡ true → (a ≡ true) × (b ≡ true)
both true b e = (refl, e)
both false b e = cc

-- whether the value of a member, where it stands, is in the range of a kind
abbrev pub Admits : Sizes → MemberKind → Option Value → Type 0
Admits sizes k found = option_map_or (in_range sizes k) found true ≡ true

-- the number of a member as a count
abbrev pub count_in : ℕ → Option Value → ℕ
count_in other found = unsigned_abs (unwrap_or (option_and_then number_in found) (pos other))

int_bounds : (least most : ℕ) (z : ℤ) → (int_le (pos least) z && int_le z (pos most)) ≡ true → (least ≤ unsigned_abs z) × (unsigned_abs z ≤ most)
int_bounds least most (pos n) e =
    let p = both (int_le (pos least) (pos n)) (int_le (pos n) (pos most)) e in (leb-true least n p.0, leb-true n most p.1)
int_bounds least most (negsuc n) e = cc

number_bounds : (least most other : ℕ) (v : Value) → is_number_within (pos least) (pos most) v ≡ true
    → (least ≤ count_in other (Some v)) × (count_in other (Some v) ≤ most)
number_bounds least most other (Int z) e = int_bounds least most z e
number_bounds least most other Missing e = cc
number_bounds least most other Null e = cc
number_bounds least most other (Flag b) e = cc
number_bounds least most other (Text t) e = cc
number_bounds least most other (Array ds) e = cc
number_bounds least most other (Object ps) e = cc

-- a number that stands or has a default
pub count_bounds : (sizes : Sizes) (least most other : ℕ) (found : Option Value) → least ≤ other → other ≤ most → Admits sizes (kind.Whole (pos least) (pos most)) found
    → (least ≤ count_in other found) × (count_in other found ≤ most)
unfolding in_range
count_bounds sizes least most other None low high e = (low, high)
count_bounds sizes least most other (Some v) low high e = number_bounds least most other v e

-- at most so much, also where it does not stand
pub optional_most : (sizes : Sizes) (least most other : ℕ) (found : Option Value) → other ≤ most → Admits sizes (kind.Whole (pos least) (pos most)) found → count_in other found ≤ most
unfolding in_range
optional_most sizes least most other None high e = high
optional_most sizes least most other (Some v) high e = (number_bounds least most other v e).1

-- a number that has to stand
pub needed_bounds : (sizes : Sizes) (least most other : ℕ) (found : Option Value) → is_some found ≡ true → Admits sizes (kind.Whole (pos least) (pos most)) found
    → (least ≤ count_in other found) × (count_in other found ≤ most)
unfolding in_range
needed_bounds sizes least most other None stands e = cc
needed_bounds sizes least most other (Some v) stands e = number_bounds least most other v e

-- each member of the header is in its range
pub record HeaderAdmits (members : Members) : Type 0 where
  pub vbuckets : Admits no_sizes (kind.Whole (pos 1) (pos max_vbuckets)) (value_at (codes "vbuckets") members)
  pub clients : Admits no_sizes (kind.Whole (pos 1) (pos max_clients)) (value_at (codes "clients") members)
  pub keyspace : Admits no_sizes (kind.Text 1 max_keyspace_bytes) (value_at (codes "keyspace") members)
  pub workers : Admits no_sizes (kind.Whole (pos 0) (pos max_workers)) (value_at (codes "workers") members)
  pub batch : Admits no_sizes (kind.Whole (pos 1) (pos max_batch)) (value_at (codes "batch") members)

pub header_admits : (members : Members) → is_within no_sizes header_row members ≡ true → HeaderAdmits members
unfolding is_within
header_admits members e =
    let a = both _ _ e in
    let b = both _ _ a.1 in
    let d = both _ _ b.1 in
    let f = both _ _ d.1 in
    let g = both _ _ f.1 in
    let h = both _ _ g.1 in
    record { vbuckets = b.0; clients = d.0; keyspace = f.0; workers = g.0; batch = h.0 }

-- so its numbers are small
pub vbuckets-few : (members : Members) → is_within no_sizes header_row members ≡ true → count_at (codes "vbuckets") 0 members ≤ max_vbuckets
vbuckets-few members e = (optional_most no_sizes 1 max_vbuckets 0 (value_at (codes "vbuckets") members) (omega arith) (header_admits members e).vbuckets)

pub clients-few : (members : Members) → is_within no_sizes header_row members ≡ true → count_at (codes "clients") 0 members ≤ max_clients
clients-few members e = optional_most no_sizes 1 max_clients 0 (value_at (codes "clients") members) (omega arith) (header_admits members e).clients

pub workers-few : (members : Members) → is_within no_sizes header_row members ≡ true → count_at (codes "workers") 2 members ≤ max_workers
workers-few members e = optional_most no_sizes 0 max_workers 2 (value_at (codes "workers") members) (omega arith) (header_admits members e).workers
