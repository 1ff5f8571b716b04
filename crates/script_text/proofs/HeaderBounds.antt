-- What a header that is read says.
use Rattle.std.proofs.Common.{◌≡◌, ℕ, ◌≤◌, Bool, true, false, cond, not, List, length, Option, Some, None, Result, Ok, Err, pos, unwrap_or, refl, ap, subst, leb, lit≤}
use Rattle.std.specs.Prelude.{◌&&◌, codes, option_and_then, unsigned_abs}
use Rattle.std.specs.Option.{is_some}
use Rattle.std.proofs.lemmas.Bool.{leb-true}
use Rattle.std.proofs.lemmas.Bool.Decides.{Decides-int_eq}
use Rattle.std.proofs.lemmas.Slice.Eq.{bytes_eq-Decides}
use Rattle.n1ql_value.specs.Limits.{max_vbuckets, max_clients, max_workers, max_batch, max_keyspace_bytes}
use Rattle.n1ql_value.specs.declared.value.Value.{Value}
use Rattle.n1ql_value.specs.declared.value.Value.TheVariants.{Missing, Null, Bool as Flag, Int, Text, Array, Object}
use Rattle.scan_history.specs.declared.kind.Kind.{Kind}
use Rattle.scan_history.specs.declared.kind.Kind.TheVariants as kinds
use Rattle.scan_history.specs.Sound.{IsWithin}
use Rattle.script_text.specs.declared.reader.script.header.Header.{Header}
use Rattle.script_text.specs.declared.reader.format.member.Member.{Member}
use Rattle.script_text.specs.declared.reader.format.member_kind.MemberKind.TheVariants as kind
use Rattle.script_text.specs.declared.reader.format.sizes.Sizes.{Sizes}
use Rattle.n1ql_value.specs.Kinds.{text_in}
use Rattle.script_text.specs.Members.{Members, value_at, text_at, number_at}
use Rattle.script_text.specs.Rows.{in_range, is_text_within, has_shape, has_needed, header_row, is_within}
use Rattle.script_text.specs.Items.{no_sizes, is_other_version, header_with, header_checked, header_of_line, members_of, and_then}
use Rattle.script_text.proofs.Bounds.{both, Admits, count_bounds, needed_bounds, header_admits}

abbrev text_from : List ℕ → Option Value → List ℕ
text_from other found = unwrap_or (option_and_then text_in found) other

text_tests : (least most : ℕ) (t : List ℕ) → (leb least (length t) && leb (length t) most) ≡ true → IsWithin least most (length t)
text_tests least most t e =
    let p = both (leb least (length t)) (leb (length t) most) e in (leb-true least (length t) p.0, leb-true (length t) most p.1)

text_value : (least most : ℕ) (other : List ℕ) (v : Value) → is_text_within least most v ≡ true → IsWithin least most (length (text_from other (Some v)))
text_value least most other (Text t) e = text_tests least most t e
text_value least most other Missing e = cc
text_value least most other Null e = cc
text_value least most other (Flag b) e = cc
text_value least most other (Int z) e = cc
text_value least most other (Array ds) e = cc
text_value least most other (Object ps) e = cc

-- a text that stands or has a default, and one that has to stand
pub text_bounds : (sizes : Sizes) (least most : ℕ) (other : List ℕ) (found : Option Value) → IsWithin least most (length other) → Admits sizes (kind.Text least most) found
    → IsWithin least most (length (text_from other found))
unfolding in_range
text_bounds sizes least most other None fits e = fits
text_bounds sizes least most other (Some v) fits e = text_value least most other v e

pub needed_text_bounds : (sizes : Sizes) (least most : ℕ) (other : List ℕ) (found : Option Value) → is_some found ≡ true → Admits sizes (kind.Text least most) found
    → IsWithin least most (length (text_from other found))
unfolding in_range
needed_text_bounds sizes least most other None stands e = cc
needed_text_bounds sizes least most other (Some v) stands e = text_value least most other v e

-- the needed members of a row that has its shape stand
pub shape-needed : (row : List Member) (members : Members) → has_shape row members ≡ true → has_needed row members ≡ true
unfolding has_shape
shape-needed row members e = (both _ _ (both _ _ e).0).1

pub record HeaderFits (header : Header) : Type 0 where
  pub vbuckets : IsWithin 1 max_vbuckets header.sizes.vbuckets
  pub clients : IsWithin 1 max_clients header.sizes.clients
  pub workers : header.workers ≤ max_workers
  pub batch : IsWithin 1 max_batch header.batch
  pub keyspace : IsWithin 1 max_keyspace_bytes (length header.keyspace)

header_fits : (members : Members) → has_shape header_row members ≡ true → is_within no_sizes header_row members ≡ true → HeaderFits (header_with members)
header_fits members shape within =
    let a = both _ _ (shape-needed header_row members shape) in
    let vbuckets = both _ _ a.1 in
    let clients = both _ _ vbuckets.1 in
    let admits = header_admits members within in
    record {
      vbuckets = needed_bounds no_sizes 1 max_vbuckets 0 (value_at (codes "vbuckets") members) vbuckets.0 admits.vbuckets;
      clients = needed_bounds no_sizes 1 max_clients 0 (value_at (codes "clients") members) clients.0 admits.clients;
      workers = (count_bounds no_sizes 0 max_workers 2 (value_at (codes "workers") members) (lit≤ tt) (lit≤ tt) admits.workers).1;
      batch = count_bounds no_sizes 1 max_batch 64 (value_at (codes "batch") members) (lit≤ tt) (lit≤ tt) admits.batch;
      keyspace = text_bounds no_sizes 1 max_keyspace_bytes (codes "ks") (value_at (codes "keyspace") members) (lit≤ tt, lit≤ tt) admits.keyspace;
    }

-- each test in turn passed
header_tests : (version shape within : Bool) (made header : Header)
    → cond version (Err kinds.Version) (cond (not shape) (Err kinds.Shape) (cond (not within) (Err kinds.Range) (Ok made))) ≡ Ok header
    → (shape ≡ true) × (within ≡ true) × (made ≡ header)
header_tests true shape within made header e = cc
header_tests false false within made header e = cc
header_tests false true false made header e = cc
header_tests false true true made header e = (refl, refl, cc)

header_checked-fits : (members : Members) (header : Header) → header_checked members ≡ Ok header → HeaderFits header
unfolding header_checked
header_checked-fits members header e =
    let p = header_tests (is_other_version members) (has_shape header_row members) (is_within no_sizes header_row members) (header_with members) header e in
    subst HeaderFits p.2 (header_fits members p.0 p.1)

after_members : (r : Result Members Kind) (header : Header) → and_then header_checked r ≡ Ok header → HeaderFits header
after_members (Ok members) header e = header_checked-fits members header e
after_members (Err kind) header e = cc

pub header_of_line-fits : (line : List ℕ) (header : Header) → header_of_line line ≡ Ok header → HeaderFits header
unfolding header_of_line
header_of_line-fits line header e = after_members (members_of line) header e
