-- The rows of the format: which members a line has, and what the value of each is.
use Rattle.std.specs.Prelude.{ℕ, ℤ, pos, codes, List, [], ◌∷◌, length, Bool, true, false, not, ◌&&◌, ◌||◌, nat_le, int_le, int_lt, Option, Some, None, if◌then◌else◌}
use Rattle.std.specs.List.{list_all}
use Rattle.std.specs.Option.{option_map_or, option_or, is_some}
use Rattle.std.specs.Str.{bytes_eq}
use Rattle.n1ql_value.specs.declared.value.Value.{Value}
use Rattle.n1ql_value.specs.Limits.{max_vbuckets, max_clients, max_workers, max_batch, max_id_bytes, max_keyspace_bytes}
use Rattle.script_text.specs.declared.reader.format.form.Form.{Form}
use Rattle.script_text.specs.declared.reader.format.form.Form.TheVariants.{Upsert, Delete, Ddl, Scan, Query, Client, Project, Deliver, Lose, Publish, Rewind}
use Rattle.script_text.specs.declared.reader.format.member.Member.{Member}
use Rattle.script_text.specs.declared.reader.format.member_kind.MemberKind.{MemberKind}
use Rattle.script_text.specs.declared.reader.format.member_kind.MemberKind.TheVariants as kind
use Rattle.script_text.specs.declared.reader.format.name.Name.{Name}
use Rattle.script_text.specs.declared.reader.format.name.Name.TheVariants as name
use Rattle.script_text.specs.declared.reader.format.sizes.Sizes.{Sizes}
use Rattle.n1ql_value.specs.Kinds.{number_in, text_in}
use Rattle.script_text.specs.Members.{Members, flag_in, is_word, value_at, text_at, each_member}
use Rattle.script_text.specs.SparseVectors.{is_vector, is_vector_below}
use Rattle.script_text.specs.SpanForms.{are_spans, are_spans_within}

abbrev pub spelling : Name → List ℕ
spelling name.At = codes "at"
spelling name.Batch = codes "batch"
spelling name.C = codes "c"
spelling name.Clients = codes "clients"
spelling name.Consistency = codes "consistency"
spelling name.Do = codes "do"
spelling name.Doc = codes "doc"
spelling name.Gsi = codes "gsi"
spelling name.High = codes "high"
spelling name.Id = codes "id"
spelling name.Incl = codes "incl"
spelling name.Index = codes "index"
spelling name.Keyspace = codes "keyspace"
spelling name.Low = codes "low"
spelling name.Place = codes "place"
spelling name.Q = codes "q"
spelling name.S = codes "s"
spelling name.Spans = codes "spans"
spelling name.To = codes "to"
spelling name.Vb = codes "vb"
spelling name.Vbuckets = codes "vbuckets"
spelling name.Wait = codes "wait"
spelling name.Workers = codes "workers"

-- one of the three words
abbrev pub is_consistency : Value → Bool
is_consistency v = is_word (codes "not_bounded") v || is_word (codes "at_plus") v || is_word (codes "request_plus") v

-- "mine"
abbrev pub is_mine : Value → Bool
is_mine v = is_word (codes "mine") v

-- whether the value is of the kind
unfoldable pub has_kind : MemberKind → Value → Bool
has_kind (kind.Whole least most) v = is_some (number_in v)
has_kind kind.Client v = is_some (number_in v)
has_kind kind.VBucket v = is_some (number_in v)
has_kind kind.Place v = is_some (number_in v)
has_kind (kind.Text least most) v = is_some (text_in v)
has_kind kind.AnyText v = is_some (text_in v)
has_kind kind.AnyValue v = true
has_kind kind.Flag v = is_some (flag_in v)
has_kind kind.Consistency v = is_consistency v
has_kind kind.Demand v = is_mine v || is_vector v
has_kind kind.Vector v = is_vector v
has_kind kind.Spans v = are_spans v

-- the value is a whole number from least to most, and a text of so many bytes
abbrev pub is_number_within : ℤ → ℤ → Value → Bool
is_number_within least most v = option_map_or (λ z. int_le least z && int_le z most) (number_in v) false

abbrev pub is_number_below : ℕ → Value → Bool
is_number_below n v = option_map_or (λ z. int_le (pos 0) z && int_lt z (pos n)) (number_in v) false

abbrev pub is_text_within : ℕ → ℕ → Value → Bool
is_text_within least most v = option_map_or (λ t. nat_le least (length t) && nat_le (length t) most) (text_in v) false

-- whether a value of the kind is in its range; the sizes are those of the header
unfoldable pub in_range : Sizes → MemberKind → Value → Bool
in_range sizes (kind.Whole least most) v = is_number_within least most v
in_range sizes kind.Client v = is_number_below sizes.clients v
in_range sizes kind.VBucket v = is_number_below sizes.vbuckets v
in_range sizes kind.Place v = option_map_or (int_le (pos 0)) (number_in v) false
in_range sizes (kind.Text least most) v = is_text_within least most v
in_range sizes kind.AnyText v = true
in_range sizes kind.AnyValue v = true
in_range sizes kind.Flag v = true
in_range sizes kind.Consistency v = true
in_range sizes kind.Demand v = is_mine v || is_vector_below sizes.vbuckets v
in_range sizes kind.Vector v = is_vector_below sizes.vbuckets v
in_range sizes kind.Spans v = are_spans_within v

-- a member that has to stand, and one that may be absent
abbrev pub needed : Name → MemberKind → Member
needed n k = record { name = n; kind = k; needed = true }

abbrev pub optional : Name → MemberKind → Member
optional n k = record { name = n; kind = k; needed = false }

abbrev pub header_row : List Member
header_row =
    needed name.Gsi (kind.Whole (pos 1) (pos 1)) ∷ needed name.Vbuckets (kind.Whole (pos 1) (pos max_vbuckets))
    ∷ needed name.Clients (kind.Whole (pos 1) (pos max_clients)) ∷ optional name.Keyspace (kind.Text 1 max_keyspace_bytes)
    ∷ optional name.Workers (kind.Whole (pos 0) (pos max_workers)) ∷ optional name.Batch (kind.Whole (pos 1) (pos max_batch)) ∷ []

-- the form that a line after the header has, by the word under `do` or else under `s`
abbrev pub command_form : List ℕ → Option Form
command_form word =
    if bytes_eq word (codes "upsert") then Some Upsert
    else if bytes_eq word (codes "delete") then Some Delete
    else if bytes_eq word (codes "ddl") then Some Ddl
    else if bytes_eq word (codes "scan") then Some Scan
    else if bytes_eq word (codes "query") then Some Query
    else None

abbrev pub schedule_form : List ℕ → Option Form
schedule_form word =
    if bytes_eq word (codes "client") then Some Client
    else if bytes_eq word (codes "project") then Some Project
    else if bytes_eq word (codes "deliver") then Some Deliver
    else if bytes_eq word (codes "lose") then Some Lose
    else if bytes_eq word (codes "publish") then Some Publish
    else if bytes_eq word (codes "rewind") then Some Rewind
    else None

unfoldable pub form_of : Members → Option Form
form_of members =
    option_or (command_form (text_at (codes "do") [] members)) (schedule_form (text_at (codes "s") [] members))

-- the members of a line of a form
unfoldable pub row_of : Form → List Member
row_of Upsert = needed name.C kind.Client ∷ needed name.Do kind.AnyText ∷ needed name.Id (kind.Text 1 max_id_bytes) ∷ needed name.Doc kind.AnyValue ∷ []
row_of Delete = needed name.C kind.Client ∷ needed name.Do kind.AnyText ∷ needed name.Id (kind.Text 1 max_id_bytes) ∷ []
row_of Ddl = needed name.C kind.Client ∷ needed name.Do kind.AnyText ∷ needed name.Q kind.AnyText ∷ []
row_of Scan =
    needed name.C kind.Client ∷ needed name.Do kind.AnyText ∷ needed name.Index kind.AnyText ∷ optional name.Spans kind.Spans
    ∷ optional name.Consistency kind.Consistency ∷ optional name.At kind.Demand ∷ optional name.Wait kind.Flag ∷ []
row_of Query =
    needed name.C kind.Client ∷ needed name.Do kind.AnyText ∷ needed name.Q kind.AnyText
    ∷ optional name.Consistency kind.Consistency ∷ optional name.At kind.Demand ∷ optional name.Wait kind.Flag ∷ []
row_of Client = needed name.S kind.AnyText ∷ needed name.C kind.Client ∷ []
row_of Project = needed name.S kind.AnyText ∷ needed name.Vb kind.VBucket ∷ optional name.Index kind.AnyText ∷ []
row_of Deliver = needed name.S kind.AnyText ∷ needed name.Index kind.AnyText ∷ optional name.Place kind.Place ∷ []
row_of Lose = needed name.S kind.AnyText ∷ needed name.Index kind.AnyText ∷ optional name.Place kind.Place ∷ []
row_of Publish = needed name.S kind.AnyText ∷ needed name.Index kind.AnyText ∷ []
row_of Rewind = needed name.S kind.AnyText ∷ needed name.To kind.Vector ∷ optional name.Index kind.AnyText ∷ []

-- a member stands in the row, with a value of its kind
abbrev pub stands_in : List Member → List ℕ → Value → Bool
stands_in [] n v = false
stands_in (m ∷ row) n v = if bytes_eq n (spelling m.name) then has_kind m.kind v else stands_in row n v

-- each member of the row that has to stand does
abbrev pub has_needed : List Member → Members → Bool
has_needed row members = list_all (λ m. not m.needed || is_some (value_at (spelling m.name) members)) row

-- `at` stands exactly where the consistency is at_plus
abbrev pub has_at_for_at_plus : Members → Bool
has_at_for_at_plus members =
    let at_plus = bytes_eq (text_at (codes "consistency") [] members) (codes "at_plus") in
    if is_some (value_at (codes "at") members) then at_plus else not at_plus

-- the members are those of the row, each with a value of its kind
unfoldable pub has_shape : List Member → Members → Bool
has_shape row members = each_member (stands_in row) members && has_needed row members && has_at_for_at_plus members

-- the values of the members are in their ranges
unfoldable pub is_within : Sizes → List Member → Members → Bool
is_within sizes row members =
    list_all (λ m. option_map_or (in_range sizes m.kind) (value_at (spelling m.name) members) true) row
