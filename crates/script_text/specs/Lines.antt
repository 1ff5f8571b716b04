-- Lines of compact JSON (RFC 8259), put together of the texts of their values.
use Rattle.std.specs.Prelude.{ℕ, ◌+◌, ◌==◌, List, [], ◌∷◌, ◌++◌, map, flat_map, decimal, if◌then◌else◌}
use Rattle.serde_json.specs.Data.{Members, no_members, number, object, unsigned, put}
use Rattle.serde_json.specs.Written.{compact_text}

-- a word that needs no escape, as a string
abbrev pub word : List ℕ → List ℕ
word w = 34 ∷ (w ++ 34 ∷ [])

-- texts with a comma between each two
abbrev pub joined : List (List ℕ) → List ℕ
joined [] = []
joined (t ∷ ts) = t ++ flat_map (λ u. 44 ∷ u) ts

-- the array of items with these texts
abbrev pub array_of : List (List ℕ) → List ℕ
array_of ts = 91 ∷ (joined ts ++ 93 ∷ [])

-- a member, whose name needs no escape
abbrev pub member_text : List ℕ × List ℕ → List ℕ
member_text m = word m.0 ++ 58 ∷ m.1

-- the object of these members
abbrev pub object_of : List (List ℕ × List ℕ) → List ℕ
object_of ms = 123 ∷ (joined (map member_text ms) ++ 125 ∷ [])

-- the line of an object
abbrev pub line_of : List (List ℕ × List ℕ) → List ℕ
line_of ms = object_of ms ++ 10 ∷ []

-- the members, and each entry from a vBucket on that isn't 0, under the vBucket's number in decimal, in its place by the byte order of names
abbrev pub with_entries : ℕ → List ℕ → Members → Members
with_entries vb [] ms = ms
with_entries vb (n ∷ ns) ms = with_entries (vb + 1) ns (if n == 0 then ms else put (decimal vb) (number (unsigned n)) ms)

-- a vector: the object of its entries that aren't 0, names in byte order
unfoldable pub vector_text : List ℕ → List ℕ
vector_text v = compact_text (object (with_entries 0 v no_members))
