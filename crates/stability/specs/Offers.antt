-- Which pieces are next, by their numbers.
use Rattle.std.specs.Prelude.{ℕ, ◌+◌, max, nat_le, nat_lt, List, slice_set, if◌then◌else◌}
use Rattle.seq_vector.specs.Vectors.{entry}
use Rattle.stability.specs.declared.offer.Offer.{Offer}
use Rattle.stability.specs.declared.offer.Offer.TheVariants.{Next, Repeat, Gap}

-- the last number that was taken in each vBucket, and the greatest end of the markers of what was taken
pub record Tracked : Type 0 where
  pub at : List ℕ
  pub ends : List ℕ

-- the numbers from to to, where the last one taken is have: a repeat has none above it, and a gap begins past the next
abbrev pub offer_of : (have from to : ℕ) → Offer
offer_of have from to =
    if nat_le to have then Repeat
    else if nat_lt (have + 1) from then Gap have from
    else Next have

-- what was taken once a piece up to `to`, of a marker up to `end`, was offered
abbrev pub tracked : (vb to end : ℕ) → Offer → Tracked → Tracked
tracked vb to end (Next after) t = record { at = slice_set t.at vb to; ends = slice_set t.ends vb (max (entry t.ends vb) end) }
tracked vb to end _ t = t
