-- What contracts see of the streams of the indexes.
use Rattle.std.specs.Prelude.{ℕ}
use Rattle.std.specs.FinMap as map
use Rattle.std.specs.Ordering.{nat_cmp}
use Rattle.dcp_stream.specs.Pieces.{Marked}

-- the maintenance stream, and the initial streams by the numbers of their indexes
pub record Joined : Type 0 where
  pub maint : Marked
  pub initial : map.FinMap nat_cmp Marked
