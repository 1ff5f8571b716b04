-- Projected pieces stand for what their piece stands for.
use Rattle.std.proofs.Common.{ℕ, List, [], ◌∷◌, ap, arith}
use Rattle.std.specs.Prelude.{map}
use Rattle.std.specs.Arc.{arc_value}
use Rattle.vb_store.specs.declared.mutation.Mutation.{Mutation}
use Rattle.dcp_stream.specs.declared.piece.Piece.{Piece}
use Rattle.dcp_stream.specs.Pieces.{PieceStands}
use Rattle.key_eval.specs.Stands.{ProjectedStands}
use Rattle.key_eval.specs.Versions.{version_of}
use Rattle.projector.specs.declared.numbered_def.NumberedDef.{NumberedDef}
use Rattle.projector.specs.Projections.{projected_of, StandInOrder}

pub projection_stands : (n : ℕ) (log : List Mutation) (p : Piece) (d : NumberedDef) → PieceStands n log p → ProjectedStands n (arc_value d.def) log (projected_of d p)
projection_stands n log p d stands =
    let first = stands.first in
    let begins = stands.begins in
    record {
      numbered = stands.numbered;
      vbucket = stands.vbucket;
      begins = omega arith;
      some = stands.some;
      last = stands.last;
      reached = stands.reached;
      holds = ap (map (version_of (arc_value d.def))) stands.holds;
    }

pub stand_in_order : (n : ℕ) (log : List Mutation) (p : Piece) → PieceStands n log p → (ds : List NumberedDef) → StandInOrder n log ds (map (λ d. projected_of d p) ds)
stand_in_order n log p stands [] = tt
stand_in_order n log p stands (d ∷ ds) = (projection_stands n log p d stands, stand_in_order n log p stands ds)
