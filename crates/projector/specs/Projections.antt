-- What becomes of a piece of mutations in an index.
use Rattle.std.specs.Prelude.{ℕ, List, [], ◌∷◌, map, ⊤}
use Rattle.std.specs.Arc.{arc_value}
use Rattle.vb_store.specs.declared.mutation.Mutation.{Mutation}
use Rattle.dcp_stream.specs.declared.piece.Piece.{Piece}
use Rattle.key_eval.specs.declared.projected.Projected.{Projected}
use Rattle.key_eval.specs.Stands.{ProjectedStands}
use Rattle.key_eval.specs.Versions.{version_of}
use Rattle.projector.specs.declared.numbered_def.NumberedDef.{NumberedDef}

-- the piece with what becomes of each of its mutations in place of the mutation
abbrev pub projected_of : NumberedDef → Piece → Projected
projected_of d p = record {
  index = d.number;
  vb = p.vb;
  from = p.from;
  to = p.to;
  end = p.end;
  versions = map (version_of (arc_value d.def)) p.muts;
}

-- for each of the definitions, in their order, one projected piece stands for the mutations
abbrev pub StandInOrder : ℕ → List Mutation → List NumberedDef → List Projected → Type 0
StandInOrder n log [] [] = ⊤
StandInOrder n log (d ∷ ds) (p ∷ ps) = ProjectedStands n (arc_value d.def) log p × StandInOrder n log ds ps
StandInOrder n log _ _ = ⊥
