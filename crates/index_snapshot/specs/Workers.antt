-- The worker of an index, and what becomes of it when a piece is delivered.
use Rattle.std.specs.Prelude.{ℕ, nat_lt, List, map as map_list, filter}
use Rattle.std.specs.FinMap as map
use Rattle.seq_vector.specs.Vectors.{entry, zeros}
use Rattle.index_def.specs.declared.definition.IndexDef.{IndexDef}
use Rattle.index_state.specs.declared.change.Change.{Change}
use Rattle.index_state.specs.RowsById.{RowsById, with_changes}
use Rattle.key_eval.specs.declared.key_version.KeyVersion.{KeyVersion}
use Rattle.key_eval.specs.declared.projected.Projected.{Projected}
use Rattle.stability.specs.Offers.{Tracked, offer_of, tracked}
use Rattle.stability.specs.declared.offer.Offer.{Offer}
use Rattle.stability.specs.declared.offer.Offer.TheVariants as offer
use Rattle.index_snapshot.specs.declared.applied.Applied.{Applied as Outcome}
use Rattle.index_snapshot.specs.declared.applied.Applied.TheVariants.{Applied, Repeat, Gap}

-- the number and the definition of the index; how far its worker has come; the vector of its last snapshot; and the rows of
-- each id
pub record Worker : Type 0 where
  pub index : ℕ
  pub def : IndexDef
  pub taken : Tracked
  pub shown : List ℕ
  pub held : RowsById

-- a worker of n vBuckets to which nothing was delivered
abbrev pub first_worker : ℕ → IndexDef → (n : ℕ) → Worker
first_worker index def n = record { index = index; def = def; taken = record { at = zeros n; ends = zeros n }; shown = zeros n; held = map.empty }

-- the rows of a version in place of those that its id holds
abbrev pub change_of : KeyVersion → Change
change_of v = record { id = v.id; rows = v.rows }

-- the changes of the versions whose numbers are above one, in their order
abbrev pub changes_above : (after : ℕ) → List KeyVersion → List Change
changes_above after versions = map_list change_of (filter (λ v. nat_lt after v.seqno) versions)

-- what becomes of a piece, and of the worker: the numbers that are new are applied, unless it is a repeat or leaves a gap
abbrev pub outcome_of : Offer → Outcome
outcome_of (offer.Next after) = Applied
outcome_of offer.Repeat = Repeat
outcome_of (offer.Gap have from) = Gap have from

abbrev pub applied : Projected → Offer → Worker → Worker
applied p (offer.Next after) w = record w {
  taken = tracked p.vb p.to p.end (offer.Next after) w.taken;
  held = with_changes (changes_above after p.versions) w.held;
}
applied p _ w = w

-- by its numbers
abbrev pub offered : Projected → Worker → Offer
offered p w = offer_of (entry w.taken.at p.vb) p.from p.to

abbrev pub delivered : Projected → Worker → Worker
delivered p w = applied p (offered p w) w
