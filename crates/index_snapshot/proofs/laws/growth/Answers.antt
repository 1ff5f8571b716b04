use Rattle.std.proofs.Common.{◌≡◌, ℕ, ◌<◌, ◌≤◌, ◌++◌, List, length, sym, ap, ◌∙◌, subst, arith}
use Rattle.std.specs.Arc.{arc_value}
use Rattle.seq_vector.specs.Vectors.{entry, IsCovered}
use Rattle.n1ql_value.specs.Documents.{Documents}
use Rattle.vb_store.specs.Mutations.{high_of}
use Rattle.vb_store.specs.Documents.{documents_at}
use Rattle.index_def.specs.Keys.{keys_of}
use Rattle.index_def.specs.Index.{index_of}
use Rattle.index_state.specs.Index.{HoldsKeys}
use Rattle.index_snapshot.specs.Stands.{IsReachedBy}
use Rattle.index_snapshot.proofs.laws.growth.Goals as goal

pub returns-clause-workers : goal.returns-clause-workers
returns-clause-workers c n log more w numbered stands = record {
  at = record {
    numbered = numbered;
    size = stands.at.size;
    reached = λ vb within.
        let before = stands.at.reached vb within in
        let size = stands.at.size in
        let grown = c.high_counts.ensures.grows n log more vb (omega (arith, c.high_counts.ensures.size n log)) in
        omega arith;
  };
  rows = subst (λ (docs : Documents). HoldsKeys (keys_of w.def) docs w.held) (sym (c.growth.ensures.documents n log more w.taken.at numbered stands.at.reached)) stands.rows;
}

pub returns-clause-snapshots : goal.returns-clause-snapshots
returns-clause-snapshots c n log more s numbered stands = record {
  at = record {
    numbered = numbered;
    size = stands.at.size;
    reached = λ vb within.
        let before = stands.at.reached vb within in
        let size = stands.at.size in
        let grown = c.high_counts.ensures.grows n log more vb (omega (arith, c.high_counts.ensures.size n log)) in
        omega arith;
  };
  rows = stands.rows ∙ ap (index_of (arc_value s.def)) (sym (c.growth.ensures.documents n log more (arc_value s.vector) numbered stands.at.reached));
}
