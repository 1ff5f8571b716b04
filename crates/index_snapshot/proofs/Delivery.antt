-- A piece that is taken: the rows of each id are those after its mutations.
use Rattle.std.proofs.Common.{◌≡◌, ℕ, ◌+◌, ◌-◌, ◌≤◌, ◌<◌, Bool, true, false, cond, leb, ltb, List, [], ◌∷◌, map, filter, length, Option, Some, None, refl, sym, ap, ◌∙◌, subst, inl, inr, arith}
use Rattle.std.proofs.lemmas.Bool.{cases_eq, cases_lt, lt-ltb, le-ltb}
use Rattle.std.proofs.lemmas.Bool.Decides.{leb_tells}
use Rattle.std.proofs.lemmas.List.{get_or-set_same, get_or-set_other}
use Rattle.std.proofs.Math.ListN.{length-set}
use Rattle.std.specs.Prelude.{nat_lt, slice_set}
use Rattle.std.specs.FinMap as fm
use Rattle.n1ql_value.specs.declared.value.Value.{Value}
use Rattle.n1ql_value.specs.Documents.{Documents}
use Rattle.seq_vector.specs.Vectors.{entry, IsCovered}
use Rattle.vb_store.specs.declared.mutation.Mutation.{Mutation}
use Rattle.vb_store.specs.Mutations.{IsNumbered, high_of, slice_of}
use Rattle.vb_store.specs.Documents.{with_body, with_mutation, with_mutations, documents_at}
use Rattle.index_def.specs.declared.definition.IndexDef.{IndexDef}
use Rattle.index_def.specs.Keys.{keys_of, keys_of_body}
use Rattle.key_eval.specs.declared.key_version.KeyVersion.{KeyVersion}
use Rattle.key_eval.specs.declared.projected.Projected.{Projected}
use Rattle.key_eval.specs.Versions.{version_of}
use Rattle.key_eval.specs.Stands.{ProjectedStands}
use Rattle.index_state.specs.declared.change.Change.{Change}
use Rattle.index_state.specs.RowsById.{RowsById, with_rows, with_changes, all_rows}
use Rattle.index_state.specs.Index.{HoldsKeys}
use Rattle.stability.specs.Offers.{tracked}
use Rattle.stability.specs.declared.offer.Offer.{Offer}
use Rattle.stability.specs.declared.offer.Offer.TheVariants.{Next, Repeat, Gap}
use Rattle.index_snapshot.specs.Workers.{Worker, change_of, changes_above, applied, delivered}
use Rattle.index_snapshot.specs.Stands.{IsReachedBy, WorkerStands, SnapshotStands}
use Rattle.index_snapshot.specs.declared.snapshot.Snapshot.{Snapshot}
use Rattle.index_def.specs.Index.{index_of}
use Rattle.std.specs.Arc.{arc_value}

-- the laws that a document's coming and going leave its rows right
abbrev pub Comes : IndexDef → Type 0
Comes def = (docs : Documents) (held : RowsById) (id : List ℕ) (doc : Value) → HoldsKeys (keys_of def) docs held
    → HoldsKeys (keys_of def) (fm.insert docs id doc) (with_rows held id (keys_of def id doc))

abbrev pub Goes : IndexDef → Type 0
Goes def = (docs : Documents) (held : RowsById) (id : List ℕ) → HoldsKeys (keys_of def) docs held
    → HoldsKeys (keys_of def) (fm.remove docs id) (fm.remove held id)

-- what becomes of a mutation
abbrev change_for : IndexDef → Mutation → Change
change_for def m = change_of (version_of def m)

module _ (def : IndexDef) (comes : Comes def) (goes : Goes def) where
  body_holds : (docs : Documents) (held : RowsById) (id : List ℕ) (body : Option Value) → HoldsKeys (keys_of def) docs held
      → HoldsKeys (keys_of def) (with_body docs id body) (with_rows held id (keys_of_body def id body))
  body_holds docs held id None h = goes docs held id h
  body_holds docs held id (Some doc) h = comes docs held id doc h

  changes_hold : (ms : List Mutation) (docs : Documents) (held : RowsById) → HoldsKeys (keys_of def) docs held
      → HoldsKeys (keys_of def) (with_mutations docs ms) (with_changes (map (change_for def) ms) held)
  changes_hold [] docs held h = h
  changes_hold (m ∷ ms) docs held h = changes_hold ms (with_mutation docs m) (with_rows held m.id (keys_of_body def m.id m.body)) (body_holds docs held m.id m.body h)

kept_or_not : (def : IndexDef) (m : Mutation) (b : Bool) (xs : List KeyVersion) (ys : List Mutation) → map change_of xs ≡ map (change_for def) ys
    → map change_of (cond b (version_of def m ∷ xs) xs) ≡ map (change_for def) (cond b (m ∷ ys) ys)
kept_or_not def m true xs ys e = ap (λ rest. change_for def m ∷ rest) e
kept_or_not def m false xs ys e = e

above_versions : (def : IndexDef) (after : ℕ) (ms : List Mutation) → changes_above after (map (version_of def) ms) ≡ map (change_for def) (filter (λ m. nat_lt after m.seqno) ms)
above_versions def after [] = refl
above_versions def after (m ∷ ms) =
    kept_or_not def m (nat_lt after m.seqno) (filter (λ v. nat_lt after v.seqno) (map (version_of def) ms)) (filter (λ x. nat_lt after x.seqno) ms) (above_versions def after ms)

reached_on : (n : ℕ) (v high : List ℕ) (vb to : ℕ) → IsCovered v high → to ≤ entry high vb → vb < length v → IsCovered (slice_set v vb to) high
reached_on n v high vb to covered le within k lt = elim (cases_eq k vb) [
  | inl same ↦
      let at : entry (slice_set v vb to) vb ≡ to = get_or-set_same v vb to 0 within in
      subst (λ (i : ℕ). entry (slice_set v vb to) i ≤ entry high i) (sym same) (omega (arith, at, le))
  | inr other ↦
      let at : entry (slice_set v vb to) k ≡ entry v k = get_or-set_other v vb k to 0 other in
      let before : entry v k ≤ entry high k = covered k (omega (arith, length-set v vb to, lt)) in
      omega (arith, at, before)
]

module _ (n : ℕ) (log : List Mutation) (w : Worker) (p : Projected) (stands : WorkerStands n log w) (piece : ProjectedStands n w.def log p) where
  abbrev have : ℕ
  have = entry w.taken.at p.vb

  -- the numbers above what was taken are applied
  stands_next : Comes w.def → Goes w.def
      → documents_at log (slice_set w.taken.at p.vb p.to) ≡ with_mutations (documents_at log w.taken.at) (slice_of log p.vb have p.to)
      → filter (λ m. nat_lt have m.seqno) (slice_of log p.vb (p.from - 1) p.to) ≡ slice_of log p.vb have p.to
      → WorkerStands n log (applied p (Next have) w)
  stands_next comes goes docs above = record {
    at = record {
      numbered = stands.at.numbered;
      size = length-set w.taken.at p.vb p.to ∙ stands.at.size;
      reached = let last = piece.last in let end = piece.reached in let within = piece.vbucket in let size = stands.at.size in
          reached_on n w.taken.at (high_of n log) p.vb p.to stands.at.reached (omega arith) (omega arith);
    };
    rows =
        let ms : List Mutation = slice_of log p.vb have p.to in
        let changes : changes_above have p.versions ≡ map (change_for w.def) ms =
        ap (changes_above have) piece.holds ∙ (above_versions w.def have (slice_of log p.vb (p.from - 1) p.to) ∙ ap (map (change_for w.def)) above) in
        subst (λ (d : Documents). HoldsKeys (keys_of w.def) d (with_changes (changes_above have p.versions) w.held)) (sym docs)
        (subst (λ (cs : List Change). HoldsKeys (keys_of w.def) (with_mutations (documents_at log w.taken.at) ms) (with_changes cs w.held)) (sym changes)
        (changes_hold w.def comes goes ms (documents_at log w.taken.at) w.held stands.rows));
  }

  -- whatever the numbers of the piece are
  pub stands_delivered : Comes w.def → Goes w.def
      → (have ≤ p.to → documents_at log (slice_set w.taken.at p.vb p.to) ≡ with_mutations (documents_at log w.taken.at) (slice_of log p.vb have p.to))
      → (p.from - 1 ≤ have → filter (λ m. nat_lt have m.seqno) (slice_of log p.vb (p.from - 1) p.to) ≡ slice_of log p.vb have p.to)
      → WorkerStands n log (delivered p w)
  stands_delivered comes goes docs above = elim (leb_tells p.to have) [
    | inl old ↦ subst (WorkerStands n log) (sym (ap (λ b. applied p (cond b Repeat (cond (ltb (have + 1) p.from) (Gap have p.from) (Next have))) w) old.0)) stands
    | inr new ↦ subst (WorkerStands n log) (sym (ap (λ b. applied p (cond b Repeat (cond (ltb (have + 1) p.from) (Gap have p.from) (Next have))) w) new.0))
        (elim (cases_lt (have + 1) p.from) [
          | inl gap ↦ subst (WorkerStands n log) (sym (ap (λ b. applied p (cond b (Gap have p.from) (Next have)) w) (lt-ltb (have + 1) p.from gap))) stands
          | inr near ↦ subst (WorkerStands n log) (sym (ap (λ b. applied p (cond b (Gap have p.from) (Next have)) w) (le-ltb (have + 1) p.from near)))
              (let fresh = new.1 in stands_next comes goes (docs (omega arith)) (above (omega arith)))
        ])
  ]

-- the rows of a worker that stands, shown at its vector
pub stands_shown : (n : ℕ) (log : List Mutation) (w : Worker) (s : Snapshot) → WorkerStands n log w → arc_value s.def ≡ w.def → arc_value s.vector ≡ w.taken.at → s.rows ≡ all_rows w.held
    → all_rows w.held ≡ index_of w.def (documents_at log w.taken.at) → SnapshotStands n log s
stands_shown n log w s stands def vector rows index = record {
  at = subst (IsReachedBy n log) (sym vector) stands.at;
  rows = rows ∙ index ∙ ap (λ (d : IndexDef). index_of d (documents_at log w.taken.at)) (sym def) ∙ ap (λ (v : List ℕ). index_of (arc_value s.def) (documents_at log v)) (sym vector);
}

-- what is taken follows from the numbers alone
pub applied-taken : (p : Projected) (o : Offer) (w : Worker) → (applied p o w).taken ≡ tracked p.vb p.to p.end o w.taken
applied-taken p (Next after) w = refl
applied-taken p Repeat w = refl
applied-taken p (Gap h f) w = refl
