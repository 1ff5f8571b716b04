-- Pieces that bring a worker up to the newest numbers.
use Rattle.std.proofs.Common.{◌≡◌, ℕ, zero, suc, ◌+◌, ◌-◌, ◌<◌, ◌≤◌, true, cond, nat_lt, ◌==◌, List, [], ◌∷◌, map, length, refl, sym, ◌∙◌, subst, inl, inr, arith}
use Rattle.std.specs.List.{AllByRecursion, list_any}
use Rattle.std.proofs.lemmas.Bool.{cases_eq, cases_lt, cond_both, or_cases, or_left, or_right, true≢false}
use Rattle.std.proofs.lemmas.Bool.Decides.{nat_tests}
use Rattle.seq_vector.specs.Vectors.{entry, IsCovered}
use Rattle.vb_store.specs.declared.mutation.Mutation.{Mutation}
use Rattle.vb_store.specs.Mutations.{IsNumbered, high_of, slice_of}
use Rattle.index_def.specs.declared.definition.IndexDef.{IndexDef}
use Rattle.dcp_stream.specs.Streams.{Bounds}
use Rattle.key_eval.specs.declared.projected.Projected.{Projected}
use Rattle.key_eval.specs.Stands.{ProjectedStands}
use Rattle.key_eval.specs.Versions.{version_of}
use Rattle.index_snapshot.specs.Workers.{Worker as RowWorker, offered, delivered}
use Rattle.index_snapshot.specs.Stands.{WorkerStands}
use Rattle.gsi_sched.specs.Running.{IsWithinHigh}
use Rattle.gsi_sched.specs.Slots.{after_deliveries, BringUp}
use Rattle.gsi_sched.specs.inner.Below.{Below}
use Rattle.gsi_sched.specs.inner.Stood.{Stood}
use Rattle.gsi_sched.proofs.Served.{each_weaker}
use Rattle.gsi_sched.proofs.KeptSlots.{applied_def}

-- the numbers of a piece, as they are projected for an index
abbrev pub projected_for : ℕ → IndexDef → List Mutation → Bounds → Projected
projected_for i def log b =
    record { index = i; vb = b.vb; from = b.from; to = b.to; end = b.end; versions = map (version_of def) (slice_of log b.vb (b.from - 1) b.to) }

module _ (below : Below) (n : ℕ) (log : List Mutation) (numbered : IsNumbered n log) where
  pub projected_stands : (i : ℕ) (def : IndexDef) (b : Bounds) → IsWithinHigh (high_of n log) b → ProjectedStands n def log (projected_for i def log b)
  projected_stands i def b is = record {
    numbered = numbered;
    vbucket = omega (arith, is.vbucket, below.high_size n log);
    begins = is.begins;
    some = is.some;
    last = is.last;
    reached = is.reached;
    holds = refl;
  }

module _ (below : Below) (stood : Stood) (n : ℕ) (log : List Mutation) where
  abbrev high : List ℕ
  high = high_of n log

  -- one delivery lowers no number, and raises that of its vBucket up to the piece
  raises : (w : RowWorker) (p : Projected) (vb : ℕ) → p.vb < length w.taken.at → p.from ≤ entry w.taken.at p.vb + 1 → entry w.taken.at vb ≤ entry (delivered p w).taken.at vb
  raises w p vb there goes = elim (cases_eq vb p.vb) [
    | inl here ↦
        let own = stood.moves w p there goes in
        subst (λ k. entry w.taken.at k ≤ entry (delivered p w).taken.at k) (sym here) (grind (arith, nat_tests, own))
    | inr other ↦ let same = stood.stays w p vb other in omega (arith, same)
  ]

  up_to : (w : RowWorker) (p : Projected) → p.vb < length w.taken.at → p.from ≤ entry w.taken.at p.vb + 1 → p.to ≤ entry (delivered p w).taken.at p.vb
  up_to w p there goes = let own = stood.moves w p there goes in grind (arith, nat_tests, own)

  def_stays : (w : RowWorker) (p : Projected) → (delivered p w).def ≡ w.def
  def_stays w p = applied_def p (offered p w) w

  -- what becomes of the worker
  pub record Became (w v : RowWorker) (ps : List Projected) : Type 0 where
    pub stands : WorkerStands n log v
    pub own : v.def ≡ w.def
    pub raised : (vb : ℕ) → entry w.taken.at vb ≤ entry v.taken.at vb
    pub reached : AllByRecursion (λ (p : Projected). p.to ≤ entry v.taken.at p.vb) ps

  becomes : (ps : List Projected) (w : RowWorker) → WorkerStands n log w → AllByRecursion (ProjectedStands n w.def log) ps
      → AllByRecursion (λ (p : Projected). p.from ≤ entry w.taken.at p.vb + 1) ps → Became w (after_deliveries ps w) ps
  becomes [] w stands pieces goes = record { stands = stands; own = refl; raised = λ vb. omega arith; reached = tt }
  becomes (p ∷ ps) w stands pieces goes =
      let v = delivered p w in
      let there : p.vb < length w.taken.at = omega (arith, pieces.0.vbucket, stands.at.size) in
      let up : (vb : ℕ) → entry w.taken.at vb ≤ entry v.taken.at vb = λ vb. raises w p vb there goes.0 in
      let rest = becomes ps v (stood.delivery n log w p stands pieces.0)
      (subst (λ def. AllByRecursion (ProjectedStands n def log) ps) (sym (def_stays w p)) pieces.1)
      (each_weaker (λ (q : Projected). q.from ≤ entry w.taken.at q.vb + 1) (λ (q : Projected). q.from ≤ entry v.taken.at q.vb + 1)
      (λ q goes_on. let more = up q.vb in omega (arith, goes_on, more)) ps goes.1) in
      let to_it = up_to w p there goes.0 in
      let still = rest.raised p.vb in
      record {
        stands = rest.stands;
        own = rest.own ∙ def_stays w p;
        raised = λ vb. let one = up vb in let two = rest.raised vb in omega (arith, one, two);
        reached = (omega (arith, to_it, still), rest.reached);
      }

  -- a piece that comes up to a number of a vBucket
  comes_up : (v : RowWorker) (vb : ℕ) (ps : List Projected) → AllByRecursion (λ (p : Projected). p.to ≤ entry v.taken.at p.vb) ps
      → AllByRecursion (λ (p : Projected). p.to ≡ entry high p.vb) ps → list_any (λ (p : Projected). p.vb == vb) ps ≡ true → entry high vb ≤ entry v.taken.at vb
  comes_up v vb [] reached whole has = absurd (true≢false (sym has))
  comes_up v vb (p ∷ ps) reached whole has = elim (or_cases (p.vb == vb) (list_any (λ (p : Projected). p.vb == vb) ps) has) [
    | inl here ↦
        let is : p.vb ≡ vb = grind (arith, nat_tests, here) in
        subst (λ k. entry high k ≤ entry v.taken.at k) is (omega (arith, reached.0, whole.0))
    | inr there ↦ comes_up v vb ps reached.1 whole.1 there
  ]

  pub brought_up : (w : RowWorker) (ps : List Projected) → WorkerStands n log w → BringUp n log w ps
      → WorkerStands n log (after_deliveries ps w) × ((after_deliveries ps w).def ≡ w.def) × ((after_deliveries ps w).taken.at ≡ high)
  brought_up w ps stands bring =
      let v = after_deliveries ps w in
      let became = becomes ps w stands bring.stand bring.go_on in
      let sized : length v.taken.at ≡ n = became.stands.at.size in
      let covered : IsCovered high v.taken.at = λ vb within.
      let low : vb < n = omega (arith, within, below.high_size n log) in
      elim (cases_lt (entry w.taken.at vb) (entry high vb)) [
        | inl short ↦ comes_up v vb ps became.reached bring.whole (bring.each vb low short)
        | inr enough ↦ let up = became.raised vb in omega (arith, enough, up)
      ] in
      (became.stands, became.own, below.antisymmetric v.taken.at high (sized ∙ sym (below.high_size n log)) became.stands.at.reached covered)

  -- ---- there are such pieces

  abbrev next_of : RowWorker → ℕ → Projected
  next_of w vb = projected_for w.index w.def log (record { vb = vb; from = entry w.taken.at vb + 1; to = entry high vb; end = entry high vb })

  abbrev pub rest_of : RowWorker → ℕ → List Projected
  rest_of w zero = []
  rest_of w (suc vb) = cond (nat_lt (entry w.taken.at vb) (entry high vb)) (next_of w vb ∷ rest_of w vb) (rest_of w vb)

  next_within : (w : RowWorker) (vb : ℕ) → vb < n → entry w.taken.at vb < entry high vb → IsWithinHigh high (record { vb = vb; from = entry w.taken.at vb + 1; to = entry high vb; end = entry high vb })
  next_within w vb low short = record {
    vbucket = omega (arith, low, below.high_size n log);
    begins = omega arith;
    some = omega (arith, short);
    last = omega arith;
    reached = omega arith;
  }

  each_rest : (P : Projected → Type 0) (w : RowWorker) (k : ℕ) → k ≤ n → ((vb : ℕ) → vb < n → entry w.taken.at vb < entry high vb → P (next_of w vb)) → AllByRecursion P (rest_of w k)
  each_rest P w zero le holds = tt
  each_rest P w (suc vb) le holds =
      let rest = each_rest P w vb (omega (arith, le)) holds in
      cond_both (nat_lt (entry w.taken.at vb) (entry high vb)) (next_of w vb ∷ rest_of w vb) (rest_of w vb) (AllByRecursion P)
      (λ short. (holds vb (omega (arith, le)) (grind (arith, nat_tests, short)), rest)) (λ enough. rest)

  has_rest : (w : RowWorker) (k vb : ℕ) → vb < k → entry w.taken.at vb < entry high vb → list_any (λ (p : Projected). p.vb == vb) (rest_of w k) ≡ true
  has_rest w zero vb low short = absurd (omega (arith, low))
  has_rest w (suc k) vb low short =
      let Has : List Projected → Type 0 = λ ps. list_any (λ (p : Projected). p.vb == vb) ps ≡ true in
      elim (cases_eq vb k) [
        | inl here ↦
            let tested : nat_lt (entry w.taken.at k) (entry high k) ≡ true = subst (λ j. nat_lt (entry w.taken.at j) (entry high j) ≡ true) here (grind (arith, nat_tests, short)) in
            cond_both (nat_lt (entry w.taken.at k) (entry high k)) (next_of w k ∷ rest_of w k) (rest_of w k) Has
            (λ is. or_left (k == vb) (list_any (λ (p : Projected). p.vb == vb) (rest_of w k)) (grind (arith, nat_tests, here)))
            (λ not_so. absurd (true≢false (sym tested ∙ not_so)))
        | inr other ↦
            let rest = has_rest w k vb (omega (arith, low, other)) short in
            cond_both (nat_lt (entry w.taken.at k) (entry high k)) (next_of w k ∷ rest_of w k) (rest_of w k) Has
            (λ is. or_right (k == vb) (list_any (λ (p : Projected). p.vb == vb) (rest_of w k)) rest) (λ not_so. rest)
      ]

  pub rest_brings_up : (w : RowWorker) → WorkerStands n log w → BringUp n log w (rest_of w n)
  rest_brings_up w stands = record {
    stand = each_rest (ProjectedStands n w.def log) w n (omega arith) (λ vb low short. projected_stands below n log stands.at.numbered w.index w.def _ (next_within w vb low short));
    go_on = each_rest (λ (p : Projected). p.from ≤ entry w.taken.at p.vb + 1) w n (omega arith) (λ vb low short. omega arith);
    whole = each_rest (λ (p : Projected). p.to ≡ entry high p.vb) w n (omega arith) (λ vb low short. refl);
    each = λ vb low short. has_rest w n vb low short;
  }
