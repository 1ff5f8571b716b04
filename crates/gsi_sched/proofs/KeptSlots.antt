-- Each kind of step keeps a slot: its worker and its pieces stand for the mutations, and the machine has their numbers.
use Rattle.std.proofs.Common.{◌≡◌, ℕ, zero, suc, ◌<◌, List, [], ◌∷◌, ◌++◌, map, slice_get, Option, Some, None, option_map, unwrap_or, refl, sym, ap, ◌∙◌, subst, arith}
use Rattle.std.specs.Prelude.{remove}
use Rattle.std.specs.Option.{option_map_or}
use Rattle.std.specs.FinMap as finmap
use Rattle.std.specs.Ordering.{nat_cmp}
use Rattle.std.specs.Cmp.Lexicographic.{slice_cmp}
use Rattle.std.proofs.lemmas.Option.{slice_get-map}
use Rattle.std.proofs.lemmas.List.{length-replicate, get_or-replicate, map-append}
use Rattle.seq_vector.specs.Vectors.{zeros, IsCovered}
use Rattle.vb_store.specs.declared.mutation.Mutation.{Mutation}
use Rattle.vb_store.specs.Mutations.{IsNumbered, high_of}
use Rattle.n1ql_value.specs.Documents.{Documents}
use Rattle.index_def.specs.declared.definition.IndexDef.{IndexDef}
use Rattle.index_def.specs.Keys.{keys_of}
use Rattle.dcp_stream.specs.Streams.{Bounds}
use Rattle.index_state.specs.Index.{HoldsKeys}
use Rattle.key_eval.specs.declared.projected.Projected.{Projected}
use Rattle.key_eval.specs.Stands.{ProjectedStands}
use Rattle.stability.specs.declared.offer.Offer.{Offer}
use Rattle.stability.specs.declared.offer.Offer.TheVariants.{Next, Repeat, Gap}
use Rattle.index_snapshot.specs.Workers.{Worker as RowWorker, first_worker, applied, offered, delivered}
use Rattle.index_snapshot.specs.Stands.{WorkerStands}
use Rattle.gsi_sched.specs.Machine.{Worker, idle, sent, unsent, moved, taken}
use Rattle.gsi_sched.specs.Slots.{Slot, numbers_in, shown, first_slot, with_piece, without_piece, after_delivery, numbers_after_delivery, IsKept}
use Rattle.gsi_sched.specs.inner.Stood.{Stood}
use Rattle.gsi_sched.proofs.Served.{each_weaker, each_push, each_left, each_there}

-- ---- lists of numbers

map-remove : {A B : Type 0} (f : A → B) (xs : List A) (i : ℕ) → map f (remove xs i) ≡ remove (map f xs) i
map-remove f [] zero = refl
map-remove f [] (suc i) = refl
map-remove f (x ∷ xs) zero = refl
map-remove f (x ∷ xs) (suc i) = ap (λ rest. f x ∷ rest) (map-remove f xs i)

-- a delivery by its numbers
applied_moves : (p : Projected) (o : Offer) (w : RowWorker) → (applied p o w).taken.at ≡ moved (numbers_in p) o w.taken.at
applied_moves p (Next after) w = refl
applied_moves p Repeat w = refl
applied_moves p (Gap have from) w = refl

pub applied_def : (p : Projected) (o : Offer) (w : RowWorker) → (applied p o w).def ≡ w.def
applied_def p (Next after) w = refl
applied_def p Repeat w = refl
applied_def p (Gap have from) w = refl

-- nothing is at zero
zeros_reached : (n : ℕ) (high : List ℕ) → IsCovered (zeros n) high
zeros_reached n high vb within =
    let low : vb < n = omega (arith, within, length-replicate {A = ℕ} n 0) in
    let none = get_or-replicate {A = ℕ} n vb 0 0 low in
    omega (arith, none)

module _ (stood : Stood) (n : ℕ) (log : List Mutation) (def : IndexDef) where
  -- more mutations
  pub grows : (more : List Mutation) (s : Slot) (w : Worker) → IsNumbered n (log ++ more) → IsKept n log def s w → IsKept n (log ++ more) def s w
  grows more s w numbered kept = record {
    own = kept.own;
    worker = stood.worker_grows n log more s.worker numbered kept.worker;
    pieces = each_weaker (ProjectedStands n def log) (ProjectedStands n def (log ++ more)) (λ p stands. stood.piece_grows n def log more p numbered stands) s.inbox kept.pieces;
    numbers = kept.numbers;
  }

  -- an index that begins to be built
  pub begins : (i : ℕ) → IsNumbered n log → IsKept n log def (first_slot i def n) (idle n)
  begins i numbered = record {
    own = refl;
    worker = record {
      at = record { numbered = numbered; size = length-replicate {A = ℕ} n 0; reached = zeros_reached n (high_of n log) };
      rows = subst (λ (docs : Documents). HoldsKeys (keys_of def) docs (first_worker i def n).held) (sym (stood.at_zero n n log numbered)) (record {
        at = λ id. ap (λ v. unwrap_or v []) (finmap.get-empty (slice_cmp nat_cmp) id) ∙ sym (ap (λ v. option_map_or (keys_of def id) v []) (finmap.get-empty (slice_cmp nat_cmp) id));
      });
    };
    pieces = tt;
    numbers = refl;
  }

  -- a piece that is sent
  pub sends : (p : Projected) (b : Bounds) (s : Slot) (w : Worker) → ProjectedStands n def log p → numbers_in p ≡ b → IsKept n log def s w → IsKept n log def (with_piece p s) (sent b w)
  sends p b s w stands same kept = record {
    own = kept.own;
    worker = kept.worker;
    pieces = each_push (ProjectedStands n def log) s.inbox p kept.pieces stands;
    numbers =
        ap (λ inbox. let x : Worker = record { at = s.worker.taken.at; inbox = inbox } in x) (map-append numbers_in s.inbox (p ∷ []) ∙ ap (λ q. map numbers_in s.inbox ++ q ∷ []) same)
        ∙ ap (sent b) kept.numbers;
  }

  -- a piece that is lost
  pub loses : (place : ℕ) (s : Slot) (w : Worker) → IsKept n log def s w → IsKept n log def (without_piece place s) (unsent place w)
  loses place s w kept = record {
    own = kept.own;
    worker = kept.worker;
    pieces = each_left (ProjectedStands n def log) s.inbox place kept.pieces;
    numbers =
        ap (λ inbox. let x : Worker = record { at = s.worker.taken.at; inbox = inbox } in x) (map-remove numbers_in s.inbox place)
        ∙ ap (unsent place) kept.numbers;
  }

  -- a piece that is delivered
  pub delivers : (place : ℕ) (s : Slot) (w : Worker) → IsKept n log def s w → IsKept n log def (after_delivery place s) (numbers_after_delivery place w)
  delivers place s w kept =
      subst (λ v. IsKept n log def (after_delivery place s) (numbers_after_delivery place v)) kept.numbers
      (subst (λ o. IsKept n log def (after_delivery place s) (option_map_or (λ b. taken b (unsent place (shown s))) o (shown s))) (sym (slice_get-map numbers_in s.inbox place))
      (by (slice_get s.inbox place) refl))
    where
      by : (o : Option Projected) → slice_get s.inbox place ≡ o
          → IsKept n log def (option_map_or (λ p. record (without_piece place s) { worker = delivered p s.worker }) o s)
          (option_map_or (λ b. taken b (unsent place (shown s))) (option_map numbers_in o) (shown s))
      by None none = record { own = kept.own; worker = kept.worker; pieces = kept.pieces; numbers = refl }
      by (Some p) there =
          let stands = each_there (ProjectedStands n def log) s.inbox place p kept.pieces there in
          record {
            own = applied_def p (offered p s.worker) s.worker ∙ kept.own;
            worker = stood.delivery n log s.worker p kept.worker (subst (λ d. ProjectedStands n d log p) (sym kept.own) stands);
            pieces = each_left (ProjectedStands n def log) s.inbox place kept.pieces;
            numbers =
                ap (λ at. let x : Worker = record { at = at; inbox = map numbers_in (remove s.inbox place) } in x) (applied_moves p (offered p s.worker) s.worker)
                ∙ ap (λ inbox. let x : Worker = record { at = moved (numbers_in p) (offered p s.worker) s.worker.taken.at; inbox = inbox } in x) (map-remove numbers_in s.inbox place);
          }

  -- a worker that is caught up
  pub catches_up : (v : RowWorker) (s : Slot) (w : Worker) → WorkerStands n log v → v.def ≡ def → v.taken.at ≡ high_of n log → IsKept n log def s w
      → IsKept n log def (record s { worker = v }) (record w { at = high_of n log })
  catches_up v s w stands own at kept = record {
    own = own;
    worker = stands;
    pieces = kept.pieces;
    numbers =
        ap (λ (a : List ℕ). let x : Worker = record { at = a; inbox = map numbers_in s.inbox } in x) at
        ∙ ap (λ (x : Worker). let y : Worker = record x { at = high_of n log } in y) kept.numbers;
  }
