-- Streams and workers, where the newest numbers grow and where one of them is changed.
use Rattle.std.proofs.Common.{◌≡◌, ℕ, zero, suc, ◌≤◌, true, ◌==◌, List, [], ◌∷◌, ◌++◌, length, slice_get, Some, None, sym, ◌∙◌, subst, arith}
use Rattle.std.specs.Prelude.{remove}
use Rattle.std.specs.List.{AllByRecursion}
use Rattle.std.proofs.lemmas.Bool.{cond_both, cond-true}
use Rattle.std.proofs.lemmas.Bool.Decides.{nat_tests}
use Rattle.seq_vector.specs.Vectors.{entry, IsCovered}
use Rattle.dcp_stream.specs.Streams.{Stream, Bounds}
use Rattle.gsi_sched.specs.Machine.{Worker, put_at}
use Rattle.gsi_sched.specs.Running.{IsWithinHigh, IsFlowing, IsServed}
use Rattle.gsi_sched.specs.inner.Below.{Below}

-- ---- what holds of each element

pub each_weaker : {A : Type 0} (P Q : A → Type 0) → ((x : A) → P x → Q x) → (xs : List A) → AllByRecursion P xs → AllByRecursion Q xs
each_weaker P Q then [] all = all
each_weaker P Q then (x ∷ xs) all = (then x all.0, each_weaker P Q then xs all.1)

module _ {A : Type 0} (P : A → Type 0) where
  pub each_push : (xs : List A) (x : A) → AllByRecursion P xs → P x → AllByRecursion P (xs ++ x ∷ [])
  each_push [] x all last = (last, tt)
  each_push (y ∷ xs) x all last = (all.0, each_push xs x all.1 last)

  pub each_left : (xs : List A) (i : ℕ) → AllByRecursion P xs → AllByRecursion P (remove xs i)
  each_left [] zero all = all
  each_left [] (suc i) all = all
  each_left (x ∷ xs) zero all = all.1
  each_left (x ∷ xs) (suc i) all = (all.0, each_left xs i all.1)

  pub each_there : (xs : List A) (i : ℕ) (x : A) → AllByRecursion P xs → slice_get xs i ≡ Some x → P x
  each_there [] i x all at = absurd cc
  each_there (y ∷ xs) zero x all at = let same : y ≡ x = cc in subst P same all.0
  each_there (y ∷ xs) (suc i) x all at = each_there xs i x all.1 at

-- a place at which nothing stands is past the end
pub slice_past : {A : Type 0} (xs : List A) (k : ℕ) → slice_get xs k ≡ None → length xs ≤ k
slice_past [] k is = omega arith
slice_past (x ∷ xs) zero is = absurd cc
slice_past (x ∷ xs) (suc k) is = let rest = slice_past xs k is in omega (arith, rest)

-- ---- a family in which one member is changed

pub same_number : (i j : ℕ) → (j == i) ≡ true → j ≡ i
same_number i j is = grind (arith, nat_tests, is)

pub put_same : {A : Type 0} (i : ℕ) (a : A) (f : ℕ → A) → put_at i a f i ≡ a
put_same i a f = cond-true (i == i) a (f i) (grind (arith, nat_tests))

pub put_keeps : {A : Type 0} (P : ℕ → A → Type 0) (i : ℕ) (a : A) (f : ℕ → A) → P i a → ((j : ℕ) → P j (f j)) → (j : ℕ) → P j (put_at i a f j)
put_keeps P i a f here there j =
    cond_both (j == i) a (f j) (P j) (λ is. subst (λ x. P x a) (sym (same_number i j is)) here) (λ other. there j)

-- ---- higher newest numbers

module _ (below : Below) (high higher : List ℕ) (same : length high ≡ length higher) (up : IsCovered high higher) where
  pub within_later : (b : Bounds) → IsWithinHigh high b → IsWithinHigh higher b
  within_later b is =
      let above : entry high b.vb ≤ entry higher b.vb = up b.vb is.vbucket in
      record { vbucket = omega (arith, same, is.vbucket); begins = is.begins; some = is.some; last = is.last; reached = omega (arith, above, is.reached) }

  pub flowing_later : (s : Stream) → IsFlowing high s → IsFlowing higher s
  flowing_later s is =
      record { stream = is.stream; size = is.size ∙ same; reached = below.transitive s.ends high higher (is.stream.size ∙ is.size) is.reached up }

  pub served_later : (published : List ℕ) (w : Worker) → IsServed high published w → IsServed higher published w
  served_later published w is = record {
    size = is.size ∙ same;
    forth = is.forth;
    reached = below.transitive w.at high higher is.size is.reached up;
    inbox = each_weaker (IsWithinHigh high) (IsWithinHigh higher) within_later w.inbox is.inbox;
  }
