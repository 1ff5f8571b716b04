-- The lines of events, one event after another.
use Rattle.std.proofs.Common.{◌≡◌, ◌⊎◌, inl, inr, ℕ, zero, suc, ◌+◌, ◌<◌, ◌≤◌, List, [], ◌∷◌, ◌++◌, cond, eqb, Some, None, length, get_or, drop, refl, ap, ap₂, sym, ◌∙◌, arith, append_assoc, add-one}
use Rattle.std.specs.Prelude.{slice_get, codes}
use Rattle.std.proofs.Math.Seq.{drop-cons, drop-nil}
use Rattle.scan_history.specs.declared.done.Answered.{Answered}
use Rattle.scan_history.specs.Events.{Event, mutate, define, build, online, publish, removed, start, answer, pick, fetch, not_yet, refuse}
use Rattle.script_text.specs.Lines.{line_of}
use Rattle.script_text.specs.Reports.{Beside, beside, event_members, demands_after, event_lines, first_text, answers_taken}

pub first_text-some : (answers : List Answered) (at : ℕ) (a : Answered) → Some a ≡ slice_get answers at → a.text ≡ first_text (drop at answers)
first_text-some [] at a h = absurd cc
first_text-some (x ∷ answers) zero a h = let e : a ≡ x = cc in ap (λ (y : Answered). y.text) e
first_text-some (x ∷ answers) (suc at) a h = first_text-some answers at a h

pub first_text-none : (answers : List Answered) (at : ℕ) → None ≡ slice_get answers at → Some (codes "null") ≡ first_text (drop at answers)
first_text-none [] at h = sym (ap first_text (drop-nil at))
first_text-none (x ∷ answers) zero h = absurd cc
first_text-none (x ∷ answers) (suc at) h = first_text-none answers at h

drop_more : (a n : ℕ) (xs : List Answered) → drop (a + n) xs ≡ drop n (drop a xs)
drop_more zero n xs = let e : zero + n ≡ n = omega arith in ap (λ k. drop k xs) e
drop_more (suc a) n [] = drop-nil (suc a + n) ∙ sym (drop-nil n)
drop_more (suc a) n (x ∷ xs) =
    let e : suc a + n ≡ suc (a + n) = omega arith in
    ap (λ k. drop k (x ∷ xs)) e ∙ drop_more a n xs

-- what an event tells beside itself, by demands that are the same
beside_alike : (f g : ℕ → List ℕ) → ((c : ℕ) → f c ≡ g c) → (answers : List Answered) (e : Event) → beside f answers e ≡ beside g answers e
beside_alike f g same answers (mutate c k what) = refl
beside_alike f g same answers (define c k i deferred def) = refl
beside_alike f g same answers (build c k indexes) = refl
beside_alike f g same answers (online c k indexes) = refl
beside_alike f g same answers (publish i at) = refl
beside_alike f g same answers (removed c k i) = refl
beside_alike f g same answers (start c k i demand) = refl
beside_alike f g same answers (answer c k at) = refl
beside_alike f g same answers (pick c k at) = refl
beside_alike f g same answers (fetch c k at fetched) = refl
beside_alike f g same answers (not_yet c k have) = ap (λ (demand : List ℕ). record { rows = first_text answers; demand = demand }) (same c)
beside_alike f g same answers (refuse c k code why) = refl

after_alike : (f g : ℕ → List ℕ) → ((c : ℕ) → f c ≡ g c) → (e : Event) (d : ℕ) → demands_after f e d ≡ demands_after g e d
after_alike f g same (mutate c k what) d = same d
after_alike f g same (define c k i deferred def) d = same d
after_alike f g same (build c k indexes) d = same d
after_alike f g same (online c k indexes) d = same d
after_alike f g same (publish i at) d = same d
after_alike f g same (removed c k i) d = same d
after_alike f g same (start c k i demand) d = ap (λ (v : List ℕ). cond (eqb d c) demand v) (same d)
after_alike f g same (answer c k at) d = same d
after_alike f g same (pick c k at) d = same d
after_alike f g same (fetch c k at fetched) d = same d
after_alike f g same (not_yet c k have) d = same d
after_alike f g same (refuse c k code why) d = same d

-- the lines of events, by demands that are the same
pub lines_alike : (f g : ℕ → List ℕ) → ((c : ℕ) → f c ≡ g c) → (events : List Event) (answers : List Answered) → event_lines f events answers ≡ event_lines g events answers
lines_alike f g same [] answers = refl
lines_alike f g same (e ∷ events) answers =
    ap₂ (λ (line rest : List ℕ). line ++ rest) (ap (λ (b : Beside). line_of (event_members b e)) (beside_alike f g same answers e))
    (lines_alike (demands_after f e) (demands_after g e) (after_alike f g same e) events (drop (answers_taken e) answers))

-- the line of one more event
pub event_more : (before after : ℕ → List ℕ) (events : List Event) (answers : List Answered) (i a : ℕ) (e : Event) (out more all : List ℕ) → i < length events → e ≡ get_or events i e
    → ((d : ℕ) → after d ≡ demands_after before e d)
    → more ≡ out ++ line_of (event_members (beside before (drop a answers) e) e) → out ++ event_lines before (drop i events) (drop a answers) ≡ all
    → more ++ event_lines after (drop (i + 1) events) (drop (a + answers_taken e) answers) ≡ all
event_more before after events answers i a e out more all lt is noted line h =
    let left : List Answered = drop a answers in
    let first : List ℕ = line_of (event_members (beside before left e) e) in
    let rest : List ℕ = event_lines (demands_after before e) (drop (suc i) events) (drop (answers_taken e) left) in
    let split : event_lines before (drop i events) left ≡ first ++ rest =
    ap (λ es. event_lines before es left) (drop-cons events i e lt)
    ∙ ap (λ (x : Event). line_of (event_members (beside before left x) x) ++ event_lines (demands_after before x) (drop (suc i) events) (drop (answers_taken x) left)) (sym is) in
    let there : event_lines after (drop (i + 1) events) (drop (a + answers_taken e) answers) ≡ rest =
    ap (λ k. event_lines after (drop k events) (drop (a + answers_taken e) answers)) (add-one i)
    ∙ (ap (event_lines after (drop (suc i) events)) (drop_more a (answers_taken e) answers)
    ∙ lines_alike after (demands_after before e) noted (drop (suc i) events) (drop (answers_taken e) left)) in
    ap (λ s. s ++ event_lines after (drop (i + 1) events) (drop (a + answers_taken e) answers)) line
    ∙ (ap (λ s. (out ++ first) ++ s) there
    ∙ (append_assoc out first rest ∙ (ap (λ s. out ++ s) (sym split) ∙ h)))

pub answers_taken-le : (e : Event) → answers_taken e ≤ 1
answers_taken-le (mutate c k what) = omega arith
answers_taken-le (define c k i deferred def) = omega arith
answers_taken-le (build c k indexes) = omega arith
answers_taken-le (online c k indexes) = omega arith
answers_taken-le (publish i at) = omega arith
answers_taken-le (removed c k i) = omega arith
answers_taken-le (start c k i demand) = omega arith
answers_taken-le (answer c k at) = omega arith
answers_taken-le (pick c k at) = omega arith
answers_taken-le (fetch c k at fetched) = omega arith
answers_taken-le (not_yet c k have) = omega arith
answers_taken-le (refuse c k code why) = omega arith

pub below_or_at : (k v : ℕ) → k < v + 1 → (k < v) ⊎ (k ≡ v)
below_or_at k zero h = inr (omega (arith, h))
below_or_at zero (suc v) h = inl (omega arith)
below_or_at (suc k) (suc v) h = elim (below_or_at k v (omega (arith, h))) [ inl l ↦ inl (omega (arith, l)) | inr e ↦ inr (ap suc e) ]
