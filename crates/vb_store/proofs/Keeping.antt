-- A store stands for its mutations, from none on by one more at a time.
use Rattle.std.proofs.Common.{◌≡◌, ℕ, ◌<◌, ◌≤◌, List, [], ◌∷◌, ◌++◌, Bool, true, false, cond, Option, Some, None, eqb, length, get_or, set, replicate, refl, ap, sym, subst, ◌∙◌, inl, inr, arith, append-nil}
use Rattle.std.specs.Str.{bytes_eq}
use Rattle.std.proofs.lemmas.Cmp.{nat_list_eq_equiv}
use Rattle.std.proofs.lemmas.Bool.Decides.{eqb_tells}
use Rattle.std.proofs.lemmas.List.{get_or-set_same, get_or-set_other, get_or-replicate, length-replicate}
use Rattle.std.proofs.lemmas.List.Sums.{fold-append}
use Rattle.std.proofs.Math.ListN.{length-set}
use Rattle.std.proofs.lemmas.Grind.{same_number_lists}
use Rattle.std.specs.Option.{option_map}
use Rattle.n1ql_value.specs.declared.value.Value.{Value}
use Rattle.vb_store.specs.declared.mutation.Mutation.{Mutation}
use Rattle.vb_store.specs.Mutations.{of_vbucket, IsNext, high_of, next_mutation}
use Rattle.vb_store.specs.inner.Held.{IsKept}
use Rattle.vb_store.proofs.Numbering.{of_vbucket-append, numbered_push, high_of-push, length-high_of, entry-high_of}

one_by : (b : Bool) (m : Mutation) → b ≡ true → cond b (m ∷ []) [] ≡ m ∷ []
one_by true m e = refl
one_by false m e = cc

none_by : (b : Bool) (m : Mutation) → b ≡ false → cond b (m ∷ []) [] ≡ []
none_by true m e = cc
none_by false m e = refl

-- the newest numbers of no mutations
pub high_of-nil : (n : ℕ) → high_of n [] ≡ replicate n 0
high_of-nil n = same_number_lists (high_of n []) (replicate n 0) (length-high_of n [] ∙ sym (length-replicate n 0))
    (λ k h. let lt : k < n = omega (arith, length-high_of n []) in entry-high_of n [] k lt ∙ sym (get_or-replicate n k 0 0 lt))

pub kept_none : (n : ℕ) (lists : List (List Mutation)) (high : List ℕ) (last : List ℕ → Option Mutation) → 0 < n → n ≤ 1024 → lists ≡ replicate n [] → high ≡ replicate n 0 → ((id : List ℕ) → last id ≡ None) → IsKept n [] lists high last
kept_none n lists high last some few lists_is high_is last_is =
    record {
      some = some;
      few = few;
      numbered = tt;
      count = ap length lists_is ∙ length-replicate n [];
      each = λ vb lt. ap (λ ls. get_or ls vb []) lists_is ∙ get_or-replicate n vb [] [] lt;
      newest = high_is ∙ sym (high_of-nil n);
      last_is = last_is;
    }

pub kept_push : (n : ℕ) (log : List Mutation) (lists : List (List Mutation)) (high : List ℕ) (last last' : List ℕ → Option Mutation) (m : Mutation) → IsKept n log lists high last → IsNext n log m → m.vb < n → ((id : List ℕ) → last' id ≡ cond (bytes_eq m.id id) (Some m) (last id)) → IsKept n (log ++ m ∷ []) (set lists m.vb (get_or lists m.vb [] ++ m ∷ [])) (set high m.vb m.seqno) last'
kept_push n log lists high last last' m kept next within last_is =
    record {
      some = kept.some;
      few = kept.few;
      numbered = numbered_push n log m kept.numbered next;
      count = length-set lists m.vb _ ∙ kept.count;
      each = λ vb lt. elim (eqb_tells m.vb vb) [
        | inl w ↦
            let here : get_or (set lists m.vb (get_or lists m.vb [] ++ m ∷ [])) m.vb [] ≡ of_vbucket m.vb log ++ m ∷ [] =
            get_or-set_same lists m.vb (get_or lists m.vb [] ++ m ∷ []) [] (omega (arith, kept.count)) ∙ ap (λ ms. ms ++ m ∷ []) (kept.each m.vb within) in
            subst (λ b. get_or (set lists m.vb (get_or lists m.vb [] ++ m ∷ [])) b [] ≡ of_vbucket vb log ++ m ∷ []) w.1 (here ∙ ap (λ b. of_vbucket b log ++ m ∷ []) w.1)
            ∙ ap (λ ms. of_vbucket vb log ++ ms) (sym (one_by (eqb m.vb vb) m w.0)) ∙ sym (of_vbucket-append vb log (m ∷ []))
        | inr w ↦
            get_or-set_other lists m.vb vb (get_or lists m.vb [] ++ m ∷ []) [] (λ e. w.1 (sym e)) ∙ kept.each vb lt
            ∙ sym (of_vbucket-append vb log (m ∷ []) ∙ ap (λ ms. of_vbucket vb log ++ ms) (none_by (eqb m.vb vb) m w.0) ∙ append-nil _)
      ];
      newest = ap (λ h. set h m.vb m.seqno) kept.newest ∙ sym (high_of-push n log m next.number);
      last_is = λ id. last_is id ∙ ap (λ b. cond b (Some m) (last id)) (nat_list_eq_equiv.symm m.id id) ∙ ap (cond (bytes_eq id m.id) (Some m)) (kept.last_is id)
          ∙ sym (fold-append (λ l (x : Mutation). cond (bytes_eq id x.id) (Some x) l) None log (m ∷ []));
    }

-- the same for what stands in a store's fields
pub kept_none_at : (n : ℕ) (n' : ℕ) (log : List Mutation) (lists : List (List Mutation)) (high : List ℕ) (last : List ℕ → Option Mutation) → 0 < n → n ≤ 1024 → n' ≡ length high → log ≡ [] → lists ≡ replicate n [] → high ≡ replicate n 0 → ((id : List ℕ) → last id ≡ None) → IsKept n' log lists high last
kept_none_at n n' log lists high last some few size log_is lists_is high_is last_is =
    let whole : n ≡ n' = sym (size ∙ ap length high_is ∙ length-replicate n 0) in
    rw (log_is, ← whole) (kept_none n lists high last some few lists_is high_is last_is)

pub kept_push_at : (n n' : ℕ) (log log' : List Mutation) (lists lists' : List (List Mutation)) (high high' : List ℕ) (last last' : List ℕ → Option Mutation) (m : Mutation) → IsKept n log lists high last → IsNext n log m → m.vb < n → n ≡ length high → n' ≡ length high' → log' ≡ log ++ m ∷ [] → lists' ≡ set lists m.vb (get_or lists m.vb [] ++ m ∷ []) → high' ≡ set high m.vb m.seqno → ((id : List ℕ) → last' id ≡ cond (bytes_eq m.id id) (Some m) (last id)) → IsKept n' log' lists' high' last'
kept_push_at n n' log log' lists lists' high high' last last' m kept next within size size' log_is lists_is high_is last_is =
    let whole : n ≡ n' = size ∙ sym (length-set high m.vb m.seqno) ∙ ap length (sym high_is) ∙ sym size' in
    rw (log_is, lists_is, high_is, ← whole) (kept_push n log lists high last last' m kept next within last_is)

-- a look-up by id through what the map holds
pub mapped_cond : {A B : Type 0} (f : A → B) (b : Bool) (x : A) (rest : Option A) → option_map f (cond b (Some x) rest) ≡ cond b (Some (f x)) (option_map f rest)
mapped_cond f true x rest = refl
mapped_cond f false x rest = refl

pub IsNext-next_mutation : (n : ℕ) (log : List Mutation) (id : List ℕ) (body : Option Value) (m : Mutation) → m ≡ next_mutation n log id body → IsNext n log m
IsNext-next_mutation n log id body m is = subst (IsNext n log) (sym is) (record { bucket = refl; number = refl })

pub next_mutation-within : (n : ℕ) (log : List Mutation) (id : List ℕ) (body : Option Value) (m : Mutation) → m ≡ next_mutation n log id body → 0 < n → m.vb < n
next_mutation-within n log id body m is some = omega (arith, ap (λ (x : Mutation). x.vb) is)
