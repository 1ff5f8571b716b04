-- How what a rule reads follows from what its parts read, for any relations.
use Rattle.std.specs.Prelude.{◌≡◌, ℕ, suc, ◌≤◌, ◌<◌, Bool, false, List, [], ◌∷◌, ◌++◌, length, Option, Some, None, refl}
use Rattle.std.proofs.Common.{sym, ap, ◌∙◌, subst, append_assoc, arith}
use Rattle.n1ql_ast.specs.declared.token_class.TokenClass.{TokenClass}
use Rattle.n1ql_parse.specs.inner.Steps.{Outcome, got, stuck, Parser, and_then}
use Rattle.n1ql_parse.proofs.Reading.Prefixes.{Rel, next, Stops, Reads, Fails, Agrees, Within, Completes, Links, Seq, seq, Pure, none_taken, Next, meant, Either, one, other}

next_append : (front us vs : List TokenClass) → next us ≡ next vs → next (front ++ us) ≡ next (front ++ vs)
next_append [] us vs e = e
next_append (t ∷ front) us vs e = refl

length_append_least : (front us : List TokenClass) → length us ≤ length (front ++ us)
length_append_least [] us = omega arith
length_append_least (t ∷ front) us = let h = length_append_least front us in omega arith

pub shorter : {A : Type 0} {goes : TokenClass → Bool} {R : Rel A} {ts : List TokenClass} {x : A} {us : List TokenClass} → Reads goes R ts x us → length us ≤ length ts
shorter {us = us} r = let h = length_append_least r.front us in let e = ap length r.is in omega arith

-- what agrees with one relation agrees with another that reads the same
pub agrees_as : {A : Type 0} {before after : TokenClass → Bool} (R T : Rel A) (ts : List TokenClass) (o : Outcome A) → Agrees before R ts o →
    ((us vs : List TokenClass) (y : A) → R us y vs → T us y vs) →
    ((us vs : List TokenClass) (y : A) → next us ≡ next ts → T us y vs → Stops after vs → R us y vs × Stops before vs) →
    Agrees after T ts o
agrees_as R T ts (got x rest) r to from = record {
  front = r.front;
  is = r.is;
  sound = λ us. to _ _ _ (r.sound us);
  only = λ us vs y e q st.
      let p = from (r.front ++ us) vs y (next_append r.front us rest e ∙ ap next (sym r.is)) q st in
      r.only us vs y e p.0 p.1;
}
agrees_as R T ts (stuck n) r to from = record {
  front = r.front;
  rest = r.rest;
  is = r.is;
  is_left = r.is_left;
  more = r.more;
  tree = r.tree;
  viable = λ us. to _ _ _ (r.viable us);
  dead = λ us vs y e q st.
      let p = from (r.front ++ us) vs y (next_append r.front us r.rest e ∙ ap next (sym r.is)) q st in
      r.dead us vs y e p.0 p.1;
}

-- behind a token
pub agrees_after : {A : Type 0} {goes : TokenClass → Bool} (R T : Rel A) (ts : List TokenClass) (t : TokenClass) (o : Outcome A) → Agrees goes R ts o →
    ((us vs : List TokenClass) (y : A) → R us y vs → T (t ∷ us) y vs) →
    ((us vs : List TokenClass) (y : A) → T (t ∷ us) y vs → Stops goes vs → R us y vs) →
    Agrees goes T (t ∷ ts) o
agrees_after R T ts t (got x rest) r to from = record {
  front = t ∷ r.front;
  is = ap (λ us. t ∷ us) r.is;
  sound = λ us. to _ _ _ (r.sound us);
  only = λ us vs y e q st. r.only us vs y e (from (r.front ++ us) vs y q st) st;
}
agrees_after R T ts t (stuck n) r to from = record {
  front = t ∷ r.front;
  rest = r.rest;
  is = ap (λ us. t ∷ us) r.is;
  is_left = r.is_left;
  more = r.more;
  tree = r.tree;
  viable = λ us. to _ _ _ (r.viable us);
  dead = λ us vs y e q st. r.dead us vs y e (from (r.front ++ us) vs y q st) st;
}

-- nothing begins with the next token
pub agrees_none : {A : Type 0} {goes : TokenClass → Bool} (R : Rel A) (ts : List TokenClass) → Completes R →
    ((us vs : List TokenClass) (y : A) → next us ≡ next ts → R us y vs → Stops goes vs → ⊥) → Agrees goes R ts (stuck (length ts))
agrees_none R ts c dead = record {
  front = [];
  rest = ts;
  is = refl;
  is_left = refl;
  more = c.more;
  tree = c.tree;
  viable = c.reads;
  dead = dead;
}

-- what is read up to where nothing more is taken
pub ends : {A : Type 0} (R : Rel A) {us ts vs : List TokenClass} {x y : A} → Pure x ts y vs → R us x ts → R us y vs
ends R none_taken r = r

-- and what begins there
pub starts : {A B : Type 0} (S : A → Rel B) {ts us vs : List TokenClass} {x y : A} {z : B} → Pure x ts y us → S y us z vs → S x ts z vs
starts S none_taken r = r

pub within_pure : {A : Type 0} {n : ℕ} {goes : TokenClass → Bool} (x : A) → Within n goes (Pure x) (λ ts. got x ts)
within_pure {A = A} x = record {
  agrees = λ ts h. record {
    front = [];
    is = refl;
    sound = λ us. none_taken;
    only = λ us vs y e q st. of_pure q;
  };
}
  where
    of_pure : {us vs : List TokenClass} {y : A} → Pure x us y vs → (y ≡ x) × (vs ≡ us)
    of_pure none_taken = (refl, refl)

pub within_less : {A : Type 0} {m n : ℕ} {goes : TokenClass → Bool} {R : Rel A} {p : Parser A} → m ≤ n → Within n goes R p → Within m goes R p
within_less h w = record { agrees = λ ts k. w.agrees ts (omega arith) }

pub within_as : {A : Type 0} {n : ℕ} {before after : TokenClass → Bool} {R T : Rel A} {p : Parser A} → Within n before R p →
    ((us vs : List TokenClass) (y : A) → R us y vs → T us y vs) →
    ((us vs : List TokenClass) (y : A) → T us y vs → Stops after vs → R us y vs × Stops before vs) →
    Within n after T p
within_as {R = R} {T = T} {p = p} w to from = record { agrees = λ ts h. agrees_as R T ts (p ts) (w.agrees ts h) to (λ us vs y e. from us vs y) }

-- the same rule in another form
pub within_eq : {A : Type 0} {n : ℕ} {goes : TokenClass → Bool} {R : Rel A} {p q : Parser A} → Within n goes R p → ((ts : List TokenClass) → q ts ≡ p ts) → Within n goes R q
within_eq {goes = goes} {R = R} w e = record { agrees = λ ts h. subst (λ o. Agrees goes R ts o) (sym (e ts)) (w.agrees ts h) }

-- In sequence.

pub regrouped : {A B C : Type 0} (o : Outcome A) (f : A → Parser B) (h : B → Parser C) → and_then (and_then o f) h ≡ and_then o (λ x us. and_then (f x us) h)
regrouped (got x us) f h = refl
regrouped (stuck n) f h = refl

seq_only : {A B : Type 0} {before after : TokenClass → Bool} {R : Rel A} {S : A → Rel B} {ts us : List TokenClass} {x : A} (r : Reads before R ts x us) →
    ((x : A) → Links before after (S x)) → (ws vs : List TokenClass) (y : B) → next ws ≡ next us → Seq R S (r.front ++ ws) y vs → Stops after vs → S x ws y vs
seq_only {S = S} {x = x} r links ws vs y e (seq x' mid p q) st =
    let f = r.only ws mid x' e p ((links x').stops mid vs y q st) in
    subst (λ z. S z ws y vs) f.0 (subst (λ m. S x' m y vs) f.1 q)

seq_got : {A B : Type 0} {before after : TokenClass → Bool} {R : Rel A} {S : A → Rel B} {ts us : List TokenClass} {x : A} (o : Outcome B) → Reads before R ts x us →
    Agrees after (S x) us o → ((x : A) → Links before after (S x)) → Agrees after (Seq R S) ts o
seq_got {after = after} {R = R} {S = S} {us = us} {x = x} (got y rest) r k links = record {
  front = r.front ++ k.front;
  is = r.is ∙ (ap (λ vs. r.front ++ vs) k.is ∙ sym (append_assoc r.front k.front rest));
  sound = λ ws. subst (λ vs. Seq R S vs y ws) (sym (append_assoc r.front k.front ws)) (seq x (k.front ++ ws) (r.sound (k.front ++ ws)) (k.sound ws));
  only = λ ws vs z e q st.
      k.only ws vs z e (seq_only r links (k.front ++ ws) vs z (next_append k.front ws rest e ∙ ap next (sym k.is)) (subst (λ l. Seq R S l z vs) (append_assoc r.front k.front ws) q) st) st;
}
seq_got {after = after} {R = R} {S = S} {us = us} {x = x} (stuck n) r k links = record {
  front = r.front ++ k.front;
  rest = k.rest;
  is = r.is ∙ (ap (λ vs. r.front ++ vs) k.is ∙ sym (append_assoc r.front k.front k.rest));
  is_left = k.is_left;
  more = k.more;
  tree = k.tree;
  viable = λ ws. subst (λ vs. Seq R S vs k.tree ws) (sym (append_assoc r.front k.front (k.more ++ ws)))
      (seq x (k.front ++ (k.more ++ ws)) (r.sound (k.front ++ (k.more ++ ws))) (k.viable ws));
  dead = λ ws vs z e q st.
      k.dead ws vs z e (seq_only r links (k.front ++ ws) vs z (next_append k.front ws k.rest e ∙ ap next (sym k.is)) (subst (λ l. Seq R S l z vs) (append_assoc r.front k.front ws) q) st) st;
}

seq_dead : {A B : Type 0} {before after : TokenClass → Bool} {R : Rel A} {S : A → Rel B} {ts : List TokenClass} {n : ℕ} (r : Fails before R ts n) →
    ((x : A) → Links before after (S x)) → (ws vs : List TokenClass) (y : B) → next ws ≡ next r.rest → Seq R S (r.front ++ ws) y vs → Stops after vs → ⊥
seq_dead r links ws vs y e (seq x mid p q) st = r.dead ws mid x e p ((links x).stops mid vs y q st)

seq_stuck : {A B : Type 0} {before after : TokenClass → Bool} {R : Rel A} {S : A → Rel B} {ts : List TokenClass} {n : ℕ} → Fails before R ts n →
    ((x : A) → Links before after (S x)) → ((x : A) → Completes (S x)) → Fails after (Seq R S) ts n
seq_stuck {R = R} {S = S} r links completes =
    let c = completes r.tree in
    record {
      front = r.front;
      rest = r.rest;
      is = r.is;
      is_left = r.is_left;
      more = r.more ++ c.more;
      tree = c.tree;
      viable = λ us. subst (λ l. Seq R S (r.front ++ l) c.tree us) (sym (append_assoc r.more c.more us)) (seq r.tree (c.more ++ us) (r.viable (c.more ++ us)) (c.reads us));
      dead = seq_dead r links;
    }

pub agrees_seq : {A B : Type 0} {before after : TokenClass → Bool} (R : Rel A) (S : A → Rel B) (ts : List TokenClass) (f : A → Parser B) (o : Outcome A) → Agrees before R ts o →
    ((x : A) (us : List TokenClass) → length us ≤ length ts → Agrees after (S x) us (f x us)) →
    ((x : A) → Links before after (S x)) → ((x : A) → Completes (S x)) → Agrees after (Seq R S) ts (and_then o f)
agrees_seq R S ts f (got x us) r k links completes = seq_got (f x us) r (k x us (shorter r)) links
agrees_seq R S ts f (stuck n) r k links completes = seq_stuck r links completes

pub within_seq : {A B : Type 0} {n : ℕ} {before after : TokenClass → Bool} {R : Rel A} {S : A → Rel B} {p : Parser A} {f : A → Parser B} →
    Within n before R p → ((x : A) → Within n after (S x) (f x)) → ((x : A) → Links before after (S x)) → ((x : A) → Completes (S x)) →
    Within n after (Seq R S) (λ ts. and_then (p ts) f)
within_seq {R = R} {S = S} {p = p} {f = f} w k links completes = record {
  agrees = λ ts h. agrees_seq R S ts f (p ts) (w.agrees ts h) (λ x us l. (k x).agrees us (omega arith)) links completes;
}

-- By the next token.

abbrev pub if_seen : {A C : Type 0} → Option C → (C → A) → A → A
if_seen (Some c) f x = f c
if_seen None f x = x

-- the next token has to mean something
abbrev pub required : {B C : Type 0} → (TokenClass → Option C) → (C → Parser B) → Parser B
required look f [] = stuck 0
required look f (t ∷ ts) = if_seen (look t) (λ c. f c ts) (stuck (length (t ∷ ts)))

-- where the next token means nothing, another rule goes on
abbrev pub either : {B C : Type 0} → (TokenClass → Option C) → (C → Parser B) → Parser B → Parser B
either look f q [] = q []
either look f q (t ∷ ts) = if_seen (look t) (λ c. f c ts) (q (t ∷ ts))

pub next_is : {t : TokenClass} {us : List TokenClass} → next us ≡ Some t → (vs : List TokenClass) × (us ≡ t ∷ vs)
next_is {us = []} e = cc
next_is {us = u ∷ us} e = (us, ap (λ k. k ∷ us) (some_is e))
  where
    some_is : {u t : TokenClass} → Some u ≡ Some t → u ≡ t
    some_is e = cc

pub next_none : {us : List TokenClass} → next us ≡ None → us ≡ []
next_none {us = []} e = refl
next_none {us = u ∷ us} e = cc

-- behind a token that means c
pub after_seen : {A C : Type 0} {look : TokenClass → Option C} {R : C → Rel A} {t : TokenClass} {c : C} {us vs : List TokenClass} {y : A} → look t ≡ Some c →
    Next look R (t ∷ us) y vs → R c us y vs
after_seen {C = C} {look = look} {R = R} {t = t} {c = c} {us = us} {vs = vs} {y = y} e (meant t' c' us' is seen r) =
    let et : t ≡ t' = cc in
    let eu : us' ≡ us = cc in
    let ec : c' ≡ c = some_is (sym seen ∙ (ap look (sym et) ∙ e)) in
    subst (λ d. R d us y vs) ec (subst (λ l. R c' l y vs) eu r)
  where
    some_is : {a b : C} → Some a ≡ Some b → a ≡ b
    some_is e = cc

-- no token, or one that means nothing
pub unseen : {A C : Type 0} {look : TokenClass → Option C} {R : C → Rel A} {t : TokenClass} {us vs : List TokenClass} {y : A} → look t ≡ None → Next look R (t ∷ us) y vs → ⊥
unseen {look = look} {t = t} e (meant t' c' us' is seen r) =
    let et : t ≡ t' = cc in
    let h : Some c' ≡ None = sym seen ∙ (ap look (sym et) ∙ e) in cc

pub no_token : {A C : Type 0} {look : TokenClass → Option C} {R : C → Rel A} {vs : List TokenClass} {y : A} → Next look R [] y vs → ⊥
no_token (meant t' c' us' is seen r) = cc

pub within_required : {A C : Type 0} {n : ℕ} {goes : TokenClass → Bool} {look : TokenClass → Option C} {R : C → Rel A} {f : C → Parser A} →
    ((c : C) → Within n goes (R c) (f c)) → Completes (Next look R) → Within (suc n) goes (Next look R) (required look f)
within_required {C = C} {n = n} {goes = goes} {look = look} {R = R} {f = f} w completes = record { agrees = go }
  where
    head : (t : TokenClass) (ts : List TokenClass) (o : Option C) → look t ≡ o → length (t ∷ ts) < suc n → Agrees goes (Next look R) (t ∷ ts) (if_seen o (λ c. f c ts) (stuck (length (t ∷ ts))))
    head t ts (Some c) e h = agrees_after (R c) _ ts t (f c ts) ((w c).agrees ts (omega arith)) (λ us vs y r. meant t c us refl e r) (λ us vs y q st. after_seen e q)
    head t ts None e h = agrees_none _ _ completes (λ us vs y same q st.
        let p = next_is same in unseen e (subst (λ l. Next look R l y vs) p.1 q))

    go : (ts : List TokenClass) → length ts < suc n → Agrees goes (Next look R) ts (required look f ts)
    go [] h = agrees_none _ _ completes (λ us vs y same q st. no_token (subst (λ l. Next look R l y vs) (next_none same) q))
    go (t ∷ ts) h = head t ts (look t) refl h

pub within_either : {A C : Type 0} {n : ℕ} {goes : TokenClass → Bool} {look : TokenClass → Option C} {R : C → Rel A} {S : Rel A} {f : C → Parser A} {q : Parser A} →
    ((c : C) → Within n goes (R c) (f c)) → Within (suc n) goes S q →
    ((t : TokenClass) (c : C) (us vs : List TokenClass) (y : A) → look t ≡ Some c → S (t ∷ us) y vs → Stops goes vs → ⊥) →
    Within (suc n) goes (Either (Next look R) S) (either look f q)
within_either {A = A} {C = C} {n = n} {goes = goes} {look = look} {R = R} {S = S} {f = f} {q = q} w z off = record { agrees = go }
  where
    on_token : {t : TokenClass} {c : C} {us vs : List TokenClass} {y : A} → look t ≡ Some c → Either (Next look R) S (t ∷ us) y vs → Stops goes vs → R c us y vs
    on_token e (one r) st = after_seen e r
    on_token {t = t} {c = c} {us = us} {vs = vs} {y = y} e (other r) st = absurd (off t c us vs y e r st)

    on_other : {t : TokenClass} {us vs : List TokenClass} {y : A} → look t ≡ None → Either (Next look R) S (t ∷ us) y vs → S (t ∷ us) y vs
    on_other e (one r) = absurd (unseen e r)
    on_other e (other r) = r

    on_end : {vs : List TokenClass} {y : A} → Either (Next look R) S [] y vs → S [] y vs
    on_end (one r) = absurd (no_token r)
    on_end (other r) = r

    head : (t : TokenClass) (ts : List TokenClass) (o : Option C) → look t ≡ o → length (t ∷ ts) < suc n → Agrees goes (Either (Next look R) S) (t ∷ ts) (if_seen o (λ c. f c ts) (q (t ∷ ts)))
    head t ts (Some c) e h = agrees_after (R c) _ ts t (f c ts) ((w c).agrees ts (omega arith)) (λ us vs y r. one (meant t c us refl e r)) (λ us vs y r st. on_token e r st)
    head t ts None e h = agrees_as S _ (t ∷ ts) (q (t ∷ ts)) (z.agrees (t ∷ ts) h) (λ us vs y r. other r) (λ us vs y same r st.
        let p = next_is same in
        (subst (λ l. S l y vs) (sym p.1) (on_other e (subst (λ l. Either (Next look R) S l y vs) p.1 r)), st))

    go : (ts : List TokenClass) → length ts < suc n → Agrees goes (Either (Next look R) S) ts (either look f q ts)
    go [] h = agrees_as S _ [] (q []) (z.agrees [] h) (λ us vs y r. other r) (λ us vs y same r st.
        let e = next_none same in
        (subst (λ l. S l y vs) (sym e) (on_end (subst (λ l. Either (Next look R) S l y vs) e r)), st))
    go (t ∷ ts) h = head t ts (look t) refl h

-- What may come after.

pub links_pure : {A : Type 0} {before after : TokenClass → Bool} {x : A} → ((t : TokenClass) → after t ≡ false → before t ≡ false) → Links before after (Pure x)
links_pure {A = A} {before = before} {after = after} {x = x} less = record { stops = go }
  where
    weaker : (vs : List TokenClass) → Stops after vs → Stops before vs
    weaker [] st = tt
    weaker (t ∷ vs) st = less t st

    go : (us vs : List TokenClass) (y : A) → Pure x us y vs → Stops after vs → Stops before us
    go us _ _ none_taken st = weaker us st

pub links_next : {A C : Type 0} {before after : TokenClass → Bool} {look : TokenClass → Option C} {R : C → Rel A} → ((t : TokenClass) (c : C) → look t ≡ Some c → before t ≡ false) → Links before after (Next look R)
links_next {A = A} {before = before} {after = after} {look = look} {R = R} apart = record { stops = go }
  where
    go : (us vs : List TokenClass) (y : A) → Next look R us y vs → Stops after vs → Stops before us
    go us vs y (meant t c rest is seen r) st = subst (Stops before) (sym is) (apart t c seen)

pub links_either : {A : Type 0} {before after : TokenClass → Bool} {R S : Rel A} → Links before after R → Links before after S → Links before after (Either R S)
links_either {A = A} {before = before} {after = after} {R = R} {S = S} l k = record { stops = go }
  where
    go : (us vs : List TokenClass) (y : A) → Either R S us y vs → Stops after vs → Stops before us
    go us vs y (one r) st = l.stops us vs y r st
    go us vs y (other r) st = k.stops us vs y r st

pub links_seq : {A B : Type 0} {before between after : TokenClass → Bool} {R : Rel A} {S : A → Rel B} → Links before between R → ((x : A) → Links between after (S x)) → Links before after (Seq R S)
links_seq {B = B} {before = before} {after = after} {R = R} {S = S} l k = record { stops = go }
  where
    go : (us vs : List TokenClass) (y : B) → Seq R S us y vs → Stops after vs → Stops before us
    go us vs y (seq x mid p q) st = l.stops us mid x p ((k x).stops mid vs y q st)

-- What can be completed.

pub completes_pure : {A : Type 0} (x : A) → Completes (Pure x)
completes_pure x = record { more = []; tree = x; reads = λ us. none_taken }

pub completes_next : {A C : Type 0} {look : TokenClass → Option C} {R : C → Rel A} (t : TokenClass) (c : C) → look t ≡ Some c → Completes (R c) → Completes (Next look R)
completes_next t c e k = record { more = t ∷ k.more; tree = k.tree; reads = λ us. meant t c (k.more ++ us) refl e (k.reads us) }

pub completes_first : {A : Type 0} {R S : Rel A} → Completes R → Completes (Either R S)
completes_first k = record { more = k.more; tree = k.tree; reads = λ us. one (k.reads us) }

pub completes_other : {A : Type 0} {R S : Rel A} → Completes S → Completes (Either R S)
completes_other k = record { more = k.more; tree = k.tree; reads = λ us. other (k.reads us) }

pub completes_seq : {A B : Type 0} {R : Rel A} {S : A → Rel B} → Completes R → ((x : A) → Completes (S x)) → Completes (Seq R S)
completes_seq {R = R} {S = S} l k =
    let c = k l.tree in
    record {
      more = l.more ++ c.more;
      tree = c.tree;
      reads = λ us. subst (λ ts. Seq R S ts c.tree us) (sym (append_assoc l.more c.more us)) (seq l.tree (c.more ++ us) (l.reads (c.more ++ us)) (c.reads us));
    }
