-- Each kind of step keeps the rule of the table.
use Rattle.std.proofs.Common.{◌≡◌, ◌≢◌, ℕ, ◌+◌, ◌≤◌, ◌⊎◌, true, false, true≢false, eqb, List, [], ◌∷◌, ◌++◌, append-nil, append_assoc, length-set, get_or, get_or-set_same, get_or-set_other, set, Option, Some, None, sym, refl, ap, ◌∙◌, subst, ⊎_elim, arith}
use Rattle.std.proofs.lemmas.List.Elements.{All-nil, All-append, All-weaker}
use mathlib.Core.Logic.{dite}
use mathlib.Core.Option.{some, none}
use mathlib.Core.Option as maybe
use native.Mathlib.Decide.{ℕ_discrete}
use lib.ListN.{get_elem?}
use lib.Seq.{set-get_or}
use prog.Atomic.{either}
use Rattle.atomic_table.specs.Table.{State, Me, step, Act, keeps, takes, gives, stepped, Allows, Splits, Joins, opening}
use Rattle.atomic_table.proofs.Lists.{at_set, set_here, set_else, set_again, exchanged}
use Rattle.history_lock.specs.declared.view.View.{View}
use Rattle.history_lock.specs.Events.{longer, NoneNames, OnlyNames, GrewBy}
use Rattle.history_lock.specs.Rule.{first_view, spent_view, noted, next_view, counted, learnt, in_turn, out_of_turn, Knows, Turn, IsKept, takes_turn, marks, gives_turn, looks}
use Rattle.history_lock.specs.Rule.Turn.{free, held}
use Rattle.history_lock.proofs.Beginnings.{prefix_trans, later_all, longer_begins}
use Rattle.history_lock.proofs.Views.{at_end, put_here, same_at, each_set, each_snoc, named_before, apart_set, apart_snoc, turn_set, turn_snoc}

module _ {S E : Type 0} (events : S → List E) (party : E → Option ℕ) where
  abbrev V : Type 0
  V = View E

  abbrev St : Type 0
  St = State (Option S) V

  abbrev M : Type 0
  M = Me (Option S) V

  abbrev Rule : St → Type 0
  Rule = IsKept events party

  -- what is known of a view with no list of its own
  knows_nothing : (whole : List E) (made : ℕ) (o : V) → o.own ≡ [] → o.told ≡ [] → (unseen : List E) → o.seen ++ unseen ≡ whole → ((p : ℕ) → o.party ≡ Some p → NoneNames party p unseen)
      → ((p : ℕ) → o.party ≡ Some p → p ≤ made) → (o.party ≡ Some 0 → o.made ≡ made) → Knows party whole made o
  knows_nothing whole made o own told unseen begins others numbered counts = record {
    unseen = unseen;
    begins = begins;
    of_others = others;
    own_begins = (o.seen, ap (λ xs. xs ++ o.seen) own);
    told_begins = (o.seen, ap (λ xs. xs ++ o.seen) told);
    numbered = numbered;
    first_counts = counts;
  }

  -- a step that changes no view, no slot and not word 0
  unmoved : (s : St) (r : Rule s) (i n id : ℕ) (me : M) → i ≢ 0 → get_elem? s.views id ≡ some me.0 → Rule (stepped s i n id me.1 me.0 keeps)
  unmoved s r i n id me other at = subst (λ (vs : List V). Rule record { words = set s.words i n; homes = s.homes; views = vs }) (sym (set_again s.views id me.0 at)) record {
    wide = length-set s.words i n ∙ r.wide;
    deep = r.deep;
    whole = r.whole;
    made = r.made;
    turn = subst (λ (k : ℕ). Turn events k s.homes s.views r.whole) (sym (get_or-set_other s.words i 0 n 0 (λ e. other (sym e)))) r.turn;
    each_view = r.each_view;
    apart = r.apart;
    unmade = r.unmade;
  }

  -- a step that changes nothing
  same : (s : St) (r : Rule s) (i id : ℕ) (me : M) → get_elem? s.views id ≡ some me.0 → Rule (stepped s i (get_or s.words i 0) id me.1 me.0 keeps)
  same s r i id me at = subst (λ (z : List ℕ × List V). Rule record { words = z.0; homes = s.homes; views = z.1 }) (λ k. (sym (set-get_or s.words i 0) k, sym (set_again s.views id me.0 at) k)) r

  pub starts : (x : S) → events x ≡ [] → Rule (opening (0 ∷ 0 ∷ 0 ∷ []) (Some x ∷ []) first_view)
  starts x empty = record {
    wide = refl;
    deep = refl;
    whole = [];
    made = 0;
    turn = free refl x refl empty (alone (λ v. v.turn ≡ false) refl);
    each_view = alone (Knows party [] 0) (knows_nothing [] 0 first_view refl refl [] refl (λ p _. All-nil _) (λ p is. let zero_p : 0 ≡ p = cc in omega arith) (λ _. refl));
    apart = λ i j p v w ei ej _ _. only i v ei ∙ sym (only j w ej);
    unmade = λ p _. All-nil _;
  }
    where
      alone : (K : V → Type 0) → K first_view → (j : ℕ) (v : V) → get_elem? (first_view ∷ []) j ≡ some v → K v
      alone K h j v e = each_snoc K [] first_view h (λ i u a. absurd (maybe.some-ne-none u (sym a))) j v e

      only : (j : ℕ) (v : V) → get_elem? (first_view ∷ []) j ≡ some v → j ≡ 0
      only j v e = ⊎_elim (λ (t : get_elem? [] j ≡ some v). absurd (maybe.some-ne-none v (sym t))) (λ (t : (j ≡ 0) × (first_view ≡ v)). t.0) (at_end [] first_view v j e)

  -- the turn is taken where none was held
  took : (s : St) (r : Rule s) (id : ℕ) (me : M) → get_elem? s.views id ≡ some me.0 → get_or s.words 0 0 ≡ 0 → (x : S) → get_elem? s.homes 0 ≡ some (some (Some x)) → events x ≡ r.whole
      → ((j : ℕ) (v : V) → get_elem? s.views j ≡ some v → v.turn ≡ false) → Rule (stepped s 0 1 id me.1 (in_turn me.0 (events x)) (takes 0 (Some x)))
  took s r id me at zero_word x home is idle = let k = r.each_view id me.0 at in let w : V = in_turn me.0 (events x) in record {
    wide = length-set s.words 0 1 ∙ r.wide;
    deep = length-set s.homes 0 none ∙ r.deep;
    whole = r.whole;
    made = r.made;
    turn = held (get_or-set_same s.words 0 1 0 (let wide = r.wide in omega arith)) (set_here s.homes 0 none (let deep = r.deep in omega arith)) id w (put_here s.views id me.0 w at) refl is
        (λ j y other e. ⊎_elim (λ (t : (j ≡ id) × (w ≡ y)). absurd (other t.0)) (λ (t : (j ≢ id) × (get_elem? s.views j ≡ some y)). idle j y t.1) (at_set s.views id j w y e));
    each_view = each_set (Knows party r.whole r.made) s.views id w record {
      unseen = [];
      begins = append-nil (events x) ∙ is;
      of_others = λ p _. All-nil _;
      own_begins = prefix_trans me.0.own me.0.seen (events x) k.own_begins (k.unseen, k.begins ∙ sym is);
      told_begins = prefix_trans me.0.told me.0.seen (events x) k.told_begins (k.unseen, k.begins ∙ sym is);
      numbered = k.numbered;
      first_counts = k.first_counts;
    } (λ j u _ e. r.each_view j u e);
    apart = apart_set s.views id me.0 w at (λ q e. e) r.apart;
    unmade = r.unmade;
  }

  abbrev Takes : ℕ → ℕ → M → St → ℕ → Type 0
  Takes slots id me s n = (w : V) × (a : Act (Option S)) × Rattle.atomic_table.specs.Table.Valid s.homes me.1 a × Rule (stepped s 0 n id me.1 w a)
      × takes_turn events party (step slots 0 0 1 none) me (get_or s.words 0 0) (w, Rattle.atomic_table.specs.Table.carried_after me.1 a)

  takes_by : (slots id : ℕ) (me : M) (s : St) (r : Rule s) → get_elem? s.views id ≡ some me.0 → get_or s.words 0 0 ≡ 0 → Turn events (get_or s.words 0 0) s.homes s.views r.whole → Takes slots id me s 1
  takes_by slots id me s r at zero_word (free z x home is idle) = let k = r.each_view id me.0 at in (
    in_turn me.0 (events x),
    takes 0 (Some x),
    home,
    took s r id me at z x home is idle,
    ((λ _. (x, refl, (k.unseen, k.begins ∙ sym is, k.of_others))), (λ other. absurd (other zero_word))),
  )
  takes_by slots id me s r at zero_word (held one out h u ah on seen others) = absurd (omega arith)

  pub takes_keep : (slots id : ℕ) (me : M) → Allows Rule slots id me 0 (λ n. either (eqb n 0) 1 n) (takes_turn events party (step slots 0 0 1 none) me)
  takes_keep slots id me s r _ at _ = exchanged (get_or s.words 0 0) 0 1 (Takes slots id me s)
      (λ hit. takes_by slots id me s r at hit r.turn)
      (λ miss. (me.0, keeps, tt, same s r 0 id me at, ((λ hit. absurd (miss hit)), (λ _. refl))))

  pub marks_keep : (slots id : ℕ) (me : M) (i n : ℕ) → i ≢ 0 → Allows Rule slots id me i (λ _. n) (λ _. marks (step slots i n 0 none) me n)
  marks_keep slots id me i n other s r _ at _ = (me.0, keeps, tt, unmoved s r i n id me other at, refl)

  pub looks_keep : (slots id : ℕ) (me : M) (i : ℕ) → Allows Rule slots id me i (λ n. n) (looks (step slots i 0 0 none) me)
  looks_keep slots id me i s r _ at _ = let k = r.each_view id me.0 at in (me.0, keeps, tt, same s r i id me at, (refl, k.own_begins, k.told_begins))

  others_only : (p q : ℕ) (more : List E) → q ≢ p → OnlyNames party p more → NoneNames party q more
  others_only p q more other = All-weaker (λ e. (party e ≡ Some p) ⊎ (party e ≡ None)) (λ e. party e ≢ Some q)
      (λ e only is. ⊎_elim (λ (t : party e ≡ Some p). other (let same_party : q ≡ p = cc in same_party)) (λ (t : party e ≡ None). let bad : ⊥ = cc in bad) only) more

  gave : (s : St) (r : Rule s) (id h p : ℕ) (v u : V) (x : S) → get_elem? s.views id ≡ some v → v.party ≡ Some p → GrewBy party p v.seen (events x) → id ≡ h → get_elem? s.views h ≡ some u → u.seen ≡ r.whole
      → ((j : ℕ) (w : V) → j ≢ h → get_elem? s.views j ≡ some w → w.turn ≡ false) → Rule (stepped s 0 0 id ((0, Some x) ∷ []) (out_of_turn v (events x)) gives)
  gave s r id h p v u x at names grew same_seat ah seen idle =
      let w : V = out_of_turn v (events x) in
      let k = r.each_view id v at in
      let more : List E = grew.0 in
      let here : v.seen ≡ r.whole = ap (λ y. y.seen) (same_at s.views id h v u at ah same_seat) ∙ seen in
      record {
        wide = length-set s.words 0 0 ∙ r.wide;
        deep = length-set s.homes 0 (some (Some x)) ∙ r.deep;
        whole = events x;
        made = r.made;
        turn = free (get_or-set_same s.words 0 0 0 (let wide = r.wide in omega arith)) x (set_here s.homes 0 (some (Some x)) (let deep = r.deep in omega arith)) refl
            (each_set (λ y. y.turn ≡ false) s.views id w refl (λ j y other e. idle j y (λ is. other (is ∙ sym same_seat)) e));
        each_view = each_set (Knows party (events x) r.made) s.views id w record {
          unseen = [];
          begins = append-nil (events x);
          of_others = λ q _. All-nil _;
          own_begins = prefix_trans v.own v.seen (events x) k.own_begins (more, grew.1);
          told_begins = prefix_trans v.told v.seen (events x) k.told_begins (more, grew.1);
          numbered = k.numbered;
          first_counts = k.first_counts;
        } (λ j y other e. let ky = r.each_view j y e in record {
          unseen = ky.unseen ++ more;
          begins = sym (append_assoc y.seen ky.unseen more) ∙ (ap (λ z. z ++ more) (ky.begins ∙ sym here) ∙ grew.1);
          of_others = λ q is. All-append (λ e'. party e' ≢ Some q) ky.unseen more (ky.of_others q is)
              (others_only p q more (λ e'. other (r.apart j id p y v e at (is ∙ ap (λ n. Some n) e') names)) grew.2);
          own_begins = ky.own_begins;
          told_begins = ky.told_begins;
          numbered = ky.numbered;
          first_counts = ky.first_counts;
        });
        apart = apart_set s.views id v w at (λ q e. e) r.apart;
        unmade = λ q above. let low : p ≤ r.made = k.numbered p names in
            subst (NoneNames party q) grew.1 (All-append (λ e. party e ≢ Some q) v.seen more (subst (NoneNames party q) (sym here) (r.unmade q above)) (others_only p q more (λ is. absurd (omega arith)) grew.2));
      }

  gives_by : (s : St) (r : Rule s) (id p : ℕ) (v : V) (x : S) → get_elem? s.views id ≡ some v → v.party ≡ Some p → v.turn ≡ true → GrewBy party p v.seen (events x)
      → Turn events (get_or s.words 0 0) s.homes s.views r.whole → Rule (stepped s 0 0 id ((0, Some x) ∷ []) (out_of_turn v (events x)) gives)
  gives_by s r id p v x at names mine grew (free z y home is idle) = absurd (true≢false (sym mine ∙ idle id v at))
  gives_by s r id p v x at names mine grew (held one out h u ah on seen others) = dite (ℕ_discrete id h)
      (λ same_seat. gave s r id h p v u x at names grew same_seat ah seen others)
      (λ other. absurd (true≢false (sym mine ∙ others id v other at)))

  pub gives_keep : (slots id p : ℕ) (me : M) (x : S) → me.1 ≡ (0, Some x) ∷ [] → me.0.turn ≡ true → me.0.party ≡ Some p → GrewBy party p me.0.seen (events x)
      → Allows Rule slots id me 0 (λ _. 0) (λ _. gives_turn events (step slots 0 0 0 none) me 0)
  gives_keep slots id p me x out mine names grew =
      subst (λ (cs : List (ℕ × Option S)). Allows Rule slots id (me.0, cs) 0 (λ _. 0) (λ _. gives_turn events (step slots 0 0 0 none) (me.0, cs) 0)) (sym out)
      (λ s r _ at _. (out_of_turn me.0 (events x), gives, tt, gives_by s r id p me.0 x at names mine grew r.turn, (λ y is. let pairs : (let a : ℕ × Option S = (0, Some x) in a) ≡ (0, Some y) = cc in let somes : Some x ≡ Some y = ap (λ t. t.1) pairs in let one : x ≡ y = cc in ap (λ z. (out_of_turn me.0 (events z), [])) one)))

  pub splits_pass : (id : ℕ) (v : V) → v.party ≡ Some 0 → v.turn ≡ false → Splits Rule id v (counted v) (next_view v)
  splits_pass id v first quiet s r at =
      let l : V = counted v in
      let o : V = next_view v in
      let k = r.each_view id v at in
      let counts : v.made ≡ r.made = k.first_counts first in
      let vs : List V = set s.views id l in
      record {
        wide = r.wide;
        deep = r.deep;
        whole = r.whole;
        made = r.made + 1;
        turn = turn_snoc events _ _ _ vs o refl (turn_set events _ _ _ s.views id v l at quiet quiet r.turn);
        each_view = each_snoc (Knows party r.whole (r.made + 1)) vs o
            (knows_nothing r.whole (r.made + 1) o refl refl k.unseen k.begins
            (λ p is. let p_is : v.made + 1 ≡ p = cc in later_all (λ e. party e ≢ Some p) [] r.whole v.seen k.unseen r.whole refl k.begins (omega arith) (r.unmade p (omega arith)))
            (λ p is. let p_is : v.made + 1 ≡ p = cc in omega arith)
            (λ is. let bad : v.made + 1 ≡ 0 = cc in absurd (omega arith)))
            (each_set (Knows party r.whole (r.made + 1)) s.views id l record {
              unseen = k.unseen;
              begins = k.begins;
              of_others = k.of_others;
              own_begins = k.own_begins;
              told_begins = k.told_begins;
              numbered = λ p is. let low : p ≤ r.made = k.numbered p is in omega arith;
              first_counts = λ _. ap (λ (n : ℕ). n + 1) counts;
            } (λ j u other e. let ku = r.each_view j u e in record {
              unseen = ku.unseen;
              begins = ku.begins;
              of_others = ku.of_others;
              own_begins = ku.own_begins;
              told_begins = ku.told_begins;
              numbered = λ p is. let low : p ≤ r.made = ku.numbered p is in omega arith;
              first_counts = λ is. absurd (other (r.apart j id 0 u v e at is first));
            }));
        apart = apart_snoc vs o (λ j p u e is new. let p_is : v.made + 1 ≡ p = cc in
            let b = named_before s.views id j p v l u at (λ q same_party. same_party) e is in
            let low : p ≤ r.made = (r.each_view j b.0 b.1).numbered p b.2 in omega arith) (apart_set s.views id v l at (λ q e. e) r.apart);
        unmade = λ p above. r.unmade p (omega arith);
      }

  pub splits_note : (id : ℕ) (v : V) → Splits Rule id v v (noted v)
  splits_note id v s r at =
      let o : V = noted v in
      let k = r.each_view id v at in
      let nobody : (p : ℕ) → o.party ≡ Some p → ⊥ = λ p is. (let bad : ⊥ = cc in bad) in
      subst (λ (vs : List V). Rule record { words = s.words; homes = s.homes; views = vs ++ o ∷ [] }) (sym (set_again s.views id v at)) record {
        wide = r.wide;
        deep = r.deep;
        whole = r.whole;
        made = r.made;
        turn = turn_snoc events _ _ _ s.views o refl r.turn;
        each_view = each_snoc (Knows party r.whole r.made) s.views o
            (knows_nothing r.whole r.made o refl refl k.unseen k.begins (λ p is. absurd (nobody p is)) (λ p is. absurd (nobody p is)) (λ is. absurd (nobody 0 is))) r.each_view;
        apart = apart_snoc s.views o (λ j p u e is new. nobody p new) r.apart;
        unmade = r.unmade;
      }

  pub joins_note : (id : ℕ) (v : V) (other : ℕ) (w : V) → v.turn ≡ false → w.turn ≡ false → Joins Rule id v other w (learnt v w) spent_view
  joins_note id v other w quiet_v quiet_w s r at apart_seats at_other =
      let b : V = learnt v w in
      let nobody : (p : ℕ) → (spent_view {E = E}).party ≡ Some p → ⊥ = λ p is. (let bad : ⊥ = cc in bad) in
      let k = r.each_view id v at in
      let at_w : get_elem? s.views other ≡ some w = sym (set_else s.views id other b apart_seats) ∙ at_other in
      let kw = r.each_view other w at_w in
      let vs : List V = set s.views id b in
      let lb = longer_begins v.seen w.seen r.whole (k.unseen, k.begins) (kw.unseen, kw.begins) in
      record {
        wide = r.wide;
        deep = r.deep;
        whole = r.whole;
        made = r.made;
        turn = turn_set events _ _ _ vs other w spent_view at_other quiet_w refl (turn_set events _ _ _ s.views id v b at quiet_v quiet_v r.turn);
        each_view = each_set (Knows party r.whole r.made) vs other spent_view
            (knows_nothing r.whole r.made spent_view refl refl r.whole refl (λ p is. absurd (nobody p is)) (λ p is. absurd (nobody p is)) (λ is. absurd (nobody 0 is)))
            (λ j u _ e. each_set (Knows party r.whole r.made) s.views id b record {
              unseen = lb.2.0;
              begins = lb.2.1;
              of_others = λ p is. later_all (λ x. party x ≢ Some p) v.seen k.unseen (longer v.seen w.seen) lb.2.0 r.whole k.begins lb.2.1 lb.3 (k.of_others p is);
              own_begins = lb.0;
              told_begins = lb.1;
              numbered = k.numbered;
              first_counts = k.first_counts;
            } (λ i y _ e'. r.each_view i y e') j u e);
        apart = apart_set vs other w spent_view at_other (λ q is. absurd (nobody q is)) (apart_set s.views id v b at (λ q e. e) r.apart);
        unmade = r.unmade;
      }
