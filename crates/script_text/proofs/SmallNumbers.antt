-- In a legal history of a sound script each client has commands, and no more mutations are made than there are commands. So the numbers that
-- a line's beginning tells are small enough to be written whole.
use Rattle.std.proofs.Common.{◌≡◌, ◌≢◌, ◌⊎◌, ℕ, zero, suc, ◌+◌, ◌^◌, ◌<◌, ◌≤◌, Bool, true, false, cond, ◌==◌, min, List, [], ◌∷◌, ◌++◌, length, find, Option, Some, None, MatchOption, slice_get, option_map, inl, inr, refl, sym, ap, ◌∙◌, subst, true≢false, arith, length-append}
use Rattle.std.specs.Prelude.{⊤, flat_map}
use Rattle.std.specs.List.{AllByRecursion}
use Rattle.std.specs.Option.{option_map_or}
use Rattle.std.proofs.lemmas.Bool.{cond_both}
use Rattle.std.proofs.lemmas.Bool.Decides.{nat_tests}
use Rattle.std.proofs.lemmas.Option.{slice_get_within}
use Rattle.n1ql_value.specs.Limits.{max_indexes, max_lines}
use Rattle.seq_vector.specs.Vectors.{entry, IsCovered}
use Rattle.vb_store.specs.declared.mutation.Mutation.{Mutation}
use Rattle.vb_store.specs.Mutations.{high_of}
use Rattle.index_def.specs.LiveIndexes.{Live, is_numbered, numbered}
use Rattle.scan_history.specs.declared.command.Command.{Command}
use Rattle.scan_history.specs.declared.command.Command.TheVariants.{Scan}
use Rattle.scan_history.specs.declared.script.Script.{Script}
use Rattle.scan_history.specs.declared.why.Why.TheVariants.{Plain, At, Because}
use Rattle.scan_history.specs.Events.{Event, mutate, define, build, online, publish, removed, start, answer, pick, fetch, not_yet, refuse, client_of}
use Rattle.scan_history.specs.First.{commands_of, command_at, first_action, first_of}
use Rattle.scan_history.specs.Fold.{Opened, nothing, work, started, picked, Client, State, first_state, own_step, is_of, step}
use Rattle.scan_history.specs.Readings.{Read}
use Rattle.scan_history.specs.Legal.{IsFirst, GoesOn, MayGoOnline, MayAnswer, MayFetch, MayNotYet, IsDropped, MayFollow, is_covered_by_index, waits}
use Rattle.scan_history.specs.Consistent.{IsConsistent}
use Rattle.scan_history.specs.Requests.{IsAsked}
use Rattle.scan_history.specs.Sound.{IsSound, all_commands}
use Rattle.script_text.proofs.Decimals.{IsWritten}
use Rattle.script_text.proofs.ReportMarks.{IsTold}

-- how many commands are done, where `next` tells the place of each client's next one
abbrev pub done_among : List (List Command) → (ℕ → ℕ) → ℕ
done_among [] next = 0
done_among (commands ∷ lists) next = min (next 0) (length commands) + done_among lists (λ c. next (suc c))

done_at_most : (lists : List (List Command)) (next : ℕ → ℕ) → done_among lists next ≤ length (flat_map (λ commands. commands) lists)
done_at_most [] next = omega arith
done_at_most (commands ∷ lists) next =
    omega (arith, done_at_most lists (λ c. next (suc c)), length-append commands (flat_map (λ commands. commands) lists))

done_grows : (lists : List (List Command)) (next then : ℕ → ℕ) → ((c : ℕ) → next c ≤ then c) → done_among lists next ≤ done_among lists then
done_grows [] next then grows = omega arith
done_grows (commands ∷ lists) next then grows =
    omega (arith, grows 0, done_grows lists (λ c. next (suc c)) (λ c. then (suc c)) (λ c. grows (suc c)))

done_more : (lists : List (List Command)) (c : ℕ) (commands : List Command) (next then : ℕ → ℕ) → slice_get lists c ≡ Some commands → next c < length commands
    → next c < then c → ((d : ℕ) → next d ≤ then d) → done_among lists next < done_among lists then
done_more [] c commands next then there lt more grows = absurd cc
done_more (x ∷ lists) zero commands next then there lt more grows =
    let same : x ≡ commands = cc in
    let within : next 0 < length x = subst (λ l. next 0 < length l) (sym same) lt in
    omega (arith, within, more, done_grows lists (λ c. next (suc c)) (λ c. then (suc c)) (λ c. grows (suc c)))
done_more (x ∷ lists) (suc c) commands next then there lt more grows =
    omega (arith, grows 0, done_more lists c commands (λ d. next (suc d)) (λ d. then (suc d)) there lt more (λ d. grows (suc d)))

-- what is open is of one of the first clients, and was not picked
abbrev IsHeld : (clients c : ℕ) → Opened → Type 0
IsHeld clients c nothing = ⊤
IsHeld clients c (work indexes high) = c < clients
IsHeld clients c (started i demand high) = c < clients
IsHeld clients c (picked i at) = ⊥

-- Each client for which something is open has commands, and no more mutations are made than commands are done.
pub record IsSpent (script : Script) (s : State) : Type 0 where
  pub held : (c : ℕ) → IsHeld (length script.commands) c (s.client c).opened
  pub count : length s.log ≤ done_among script.commands (λ c. (s.client c).next)

pub spent_first : (script : Script) → IsSpent script (first_state script.vbuckets)
spent_first script = record { held = λ c. tt; count = omega arith }

own_next : (high : List ℕ) (part : Client) (e : Event) → part.next ≤ (own_step high part e).next
own_next high part (mutate c k what) = omega arith
own_next high part (define c k i deferred def) = cond_both deferred _ _ (λ (p : Client). part.next ≤ p.next) (λ own. omega arith) (λ other. omega arith)
own_next high part (build c k indexes) = omega arith
own_next high part (online c k indexes) = omega arith
own_next high part (publish i at) = omega arith
own_next high part (removed c k i) = omega arith
own_next high part (start c k i demand) = omega arith
own_next high part (answer c k at) = omega arith
own_next high part (pick c k at) = omega arith
own_next high part (fetch c k at fetched) = omega arith
own_next high part (not_yet c k have) = omega arith
own_next high part (refuse c k code why) = omega arith

-- a list that was found at a place, and an element of it
inside : (lists : Option (List Command)) (k : ℕ) (x : Command) → slice_get (option_map_or (λ commands. commands) lists []) k ≡ Some x
    → (commands : List Command) × (lists ≡ Some commands) × (k < length commands)
inside None k x at = absurd cc
inside (Some commands) k x at = (commands, refl, slice_get_within commands k x at)

made_of : {A B : Type 0} (f : A → B) (o : Option A) (b : B) → option_map f o ≡ Some b → (a : A) × (o ≡ Some a)
made_of f None b is = absurd cc
made_of f (Some a) b is = (a, refl)

found : {A : Type 0} (P : A → Type 0) (o : Option A) → MatchOption o ⊥ P → (a : A) × (o ≡ Some a) × P a
found P None h = absurd h
found P (Some a) h = (a, refl, h)

some_is : (d c : ℕ) → Some d ≡ Some c → d ≡ c
some_is d c same = cc

equal : (n m : ℕ) → (n == m) ≡ true → n ≡ m
equal n m is = grind (arith, nat_tests, is)

not_itself : (c : ℕ) → (c == c) ≡ false → ⊥
not_itself c is = grind (arith, nat_tests, is)

is_of_is : (e : Event) (c : ℕ) → is_of c e ≡ true → client_of e ≡ Some c
is_of_is e c of = by (client_of e) of
  where
    by : (o : Option ℕ) → option_map_or (λ d. d == c) o false ≡ true → o ≡ Some c
    by None is = absurd (true≢false (sym is))
    by (Some d) is = ap Some (equal d c is)

-- what is found among some
found_among : {A : Type 0} (P : A → Type 0) (test : A → Bool) (xs : List A) (x : A) → AllByRecursion P xs → find test xs ≡ Some x → P x × (test x ≡ true)
found_among P test [] x all is = absurd cc
found_among P test (y ∷ xs) x all is = by (test y) refl (found_among P test xs x all.1)
  where
    by : (b : Bool) → test y ≡ b → (find test xs ≡ Some x → P x × (test x ≡ true)) → P x × (test x ≡ true)
    by true passes rest =
        let same : Some y ≡ Some x = sym (ap (λ b. cond b (Some y) (find test xs)) passes) ∙ is in
        let it : y ≡ x = cc in
        (subst P it all.0, subst (λ z. test z ≡ true) it passes)
    by false fails rest = rest (sym (ap (λ b. cond b (Some y) (find test xs)) fails) ∙ is)

-- the entries of a vector that is covered by one with small entries
covered_small : (v w : List ℕ) → IsCovered v w → ((vb : ℕ) → IsWritten (entry w vb)) → AllByRecursion IsWritten v
covered_small v w covered small = each v (λ vb lt. omega (arith, covered vb lt, small vb))
  where
    each : (xs : List ℕ) → ((vb : ℕ) → vb < length xs → IsWritten (entry xs vb)) → AllByRecursion IsWritten xs
    each [] all = tt
    each (x ∷ xs) all = (all 0 (omega arith), each xs (λ vb lt. all (suc vb) (omega arith)))

-- each request that is open was asked for
abbrev pub AreAsked : Script → State → Type 0
AreAsked script s = (c i : ℕ) (demand since : List ℕ) → (s.client c).opened ≡ started i demand since → IsAsked script c (s.client c) demand since

module _ (read : List ℕ → Read) (script : Script) (s : State) where
  abbrev clients : ℕ
  clients = length script.commands

  abbrev next_of : State → ℕ → ℕ
  next_of t c = (t.client c).next

  abbrev after : Event → State
  after e = step script.vbuckets s e

  command_of_first : (c : ℕ) (e : Event) → IsFirst read script s c e → (commands : List Command) × (slice_get script.commands c ≡ Some commands) × (next_of s c < length commands)
  command_of_first c e first =
      let command = made_of (first_of read script s c (next_of s c)) (command_at script c (next_of s c)) e first.1 in
      inside (slice_get script.commands c) (next_of s c) command.0 command.1

  first_client : (c : ℕ) (e : Event) → IsFirst read script s c e → c < clients
  first_client c e first = let it = command_of_first c e first in slice_get_within script.commands c it.0 it.1

  open_client : (c : ℕ) (Holds : Opened → Type 0) → (Holds nothing → ⊥) → (o : Opened) → IsHeld clients c o → Holds o → c < clients
  open_client c Holds none nothing held h = absurd (none h)
  open_client c Holds none (work indexes high) held h = held
  open_client c Holds none (started i demand high) held h = held
  open_client c Holds none (picked i at) held h = absurd held

  -- what is picked is no answer to a request that was asked for
  no_pick : (c k : ℕ) (at : List ℕ) → AreAsked script s → k ≡ next_of s c → (o : Opened) → (s.client c).opened ≡ o → MayAnswer s at o → is_covered_by_index (command_at script c k) ≡ false → ⊥
  no_pick c k at asked place nothing is may uncovered = absurd may
  no_pick c k at asked place (work indexes high) is may uncovered = absurd may
  no_pick c k at asked place (started i demand since) is may uncovered =
      let it = asked c i demand since is in
      let covered : is_covered_by_index (command_at script c k) ≡ true = ap (λ j. is_covered_by_index (command_at script c j)) place ∙ ap is_covered_by_index it.command in
      true≢false (sym covered ∙ uncovered)
  no_pick c k at asked place (picked i v) is may uncovered = absurd may

  no_fetch : (c : ℕ) (at fetched : List ℕ) (o : Opened) → IsHeld clients c o → MayFetch (high_of script.vbuckets s.log) at fetched o → ⊥
  no_fetch c at fetched nothing held may = may
  no_fetch c at fetched (work indexes high) held may = may
  no_fetch c at fetched (started i demand high) held may = may
  no_fetch c at fetched (picked i v) held may = held

  pub fetches_not : (c k : ℕ) (at fetched : List ℕ) → IsSpent script s → MayFollow read script s (fetch c k at fetched) → ⊥
  fetches_not c k at fetched spent may = no_fetch c at fetched (s.client c).opened (spent.held c) may.1

  -- the client of an event has commands
  pub client_within : (e : Event) (c : ℕ) → IsSpent script s → client_of e ≡ Some c → MayFollow read script s e → c < clients
  client_within (mutate d k what) c spent of may = subst (λ x. x < clients) (some_is d c of) (first_client d (mutate d k what) may)
  client_within (define d k i deferred def) c spent of may = subst (λ x. x < clients) (some_is d c of) (first_client d (define d k i deferred def) may)
  client_within (build d k indexes) c spent of may = subst (λ x. x < clients) (some_is d c of) (first_client d (build d k indexes) may)
  client_within (removed d k i) c spent of may = subst (λ x. x < clients) (some_is d c of) (first_client d (removed d k i) may)
  client_within (start d k i demand) c spent of may = subst (λ x. x < clients) (some_is d c of) (first_client d (start d k i demand) may)
  client_within (publish i at) c spent of may = absurd cc
  client_within (online d k indexes) c spent of may = subst (λ x. x < clients) (some_is d c of) (open_client d (MayGoOnline s indexes) (λ h. h) (s.client d).opened (spent.held d) may.1)
  client_within (answer d k at) c spent of may = subst (λ x. x < clients) (some_is d c of) (open_client d (MayAnswer s at) (λ h. h) (s.client d).opened (spent.held d) may.0.1)
  client_within (pick d k at) c spent of may = subst (λ x. x < clients) (some_is d c of) (open_client d (MayAnswer s at) (λ h. h) (s.client d).opened (spent.held d) may.0.1)
  client_within (fetch d k at fetched) c spent of may = absurd (fetches_not d k at fetched spent may)
  client_within (not_yet d k have) c spent of may =
      subst (λ x. x < clients) (some_is d c of) (open_client d (MayNotYet s (waits (command_at script d k)) have) (λ h. h) (s.client d).opened (spent.held d) may.1)
  client_within (refuse d k code why) c spent of may =
      subst (λ x. x < clients) (some_is d c of)
      (elim may [ inl first ↦ first_client d (refuse d k code why) first | inr gone ↦ open_client d (IsDropped s) (λ h. h) (s.client d).opened (spent.held d) gone.2.1 ])

  -- a client's own event leaves it so
  own_held : (e : Event) (c : ℕ) → AreAsked script s → client_of e ≡ Some c → c < clients → MayFollow read script s e
      → IsHeld clients c (own_step (high_of script.vbuckets s.log) (s.client c) e).opened
  own_held (mutate d k what) c asked of lt may = tt
  own_held (define d k i deferred def) c asked of lt may = cond_both deferred _ _ (λ (p : Client). IsHeld clients c p.opened) (λ own. tt) (λ other. lt)
  own_held (build d k indexes) c asked of lt may = lt
  own_held (online d k indexes) c asked of lt may = tt
  own_held (publish i at) c asked of lt may = absurd cc
  own_held (removed d k i) c asked of lt may = tt
  own_held (start d k i demand) c asked of lt may = lt
  own_held (answer d k at) c asked of lt may = tt
  own_held (pick d k at) c asked of lt may = absurd (no_pick d k at asked may.0.0 (s.client d).opened refl may.0.1 may.1)
  own_held (fetch d k at fetched) c asked of lt may = tt
  own_held (not_yet d k have) c asked of lt may = tt
  own_held (refuse d k code why) c asked of lt may = tt

  held_next : (e : Event) → AreAsked script s → IsSpent script s → MayFollow read script s e → (c : ℕ) → IsHeld clients c ((after e).client c).opened
  held_next e asked spent may c =
      cond_both (is_of c e) _ _ (λ (p : Client). IsHeld clients c p.opened)
      (λ own. let of = is_of_is e c own in own_held e c asked of (client_within e c spent of may) may) (λ other. spent.held c)

  next_grows : (e : Event) (c : ℕ) → next_of s c ≤ next_of (after e) c
  next_grows e c = cond_both (is_of c e) _ _ (λ (p : Client). next_of s c ≤ p.next) (λ own. own_next (high_of script.vbuckets s.log) (s.client c) e) (λ other. omega arith)

  same_log : (e : Event) → IsSpent script s → (after e).log ≡ s.log → length (after e).log ≤ done_among script.commands (next_of (after e))
  same_log e spent same = omega (arith, spent.count, ap length same, done_grows script.commands (next_of s) (next_of (after e)) (next_grows e))

  count_next : (e : Event) → IsSpent script s → MayFollow read script s e → length (after e).log ≤ done_among script.commands (next_of (after e))
  count_next (mutate c k what) spent may =
      let e : Event = mutate c k what in
      let it = command_of_first c e may in
      let more : next_of s c < next_of (after e) c =
      cond_both (is_of c e) _ _ (λ (p : Client). next_of s c < p.next) (λ own. omega arith) (λ other. absurd (not_itself c other)) in
      omega (arith, spent.count, length-append s.log (what ∷ []), done_more script.commands c it.0 (next_of s) (next_of (after e)) it.1 it.2 more (next_grows e))
  count_next (define c k i deferred def) spent may = same_log (define c k i deferred def) spent refl
  count_next (build c k indexes) spent may = same_log (build c k indexes) spent refl
  count_next (online c k indexes) spent may = same_log (online c k indexes) spent refl
  count_next (publish i at) spent may = same_log (publish i at) spent refl
  count_next (removed c k i) spent may = same_log (removed c k i) spent refl
  count_next (start c k i demand) spent may = same_log (start c k i demand) spent refl
  count_next (answer c k at) spent may = same_log (answer c k at) spent refl
  count_next (pick c k at) spent may = same_log (pick c k at) spent refl
  count_next (fetch c k at fetched) spent may = same_log (fetch c k at fetched) spent refl
  count_next (not_yet c k have) spent may = same_log (not_yet c k have) spent refl
  count_next (refuse c k code why) spent may = same_log (refuse c k code why) spent refl

  pub spent_next : (e : Event) → AreAsked script s → IsSpent script s → MayFollow read script s e → IsSpent script (step script.vbuckets s e)
  spent_next e asked spent may = record { held = held_next e asked spent may; count = count_next e spent may }

  -- the mark of an event that may follow has small numbers
  module _ (few : (n : ℕ) (log : List Mutation) (vb : ℕ) → entry (high_of n log) vb ≤ length log) (size : (n : ℕ) (log : List Mutation) → length (high_of n log) ≡ n)
      (sound : IsSound script) (holds : IsConsistent script.vbuckets s) (spent : IsSpent script s) where
    small_high : (vb : ℕ) → IsWritten (entry (high_of script.vbuckets s.log) vb)
    small_high vb = omega (arith, few script.vbuckets s.log vb, spent.count, done_at_most script.commands (next_of s), sound.lines)

    small_client : (e : Event) (c : ℕ) → client_of e ≡ Some c → MayFollow read script s e → IsWritten c
    small_client e c of may = omega (arith, client_within e c spent of may, sound.lists, sound.clients.1)

    pub told : (e : Event) → MayFollow read script s e → IsTold script.vbuckets e
    told (mutate c k what) may = small_client (mutate c k what) c refl may
    told (define c k i deferred def) may = small_client (define c k i deferred def) c refl may
    told (build c k indexes) may = small_client (build c k indexes) c refl may
    told (online c k indexes) may = small_client (online c k indexes) c refl may
    told (publish i at) may =
        let it = found (GoesOn (high_of script.vbuckets s.log) (s.published i) at) (numbered i s.live) may in
        let made = found_among (λ (index : Live). slice_get s.defs index.number ≡ Some index.def) (is_numbered i) s.live it.0 holds.defs it.1 in
        let index : it.0.number < length s.defs = slice_get_within s.defs it.0.number it.0.def made.0 in
        let same : it.0.number ≡ i = equal it.0.number i made.1 in
        (omega (arith, same, index, holds.made), it.2.size ∙ size script.vbuckets s.log, covered_small at (high_of script.vbuckets s.log) it.2.reached small_high)
    told (removed c k i) may = small_client (removed c k i) c refl may
    told (start c k i demand) may = small_client (start c k i demand) c refl may
    told (answer c k at) may = small_client (answer c k at) c refl may
    told (pick c k at) may = small_client (pick c k at) c refl may
    told (fetch c k at fetched) may = small_client (fetch c k at fetched) c refl may
    told (not_yet c k have) may = small_client (not_yet c k have) c refl may
    told (refuse c k code Plain) may = small_client (refuse c k code Plain) c refl may
    told (refuse c k code (At at)) may = small_client (refuse c k code (At at)) c refl may
    told (refuse c k code (Because reason)) may = small_client (refuse c k code (Because reason)) c refl may
