-- Requests that are open: what they were asked for, and that those that wait are answered.
use Rattle.std.proofs.Common.{◌≡◌, ◌⊎◌, ℕ, zero, suc, true, false, List, [], ◌∷◌, ◌++◌, length, Some, slice_get, refl, sym, ap, ◌∙◌, subst, inl, inr, true≢false}
use Rattle.std.specs.Prelude.{⊤}
use Rattle.std.specs.List.{AllByRecursion, flat_map}
use Rattle.std.specs.Option.{option_map_or}
use Rattle.std.proofs.lemmas.Bool.{cond_both}
use Rattle.std.proofs.lemmas.List.{length-replicate}
use Rattle.n1ql_value.specs.declared.range.Range.{Range}
use Rattle.seq_vector.specs.Vectors.{IsCovered}
use Rattle.vb_store.specs.Mutations.{high_of}
use Rattle.scan_coord.specs.declared.demand.Demand.{Demand}
use Rattle.scan_coord.specs.declared.demand.Demand.TheVariants.{NotBounded, AtPlus, Mine, RequestPlus}
use Rattle.scan_coord.specs.Demands.{IsSized, base_of}
use Rattle.index_def.specs.LiveIndexes.{numbered}
use Rattle.scan_history.specs.declared.ask.Ask.{Ask}
use Rattle.scan_history.specs.declared.command.Command.{Command}
use Rattle.scan_history.specs.declared.command.Command.TheVariants as command
use Rattle.scan_history.specs.declared.script.Script.{Script}
use Rattle.scan_history.specs.Events.{Event, define, publish, start}
use Rattle.scan_history.specs.Fold.{Opened, nothing, work, started, picked, Client, State, own_step, is_of, step, state_from}
use Rattle.scan_history.specs.Readings.{Read}
use Rattle.scan_history.specs.First.{commands_of, command_at, session_of}
use Rattle.scan_history.specs.Legal.{MayNotYet, MayFollow, IsLegalFrom, waits}
use Rattle.scan_history.specs.Consistent.{IsReached, IsConsistent}
use Rattle.scan_history.specs.Requests.{IsAsked}
use Rattle.scan_history.specs.Sound.{IsWithinBounds, IsSound}
use Rattle.scan_history.specs.inner.Known.{Known}
use Rattle.scan_history.proofs.Lists.{if_some}
use Rattle.scan_history.proofs.FirstActions.{AsksFor}
use Rattle.scan_history.proofs.Reached.{reached_self, reached_zero, reached_join}
use Rattle.scan_history.proofs.Consistency.{of_one, fits, consistent_next}

-- what is open for a client was asked for, where it is a request
abbrev pub Asks : Script → ℕ → Client → Opened → Type 0
Asks script c part (started i demand since) = IsAsked script c part demand since
Asks script c part _ = ⊤

module _ (known : Known) (read : List ℕ → Read) (script : Script) where
  begins : (s : State) (c : ℕ) (demand : List ℕ) (opened : Opened) (asked : Command) → IsConsistent script.vbuckets s → command_at script c (s.client c).next ≡ Some asked
      → AsksFor script s c asked demand → IsAsked script c (record (s.client c) { opened = opened }) demand (high_of script.vbuckets s.log)
  begins s c demand opened (command.Upsert id doc) holds there wants = absurd wants
  begins s c demand opened (command.Delete id) holds there wants = absurd wants
  begins s c demand opened (command.Ddl text) holds there wants = absurd wants
  begins s c demand opened (command.Scan index spans ask) holds there wants =
      record { index = index; spans = spans; ask = ask; command = there; wants = wants; seen = (holds.client c).seen; wrote = (holds.client c).wrote }

  own : (s : State) (e : Event) (c : ℕ) → IsConsistent script.vbuckets s → is_of c e ≡ true → MayFollow read script s e
      → Asks script c (own_step (high_of script.vbuckets s.log) (s.client c) e) (own_step (high_of script.vbuckets s.log) (s.client c) e).opened
  own s (start d k i demand) c holds of may =
      let fit = fits known read script s holds d (start d k i demand) may in
      let opened : Opened = started i demand (high_of script.vbuckets s.log) in
      subst (λ x. IsAsked script x (record (s.client x) { opened = opened }) demand (high_of script.vbuckets s.log)) (of_one c d of)
      (begins s d demand opened fit.0 holds fit.1 fit.2.1)
  own s (define d k i deferred def) c holds of may = cond_both deferred _ _ (λ (part : Client). Asks script c part part.opened) (λ yes. tt) (λ no. tt)
  own s (publish i at) c holds of may = absurd cc
  own s _ c holds of may = tt

  asks_next : (s : State) (e : Event) (c : ℕ) → IsConsistent script.vbuckets s → MayFollow read script s e → Asks script c (s.client c) (s.client c).opened
      → Asks script c ((step script.vbuckets s e).client c) ((step script.vbuckets s e).client c).opened
  asks_next s e c holds may asks =
      cond_both (is_of c e) (own_step (high_of script.vbuckets s.log) (s.client c) e) (s.client c) (λ (part : Client). Asks script c part part.opened)
      (λ of. own s e c holds of may) (λ other. asks)

  pub asks_from : (s : State) (events : List Event) (c : ℕ) → IsConsistent script.vbuckets s → IsLegalFrom read script s events → Asks script c (s.client c) (s.client c).opened
      → Asks script c ((state_from script.vbuckets s events).client c) ((state_from script.vbuckets s events).client c).opened
  asks_from s [] c holds legal asks = asks
  asks_from s (e ∷ es) c holds legal asks =
      asks_from (step script.vbuckets s e) es c (consistent_next known read script s holds e legal.0) legal.1 (asks_next s e c holds legal.0 asks)

-- what it asks for by itself was reached when it began, unless it gives a vector
base_reached : (known : Known) (demand : Demand) (since seen wrote : List ℕ) → IsReached since wrote
    → ((at : List ℕ) × (demand ≡ AtPlus at)) ⊎ IsReached since (base_of demand (record { seen = seen; wrote = wrote }) since)
base_reached known NotBounded since seen wrote h = inr (reached_zero since)
base_reached known (AtPlus at) since seen wrote h = inl (at, refl)
base_reached known Mine since seen wrote h = inr h
base_reached known RequestPlus since seen wrote h = inr (reached_self known since)

-- a request that waits isn't left without an answer, unless it gives a vector
pub answered_if_it_waits : (known : Known) (script : Script) (s : State) (c k : ℕ) (have : List ℕ) (index : List ℕ) (spans : List (List Range)) (ask : Ask)
    → Asks script c (s.client c) (s.client c).opened → command_at script c k ≡ Some (command.Scan index spans ask) → ask.wait ≡ true
    → k ≡ (s.client c).next → (o : Opened) → (s.client c).opened ≡ o → MayNotYet s (waits (command_at script c k)) have o
    → (at : List ℕ) × (ask.demand ≡ AtPlus at)
answered_if_it_waits known script s c k have index spans ask asks there waiting next nothing is may = absurd may
answered_if_it_waits known script s c k have index spans ask asks there waiting next (work indexes high) is may = absurd may
answered_if_it_waits known script s c k have index spans ask asks there waiting next (picked i v) is may = absurd may
answered_if_it_waits known script s c k have index spans ask asks there waiting next (started i demand since) is may =
    let asked : IsAsked script c (s.client c) demand since = subst (Asks script c (s.client c)) is asks in
    let scan : Some (command.Scan index spans ask) ≡ Some (command.Scan asked.index asked.spans asked.ask) =
    sym there ∙ ap (command_at script c) next ∙ asked.command in
    let same : ask ≡ asked.ask = cc in
    let found = if_some (numbered i s.live) (λ index. (have ≡ s.published i) × (¬ IsCovered demand have) × ((waits (command_at script c k) ≡ false) ⊎ (¬ IsCovered demand since))) may in
    let waiting_still : waits (command_at script c k) ≡ true = ap waits there ∙ waiting in
    elim (base_reached known asked.ask.demand since (s.client c).seen (s.client c).wrote asked.wrote) [
      | inl gives ↦ (gives.0, ap (λ (a : Ask). a.demand) same ∙ gives.1)
      | inr reached ↦ elim found.2.2 [
        | inl not ↦ absurd (true≢false (sym waiting_still ∙ not))
        | inr short ↦ absurd (short (subst (λ v. IsCovered v since) (sym asked.wants) (reached_join known since (s.client c).seen _ asked.seen reached).below))
      ]
    ]

-- the commands of a sound script are within their bounds
each_of_lists : {A : Type 0} (P : A → Type 0) (xs ys : List A) → AllByRecursion P (xs ++ ys) → AllByRecursion P xs × AllByRecursion P ys
each_of_lists P [] ys all = (tt, all)
each_of_lists P (x ∷ xs) ys all = let rest = each_of_lists P xs ys all.1 in ((all.0, rest.0), rest.1)

each_at : {A : Type 0} (P : A → Type 0) (xs : List A) (k : ℕ) (x : A) → AllByRecursion P xs → slice_get xs k ≡ Some x → P x
each_at P [] k x all at = absurd cc
each_at P (y ∷ xs) zero x all at = let same : y ≡ x = cc in subst P same all.0
each_at P (y ∷ xs) (suc k) x all at = each_at P xs k x all.1 at

each_in : {A : Type 0} (P : A → Type 0) (xss : List (List A)) (c : ℕ) → AllByRecursion P (flat_map (λ xs. xs) xss) → AllByRecursion P (option_map_or (λ xs. xs) (slice_get xss c) [])
each_in P [] c all = tt
each_in P (xs ∷ xss) zero all = (each_of_lists P xs (flat_map (λ ys. ys) xss) all).0
each_in P (xs ∷ xss) (suc c) all = each_in P xss c (each_of_lists P xs (flat_map (λ ys. ys) xss) all).1

pub within : (script : Script) (c k : ℕ) (asked : Command) → IsSound script → command_at script c k ≡ Some asked → IsWithinBounds script.vbuckets asked
within script c k asked sound at =
    each_at (IsWithinBounds script.vbuckets) (commands_of script c) k asked (each_in (IsWithinBounds script.vbuckets) script.commands c sound.commands) at

-- the demand of a request has an entry for each vBucket
pub base_size : (demand : Demand) (since seen wrote : List ℕ) (n : ℕ) → length since ≡ n → length wrote ≡ n → IsSized n demand → length (base_of demand (record { seen = seen; wrote = wrote }) since) ≡ n
base_size NotBounded since seen wrote n s w sized = length-replicate (length since) 0 ∙ s
base_size (AtPlus at) since seen wrote n s w sized = sized
base_size Mine since seen wrote n s w sized = w
base_size RequestPlus since seen wrote n s w sized = s

pub demand_size : (known : Known) (script : Script) (c : ℕ) (part : Client) (demand since : List ℕ) → IsSound script → length part.seen ≡ script.vbuckets
    → IsAsked script c part demand since → length demand ≡ script.vbuckets
demand_size known script c part demand since sound size asked =
    let n : length since ≡ script.vbuckets = sym asked.seen.size ∙ size in
    let base : length (base_of asked.ask.demand (session_of part) since) ≡ script.vbuckets =
    base_size asked.ask.demand since part.seen part.wrote script.vbuckets n (asked.wrote.size ∙ n)
    (within script c part.next (command.Scan asked.index asked.spans asked.ask) sound asked.command).1 in
    ap length asked.wants ∙ (known.join_size part.seen (base_of asked.ask.demand (session_of part) since) (size ∙ sym base) ∙ size)
