-- What the crates below promise of vectors, streams and histories.
use Rattle.std.specs.Prelude.{◌≡◌, ◌≢◌, ◌↔◌, ℕ, ◌<◌, ◌≤◌, List, [], ◌∷◌, ◌++◌, length, Some, None, IsTrue, slice_get}
use mathlib.Core.List.{IsPrefix}
use Rattle.seq_vector.specs.Vectors.{entry, IsCovered, covers, zeros}
use Rattle.vb_store.specs.declared.mutation.Mutation.{Mutation}
use Rattle.vb_store.specs.Mutations.{high_of}
use Rattle.n1ql_value.specs.declared.state.State.TheVariants.{Deferred}
use Rattle.index_def.specs.declared.definition.IndexDef.{IndexDef}
use Rattle.index_def.specs.LiveIndexes.{Live, numbered}
use Rattle.dcp_stream.specs.Streams.{Stream, Bounds, IsStream, next_bounds, advanced, rewound}
use Rattle.scan_history.specs.declared.script.Script.{Script}
use Rattle.scan_history.specs.Consistent.{IsConsistent}
use Rattle.scan_history.specs.Events.{Event}
use Rattle.scan_history.specs.First.{commands_of, first_action}
use Rattle.scan_history.specs.Fold.{State, nothing, started, step, state_after}
use Rattle.scan_history.specs.Legal.{MayFollow, IsLegal}
use Rattle.scan_history.specs.Readings.{Read, AreRead}
use Rattle.scan_history.specs.Requests.{IsWithinCommands}
use Rattle.scan_history.specs.Sound.{IsSound}

pub record Below : Type 0 where
  pub reflexive : (v : List ℕ) → IsCovered v v
  pub transitive : (u v w : List ℕ) → length u ≡ length v → IsCovered u v → IsCovered v w → IsCovered u w
  pub antisymmetric : (v w : List ℕ) → length v ≡ length w → IsCovered v w → IsCovered w v → v ≡ w
  pub tells : (have want : List ℕ) → IsTrue (covers have want) ↔ IsCovered want have
  pub high_size : (n : ℕ) (log : List Mutation) → length (high_of n log) ≡ n
  pub high_none : (n : ℕ) → high_of n [] ≡ zeros n
  pub high_grows : (n : ℕ) (log more : List Mutation) → IsCovered (high_of n log) (high_of n (log ++ more))
  pub bounds : (high : List ℕ) (most vb : ℕ) (s : Stream) (b : Bounds)
      → IsStream s → IsCovered s.ends high → vb < length s.at → 0 < most → next_bounds high most vb s ≡ Some b
      → (b.vb ≡ vb) × (1 ≤ b.from) × (b.from ≤ b.to) × (b.to ≤ b.end) × (b.end ≤ entry high vb)
  pub stream_next : (high : List ℕ) (most vb : ℕ) (s : Stream) → IsStream s → IsCovered s.ends high → vb < length s.at → IsStream (advanced high most vb s)
  pub reached_next : (high : List ℕ) (most vb : ℕ) (s : Stream) → IsStream s → IsCovered s.ends high → vb < length s.at → IsCovered (advanced high most vb s).ends high
  pub size_next : (high : List ℕ) (most vb : ℕ) (s : Stream) → length (advanced high most vb s).at ≡ length s.at
  pub stream_back : (to : List ℕ) (s : Stream) → length s.at ≡ length to → IsStream s → IsStream (rewound to s)
  pub within_back : (to : List ℕ) (s : Stream) → length s.at ≡ length to → IsStream s → IsCovered (rewound to s).ends s.ends
  pub size_back : (to : List ℕ) (s : Stream) → length s.at ≡ length to → length (rewound to s).at ≡ length s.at
  pub one_reading : (read other : List ℕ → Read) → AreRead read → AreRead other → (text : List ℕ) → read text ≡ other text
  pub one_more : (n : ℕ) (events : List Event) (e : Event) → state_after n (events ++ e ∷ []) ≡ step n (state_after n events) e
  pub legal_more : (script : Script) (events : List Event) (e : Event) → IsLegal script events
      → ((read : List ℕ → Read) → AreRead read → MayFollow read script (state_after script.vbuckets events) e) → IsLegal script (events ++ e ∷ [])
  pub consistent : (script : Script) (events : List Event) → IsLegal script events → IsConsistent script.vbuckets (state_after script.vbuckets events)
  pub served : (script : Script) (events more : List Event) (i : ℕ) (index later : Live) → IsLegal script (events ++ more)
      → numbered i (state_after script.vbuckets events).live ≡ Some index → index.state ≢ Deferred
      → numbered i (state_after script.vbuckets (events ++ more)).live ≡ Some later → later.state ≢ Deferred
  pub dropped : (script : Script) (events more : List Event) (i : ℕ) → IsLegal script (events ++ more)
      → i < length (state_after script.vbuckets events).defs → numbered i (state_after script.vbuckets events).live ≡ None
      → numbered i (state_after script.vbuckets (events ++ more)).live ≡ None
  pub made : (n : ℕ) (events more : List Event) (i : ℕ) (def : IndexDef)
      → slice_get (state_after n events).defs i ≡ Some def → slice_get (state_after n (events ++ more)).defs i ≡ Some def
  pub log_grows : (n : ℕ) (events more : List Event) → IsPrefix (state_after n events).log (state_after n (events ++ more)).log
  pub first : (read : List ℕ → Read) (script : Script) (s : State) (c : ℕ) (e : Event)
      → (s.client c).opened ≡ nothing → first_action read script s c ≡ Some e → MayFollow read script s e
  pub within : (script : Script) (events : List Event) (c : ℕ)
      → IsLegal script events → IsWithinCommands (length (commands_of script c)) ((state_after script.vbuckets events).client c)
  pub demand_size : (script : Script) (events : List Event) (c i : ℕ) (demand since : List ℕ) → IsSound script → IsLegal script events
      → ((state_after script.vbuckets events).client c).opened ≡ started i demand since → length demand ≡ script.vbuckets
