-- What lines say, by the values under their names.
use Rattle.std.proofs.Common.{◌≡◌, ℕ, ◌<◌, Bool, true, List, [], Option, Some, None, pos, unwrap_or, ap, ap₂, ◌∙◌, arith}
use Rattle.std.specs.Prelude.{codes, decimal, option_and_then, unsigned_abs}
use Rattle.std.specs.Option.{option_map_or}
use Rattle.std.proofs.lemmas.List.FromFn.{get_or-map-range_with_len}
use Rattle.n1ql_value.specs.declared.value.Value.{Value}
use Rattle.n1ql_value.specs.declared.value.Value.TheVariants as value
use Rattle.n1ql_value.specs.Kinds.{number_in, text_in}
use Rattle.scan_coord.specs.declared.demand.Demand.{Demand}
use Rattle.scan_coord.specs.declared.demand.Demand.TheVariants.{NotBounded, AtPlus, Mine, RequestPlus}
use Rattle.scan_history.specs.declared.turn.Turn.TheVariants as turn
use Rattle.seq_vector.specs.Vectors.{entry}
use Rattle.script_text.specs.declared.reader.format.form.Form.TheVariants as form
use Rattle.script_text.specs.Members.{Members, no_members, value_at, optional_text, count_at, flag_in}
use Rattle.script_text.specs.Requests.{mine_or_vector, demanded, ask_of}
use Rattle.script_text.specs.SparseVectors.{vector_of, vector_of_value}
use Rattle.script_text.specs.Turns.{turn_of}

-- what stands under a name, or doesn't
abbrev text_of : Option Value → List ℕ → List ℕ
text_of found other = unwrap_or (option_and_then text_in found) other

abbrev count_of : Option Value → ℕ
count_of found = unsigned_abs (unwrap_or (option_and_then number_in found) (pos 0))

entry-is : (n vb : ℕ) (entries : Members) → vb < n → entry (vector_of n entries) vb ≡ count_at (decimal vb) 0 entries
entry-is n vb entries h = get_or-map-range_with_len (λ k. count_at (decimal k) 0 entries) 0 n vb vb 0 h (omega arith)

pub entry-named : (n vb x : ℕ) (entries : Members) → vb < n → value_at (decimal vb) entries ≡ Some (value.Int (pos x)) → entry (vector_of n entries) vb ≡ x
entry-named n vb x entries h e = entry-is n vb entries h ∙ ap count_of e

pub entry-unnamed : (n vb : ℕ) (entries : Members) → vb < n → value_at (decimal vb) entries ≡ None → entry (vector_of n entries) vb ≡ 0
entry-unnamed n vb entries h e = entry-is n vb entries h ∙ ap count_of e

-- the demand of a request, by its consistency and what stands under `at`
abbrev demand_from : ℕ → Members → Option Value → Demand
demand_from n members found = demanded n (text_of found (codes "not_bounded")) members

abbrev at_from : ℕ → Option Value → Demand
at_from n found = option_map_or (mine_or_vector n) found NotBounded

pub demand-none : (n : ℕ) (members : Members) → value_at (codes "consistency") members ≡ None → (ask_of n members).demand ≡ NotBounded
demand-none n members e = ap (demand_from n members) e

pub demand-all : (n : ℕ) (members : Members) → value_at (codes "consistency") members ≡ Some (value.Text (codes "request_plus")) → (ask_of n members).demand ≡ RequestPlus
demand-all n members e = ap (demand_from n members) e

pub demand-own : (n : ℕ) (members : Members) → value_at (codes "consistency") members ≡ Some (value.Text (codes "at_plus"))
    → value_at (codes "at") members ≡ Some (value.Text (codes "mine")) → (ask_of n members).demand ≡ Mine
demand-own n members e at = ap (demand_from n members) e ∙ ap (at_from n) at

pub demand-given : (n : ℕ) (members entries : Members) → value_at (codes "consistency") members ≡ Some (value.Text (codes "at_plus"))
    → value_at (codes "at") members ≡ Some (value.Object entries) → (ask_of n members).demand ≡ AtPlus (vector_of n entries)
demand-given n members entries e at = ap (demand_from n members) e ∙ ap (at_from n) at

abbrev wait_from : Option Value → Bool
wait_from found = unwrap_or (option_and_then flag_in found) true

pub wait-none : (n : ℕ) (members : Members) → value_at (codes "wait") members ≡ None → (ask_of n members).wait ≡ true
wait-none n members e = ap wait_from e

pub wait-told : (n : ℕ) (members : Members) (wait : Bool) → value_at (codes "wait") members ≡ Some (value.Bool wait) → (ask_of n members).wait ≡ wait
wait-told n members wait e = ap wait_from e

-- the turns
pub turn-client : (n c : ℕ) (members : Members) → value_at (codes "c") members ≡ Some (value.Int (pos c)) → turn_of n form.Client members ≡ Some (turn.Client c)
unfolding turn_of
turn-client n c members e = ap (λ o. Some (turn.Client (count_of o))) e

pub turn-project : (n vb : ℕ) (members : Members) → value_at (codes "vb") members ≡ Some (value.Int (pos vb))
    → turn_of n form.Project members ≡ Some (turn.Project vb (optional_text (codes "index") members))
unfolding turn_of
turn-project n vb members e = ap (λ o. Some (turn.Project (count_of o) (optional_text (codes "index") members))) e

pub turn-deliver : (n place : ℕ) (index : List ℕ) (members : Members) → value_at (codes "index") members ≡ Some (value.Text index)
    → value_at (codes "place") members ≡ Some (value.Int (pos place)) → turn_of n form.Deliver members ≡ Some (turn.Deliver index place)
unfolding turn_of
turn-deliver n place index members e f = ap₂ (λ (o p : Option Value). Some (turn.Deliver (text_of o []) (count_of p))) e f

pub turn-first : (n : ℕ) (index : List ℕ) (members : Members) → value_at (codes "index") members ≡ Some (value.Text index)
    → value_at (codes "place") members ≡ None → turn_of n form.Deliver members ≡ Some (turn.Deliver index 0)
unfolding turn_of
turn-first n index members e f = ap₂ (λ (o p : Option Value). Some (turn.Deliver (text_of o []) (count_of p))) e f

pub turn-lose : (n place : ℕ) (index : List ℕ) (members : Members) → value_at (codes "index") members ≡ Some (value.Text index)
    → value_at (codes "place") members ≡ Some (value.Int (pos place)) → turn_of n form.Lose members ≡ Some (turn.Lose index place)
unfolding turn_of
turn-lose n place index members e f = ap₂ (λ (o p : Option Value). Some (turn.Lose (text_of o []) (count_of p))) e f

pub turn-publish : (n : ℕ) (index : List ℕ) (members : Members) → value_at (codes "index") members ≡ Some (value.Text index)
    → turn_of n form.Publish members ≡ Some (turn.Publish index)
unfolding turn_of
turn-publish n index members e = ap (λ o. Some (turn.Publish (text_of o []))) e

pub turn-rewind : (n : ℕ) (members entries : Members) → value_at (codes "to") members ≡ Some (value.Object entries)
    → turn_of n form.Rewind members ≡ Some (turn.Rewind (vector_of n entries) (optional_text (codes "index") members))
unfolding turn_of
turn-rewind n members entries e =
    ap (λ o. Some (turn.Rewind (option_map_or (vector_of_value n) o (vector_of n no_members)) (optional_text (codes "index") members))) e
