-- What a request asks of its answer.
use Rattle.std.specs.Prelude.{ℕ, List, codes, true, if◌then◌else◌}
use Rattle.std.specs.Option.{option_map_or}
use Rattle.std.specs.Str.{bytes_eq}
use Rattle.n1ql_value.specs.declared.value.Value.{Value}
use Rattle.scan_coord.specs.declared.demand.Demand.{Demand}
use Rattle.scan_coord.specs.declared.demand.Demand.TheVariants.{NotBounded, AtPlus, Mine, RequestPlus}
use Rattle.scan_history.specs.declared.ask.Ask.{Ask}
use Rattle.script_text.specs.Members.{Members, value_at, text_at, flag_at}
use Rattle.script_text.specs.Rows.{is_mine}
use Rattle.script_text.specs.SparseVectors.{vector_of_value}

-- what the client wrote, or a vector of n vBuckets
abbrev pub mine_or_vector : ℕ → Value → Demand
mine_or_vector n v = if is_mine v then Mine else AtPlus (vector_of_value n v)

-- what a word for the consistency demands; `at` stands beside at_plus
abbrev pub demanded : ℕ → List ℕ → Members → Demand
demanded n consistency members =
    if bytes_eq consistency (codes "at_plus") then option_map_or (mine_or_vector n) (value_at (codes "at") members) NotBounded
    else if bytes_eq consistency (codes "request_plus") then RequestPlus
    else NotBounded

-- the demand, nothing where no consistency is said; and whether the request waits, as it does where nothing is said
abbrev pub ask_of : ℕ → Members → Ask
ask_of n members = record {
  demand = demanded n (text_at (codes "consistency") (codes "not_bounded") members) members;
  wait = flag_at (codes "wait") true members;
}
