-- What a request asks is within bounds.
use Rattle.std.proofs.Common.{◌≡◌, ℕ, Bool, true, false, cond, List, length, Option, Some, None, unwrap_or, ap}
use Rattle.std.specs.Prelude.{codes}
use Rattle.std.specs.Option.{option_map_or}
use Rattle.std.specs.Str.{bytes_eq}
use Rattle.std.proofs.lemmas.Slice.Eq.{bytes_eq-Decides}
use Rattle.n1ql_value.specs.declared.value.Value.{Value}
use Rattle.n1ql_value.specs.Kinds.{object_in}
use Rattle.scan_coord.specs.Demands.{IsSized}
use Rattle.scan_coord.specs.declared.demand.Demand.TheVariants.{NotBounded, AtPlus, Mine, RequestPlus}
use Rattle.script_text.specs.Members.{Members, no_members, value_at, text_at}
use Rattle.script_text.specs.Requests.{mine_or_vector, demanded, ask_of}
use Rattle.script_text.specs.Rows.{is_mine}
use Rattle.script_text.specs.SparseVectors.{vector_of_value}
use Rattle.script_text.specs.Turns.{rewound_to}
use Rattle.script_text.proofs.Bounds.{both}
use Rattle.script_text.proofs.Vectors.{vector_of-length}

value-length : (n : ℕ) (v : Value) → length (vector_of_value n v) ≡ n
value-length n v = vector_of-length n (unwrap_or (object_in v) no_members)

rewound_cases : (n : ℕ) (found : Option Value) (other : List ℕ) → length other ≡ n → length (option_map_or (vector_of_value n) found other) ≡ n
rewound_cases n None other e = e
rewound_cases n (Some v) other e = value-length n v

pub rewound-length : (n : ℕ) (members : Members) → length (rewound_to n members) ≡ n
rewound-length n members = rewound_cases n (value_at (codes "to") members) _ (vector_of-length n no_members)

mine_cases : (mine : Bool) (n : ℕ) (v : Value) → IsSized n (cond mine Mine (AtPlus (vector_of_value n v)))
mine_cases true n v = tt
mine_cases false n v = value-length n v

word_cases : (at_plus request_plus : Bool) (n : ℕ) (found : Option Value)
    → IsSized n (cond at_plus (option_map_or (mine_or_vector n) found NotBounded) (cond request_plus RequestPlus NotBounded))
word_cases true request_plus n None = tt
word_cases true request_plus n (Some v) = mine_cases (is_mine v) n v
word_cases false true n found = tt
word_cases false false n found = tt

-- a vector in a demand has an entry for each vBucket
pub demand-sized : (n : ℕ) (members : Members) → IsSized n (ask_of n members).demand
demand-sized n members =
    let word = text_at (codes "consistency") (codes "not_bounded") members in
    word_cases (bytes_eq word (codes "at_plus")) (bytes_eq word (codes "request_plus")) n (value_at (codes "at") members)
