-- Reading a line.
use Rattle.std.proofs.Common.{◌≡◌, ℕ, List, Option, Result, Ok, Err, sym, ap, ◌∙◌}
use Rattle.std.specs.Option.{ok_or}
use Rattle.n1ql_value.specs.declared.value.Value.{Value}
use Rattle.n1ql_value.specs.Datum.{datum_of, value_of-datum_of}
use Rattle.n1ql_json.specs.declared.fault.JsonFault.{JsonFault}
use Rattle.n1ql_json.specs.declared.fault.JsonFault.TheVariants.{Syntax, Number, Memory}
use Rattle.n1ql_json.specs.Reads.{read_of, Gives}
use Rattle.scan_history.specs.declared.kind.Kind.TheVariants as kind
use Rattle.n1ql_value.specs.Kinds.{object_in}
use Rattle.script_text.specs.Members.{Members}
use Rattle.script_text.specs.Items.{members_in, members_of}

-- a line that is a value
pub members_of-read : (line : List ℕ) (v : Value) (found : Option Members) → read_of line ≡ Ok (datum_of v) → found ≡ object_in v → members_of line ≡ ok_or found kind.Shape
unfolding members_of
members_of-read line v found e is = ap members_in e ∙ (ap (λ w. ok_or (object_in w) kind.Shape) (value_of-datum_of v) ∙ ap (λ o. ok_or o kind.Shape) (sym is))

-- a line that is none
pub members_of-syntax : (line : List ℕ) (r : Result Value JsonFault) (fault : JsonFault) → Gives (read_of line) r → r ≡ Err fault → fault ≡ Syntax → members_of line ≡ Err kind.Syntax
unfolding members_of
members_of-syntax line (Ok v) fault g e is = cc
members_of-syntax line (Err Syntax) fault g e is = ap members_in g
members_of-syntax line (Err Number) fault g e is = cc
members_of-syntax line (Err Memory) fault g e is = cc

pub members_of-number : (line : List ℕ) (r : Result Value JsonFault) (fault : JsonFault) → Gives (read_of line) r → r ≡ Err fault → fault ≡ Number → members_of line ≡ Err kind.Number
unfolding members_of
members_of-number line (Ok v) fault g e is = cc
members_of-number line (Err Syntax) fault g e is = cc
members_of-number line (Err Number) fault g e is = ap members_in g
members_of-number line (Err Memory) fault g e is = cc
