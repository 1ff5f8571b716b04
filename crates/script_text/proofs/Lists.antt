-- The commands of each client, and the schedule, line by line.
use Rattle.std.proofs.Common.{◌≡◌, ℕ, zero, suc, ◌+◌, ◌<◌, Bool, cond, eq-eqb, List, [], ◌∷◌, ◌++◌, map, set, get_or, Option, Some, None, refl, sym, ap, ap₂, ◌∙◌, arith, append-nil}
use Rattle.std.specs.Prelude.{filter_map}
use Rattle.std.specs.List.{range_with_len}
use Rattle.std.proofs.lemmas.Bool.{ne_eqb}
use Rattle.std.proofs.lemmas.List.Elements.{filter_map-append}
use Rattle.std.proofs.lemmas.List.FromFn.{map-range_with_len_more}
use Rattle.scan_history.specs.declared.command.Command.{Command}
use Rattle.scan_history.specs.declared.turn.Turn.{Turn}
use Rattle.script_text.specs.declared.reader.script.item.Item.{Item}
use Rattle.script_text.specs.declared.reader.script.item.Item.TheVariants as item
use Rattle.script_text.specs.Scripts.{command_by, commands_by, lists_of, turn_in, schedule_of}
use Rattle.script_text.specs.inner.Lines.{commands_with, schedule_with}

-- one line more: a command of this client or of another, or a turn
commands_by-more : (c : ℕ) (items : List Item) (i : Item) → commands_by c (items ++ i ∷ []) ≡ commands_by c items ++ commands_by c (i ∷ [])
commands_by-more c items i = filter_map-append (command_by c) items (i ∷ [])

abbrev one_line : Bool → Command → List Command
one_line own command = filter_map (λ (o : Option Command). o) (cond own (Some command) None ∷ [])

commands_by-own : (c : ℕ) (items : List Item) (client : ℕ) (command : Command) → client ≡ c
    → commands_by c (items ++ item.Command client command ∷ []) ≡ commands_by c items ++ command ∷ []
commands_by-own c items client command e =
    commands_by-more c items (item.Command client command) ∙ ap (λ own. commands_by c items ++ one_line own command) (eq-eqb client c e)

commands_by-other : (c : ℕ) (items : List Item) (client : ℕ) (command : Command) → (client ≡ c → ⊥)
    → commands_by c (items ++ item.Command client command ∷ []) ≡ commands_by c items
commands_by-other c items client command other =
    commands_by-more c items (item.Command client command)
    ∙ (ap (λ own. commands_by c items ++ one_line own command) (ne_eqb client c other) ∙ append-nil (commands_by c items))

commands_by-turn : (c : ℕ) (items : List Item) (turn : Turn) → commands_by c (items ++ item.Turn turn ∷ []) ≡ commands_by c items
commands_by-turn c items turn = commands_by-more c items (item.Turn turn) ∙ append-nil (commands_by c items)

-- the lists of n clients from client a on
abbrev from : ℕ → ℕ → List Item → List (List Command)
from a n items = map (λ c. commands_by c items) (range_with_len a n)

-- a command of a client before them changes nothing, nor does a turn
from-before : (a n : ℕ) (items : List Item) (client : ℕ) (command : Command) → client < a → from a n (items ++ item.Command client command ∷ []) ≡ from a n items
from-before a zero items client command h = refl
from-before a (suc n) items client command h =
    ap₂ (λ (l : List Command) (ls : List (List Command)). l ∷ ls) (commands_by-other a items client command (λ e. omega arith)) (from-before (a + 1) n items client command (omega arith))

from-turn : (a n : ℕ) (items : List Item) (turn : Turn) → from a n (items ++ item.Turn turn ∷ []) ≡ from a n items
from-turn a zero items turn = refl
from-turn a (suc n) items turn =
    ap₂ (λ (l : List Command) (ls : List (List Command)). l ∷ ls) (commands_by-turn a items turn) (from-turn (a + 1) n items turn)

from-at : (a n k : ℕ) (items : List Item) (client : ℕ) (command : Command) → client ≡ a + k
    → from a n (items ++ item.Command client command ∷ []) ≡ set (from a n items) k (get_or (from a n items) k [] ++ command ∷ [])
from-at a zero k items client command e = refl
from-at a (suc n) zero items client command e =
    ap₂ (λ (l : List Command) (ls : List (List Command)). l ∷ ls) (commands_by-own a items client command (omega arith)) (from-before (a + 1) n items client command (omega arith))
from-at a (suc n) (suc k) items client command e =
    ap₂ (λ (l : List Command) (ls : List (List Command)). l ∷ ls) (commands_by-other a items client command (λ same. omega arith)) (from-at (a + 1) n k items client command (omega arith))

-- the lists with one line more
pub lists_of-more : (n : ℕ) (items : List Item) (i : Item) (lists new : List (List Command)) → lists ≡ lists_of n items
    → new ≡ commands_with lists i → new ≡ lists_of n (items ++ i ∷ [])
unfolding lists_of
lists_of-more n items (item.Command client command) lists new is put =
    put ∙ (ap (λ (ls : List (List Command)). set ls client (get_or ls client [] ++ command ∷ [])) is
    ∙ sym (from-at 0 n client items client command (omega arith)))
lists_of-more n items (item.Turn turn) lists new is put = put ∙ (is ∙ sym (from-turn 0 n items turn))

pub schedule_of-more : (items : List Item) (i : Item) (schedule new : List Turn) → schedule ≡ schedule_of items
    → new ≡ schedule_with schedule i → new ≡ schedule_of (items ++ i ∷ [])
unfolding schedule_of
schedule_of-more items (item.Command client command) schedule new is put =
    put ∙ (is ∙ (sym (append-nil (filter_map turn_in items)) ∙ sym (filter_map-append turn_in items (item.Command client command ∷ []))))
schedule_of-more items (item.Turn turn) schedule new is put =
    put ∙ (ap (λ (ts : List Turn). ts ++ turn ∷ []) is ∙ sym (filter_map-append turn_in items (item.Turn turn ∷ [])))

-- no lines yet, for no clients and for one client more
pub lists_of-no_clients : (lists : List (List Command)) → lists ≡ [] → lists ≡ lists_of 0 []
unfolding lists_of
lists_of-no_clients lists e = e

pub lists_of-client_more : (n : ℕ) (lists new : List (List Command)) (l : List Command) → lists ≡ lists_of n [] → l ≡ [] → new ≡ lists ++ l ∷ [] → new ≡ lists_of (n + 1) []
unfolding lists_of
lists_of-client_more n lists new l is none push =
    push ∙ (ap₂ (λ (ls : List (List Command)) (m : List Command). ls ++ m ∷ []) is none ∙ sym (map-range_with_len_more (λ c. commands_by c []) 0 n n (omega arith)))

pub schedule_of-none : (schedule : List Turn) → schedule ≡ [] → schedule ≡ schedule_of []
unfolding schedule_of
schedule_of-none schedule e = e
