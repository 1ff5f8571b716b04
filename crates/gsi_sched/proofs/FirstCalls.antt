-- The first event of a client's command comes, by the calls of the hub.
use Rattle.std.proofs.Common.{◌≡◌, ℕ, true, List, Option, Some, None, is_some, option_copied, Bor, refl, subst}
use Rattle.n1ql_ast.specs.declared.ddl.Ddl.{Ddl}
use Rattle.n1ql_ast.specs.FormedStatements.{IsFormedDdl}
use Rattle.scan_history.specs.declared.command.Command.{Command}
use Rattle.scan_history.specs.declared.command.Command.TheVariants as command
use Rattle.scan_history.specs.declared.script.Script.{Script}
use Rattle.scan_history.specs.Events.{Event}
use Rattle.scan_history.specs.First.{command_at}
use Rattle.scan_history.specs.Fold.{nothing, state_after}
use Rattle.scan_history.specs.Readings.{IsRead, reads, faults}
use Rattle.gsi_hub.specs.Commands.{OnText}
use Rattle.gsi_hub.specs.Past.{Past, part_in, next_command, IsAsBefore, Acted}
use Rattle.gsi_sched.specs.inner.Known.{Known}
use Rattle.gsi_sched.specs.inner.Following.{IsFollowing}
use Rattle.gsi_sched.specs.inner.ClientTurns.{IsReadText, IsReadingOf, IsIdle, HasComeNext}
use Rattle.gsi_sched.specs.declared.machine.reading.Reading.{Reading}
use Rattle.gsi_sched.specs.declared.machine.reading.Reading.TheVariants as reading
use Rattle.gsi_sched.specs.declared.machine.RunningMachine.{RunningMachine}
use Rattle.gsi_sched.proofs.Followed.{carried}
use Rattle.gsi_sched.proofs.ComingNext.{IsBesideHub, as_it_was, first_comes}

-- ---- what is said of a command's text

pub text_so : (o : Option Command) (P Q : List ℕ → Type 0) → ((text : List ℕ) → P text → Q text) → OnText o P → OnText o Q
text_so None P Q so on = absurd on
text_so (Some (command.Upsert id doc)) P Q so on = absurd on
text_so (Some (command.Delete id)) P Q so on = absurd on
text_so (Some (command.Ddl text)) P Q so on = so text on
text_so (Some (command.Scan index spans ask)) P Q so on = absurd on

pub by_text : (o : Option Command) (P : List ℕ → Type 0) (A : Type 0) → ((text : List ℕ) → P text → A) → OnText o P → A
by_text None P A so on = absurd on
by_text (Some (command.Upsert id doc)) P A so on = absurd on
by_text (Some (command.Delete id)) P A so on = absurd on
by_text (Some (command.Ddl text)) P A so on = so text on
by_text (Some (command.Scan index spans ask)) P A so on = absurd on

-- ---- what a command is, once its text is read

pub some_copied : {T : Type 0} (o : Option (Bor T)) → is_some (option_copied o) ≡ true → is_some o ≡ true
some_copied None is = is
some_copied (Some x) is = refl

pub reading_there : (o p : Option Command) → o ≡ p → (read : Reading) → IsReadingOf o read → IsReadingOf p read
reading_there o p same read is = subst (λ o. IsReadingOf o read) same is

module _ (o : Option Command) (read : Reading) where
  pub reading_is : (known : Reading) → read ≡ known → IsReadingOf o read → IsReadingOf o known
  reading_is known is so = subst (IsReadingOf o) is so

  module _ (so : IsReadingOf o read) where
    pub text_read : (d : Ddl) → read ≡ reading.Statement d → OnText o (λ text. IsRead text (reads d))
    text_read d is =
        text_so o (λ text. IsReadText text (reading.Statement d)) (λ text. IsRead text (reads d)) (λ text it. it.0) (reading_is (reading.Statement d) is so)

    pub text_formed : (d : Ddl) → read ≡ reading.Statement d → IsFormedDdl d
    text_formed d is = by_text o (λ text. IsReadText text (reading.Statement d)) (IsFormedDdl d) (λ text it. it.1) (reading_is (reading.Statement d) is so)

    pub text_faults : (at : ℕ) → read ≡ reading.Fault at → OnText o (λ text. IsRead text (faults at))
    text_faults at is = reading_is (reading.Fault at) is so

-- ---- calls of the hub

pub beside_hub : (r : RunningMachine) (hub : Past) → IsBesideHub r (record r { hub = hub })
beside_hub r hub = record { script = refl; streams = refl; slots = refl; answers = refl }

module _ (known : Known) (r : RunningMachine) (c : ℕ) (following : IsFollowing r) (idle : IsIdle r.hub c) (mid : Past) (same : IsAsBefore r.hub mid) where
  -- an event comes once there is room for it
  pub came_after : (IsSuch : Event → Type 0) (hub : Past) → Acted c mid hub IsSuch → HasComeNext c r (record r { hub = hub })
  came_after IsSuch hub acted =
      first_comes known r (record r { hub = hub }) c (beside_hub r hub) mid same IsSuch following.0 following.1 idle.opened acted

  pub idle_there : (part_in mid c).opened ≡ nothing
  idle_there = carried r.hub mid same (λ (script : Script) (events : List Event). ((state_after script.vbuckets events).client c).opened ≡ nothing) idle.opened

  pub text_there : (P : List ℕ → Type 0) → OnText (next_command r.hub c) P → OnText (next_command mid c) P
  text_there P on =
      carried r.hub mid same (λ (script : Script) (events : List Event). OnText (command_at script c ((state_after script.vbuckets events).client c).next) P) on

-- an event comes
pub came : (known : Known) (r : RunningMachine) (c : ℕ) → IsFollowing r → IsIdle r.hub c → (IsSuch : Event → Type 0) (hub : Past) → Acted c r.hub hub IsSuch
    → HasComeNext c r (record r { hub = hub })
came known r c following idle IsSuch hub acted = came_after known r c following idle r.hub (as_it_was r.hub) IsSuch hub acted
