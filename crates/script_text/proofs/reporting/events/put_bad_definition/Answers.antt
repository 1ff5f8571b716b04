use Rattle.std.proofs.Common.{◌≡◌, ℕ, ◌++◌, List, [], ◌∷◌, OnOk, subst}
use Rattle.std.specs.Prelude.{codes, decimal}
use Rattle.script_text.specs.Lines.{word, line_of}
use Rattle.script_text.specs.Reports.{LineMembers, reason_name}
use Rattle.script_text.proofs.reporting.events.put_bad_definition.Goals as goal

-- a refusal with the texts of its reason and its name
abbrev told : (c k code : ℕ) → (reason what : List ℕ) → LineMembers
told c k code reason what =
    (codes "c", decimal c) ∷ (codes "code", decimal code) ∷ (codes "e", word (codes "refuse")) ∷ (codes "k", decimal k) ∷ (codes "reason", word reason) ∷ (codes "what", word what) ∷ []

pub returns : goal.returns
returns c =
    let a = c.args in
    subst (λ (what : List ℕ). OnOk c.put_line.result (c.put_line.new.out.items ≡ a.out.now.items ++ line_of (told a.c a.k a.code (reason_name a.reason) what))) c.refusal_name.ensures
    (subst (λ (reason : List ℕ). OnOk c.put_line.result (c.put_line.new.out.items ≡ a.out.now.items ++ line_of (told a.c a.k a.code reason c.refusal_name.result.now))) c.reason_name.ensures c.put_line.ensures)
