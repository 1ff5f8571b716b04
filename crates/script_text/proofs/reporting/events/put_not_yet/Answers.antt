use Rattle.std.proofs.Common.{◌≡◌, ℕ, ◌++◌, List, [], ◌∷◌, OnOk, subst, ap, ◌∙◌}
use Rattle.std.specs.Prelude.{codes, decimal}
use Rattle.std.specs.Option.{option_copied, option_map_or}
use Rattle.seq_vector.specs.Vectors.{entry}
use Rattle.script_text.specs.Lines.{word, line_of, vector_text}
use Rattle.script_text.specs.Reports.{LineMembers, least_short}
use Rattle.script_text.proofs.reporting.events.put_not_yet.Goals as goal

-- what a request lacks, with its numbers
abbrev told : (c k : ℕ) → (have : List ℕ) → (vb has want : ℕ) → LineMembers
told c k have vb has want =
    (codes "c", decimal c) ∷ (codes "code", decimal 11) ∷ (codes "e", word (codes "not_yet")) ∷ (codes "have", decimal has) ∷ (codes "k", decimal k)
    ∷ (codes "v", vector_text have) ∷ (codes "vb", decimal vb) ∷ (codes "want", decimal want) ∷ []

pub returns : goal.returns
returns c =
    let a = c.args in
    let have : List ℕ = a.have.now in
    let demand : List ℕ = option_map_or (λ (v : List ℕ). v) (option_copied a.demand) [] in
    subst (λ (v : ℕ). OnOk c.put_line.result (c.put_line.new.out.items ≡ a.out.now.items ++ line_of (told a.c a.k have v (entry have v) (entry demand v)))) c.least_short-vb.ensures
    (subst (λ (w : ℕ). OnOk c.put_line.result (c.put_line.new.out.items ≡ a.out.now.items ++ line_of (told a.c a.k have c.least_short-vb.result (entry have c.least_short-vb.result) w))) c.wanted-want.ensures
    (subst (λ (h : ℕ). OnOk c.put_line.result (c.put_line.new.out.items ≡ a.out.now.items ++ line_of (told a.c a.k have c.least_short-vb.result h c.wanted-want.result))) c.entry.ensures c.put_line.ensures))
