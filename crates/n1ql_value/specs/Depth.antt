-- How deep a value nests. It is the measure of every recursion over values.
use Rattle.std.specs.Prelude.{◌≡◌, ℕ, suc, max, List, [], ◌∷◌, map, refl}
use Rattle.std.proofs.Common.{sym, ap, ◌∙◌}
use Rattle.n1ql_value.specs.declared.datum.Datum.{Datum, fold-Datum, fold-roll-Datum}
use Rattle.n1ql_value.specs.declared.datum.Datum.TheVariants as datum
use Rattle.n1ql_value.specs.declared.datum.Datum.TheVariants.{rolls-Array, rolls-Object}
use Rattle.n1ql_value.specs.declared.datum.Datum.TheOpen.{Datum-F}

-- the largest of the numbers, or 0
abbrev pub largest : List ℕ → ℕ
largest [] = 0
largest (n ∷ ns) = max n (largest ns)

abbrev pub depth_step : Datum-F ℕ → ℕ
depth_step Datum-F.Missing = 0
depth_step Datum-F.Null = 0
depth_step (Datum-F.Bool b) = 0
depth_step (Datum-F.Int z) = 0
depth_step (Datum-F.Text t) = 0
depth_step (Datum-F.Array ns) = suc (largest ns)
depth_step (Datum-F.Object ps) = suc (largest (map (λ p. p.1) ps))

-- how many arrays and objects stand one in another
abbrev pub depth : Datum → ℕ
depth = fold-Datum ℕ depth_step

pub depth-array : (ds : List Datum) → depth (datum.Array ds) ≡ suc (largest (map depth ds))
depth-array ds = ap depth (sym (rolls-Array ds)) ∙ fold-roll-Datum ℕ depth_step (Datum-F.Array ds)

-- the depth of the deepest value among the pairs
abbrev pub pairs_depth : List (List ℕ × Datum) → ℕ
pairs_depth ps = largest (map (λ p. depth p.1) ps)

second_depths : (ps : List (List ℕ × Datum)) → largest (map (λ (p : List ℕ × ℕ). p.1) (map (λ (p : List ℕ × Datum). (p.0, depth p.1)) ps)) ≡ pairs_depth ps
second_depths [] = refl
second_depths (p ∷ ps) = ap (max (depth p.1)) (second_depths ps)

pub depth-object : (ps : List (List ℕ × Datum)) → depth (datum.Object ps) ≡ suc (pairs_depth ps)
depth-object ps = ap depth (sym (rolls-Object ps)) ∙ (fold-roll-Datum ℕ depth_step (Datum-F.Object ps) ∙ ap suc (second_depths ps))
