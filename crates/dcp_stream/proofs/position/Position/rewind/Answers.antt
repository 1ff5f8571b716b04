use Rattle.std.proofs.Common.{List, ℕ, ◌≡◌, ◌<◌, length, sym, ap, ◌∙◌, subst, arith}
use Rattle.seq_vector.specs.Vectors.{meet, IsCovered}
use Rattle.dcp_stream.specs.Streams.{Stream, lowered}
use Rattle.dcp_stream.specs.Pieces.{Marked, IsMarked}
use Rattle.dcp_stream.proofs.Lowering.{ends_within, marked_back, length-lowered}
use Rattle.dcp_stream.proofs.position.Position.rewind.Goals as goal

pub invariant_of-self : goal.invariant_of-self
invariant_of-self c =
    let p = c.self.inside in
    let s : Stream = record { at = p.at; ends = p.ends } in
    let to = c.args.to.now in
    let same : length p.at ≡ length to = ap (λ (m : Marked). length m.stream.at) c.self.view_is ∙ c.requires in
    let back = marked_back to s (λ vb. c.meet_is_greatest.ensures.entries p.at to vb same) (c.meet_is_greatest.ensures.size p.at to same) p.began c.self.invariant in
    subst (λ (at : List ℕ). IsMarked (record { at = at; ends = c.lower-2.new.numbers }) c.lower.new.numbers) (sym c.meet_in.ensures)
    (subst (λ (began : List ℕ). IsMarked (record { at = meet p.at to; ends = c.lower-2.new.numbers }) began) (sym c.lower.ensures)
    (subst (λ (ends : List ℕ). IsMarked (record { at = meet p.at to; ends = ends }) (lowered p.at to p.began)) (sym c.lower-2.ensures) back))

pub returns-clause-size : goal.returns-clause-size
returns-clause-size c =
    let p = c.self.inside in
    let to = c.args.to.now in
    let size : length p.at ≡ length c.args.self.now.stream.at = ap (λ (m : Marked). length m.stream.at) c.self.view_is in
    ap length c.meet_in.ensures ∙ (c.meet_is_greatest.ensures.size p.at to (size ∙ c.requires) ∙ size)

pub returns-clause-within : goal.returns-clause-within
returns-clause-within c high before =
    let p = c.self.inside in
    let s : Stream = record { at = p.at; ends = p.ends } in
    let to = c.args.to.now in
    let same : length p.at ≡ length to = ap (λ (m : Marked). length m.stream.at) c.self.view_is ∙ c.requires in
    let invariant = c.self.invariant in
    let low : IsCovered (lowered p.at to p.ends) p.ends = ends_within to s (λ vb. c.meet_is_greatest.ensures.entries p.at to vb same) (c.meet_is_greatest.ensures.size p.at to same) invariant.stream in
    let there : IsCovered p.ends high = subst (λ (m : Marked). IsCovered m.stream.ends high) (sym c.self.view_is) before in
    subst (λ (ends : List ℕ). IsCovered ends high) (sym c.lower-2.ensures)
    (λ vb h.
    let within : vb < length p.ends = omega (arith, length-lowered p.at to p.ends) in
    let first = low vb h in
    let second = there vb within in
    omega arith)
