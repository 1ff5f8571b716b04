use Rattle.std.proofs.Common.{ℕ, ◌≤◌, arith, sym, subst, inl, inr}
use Rattle.seq_vector.specs.Vectors.{entry}
use Rattle.script_text.proofs.ReportLemmas.{below_or_at}
use Rattle.script_text.proofs.reporting.events.first_short.Goals as goal

pub loop-vb-preserved : goal.loop-vb-preserved
loop-vb-preserved c =
    let have = c.args.have.now in
    let want = c.args.want.now in
    λ k lt. elim (below_or_at k c.loop-vb.vb lt) [
      | inl below ↦ c.loop-vb.invariant k below
      | inr at ↦ subst (λ (j : ℕ). entry want j ≤ entry have j) (sym at) (omega (arith, c.if-entry-get.false, c.entry.ensures, c.get.ensures))
    ]

pub returns-then-entry-get : goal.returns-then-entry-get
returns-then-entry-get c =
    sym ((c.tests_tell_of_each_vbucket.ensures.short c.args.have.now c.args.want.now c.loop-vb.vb).1 (record {
      within = omega (arith, c.loop-vb-test.true, c.len-vb-end.ensures.count);
      short = omega (arith, c.if-entry-get.true, c.entry.ensures, c.get.ensures);
      before = c.loop-vb.invariant;
    }))

pub returns : goal.returns
returns c =
    sym ((c.tests_tell_of_each_vbucket.ensures.none c.args.have.now c.args.want.now).1
    (λ k lt. c.loop-vb.invariant k (omega (arith, lt, c.loop-vb-test.false, c.len-vb-end.ensures.count))))
