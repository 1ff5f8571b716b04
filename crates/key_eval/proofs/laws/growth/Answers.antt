use Rattle.std.proofs.Common.{◌≡◌, ◌-◌, ◌≤◌, ◌++◌, map, sym, ap, ◌∙◌, arith}
use Rattle.seq_vector.specs.Vectors.{entry}
use Rattle.vb_store.specs.Mutations.{high_of, count_of}
use Rattle.key_eval.specs.Versions.{version_of}
use Rattle.key_eval.proofs.laws.growth.Goals as goal

pub returns : goal.returns
returns c n def log more p numbered stands =
    let counted : entry (high_of n log) p.vb ≡ count_of p.vb log = c.high_counts.ensures.entries n log p.vb stands.vbucket in
    let grown : entry (high_of n log) p.vb ≤ entry (high_of n (log ++ more)) p.vb = c.high_counts.ensures.grows n log more p.vb (omega (arith, c.high_counts.ensures.size n log, stands.vbucket)) in
    let reached = stands.reached in
    let last = stands.last in
    record {
      numbered = numbered;
      vbucket = stands.vbucket;
      begins = stands.begins;
      some = stands.some;
      last = stands.last;
      reached = omega arith;
      holds = stands.holds ∙ sym (ap (map (version_of def)) (c.growth.ensures.slices n log more p.vb (p.from - 1) p.to numbered (omega arith)));
    }
