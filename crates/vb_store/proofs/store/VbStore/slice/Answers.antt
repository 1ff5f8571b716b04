use Rattle.std.proofs.Common.{◌≡◌, ◌≤◌, ◌-◌, subst, IfOk, take, drop, length, map, arith, rules, ap, sym, ◌∙◌}
use Rattle.std.specs.Prelude.{slice_range}
use Rattle.std.specs.Arc.{arc_value}
use Rattle.std.proofs.lemmas.List.{length-map, take-map, drop-map}
use Rattle.vb_store.specs.Mutations.{count_of, IsNumbered, slice_of}
use Rattle.vb_store.proofs.Numbering.{entry-high_of-le, slice_of-places}
use Rattle.vb_store.proofs.store.VbStore.slice.Goals as goal

pub returns : goal.returns
returns c =
    let log = c.args.self.now.log in
    let mutations = c.of_vbucket-mutations.result.now in
    let numbered : IsNumbered c.args.self.now.vbuckets log = subst (λ s. IsNumbered s.vbuckets s.log) c.self.view_is c.self.invariant.numbered in
    let part : map arc_value (slice_range mutations c.args.after c.args.upto) ≡ slice_of log c.args.vb c.args.after c.args.upto =
    sym (take-map arc_value (c.args.upto - c.args.after) (drop c.args.after mutations)) ∙ ap (take (c.args.upto - c.args.after)) (sym (drop-map arc_value c.args.after mutations))
    ∙ ap (λ ms. slice_range ms c.args.after c.args.upto) c.of_vbucket-mutations.ensures
    ∙ sym (slice_of-places c.args.self.now.vbuckets log c.args.vb c.args.after c.args.upto numbered) in
    subst (λ x. IfOk c.of.result (λ ms. ms ≡ x)) part c.of.ensures

pub offset_bounds-mutations-after : goal.offset_bounds-mutations-after
offset_bounds-mutations-after c =
    let long : length c.of_vbucket-mutations.result.now ≡ count_of c.args.vb c.args.self.now.log = sym (length-map _ _) ∙ ap length c.of_vbucket-mutations.ensures in
    let within : c.args.after ≤ length c.of_vbucket-mutations.result.now = omega (arith, entry-high_of-le c.args.self.now.vbuckets c.args.self.now.log c.args.vb) in
    search rules

pub slice_bounds-of-end : goal.slice_bounds-of-end
slice_bounds-of-end c =
    let long : length c.of_vbucket-mutations.result.now ≡ count_of c.args.vb c.args.self.now.log = sym (length-map _ _) ∙ ap length c.of_vbucket-mutations.ensures in
    let within : c.args.upto ≤ length c.of_vbucket-mutations.result.now = omega (arith, entry-high_of-le c.args.self.now.vbuckets c.args.self.now.log c.args.vb) in
    omega arith
