use Rattle.std.proofs.Common.{◌≡◌, ℕ, refl, ap, sym, ◌∙◌}
use Rattle.std.specs.FinMap as map
use Rattle.std.specs.BTreeMap as tree
use Rattle.std.specs.Ordering.{nat_cmp}
use Rattle.dcp_stream.specs.Pieces.{Marked}
use Rattle.stream_merge.specs.Joined.{Joined}
use Rattle.stream_merge.proofs.ByNumber.{seen_in, get-seen_in, seen_in-insert, where_found}
use Rattle.stream_merge.proofs.streams.Streams.init.Goals as goal

pub returns : goal.returns
returns c =
    let before = c.self.inside.initial in (
      (
        refl,
        (λ w. where_found c.get_mut.result (tree.get nat_cmp before c.args.number) _ c.get_mut.ensures.value
            (λ there.
            ap (λ (i : map.FinMap nat_cmp Marked). let s : Joined = record { maint = c.self.inside.maint; initial = i } in s)
            (seen_in-insert before (c.get_mut.follows.lender w) c.args.number w ((c.get_mut.follows.holds w).3 there))
            ∙ ap (λ (s : Joined). let t : Joined = record s { initial = map.insert s.initial c.args.number w } in t) c.self.view_is)),
        (ap (λ m. let s : Joined = record { maint = c.self.inside.maint; initial = seen_in m } in s) c.get_mut.follows.holds-at-none ∙ c.self.view_is),
      ),
      record {
        writes_back = tt;
        value = c.get_mut.ensures.value ∙ sym (get-seen_in before c.args.number) ∙ ap (λ (s : Joined). map.get s.initial c.args.number) c.self.view_is;
      },
    )
