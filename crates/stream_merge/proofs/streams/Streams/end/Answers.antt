use Rattle.std.proofs.Common.{◌≡◌, ap, ◌∙◌}
use Rattle.std.specs.FinMap as map
use Rattle.std.specs.Ordering.{nat_cmp}
use Rattle.dcp_stream.specs.Pieces.{Marked}
use Rattle.stream_merge.specs.Joined.{Joined}
use Rattle.stream_merge.specs.Merging.{without_initial}
use Rattle.stream_merge.proofs.ByNumber.{seen_in-remove}
use Rattle.stream_merge.proofs.streams.Streams.end.Goals as goal

pub returns : goal.returns
returns c =
    ap (λ (i : map.FinMap nat_cmp Marked). let s : Joined = record { maint = c.self.inside.maint; initial = i } in s)
    (seen_in-remove c.self.inside.initial c.remove.new.self c.args.number c.remove.ensures.updates)
    ∙ ap (without_initial c.args.number) c.self.view_is
