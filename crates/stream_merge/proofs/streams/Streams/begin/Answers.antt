use Rattle.std.proofs.Common.{◌≡◌, length, ap, ◌∙◌}
use Rattle.std.specs.FinMap as map
use Rattle.std.specs.Ordering.{nat_cmp}
use Rattle.dcp_stream.specs.Pieces.{Marked}
use Rattle.stream_merge.specs.Joined.{Joined}
use Rattle.stream_merge.specs.Merging.{begun}
use Rattle.stream_merge.proofs.ByNumber.{seen_in, seen_in-insert}
use Rattle.stream_merge.proofs.streams.Streams.begin.Goals as goal

pub returns-clause-ok : goal.returns-clause-ok
returns-clause-ok c =
    let m = c.self.inside.maint in
    let is : c.in_ok-position.position ≡ begun (length m.stream.at) = c.in_ok-position.ensures ∙ ap begun (c.len.ensures.count ∙ ap length c.at.ensures.at) in
    ap (λ (i : map.FinMap nat_cmp Marked). let s : Joined = record { maint = m; initial = i } in s)
    (seen_in-insert c.self.inside.initial c.insert.new.self c.args.number c.in_ok-position.position c.in_ok-insert.ensures.updates ∙ ap (map.insert (seen_in c.self.inside.initial) c.args.number) is)
    ∙ ap (λ (s : Joined). let t : Joined = record s { initial = map.insert s.initial c.args.number (begun (length s.maint.stream.at)) } in t) c.self.view_is
