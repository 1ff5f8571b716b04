use Rattle.std.proofs.Common.{map, take, ap, ◌∙◌}
use Rattle.std.specs.Option.{option_map_or}
use Rattle.n1ql_value.specs.Datum.{datum_of}
use Rattle.n1ql_meaning.specs.Finish.{in_order}
use Rattle.pipe_rows.specs.declared.out.Out.{Out}
use Rattle.pipe_rows.specs.Pipes.{placed}
use Rattle.pipe_rows.proofs.Cutting.{finished_is}
use Rattle.pipe_rows.proofs.finishing.finish.Goals as goal

pub returns : goal.returns
returns c =
    let q = c.args.q.now in
    c.in_ok-results.ensures
    ∙ (ap (map (λ (o : Out). datum_of o.result)) (c.at_most-outs.ensures ∙ ap (λ os. option_map_or (λ n. take n os) q.limit os) c.in_ok-past.ensures)
    ∙ finished_is q c.args.outs.items c.in_ok-outs.outs.items c.in_ok-outs-2.outs.items c.in_ok-outs.ensures
    (c.in_ok-outs-2.ensures ∙ ap (λ os. in_order os (map placed c.in_ok-outs.outs.items)) c.as_slice.ensures))
