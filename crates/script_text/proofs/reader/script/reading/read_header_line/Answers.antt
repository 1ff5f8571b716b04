use Rattle.std.proofs.Common.{arith}
use Rattle.script_text.proofs.HeaderBounds.{header_of_line-fits}
use Rattle.script_text.proofs.reader.script.reading.read_header_line.Goals as goal

pub read_item_lines-requires : goal.read_item_lines-requires
read_item_lines-requires c =
    let fits = header_of_line-fits c.args.line.bytes.now c.in-Ok.header c.in-Ok.ensures in
    (omega (arith, fits.vbuckets), fits.vbuckets.1)
