use Rattle.std.proofs.Common.{sym}
use Rattle.std.specs.Prelude.{slice_index}
use Rattle.org_tree.proofs.SpanLemmas.{AreSpans-more}
use Rattle.org_tree.proofs.spans.take_in.Goals as goal

pub returns-in-Some : goal.returns-in-Some
returns-in-Some c =
    let us = c.args.units.now in
    let kin = c.args.kin.now in
    let unit = slice_index kin c.args.place in
    AreSpans-more us kin c.args.spans.now c.args.place c.in-Some.above c.widened.result c.requires.tree c.requires.kin c.requires.in_range
    (c.requires.tree.parent_in_range unit c.in-Some.above (sym c.in-Some.ensures)) (sym c.in-Some.ensures)
    c.widened.ensures.end c.widened.ensures.first c.requires.spans
