use Rattle.std.proofs.Common.{◌∙◌}
use Rattle.meta_reader.proofs.ReadyLemmas.{ready, late_met}
use Rattle.meta_reader.proofs.build.finished.Goals as goal

pub of-requires-clause-few : goal.of-requires-clause-few
of-requires-clause-few g c =
    (ready g.reading.answer c.args.parts.now c.args.ids c.args.records c.args.held c.late.result c.requires.0 c.requires.1.0 c.requires.1.1.0 c.requires.1.1.1
    c.late.ensures c.in-None.is).1

pub of-requires-clause-linked : goal.of-requires-clause-linked
of-requires-clause-linked g c =
    (ready g.reading.answer c.args.parts.now c.args.ids c.args.records c.args.held c.late.result c.requires.0 c.requires.1.0 c.requires.1.1.0 c.requires.1.1.1
    c.late.ensures c.in-None.is).2

pub of-requires-clause-ids : goal.of-requires-clause-ids
of-requires-clause-ids g c =
    (ready g.reading.answer c.args.parts.now c.args.ids c.args.records c.args.held c.late.result c.requires.0 c.requires.1.0 c.requires.1.1.0 c.requires.1.1.1
    c.late.ensures c.in-None.is).3

pub of-requires-clause-held : goal.of-requires-clause-held
of-requires-clause-held g c =
    (ready g.reading.answer c.args.parts.now c.args.ids c.args.records c.args.held c.late.result c.requires.0 c.requires.1.0 c.requires.1.1.0 c.requires.1.1.1
    c.late.ensures c.in-None.is).4

pub returns-in-Some : goal.returns-in-Some
returns-in-Some g c =
    late_met g.reading.answer c.args.parts.now c.args.ids c.args.records c.args.held c.late.result c.in-Some.fault c.requires.0 c.requires.1.1.0
    c.requires.1.1.1 c.late.ensures c.in-Some.is

pub returns-in_ok-of-in-None : goal.returns-in_ok-of-in-None
returns-in_ok-of-in-None g c = (
  (ready g.reading.answer c.args.parts.now c.args.ids c.args.records c.args.held c.late.result c.requires.0 c.requires.1.0 c.requires.1.1.0 c.requires.1.1.1
      c.late.ensures c.in-None.is).0,
  c.in_ok-of-in-None.ensures ∙ c.requires.1.1.0,
)
