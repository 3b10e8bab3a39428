use Rattle.std.proofs.Common.{◌∙◌, ap}
use Rattle.meta_rules.specs.All.{expressions_of}
use Rattle.meta_reader.specs.Records.{records_of}
use Rattle.meta_reader.proofs.steps.with_expressions.Goals as goal

pub returns-in-Ok : goal.returns-in-Ok
returns-in-Ok g c =
    let parts = c.args.parts.now in (
      c.in-Ok.ensures.0,
      c.with.ensures ∙ c.take_unread-unread.ensures.others parts c.in-Ok.made
          ∙ ap (records_of parts c.args.links) (c.in-Ok.ensures.1 ∙ ap (expressions_of g.reading.answer parts) c.take_unread-unread.ensures.unread),
    )
