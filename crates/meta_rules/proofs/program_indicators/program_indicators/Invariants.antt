use Rattle.std.proofs.Common.{◌≡◌, ◌++◌, drop}
use Rattle.meta_rules.specs.Objects.{first_unread, program_indicator_unread, program_indicator_in, made_of}
use Rattle.meta_rules.proofs.program_indicators.program_indicators.Given as goal

abbrev pub invariant-loop-each : goal.invariant-loop-each
invariant-loop-each g l = record {
  unread :
      first_unread (program_indicator_unread g.reading.answer l.ids l.days) l.raw
      ≡ first_unread (program_indicator_unread g.reading.answer l.ids l.days) (drop l.each-index l.raw);
  rest : l.rest ≡ drop l.each-index l.fn.links;
  made :
      made_of (program_indicator_in g.reading.answer l.days) l.raw l.fn.links
      ≡ l.made.items ++ made_of (program_indicator_in g.reading.answer l.days) (drop l.each-index l.raw) (drop l.each-index l.fn.links);
}

abbrev pub ghost-program_indicator : goal.ghost-program_indicator
ghost-program_indicator g a = g.reading
