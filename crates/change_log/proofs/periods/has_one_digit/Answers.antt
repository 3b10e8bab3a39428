use Rattle.std.proofs.Common.{sym, ◌∙◌}
use Rattle.change_log.proofs.TextLengths.{thursday-fits, spans, spans-none}
use Rattle.change_log.proofs.periods.has_one_digit.Goals as goal

pub overflow_add-thursday : goal.overflow_add-thursday
overflow_add-thursday c = thursday-fits c.args.week c.first-thursday.result c.first-thursday.ensures.listed c.first-thursday.ensures.value

pub overflow_sub-result : goal.overflow_sub-result
overflow_sub-result c =
    (spans c.args.week c.in-Some.year c.first-thursday.result c.first.result c.first-thursday.ensures.listed c.first.ensures.listed c.requires
    c.first-thursday.ensures.value c.first.ensures.value
    (sym c.in-Some.is ∙ c.containing.ensures.value)).fits

pub returns-in-Some : goal.returns-in-Some
returns-in-Some c =
    (spans c.args.week c.in-Some.year c.first-thursday.result c.first.result c.first-thursday.ensures.listed c.first.ensures.listed c.requires
    c.first-thursday.ensures.value c.first.ensures.value
    (sym c.in-Some.is ∙ c.containing.ensures.value)).answer

pub returns-in-None : goal.returns-in-None
returns-in-None c =
    absurd (spans-none c.args.week c.first-thursday.result c.first-thursday.ensures.listed c.requires c.first-thursday.ensures.value (sym c.in-None.is
    ∙ c.containing.ensures.value))
