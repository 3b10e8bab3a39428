use Rattle.meta_rules.proofs.program_indicators.expressions.Given as goal

abbrev pub ghost-read : goal.ghost-read
ghost-read g a = g.reading

abbrev pub ghost-read_filter : goal.ghost-read_filter
ghost-read_filter g a = g.reading
