use Rattle.meta_rules.proofs.program_indicators.read_filter.Given as goal

abbrev pub ghost-read : goal.ghost-read
ghost-read g a = g.reading
