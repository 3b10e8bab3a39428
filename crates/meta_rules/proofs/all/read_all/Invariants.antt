use Rattle.meta_rules.proofs.all.read_all.Given as goal

abbrev pub ghost-indicators : goal.ghost-indicators
ghost-indicators g a = g.reading

abbrev pub ghost-rules : goal.ghost-rules
ghost-rules g a = g.reading

abbrev pub ghost-program_indicators : goal.ghost-program_indicators
ghost-program_indicators g a = g.reading
