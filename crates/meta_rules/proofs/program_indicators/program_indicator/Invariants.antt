use Rattle.meta_rules.proofs.program_indicators.program_indicator.Given as goal

abbrev pub ghost-texts : goal.ghost-texts
ghost-texts g a = g.reading
