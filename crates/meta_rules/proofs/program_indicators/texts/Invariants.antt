use Rattle.meta_rules.proofs.program_indicators.texts.Given as goal

abbrev pub ghost-expressions : goal.ghost-expressions
ghost-expressions g a = g.reading
