use Rattle.meta_rules.proofs.rules.rule.Given as goal

abbrev pub ghost-read_named : goal.ghost-read_named
ghost-read_named g a = g.reading
