use Rattle.meta_rules.proofs.object.read_named.Given as goal

abbrev pub ghost-read_numbers : goal.ghost-read_numbers
ghost-read_numbers g a = g.reading
