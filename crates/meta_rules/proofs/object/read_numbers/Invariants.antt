use Rattle.meta_rules.proofs.object.read_numbers.Given as goal

abbrev pub ghost-read : goal.ghost-read
ghost-read g a = g.reading
