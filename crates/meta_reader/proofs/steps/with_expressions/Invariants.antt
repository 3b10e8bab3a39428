use Rattle.meta_reader.proofs.steps.with_expressions.Given as goal

abbrev pub ghost-read : goal.ghost-read
ghost-read g a = g.reading
