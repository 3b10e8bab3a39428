use Rattle.meta_reader.proofs.steps.tried.Given as goal

abbrev pub ghost-with_expressions : goal.ghost-with_expressions
ghost-with_expressions g a = g.reading
