use Rattle.meta_reader.proofs.steps.read.Given as goal

abbrev pub ghost-read_all : goal.ghost-read_all
ghost-read_all g a = g.reading
