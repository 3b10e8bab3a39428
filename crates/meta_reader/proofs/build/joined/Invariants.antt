use Rattle.meta_reader.proofs.build.joined.Given as goal

abbrev pub ghost-tried : goal.ghost-tried
ghost-tried g a = g.reading

abbrev pub ghost-finished : goal.ghost-finished
ghost-finished g a = g.reading
