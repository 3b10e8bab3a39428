use Rattle.meta_reader.proofs.build.build_of.Given as goal

abbrev pub ghost-numbered_parts : goal.ghost-numbered_parts
ghost-numbered_parts g a = g.reading
