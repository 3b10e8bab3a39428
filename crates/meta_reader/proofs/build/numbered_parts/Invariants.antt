use Rattle.meta_reader.proofs.build.numbered_parts.Given as goal

abbrev pub ghost-joined : goal.ghost-joined
ghost-joined g a = g.reading
