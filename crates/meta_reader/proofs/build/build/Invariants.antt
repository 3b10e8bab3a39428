use Rattle.expr_grammar.proofs.Readings.{the_reading}
use Rattle.meta_reader.proofs.build.build.Given as goal

abbrev pub ghost-build_of : goal.ghost-build_of
ghost-build_of a = the_reading
