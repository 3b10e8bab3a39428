use Rattle.expr_grammar.proofs.Readings.{the_reading}
use Rattle.meta_reader.specs.Faults.{fault_of, metadata_of}
use Rattle.meta_reader.specs.Records.{records_in}
use Rattle.meta_reader.proofs.OneMetadata.{each-answers-of}
use Rattle.meta_reader.proofs.ValueLemmas.{found_answers}
use Rattle.meta_reader.proofs.build.build.Goals as goal

pub returns : goal.returns
unfolding metadata_of
returns c =
    let parts = c.args.parts in
    let met = fault_of the_reading.answer parts in
    record {
      value =
          each-answers-of parts c.build_of-made.result the_reading
          (found_answers met (records_in the_reading.answer parts) c.build_of-made.result c.build_of-made.ensures);
    }
