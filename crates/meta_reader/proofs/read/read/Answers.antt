use Rattle.meta_reader.specs.File.{file_of}
use Rattle.meta_reader.specs.Read.{metadata_by}
use Rattle.meta_reader.proofs.OneMetadata.{has-one-metadata}
use Rattle.meta_reader.proofs.ValueLemmas.{from_parts, from_told}
use Rattle.meta_reader.proofs.read.read.Goals as goal

pub returns-in-Ok : goal.returns-in-Ok
unfolding metadata_by
returns-in-Ok c = record {
  value = λ reading.
      from_parts reading.answer (file_of c.args.bytes.now) c.in-Ok.parts c.build.result c.in-Ok.ensures (c.build.ensures.value reading);
  one = has-one-metadata c.args.bytes.now;
}

pub returns-in-Err : goal.returns-in-Err
unfolding metadata_by
returns-in-Err c = record {
  value = λ reading.
      from_told reading.answer (file_of c.args.bytes.now) c.in-Err.fault c.told.result c.told.ensures c.in-Err.ensures;
  one = has-one-metadata c.args.bytes.now;
}
