-- Reading a metadata file.
use Rattle.std.specs.Prelude.{◌≡◌, ℕ, List, Result, Ok, Err}
use Rattle.expr_grammar.specs.Answer.{Reading}
use Rattle.dh_metadata.specs.declared.parts.MetaParts.{MetaParts}
use Rattle.dh_metadata.specs.declared.held.Records.{Records}
use Rattle.meta_reader.specs.declared.file_fault.FileFault.{FileFault}
use Rattle.meta_reader.specs.declared.file_fault.FileFault.TheVariants as file
use Rattle.meta_reader.specs.declared.fault.MetaFault.{MetaFault}
use Rattle.meta_reader.specs.declared.fault.MetaFault.TheVariants as fault
use Rattle.meta_reader.specs.declared.fault.Which.TheVariants as which
use Rattle.meta_rules.specs.Read.{Meaning}
use Rattle.meta_reader.specs.Faults.{metadata_of}
use Rattle.meta_reader.specs.File.{file_of}

-- a fault of a file's length, syntax or form
abbrev pub told : FileFault → MetaFault
told file.TooLong = fault.Limit which.Bytes
told file.NotJson = fault.NotJson
told (file.Shape path) = fault.Shape path
told file.Memory = fault.Memory

abbrev pub metadata_from : Meaning → Result MetaParts FileFault → Result Records MetaFault
metadata_from meaning (Ok parts) = metadata_of meaning parts
metadata_from meaning (Err found) = Err (told found)

-- The metadata that the bytes of a file are, or the first fault: of its length, its syntax, its form, and then of what it says.
-- Its expressions are what a reading of texts by the grammar says.
unfoldable pub metadata_by : Reading → List ℕ → Result Records MetaFault
metadata_by reading bytes = metadata_from reading.answer (file_of bytes)

-- what the bytes of a file are: the metadata that they say or the first fault, however texts are read by the grammar
abbrev pub IsMetadata : List ℕ → Result Records MetaFault → Type 0
IsMetadata bytes answer = (reading : Reading) → metadata_by reading bytes ≡ answer

-- a file is one such answer, and no other
abbrev pub HasOneMetadata : List ℕ → Type 0
HasOneMetadata bytes =
    (answer : Result Records MetaFault) × IsMetadata bytes answer × ((other : Result Records MetaFault) → IsMetadata bytes other → other ≡ answer)

-- what a file says is this, likewise
abbrev pub IsMetadataOf : MetaParts → Result Records MetaFault → Type 0
IsMetadataOf parts answer = (reading : Reading) → metadata_of reading.answer parts ≡ answer
