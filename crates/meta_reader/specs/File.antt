-- What the bytes of a metadata file say.
use Rattle.std.specs.Prelude.{ℕ, cond, List, length, nat_lt, Option, None, Some, Result, Ok, Err}
use Rattle.std.specs.Option.{option_map_or}
use Rattle.serde_json.specs.Data.{Data}
use Rattle.json_read.specs.Bytes.{document_of}
use Rattle.json_read.specs.Forms.{Formed}
use Rattle.dh_metadata.specs.declared.parts.MetaParts.{MetaParts}
use Rattle.meta_forms.specs.Parts.{parts_of}
use Rattle.meta_reader.specs.declared.file_fault.FileFault.{FileFault}
use Rattle.meta_reader.specs.declared.file_fault.FileFault.TheVariants as fault
use Rattle.dh_base.specs.declared.limits.TheConstants.{MOST_INPUT_BYTES}

-- data that isn't in the form of the file is at fault
abbrev pub or_shape : Formed MetaParts → Result MetaParts FileFault
or_shape (Ok parts) = Ok parts
or_shape (Err path) = Err (fault.Shape path)

abbrev pub shaped_of : Data → Result MetaParts FileFault
shaped_of json = or_shape (parts_of json)

-- the most bytes of a file
abbrev pub most_bytes : ℕ
most_bytes = MOST_INPUT_BYTES

-- what the bytes of a file say, or its first fault
unfoldable pub file_of : List ℕ → Result MetaParts FileFault
file_of bytes = cond (nat_lt most_bytes (length bytes)) (Err fault.TooLong) (option_map_or shaped_of (document_of bytes) (Err fault.NotJson))

-- the fault itself; running out of memory is none
abbrev pub file_cause : FileFault → Option FileFault
file_cause fault.Memory = None
file_cause found = Some found
