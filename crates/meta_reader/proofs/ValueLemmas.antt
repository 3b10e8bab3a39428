-- The first fault, or records, as one answer.
use Rattle.std.proofs.Common.{◌≡◌, ◌∙◌, Option, Some, None, sym, ap, subst}
use Rattle.std.specs.Prelude.{Result, Ok, Err}
use Rattle.dh_base.specs.Memory.{IsCause, IsFirst, Answers, Finds}
use Rattle.dh_metadata.specs.declared.parts.MetaParts.{MetaParts}
use Rattle.dh_metadata.specs.declared.held.Records.{Records}
use Rattle.meta_rules.specs.Read.{Meaning}
use Rattle.meta_reader.specs.declared.file_fault.FileFault.{FileFault}
use Rattle.meta_reader.specs.declared.file_fault.FileFault.TheVariants as file
use Rattle.meta_reader.specs.declared.fault.MetaFault.{MetaFault}
use Rattle.meta_reader.specs.File.{file_cause}
use Rattle.meta_reader.specs.Faults.{meta_cause, unless_fault, metadata_of}
use Rattle.meta_reader.specs.Read.{told, metadata_from}

met_cause : (met : Option MetaFault) (records : Records) (cause : Option MetaFault) → IsFirst met cause → IsCause (unless_fault met records) cause
met_cause met records None is = tt
met_cause met records (Some found) is = ap (λ (o : Option MetaFault). unless_fault o records) is

-- the first fault that is met, or these records, are what is meant
pub found_answers : (met : Option MetaFault) (records : Records) (result : Result Records MetaFault) → Finds meta_cause met (λ r. r ≡ records) result
    → Answers meta_cause (unless_fault met records) result
found_answers met records (Ok r) is = ap (λ (o : Option MetaFault). unless_fault o records) is.0 ∙ ap (λ (x : Records). Ok x) (sym is.1)
found_answers met records (Err found) is = met_cause met records (meta_cause found) is

-- what a file says makes the answer
pub from_parts : (meaning : Meaning) (meant : Result MetaParts FileFault) (parts : MetaParts) (result : Result Records MetaFault)
    → meant ≡ Ok parts → Answers meta_cause (metadata_of meaning parts) result → Answers meta_cause (metadata_from meaning meant) result
from_parts meaning meant parts result is answers =
    subst (λ (m : Result MetaParts FileFault). Answers meta_cause (metadata_from meaning m) result) (sym is) answers

-- or the fault of its length, its syntax, its form
pub from_fault : (meaning : Meaning) (meant : Result MetaParts FileFault) (found : FileFault) → IsCause meant (file_cause found)
    → IsCause (metadata_from meaning meant) (meta_cause (told found))
from_fault meaning meant file.TooLong is = ap (metadata_from meaning) is
from_fault meaning meant file.NotJson is = ap (metadata_from meaning) is
from_fault meaning meant (file.Shape path) is = ap (metadata_from meaning) is
from_fault meaning meant file.Memory is = tt

pub from_told : (meaning : Meaning) (meant : Result MetaParts FileFault) (found : FileFault) (as_told : MetaFault) → as_told ≡ told found
    → IsCause meant (file_cause found) → IsCause (metadata_from meaning meant) (meta_cause as_told)
from_told meaning meant found as_told same is =
    subst (λ (f : MetaFault). IsCause (metadata_from meaning meant) (meta_cause f)) (sym same) (from_fault meaning meant found is)
