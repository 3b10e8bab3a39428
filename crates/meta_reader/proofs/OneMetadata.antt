-- A file has one answer, however its expressions are read by the grammar.
use Rattle.std.proofs.Common.{◌≡◌, ◌≢◌, ◌∙◌, ℕ, List, Some, refl, sym, ap, subst}
use Rattle.std.specs.Prelude.{Result, Ok, Err}
use Rattle.dh_base.specs.Memory.{IsCause, Answers}
use Rattle.expr_grammar.specs.Answer.{Reading}
use Rattle.expr_grammar.proofs.Readings.{the_reading, read_as}
use Rattle.dh_metadata.specs.declared.parts.MetaParts.{MetaParts}
use Rattle.dh_metadata.specs.declared.held.Records.{Records}
use Rattle.meta_rules.specs.Read.{Meaning}
use Rattle.meta_reader.specs.declared.file_fault.FileFault.{FileFault}
use Rattle.meta_reader.specs.declared.fault.MetaFault.{MetaFault}
use Rattle.meta_reader.specs.declared.fault.MetaFault.TheVariants as fault
use Rattle.meta_reader.specs.File.{file_of}
use Rattle.meta_reader.specs.Faults.{meta_cause, metadata_of}
use Rattle.meta_reader.specs.Read.{told, metadata_from, metadata_by, IsMetadata, IsMetadataOf, HasOneMetadata}

-- all readings say the same of all texts
pub same-answers : (one other : Reading) → one.answer ≡ other.answer
same-answers one other = λ i place days wanted text.
    read_as one place days wanted text (other.answer place days wanted text) (other.is place days wanted text) i

pub same-metadata : (bytes : List ℕ) (one other : Reading) → metadata_by one bytes ≡ metadata_by other bytes
unfolding metadata_by
same-metadata bytes one other = ap (λ (meaning : Meaning). metadata_from meaning (file_of bytes)) (same-answers one other)

pub same-metadata-of : (parts : MetaParts) (one other : Reading) → metadata_of one.answer parts ≡ metadata_of other.answer parts
same-metadata-of parts one other = ap (λ (meaning : Meaning). metadata_of meaning parts) (same-answers one other)

-- each file has an answer
pub some-metadata : (bytes : List ℕ) → (answer : Result Records MetaFault) × IsMetadata bytes answer
some-metadata bytes = (metadata_by the_reading bytes, λ reading. same-metadata bytes reading the_reading)

pub some-metadata-of : (parts : MetaParts) → (answer : Result Records MetaFault) × IsMetadataOf parts answer
some-metadata-of parts = (metadata_of the_reading.answer parts, λ reading. same-metadata-of parts reading the_reading)

-- and no other
pub one-metadata : (bytes : List ℕ) (one other : Result Records MetaFault) → IsMetadata bytes one → IsMetadata bytes other → one ≡ other
one-metadata bytes one other is also = sym (is the_reading) ∙ also the_reading

pub has-one-metadata : (bytes : List ℕ) → HasOneMetadata bytes
has-one-metadata bytes =
    let some = some-metadata bytes in
    (some.0, some.1, λ other is. one-metadata bytes other some.0 is some.1)

pub one-metadata-of : (parts : MetaParts) (one other : Result Records MetaFault) → IsMetadataOf parts one → IsMetadataOf parts other → one ≡ other
one-metadata-of parts one other is also = sym (is the_reading) ∙ also the_reading

-- what is answered by one reading is answered by each
pub each-answers : (bytes : List ℕ) (result : Result Records MetaFault) (one : Reading) → Answers meta_cause (metadata_by one bytes) result
    → (reading : Reading) → Answers meta_cause (metadata_by reading bytes) result
each-answers bytes result one is reading =
    subst (λ (meant : Result Records MetaFault). Answers meta_cause meant result) (same-metadata bytes one reading) is

pub each-answers-of : (parts : MetaParts) (result : Result Records MetaFault) (one : Reading) → Answers meta_cause (metadata_of one.answer parts) result
    → (reading : Reading) → Answers meta_cause (metadata_of reading.answer parts) result
each-answers-of parts result one is reading =
    subst (λ (meant : Result Records MetaFault). Answers meta_cause meant result) (same-metadata-of parts one reading) is

-- a fault that isn't want of memory is its own cause
own-cause : (found : MetaFault) → found ≢ fault.Memory → meta_cause found ≡ Some found
own-cause fault.Memory other = absurd (other refl)
own-cause fault.NotJson other = refl
own-cause (fault.Shape path) other = refl
own-cause (fault.Unknown uid path) other = refl
own-cause (fault.Twice uid) other = refl
own-cause (fault.Expr uid at) other = refl
own-cause (fault.Rule uid rule) other = refl
own-cause (fault.Limit limit) other = refl

-- what a call answers is what the file is
pub is-ok : (bytes : List ℕ) (meta : Records) → ((reading : Reading) → Answers meta_cause (metadata_by reading bytes) (Ok meta)) → IsMetadata bytes (Ok meta)
is-ok bytes meta is = is

pub is-fault : (bytes : List ℕ) (found : MetaFault) → found ≢ fault.Memory
    → ((reading : Reading) → Answers meta_cause (metadata_by reading bytes) (Err found)) → IsMetadata bytes (Err found)
is-fault bytes found other is reading = subst (IsCause (metadata_by reading bytes)) (own-cause found other) (is reading)

pub is-ok-of : (parts : MetaParts) (meta : Records) → ((reading : Reading) → Answers meta_cause (metadata_of reading.answer parts) (Ok meta))
    → IsMetadataOf parts (Ok meta)
is-ok-of parts meta is = is

pub is-fault-of : (parts : MetaParts) (found : MetaFault) → found ≢ fault.Memory
    → ((reading : Reading) → Answers meta_cause (metadata_of reading.answer parts) (Err found)) → IsMetadataOf parts (Err found)
is-fault-of parts found other is reading = subst (IsCause (metadata_of reading.answer parts)) (own-cause found other) (is reading)

-- the bytes of a file are what it says is, or their own fault
pub metadata-from-parts : (bytes : List ℕ) (parts : MetaParts) (answer : Result Records MetaFault) → file_of bytes ≡ Ok parts → IsMetadataOf parts answer
    → IsMetadata bytes answer
unfolding metadata_by
metadata-from-parts bytes parts answer file is reading = ap (metadata_from reading.answer) file ∙ is reading

pub metadata-from-fault : (bytes : List ℕ) (found : FileFault) → file_of bytes ≡ Err found → IsMetadata bytes (Err (told found))
unfolding metadata_by
metadata-from-fault bytes found file reading = ap (metadata_from reading.answer) file
