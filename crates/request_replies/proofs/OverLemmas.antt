-- Sessions over a metadata file, by what reading it came to.
use Rattle.std.proofs.Common.{◌≡◌, ◌≢◌, ◌<◌, ℕ, ℤ, true, List, length, nat_lt, cond, Option, None, Some, Ok, Err, refl, ap, subst, arith}
use Rattle.std.specs.Option.{option_map_or}
use Rattle.std.specs.Io.KnownBytes.{Keeps}
use Rattle.dh_metadata.specs.declared.held.Records.{Records}
use Rattle.json_read.specs.Bytes.{document_of}
use Rattle.meta_reader.specs.File.{most_bytes, file_of, shaped_of}
use Rattle.meta_reader.specs.declared.file_fault.FileFault.TheVariants as file
use Rattle.meta_reader.specs.declared.fault.MetaFault.{MetaFault}
use Rattle.meta_reader.specs.declared.fault.MetaFault.TheVariants as fault
use Rattle.meta_reader.specs.declared.fault.Which.TheVariants.{Bytes}
use Rattle.meta_reader.specs.Read.{IsMetadata}
use Rattle.meta_reader.proofs.OneMetadata.{metadata-from-fault}
use Rattle.request_session.specs.declared.ended.Ended.{Ended}
use Rattle.request_session.specs.declared.ended.Ended.TheVariants.{ReadFault}
use Rattle.request_replies.specs.OverFile.{OverMetadata, SessionOver, SessionOverAll, Refuses, RefusesLong}
use Rattle.request_replies.specs.declared.over_file.SessionEnd.{SessionEnd}
use Rattle.request_replies.specs.declared.over_file.SessionEnd.TheVariants as end
use Rattle.request_replies.proofs.ServeLemmas.{served_over}

-- ---- what reading the file came to

lt-test : (m n : ℕ) → m < n → nat_lt m n ≡ true
lt-test m n less = grind arith

long-file : (bytes : List ℕ) → most_bytes < length bytes → file_of bytes ≡ Err file.TooLong
unfolding file_of
long-file bytes long =
    ap (λ b. cond b (Err file.TooLong) (option_map_or shaped_of (document_of bytes) (Err file.NotJson))) (lt-test most_bytes (length bytes) long)

-- a file of more than the most bytes has that fault
pub long_fault : (bytes : List ℕ) → most_bytes < length bytes → IsMetadata bytes (Err (fault.Limit Bytes))
long_fault bytes long = metadata-from-fault bytes file.TooLong (long-file bytes long)

-- ---- what the session came to

-- the metadata are refused
pub refused_over : (shows : ℤ → Type 0) (bytes : List ℕ) (left left' written written' : Option (List ℕ)) (found : MetaFault) (how : SessionEnd)
    → IsMetadata bytes (Err found) → left' ≡ left → Refuses found written written' how → SessionOver shows bytes left left' written written' how
refused_over shows bytes left left' written written' found end.Refused is same refuses = ((found, is, refuses), same)
refused_over shows bytes left left' written written' found end.Unwritten is same refuses = ((found, is, refuses), same)
refused_over shows bytes left left' written written' found (end.Ended how) is same refuses = absurd refuses
refused_over shows bytes left left' written written' found end.Memory is same refuses = (refuses, same)

-- the file is too long
pub long_over : (shows : ℤ → Type 0) (bytes : List ℕ) (left written written' : Option (List ℕ)) (how : SessionEnd) → most_bytes < length bytes
    → RefusesLong written written' how → SessionOver shows bytes left left written written' how
long_over shows bytes left written written' how long refuses =
    refused_over shows bytes left left written written' (fault.Limit Bytes) how (long_fault bytes long) refl refuses

-- no session is held over it
pub long_unheld : (written written' : Option (List ℕ)) (how : SessionEnd) (ended : Ended) → RefusesLong written written' how → how ≢ end.Ended ended
long_unheld written written' how ended refuses is = subst (RefusesLong written written') is refuses

-- over an input that is told
pub over_told : (shows : ℤ → Type 0) (bytes : List ℕ) (left left' written written' : Option (List ℕ)) (how : SessionEnd) (input : List ℕ) → left ≡ Some input
    → how ≢ end.Ended ReadFault → SessionOver shows bytes left left' written written' how → SessionOverAll shows bytes input written written' how
over_told shows bytes left left' written written' end.Refused input told other over = over.0
over_told shows bytes left left' written written' end.Unwritten input told other over = over.0
over_told shows bytes left left' written written' (end.Ended how) input told other over =
    (over.0, over.1, served_over shows input left left' written written' over.0 how told (λ is. other (ap end.Ended is)) over.2)
over_told shows bytes left left' written written' end.Memory input told other over = over.0

-- the metadata are taken
pub taken_over : (shows : ℤ → Type 0) (bytes : List ℕ) (meta : Records) (left left' written written' : Option (List ℕ)) (how : SessionEnd)
    → IsMetadata bytes (Ok meta) → OverMetadata shows meta left left' written written' how → SessionOver shows bytes left left' written written' how
taken_over shows bytes meta left left' written written' end.Refused reads over = absurd over
taken_over shows bytes meta left left' written written' end.Unwritten reads over = absurd over
taken_over shows bytes meta left left' written written' (end.Ended how) reads over = (meta, reads, over)
taken_over shows bytes meta left left' written written' end.Memory reads over = over

-- what stays is kept
pub keeps_same : (old new : Option (List ℕ)) → new ≡ old → Keeps old new
keeps_same None new same = tt
keeps_same (Some bytes) None same = cc
keeps_same (Some bytes) (Some more) same = some_same bytes more same
  where
    some_same : (b m : List ℕ) → Some m ≡ Some b → m ≡ b
    some_same b m is = cc
