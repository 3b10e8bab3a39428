-- A session over the bytes of a metadata file.
use Rattle.std.specs.Prelude.{◌≡◌, ◌++◌, ◌∷◌, [], ℕ, ℤ, List, Option, Ok, Err, codes}
use Rattle.std.specs.Io.KnownBytes.{Appends, Keeps}
use Rattle.dh_metadata.specs.declared.held.Records.{Records}
use Rattle.meta_reader.specs.declared.fault.MetaFault.{MetaFault}
use Rattle.meta_reader.specs.declared.fault.MetaFault.TheVariants as fault
use Rattle.meta_reader.specs.declared.fault.Which.TheVariants as which
use Rattle.meta_reader.specs.Line.{line_of}
use Rattle.meta_reader.specs.Read.{IsMetadata}
use Rattle.request_session.specs.Session.{AppendsFront}
use Rattle.request_replies.specs.Serving.{Served, ServedOver}
use Rattle.request_replies.specs.declared.over_file.SessionEnd.{SessionEnd}
use Rattle.request_replies.specs.declared.over_file.SessionEnd.TheVariants as end

-- the line that tells why the metadata are refused
unfoldable pub refusal_line : MetaFault → List ℕ
refusal_line found = codes "dhis: metadata: " ++ line_of found ++ 10 ∷ []

-- the line of the file's first fault is written so
abbrev pub IsRefused : List ℕ → (List ℕ → Type 0) → Type 0
IsRefused bytes Writes = (found : MetaFault) × IsMetadata bytes (Err found) × Writes (refusal_line found)

-- A session over a metadata file: the file is refused before the input is read, or the session is held over its
-- metadata. If memory runs out before it begins nothing is read or written.
abbrev pub SessionOver : (ℤ → Type 0) → List ℕ → Option (List ℕ) → Option (List ℕ) → Option (List ℕ) → Option (List ℕ) → SessionEnd → Type 0
SessionOver shows bytes left left' written written' end.Refused = IsRefused bytes (Appends written written') × (left' ≡ left)
SessionOver shows bytes left left' written written' end.Unwritten = IsRefused bytes (AppendsFront written written') × (left' ≡ left)
SessionOver shows bytes left left' written written' (end.Ended how) =
    (meta : Records) × IsMetadata bytes (Ok meta) × Served shows left left' written written' meta how
SessionOver shows bytes left left' written written' end.Memory = Keeps written written' × (left' ≡ left)

-- the same over all the bytes of the input
abbrev pub SessionOverAll : (ℤ → Type 0) → List ℕ → List ℕ → Option (List ℕ) → Option (List ℕ) → SessionEnd → Type 0
SessionOverAll shows bytes input written written' end.Refused = IsRefused bytes (Appends written written')
SessionOverAll shows bytes input written written' end.Unwritten = IsRefused bytes (AppendsFront written written')
SessionOverAll shows bytes input written written' (end.Ended how) =
    (meta : Records) × IsMetadata bytes (Ok meta) × ServedOver shows input written written' meta how
SessionOverAll shows bytes input written written' end.Memory = Keeps written written'

-- what refusing the metadata comes to
abbrev pub Refuses : MetaFault → Option (List ℕ) → Option (List ℕ) → SessionEnd → Type 0
Refuses found written written' end.Refused = Appends written written' (refusal_line found)
Refuses found written written' end.Unwritten = AppendsFront written written' (refusal_line found)
Refuses found written written' (end.Ended how) = ⊥
Refuses found written written' end.Memory = Keeps written written'

-- the file has more than the most bytes
abbrev pub RefusesLong : Option (List ℕ) → Option (List ℕ) → SessionEnd → Type 0
RefusesLong written written' how = Refuses (fault.Limit which.Bytes) written written' how

-- what a session over metadata comes to
abbrev pub OverMetadata : (ℤ → Type 0) → Records → Option (List ℕ) → Option (List ℕ) → Option (List ℕ) → Option (List ℕ) → SessionEnd → Type 0
OverMetadata shows meta left left' written written' end.Refused = ⊥
OverMetadata shows meta left left' written written' end.Unwritten = ⊥
OverMetadata shows meta left left' written written' (end.Ended how) = Served shows left left' written written' meta how
OverMetadata shows meta left left' written written' end.Memory = Keeps written written' × (left' ≡ left)
