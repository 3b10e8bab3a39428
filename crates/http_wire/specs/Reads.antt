-- What reading the next request of a source answers.
use Rattle.std.specs.Prelude.{◌≡◌, ◌⊎◌, ◌+◌, ◌-◌, ◌≤◌, ◌<◌, ℕ, Bool, true, false, List, [], ◌++◌, Option, None, Some, Result, Ok, Err, length, take, drop, ⊤}
use Rattle.std.specs.Io.KnownBytes.{Consumes}
use Rattle.dh_base.specs.declared.codes.Code.{Code}
use Rattle.dh_base.specs.declared.codes.Code.TheVariants.{F2}
use Rattle.dh_outside.specs.Pieces.{IsSpent}
use Rattle.dh_outside.specs.Talk.{Talk, Paced}
use Rattle.http_wire.specs.Lines.{opening_of}
use Rattle.http_wire.specs.Head.{Says}
use Rattle.http_wire.specs.declared.head.Head.{Head}
use Rattle.http_wire.specs.declared.lines.Opening.{Opening}
use Rattle.http_wire.specs.declared.lines.Opening.TheVariants.{Nothing, Unfinished, TooLong, Whole}
use Rattle.http_wire.specs.declared.plan.Plan.{Plan}
use Rattle.http_wire.specs.Chunks.{chunked}
use Rattle.http_wire.specs.Chunks as body
use Rattle.http_wire.specs.declared.chunks.Chunks.{Chunks}
use Rattle.http_wire.specs.Next.{Found, ended, cut, refused, whole, complete, waiting, wrong, by_chunks, body_of, behind_head, skipped, IsNext, IsOpen}
use Rattle.http_wire.specs.declared.request.Request.{Request}
use Rattle.http_wire.specs.declared.fault.WireFault.{WireFault}
use Rattle.http_wire.specs.declared.fault.WireFault.TheVariants as fault

-- the bytes that were read and not yet used, and how many bytes were read of the source in all
pub record RestSeen : Type 0 where
  pub bytes : List ℕ
  pub read : ℕ

abbrev pub seen : List ℕ → ℕ → RestSeen
seen bytes read = record { bytes = bytes; read = read }

-- What is answered of all the bytes: those held before and those taken in the call. After a request stands what it
-- leaves. Where nothing was found, all is held but the empty lines at the front.
abbrev pub Gives : List ℕ → List ℕ → Type 0 → Result (Option Request) WireFault → Type 0
Gives all held Spent (Ok (Some request)) = (used : ℕ) × IsNext all (whole request used) × (held ≡ drop used all)
Gives all held Spent (Ok None) = IsNext all ended × (held ≡ []) × Spent
Gives all held Spent (Err (fault.Refused code)) = IsNext all (refused code)
Gives all held Spent (Err fault.Truncated) = IsNext all cut × Spent
Gives all held Spent (Err fault.ReadFault) = IsOpen all × (held ≡ skipped all)
Gives all held Spent (Err fault.Memory) = held ≡ skipped all

-- What the call took of the source, and what it answers. Each piece was asked for while the bytes held were open, so that
-- nothing is read ahead.
pub record Reads (left left' : Option (List ℕ)) (talk talk' : Option Talk) (old new : RestSeen) (answer : Result (Option Request) WireFault) : Type 0 where
  pub taken : List ℕ
  pub consumed : Consumes left left' taken
  pub counted : new.read ≡ old.read + length taken
  pub gives : Gives (old.bytes ++ taken) new.bytes (IsSpent left' new.read) answer
  pub paced : Paced talk talk' IsOpen old.bytes taken

-- the bytes taken stand after those held before; each piece was asked for while something held of the bytes held
pub record Gathers (Open : List ℕ → Type 0) (left left' : Option (List ℕ)) (talk talk' : Option Talk) (held held' : List ℕ) (read read' : ℕ) : Type 0 where
  pub taken : List ℕ
  pub consumed : Consumes left left' taken
  pub beyond : held' ≡ held ++ taken
  pub counted : read' ≡ read + length taken
  pub paced : Paced talk talk' Open held taken

-- the empty lines were skipped, and this stands at the front
abbrev pub Opens : List ℕ → Type 0 → Result (Option ℕ) WireFault → Type 0
Opens held Spent (Ok (Some count)) = opening_of held ≡ Whole count
Opens held Spent (Ok None) = (opening_of held ≡ Nothing) × Spent
Opens held Spent (Err (fault.Refused code)) = (opening_of held ≡ TooLong) × (code ≡ F2)
Opens held Spent (Err fault.Truncated) = (opening_of held ≡ Unfinished) × Spent
Opens held Spent (Err fault.ReadFault) = (opening_of held ≡ Nothing) ⊎ (opening_of held ≡ Unfinished)
Opens held Spent (Err fault.Memory) = ⊤

-- what stands at the front stays as more bytes come
abbrev pub is_settled : Opening → Bool
is_settled Nothing = false
is_settled Unfinished = false
is_settled TooLong = true
is_settled (Whole count) = true

-- the answer where this stands at the front, and no more bytes come
abbrev pub judged : Opening → Result (Option ℕ) WireFault
judged Nothing = Ok None
judged Unfinished = Err fault.Truncated
judged TooLong = Err (fault.Refused F2)
judged (Whole count) = Ok (Some count)

-- the bytes taken stand after those held before, and the empty lines at the front are skipped or not yet
pub record Skims (left left' : Option (List ℕ)) (talk talk' : Option Talk) (held held' : List ℕ) (read read' : ℕ) : Type 0 where
  pub taken : List ℕ
  pub consumed : Consumes left left' taken
  pub same : skipped held' ≡ skipped (held ++ taken)
  pub counted : read' ≡ read + length taken
  pub paced : Paced talk talk' IsOpen held taken

-- what is found after a head of so many bytes
abbrev pub IsBehind : List ℕ → ℕ → Found → Type 0
IsBehind all count found = (said : Result Head Code) × Says (take count all) said × (behind_head said (drop count all) ≡ found)

-- the request of a head of so many bytes is cut off
abbrev pub IsCutBehind : ℕ → List ℕ → Type 0
IsCutBehind count all = (count ≤ length all) × IsBehind all count cut

-- a body that is planned after a head of so many bytes isn't whole yet
abbrev pub IsWaiting : ℕ → Plan → List ℕ → Type 0
IsWaiting count plan all = (count ≤ length all) × (body_of plan (drop count all) ≡ waiting)

-- fewer bytes than these stand after a place
abbrev pub IsShort : ℕ → ℕ → List ℕ → Type 0
IsShort end count all = (end ≤ length all) × (length all - end < count)

abbrev pub GivesBehind : List ℕ → List ℕ → ℕ → Type 0 → Result Request WireFault → Type 0
GivesBehind all held count Spent (Ok request) = (used : ℕ) × IsBehind all count (whole request used) × (held ≡ drop (count + used) all)
GivesBehind all held count Spent (Err (fault.Refused code)) = IsBehind all count (refused code)
GivesBehind all held count Spent (Err fault.Truncated) = IsBehind all count cut × Spent
GivesBehind all held count Spent (Err fault.ReadFault) = IsBehind all count cut × (held ≡ all)
GivesBehind all held count Spent (Err fault.Memory) = held ≡ all

-- the same with what was taken
pub record ReadsBehind (left left' : Option (List ℕ)) (talk talk' : Option Talk) (held held' : List ℕ) (read read' count : ℕ)
    (answer : Result Request WireFault) : Type 0 where
  pub taken : List ℕ
  pub consumed : Consumes left left' taken
  pub counted : read' ≡ read + length taken
  pub gives : GivesBehind (held ++ taken) held' count (IsSpent left' read') answer
  pub paced : Paced talk talk' (IsCutBehind count) held taken

-- what is answered of the body that is planned after a head of so many bytes
abbrev pub GivesBody : List ℕ → List ℕ → ℕ → Plan → Type 0 → Result (List ℕ) WireFault → Type 0
GivesBody all held count plan Spent (Ok content) = (used : ℕ) × (body_of plan (drop count all) ≡ complete content used) × (held ≡ drop (count + used) all)
GivesBody all held count plan Spent (Err (fault.Refused code)) = body_of plan (drop count all) ≡ wrong code
GivesBody all held count plan Spent (Err fault.Truncated) = (body_of plan (drop count all) ≡ waiting) × Spent
GivesBody all held count plan Spent (Err fault.ReadFault) = (body_of plan (drop count all) ≡ waiting) × (held ≡ all)
GivesBody all held count plan Spent (Err fault.Memory) = held ≡ all

pub record ReadsBody (left left' : Option (List ℕ)) (talk talk' : Option Talk) (held held' : List ℕ) (read read' count : ℕ) (plan : Plan)
    (answer : Result (List ℕ) WireFault) : Type 0 where
  pub taken : List ℕ
  pub consumed : Consumes left left' taken
  pub counted : read' ≡ read + length taken
  pub gives : GivesBody (held ++ taken) held' count plan (IsSpent left' read') answer
  pub paced : Paced talk talk' (IsWaiting count plan) held taken

-- what is answered of a body in chunks, whose bytes are still held
abbrev pub GivesChunks : List ℕ → Type 0 → Chunks → Result ⊤ WireFault → Type 0
GivesChunks bytes Spent chunks (Ok done) = chunked bytes ≡ body.whole chunks.content chunks.seen
GivesChunks bytes Spent chunks (Err (fault.Refused code)) = chunked bytes ≡ body.refused code
GivesChunks bytes Spent chunks (Err fault.Truncated) = (by_chunks (chunked bytes) ≡ waiting) × Spent
GivesChunks bytes Spent chunks (Err fault.ReadFault) = by_chunks (chunked bytes) ≡ waiting
GivesChunks bytes Spent chunks (Err fault.Memory) = ⊤

-- the fault is not one of the request
abbrev pub is_stop : WireFault → Bool
is_stop (fault.Refused code) = false
is_stop fault.Truncated = true
is_stop fault.ReadFault = true
is_stop fault.Memory = true
