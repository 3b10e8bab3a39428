-- The text of a session: with the bytes of the metadata file, the bytes of the input and the moment of each request given there is one,
-- unless memory runs out.
use Rattle.std.specs.Prelude.{◌≡◌, ◌⊎◌, ◌+◌, ◌++◌, ◌&&◌, ℕ, ℤ, Bool, true, false, nat_lt, List, [], ◌∷◌, length, take, Option, Result, Ok, Err}
use Rattle.std.specs.Io.KnownBytes.{Appends}
use Rattle.std.specs.List.{AllByRecursion, list_all}
use Rattle.dh_metadata.specs.declared.held.Records.{Records}
use Rattle.meta_reader.specs.declared.fault.MetaFault.{MetaFault}
use Rattle.meta_reader.specs.Read.{IsMetadata}
use Rattle.http_wire.specs.Next.{Found, ended, cut, refused, whole, IsNext}
use Rattle.http_wire.specs.declared.request.Request.{Request}
use Rattle.request_session.specs.Replies.{memory_reply, refused_text}
use Rattle.request_session.specs.Session.{Requests, keeps, counting, is_decided}
use Rattle.engine.specs.Machine.{State, start}
use Rattle.engine.specs.InMemory.{largest}
use Rattle.request_replies.specs.Response.{response_of}
use Rattle.request_replies.specs.OverFile.{refusal_line}
use Rattle.request_replies.specs.Serving.{most_requests}
use Rattle.request_replies.specs.declared.over_file.SessionEnd.{SessionEnd}
use Rattle.request_replies.specs.declared.over_file.SessionEnd.TheVariants as end

-- the replies to requests, each at its moment, from a state in which so many were answered before
abbrev pub replies_of : Records → ℕ → State → List Request → List ℤ → List ℕ
replies_of meta before state [] moments = []
replies_of meta before state (request ∷ requests) [] = []
replies_of meta before state (request ∷ requests) (moment ∷ moments) =
    (response_of meta largest state moment request (keeps most_requests before request)).text
    ++ replies_of meta (before + 1) (response_of meta largest state moment request (keeps most_requests before request)).state requests moments

-- none of these asks to close, and they are fewer than are answered
abbrev pub goes_on : List Request → Bool
goes_on requests = list_all (λ request. request.keep) requests && nat_lt (length requests) most_requests

-- what is written if no request follows: what isn't a request is refused
abbrev pub IsLast : Found → List ℕ → Type 0
IsLast ended text = text ≡ []
IsLast cut text = text ≡ []
IsLast (refused code) text = text ≡ refused_text code
IsLast (whole request used) text = ⊥

-- the same where the session goes on to these bytes; else nothing is written
abbrev pub LastIn : Bool → List ℕ → List ℕ → Type 0
LastIn true rest text = (found : Found) × IsNext rest found × IsLast found text
LastIn false rest text = text ≡ []

-- the text of a session over metadata, from an empty log on, and the bytes of its input
pub record IsTextOver (meta : Records) (input : List ℕ) (moments : List ℤ) (text : List ℕ) : Type 0 where
  pub requests : List Request
  pub rest : List ℕ
  pub found : Requests input requests rest
  pub each : length moments ≡ length requests
  pub last : List ℕ
  pub ends : LastIn (goes_on requests) rest last
  pub text_is : text ≡ replies_of meta 0 start requests moments ++ last

-- by what the metadata file is read as: if it is refused, the line of its first fault
abbrev pub IsTextBy : Result Records MetaFault → List ℕ → List ℤ → List ℕ → Type 0
IsTextBy (Ok meta) input moments text = IsTextOver meta (counting input) moments text
IsTextBy (Err fault) input moments text = text ≡ refusal_line fault

-- the text of a session over a metadata file and an input, at these moments of its requests
abbrev pub IsText : List ℕ → List ℕ → List ℤ → List ℕ → Type 0
IsText file input moments text = (found : Result Records MetaFault) × IsMetadata file found × IsTextBy found input moments text

-- this is the text, and there is no other
abbrev pub IsOneText : List ℕ → List ℕ → List ℤ → List ℕ → Type 0
IsOneText file input moments text = IsText file input moments text × ((other : List ℕ) → IsText file input moments other → other ≡ text)

-- the replies to the first of these requests, and then that memory ran out
abbrev pub BreaksOff : Records → ℕ → State → List Request → List ℤ → List ℕ → Type 0
BreaksOff meta before state requests moments text =
    (count : ℕ) × (keep : Bool) × (more : List ℕ) × (text ≡ replies_of meta before state (take count requests) moments ++ memory_reply keep ++ more)

-- the same over a metadata file and an input
pub record BreaksOffOver (file input : List ℕ) (moments : List ℤ) (text : List ℕ) : Type 0 where
  pub meta : Records
  pub meta_is : IsMetadata file (Ok meta)
  pub requests : List Request
  pub rest : List ℕ
  pub found : Requests (counting input) requests rest
  pub breaks : BreaksOff meta 0 start requests moments text

-- What a session writes: at moments that the clock shows, the one text of the file and the input; or it goes along it up to a reply which
-- says that memory ran out.
pub record WritesText (shows : ℤ → Type 0) (file input text : List ℕ) : Type 0 where
  pub moments : List ℤ
  pub shown : AllByRecursion shows moments
  pub is : IsOneText file input moments text ⊎ BreaksOffOver file input moments text

-- a session that is over without a fault, its own lack of memory included
abbrev pub is_over : SessionEnd → Bool
is_over end.Refused = true
is_over end.Unwritten = false
is_over (end.Ended how) = is_decided how
is_over end.Memory = false

-- it was written whole
abbrev pub WritesOne : (ℤ → Type 0) → List ℕ → List ℕ → Option (List ℕ) → Option (List ℕ) → Type 0
WritesOne shows file input written written' = (text : List ℕ) × Appends written written' text × WritesText shows file input text
