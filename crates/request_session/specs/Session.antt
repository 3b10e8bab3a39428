-- A session: the requests of an input, one after the other, and their replies in order.
use Rattle.std.specs.Prelude.{◌≡◌, ◌⊎◌, ◌<◌, ◌≤◌, ◌&&◌, ◌+◌, ◌^◌, ℕ, Bool, true, false, List, [], ◌∷◌, ◌++◌, Option, length, take, drop, nat_lt, ⊤}
use Rattle.std.specs.List.{list_all}
use Rattle.std.specs.Io.KnownBytes.{Consumes, Appends}
use Rattle.dh_base.specs.declared.codes.Code.{Code}
use Rattle.dh_outside.specs.Pieces.{IsSpent}
use Rattle.http_wire.specs.Next.{ended, cut, refused, whole, IsNext, IsOpen}
use Rattle.http_wire.specs.declared.request.Request.{Request}
use Rattle.request_session.specs.Replies.{RefusesBy, memory_reply}
use Rattle.request_session.specs.declared.ended.Ended.{Ended}
use Rattle.request_session.specs.declared.ended.Ended.TheVariants as end

-- these requests stand at the front of bytes, one after the other, and this stands after them
abbrev pub Requests : List ℕ → List Request → List ℕ → Type 0
Requests bytes [] rest = rest ≡ bytes
Requests bytes (request ∷ requests) rest = (used : ℕ) × IsNext bytes (whole request used) × Requests (drop used bytes) requests rest

-- whether a reply says that the connection is kept, where so many requests were answered before: the last one that is
-- allowed says that it is closed
abbrev pub keeps : ℕ → ℕ → Request → Bool
keeps most before request = request.keep && nat_lt (before + 1) most

-- Each request has its reply, in order, and the machine goes from one state to the next by its steps. So many requests
-- were answered before.
abbrev pub Replies : {M : Type 0} → (M → Request → Bool → List ℕ → M → Type 0) → ℕ → ℕ → M → List Request → List ℕ → M → Type 0
Replies step most before old [] text new = (text ≡ []) × (new ≡ old)
Replies {M} step most before old (request ∷ requests) text new =
    (reply : List ℕ) × (beyond : List ℕ) × (next : M) × step old request (keeps most before request) reply next
    × Replies step most (before + 1) next requests beyond new × (text ≡ reply ++ beyond)

-- after these requests the session goes on: none asks to close, and they are fewer than are allowed
abbrev pub GoesOn : ℕ → List Request → Type 0
GoesOn most requests = (list_all (λ request. request.keep) requests ≡ true) × (length requests < most)

-- one more, to which the session went on
abbrev pub OneMore : ℕ → List Request → List Request → Request → Type 0
OneMore most requests before last = (requests ≡ before ++ last ∷ []) × GoesOn most before

-- the last of these asks to close, and they are fewer than are allowed
abbrev pub AsksToClose : ℕ → List Request → Type 0
AsksToClose most requests = (before : List Request) × (last : Request) × OneMore most requests before last × (last.keep ≡ false) × (length requests < most)

-- as many as are allowed
abbrev pub IsFull : ℕ → List Request → Type 0
IsFull most requests = (length requests ≡ most) × ((requests ≡ []) ⊎ ((before : List Request) × (last : Request) × OneMore most requests before last))

-- what stands after the requests is refused, and this is its reply
abbrev pub IsRefused : ℕ → List Request → List ℕ → Code → List ℕ → Type 0
IsRefused most requests rest code text = GoesOn most requests × IsNext rest (refused code) × RefusesBy code text

-- How a session ends, by its requests and what stands after them; with the text after their replies. Where the input
-- ends it is spent.
abbrev pub EndsBy : ℕ → List Request → List ℕ → Type 0 → Ended → List ℕ → Type 0
EndsBy most requests rest Spent end.Closed text = (text ≡ []) × (AsksToClose most requests ⊎ (GoesOn most requests × IsNext rest ended × Spent))
EndsBy most requests rest Spent end.Truncated text = (text ≡ []) × GoesOn most requests × IsNext rest cut × Spent
EndsBy most requests rest Spent (end.Refused code) text = IsRefused most requests rest code text
EndsBy most requests rest Spent end.Limit text = (text ≡ []) × IsFull most requests
EndsBy most requests rest Spent end.ReadFault text = (text ≡ []) × GoesOn most requests × IsOpen rest
EndsBy most requests rest Spent end.WriteFault text =
    ((text ≡ []) × (before : List Request) × (last : Request) × OneMore most requests before last) ⊎ ((code : Code) × IsRefused most requests rest code text)
EndsBy most requests rest Spent end.Memory text = (text ≡ []) × GoesOn most requests

-- a session over bytes, of at most so many requests: its text is the replies and what stands after them
pub record Session {M : Type 0} (step : M → Request → Bool → List ℕ → M
    → Type 0) (most : ℕ) (bytes : List ℕ) (Spent : Type 0) (old new : M) (how : Ended) (text : List ℕ) : Type 0 where
  pub requests : List Request
  pub rest : List ℕ
  pub found : Requests bytes requests rest
  pub replies : List ℕ
  pub served : Replies step most 0 old requests replies new
  pub last : List ℕ
  pub ends : EndsBy most requests rest Spent how last
  pub whole : text ≡ replies ++ last

-- a prefix of the text was written
abbrev pub AppendsFront : Option (List ℕ) → Option (List ℕ) → List ℕ → Type 0
AppendsFront old new text = (front : List ℕ) × (more : List ℕ) × (text ≡ front ++ more) × Appends old new front

-- the text was written, at a fault of writing a prefix of it
abbrev pub WritesUpTo : Ended → Option (List ℕ) → Option (List ℕ) → List ℕ → Type 0
WritesUpTo end.WriteFault old new text = AppendsFront old new text
WritesUpTo _ old new text = Appends old new text

-- what a session took of its source, what it came to over these bytes, and what it wrote
pub record Ran {M : Type 0} (step : M → Request → Bool → List ℕ → M
    → Type 0) (most : ℕ) (left left' written written' : Option (List ℕ)) (old new : M) (how : Ended) : Type 0 where
  pub taken : List ℕ
  pub consumed : Consumes left left' taken
  pub bound : length taken ≤ 2 ^ 63
  pub text : List ℕ
  pub session : Session step most taken (IsSpent left' (length taken)) old new how text
  pub writes : WritesUpTo how written written' text

-- Out of memory the reply for that stands last, and says that the connection is closed: whole, or a prefix of it at a fault of writing.
-- No other end writes any more.
abbrev pub ClosesBy : Ended → Ended → Option (List ℕ) → Option (List ℕ) → Type 0
ClosesBy end.Memory end.Memory written written' = Appends written written' (memory_reply false)
ClosesBy end.Memory end.WriteFault written written' = AppendsFront written written' (memory_reply false)
ClosesBy end.Memory _ written written' = ⊥
ClosesBy first how written written' = (how ≡ first) × (written' ≡ written)

-- a connection: a session over one link, and its last word
pub record Served {M : Type 0} (step : M → Request → Bool → List ℕ → M
    → Type 0) (most : ℕ) (left left' written written' : Option (List ℕ)) (old new : M) (how : Ended) : Type 0 where
  pub before : Option (List ℕ)
  pub first : Ended
  pub ran : Ran step most left left' written before old new first
  pub closes : ClosesBy first how before written'

-- the bytes that count of a source: it counts as ended after 2^63
abbrev pub counting : List ℕ → List ℕ
counting bytes = take (2 ^ 63) bytes

-- the same over all the bytes of the input
abbrev pub RanOver : {M : Type 0} → (M → Request → Bool → List ℕ → M → Type 0) → ℕ → List ℕ → Option (List ℕ) → Option (List ℕ) → M → M → Ended → Type 0
RanOver step most bytes written written' old new how =
    (text : List ℕ) × Session step most (counting bytes) ⊤ old new how text × WritesUpTo how written written' text

-- ends that the bytes decide, and not a fault or a lack of memory
abbrev pub is_decided : Ended → Bool
is_decided end.Closed = true
is_decided end.Truncated = true
is_decided (end.Refused code) = true
is_decided end.Limit = true
is_decided end.ReadFault = false
is_decided end.WriteFault = false
is_decided end.Memory = false
