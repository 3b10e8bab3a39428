-- The request that stands at the front of bytes.
use Rattle.std.specs.Prelude.{◌≡◌, ◌⊎◌, ℕ, ◌+◌, List, Result, Ok, Err, cond, length, take, drop, nat_le}
use Rattle.dh_base.specs.declared.codes.Code.{Code}
use Rattle.dh_base.specs.declared.codes.Code.TheVariants.{F2}
use Rattle.http_wire.specs.Lines.{blank_length, opening_of}
use Rattle.http_wire.specs.Head.{Says}
use Rattle.http_wire.specs.declared.head.Head.{Head}
use Rattle.http_wire.specs.declared.lines.Opening.{Opening}
use Rattle.http_wire.specs.declared.lines.Opening.TheVariants.{Nothing, Unfinished, TooLong, Whole}
use Rattle.http_wire.specs.declared.plan.Plan.{Plan}
use Rattle.http_wire.specs.declared.plan.Plan.TheVariants.{Sized, Chunked}
use Rattle.http_wire.specs.Chunks.{Outcome, open_at, chunked}
use Rattle.http_wire.specs.Chunks as body
use Rattle.http_wire.specs.declared.request.Request.{Request}

-- a request of this head and body
abbrev pub request_of : Head → List ℕ → Request
request_of head body = record {
  method = head.method;
  path = head.path;
  query = head.query;
  token = head.token;
  asked = head.asked;
  body = body;
  keep = head.keep;
}

-- nothing more, a request that is cut off, one that is refused, or a whole one and how many bytes it takes, with the
-- empty lines before it
pub data Found : Type 0 where
  ended cut : Found
  refused : Code → Found
  whole : Request → ℕ → Found

-- the same after so many bytes
abbrev pub beyond : ℕ → Found → Found
beyond count ended = ended
beyond count cut = cut
beyond count (refused code) = refused code
beyond count (whole request used) = whole request (count + used)

-- a body that is not yet whole, one that is refused, or a whole one: its content and how many bytes it takes
pub data Body : Type 0 where
  waiting : Body
  wrong : Code → Body
  complete : List ℕ → ℕ → Body

abbrev pub by_chunks : Outcome → Body
by_chunks (open_at chunks) = waiting
by_chunks (body.refused code) = wrong code
by_chunks (body.whole content count) = complete content count

-- the body that is planned, at the front of bytes
abbrev pub body_of : Plan → List ℕ → Body
body_of (Sized count) bytes = cond (nat_le count (length bytes)) (complete (take count bytes) count) waiting
body_of Chunked bytes = by_chunks (chunked bytes)

abbrev pub with_body : Head → Body → Found
with_body head waiting = cut
with_body head (wrong code) = refused code
with_body head (complete content count) = whole (request_of head content) count

-- what is found after a head
abbrev pub behind_head : Result Head Code → List ℕ → Found
behind_head (Err code) bytes = refused code
behind_head (Ok head) bytes = with_body head (body_of head.plan bytes)

-- what is found in bytes that begin with no empty line
abbrev pub IsFoundBy : Opening → List ℕ → Found → Type 0
IsFoundBy Nothing bytes found = found ≡ ended
IsFoundBy Unfinished bytes found = found ≡ cut
IsFoundBy TooLong bytes found = found ≡ refused F2
IsFoundBy (Whole count) bytes found = (said : Result Head Code) × Says (take count bytes) said × (found ≡ beyond count (behind_head said (drop count bytes)))

abbrev pub IsFirst : List ℕ → Found → Type 0
IsFirst bytes found = IsFoundBy (opening_of bytes) bytes found

-- the bytes after the empty lines at their front
abbrev pub skipped : List ℕ → List ℕ
skipped bytes = drop (blank_length bytes) bytes

-- what is found in bytes
abbrev pub IsNext : List ℕ → Found → Type 0
IsNext bytes found = (first : Found) × IsFirst (skipped bytes) first × (found ≡ beyond (blank_length bytes) first)

-- no request and no refusal, but more bytes may bring one
abbrev pub IsOpen : List ℕ → Type 0
IsOpen bytes = IsNext bytes ended ⊎ IsNext bytes cut
