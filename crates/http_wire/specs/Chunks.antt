-- A body in chunks (RFC 9112, section 7.1), byte by byte: a line with a size, so many bytes, a carriage return and a
-- line feed, and so on up to a size of 0; then the lines of a trailer, of which the last is empty.
use Rattle.std.specs.Prelude.{ℕ, ◌+◌, ◌-◌, Bool, false, List, [], ◌∷◌, ◌++◌, cond, length, nat_eq, nat_lt, nat_le, ⊤}
use Rattle.dh_base.specs.declared.codes.Code.{Code}
use Rattle.dh_base.specs.declared.codes.Code.TheVariants.{F3, F4}
use Rattle.http_wire.specs.Size.{size_step, IsSized}
use Rattle.http_wire.specs.declared.size.SizeStep.{SizeStep}
use Rattle.http_wire.specs.declared.size.SizeStep.TheVariants as line
use Rattle.http_wire.specs.declared.size.SizePlace.TheVariants.{Digits}
use Rattle.http_wire.specs.declared.chunks.Place.{Place}
use Rattle.http_wire.specs.declared.chunks.Place.TheVariants.{Size, Content, Feed, Start, Trailer, TrailerEnd, LastEnd}
use Rattle.http_wire.specs.declared.chunks.Step.{Step}
use Rattle.http_wire.specs.declared.chunks.Step.TheVariants.{Goes, Ends, Fails}
use Rattle.http_wire.specs.declared.chunks.Chunks.{Chunks}

-- how many bytes the content may have, and how many all of the body with its framing
abbrev pub content_limit : ℕ
content_limit = 16777216

abbrev pub frame_limit : ℕ
frame_limit = 33554432

-- after the line of a chunk, where so many bytes of content stand before it
abbrev pub sized : ℕ → ℕ → Step
sized size held = cond (nat_eq size 0) (Goes Start) (cond (nat_lt content_limit (held + size)) (Fails F3) (Goes (Content size)))

abbrev pub behind_size : SizeStep → ℕ → Step
behind_size (line.Goes place) held = Goes (Size place)
behind_size (line.Gives size) held = sized size held
behind_size line.Fails held = Fails F4

-- the one byte that may stand at a place
abbrev pub expect : ℕ → Step → ℕ → Step
expect wanted next byte = cond (nat_eq byte wanted) next (Fails F4)

-- one more byte at a place, where so many bytes of content stand before it
abbrev pub step : Place → ℕ → ℕ → Step
step (Size place) held byte = behind_size (size_step place byte) held
step (Content left) held byte = cond (nat_eq left 0) (expect 13 (Goes Feed) byte) (Goes (Content (left - 1)))
step Feed held byte = expect 10 (Goes (Size (Digits 0 0))) byte
step Start held byte = cond (nat_eq byte 13) (Goes LastEnd) (cond (nat_eq byte 10) (Fails F4) (Goes Trailer))
step Trailer held byte = cond (nat_eq byte 13) (Goes TrailerEnd) (cond (nat_eq byte 10) (Fails F4) (Goes Trailer))
step TrailerEnd held byte = expect 10 (Goes Start) byte
step LastEnd held byte = expect 10 Ends byte

-- the byte at a place belongs to the content
abbrev pub is_content : Place → Bool
is_content (Size place) = false
is_content (Content left) = nat_lt 0 left
is_content Feed = false
is_content Start = false
is_content Trailer = false
is_content TrailerEnd = false
is_content LastEnd = false

-- what bytes come to: a body that is still open, one that is refused, or a whole one, its content and how many bytes it has
pub data Outcome : Type 0 where
  open_at : Chunks → Outcome
  refused : Code → Outcome
  whole : List ℕ → ℕ → Outcome

abbrev pub stepped : Step → Chunks → ℕ → Outcome
stepped (Goes place) chunks byte = open_at (record {
  place = place;
  content = cond (is_content chunks.place) (chunks.content ++ byte ∷ []) chunks.content;
  seen = chunks.seen + 1;
})
stepped Ends chunks byte = whole chunks.content (chunks.seen + 1)
stepped (Fails code) chunks byte = refused code

-- one more byte, if the body may have one more
abbrev pub advanced : Chunks → ℕ → Outcome
advanced chunks byte = cond (nat_le frame_limit chunks.seen) (refused F3) (stepped (step chunks.place (length chunks.content) byte) chunks byte)

abbrev pub and_on : Outcome → (Chunks → Outcome) → Outcome
and_on (open_at chunks) next = next chunks
and_on (refused code) next = refused code
and_on (whole content count) next = whole content count

-- more bytes
abbrev pub run : Chunks → List ℕ → Outcome
run chunks [] = open_at chunks
run chunks (byte ∷ bytes) = and_on (advanced chunks byte) (λ next. run next bytes)

-- before the first byte of a body
abbrev pub at_first : Chunks
at_first = record { place = Size (Digits 0 0); content = []; seen = 0 }

-- the body that stands at the front of bytes
abbrev pub chunked : List ℕ → Outcome
chunked bytes = run at_first bytes

-- the size that is being read is one of so many digits
abbrev pub IsSound : Place → Type 0
IsSound (Size place) = IsSized place
IsSound (Content left) = ⊤
IsSound Feed = ⊤
IsSound Start = ⊤
IsSound Trailer = ⊤
IsSound TrailerEnd = ⊤
IsSound LastEnd = ⊤

abbrev pub GoesSound : Step → Type 0
GoesSound (Goes place) = IsSound place
GoesSound Ends = ⊤
GoesSound (Fails code) = ⊤
