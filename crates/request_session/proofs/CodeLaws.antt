-- What isn't a request is refused by one of the wire's own codes: where there is a code, it is one of them.
use Rattle.std.proofs.Common.{◌≡◌, ℕ, ◌+◌, Bool, true, false, cond, List, [], ◌∷◌, Option, None, Some, Result, Ok, Err, length, take, drop, refl, sym, subst}
use Rattle.std.proofs.Common.{nat_eq, nat_lt, nat_le}
use Rattle.std.specs.Prelude.{⊤}
use Rattle.dh_base.specs.declared.codes.Code.{Code}
use Rattle.dh_base.specs.declared.codes.Code.TheVariants.{F3, F4, F5}
use Rattle.http_wire.specs.Fields.{Field}
use Rattle.http_wire.specs.Lines.{blank_length, opening_of, field_lines}
use Rattle.http_wire.specs.Head.{Parts, planned, said_by, meant_by, IsMeantBy}
use Rattle.http_wire.specs.Plan.{announced, is_badly_framed, is_not_plain, is_too_long, plan_of}
use Rattle.http_wire.specs.declared.head.Head.{Head}
use Rattle.http_wire.specs.declared.lines.Opening.{Opening}
use Rattle.http_wire.specs.declared.lines.Opening.TheVariants.{Nothing, Unfinished, TooLong, Whole}
use Rattle.http_wire.specs.declared.plan.Plan.{Plan}
use Rattle.http_wire.specs.declared.plan.Plan.TheVariants.{Sized, Chunked}
use Rattle.http_wire.specs.Size.{size_step}
use Rattle.http_wire.specs.Chunks.{content_limit, frame_limit, sized, behind_size, expect, step, Outcome, open_at, stepped, advanced, and_on, run, at_first}
use Rattle.http_wire.specs.Chunks.{chunked}
use Rattle.http_wire.specs.Chunks as body
use Rattle.http_wire.specs.declared.size.SizeStep.{SizeStep}
use Rattle.http_wire.specs.declared.size.SizeStep.TheVariants as line
use Rattle.http_wire.specs.declared.size.SizePlace.TheVariants.{Digits}
use Rattle.http_wire.specs.declared.chunks.Place.{Place}
use Rattle.http_wire.specs.declared.chunks.Place.TheVariants.{Size, Content, Feed, Start, Trailer, TrailerEnd, LastEnd}
use Rattle.http_wire.specs.declared.chunks.Step.{Step}
use Rattle.http_wire.specs.declared.chunks.Step.TheVariants.{Goes, Ends, Fails}
use Rattle.http_wire.specs.declared.chunks.Chunks.{Chunks}
use Rattle.http_wire.specs.Next.{Found, ended, cut, refused, whole, beyond, Body, waiting, wrong, complete, by_chunks, body_of, with_body, behind_head}
use Rattle.http_wire.specs.Next.{IsFoundBy, IsNext, skipped}
use Rattle.request_session.specs.Codes.{is_wire_code}

either : {A : Type 0} (P : A → Type 0) (test : Bool) (yes_case no_case : A) → P yes_case → P no_case → P (cond test yes_case no_case)
either P true yes_case no_case one two = one
either P false yes_case no_case one two = two

-- ---- a body in chunks

abbrev InStep : Step → Type 0
InStep (Goes place) = ⊤
InStep Ends = ⊤
InStep (Fails code) = is_wire_code code ≡ true

abbrev InOutcome : Outcome → Type 0
InOutcome (open_at chunks) = ⊤
InOutcome (body.refused code) = is_wire_code code ≡ true
InOutcome (body.whole content count) = ⊤

in_sized : (size held : ℕ) → InStep (sized size held)
in_sized size held =
    either InStep (nat_eq size 0) (Goes Start) (cond (nat_lt content_limit (held + size)) (Fails F3) (Goes (Content size))) tt
    (either InStep (nat_lt content_limit (held + size)) (Fails F3) (Goes (Content size)) refl tt)

in_behind : (s : SizeStep) (held : ℕ) → InStep (behind_size s held)
in_behind (line.Goes place) held = tt
in_behind (line.Gives size) held = in_sized size held
in_behind line.Fails held = refl

in_expect : (wanted : ℕ) (next : Step) (byte : ℕ) → InStep next → InStep (expect wanted next byte)
in_expect wanted next byte good = either InStep (nat_eq byte wanted) next (Fails F4) good refl

in_line : (byte : ℕ) (next : Step) → InStep next → InStep (cond (nat_eq byte 13) next (cond (nat_eq byte 10) (Fails F4) (Goes Trailer)))
in_line byte next good =
    either InStep (nat_eq byte 13) next (cond (nat_eq byte 10) (Fails F4) (Goes Trailer)) good
    (either InStep (nat_eq byte 10) (Fails F4) (Goes Trailer) refl tt)

in_step : (place : Place) (held byte : ℕ) → InStep (step place held byte)
in_step (Size place) held byte = in_behind (size_step place byte) held
in_step (Content left) held byte = either InStep (nat_eq left 0) (expect 13 (Goes Feed) byte) _ (in_expect 13 (Goes Feed) byte tt) tt
in_step Feed held byte = in_expect 10 (Goes (Size (Digits 0 0))) byte tt
in_step Start held byte = in_line byte (Goes LastEnd) tt
in_step Trailer held byte = in_line byte (Goes TrailerEnd) tt
in_step TrailerEnd held byte = in_expect 10 (Goes Start) byte tt
in_step LastEnd held byte = in_expect 10 Ends byte tt

in_stepped : (s : Step) (chunks : Chunks) (byte : ℕ) → InStep s → InOutcome (stepped s chunks byte)
in_stepped (Goes place) chunks byte good = tt
in_stepped Ends chunks byte good = tt
in_stepped (Fails code) chunks byte good = good

in_advanced : (chunks : Chunks) (byte : ℕ) → InOutcome (advanced chunks byte)
in_advanced chunks byte =
    either InOutcome (nat_le frame_limit chunks.seen) (body.refused F3) (stepped (step chunks.place (length chunks.content) byte) chunks byte) refl
    (in_stepped (step chunks.place (length chunks.content) byte) chunks byte (in_step chunks.place (length chunks.content) byte))

in_both : (outcome : Outcome) (next : Chunks → Outcome) → InOutcome outcome → ((chunks : Chunks) → InOutcome (next chunks)) → InOutcome (and_on outcome next)
in_both (open_at chunks) next good all = all chunks
in_both (body.refused code) next good all = good
in_both (body.whole content count) next good all = tt

in_run : (chunks : Chunks) (bytes : List ℕ) → InOutcome (run chunks bytes)
in_run chunks [] = tt
in_run chunks (byte ∷ bytes) = in_both (advanced chunks byte) (λ next. run next bytes) (in_advanced chunks byte) (λ next. in_run next bytes)

-- ---- a body

abbrev InBody : Body → Type 0
InBody waiting = ⊤
InBody (wrong code) = is_wire_code code ≡ true
InBody (complete content count) = ⊤

in_chunks : (outcome : Outcome) → InOutcome outcome → InBody (by_chunks outcome)
in_chunks (open_at chunks) good = tt
in_chunks (body.refused code) good = good
in_chunks (body.whole content count) good = tt

in_body : (plan : Plan) (bytes : List ℕ) → InBody (body_of plan bytes)
in_body (Sized count) bytes = either InBody (nat_le count (length bytes)) (complete (take count bytes) count) waiting tt tt
in_body Chunked bytes = in_chunks (chunked bytes) (in_run at_first bytes)

-- ---- a head

abbrev InSaid : {A : Type 0} → Result A Code → Type 0
InSaid (Ok value) = ⊤
InSaid (Err code) = is_wire_code code ≡ true

in_plan : (fields : List Field) → InSaid (plan_of fields)
unfolding plan_of
in_plan fields =
    either InSaid (is_badly_framed fields) (Err F4) _ refl
    (either InSaid (is_not_plain fields (announced fields)) (Err F5) _ refl
    (either InSaid (is_too_long (announced fields)) (Err F3) (Ok (announced fields)) refl tt))

in_planned : (parts : Parts) (plan : Result Plan Code) → InSaid plan → InSaid (planned parts plan)
in_planned parts (Ok plan) good = tt
in_planned parts (Err code) good = good

in_parts : (parts : Parts) → InSaid (said_by parts)
unfolding said_by
in_parts parts = in_planned parts (plan_of parts.fields) (in_plan parts.fields)

in_meant : (parts : Option Parts) → InSaid (meant_by parts)
in_meant None = refl
in_meant (Some parts) = in_parts parts

in_said : (long : Bool) (bytes : List ℕ) (said : Result Head Code) → IsMeantBy long bytes said → InSaid said
in_said true bytes said is = subst InSaid (sym is) refl
in_said false bytes said is = subst InSaid (sym is.2) (in_meant is.0)

-- ---- what is next

abbrev InFound : Found → Type 0
InFound ended = ⊤
InFound cut = ⊤
InFound (refused code) = is_wire_code code ≡ true
InFound (whole request used) = ⊤

in_with : (head : Head) (content : Body) → InBody content → InFound (with_body head content)
in_with head waiting good = tt
in_with head (wrong code) good = good
in_with head (complete content count) good = tt

in_head : (said : Result Head Code) (bytes : List ℕ) → InSaid said → InFound (behind_head said bytes)
in_head (Err code) bytes good = good
in_head (Ok head) bytes good = in_with head (body_of head.plan bytes) (in_body head.plan bytes)

in_shifted : (count : ℕ) (found : Found) → InFound found → InFound (beyond count found)
in_shifted count ended good = tt
in_shifted count cut good = tt
in_shifted count (refused code) good = good
in_shifted count (whole request used) good = tt

in_first : (opening : Opening) (bytes : List ℕ) (found : Found) → IsFoundBy opening bytes found → InFound found
in_first Nothing bytes found is = subst InFound (sym is) tt
in_first Unfinished bytes found is = subst InFound (sym is) tt
in_first TooLong bytes found is = subst InFound (sym is) refl
in_first (Whole count) bytes found is =
    subst InFound (sym is.2)
    (in_shifted count (behind_head is.0 (drop count bytes))
    (in_head is.0 (drop count bytes) (in_said (nat_lt 64 (field_lines (take count bytes))) (take count bytes) is.0 is.1)))

in_next : (bytes : List ℕ) (found : Found) → IsNext bytes found → InFound found
in_next bytes found next =
    subst InFound (sym next.2) (in_shifted (blank_length bytes) next.0 (in_first (opening_of (skipped bytes)) (skipped bytes) next.0 next.1))

pub wire_refusals : (bytes : List ℕ) (code : Code) → IsNext bytes (refused code) → is_wire_code code ≡ true
wire_refusals bytes code next = in_next bytes (refused code) next
