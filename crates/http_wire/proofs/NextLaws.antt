-- At most one thing is next in bytes; what was decided stays decided as more bytes come; a whole request lies within
-- the bytes.
use Rattle.std.proofs.Common.{◌≡◌, ◌∙◌, ℕ, ◌≤◌, Bool, true, false, cond, List, [], ◌++◌, length, drop, take, Result, Ok, Err, refl, sym, ap, subst, arith}
use Rattle.std.proofs.Common.{nat_le, length-append}
use Rattle.std.specs.Prelude.{⊤}
use Rattle.std.proofs.lemmas.List.{drop-append-le, take-append-le, length-drop}
use Rattle.std.proofs.lemmas.Bool.Decides.{nat_tests}
use Rattle.dh_base.specs.declared.codes.Code.{Code}
use Rattle.http_wire.specs.Chunks.{Outcome, open_at, and_on, run, at_first, chunked}
use Rattle.http_wire.specs.Chunks as body
use Rattle.http_wire.proofs.ChunkLemmas.{run_append}
use Rattle.http_wire.specs.Lines.{blank_length, opening_of}
use Rattle.http_wire.specs.Head.{Says}
use Rattle.http_wire.specs.declared.head.Head.{Head}
use Rattle.http_wire.specs.declared.lines.Opening.{Opening}
use Rattle.http_wire.specs.declared.lines.Opening.TheVariants.{Nothing, Unfinished, TooLong, Whole}
use Rattle.http_wire.specs.declared.plan.Plan.{Plan}
use Rattle.http_wire.specs.declared.plan.Plan.TheVariants.{Sized, Chunked}
use Rattle.http_wire.proofs.HeadLaws.{says_unique}
use Rattle.http_wire.specs.Next.{Found, ended, cut, refused, whole, beyond, waiting, complete, by_chunks, body_of, with_body, behind_head, IsFoundBy}
use Rattle.http_wire.specs.Next.{IsFirst, skipped, IsNext}
use Rattle.http_wire.proofs.OpeningLaws.{skip_still, blank_within, opening_head, opening_more, opening_long}
use Rattle.http_wire.proofs.BodyLemmas.{run_within}

-- ---- at most one

found_unique : (o : Opening) (bytes : List ℕ) (f g : Found) → IsFoundBy o bytes f → IsFoundBy o bytes g → f ≡ g
found_unique Nothing bytes f g one two = one ∙ sym two
found_unique Unfinished bytes f g one two = one ∙ sym two
found_unique TooLong bytes f g one two = one ∙ sym two
found_unique (Whole n) bytes f g one two =
    one.2 ∙ ap (λ said. beyond n (behind_head said (drop n bytes))) (says_unique (take n bytes) one.0 two.0 one.1 two.1) ∙ sym two.2

pub next_unique : (bytes : List ℕ) (f g : Found) → IsNext bytes f → IsNext bytes g → f ≡ g
next_unique bytes f g one two =
    one.2 ∙ ap (beyond (blank_length bytes)) (found_unique (opening_of (skipped bytes)) (skipped bytes) one.0 two.0 one.1 two.1) ∙ sym two.2

-- ---- what was decided

abbrev pub IsDecided : Found → Type 0
IsDecided ended = ⊥
IsDecided cut = ⊥
IsDecided (refused code) = ⊤
IsDecided (whole request used) = ⊤

decided_front : (n : ℕ) (f : Found) → IsDecided (beyond n f) → IsDecided f
decided_front n ended is = is
decided_front n cut is = is
decided_front n (refused code) is = tt
decided_front n (whole request used) is = tt

chunks_stay : (head : Head) (outcome : Outcome) (more : List ℕ) → IsDecided (with_body head (by_chunks outcome))
    → and_on outcome (λ next. run next more) ≡ outcome
chunks_stay head (open_at chunks) more is = absurd is
chunks_stay head (body.refused code) more is = refl
chunks_stay head (body.whole content count) more is = refl

sized_stay : (head : Head) (count : ℕ) (bytes more : List ℕ) (t : Bool) → nat_le count (length bytes) ≡ t
    → IsDecided (with_body head (cond t (complete (take count bytes) count) waiting))
    → body_of (Sized count) (bytes ++ more) ≡ cond t (complete (take count bytes) count) waiting
sized_stay head count bytes more true test is =
    let fits : count ≤ length bytes = grind (arith, nat_tests) in
    let sum = length-append bytes more in
    let longer : nat_le count (length (bytes ++ more)) ≡ true = (let still : count ≤ length (bytes ++ more) = omega arith in grind (arith, nat_tests)) in
    ap (λ u. cond u (complete (take count (bytes ++ more)) count) waiting) longer ∙ ap (λ xs. complete xs count) (take-append-le count bytes more fits)
sized_stay head count bytes more false test is = absurd is

body_stays : (head : Head) (plan : Plan) (bytes more : List ℕ) → IsDecided (with_body head (body_of plan bytes))
    → body_of plan (bytes ++ more) ≡ body_of plan bytes
body_stays head (Sized count) bytes more is = sized_stay head count bytes more (nat_le count (length bytes)) refl is
body_stays head Chunked bytes more is = ap by_chunks (run_append at_first bytes more ∙ chunks_stay head (chunked bytes) more is)

head_stays : (said : Result Head Code) (bytes more : List ℕ) → IsDecided (behind_head said bytes) → behind_head said (bytes ++ more) ≡ behind_head said bytes
head_stays (Err code) bytes more is = refl
head_stays (Ok head) bytes more is = ap (with_body head) (body_stays head head.plan bytes more is)

two_bytes : (o : Opening) (bytes : List ℕ) (f : Found) → opening_of bytes ≡ o → IsFoundBy o bytes f → IsDecided f → 2 ≤ length bytes
two_bytes Nothing bytes f at is decided = absurd (subst IsDecided is decided)
two_bytes Unfinished bytes f at is decided = absurd (subst IsDecided is decided)
two_bytes TooLong bytes f at is decided = (opening_long bytes [] at).0
two_bytes (Whole n) bytes f at is decided =
    let head = opening_head bytes n at in
    let low : 2 ≤ n = head.0 in
    let high : n ≤ length bytes = head.1 in
    omega arith

first_stays : (o : Opening) (bytes more : List ℕ) (f : Found) → opening_of bytes ≡ o → IsFoundBy o bytes f → IsDecided f → IsFirst (bytes ++ more) f
first_stays Nothing bytes more f at is decided = absurd (subst IsDecided is decided)
first_stays Unfinished bytes more f at is decided = absurd (subst IsDecided is decided)
first_stays TooLong bytes more f at is decided = subst (λ o. IsFoundBy o (bytes ++ more) f) (sym (opening_long bytes more at).1) is
first_stays (Whole n) bytes more f at is decided =
    let high : n ≤ length bytes = (opening_head bytes n at).1 in
    let here : IsDecided (behind_head is.0 (drop n bytes)) = decided_front n (behind_head is.0 (drop n bytes)) (subst IsDecided is.2 decided) in
    subst (λ o. IsFoundBy o (bytes ++ more) f) (sym (opening_more bytes more n at)) (
      is.0,
      subst (λ xs. Says xs is.0) (sym (take-append-le n bytes more high)) is.1,
      is.2 ∙ ap (beyond n) (sym (ap (behind_head is.0) (drop-append-le n bytes more high) ∙ head_stays is.0 (drop n bytes) more here)),
    )

pub next_stays : (bytes more : List ℕ) (f : Found) → IsNext bytes f → IsDecided f → IsNext (bytes ++ more) f
next_stays bytes more f is decided =
    let first : IsDecided is.0 = decided_front (blank_length bytes) is.0 (subst IsDecided is.2 decided) in
    let long = skip_still bytes more (two_bytes (opening_of (skipped bytes)) (skipped bytes) is.0 refl is.1 first) in (
      is.0,
      subst (λ xs. IsFirst xs is.0) (sym long.1) (first_stays (opening_of (skipped bytes)) (skipped bytes) more is.0 refl is.1 first),
      is.2 ∙ ap (λ n. beyond n is.0) (sym long.0),
    )

-- ---- within the bytes

abbrev pub IsWithin : List ℕ → Found → Type 0
IsWithin bytes ended = ⊤
IsWithin bytes cut = ⊤
IsWithin bytes (refused code) = ⊤
IsWithin bytes (whole request used) = used ≤ length bytes

behind_within : (bytes : List ℕ) (n : ℕ) (f : Found) → n ≤ length bytes → IsWithin (drop n bytes) f → IsWithin bytes (beyond n f)
behind_within bytes n ended short is = tt
behind_within bytes n cut short is = tt
behind_within bytes n (refused code) short is = tt
behind_within bytes n (whole request used) short is = omega (arith, length-drop n bytes)

chunks_within : (head : Head) (bytes : List ℕ) (outcome : Outcome) → chunked bytes ≡ outcome → IsWithin bytes (with_body head (by_chunks outcome))
chunks_within head bytes (open_at chunks) is = tt
chunks_within head bytes (body.refused code) is = tt
chunks_within head bytes (body.whole content count) is =
    let fits : count ≤ length bytes = (let bound = run_within bytes at_first content count is in omega (arith, bound)) in
    fits

body_within : (head : Head) (plan : Plan) (bytes : List ℕ) → IsWithin bytes (with_body head (body_of plan bytes))
body_within head (Sized count) bytes = fits (nat_le count (length bytes)) refl
  where
    fits : (t : Bool) → nat_le count (length bytes) ≡ t → IsWithin bytes (with_body head (cond t (complete (take count bytes) count) waiting))
    fits true e = grind (arith, nat_tests)
    fits false e = tt
body_within head Chunked bytes = chunks_within head bytes (chunked bytes) refl

head_within : (said : Result Head Code) (bytes : List ℕ) → IsWithin bytes (behind_head said bytes)
head_within (Err code) bytes = tt
head_within (Ok head) bytes = body_within head head.plan bytes

first_within : (o : Opening) (bytes : List ℕ) (f : Found) → opening_of bytes ≡ o → IsFoundBy o bytes f → IsWithin bytes f
first_within Nothing bytes f at is = subst (IsWithin bytes) (sym is) tt
first_within Unfinished bytes f at is = subst (IsWithin bytes) (sym is) tt
first_within TooLong bytes f at is = subst (IsWithin bytes) (sym is) tt
first_within (Whole n) bytes f at is =
    subst (IsWithin bytes) (sym is.2) (behind_within bytes n (behind_head is.0 (drop n bytes)) (opening_head bytes n at).1 (head_within is.0 (drop n bytes)))

pub next_within : (bytes : List ℕ) (f : Found) → IsNext bytes f → IsWithin bytes f
next_within bytes f is =
    subst (IsWithin bytes) (sym is.2)
    (behind_within bytes (blank_length bytes) is.0 (blank_within bytes) (first_within (opening_of (skipped bytes)) (skipped bytes) is.0 refl is.1))
