-- Bodies, as their bytes come.
use Rattle.std.proofs.Common.{◌≡◌, ◌∙◌, ℕ, ◌+◌, ◌-◌, ◌<◌, ◌≤◌, true, false, cond, List, [], ◌∷◌, ◌++◌, length, drop, take, Option, Ok, Err, refl, sym, ap}
use Rattle.std.proofs.Common.{subst, arith, nat_le, length-append, Bool, Result, ◌⊎◌, inl, inr}
use Rattle.std.specs.Prelude.{⊤, IfOk, IfErr, OnOk, OnErr}
use Rattle.std.proofs.lemmas.List.{drop-append-le, length-drop}
use Rattle.std.proofs.Math.Seq.{drop-append_seam}
use Rattle.std.proofs.lemmas.Bool.Decides.{nat_tests}
use Rattle.dh_outside.specs.Pieces.{IsSpent}
use Rattle.dh_outside.specs.Talk.{Talk, Paced}
use Rattle.dh_outside.proofs.TalkLemmas.{paced_rebase}
use Rattle.http_wire.specs.Chunks.{Outcome, open_at, and_on, advanced, stepped, step, frame_limit, run, at_first, chunked}
use Rattle.http_wire.specs.Chunks as body
use Rattle.http_wire.specs.declared.chunks.Chunks.{Chunks}
use Rattle.http_wire.specs.declared.chunks.Step.{Step}
use Rattle.http_wire.specs.declared.chunks.Step.TheVariants as stepping
use Rattle.http_wire.specs.Fed.{ComesTo}
use Rattle.http_wire.proofs.ChunkLemmas.{run_append}
use Rattle.http_wire.specs.declared.plan.Plan.TheVariants.{Sized, Chunked}
use Rattle.dh_base.specs.declared.codes.Code.TheVariants.{F3}
use Rattle.http_wire.specs.Next.{waiting, complete, by_chunks, body_of}
use Rattle.http_wire.specs.Reads.{Gathers, GivesBody, ReadsBody, GivesChunks, IsShort, IsWaiting, is_stop}
use Rattle.http_wire.specs.declared.fault.WireFault.{WireFault}
use Rattle.http_wire.specs.declared.fault.WireFault.TheVariants as fault

-- ---- chunks

-- more bytes after those that were fed
pub chunks_on : (bytes bytes' taken : List ℕ) (end at : ℕ) (chunks : Chunks) → end ≤ length bytes → bytes' ≡ bytes ++ taken → at ≡ length bytes
    → run at_first (drop end bytes) ≡ open_at chunks → run at_first (drop end bytes') ≡ run chunks (drop at bytes')
chunks_on bytes bytes' taken end at chunks within grown place still =
    ap (λ xs. run at_first (drop end xs)) grown
    ∙ ap (run at_first) (drop-append-le end bytes taken within)
    ∙ run_append at_first (drop end bytes) taken
    ∙ ap (λ o. and_on o (λ next. run next taken)) still
    ∙ sym (ap (λ xs. run chunks (drop at xs)) grown ∙ ap (λ n. run chunks (drop n (bytes ++ taken))) place ∙ ap (run chunks) (drop-append_seam bytes taken))

-- the number of bytes after one more byte
Steps : ℕ → Outcome → Type 0
Steps seen (open_at next) = next.seen ≡ seen + 1
Steps seen (body.refused code) = ⊤
Steps seen (body.whole content count) = count ≡ seen + 1

stepped_steps : (s : Step) (chunks : Chunks) (byte : ℕ) → Steps chunks.seen (stepped s chunks byte)
unfolding Steps
stepped_steps (stepping.Goes place) chunks byte = refl
stepped_steps stepping.Ends chunks byte = refl
stepped_steps (stepping.Fails code) chunks byte = tt

advanced_steps : (chunks : Chunks) (byte : ℕ) → Steps chunks.seen (advanced chunks byte)
unfolding Steps
advanced_steps chunks byte =
    elim (nat_le frame_limit chunks.seen) as (λ t.
    Steps chunks.seen (cond t (body.refused F3) (stepped (step chunks.place (length chunks.content) byte) chunks byte)))
    [ true ↦ tt | false ↦ stepped_steps (step chunks.place (length chunks.content) byte) chunks byte ]

within_by : (o : Outcome) (seen more : ℕ) (bytes content : List ℕ) (count : ℕ) → Steps seen o
    → ((next : Chunks) → run next bytes ≡ body.whole content count → count ≤ next.seen + more)
    → and_on o (λ next. run next bytes) ≡ body.whole content count → count ≤ seen + (more + 1)
unfolding Steps
within_by (open_at next) seen more bytes content count steps later is = let bound = later next is in omega (arith, steps)
within_by (body.refused code) seen more bytes content count steps later is = absurd (cc)
within_by (body.whole other n) seen more bytes content count steps later is = let same : n ≡ count = cc in omega (arith, steps)

-- a whole body lies within the bytes
pub run_within : (bytes : List ℕ) (chunks : Chunks) (content : List ℕ) (count : ℕ) → run chunks bytes ≡ body.whole content count
    → count ≤ chunks.seen + length bytes
run_within [] chunks content count is = absurd (cc)
run_within (byte ∷ bytes) chunks content count is =
    let bound =
    within_by (advanced chunks byte) chunks.seen (length bytes) bytes content count (advanced_steps chunks byte) (λ next e.
    run_within bytes next content count e) is in
    omega (arith, bound)

pub chunked_within : (bytes : List ℕ) (end : ℕ) (content : List ℕ) (count : ℕ) → end ≤ length bytes → chunked (drop end bytes) ≡ body.whole content count
    → end + count ≤ length bytes
chunked_within bytes end content count within is =
    let bound = run_within (drop end bytes) at_first content count is in
    omega (arith, bound, length-drop end bytes)

-- ---- what is answered of a body

sized_whole : (all : List ℕ) (end count : ℕ) → end ≤ length all → count ≤ length all - end
    → body_of (Sized count) (drop end all) ≡ complete (take count (drop end all)) count
sized_whole all end count within enough =
    let len = length-drop end all in
    let fits : count ≤ length (drop end all) = omega arith in
    let test : nat_le count (length (drop end all)) ≡ true = grind (arith, nat_tests) in
    ap (λ t. cond t (complete (take count (drop end all)) count) waiting) test

sized_short : (all : List ℕ) (end count : ℕ) → length all - end < count → body_of (Sized count) (drop end all) ≡ waiting
sized_short all end count short =
    let len = length-drop end all in
    let more : length (drop end all) < count = omega arith in
    let test : nat_le count (length (drop end all)) ≡ false = grind (arith, nat_tests) in
    ap (λ t. cond t (complete (take count (drop end all)) count) waiting) test

-- a body of so many bytes isn't whole while fewer stand after its head
paced_sized : {talk talk' : Option Talk} (held taken : List ℕ) (end count : ℕ) → Paced talk talk' (IsShort end count) held taken
    → Paced talk talk' (IsWaiting end (Sized count)) held taken
paced_sized {talk} {talk'} held taken end count paced =
    paced_rebase talk talk' (IsShort end count) (IsWaiting end (Sized count)) held held taken (λ more is. (is.0, sized_short (held ++ more) end count is.1))
    paced

pub reads_sized : {left left' : Option (List ℕ)} {talk talk' : Option Talk} {held held1 held' : List ℕ} {read read' : ℕ} (end count : ℕ) (content : List ℕ)
    → Gathers (IsShort end count) left left' talk talk' held held1 read read' → end ≤ length held1 → count ≤ length held1 - end
    → content ≡ take count (drop end held1)
    → held' ≡ drop (end + count) held1 → ReadsBody left left' talk talk' held held' read read' end (Sized count) (Ok content)
reads_sized {left} {left'} {talk} {talk'} {held} {held1} {held'} {read} {read'} end count content gains within enough same rest = record {
  taken = gains.taken;
  consumed = gains.consumed;
  counted = gains.counted;
  gives = subst (λ all. GivesBody all held' end (Sized count) (IsSpent left' read') (Ok content)) gains.beyond
      (count, sized_whole held1 end count within enough ∙ ap (λ xs. complete xs count) (sym same), rest);
  paced = paced_sized held gains.taken end count gains.paced;
}

pub reads_sized_stop : {left left' : Option (List ℕ)} {talk talk' : Option Talk} {held held1 : List ℕ} {read read' : ℕ} (end count : ℕ) (e : WireFault)
    → Gathers (IsShort end count) left left' talk talk' held held1 read read' → length held1 - end < count → is_stop e ≡ true
    → (e ≡ fault.Truncated → IsSpent left' read')
    → ReadsBody left left' talk talk' held held1 read read' end (Sized count) (Err e)
reads_sized_stop {left} {left'} {talk} {talk'} {held} {held1} {read} {read'} end count e gains short stop spent = record {
  taken = gains.taken;
  consumed = gains.consumed;
  counted = gains.counted;
  gives =
      subst (λ all. GivesBody all held1 end (Sized count) (IsSpent left' read') (Err e)) gains.beyond
      (at_stop e (sized_short held1 end count short) stop spent);
  paced = paced_sized held gains.taken end count gains.paced;
}
  where
    at_stop : (e : WireFault) → body_of (Sized count) (drop end held1) ≡ waiting → is_stop e ≡ true → (e ≡ fault.Truncated → IsSpent left' read')
        → GivesBody held1 held1 end (Sized count) (IsSpent left' read') (Err e)
    at_stop (fault.Refused code) still stop spent = absurd (cc)
    at_stop fault.Truncated still stop spent = (still, spent refl)
    at_stop fault.ReadFault still stop spent = (still, refl)
    at_stop fault.Memory still stop spent = refl

pub reads_no_memory : {left left' : Option (List ℕ)} {talk talk' : Option Talk} {held held1 held' : List ℕ} {read read' : ℕ} (end count : ℕ)
    → Gathers (IsShort end count) left left' talk talk' held held1 read read' → held' ≡ held1
    → ReadsBody left left' talk talk' held held' read read' end (Sized count) (Err fault.Memory)
reads_no_memory {held = held} end count gains same = record {
  taken = gains.taken;
  consumed = gains.consumed;
  counted = gains.counted;
  gives = same ∙ gains.beyond;
  paced = paced_sized held gains.taken end count gains.paced;
}

-- the body was taken from the bytes held, unless memory ran out
pub reads_taken : {left left' : Option (List ℕ)} {talk talk' : Option Talk} {held held1 held' : List ℕ} {read read' : ℕ} (end count : ℕ)
    (result : Result (List ℕ) WireFault)
    → Gathers (IsShort end count) left left' talk talk' held held1 read read' → end ≤ length held1 → count ≤ length held1 - end
    → IfOk result (λ content. content ≡ take count (drop end held1)) → OnOk result (held' ≡ drop (end + count) held1) → OnErr result (held' ≡ held1)
    → IfErr result (λ e. e ≡ fault.Memory) → ReadsBody left left' talk talk' held held' read read' end (Sized count) result
reads_taken end count (Ok content) gains within enough same rest kept memory = reads_sized end count content gains within enough same rest
reads_taken {left} {left'} {talk} {talk'} {held} {held1} {held'} {read} {read'} end count (Err e) gains within enough same rest kept memory =
    subst (λ x. ReadsBody left left' talk talk' held held' read read' end (Sized count) (Err x)) (sym memory) (reads_no_memory end count gains kept)

pub reads_chunked : {left left' : Option (List ℕ)} {talk talk' : Option Talk} {held held1 held' : List ℕ} {read read' : ℕ} (end used : ℕ) (content : List ℕ)
    → Gathers (IsWaiting end Chunked) left left' talk talk' held held1 read read' → chunked (drop end held1) ≡ body.whole content used
    → held' ≡ drop (end + used) held1
    → ReadsBody left left' talk talk' held held' read read' end Chunked (Ok content)
reads_chunked {left} {left'} {talk} {talk'} {held} {held1} {held'} {read} {read'} end used content gains whole rest = record {
  taken = gains.taken;
  consumed = gains.consumed;
  counted = gains.counted;
  gives = subst (λ all. GivesBody all held' end Chunked (IsSpent left' read') (Ok content)) gains.beyond (used, ap by_chunks whole, rest);
  paced = gains.paced;
}

pub reads_chunked_stop : {left left' : Option (List ℕ)} {talk talk' : Option Talk} {held held1 : List ℕ} {read read' : ℕ} (end : ℕ)
    (e : WireFault) (chunks : Chunks)
    → Gathers (IsWaiting end Chunked) left left' talk talk' held held1 read read'
    → GivesChunks (drop end held1) (IsSpent left' read') chunks (Err e)
    → ReadsBody left left' talk talk' held held1 read read' end Chunked (Err e)
reads_chunked_stop {left} {left'} {talk} {talk'} {held} {held1} {read} {read'} end e chunks gains gives = record {
  taken = gains.taken;
  consumed = gains.consumed;
  counted = gains.counted;
  gives = subst (λ all. GivesBody all held1 end Chunked (IsSpent left' read') (Err e)) gains.beyond (at_stop e gives);
  paced = gains.paced;
}
  where
    at_stop : (e : WireFault) → GivesChunks (drop end held1) (IsSpent left' read') chunks (Err e)
        → GivesBody held1 held1 end Chunked (IsSpent left' read') (Err e)
    at_stop (fault.Refused code) refused = ap by_chunks refused
    at_stop fault.Truncated still = still
    at_stop fault.ReadFault still = (still, refl)
    at_stop fault.Memory _ = refl

-- ---- the loop over the pieces of a body in chunks

-- the body goes on
pub fed_open : (outcome : Outcome) (chunks : Chunks) (is_whole : Bool) → is_whole ≡ false → ComesTo outcome chunks (Ok is_whole) → outcome ≡ open_at chunks
fed_open outcome chunks is_whole still is = subst (λ w. ComesTo outcome chunks (Ok w)) still is

-- the body is whole
pub fed_whole : (outcome : Outcome) (chunks : Chunks) (is_whole : Bool) → is_whole ≡ true → ComesTo outcome chunks (Ok is_whole)
    → outcome ≡ body.whole chunks.content chunks.seen
fed_whole outcome chunks is_whole whole is = subst (λ w. ComesTo outcome chunks (Ok w)) whole is

-- the body is refused, or memory ran out
pub gives_refused : (bytes : List ℕ) (Spent : Type 0) (chunks : Chunks) (outcome : Outcome) (e : WireFault) → chunked bytes ≡ outcome
    → ComesTo outcome chunks (Err e) → GivesChunks bytes Spent chunks (Err e)
gives_refused bytes Spent chunks outcome (fault.Refused code) runs is = runs ∙ is
gives_refused bytes Spent chunks outcome fault.Truncated runs is = absurd is
gives_refused bytes Spent chunks outcome fault.ReadFault runs is = absurd is
gives_refused bytes Spent chunks outcome fault.Memory runs is = tt

pub refused_unread : (chunks : Chunks) (outcome : Outcome) (e : WireFault) → e ≡ fault.ReadFault → ComesTo outcome chunks (Err e) → ⊥
refused_unread chunks outcome e same is = subst (λ x. ComesTo outcome chunks (Err x)) same is

-- no more bytes came
pub gives_open : (bytes : List ℕ) (Spent : Type 0) (chunks next : Chunks) (e : WireFault) → (e ≡ fault.ReadFault) ⊎ (e ≡ fault.Memory)
    → chunked bytes ≡ open_at next
    → GivesChunks bytes Spent chunks (Err e)
gives_open bytes Spent chunks next e (inl failed) still = subst (λ x. GivesChunks bytes Spent chunks (Err x)) (sym failed) (ap by_chunks still)
gives_open bytes Spent chunks next e (inr memory) still = subst (λ x. GivesChunks bytes Spent chunks (Err x)) (sym memory) tt

pub within_on : (n : ℕ) (bytes bytes' taken : List ℕ) → n ≤ length bytes → bytes' ≡ bytes ++ taken → n ≤ length bytes'
within_on n bytes bytes' taken within grown =
    let sum = length-append bytes taken in
    let same = ap length grown in
    omega arith
