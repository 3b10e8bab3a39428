-- Bodies of chunks, as their bytes come.
use Rattle.std.proofs.Common.{◌≡◌, ◌∙◌, ◌≤◌, ◌<◌, ◌+◌, ◌-◌, suc, ℕ, true, false, List, [], ◌∷◌, ◌++◌, length, take, drop, refl, sym, ap, arith, append_assoc}
use Rattle.std.proofs.Common.{append-nil, nat_eq, nat_lt, nat_le}
use Rattle.std.proofs.Common.{length-take}
use Rattle.std.proofs.lemmas.List.{take-append-drop}
use Rattle.std.proofs.lemmas.Bool.Decides.{nat_tests}
use Rattle.http_wire.specs.Chunks.{Outcome, open_at, refused, whole, and_on, advanced, run, frame_limit}
use Rattle.http_wire.specs.declared.chunks.Chunks.{Chunks}
use Rattle.http_wire.specs.declared.chunks.Place.TheVariants.{Content}

abbrev pub in_content : ℕ → List ℕ → ℕ → Chunks
in_content left content seen = record { place = Content left; content = content; seen = seen }

-- one byte of the content
one_content : (left : ℕ) (content : List ℕ) (seen byte : ℕ) → 0 < left → seen < frame_limit
    → advanced (in_content left content seen) byte ≡ open_at (in_content (left - 1) (content ++ byte ∷ []) (seen + 1))
one_content left content seen byte some room =
    let a : nat_le frame_limit seen ≡ false = grind (arith, nat_tests) in
    let b : nat_eq left 0 ≡ false = grind (arith, nat_tests) in
    let c : nat_lt 0 left ≡ true = grind (arith, nat_tests) in
    rw (a, b, c) refl

-- bytes of the content
pub content_run : (bytes rest : List ℕ) (left : ℕ) (content : List ℕ) (seen : ℕ) → length bytes ≤ left → seen + length bytes ≤ frame_limit
    → run (in_content left content seen) (bytes ++ rest) ≡ run (in_content (left - length bytes) (content ++ bytes) (seen + length bytes)) rest
content_run [] rest left content seen short room =
    let a : left - 0 ≡ left = omega arith in
    let b : seen + 0 ≡ seen = omega arith in
    rw (a, b, append-nil content) refl
content_run (byte ∷ bytes) rest left content seen short room =
    let a : left - 1 - length bytes ≡ left - suc (length bytes) = omega arith in
    let b : seen + 1 + length bytes ≡ seen + suc (length bytes) = omega arith in
    ap (λ o. and_on o (λ next. run next (bytes ++ rest))) (one_content left content seen byte (omega arith) (omega arith))
    ∙ content_run bytes rest (left - 1) (content ++ byte ∷ []) (seen + 1) (omega arith) (omega arith)
    ∙ ap (λ n. run (in_content n ((content ++ byte ∷ []) ++ bytes) (seen + 1 + length bytes)) rest) a
    ∙ ap (λ xs. run (in_content (left - suc (length bytes)) xs (seen + 1 + length bytes)) rest) (append_assoc content (byte ∷ []) bytes)
    ∙ ap (λ n. run (in_content (left - suc (length bytes)) (content ++ byte ∷ bytes) n) rest) b

-- the content at the front of bytes
pub content_taken : (chunks : Chunks) (bytes content : List ℕ) (n left : ℕ) → chunks.place ≡ Content left → n ≤ length bytes → n ≤ left
    → chunks.seen + n ≤ frame_limit
    → content ≡ chunks.content ++ take n bytes → run chunks bytes ≡ run (in_content (left - n) content (chunks.seen + n)) (drop n bytes)
content_taken chunks bytes content n left at within short room same =
    let count : length (take n bytes) ≡ n = omega (arith, length-take n bytes) in
    ap (λ p. run (record { place = p; content = chunks.content; seen = chunks.seen }) bytes) at
    ∙ ap (λ xs. run (in_content left chunks.content chunks.seen) xs) (sym (take-append-drop n bytes))
    ∙ content_run (take n bytes) (drop n bytes) left chunks.content chunks.seen (omega arith) (omega arith)
    ∙ ap (λ k. run (in_content (left - k) (chunks.content ++ take n bytes) (chunks.seen + k)) (drop n bytes)) count
    ∙ ap (λ xs. run (in_content (left - n) xs (chunks.seen + n)) (drop n bytes)) (sym same)

-- the bodies go on as one
pub run_append : (chunks : Chunks) (a b : List ℕ) → run chunks (a ++ b) ≡ and_on (run chunks a) (λ next. run next b)
run_append chunks [] b = refl
run_append chunks (byte ∷ a) b = later a b (λ next. run_append next a b) (advanced chunks byte)
  where
    later : (a b : List ℕ) → ((next : Chunks) → run next (a ++ b) ≡ and_on (run next a) (λ end. run end b)) → (outcome : Outcome)
        → and_on outcome (λ next. run next (a ++ b)) ≡ and_on (and_on outcome (λ next. run next a)) (λ next. run next b)
    later a b all (open_at next) = all next
    later a b all (refused code) = refl
    later a b all (whole content count) = refl
