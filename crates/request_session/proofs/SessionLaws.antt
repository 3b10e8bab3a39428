-- The bytes decide the requests of a session and how it ends, but for faults and a lack of memory.
use Rattle.std.proofs.Common.{◌≡◌, ◌∙◌, ◌≤◌, ◌<◌, ◌&&◌, ◌⊎◌, inl, inr, ℕ, Bool, true, false, List, [], ◌∷◌, ◌++◌, length, drop, take, refl, sym, ap, subst}
use Rattle.std.proofs.Common.{arith, length-append, take-append-drop}
use Rattle.std.specs.Prelude.{⊤}
use Rattle.std.specs.List.{list_all}
use Rattle.std.proofs.lemmas.List.{take-append-le}
use Rattle.std.proofs.Math.Seq.{take-append_seam}
use Rattle.http_wire.specs.Next.{Found, ended, cut, refused, whole, IsNext}
use Rattle.http_wire.specs.declared.request.Request.{Request}
use Rattle.http_wire.proofs.NextLaws.{next_unique}
use Rattle.request_session.specs.Session.{Requests, GoesOn, OneMore, AsksToClose, IsFull, EndsBy, Session, is_decided}
use Rattle.request_session.specs.declared.ended.Ended.{Ended}
use Rattle.request_session.specs.declared.ended.Ended.TheVariants as end

-- ---- two lists of requests of the same bytes

-- the second list goes on after the first
abbrev Longer : List Request → List ℕ → List Request → Type 0
Longer shorter rest longer = (request : Request) × (more : List Request) × (used : ℕ) × (longer ≡ shorter ++ request ∷ more) × IsNext rest (whole request used)

abbrev Compared : List Request → List ℕ → List Request → List ℕ → Type 0
Compared first rest second rest' = ((first ≡ second) × (rest ≡ rest')) ⊎ (Longer first rest second ⊎ Longer second rest' first)

abbrev request_in : Request → Found → Request
request_in other ended = other
request_in other cut = other
request_in other (refused code) = other
request_in other (whole request used) = request

abbrev used_in : Found → ℕ
used_in ended = 0
used_in cut = 0
used_in (refused code) = 0
used_in (whole request used) = used

compared_behind : (a b : Request) (first second : List Request) (rest rest' : List ℕ) → a ≡ b → Compared first rest second rest'
    → Compared (a ∷ first) rest (b ∷ second) rest'
compared_behind a b first second rest rest' same (inl equal) = inl (ap (λ x. x ∷ first) same ∙ ap (λ xs. b ∷ xs) equal.0, equal.1)
compared_behind a b first second rest rest' same (inr (inl longer)) =
    inr (inl (longer.0, longer.1, longer.2, ap (λ xs. b ∷ xs) longer.3 ∙ ap (λ x. x ∷ (first ++ longer.0 ∷ longer.1)) (sym same), longer.4))
compared_behind a b first second rest rest' same (inr (inr longer)) =
    inr (inr (longer.0, longer.1, longer.2, ap (λ xs. a ∷ xs) longer.3 ∙ ap (λ x. x ∷ (second ++ longer.0 ∷ longer.1)) same, longer.4))

compare : (bytes : List ℕ) (first second : List Request) (rest rest' : List ℕ) → Requests bytes first rest → Requests bytes second rest'
    → Compared first rest second rest'
compare bytes [] [] rest rest' one two = inl (refl, one ∙ sym two)
compare bytes [] (b ∷ second) rest rest' one two = inr (inl (b, second, two.0, refl, subst (λ xs. IsNext xs (whole b two.0)) (sym one) two.1))
compare bytes (a ∷ first) [] rest rest' one two = inr (inr (a, first, one.0, refl, subst (λ xs. IsNext xs (whole a one.0)) (sym two) one.1))
compare bytes (a ∷ first) (b ∷ second) rest rest' one two =
    let found : whole a one.0 ≡ whole b two.0 = next_unique bytes (whole a one.0) (whole b two.0) one.1 two.1 in
    let used : one.0 ≡ two.0 = ap used_in found in
    compared_behind a b first second rest rest' (ap (request_in a) found)
    (compare (drop one.0 bytes) first second rest rest' one.2 (subst (λ n. Requests (drop n bytes) second rest') (sym used) two.2))

-- ---- after which requests a session goes on

both_true : (a b : Bool) → (a && b) ≡ true → (a ≡ true) × (b ≡ true)
both_true true b is = (refl, is)
both_true false b is = absurd (cc)

all_front : (first more : List Request) → list_all (λ r. r.keep) (first ++ more) ≡ true → list_all (λ r. r.keep) first ≡ true
all_front [] more all = refl
all_front (request ∷ first) more all =
    let parts = both_true request.keep (list_all (λ r. r.keep) (first ++ more)) all in
    ap (λ t. t && list_all (λ r. r.keep) first) parts.0 ∙ all_front first more parts.1

all_last : (first : List Request) (last : Request) → list_all (λ r. r.keep) (first ++ last ∷ []) ≡ true → last.keep ≡ true
all_last [] last all = (both_true last.keep true all).0
all_last (request ∷ first) last all = all_last first last (both_true request.keep (list_all (λ r. r.keep) (first ++ last ∷ [])) all).1

goes_front : (most : ℕ) (first more : List Request) → GoesOn most (first ++ more) → GoesOn most first
goes_front most first more goes = (all_front first more goes.0, (let sum = length-append first more in omega (arith, goes.1)))

-- all but the last of a list have the prefix of it that leaves something over
front_before : (first more before : List Request) (request last : Request) → before ++ last ∷ [] ≡ first ++ request ∷ more
    → before ≡ first ++ drop (length first) before
front_before first more before request last is =
    let left = length-append before (last ∷ []) in
    let right = length-append first (request ∷ more) in
    let same : length (before ++ last ∷ []) ≡ length (first ++ request ∷ more) = ap length is in
    let short : length first ≤ length before = omega (arith, left, right, same) in
    let front : take (length first) before ≡ first =
    sym (take-append-le (length first) before (last ∷ []) short) ∙ ap (take (length first)) is ∙ take-append_seam first (request ∷ more) in
    sym (take-append-drop (length first) before) ∙ ap (λ xs. xs ++ drop (length first) before) front

goes_one : (most : ℕ) (all first more before : List Request) (request last : Request) → OneMore most all before last → all ≡ first ++ request ∷ more
    → GoesOn most first
goes_one most all first more before request last one is =
    let same = front_before first more before request last (sym one.0 ∙ is) in
    goes_front most first (drop (length first) before) (subst (GoesOn most) same one.1)

-- ---- the kinds of ends

abbrev end_at : Found → Ended
end_at ended = end.Closed
end_at cut = end.Truncated
end_at (refused code) = end.Refused code
end_at (whole request used) = end.Limit

abbrev is_stop : Found → Bool
is_stop ended = true
is_stop cut = true
is_stop (refused code) = true
is_stop (whole request used) = false

abbrev AtStop : ℕ → List Request → List ℕ → Ended → Type 0
AtStop most requests rest how = (found : Found) × GoesOn most requests × IsNext rest found × (is_stop found ≡ true) × (how ≡ end_at found)

abbrev Kind : ℕ → List Request → List ℕ → Ended → Type 0
Kind most requests rest how = AtStop most requests rest how ⊎ ((AsksToClose most requests × (how ≡ end.Closed)) ⊎ (IsFull most requests × (how ≡ end.Limit)))

closed_kind : (most : ℕ) (requests : List Request) (rest : List ℕ) → AsksToClose most requests ⊎ (GoesOn most requests × IsNext rest ended × ⊤)
    → Kind most requests rest end.Closed
closed_kind most requests rest (inl asks) = inr (inl (asks, refl))
closed_kind most requests rest (inr over) = inl (ended, over.0, over.1, refl, refl)

kind_of : (most : ℕ) (requests : List Request) (rest : List ℕ) (how : Ended) (last : List ℕ) → EndsBy most requests rest ⊤ how last → is_decided how ≡ true
    → Kind most requests rest how
kind_of most requests rest end.Closed last ends is = closed_kind most requests rest ends.1
kind_of most requests rest end.Truncated last ends is = inl (cut, ends.1, ends.2, refl, refl)
kind_of most requests rest (end.Refused code) last ends is = inl (refused code, ends.0, ends.1, refl, refl)
kind_of most requests rest end.Limit last ends is = inr (inr (ends.1, refl))
kind_of most requests rest end.ReadFault last ends is = absurd (cc)
kind_of most requests rest end.WriteFault last ends is = absurd (cc)
kind_of most requests rest end.Memory last ends is = absurd (cc)

-- one that goes on doesn't ask to close, and isn't full
not_asked : (most : ℕ) (requests : List Request) → GoesOn most requests → AsksToClose most requests → ⊥
not_asked most requests goes asks =
    let all : list_all (λ r. r.keep) (asks.0 ++ asks.1 ∷ []) ≡ true = subst (λ rs. list_all (λ r. r.keep) rs ≡ true) asks.2.0 goes.0 in
    let kept : asks.1.keep ≡ true = all_last asks.0 asks.1 all in
    let closes : asks.1.keep ≡ false = asks.3 in
    absurd (cc)

not_full : (most : ℕ) (requests : List Request) → length requests < most → IsFull most requests → ⊥
not_full most requests few full = let same : length requests ≡ most = full.0 in absurd (omega (arith, few, same))

goes_before : (most : ℕ) (all first more : List Request) (request : Request) (rest : List ℕ) (how : Ended) → Kind most all rest how
    → all ≡ first ++ request ∷ more → GoesOn most first
goes_before most all first more request rest how (inl stop) is = goes_front most first (request ∷ more) (subst (GoesOn most) is stop.1)
goes_before most all first more request rest how (inr (inl asks)) is = goes_one most all first more asks.0.0 request asks.0.1 asks.0.2 is
goes_before most all first more request rest how (inr (inr full)) is = by_full full.0.1
  where
    by_full : (all ≡ []) ⊎ ((before : List Request) × (last : Request) × OneMore most all before last) → GoesOn most first
    by_full (inl none) =
        let sum = length-append first (request ∷ more) in
        let same : length (first ++ request ∷ more) ≡ 0 = ap length (sym is ∙ none) in
        absurd (omega (arith, sum, same))
    by_full (inr one) = goes_one most all first more one.0 request one.1 one.2 is

-- no end where a request follows
not_here : (most : ℕ) (requests : List Request) (rest : List ℕ) (how : Ended) (request : Request) (used : ℕ) → Kind most requests rest how
    → GoesOn most requests → IsNext rest (whole request used) → ⊥
not_here most requests rest how request used (inl stop) goes next =
    let same : stop.0 ≡ whole request used = next_unique rest stop.0 (whole request used) stop.2 next in
    let no : true ≡ false = sym stop.3 ∙ ap is_stop same in
    absurd (cc)
not_here most requests rest how request used (inr (inl asks)) goes next = not_asked most requests goes asks.0
not_here most requests rest how request used (inr (inr full)) goes next = not_full most requests goes.1 full.0

same_end : (most : ℕ) (requests : List Request) (rest : List ℕ) (how how' : Ended) → Kind most requests rest how → Kind most requests rest how' → how ≡ how'
same_end most requests rest how how' (inl one) (inl two) = one.4 ∙ ap end_at (next_unique rest one.0 two.0 one.2 two.2) ∙ sym two.4
same_end most requests rest how how' (inl one) (inr (inl asks)) = absurd (not_asked most requests one.1 asks.0)
same_end most requests rest how how' (inl one) (inr (inr full)) = absurd (not_full most requests one.1.1 full.0)
same_end most requests rest how how' (inr (inl asks)) (inl two) = absurd (not_asked most requests two.1 asks.0)
same_end most requests rest how how' (inr (inl asks)) (inr (inl other)) = asks.1 ∙ sym other.1
same_end most requests rest how how' (inr (inl asks)) (inr (inr full)) = absurd (not_full most requests asks.0.4 full.0)
same_end most requests rest how how' (inr (inr full)) (inl two) = absurd (not_full most requests two.1.1 full.0)
same_end most requests rest how how' (inr (inr full)) (inr (inl asks)) = absurd (not_full most requests asks.0.4 full.0)
same_end most requests rest how how' (inr (inr full)) (inr (inr other)) = full.1 ∙ sym other.1

agree : (most : ℕ) (first second : List Request) (rest rest' : List ℕ) (how how' : Ended) → Compared first rest second rest' → Kind most first rest how
    → Kind most second rest' how' → (first ≡ second) × (how ≡ how')
agree most first second rest rest' how how' (inl same) one two =
    (same.0, same_end most second rest' how how' (subst (λ rs. Kind most rs rest' how) same.0 (subst (λ xs. Kind most first xs how) same.1 one)) two)
agree most first second rest rest' how how' (inr (inl longer)) one two =
    absurd (not_here most first rest how longer.0 longer.2 one (goes_before most second first longer.1 longer.0 rest' how' two longer.3) longer.4)
agree most first second rest rest' how how' (inr (inr longer)) one two =
    absurd (not_here most second rest' how' longer.0 longer.2 two (goes_before most first second longer.1 longer.0 rest how one longer.3) longer.4)

-- two sessions over the same bytes that no fault and no lack of memory ends have the same requests and the same end
pub sessions_agree : {M : Type 0} (step : M → Request → Bool → List ℕ → M
    → Type 0) (most : ℕ) (bytes : List ℕ) (old new old' new' : M) (how how' : Ended) (text text' : List ℕ)
    (first : Session step most bytes ⊤ old new how text) (second : Session step most bytes ⊤ old' new' how' text') → is_decided how ≡ true
    → is_decided how' ≡ true
    → (first.requests ≡ second.requests) × (how ≡ how')
sessions_agree step most bytes old new old' new' how how' text text' first second one two =
    agree most first.requests second.requests first.rest second.rest how how'
    (compare bytes first.requests second.requests first.rest second.rest first.found second.found)
    (kind_of most first.requests first.rest how first.last first.ends one) (kind_of most second.requests second.rest how' second.last second.ends two)
