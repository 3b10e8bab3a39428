-- What a session took of a source whose bytes are told, as one over all its bytes.
use Rattle.std.proofs.Common.{◌≡◌, ◌≢◌, ◌∙◌, ◌≤◌, ◌+◌, ◌-◌, ◌^◌, ◌⊎◌, inl, inr, ℕ, Bool, List, [], ◌++◌, Option, None, Some, length, take, refl, sym, ap}
use Rattle.std.proofs.Common.{subst, arith, append-nil}
use Rattle.std.specs.Prelude.{⊤}
use Rattle.std.proofs.Math.Seq.{take-append-add, take-nil}
use Rattle.dh_outside.specs.Pieces.{IsSpent}
use Rattle.http_wire.specs.Next.{Found, ended, cut, refused, IsNext}
use Rattle.http_wire.specs.declared.request.Request.{Request}
use Rattle.http_wire.proofs.NextLaws.{next_stays}
use Rattle.request_session.specs.Session.{Requests, AsksToClose, GoesOn, EndsBy, Ran, RanOver, counting}
use Rattle.request_session.specs.declared.ended.Ended.{Ended}
use Rattle.request_session.specs.declared.ended.Ended.TheVariants as end
use Rattle.request_session.proofs.RequestLemmas.{requests_longer}

take_none : (n : ℕ) (bytes : List ℕ) → bytes ≡ [] → take n bytes ≡ []
take_none n bytes is = ap (take n) is ∙ take-nil n

-- the bytes that count begin with those taken
front_counts : (bytes taken left : List ℕ) → bytes ≡ taken ++ left → length taken ≤ 2 ^ 63 → counting bytes ≡ taken ++ take (2 ^ 63 - length taken) left
front_counts bytes taken left is bound =
    let sum : 2 ^ 63 ≡ length taken + (2 ^ 63 - length taken) = omega (arith, bound) in
    ap (take (2 ^ 63)) is ∙ ap (λ n. take n (taken ++ left)) sum ∙ take-append-add taken left (2 ^ 63 - length taken)

-- where the source is spent no more bytes count
none_behind : (taken left : List ℕ) → IsSpent (Some left) (length taken) → take (2 ^ 63 - length taken) left ≡ []
none_behind taken left (inl over) = take_none (2 ^ 63 - length taken) left over
none_behind taken left (inr most) = let none : 2 ^ 63 - length taken ≡ 0 = omega (arith, most) in ap (λ n. take n left) none

still : (rest more : List ℕ) (found : Found) → more ≡ [] → IsNext rest found → IsNext (rest ++ more) found
still rest more found none next = subst (λ xs. IsNext (rest ++ xs) found) (sym none) (subst (λ xs. IsNext xs found) (sym (append-nil rest)) next)

ends_longer : (most : ℕ) (requests : List Request) (rest more : List ℕ) (Spent : Type 0) (how : Ended) (last : List ℕ) → (Spent → more ≡ [])
    → how ≢ end.ReadFault
    → EndsBy most requests rest Spent how last → EndsBy most requests (rest ++ more) ⊤ how last
ends_longer most requests rest more Spent end.Closed last none other ends = (ends.0, closed ends.1)
  where
    closed : AsksToClose most requests ⊎ (GoesOn most requests × IsNext rest ended × Spent)
        → AsksToClose most requests ⊎ (GoesOn most requests × IsNext (rest ++ more) ended × ⊤)
    closed (inl asks) = inl asks
    closed (inr over) = inr (over.0, still rest more ended (none over.2) over.1, tt)
ends_longer most requests rest more Spent end.Truncated last none other ends = (ends.0, ends.1, still rest more cut (none ends.3) ends.2, tt)
ends_longer most requests rest more Spent (end.Refused code) last none other ends = (ends.0, next_stays rest more (refused code) ends.1 tt, ends.2)
ends_longer most requests rest more Spent end.Limit last none other ends = ends
ends_longer most requests rest more Spent end.ReadFault last none other ends = absurd (other refl)
ends_longer most requests rest more Spent end.WriteFault last none other (inl ends) = inl ends
ends_longer most requests rest more Spent end.WriteFault last none other (inr ends) =
    inr (ends.0, (ends.1.0, next_stays rest more (refused ends.0) ends.1.1 tt, ends.1.2))
ends_longer most requests rest more Spent end.Memory last none other ends = ends

over_left : {M : Type 0} (step : M → Request → Bool → List ℕ → M
    → Type 0) (most : ℕ) (bytes : List ℕ) (left' written written' : Option (List ℕ)) (old new : M) (how : Ended)
    → how ≢ end.ReadFault → Ran step most (Some bytes) left' written written' old new how → RanOver step most bytes written written' old new how
over_left step most bytes None written written' old new how other ran = absurd ran.consumed
over_left step most bytes (Some left) written written' old new how other ran =
    let front : counting bytes ≡ ran.taken ++ take (2 ^ 63 - length ran.taken) left = front_counts bytes ran.taken left ran.consumed ran.bound in (
      ran.text,
      record {
        requests = ran.session.requests;
        rest = ran.session.rest ++ take (2 ^ 63 - length ran.taken) left;
        found = subst (λ xs. Requests xs ran.session.requests (ran.session.rest ++ take (2 ^ 63 - length ran.taken) left)) (sym front)
            (requests_longer ran.taken (take (2 ^ 63 - length ran.taken) left) ran.session.requests ran.session.rest ran.session.found);
        replies = ran.session.replies;
        served = ran.session.served;
        last = ran.session.last;
        ends =
            ends_longer most ran.session.requests ran.session.rest (take (2 ^ 63 - length ran.taken) left) (IsSpent (Some left) (length ran.taken)) how
            ran.session.last
            (none_behind ran.taken left) other ran.session.ends;
        whole = ran.session.whole;
      },
      ran.writes,
    )

pub over_all : {M : Type 0} (step : M → Request → Bool → List ℕ → M
    → Type 0) (most : ℕ) (bytes : List ℕ) (left left' written written' : Option (List ℕ)) (old new : M) (how : Ended)
    → left ≡ Some bytes → how ≢ end.ReadFault → Ran step most left left' written written' old new how → RanOver step most bytes written written' old new how
over_all step most bytes left left' written written' old new how told other ran =
    over_left step most bytes left' written written' old new how other (subst (λ l. Ran step most l left' written written' old new how) told ran)
