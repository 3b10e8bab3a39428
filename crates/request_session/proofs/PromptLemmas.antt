-- Replies are written before more is read: from turn to turn.
use Rattle.std.proofs.Common.{◌≡◌, ◌∙◌, ℕ, Bool, List, [], ◌∷◌, ◌++◌, Option, None, Some, refl, sym, ap, subst, append_assoc, append-nil}
use Rattle.dh_outside.specs.Talk.{Talk, Heard, joined, heard_one, heard_all, Hears, Says, BeforeEach, Paced}
use Rattle.http_wire.specs.Next.{IsOpen}
use Rattle.http_wire.specs.declared.request.Request.{Request}
use Rattle.request_session.specs.Prompt.{given_by, EachRead, AllAnswered, Prompt}
use Rattle.request_session.specs.Session.{Requests, Replies, GoesOn}
use Rattle.request_session.specs.SoFar.{PromptSoFar}
use Rattle.request_session.specs.Turn.{Speaks}
use Rattle.request_session.proofs.RequestLemmas.{requests_longer}

-- ---- lists of reads

given_on : (first second : List Heard) → given_by (first ++ second) ≡ given_by first ++ given_by second
given_on [] second = refl
given_on (read ∷ first) second = ap (λ xs. read.piece ++ xs) (given_on first second) ∙ sym (append_assoc read.piece (given_by first) (given_by second))

given_one : (before piece : List ℕ) → given_by (heard_one before piece) ≡ piece
given_one before [] = refl
given_one before (byte ∷ bytes) = append-nil (byte ∷ bytes)

given_heard : (before : List ℕ) (pieces : List (List ℕ)) → given_by (heard_all before pieces) ≡ joined pieces
given_heard before [] = refl
given_heard before (piece ∷ pieces) =
    given_on (heard_one before piece) (heard_all before pieces) ∙ ap (λ xs. xs ++ given_by (heard_all before pieces)) (given_one before piece)
    ∙ ap (λ xs. piece ++ xs) (given_heard before pieces)

each_on : (P : List ℕ → List ℕ → Type 0) (taken : List ℕ) (first second : List Heard) → EachRead P taken first → EachRead P (taken ++ given_by first) second
    → EachRead P taken (first ++ second)
each_on P taken [] second one two = subst (λ xs. EachRead P xs second) (append-nil taken) two
each_on P taken (read ∷ first) second one two =
    (one.0, each_on P (taken ++ read.piece) first second one.1 (subst (λ xs. EachRead P xs second) (sym (append_assoc taken read.piece (given_by first))) two))

-- pieces that were asked for while something held
each_heard : (P : List ℕ → List ℕ → Type 0) (Open : List ℕ → Type 0) (before taken held : List ℕ) (pieces : List (List ℕ))
    → ((more : List ℕ) → Open (held ++ more) → P (taken ++ more) before) → BeforeEach Open held pieces → EachRead P taken (heard_all before pieces)
each_heard P Open before taken held [] to waits = tt
each_heard P Open before taken held ([] ∷ pieces) to waits =
    each_heard P Open before taken held pieces to (subst (λ xs. BeforeEach Open xs pieces) (append-nil held) waits.1)
each_heard P Open before taken held ((byte ∷ bytes) ∷ pieces) to waits = (
  subst (λ xs. P xs before) (append-nil taken) (to [] (subst Open (sym (append-nil held)) waits.0)),
  each_heard P Open before (taken ++ byte ∷ bytes) (held ++ byte ∷ bytes) pieces
      (λ more is. subst (λ xs. P xs before) (sym (append_assoc taken (byte ∷ bytes) more))
      (to ((byte ∷ bytes) ++ more) (subst Open (append_assoc held (byte ∷ bytes) more) is))) waits.1,
)

-- ---- from turn to turn

module _ {M : Type 0} (step : M → Request → Bool → List ℕ → M → Type 0) (most : ℕ) (old : M) where
  pub prompt_start : (talk : Option Talk) → PromptSoFar step most talk talk old [] []
  prompt_start None = tt
  prompt_start (Some talk) = ([], sym (append-nil talk.heard), refl, sym (append-nil talk.written), refl, tt)

  pub prompt_none : (talk : Option Talk) → Prompt step most talk talk old
  prompt_none None = tt
  prompt_none (Some talk) = ([], sym (append-nil talk.heard), refl, tt)

  -- what is written after the last read was asked for by none
  pub prompt_said : (first last next : Option Talk) → Prompt step most first last old → Speaks last next → Prompt step most first next old
  prompt_said None last next prompt said = tt
  prompt_said (Some first) None next prompt said = absurd prompt
  prompt_said (Some first) (Some last) None prompt said = absurd said.1
  prompt_said (Some first) (Some last) (Some next) prompt said =
      (prompt.0, said.1.1 ∙ prompt.1, prompt.2 ∙ ap (λ xs. given_by prompt.0 ++ xs) (sym said.1.2), prompt.3)

  by_pieces : (first last next : Talk) (taken more replies held : List ℕ) (requests : List Request) (now : M) (pieces : List (List ℕ))
      → Requests taken requests held → GoesOn most requests → Replies step most 0 old requests replies now
      → PromptSoFar step most (Some first) (Some last) old taken replies → joined pieces ≡ more → Hears (Some last) (Some next) pieces
      → BeforeEach IsOpen held pieces
      → PromptSoFar step most (Some first) (Some next) old (taken ++ more) replies
  by_pieces first last next taken more replies held requests now pieces found goes given so cut hears waits = (
    so.0 ++ heard_all last.written pieces,
    hears.0 ∙ ap (λ xs. xs ++ heard_all last.written pieces) so.1 ∙ append_assoc first.heard so.0 (heard_all last.written pieces),
    given_on so.0 (heard_all last.written pieces) ∙ ap (λ xs. xs ++ given_by (heard_all last.written pieces)) so.2
        ∙ ap (λ xs. taken ++ xs) (given_heard last.written pieces ∙ cut),
    hears.1 ∙ so.3,
    so.4 ∙ ap (λ xs. taken ++ xs) (hears.2 ∙ ap (λ xs. xs ++ next.left) cut) ∙ sym (append_assoc taken more next.left),
    each_on (AllAnswered step most old first.written) [] so.0 (heard_all last.written pieces) so.5
        (subst (λ xs. EachRead (AllAnswered step most old first.written) xs (heard_all last.written pieces)) (sym so.2)
        (each_heard (AllAnswered step most old first.written) IsOpen last.written taken held pieces
        (λ after is. (replies, so.3, requests, held ++ after, now, requests_longer taken after requests held found, is, goes, given)) waits)),
  )

  -- more was read, while all requests were answered
  pub prompt_reads : (talk told heard : Option Talk) (taken more replies held : List ℕ) (requests : List Request) (now : M)
      → Requests taken requests held → GoesOn most requests → Replies step most 0 old requests replies now
      → PromptSoFar step most talk told old taken replies → Paced told heard IsOpen held more → PromptSoFar step most talk heard old (taken ++ more) replies
  prompt_reads None told heard taken more replies held requests now found goes given so paced = tt
  prompt_reads (Some first) None heard taken more replies held requests now found goes given so paced = absurd so
  prompt_reads (Some first) (Some last) None taken more replies held requests now found goes given so paced = absurd paced.hears
  prompt_reads (Some first) (Some last) (Some next) taken more replies held requests now found goes given so paced =
      by_pieces first last next taken more replies held requests now paced.pieces found goes given so paced.cut paced.hears paced.waits

  -- a reply was written
  pub prompt_says : (talk heard talk' : Option Talk) (taken replies reply : List ℕ) → PromptSoFar step most talk heard old taken replies
      → Says heard talk' reply
      → PromptSoFar step most talk talk' old taken (replies ++ reply)
  prompt_says None heard talk' taken replies reply so says = tt
  prompt_says (Some first) None talk' taken replies reply so says = absurd so
  prompt_says (Some first) (Some last) None taken replies reply so says = absurd says
  prompt_says (Some first) (Some last) (Some next) taken replies reply so says = (
    so.0,
    says.1 ∙ so.1,
    so.2,
    says.0 ∙ ap (λ xs. xs ++ reply) so.3 ∙ append_assoc first.written replies reply,
    so.4 ∙ ap (λ xs. taken ++ xs) (sym says.2),
    so.5,
  )

  -- the last reply was written, or a prefix of it
  pub prompt_end : (talk heard talk' : Option Talk) (taken replies : List ℕ) → PromptSoFar step most talk heard old taken replies → Speaks heard talk'
      → Prompt step most talk talk' old
  prompt_end None heard talk' taken replies so speaks = tt
  prompt_end (Some first) None talk' taken replies so speaks = absurd so
  prompt_end (Some first) (Some last) None taken replies so speaks = absurd speaks.1
  prompt_end (Some first) (Some last) (Some next) taken replies so speaks =
      (so.0, speaks.1.1 ∙ so.1, so.4 ∙ ap (λ xs. xs ++ last.left) (sym so.2) ∙ ap (λ xs. given_by so.0 ++ xs) (sym speaks.1.2), so.5)
