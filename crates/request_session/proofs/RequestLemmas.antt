-- Requests of longer bytes, and one more request.
use Rattle.std.proofs.Common.{◌≡◌, ◌∙◌, ◌≤◌, ◌+◌, ℕ, Bool, List, [], ◌∷◌, ◌++◌, length, drop, refl, sym, ap, subst, arith, append_assoc, append-nil}
use Rattle.std.proofs.lemmas.List.{drop-append-le}
use Rattle.http_wire.specs.Next.{whole, IsNext}
use Rattle.http_wire.specs.declared.request.Request.{Request}
use Rattle.http_wire.proofs.NextLaws.{next_stays, next_within}
use Rattle.request_session.specs.Session.{Requests, Replies, keeps}

-- more bytes after them leave the requests as they are
pub requests_longer : (bytes more : List ℕ) (requests : List Request) (rest : List ℕ) → Requests bytes requests rest
    → Requests (bytes ++ more) requests (rest ++ more)
requests_longer bytes more [] rest found = ap (λ xs. xs ++ more) found
requests_longer bytes more (request ∷ requests) rest found =
    let within : found.0 ≤ length bytes = next_within bytes (whole request found.0) found.1 in (
      found.0,
      next_stays bytes more (whole request found.0) found.1 tt,
      subst (λ xs. Requests xs requests (rest ++ more)) (sym (drop-append-le found.0 bytes more within))
          (requests_longer (drop found.0 bytes) more requests rest found.2),
    )

-- one more request stands after
pub requests_one : (bytes : List ℕ) (requests : List Request) (rest : List ℕ) (request : Request) (used : ℕ) (held : List ℕ) → Requests bytes requests rest
    → IsNext rest (whole request used) → held ≡ drop used rest → Requests bytes (requests ++ request ∷ []) held
requests_one bytes [] rest request used held found next is =
    (used, subst (λ xs. IsNext xs (whole request used)) found next, is ∙ ap (drop used) found)
requests_one bytes (first ∷ requests) rest request used held found next is =
    (found.0, found.1, requests_one (drop found.0 bytes) requests rest request used held found.2 next is)

-- one more reply
pub replies_one : {M : Type 0} (step : M → Request → Bool → List ℕ → M → Type 0) (most before : ℕ) (old mid new : M) (requests : List Request) (text : List ℕ)
    (request : Request) (reply : List ℕ) → Replies step most before old requests text mid
    → step mid request (keeps most (before + length requests) request) reply new
    → Replies step most before old (requests ++ request ∷ []) (text ++ reply) new
replies_one step most before old mid new [] text request reply given steps = (
  reply,
  [],
  new,
  subst (λ m. step m request (keeps most before request) reply new) given.1
      (subst (λ n. step mid request (keeps most n request) reply new) (let same : before + 0 ≡ before = omega arith in same) steps),
  (refl, refl),
  ap (λ xs. xs ++ reply) given.0 ∙ sym (append-nil reply),
)
replies_one step most before old mid new (first ∷ requests) text request reply given steps = (
  given.0,
  given.1 ++ reply,
  given.2,
  given.3,
  replies_one step most (before + 1) given.2 mid new requests given.1 request reply given.4
      (subst (λ n. step mid request (keeps most n request) reply new) (let same : before + length (first ∷ requests) ≡ before + 1 + length requests =
      omega arith in same) steps),
  ap (λ xs. xs ++ reply) given.5 ∙ append_assoc given.0 given.1 reply,
)
