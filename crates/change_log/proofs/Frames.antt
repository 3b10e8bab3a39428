-- What stands after the length of a change.
use Rattle.std.proofs.Common.{◌≡◌, ◌∙◌, ℕ, ◌+◌, ◌-◌, ◌^◌, ◌<◌, ◌≤◌, Bool, true, false, cond, List, [], ◌++◌, length, take, drop, Option, Some, None, Result}
use Rattle.std.proofs.Common.{Ok, Err, refl, sym, ap, subst, arith, w32, inl, inr}
use Rattle.std.specs.Prelude.{nat_lt, ◌==◌, ◌||◌, option_and_then, option_map, IfOk}
use Rattle.std.specs.Int.{from_be_bytes}
use Rattle.std.proofs.lemmas.Bool.{eqb-true, cases_lt, lt-ltb, le-ltb, ltb-false}
use Rattle.std.proofs.lemmas.List.{append-nil, get_or-append-add, length-append, length-drop, length-take-le, take-take, take_at, nil_from_length}
use Rattle.dh_base.specs.declared.memory.Memory.{Memory}
use Rattle.dh_changes.specs.declared.change.Change.{Change}
use Rattle.change_log.specs.ReadWords.{bytes_at, number_at, text_at}
use Rattle.change_log.specs.Words.{number, text}
use Rattle.change_log.proofs.WordCodecs.{IsBytes, IsBytes-front, and_then-some, wide32, text_codec}
use Rattle.change_log.specs.declared.decoded.Decoded.{Decoded}
use Rattle.change_log.specs.declared.decoded.Decoded.TheVariants.{Whole, Short, Bad}
use Rattle.change_log.specs.Bytes.{body_bytes, change_bytes}
use Rattle.change_log.specs.Forms.{IsChange}
use Rattle.change_log.specs.Reading.{change_at, change_of}
use Rattle.change_log.specs.Decoded.{is_short, Decodes, read_as, framed_as, decoded_of}
use Rattle.change_log.proofs.Codecs.{change_codec, IsRead}

some-if : {A : Type 0} (b : Bool) (x z : A) → cond b (Some x) None ≡ Some z → (b ≡ true) × (x ≡ z)
some-if true x z e = (refl, cc)
some-if false x z e = absurd (cc)

some-same : {A : Type 0} (x y : A) → Some x ≡ Some y → x ≡ y
some-same x y e = cc

IsBytes-back : (front rest : List ℕ) → IsBytes (front ++ rest) → IsBytes rest
IsBytes-back front rest h i = subst (λ b. b < 256) (get_or-append-add front rest i 0) (h (length front + i))

-- the change that is all of the bytes
of-found : (n : ℕ) (body : List ℕ) (c : Change) → IsBytes body → change_of n body ≡ Some c → (body ≡ body_bytes n c) × IsRead n c
unfolding change_of
of-found n body c fits e =
    let first = and_then-some (λ (x : Change × List ℕ). cond (length x.1 == 0) (Some x.0) None) (change_at n body) c e in
    let x = first.0 in
    let whole = some-if (length x.1 == 0) x.0 c first.2 in
    let taken = (change_codec n).takes body x.0 x.1 fits first.1 in
    let nothing : x.1 ≡ [] = nil_from_length x.1 (eqb-true (length x.1) 0 whole.0) in
    let P : Change → Type 0 = λ d. (body ≡ body_bytes n d) × IsRead n d in
    subst P whole.1 (taken.0.parts ∙ ap (λ t. body_bytes n x.0 ++ t) nothing ∙ append-nil (body_bytes n x.0), taken.1)

of-written : (n : ℕ) (c : Change) → IsRead n c → change_of n (body_bytes n c) ≡ Some c
unfolding change_of
of-written n c good =
    ap (option_and_then (λ (x : Change × List ℕ). cond (length x.1 == 0) (Some x.0) None)) (ap (change_at n) (sym (append-nil (body_bytes n c)))
    ∙ (change_codec n).again c [] good)

-- ---- the length

shorter-is : (k m l : ℕ) → m ≤ l → nat_lt (l - m) k ≡ nat_lt l (m + k)
shorter-is k m l le =
    elim (cases_lt l (m + k)) [
      | inl lt ↦ lt-ltb (l - m) k (omega arith) ∙ sym (lt-ltb l (m + k) lt)
      | inr ge ↦ le-ltb (l - m) k (omega arith) ∙ sym (le-ltb l (m + k) ge)
    ]

-- how many bytes the first four say
abbrev said : List ℕ → ℕ
said bytes = from_be_bytes w32 (take 4 bytes)

abbrev framed : List ℕ → Option (List ℕ × List ℕ)
framed bytes = cond (nat_lt (length (drop 4 bytes)) (said bytes)) None (Some (take (said bytes) (drop 4 bytes), drop (said bytes) (drop 4 bytes)))

text-framed : (bytes : List ℕ) → text_at w32 bytes ≡ cond (nat_lt (length bytes) 4) None (framed bytes)
unfolding text_at number_at bytes_at
text-framed bytes =
    elim (nat_lt (length bytes) 4) as (λ b.
    option_and_then (λ (n : ℕ × List ℕ). bytes_at n.0 n.1)
    (option_map (λ (x : List ℕ × List ℕ). (from_be_bytes w32 x.0, x.1)) (cond b None (Some (take 4 bytes, drop 4 bytes)))) ≡ cond b None (framed bytes)) [
      | true ↦ refl
      | false ↦ refl
    ]

none-tells : {A : Type 0} (b : Bool) (x : A) → cond b None (Some x) ≡ None → b ≡ true
none-tells true x e = refl
none-tells false x e = absurd (cc)

some-tells : {A : Type 0} (b : Bool) (x z : A) → cond b None (Some x) ≡ Some z → b ≡ false
some-tells true x z e = absurd (cc)
some-tells false x z e = refl

said-short : (bytes : List ℕ) → 4 ≤ length bytes → nat_lt (length (drop 4 bytes)) (said bytes) ≡ nat_lt (length bytes) (4 + said bytes)
said-short bytes le = ap (λ l. nat_lt l (said bytes)) (length-drop 4 bytes) ∙ shorter-is (said bytes) 4 (length bytes) le

framed-none : (bytes : List ℕ) → text_at w32 bytes ≡ None → is_short bytes ≡ true
framed-none bytes e =
    elim (nat_lt (length bytes) 4) as (λ b. nat_lt (length bytes) 4 ≡ b → cond b None (framed bytes) ≡ None
    → (b || nat_lt (length bytes) (4 + said bytes)) ≡ true) [
      | true ↦ λ few none. refl
      | false ↦ λ four none. sym (said-short bytes (ltb-false (length bytes) 4 four)) ∙ none-tells (nat_lt (length (drop 4 bytes)) (said bytes)) _ none
    ] refl (sym (text-framed bytes) ∙ e)

framed-some : (bytes : List ℕ) (x : List ℕ × List ℕ) → text_at w32 bytes ≡ Some x → is_short bytes ≡ false
framed-some bytes x e =
    elim (nat_lt (length bytes) 4) as (λ b. nat_lt (length bytes) 4 ≡ b → cond b None (framed bytes) ≡ Some x
    → (b || nat_lt (length bytes) (4 + said bytes)) ≡ false) [
      | true ↦ λ few some. absurd (cc)
      | false ↦ λ four some. sym (said-short bytes (ltb-false (length bytes) 4 four)) ∙ some-tells (nat_lt (length (drop 4 bytes)) (said bytes)) _ x some
    ] refl (sym (text-framed bytes) ∙ e)

-- ---- what is decoded

is-change : (n : ℕ) (c : Change) → IsRead n c → length (body_bytes n c) < 2 ^ 32 → IsChange n c
is-change n c g small = record { number = g.0; user = g.1.0.0; moment = g.1.0.1; some = g.1.1.0; count = g.1.1.1.0; writes = g.1.1.1.1; size = small }

is-read : (n : ℕ) (c : Change) → IsChange n c → IsRead n c
is-read n c g = (g.number, ((g.user, g.moment), (g.some, (g.count, g.writes))))

framed-again : (n : ℕ) (bytes : List ℕ) (c : Change) (rest : List ℕ) → IsChange n c → bytes ≡ change_bytes n c ++ rest
    → text_at w32 bytes ≡ Some (body_bytes n c, rest)
unfolding change_bytes
framed-again n bytes c rest good e = ap (text_at w32) e ∙ (text_codec w32 (2 ^ 32) wide32).again (body_bytes n c) rest good.size

change-length : (n : ℕ) (c : Change) → 4 + length (body_bytes n c) ≡ length (change_bytes n c)
unfolding change_bytes
change-length n c = omega (arith, length-append (number w32 (length (body_bytes n c))) (body_bytes n c))

pub decoded-again : (n : ℕ) (bytes : List ℕ) (c : Change) (rest : List ℕ) → IsChange n c → bytes ≡ change_bytes n c ++ rest
    → decoded_of n bytes ≡ Whole c (length (change_bytes n c))
unfolding decoded_of
decoded-again n bytes c rest good e =
    ap (framed_as n) (framed-again n bytes c rest good e) ∙ ap (read_as (body_bytes n c)) (of-written n c (is-read n c good))
    ∙ ap (λ used. Whole c used) (change-length n c)

pub decoded-short : (n : ℕ) (bytes : List ℕ) → is_short bytes ≡ true → decoded_of n bytes ≡ Short
unfolding decoded_of
decoded-short n bytes short =
    elim (text_at w32 bytes) as (λ o. text_at w32 bytes ≡ o → framed_as n o ≡ Short) [
      | None ↦ λ e. refl
      | Some x ↦ λ e. (let long = framed-some bytes x e in absurd (cc))
    ] refl

whole-decodes : (n : ℕ) (bytes body rest : List ℕ) (c : Change) → IsBytes bytes → text_at w32 bytes ≡ Some (body, rest) → change_of n body ≡ Some c
    → Decodes n bytes (Ok (Whole c (4 + length body)))
unfolding change_bytes
whole-decodes n bytes body rest c fits framed found =
    let taken = (text_codec w32 (2 ^ 32) wide32).takes bytes body rest fits framed in
    let front = IsBytes-front (text w32 body) rest (subst IsBytes taken.0.parts fits) in
    let inner = IsBytes-back (number w32 (length body)) body front in
    let is = of-found n body c inner found in
    let small : length (body_bytes n c) < 2 ^ 32 = subst (λ t. length t < 2 ^ 32) is.0 taken.1 in
    ((rest, is-change n c is.1 small, taken.0.parts ∙ ap (λ t. text w32 t ++ rest) is.0), ap (λ t. 4 + length t) is.0 ∙ change-length n c)

bad-decodes : (n : ℕ) (bytes body rest : List ℕ) → text_at w32 bytes ≡ Some (body, rest) → change_of n body ≡ None → Decodes n bytes (Ok Bad)
bad-decodes n bytes body rest framed none = (
  λ short. (let long = framed-some bytes (body, rest) framed in absurd (cc)),
  λ c begins.
      let again = framed-again n bytes c begins.0 begins.1 begins.2 in
      let same : (body, rest) ≡ (body_bytes n c, begins.0) = some-same (body, rest) (body_bytes n c, begins.0) (sym framed ∙ again) in
      let read : change_of n body ≡ Some c = ap (λ (x : List ℕ × List ℕ). change_of n x.0) same ∙ of-written n c (is-read n c begins.1) in
      absurd (cc),
)

decoded-is : (n : ℕ) (bytes : List ℕ) → IsBytes bytes → Decodes n bytes (Ok (decoded_of n bytes))
unfolding decoded_of
decoded-is n bytes fits =
    elim (text_at w32 bytes) as (λ o. text_at w32 bytes ≡ o → Decodes n bytes (Ok (framed_as n o))) [
      | None ↦ λ e. framed-none bytes e
      | Some x ↦ λ e.
          elim (change_of n x.0) as (λ o. change_of n x.0 ≡ o → Decodes n bytes (Ok (read_as x.0 o))) [
            | Some c ↦ λ found. whole-decodes n bytes x.0 x.1 c fits e found
            | None ↦ λ none. bad-decodes n bytes x.0 x.1 e none
          ] refl
    ] refl

pub decodes : (n : ℕ) (bytes : List ℕ) (r : Result Decoded Memory) → IsBytes bytes → IfOk r (λ d. d ≡ decoded_of n bytes) → Decodes n bytes r
decodes n bytes (Ok d) fits e = subst (λ x. Decodes n bytes (Ok x)) (sym e) (decoded-is n bytes fits)
decodes n bytes (Err m) fits e = tt

pub answers : (n : ℕ) (bytes : List ℕ) (r : Result Decoded Memory) (d : Decoded) → IfOk r (λ x. x ≡ decoded_of n bytes) → decoded_of n bytes ≡ d
    → IfOk r (λ x. x ≡ d)
answers n bytes (Ok x) d e same = e ∙ same
answers n bytes (Err m) d e same = tt

-- ---- a change that is cut off

or-right : (a b : Bool) → b ≡ true → (a || b) ≡ true
or-right true b e = refl
or-right false b e = e

pub cut-short : (n : ℕ) (c : Change) (k : ℕ) → IsChange n c → k < length (change_bytes n c) → is_short (take k (change_bytes n c)) ≡ true
unfolding change_bytes
cut-short n c k good lt =
    let body : List ℕ = body_bytes n c in
    let whole : List ℕ = number w32 (length body) ++ body in
    let size : length whole ≡ 4 + length body = length-append (number w32 (length body)) body in
    let long : length (take k whole) ≡ k = length-take-le k whole (omega arith) in
    elim (cases_lt k 4) [
      | inl few ↦ ap (λ b. b || nat_lt (length (take k whole)) (4 + said (take k whole))) (lt-ltb (length (take k whole)) 4 (omega arith))
      | inr four ↦
          let front : take 4 (take k whole) ≡ number w32 (length body) = take-take 4 k whole four ∙ take_at (number w32 (length body)) body 4 refl in
          let told : said (take k whole) ≡ length body = ap (from_be_bytes w32) front ∙ wide32.again (length body) good.size in
          or-right (nat_lt (length (take k whole)) 4) (nat_lt (length (take k whole)) (4 + said (take k whole)))
          (lt-ltb (length (take k whole)) (4 + said (take k whole)) (omega arith))
    ]
