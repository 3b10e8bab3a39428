-- Empty lines and the end of a head, as more bytes come.
use Rattle.std.proofs.Common.{◌≡◌, ◌∙◌, ℕ, ◌+◌, ◌<◌, ◌&&◌, Bool, true, false, cond, List, [], ◌∷◌, length, drop, refl, sym, ap, arith}
use Rattle.std.proofs.Common.{nat_eq, nat_lt}
use Rattle.std.proofs.lemmas.Bool.Decides.{nat_tests}
use Rattle.std.proofs.Math.Seq.{drop-cons}
use Rattle.std.proofs.Common.{get_or, Option, Some, None, suc}
use Rattle.http_wire.specs.Lines.{empty_line, blank_length, head_length, shifted}

-- the first empty line, and those after it
pub blank_step : (bytes : List ℕ) → 0 < empty_line bytes → blank_length bytes ≡ empty_line bytes + blank_length (drop (empty_line bytes) bytes)
blank_step [] some = absurd (omega arith)
blank_step (b ∷ []) some =
    elim (nat_eq b 10) as (λ t. 0 < cond t 1 0 → cond t 1 0 ≡ cond t 1 0 + blank_length (drop {A = ℕ} (cond t 1 0) (b ∷ [])))
    [ true ↦ λ _. refl | false ↦ λ none. absurd (omega arith) ] some
blank_step (b ∷ c ∷ bytes) some =
    elim (nat_eq b 10) as (λ t. 0 < cond t 1 (cond (nat_eq b 13 && nat_eq c 10) 2 0) →
    cond t (1 + blank_length (c ∷ bytes)) (cond (nat_eq b 13 && nat_eq c 10) (2 + blank_length bytes) 0) ≡
    cond t 1 (cond (nat_eq b 13 && nat_eq c 10) 2 0) + blank_length (drop {A = ℕ} (cond t 1 (cond (nat_eq b 13 && nat_eq c 10) 2 0)) (b ∷ c ∷ bytes))) [
      | true ↦ λ _. refl
      | false ↦ elim (nat_eq b 13 && nat_eq c 10) as (λ t. 0 < cond t 2 0 →
          cond t (2 + blank_length bytes) 0 ≡ cond t 2 0 + blank_length (drop {A = ℕ} (cond t 2 0) (b ∷ c ∷ bytes)))
          [ true ↦ λ _. refl | false ↦ λ none. absurd (omega arith) ]
    ] some

one : ◌≡◌ {A = ℕ} 1 0 → ⊥
one e = absurd (omega arith)

two : ◌≡◌ {A = ℕ} 2 0 → ⊥
two e = absurd (omega arith)

pub blank_none : (bytes : List ℕ) → empty_line bytes ≡ 0 → blank_length bytes ≡ 0
blank_none [] none = refl
blank_none (b ∷ []) none = none
blank_none (b ∷ c ∷ bytes) none =
    elim (nat_eq b 10) as (λ t. ◌≡◌ {A = ℕ} (cond t 1 (cond (nat_eq b 13 && nat_eq c 10) 2 0)) 0 →
    cond t (1 + blank_length (c ∷ bytes)) (cond (nat_eq b 13 && nat_eq c 10) (2 + blank_length bytes) 0) ≡ 0) [
      | true ↦ λ some. absurd (one some)
      | false ↦ elim (nat_eq b 13 && nat_eq c 10) as (λ t. ◌≡◌ {A = ℕ} (cond t 2 0) 0 → cond t (2 + blank_length bytes) 0 ≡ 0)
          [ true ↦ λ some. absurd (two some) | false ↦ λ _. refl ]
    ] none

shifted_on : (at : ℕ) (found : Option ℕ) → shifted at (shifted 1 found) ≡ shifted (at + 1) found
shifted_on at None = refl
shifted_on at (Some n) = ap Some (omega arith)

head_split : (bytes : List ℕ) (at : ℕ) → at < length bytes
    → head_length (drop at bytes) ≡ cond (nat_eq (get_or bytes at 0) 10 && nat_lt 0 (empty_line (drop (at + 1) bytes)))
    (Some (1 + empty_line (drop (at + 1) bytes))) (shifted 1 (head_length (drop (at + 1) bytes)))
head_split bytes at within =
    let next : at + 1 ≡ suc at = omega arith in
    let split : drop at bytes ≡ get_or bytes at 0 ∷ drop (at + 1) bytes = rw next (drop-cons bytes at 0 within) in
    ap head_length split

no_line : (feed : Bool) (line : ℕ) → cond feed line 0 ≡ 0 → feed && nat_lt 0 line ≡ false
no_line true line none = rw none refl
no_line false line none = refl

a_line : (feed : Bool) (line : ℕ) → 0 < cond feed line 0 → (feed && nat_lt 0 line ≡ true) × (cond feed line 0 ≡ line)
a_line true line some = (grind (arith, nat_tests), refl)
a_line false line some = absurd (omega arith)

-- looking on from the next byte, where no head ends that begins at a byte
pub head_on : (bytes : List ℕ) (at : ℕ) → at < length bytes → cond (nat_eq (get_or bytes at 0) 10) (empty_line (drop (at + 1) bytes)) 0 ≡ 0
    → head_length bytes ≡ shifted at (head_length (drop at bytes)) → head_length bytes ≡ shifted (at + 1) (head_length (drop (at + 1) bytes))
head_on bytes at within none' from =
    let none = no_line (nat_eq (get_or bytes at 0) 10) (empty_line (drop (at + 1) bytes)) none' in
    from ∙ ap (shifted at) (head_split bytes at within)
    ∙ ap (λ t. shifted at (cond t (Some (1 + empty_line (drop (at + 1) bytes))) (shifted 1 (head_length (drop (at + 1) bytes))))) none
    ∙ shifted_on at (head_length (drop (at + 1) bytes))

-- the head that ends where an empty line follows a byte
pub head_here : (bytes : List ℕ) (at : ℕ) → at < length bytes → 0 < cond (nat_eq (get_or bytes at 0) 10) (empty_line (drop (at + 1) bytes)) 0
    → head_length bytes ≡ shifted at (head_length (drop at bytes))
    → head_length bytes ≡ Some (at + (1 + cond (nat_eq (get_or bytes at 0) 10) (empty_line (drop (at + 1) bytes)) 0))
head_here bytes at within some' from =
    let some = a_line (nat_eq (get_or bytes at 0) 10) (empty_line (drop (at + 1) bytes)) some' in
    from ∙ ap (shifted at) (head_split bytes at within)
    ∙ ap (λ t. shifted at (cond t (Some (1 + empty_line (drop (at + 1) bytes))) (shifted 1 (head_length (drop (at + 1) bytes))))) some.0
    ∙ ap (λ line. Some (at + (1 + line))) (sym some.1)
