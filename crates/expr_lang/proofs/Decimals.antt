-- Digits after a point, one after the other.
use Rattle.std.proofs.Common.{◌≡◌, ℕ, zero, suc, ◌+◌, ◌-◌, ◌*◌, ◌/◌, ◌%◌, ◌^◌, ◌<◌, false, List, [], ◌∷◌, ◌++◌, refl, sym, ap}
use Rattle.std.proofs.Common.{◌∙◌, append_assoc, arith}
use Rattle.std.specs.Prelude.{nat_eq}
use Rattle.std.proofs.Math.Nat.{pow-suc, div-lt_iff_lt-mul}
use Rattle.std.proofs.lemmas.Bool.Decides.{nat_tests}
use Rattle.expr_lang.specs.Print.{decimals_text}

pub one_place : (k n : ℕ) → 0 < n → decimals_text (suc k) n ≡ (48 + n / 10 ^ k) ∷ decimals_text k (n % 10 ^ k)
one_place k n some = let e : nat_eq n 0 ≡ false = grind (arith, nat_tests) in rw e refl

pub no_rest : (k : ℕ) → decimals_text k 0 ≡ []
no_rest zero = refl
no_rest (suc k) = refl

pub tens_some : (k : ℕ) → 0 < 10 ^ k
tens_some zero = omega arith
tens_some (suc k) = omega (arith, pow-suc 10 k, tens_some k)

pub digit_below : (k n : ℕ) → n < 10 ^ suc k → n / 10 ^ k < 10
digit_below k n lt = below (10 ^ k) n (tens_some k) (omega (arith, pow-suc 10 k))
  where
    below : (d m : ℕ) → 0 < d → m < d * 10 → m / d < 10
    below d m some lt = (div-lt_iff_lt-mul some).1 (omega arith)

pub part_below : (k n : ℕ) → n % 10 ^ k < 10 ^ k
part_below k n = omega (arith, tens_some k)

-- one digit more
pub digits_on : (out total : List ℕ) (p left one : ℕ) → 0 < p → 0 < left → one ≡ 10 ^ (p - 1) → out ++ decimals_text p left ≡ total
    → (out ++ (48 + left / one) ∷ []) ++ decimals_text (p - 1) (left % one) ≡ total
digits_on out total p left one positive some is so_far =
    let e : p ≡ suc (p - 1) = omega arith in
    append_assoc out ((48 + left / one) ∷ []) (decimals_text (p - 1) (left % one))
    ∙ ap (λ (d : ℕ). out ++ (48 + left / d) ∷ decimals_text (p - 1) (left % d)) is
    ∙ ap (λ (t : List ℕ). out ++ t) (sym (one_place (p - 1) left some))
    ∙ ap (λ (k : ℕ). out ++ decimals_text k left) (sym e)
    ∙ so_far
