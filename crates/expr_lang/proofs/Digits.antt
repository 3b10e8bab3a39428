-- Digits at the front of a text.
use Rattle.std.proofs.Common.{◌≡◌, ℕ, zero, suc, ◌+◌, ◌-◌, ◌*◌, ◌^◌, ◌<◌, ◌≤◌, true, false, List, [], ◌∷◌, length, get_or, drop, refl}
use Rattle.std.proofs.Common.{ap, subst, ◌∙◌, add-one, arith}
use Rattle.std.specs.Char.{is_ascii_digit, digit_value}
use Rattle.std.proofs.Math.Seq.{drop-cons}
use Rattle.std.proofs.Math.Nat.{pow-suc}
use Rattle.std.proofs.lemmas.Bool.Decides.{nat_tests}
use Rattle.std.proofs.lemmas.List.{length-drop}
use Rattle.expr_lang.specs.Token.{digit_count, front_of}

pub digit_is : (b : ℕ) → is_ascii_digit b ≡ true → (digit_value b ≡ b - 48) × (b - 48 < 10) × (48 ≤ b)
digit_is b h = (grind (arith, nat_tests), grind (arith, nat_tests), grind (arith, nat_tests))

pub count_at : (m n : ℕ) (bs : List ℕ) → n < m → n < length bs → is_ascii_digit (get_or bs n 0) ≡ true
    → digit_count (m - n) (drop n bs) ≡ suc (digit_count (m - (n + 1)) (drop (n + 1) bs))
count_at m n bs below within digit =
    let e : m - n ≡ suc (m - (n + 1)) = omega arith in
    let f : suc n ≡ n + 1 = omega arith in
    rw (e, drop-cons bs n 0 within, digit, f) refl

pub count_stop : (m n : ℕ) (bs : List ℕ) → n < length bs → is_ascii_digit (get_or bs n 0) ≡ false → digit_count (m - n) (drop n bs) ≡ 0
count_stop m n bs within other = stop (m - n)
  where
    stop : (k : ℕ) → digit_count k (drop n bs) ≡ 0
    stop zero = refl
    stop (suc k) = rw (drop-cons bs n 0 within, other) refl

pub count_end : (m n : ℕ) (bs : List ℕ) → length bs ≤ n → digit_count (m - n) (drop n bs) ≡ 0
count_end m n bs past = none (m - n) (drop n bs) (omega (arith, length-drop n bs))
  where
    none : (k : ℕ) (xs : List ℕ) → length xs ≡ 0 → digit_count k xs ≡ 0
    none zero xs h = refl
    none (suc k) [] h = refl
    none (suc k) (x ∷ xs) h = absurd (omega arith)

pub count_most : (m n : ℕ) (bs : List ℕ) → m ≤ n → digit_count (m - n) (drop n bs) ≡ 0
count_most m n bs past = let e : m - n ≡ 0 = omega arith in rw e refl

pub ten_more : (n : ℕ) → 10 ^ (n + 1) ≡ 10 ^ n * 10
ten_more n = ap (λ (k : ℕ). 10 ^ k) (add-one n) ∙ pow-suc 10 n

pub tens_mono : (m k : ℕ) → 10 ^ m ≤ 10 ^ (m + k)
tens_mono m zero = let e : m + 0 ≡ m = omega arith in rw e (omega arith)
tens_mono m (suc k) = let e : m + suc k ≡ (m + k) + 1 = omega arith in rw e (omega (arith, ten_more (m + k), tens_mono m k))

pub tens_below : (m n : ℕ) → m ≤ n → 10 ^ m ≤ 10 ^ n
tens_below m n le = let e : m + (n - m) ≡ n = omega arith in subst (λ (k : ℕ). 10 ^ m ≤ 10 ^ k) e (tens_mono m (n - m))

-- no byte begins a word
pub front_ended : (word bytes : List ℕ) → length bytes ≡ 0 → front_of word bytes ≡ 0
front_ended [] bytes h = refl
front_ended (c ∷ cs) [] h = refl
front_ended (c ∷ cs) (b ∷ bs) h = absurd (omega arith)
