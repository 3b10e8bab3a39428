-- Months and days in order: which month has a day, and where years and weeks begin.
use Rattle.std.proofs.Common.{◌≡◌, ℕ, zero, suc, ◌+◌, ◌-◌, ◌*◌, ◌/◌, ◌%◌, ◌<◌, ◌≤◌, inl, inr, nat_le, refl, sym, ◌∙◌, arith, add-one}
use Rattle.std.proofs.lemmas.Bool.{cases_eq, cases_lt, cond-true, cond-false, le-leb, lt-leb}
use Rattle.dh_periods.specs.Calendar.{month_length, days_before_month, month_place, day_place, last_month_by, month_with, first_week}

pub month_length_bounds : (y m : ℕ) → (28 ≤ month_length y m) × (month_length y m ≤ 31)
month_length_bounds y m = grind arith

pub days_before_month-zero : days_before_month 0 ≡ 0
unfolding days_before_month
days_before_month-zero = refl

-- the next month begins after the days of this one
pub days_before_month-next : (k : ℕ) → days_before_month (k + 1) ≡ days_before_month k + month_length (1900 + k / 12) (k % 12 + 1)
unfolding days_before_month
days_before_month-next k = rw add-one refl

pub days_before_month-add : (k j : ℕ) → (days_before_month k + 28 * j ≤ days_before_month (k + j)) × (days_before_month (k + j) ≤ days_before_month k + 31 * j)
days_before_month-add k zero = let e : k + 0 ≡ k = omega arith in rw e (omega arith, omega arith)
days_before_month-add k (suc j) =
    let e : k + suc j ≡ k + j + 1 = omega arith in
    let more = days_before_month-add k j in
    let next = days_before_month-next (k + j) in
    let bounds = month_length_bounds (1900 + (k + j) / 12) ((k + j) % 12 + 1) in
    rw e (omega (arith, more, next, bounds), omega (arith, more, next, bounds))

-- a later month begins later, each at least 28 days and at most 31
pub days_before_month-later : (k l : ℕ) → k ≤ l
    → (days_before_month k + 28 * (l - k) ≤ days_before_month l) × (days_before_month l ≤ days_before_month k + 31 * (l - k))
days_before_month-later k l h =
    let e : k + (l - k) ≡ l = omega arith in
    rw e at (days_before_month-add k (l - k))

last_month_by-is : (f k n : ℕ) → k ≤ f → days_before_month k ≤ n → n < days_before_month (k + 1) → last_month_by f n ≡ k
unfolding last_month_by
last_month_by-is zero k n h low high = omega arith
last_month_by-is (suc f) k n h low high =
    elim (cases_eq k (suc f)) [
      | inl same ↦
          let begun : days_before_month (suc f) ≤ n = rw same at low in
          cond-true (nat_le (days_before_month (suc f)) n) (suc f) (last_month_by f n) (le-leb _ _ begun) ∙ sym same
      | inr other ↦
          let below : k ≤ f = omega (arith, other) in
          let later = days_before_month-later (k + 1) (suc f) (omega arith) in
          let ahead : n < days_before_month (suc f) = omega arith in
          cond-false (nat_le (days_before_month (suc f)) n) (suc f) (last_month_by f n) (lt-leb _ _ ahead) ∙ last_month_by-is f k n below low high
    ]

last_month_by-bounds : (f n : ℕ) → n < days_before_month (f + 1) → (days_before_month (last_month_by f n) ≤ n) × (n < days_before_month (last_month_by f n + 1))
unfolding last_month_by
last_month_by-bounds zero n high = (rw days_before_month-zero (omega arith), high)
last_month_by-bounds (suc f) n high =
    elim (cases_lt n (days_before_month (suc f))) [
      | inl ahead ↦
          let e = cond-false (nat_le (days_before_month (suc f)) n) (suc f) (last_month_by f n) (lt-leb _ _ ahead) in
          let back : n < days_before_month (f + 1) = rw add-one ahead in
          rw e (last_month_by-bounds f n back)
      | inr begun ↦
          let e = cond-true (nat_le (days_before_month (suc f)) n) (suc f) (last_month_by f n) (le-leb _ _ begun) in
          rw e (begun, high)
    ]

-- the month in which a day lies is the month with that day
pub month_with-is : (k n : ℕ) → days_before_month k ≤ n → n < days_before_month (k + 1) → month_with n ≡ k
unfolding month_with
month_with-is k n low high =
    let far = days_before_month-later 0 k (omega arith) in
    last_month_by-is n k n (omega (arith, days_before_month-zero)) low high

-- and a day lies in the month with it
pub month_with-bounds : (n : ℕ) → (days_before_month (month_with n) ≤ n) × (n < days_before_month (month_with n + 1))
unfolding month_with
month_with-bounds n =
    let far = days_before_month-later 0 (n + 1) (omega arith) in
    last_month_by-bounds n n (omega (arith, days_before_month-zero))

-- a day lies in or after a month exactly where the month with it does
pub month_with-from : (k n : ℕ) → days_before_month k ≤ n → k ≤ month_with n
month_with-from k n low =
    let b = month_with-bounds n in
    elim (cases_lt (month_with n) k) [
      | inl less ↦ let later = days_before_month-later (month_with n + 1) k (omega arith) in absurd (omega arith)
      | inr more ↦ more
    ]

pub month_with-before : (k n : ℕ) → n < days_before_month k → month_with n < k
month_with-before k n high =
    let b = month_with-bounds n in
    elim (cases_lt (month_with n) k) [
      | inl less ↦ less
      | inr more ↦ let later = days_before_month-later k (month_with n) more in absurd (omega arith)
    ]

-- the year's first Thursday lies in its week 1, a week being the days 7w to 7w + 6
pub first_week-thursday : (y : ℕ) → (day_place y 1 1 ≤ 7 * first_week y + 3) × (7 * first_week y + 3 < day_place y 1 1 + 7)
first_week-thursday y = (omega arith, omega arith)

-- a year's days are 365 or 366
pub year_bounds : (y : ℕ) → 1900 ≤ y → (day_place y 1 1 + 336 ≤ day_place (y + 1) 1 1) × (day_place (y + 1) 1 1 ≤ day_place y 1 1 + 372)
year_bounds y h =
    let later = days_before_month-later (month_place y 1) (month_place (y + 1) 1) (omega arith) in
    (omega arith, omega arith)

-- a month has at least 28 days
pub month_with-small : (n : ℕ) → 28 * month_with n ≤ n
month_with-small n =
    let b = month_with-bounds n in
    let later = days_before_month-later 0 (month_with n) (omega arith) in
    omega (arith, days_before_month-zero)
