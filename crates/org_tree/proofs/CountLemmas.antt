-- Counts of the numbers below a bound that pass a test, and the first that passes.
use Rattle.std.proofs.Common.{add-one, ◌≡◌, ◌⊎◌, ℕ, zero, suc, ◌+◌, ◌<◌, ◌≤◌, Bool, true, false, cond, ◌==◌, ◌||◌, Some, None, refl, sym, ap, subst, inl}
use Rattle.std.proofs.Common.{inr, arith}
use Rattle.std.proofs.lemmas.Bool.{cases_Bool, cases_eq, eq-eqb, ne_eqb, false≢true}
use Rattle.org_tree.specs.Count.{count_below, or_else, first_below}

-- tests that agree below n count the same
pub count_below-agree : (p q : ℕ → Bool) (n : ℕ) → ((k : ℕ) → k < n → p k ≡ q k) → count_below p n ≡ count_below q n
count_below-agree p q zero same = refl
count_below-agree p q (suc n) same =
    let before : count_below p n ≡ count_below q n = count_below-agree p q n (λ k h. same k (omega arith)) in
    let here : p n ≡ q n = same n (omega arith) in
    cc

pub count_below-le : (p : ℕ → Bool) (n : ℕ) → count_below p n ≤ n
count_below-le p zero = omega arith
count_below-le p (suc n) =
    elim (p n) as (λ v. count_below p n + cond v 1 0 ≤ suc n)
    [ true ↦ omega (arith, count_below-le p n) | false ↦ omega (arith, count_below-le p n) ]

-- a test that passes more counts no less
pub count_below-more : (p q : ℕ → Bool) (n : ℕ) → ((k : ℕ) → k < n → p k ≡ true → q k ≡ true) → count_below p n ≤ count_below q n
count_below-more p q zero more = omega arith
count_below-more p q (suc n) more =
    let before : count_below p n ≤ count_below q n = count_below-more p q n (λ k h. more k (omega arith)) in
    let here : p n ≡ true → q n ≡ true = more n (omega arith) in
    step (p n) (q n) (count_below p n) (count_below q n) before here
  where
    step : (s t : Bool) (a b : ℕ) → a ≤ b → (s ≡ true → t ≡ true) → a + cond s 1 0 ≤ b + cond t 1 0
    step true true a b h i = omega arith
    step true false a b h i = absurd (false≢true (i refl))
    step false true a b h i = omega arith
    step false false a b h i = omega arith

-- and more where it passes one that the other does not
pub count_below-lt : (p q : ℕ → Bool) (n j : ℕ) → ((k : ℕ) → k < n → p k ≡ true → q k ≡ true) → j < n → p j ≡ false → q j ≡ true
    → count_below p n < count_below q n
count_below-lt p q zero j more in_range off on = absurd (omega arith)
count_below-lt p q (suc n) j more in_range off on =
    elim (cases_eq j n) [
      | inl here ↦
          let before : count_below p n ≤ count_below q n = count_below-more p q n (λ k h. more k (omega arith)) in
          let off_here : p n ≡ false = subst (λ (v : ℕ). p v ≡ false) here off in
          let on_here : q n ≡ true = subst (λ (v : ℕ). q v ≡ true) here on in
          rw (off_here, on_here) (omega arith)
      | inr other ↦
          let before : count_below p n < count_below q n = count_below-lt p q n j (λ k h. more k (omega arith)) (omega arith) off on in
          step (p n) (q n) (count_below p n) (count_below q n) before (more n (omega arith))
    ]
  where
    step : (s t : Bool) (a b : ℕ) → a < b → (s ≡ true → t ≡ true) → a + cond s 1 0 < b + cond t 1 0
    step true true a b h i = omega arith
    step true false a b h i = absurd (false≢true (i refl))
    step false true a b h i = omega arith
    step false false a b h i = omega arith

-- what passes one of two tests that never pass together
pub count_below-or : (p q : ℕ → Bool) (n : ℕ) → ((k : ℕ) → k < n → p k ≡ true → q k ≡ false)
    → count_below (λ k. p k || q k) n ≡ count_below p n + count_below q n
count_below-or p q zero apart = refl
count_below-or p q (suc n) apart =
    let before : count_below (λ k. p k || q k) n ≡ count_below p n + count_below q n = count_below-or p q n (λ k h. apart k (omega arith)) in
    step (p n) (q n) (count_below (λ k. p k || q k) n) (count_below p n) (count_below q n) before (apart n (omega arith))
  where
    step : (s t : Bool) (a b c : ℕ) → a ≡ b + c → (s ≡ true → t ≡ false) → a + cond (s || t) 1 0 ≡ (b + cond s 1 0) + (c + cond t 1 0)
    step true true a b c h i = absurd (false≢true (sym (i refl)))
    step true false a b c h i = omega arith
    step false true a b c h i = omega arith
    step false false a b c h i = omega arith

-- none passes
pub count_below-none : (p : ℕ → Bool) (n : ℕ) → ((k : ℕ) → k < n → p k ≡ false) → count_below p n ≡ 0
count_below-none p zero never = refl
count_below-none p (suc n) never =
    let before : count_below p n ≡ 0 = count_below-none p n (λ k h. never k (omega arith)) in
    let here : p n ≡ false = never n (omega arith) in
    rw (here, before) refl

-- one number is counted once
pub count_below-one : (x n : ℕ) → x < n → count_below (λ k. k == x) n ≡ 1
count_below-one x zero in_range = absurd (omega arith)
count_below-one x (suc n) in_range =
    elim (cases_eq n x) [
      | inl here ↦
          let before : count_below (λ k. k == x) n ≡ 0 = count_below-none (λ k. k == x) n (λ k h. ne_eqb k x (λ e. omega arith)) in
          let found : (n == x) ≡ true = eq-eqb n x here in
          rw (found, before) refl
      | inr other ↦
          let before : count_below (λ k. k == x) n ≡ 1 = count_below-one x n (omega arith) in
          let missed : (n == x) ≡ false = ne_eqb n x other in
          rw (missed, before) refl
    ]

-- the first number that passes
pub record IsFirst (p : ℕ → Bool) (n k : ℕ) : Type 0 where
  pub below : k < n
  pub passes : p k ≡ true
  pub none_before : (j : ℕ) → j < k → p j ≡ false

pub first_below_tells : (p : ℕ → Bool) (n : ℕ)
    → ((k : ℕ) × (first_below p n ≡ Some k) × IsFirst p n k) ⊎ ((first_below p n ≡ None) × ((j : ℕ) → j < n → p j ≡ false))
first_below_tells p zero = inr (refl, λ j h. absurd (omega arith))
first_below_tells p (suc n) =
    elim (first_below_tells p n) [
      | inl found ↦ inl (
        found.0,
        ap (λ o. or_else o (cond (p n) (Some n) None)) found.1,
        record { below = omega (arith, found.2.below); passes = found.2.passes; none_before = found.2.none_before },
      )
      | inr none ↦
          elim (cases_Bool (p n)) [
            | inl on ↦ inl (n, rw (none.0, on) refl, record { below = omega arith; passes = on; none_before = none.1 })
            | inr off ↦ inr (
              rw (none.0, off) refl,
              λ j h. elim (cases_eq j n) [ inl here ↦ subst (λ (v : ℕ). p v ≡ false) (sym here) off | inr other ↦ none.1 j (omega arith) ],
            )
          ]
    ]

-- the steps of a search for the first that passes
pub first_below-more : (p : ℕ → Bool) (i : ℕ) → first_below p i ≡ None → p i ≡ false → first_below p (i + 1) ≡ None
first_below-more p i none off = rw add-one (rw (none, off) refl)

pub first_below-found : (p : ℕ → Bool) (n i : ℕ) → first_below p i ≡ None → p i ≡ true → i < n → first_below p n ≡ Some i
first_below-found p zero i none on h = absurd (omega arith)
first_below-found p (suc n) i none on h =
    elim (cases_eq n i) [
      | inl here ↦
          let none_here : first_below p n ≡ None = subst (λ (v : ℕ). first_below p v ≡ None) (sym here) none in
          let on_here : p n ≡ true = subst (λ (v : ℕ). p v ≡ true) (sym here) on in
          rw (none_here, on_here) (ap Some here)
      | inr other ↦
          let before : first_below p n ≡ Some i = first_below-found p n i none on (omega arith) in
          rw before refl
    ]

pub ruleset searches = (first_below-more, first_below-found)

pub first_below-agree : (p q : ℕ → Bool) (n : ℕ) → ((k : ℕ) → k < n → p k ≡ q k) → first_below p n ≡ first_below q n
first_below-agree p q zero same = refl
first_below-agree p q (suc n) same =
    let before : first_below p n ≡ first_below q n = first_below-agree p q n (λ k h. same k (omega arith)) in
    let here : p n ≡ q n = same n (omega arith) in
    cc
