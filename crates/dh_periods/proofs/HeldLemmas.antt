-- What a period holds, in the numbers that its methods compute with.
use Rattle.std.proofs.Common.{◌≡◌, pos, neg_ℤ, inl, inr, true, false, ◌&&◌, refl, sym, ◌∙◌, arith, w32, of_z, to_z, to_z-of_z, FitsSigned, ℤ, ◌≤ℤ◌}
use Rattle.std.specs.Prelude.{int_le}
use Rattle.std.proofs.lemmas.Bool.{cases_Bool, and_right}
use Rattle.jiff_core.proofs.SignedLemmas.{signed_arith}
use borrow.Author.Differences.{le-true, le-false}
use Rattle.dh_periods.specs.declared.name.PeriodName.{PeriodName}
use Rattle.dh_periods.specs.declared.period.Period.TheInside.{Inside}
use Rattle.dh_periods.specs.Days.{is_listed, first_day, last_day, is_inside}
use Rattle.dh_periods.specs.Held.{IsHeld}
use Rattle.dh_periods.proofs.BoundLemmas.{day-bounds}

pub inside-first : (a : Inside) → IsHeld a → to_z w32 (of_z w32 a.first) ≡ first_day a.name
inside-first a h =
    let b = day-bounds a.name h.0 in
    let fits : FitsSigned w32 (first_day a.name) = omega (arith, signed_arith) in
    rw h.1 (to_z-of_z fits)

pub inside-last : (a : Inside) → IsHeld a → to_z w32 (of_z w32 a.last) ≡ last_day a.name
inside-last a h =
    let b = day-bounds a.name h.0 in
    let fits : FitsSigned w32 (last_day a.name) = omega (arith, signed_arith) in
    rw h.2 (to_z-of_z fits)

pub int_le-at : (a b : ℤ) → a ≤ℤ b → int_le a b ≡ true
int_le-at a b h =
    elim (cases_Bool (int_le a b)) [
      | inl yes_is ↦ yes_is
      | inr not_is ↦ let back = le-false a b not_is in absurd (omega (arith, signed_arith))
    ]

pub int_le-yes : (a b : ℤ) → int_le a b ≡ true → a ≤ℤ b
int_le-yes a b e = let h = le-true a b e in omega (arith, signed_arith)

-- with the first days in order, the last days decide
pub is_inside-by_last : (p q : PeriodName) → is_listed p ≡ true → is_listed q ≡ true → first_day q ≤ℤ first_day p
    → int_le (last_day p) (last_day q) ≡ is_inside p q
unfolding is_inside
is_inside-by_last p q hp hq order =
    let b = day-bounds p hp in
    elim (cases_Bool (int_le (last_day p) (last_day q))) [
      | inl within ↦
          let ends : last_day p ≤ℤ last_day q = int_le-yes _ _ within in
          let one = int_le-at (first_day q) (first_day p) order in
          let two = int_le-at (first_day p) (last_day q) (omega (arith, signed_arith)) in
          let three = int_le-at (first_day q) (last_day p) (omega (arith, signed_arith)) in
          rw (one, two, three) refl
      | inr beyond ↦
          let late = and_right (int_le (first_day q) (last_day p)) (int_le (last_day p) (last_day q)) beyond in
          beyond ∙ sym (and_right (int_le (first_day q) (first_day p) && int_le (first_day p) (last_day q)) _ late)
    ]

pub is_inside-not : (p q : PeriodName) → int_le (first_day q) (first_day p) ≡ false → int_le (first_day q) (first_day p) ≡ is_inside p q
unfolding is_inside
is_inside-not p q e = rw e refl

pub held-inside : (a b : Inside) (p q : PeriodName) → IsHeld a → IsHeld b → a.name ≡ p → b.name ≡ q
    → int_le (to_z w32 (of_z w32 b.first)) (to_z w32 (of_z w32 a.first)) ≡ true
    → int_le (to_z w32 (of_z w32 a.last)) (to_z w32 (of_z w32 b.last)) ≡ is_inside p q
held-inside a b p q ha hb ep eq e =
    let test : int_le (first_day b.name) (first_day a.name) ≡ true = rw (inside-first a ha, inside-first b hb) at e in
    rw (inside-last a ha, inside-last b hb, ← ep, ← eq) (is_inside-by_last a.name b.name ha.0 hb.0 (int_le-yes _ _ test))

pub held-outside : (a b : Inside) (p q : PeriodName) → IsHeld a → IsHeld b → a.name ≡ p → b.name ≡ q
    → int_le (to_z w32 (of_z w32 b.first)) (to_z w32 (of_z w32 a.first)) ≡ false
    → int_le (to_z w32 (of_z w32 b.first)) (to_z w32 (of_z w32 a.first)) ≡ is_inside p q
held-outside a b p q ha hb ep eq e =
    let test : int_le (first_day b.name) (first_day a.name) ≡ false = rw (inside-first a ha, inside-first b hb) at e in
    rw (inside-first a ha, inside-first b hb, ← ep, ← eq) (is_inside-not a.name b.name test)

-- a first day fits the machine's numbers
pub first-in : (first : ℤ) (p : PeriodName) → is_listed p ≡ true → first ≡ first_day p
    → (neg_ℤ (pos 25567) ≤ℤ to_z w32 (of_z w32 first)) × (to_z w32 (of_z w32 first) ≤ℤ pos 48119) × (to_z w32 (of_z w32 first) ≡ first)
first-in first p h e =
    let b = day-bounds p h in
    let fits : FitsSigned w32 (first_day p) = omega (arith, signed_arith) in
    let back : to_z w32 (of_z w32 (first_day p)) ≡ first_day p = to_z-of_z fits in
    rw e (rw back b.0, rw back (omega (arith, signed_arith)), back)
