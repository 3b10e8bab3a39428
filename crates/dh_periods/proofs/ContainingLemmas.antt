-- The period that is found for two days is the one that has them.
use Rattle.std.proofs.Common.{◌≡◌, ℕ, ◌<◌, ◌≤◌, ◌⊎◌, inl, inr, Bool, true, ◌&&◌, if◌then◌else◌, Option, Some, None, refl, sym, ap, subst, ◌∙◌, arith, ℤ, pos}
use Rattle.std.proofs.Common.{negsuc, neg_ℤ, ◌+ℤ◌, ◌≤ℤ◌, ◌<ℤ◌}
use Rattle.std.specs.Prelude.{unsigned_abs, int_le, IfSome, IfNone, IsTrue}
use Rattle.std.proofs.lemmas.Bool.{cases_Bool, and_parts}
use Rattle.jiff_core.proofs.SignedLemmas.{signed_arith}
use Rattle.dh_periods.specs.declared.kind.PeriodType.{PeriodType}
use Rattle.dh_periods.specs.declared.name.PeriodName.{PeriodName}
use Rattle.dh_periods.specs.Days.{is_listed, listed, first_place, end_place, first_day, last_day}
use Rattle.dh_periods.specs.Places.{nth_period, place_with, candidate, containing_of, has_days, Has}
use Rattle.dh_periods.proofs.HeldLemmas.{int_le-at, int_le-yes}
use Rattle.dh_periods.proofs.BoundLemmas.{day-bounds}
use Rattle.dh_periods.proofs.TextLemmas.{some_when}
use Rattle.dh_periods.proofs.PlaceLemmas.{nth_period-ordinal, place_with-day, nth_period-kind}

cases_option : {A : Type 0} (o : Option A) → (o ≡ None) ⊎ ((x : A) × (o ≡ Some x))
cases_option None = inl refl
cases_option (Some x) = inr (x, refl)

abs-nonnegative : (z : ℤ) → pos 0 ≤ℤ z → pos (unsigned_abs z) ≡ z
abs-nonnegative (pos n) h = refl
abs-nonnegative (negsuc n) h = absurd (omega (arith, signed_arith))

-- a day since 1 January 1900 comes back from its place
pub unix_day-place : (day : ℤ) → neg_ℤ (pos 25567) ≤ℤ day → pos (unsigned_abs (day +ℤ pos 25567)) ≡ day +ℤ pos 25567
unix_day-place day h = abs-nonnegative (day +ℤ pos 25567) (omega (arith, signed_arith))

-- the period with a day is the candidate for it
pub candidate-is : (p : PeriodName) (day : ℤ) → is_listed p ≡ true → first_day p ≤ℤ day → day ≤ℤ last_day p → candidate p.kind day ≡ p
unfolding candidate first_day last_day
candidate-is p day h from to =
    let n = unsigned_abs (day +ℤ pos 25567) in
    let bounds = day-bounds p h in
    let after : neg_ℤ (pos 25567) ≤ℤ day = omega (arith, signed_arith) in
    let back = unix_day-place day after in
    let low : first_place p ≤ n = omega (arith, signed_arith) in
    let high : n < end_place p = omega (arith, signed_arith) in
    ap (nth_period p.kind) (place_with-day p n h low high) ∙ nth_period-ordinal p h

pub candidate-kind : (kind : PeriodType) (day : ℤ) → (candidate kind day).kind ≡ kind
unfolding candidate
candidate-kind kind day = nth_period-kind kind (place_with kind (unsigned_abs (day +ℤ pos 25567)))

pub containing_of-has : (kind : PeriodType) (first last : ℤ) (p : PeriodName) → is_listed p ≡ true → p.kind ≡ kind → Has p first last
    → containing_of kind first last ≡ Some p
unfolding containing_of has_days
containing_of-has kind first last p h same has =
    let P : PeriodType → Type 0 = λ k. candidate k first ≡ p in
    let is : candidate kind first ≡ p = subst P same (candidate-is p first h has.0 (omega (arith, signed_arith))) in
    let one = int_le-at (first_day p) first has.0 in
    let two = int_le-at first last has.1 in
    let three = int_le-at last (last_day p) has.2 in
    rw is (rw (h, one, two, three) refl)

pub containing_of-is : (kind : PeriodType) (first last : ℤ) (p : PeriodName) → containing_of kind first last ≡ Some p
    → (is_listed p ≡ true) × (p.kind ≡ kind) × Has p first last
unfolding containing_of has_days
containing_of-is kind first last p e =
    let q = candidate kind first in
    let taken = some_when (is_listed q && has_days q first last) q p e in
    let a = and_parts (is_listed q) (int_le (first_day q) first && (int_le first last && int_le last (last_day q))) taken.0 in
    let b = and_parts (int_le (first_day q) first) (int_le first last && int_le last (last_day q)) a.1 in
    let c = and_parts (int_le first last) (int_le last (last_day q)) b.1 in
    let P : PeriodName → Type 0 = λ r. (is_listed r ≡ true) × (r.kind ≡ kind) × Has r first last in
    subst P taken.1 (a.0, candidate-kind kind first, (int_le-yes (first_day q) first b.0, int_le-yes first last c.0, int_le-yes last (last_day q) c.1))

pub containing-found : (kind : PeriodType) (first last : ℤ) (r : Option PeriodName) → r ≡ containing_of kind first last
    → IfSome r (λ p. (p.kind ≡ kind) × Has p first last)
containing-found kind first last None e = tt
containing-found kind first last (Some p) e = let is = containing_of-is kind first last p (sym e) in (is.1, is.2)

pub containing-none : (kind : PeriodType) (first last : ℤ) (r : Option PeriodName) → r ≡ containing_of kind first last
    → IfNone r ((p : PeriodName) → IsTrue (is_listed p) → p.kind ≡ kind → ¬ Has p first last)
containing-none kind first last None e = λ p h same has. let found = containing_of-has kind first last p h same has in cc
containing-none kind first last (Some p) e = tt

-- no period has a day before 1900 or after September 2101
pub containing_of-outside : (kind : PeriodType) (first last : ℤ) → (first <ℤ neg_ℤ (pos 25567)) ⊎ (pos 48119 <ℤ first) → None ≡ containing_of kind first last
containing_of-outside kind first last out =
    elim (cases_option (containing_of kind first last)) [
      | inl none ↦ sym none
      | inr some ↦
          let is = containing_of-is kind first last some.0 some.1 in
          let bounds = day-bounds some.0 is.0 in
          let has = is.2 in
          absurd (elim out [ inl early ↦ omega (arith, signed_arith) | inr late ↦ omega (arith, signed_arith) ])
    ]

-- the candidate is taken where it is listed and has the days
pub containing_of-listed : (kind : PeriodType) (first last : ℤ) (p : PeriodName) (taken : Bool) → Some p ≡ listed (candidate kind first)
    → taken ≡ has_days p first last → (if taken then Some p else None) ≡ containing_of kind first last
unfolding containing_of
containing_of-listed kind first last p taken e t =
    let there = some_when (is_listed (candidate kind first)) (candidate kind first) p (sym e) in
    rw (there.0, there.1, t) refl

pub containing_of-unlisted : (kind : PeriodType) (first last : ℤ) → None ≡ listed (candidate kind first) → None ≡ containing_of kind first last
unfolding containing_of
containing_of-unlisted kind first last e =
    elim (cases_Bool (is_listed (candidate kind first))) [
      | inl there ↦ let some : listed (candidate kind first) ≡ Some (candidate kind first) = rw there refl in absurd (cc)
      | inr not_there ↦ rw not_there refl
    ]

-- the candidate by the place of the day
pub candidate-at : (kind : PeriodType) (first : ℤ) (n : ℕ) (r : PeriodName) → pos n ≡ first +ℤ pos 25567 → r ≡ nth_period kind (place_with kind n)
    → r ≡ candidate kind first
unfolding candidate
candidate-at kind first n r place e =
    let same : n ≡ unsigned_abs (first +ℤ pos 25567) = ap unsigned_abs place in
    rw (← same) e

pub has_days-is : (p : PeriodName) (first last : ℤ) (t : Bool) → t ≡ (int_le (first_day p) first && (int_le first last && int_le last (last_day p)))
    → t ≡ has_days p first last
unfolding has_days
has_days-is p first last t e = e
