-- The days of periods, counted from 1 January 1900.
use Rattle.std.proofs.Common.{◌≡◌, ◌∙◌, ℕ, ◌+◌, ◌<◌, ◌≤◌, Bool, true, false, ◌&&◌, ◌||◌, List, [], ◌∷◌, ◌++◌, length, take, get_or, ℤ, pos, neg_ℤ, ◌+ℤ◌}
use Rattle.std.proofs.Common.{◌-ℤ◌, ◌≤ℤ◌, unsigned_abs, FitsSigned, to_z, of_z, to_z-of_z, inl, inr, refl, sym, ap, arith}
use Rattle.std.specs.Prelude.{nat_le, nat_lt, int_le}
use Rattle.std.specs.Int.{w32}
use Rattle.std.proofs.lemmas.Bool.{cases_Bool, cases_lt, false≢true, le-leb, lt-leb, lt-ltb, le-ltb, and_right, and_from}
use Rattle.std.proofs.lemmas.Int.{ints}
use Rattle.std.proofs.lemmas.List.Folds.{list_any_more, list_any_at}
use Rattle.dh_periods.specs.declared.name.PeriodName.{PeriodName}
use Rattle.dh_periods.specs.Calendar.{unix_day}
use Rattle.dh_periods.specs.Days.{is_day_in, is_listed, first_day, last_day}
use Rattle.dh_periods.proofs.BoundLemmas.{day-bounds}
use Rattle.dh_periods.proofs.HeldLemmas.{int_le-at, int_le-yes}
use Rattle.dh_sharing.specs.Ranges.{is_in_range, is_within, AreApart, HoldsTheSame}
use Rattle.dh_sharing.proofs.RangeLemmas.{within-push}
use Rattle.org_tree.specs.Count.{count_below}
use Rattle.org_tree.proofs.CountLemmas.{count_below-agree, count_below-lt}
use Rattle.cell_values.specs.Cells.{is_day_of, days_in}
use Rattle.cell_values.specs.Counts.{covered}
use Rattle.cell_values.specs.Spans.{IsDayRange, AreDayRanges}
use Rattle.cell_values.proofs.SpanLemmas.{covered-count}

small_fits : (d e : ℤ) → neg_ℤ (pos 25567) ≤ℤ d → d ≤ℤ e → e ≤ℤ pos 48119 → FitsSigned w32 e
small_fits d e low upto high = omega (arith, ints)

above : (d e : ℤ) → neg_ℤ (pos 25567) ≤ℤ d → d ≤ℤ e → neg_ℤ (pos 25567) ≤ℤ e
above d e low upto = omega (arith, ints)

-- a last day fits the machine's numbers
pub last-in : (last : ℤ) (p : PeriodName) → is_listed p ≡ true → last ≡ last_day p
    → (neg_ℤ (pos 25567) ≤ℤ to_z w32 (of_z w32 last)) × (to_z w32 (of_z w32 last) ≤ℤ pos 48119) × (to_z w32 (of_z w32 last) ≡ last)
last-in last p h e =
    let b = day-bounds p h in
    let fits : FitsSigned w32 (last_day p) = small_fits (first_day p) (last_day p) b.0 b.1 b.2 in
    let back : to_z w32 (of_z w32 (last_day p)) ≡ last_day p = to_z-of_z fits in
    rw e (rw back (above (first_day p) (last_day p) b.0 b.1), rw back b.2, back)

from_place : (f n : ℕ) (d : ℤ) → pos f ≡ d +ℤ pos 25567 → nat_le f n ≡ int_le d (pos n -ℤ pos 25567)
from_place f n d is =
    elim (cases_lt n f) [
      | inl low ↦
          lt-leb f n low ∙ sym (elim (cases_Bool (int_le d (pos n -ℤ pos 25567))) [
            | inl holds ↦
                let h = int_le-yes d (pos n -ℤ pos 25567) holds in
                absurd (omega (arith, ints))
            | inr fails ↦ fails
          ])
      | inr high ↦ le-leb f n high ∙ sym (int_le-at d (pos n -ℤ pos 25567) (omega (arith, ints)))
    ]

upto_place : (l n : ℕ) (d : ℤ) → pos l ≡ d +ℤ pos 25567 → nat_lt n (l + 1) ≡ int_le (pos n -ℤ pos 25567) d
upto_place l n d is =
    elim (cases_lt n (l + 1)) [
      | inl low ↦ lt-ltb n (l + 1) low ∙ sym (int_le-at (pos n -ℤ pos 25567) d (omega (arith, ints)))
      | inr high ↦
          le-ltb n (l + 1) high ∙ sym (elim (cases_Bool (int_le (pos n -ℤ pos 25567) d)) [
            | inl holds ↦
                let h = int_le-yes (pos n -ℤ pos 25567) d holds in
                absurd (omega (arith, ints))
            | inr fails ↦ fails
          ])
    ]

pub day_range-is : (p : PeriodName) (f l : ℕ) → pos f ≡ first_day p +ℤ pos 25567 → pos l ≡ last_day p +ℤ pos 25567 → l ≤ 73686 → IsDayRange p (f, l + 1)
day_range-is p f l first last most = record {
  members = λ n. ap (λ b. b && nat_lt n (l + 1)) (from_place f n (first_day p) first)
      ∙ ap (λ b. int_le (first_day p) (unix_day n) && b) (upto_place l n (last_day p) last);
  below = omega (arith, most);
}

past_one : (range : ℕ × ℕ) (n : ℕ) → range.1 ≤ n → is_in_range n range ≡ false
past_one range n past = and_right (nat_le range.0 n) (nat_lt n range.1) (le-ltb n range.1 past)

-- one period more
pub days-more : (periods : List PeriodName) (i : ℕ) (p : PeriodName) (ranges : List (ℕ × ℕ)) (range : ℕ × ℕ) → i < length periods → p ≡ get_or periods i p
    → AreDayRanges (take i periods) ranges → IsDayRange p range → AreDayRanges (take (i + 1) periods) (ranges ++ range ∷ [])
days-more periods i p ranges range within at before here = record {
  members = λ n.
      within-push ranges range n
      ∙ ap (λ b. b || is_in_range n range) (before.members n)
      ∙ ap (λ b. is_day_of (take i periods) n || b) (here.members n ∙ ap (λ q. is_day_in (unix_day n) q) at)
      ∙ sym (list_any_more (λ q. is_day_in (unix_day n) q) periods i p within);
  below = λ n past.
      within-push ranges range n ∙ ap (λ b. b || is_in_range n range) (before.below n past)
      ∙ past_one range n (let b = here.below in omega (arith, b, past));
}

pub days-none : AreDayRanges [] []
days-none = record { members = λ n. refl; below = λ n past. refl }

pub days-counted : (periods : List PeriodName) (ranges joined : List (ℕ × ℕ)) → AreDayRanges periods ranges → HoldsTheSame joined ranges → AreApart joined
    → covered joined ≡ days_in periods
unfolding days_in
days-counted periods ranges joined are same apart =
    covered-count joined 73687 apart (λ n past. same.members n ∙ are.below n past)
    ∙ count_below-agree (is_within joined) (is_day_of periods) 73687 (λ n h. same.members n ∙ are.members n)

first_place_of : ℤ → ℕ
first_place_of d = unsigned_abs (d +ℤ pos 25567)

first_place-is : (d : ℤ) → neg_ℤ (pos 25567) ≤ℤ d → pos (first_place_of d) ≡ d +ℤ pos 25567
unfolding first_place_of
first_place-is d low = omega (arith, ints)

from_first : (n : ℕ) (d : ℤ) → pos n ≡ d +ℤ pos 25567 → int_le d (pos n -ℤ pos 25567) ≡ true
from_first n d is = int_le-at d (pos n -ℤ pos 25567) (omega (arith, ints))

upto_last : (n : ℕ) (d e : ℤ) → pos n ≡ d +ℤ pos 25567 → d ≤ℤ e → int_le (pos n -ℤ pos 25567) e ≡ true
upto_last n d e is upto = int_le-at (pos n -ℤ pos 25567) e (omega (arith, ints))

small_place : (n : ℕ) (d e : ℤ) → pos n ≡ d +ℤ pos 25567 → d ≤ℤ e → e ≤ℤ pos 48119 → n < 73687
small_place n d e is upto most = omega (arith, ints)

some_counted : (test : ℕ → Bool) (n end : ℕ) → n < end → test n ≡ true → 0 < count_below test end
some_counted test n end within there =
    let more = count_below-lt (λ k. false) test end n (λ k h e. absurd (false≢true e)) within refl there in
    omega (arith, more)

day-inside : (p : PeriodName) (n : ℕ) → pos n ≡ first_day p +ℤ pos 25567 → first_day p ≤ℤ last_day p → is_day_in (unix_day n) p ≡ true
day-inside p n is upto = and_from _ _ (from_first n (first_day p) is) (upto_last n (first_day p) (last_day p) is upto)

-- a period has a day
pub days-some : (periods : List PeriodName) (p : PeriodName) → 0 < length periods → p ≡ get_or periods 0 p → is_listed p ≡ true → 0 < days_in periods
unfolding days_in
days-some periods p some at listed =
    let b = day-bounds p listed in
    let n = first_place_of (first_day p) in
    let is : pos n ≡ first_day p +ℤ pos 25567 = first_place-is (first_day p) b.0 in
    some_counted (is_day_of periods) n 73687 (small_place n (first_day p) (last_day p) is b.1 b.2)
    (list_any_at (λ q. is_day_in (unix_day n) q) periods 0 p some (ap (λ q. is_day_in (unix_day n) q) (sym at) ∙ day-inside p n is b.1))
