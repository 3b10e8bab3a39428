-- How long the text of a period is, and when a text is a period's own.
use Rattle.std.proofs.Common.{◌≡◌, ◌∙◌, ℕ, ◌+◌, ◌-◌, ◌*◌, ◌/◌, ◌<◌, ◌≤◌, true, false, cond, List, ◌++◌, length, Some, None, refl, sym, ap, subst, arith, ℤ}
use Rattle.std.proofs.Common.{pos, ◌+ℤ◌, ◌≤ℤ◌, ◌<ℤ◌, w32, of_z, to_z, to_z-of_z, FitsSigned, inl, inr}
use Rattle.std.specs.Prelude.{int_lt, nat_lt, nat_eq, bytes_eq, ◌-ℤ◌, option_and_then, codes, if◌then◌else◌}
use Rattle.std.proofs.lemmas.Bool.{eq-eqb, eqb-true, cases_lt, le-ltb, lt-ltb}
use Rattle.std.proofs.lemmas.Slice.Eq.{bytes_eq-Decides}
use Rattle.jiff_core.proofs.SignedLemmas.{signed_arith}
use Rattle.dh_periods.specs.declared.kind.PeriodType.{PeriodType}
use Rattle.dh_periods.specs.declared.kind.PeriodType.TheVariants.{Daily, Weekly, Monthly, BiMonthly, Quarterly, SixMonthly, SixMonthlyApril, Yearly}
use Rattle.dh_periods.specs.declared.kind.PeriodType.TheVariants.{FinancialApril, FinancialJuly, FinancialOct}
use Rattle.dh_periods.specs.declared.name.PeriodName.{PeriodName}
use Rattle.dh_periods.specs.Calendar.{days_before_month, first_week, weeks_in_year, unix_day}
use Rattle.dh_periods.specs.Types.{shape_of}
use Rattle.dh_periods.specs.Days.{is_in_year_as, is_listed, first_place_as, first_place, end_place, first_day, last_day}
use Rattle.dh_periods.specs.Places.{containing_of, Has}
use Rattle.dh_periods.specs.Texts.{four_digits, two_digits, one_digit, short_digits, ending_as, period_text, padded_text, period_of, IsTextOf}
use Rattle.dh_periods.proofs.ListedLemmas.{listed-parts, listed-from}
use borrow.Author.Differences.{lt-true, lt-false}
use Rattle.dh_periods.proofs.BoundLemmas.{number-parts, day-bounds}
use Rattle.dh_periods.proofs.ContainingLemmas.{containing_of-has}
use Rattle.dh_periods.proofs.TextLemmas.{period_of-is}
use Rattle.change_log.specs.Reading.{canonical_of}

-- how long a text is, by its type and, for a week, its number
abbrev pub length_as : PeriodType → ℕ → ℕ
length_as Daily n = 8
length_as Weekly n = cond (nat_lt n 10) 6 7
length_as Monthly n = 6
length_as BiMonthly n = 7
length_as Quarterly n = 6
length_as SixMonthly n = 6
length_as SixMonthlyApril n = 11
length_as Yearly n = 4
length_as FinancialApril n = 9
length_as FinancialJuly n = 8
length_as FinancialOct n = 7

ending-length : (kind : PeriodType) (y n d : ℕ) → length (four_digits y ++ ending_as kind n d) ≡ length_as kind n
ending-length Daily y n d = refl
ending-length Weekly y n d =
    elim (nat_lt n 10) as (λ b. length (four_digits y ++ (codes "W" ++ cond b (one_digit n) (two_digits n))) ≡ cond b 6 7) [ true ↦ refl | false ↦ refl ]
ending-length Monthly y n d = refl
ending-length BiMonthly y n d = refl
ending-length Quarterly y n d = refl
ending-length SixMonthly y n d = refl
ending-length SixMonthlyApril y n d = refl
ending-length Yearly y n d = refl
ending-length FinancialApril y n d = refl
ending-length FinancialJuly y n d = refl
ending-length FinancialOct y n d = refl

pub text-length : (p : PeriodName) (kind : PeriodType) → p.kind ≡ kind → length_as kind p.number ≡ length (period_text p)
unfolding period_text
text-length p kind same =
    ap (λ k. length_as k p.number) (sym same) ∙ sym (ending-length p.kind p.year p.number p.day)

some-same : {A : Type 0} (x y : A) → Some x ≡ Some y → x ≡ y
some-same x y e = cc

-- ---- weeks

-- the year of a week's Thursday
abbrev year_period : PeriodName → PeriodName
year_period p = record { kind = Yearly; year = p.year; number = 1; day = 1 }

-- how a week lies in its year: 12 * (y - 1900) months lie before the year
pub record Lies (p : PeriodName) : Type 0 where
  pub from : first_day p ≡ pos (7 * ((days_before_month (12 * (p.year - 1900)) + 3) / 7 + (p.number - 1))) -ℤ pos 25567
  pub number : 1 ≤ p.number
  pub first : first_day (year_period p) ≡ pos (days_before_month (12 * (p.year - 1900))) -ℤ pos 25567
  pub has : Has (year_period p) (first_day p +ℤ pos 3) (first_day p +ℤ pos 3)
  pub listed : is_listed (year_period p) ≡ true

week-lies : (p : PeriodName) → is_listed p ≡ true → p.kind ≡ Weekly → Lies p
unfolding first_day last_day first_place end_place
week-lies p h weekly =
    let parts = listed-parts p h in
    let in_year : is_in_year_as (shape_of Weekly) p ≡ true = sym (ap (λ k. is_in_year_as (shape_of k) p) weekly) ∙ parts.2 in
    let number = number-parts (weeks_in_year p.year) p in_year in
    let d : ℕ = days_before_month (12 * (p.year - 1900)) in
    let e : ℕ = days_before_month (12 * (p.year + 1 - 1900)) in
    let zero_more : 12 * (p.year - 1900) + 0 ≡ 12 * (p.year - 1900) = omega arith in
    let start : days_before_month (12 * (p.year - 1900) + 0) ≡ d = ap days_before_month zero_more in
    let zero_later : 12 * (p.year + 1 - 1900) + 0 ≡ 12 * (p.year + 1 - 1900) = omega arith in
    let later : days_before_month (12 * (p.year + 1 - 1900) + 0) ≡ e = ap days_before_month zero_later in
    let week : first_week p.year ≡ (d + 3) / 7 = omega (arith, start) in
    let next_week : first_week (p.year + 1) ≡ (e + 3) / 7 = omega (arith, later) in
    let opening : 12 * (p.year - 1900) + 0 + 12 * 0 ≡ 12 * (p.year - 1900) = omega arith in
    let first : days_before_month (12 * (p.year - 1900) + 0 + 12 * 0) ≡ d = ap days_before_month opening in
    let closing : 12 * (p.year - 1900) + 0 + 12 * 0 + 12 ≡ 12 * (p.year + 1 - 1900) = omega (arith, parts.0) in
    let end : days_before_month (12 * (p.year - 1900) + 0 + 12 * 0 + 12) ≡ e = ap days_before_month closing in
    let place : first_place p ≡ 7 * (first_week p.year + (p.number - 1)) = ap (λ k. first_place_as (shape_of k) p) weekly in
    let n : ℕ = 7 * ((d + 3) / 7 + (p.number - 1)) in
    let at : first_place p ≡ n = place ∙ ap (λ w. 7 * (w + (p.number - 1))) week in
    let from : first_day p ≡ pos n -ℤ pos 25567 = ap unix_day at in
    let began : first_day (year_period p) ≡ pos d -ℤ pos 25567 = ap unix_day first in
    let ended : last_day (year_period p) ≡ (pos e -ℤ pos 25567) -ℤ pos 1 = ap (λ m. unix_day m -ℤ pos 1) end in
    let low : d ≤ n + 3 = omega arith in
    let high : n + 3 < e = omega (arith, number.0, number.1, week, next_week) in
    record {
      from = from;
      number = number.0;
      first = began;
      has = (omega (arith, signed_arith), omega (arith, signed_arith), omega (arith, signed_arith));
      listed = listed-from (year_period p) parts.0 parts.1 refl;
    }

tests-same : (z : ℤ) (n : ℕ) → (n < 10 → z <ℤ pos 63) → (10 ≤ n → pos 63 ≤ℤ z) → int_lt z (pos 63) ≡ nat_lt n 10
tests-same z n below above =
    elim (int_lt z (pos 63)) as (λ b. int_lt z (pos 63) ≡ b → b ≡ nat_lt n 10) [
      | true ↦ λ less.
          let l = lt-true z (pos 63) less in
          elim (cases_lt n 10) [
            | inl lt ↦ sym (lt-ltb n 10 lt)
            | inr le ↦ let a = above le in absurd (omega (arith, signed_arith))
          ]
      | false ↦ λ more.
          let l = lt-false z (pos 63) more in
          elim (cases_lt n 10) [
            | inl lt ↦ let b = below lt in absurd (omega (arith, signed_arith))
            | inr le ↦ sym (le-ltb n 10 le)
          ]
    ] refl

-- the number of a week has one digit where its Thursday is one of the first 63 days of the year
pub one_digit-is : (p q : PeriodName) (t : ℤ) → is_listed p ≡ true → p.kind ≡ Weekly → t ≡ first_day p +ℤ pos 3 → Some q ≡ containing_of Yearly t t
    → (q ≡ year_period p) × (int_lt (t -ℤ first_day q) (pos 63) ≡ nat_lt p.number 10) × (first_day q ≤ℤ t)
one_digit-is p q t h weekly at found =
    let lies = week-lies p h weekly in
    let has : Has (year_period p) t t = subst (λ s. Has (year_period p) s s) (sym at) lies.has in
    let same : q ≡ year_period p = some-same q (year_period p) (found ∙ containing_of-has Yearly t t (year_period p) lies.listed refl has) in
    let began : first_day q ≡ pos (days_before_month (12 * (p.year - 1900))) -ℤ pos 25567 = ap first_day same ∙ lies.first in
    let d : ℕ = days_before_month (12 * (p.year - 1900)) in
    let from = lies.from in
    let number = lies.number in
    (same, tests-same (t -ℤ first_day q) p.number (omega (arith, signed_arith)) (omega (arith, signed_arith)), omega (arith, signed_arith))

-- such a year is found
pub year-found : (p : PeriodName) (t : ℤ) → is_listed p ≡ true → p.kind ≡ Weekly → t ≡ first_day p +ℤ pos 3 → None ≡ containing_of Yearly t t → ⊥
year-found p t h weekly at none =
    let lies = week-lies p h weekly in
    let has : Has (year_period p) t t = subst (λ s. Has (year_period p) s s) (sym at) lies.has in
    let found : None ≡ Some (year_period p) = none ∙ containing_of-has Yearly t t (year_period p) lies.listed refl has in
    cc

-- a number as the machine holds it
abbrev held : ℤ → ℤ
held z = to_z w32 (of_z w32 z)

held-first : (p : PeriodName) (f : ℤ) → is_listed p ≡ true → f ≡ first_day p → held f ≡ f
held-first p f h e =
    let b = day-bounds p h in
    let fits : FitsSigned w32 f = omega (arith, signed_arith) in
    to_z-of_z fits

pub thursday-fits : (p : PeriodName) (f : ℤ) → is_listed p ≡ true → f ≡ first_day p → FitsSigned w32 (held f +ℤ pos 3)
thursday-fits p f h e =
    let b = day-bounds p h in
    rw (held-first p f h e) (omega (arith, signed_arith))

pub thursday-is : (p : PeriodName) (f : ℤ) → is_listed p ≡ true → f ≡ first_day p → held (held f +ℤ pos 3) ≡ first_day p +ℤ pos 3
thursday-is p f h e = to_z-of_z (thursday-fits p f h e) ∙ ap (λ z. z +ℤ pos 3) (held-first p f h e ∙ e)

pub record Spans (p q : PeriodName) (f g : ℤ) : Type 0 where
  pub fits : FitsSigned w32 (held (held f +ℤ pos 3) -ℤ held g)
  pub answer : int_lt (held (held (held f +ℤ pos 3) -ℤ held g)) (pos 63) ≡ nat_lt p.number 10

pub spans : (p q : PeriodName) (f g : ℤ) → is_listed p ≡ true → is_listed q ≡ true → p.kind ≡ Weekly → f ≡ first_day p → g ≡ first_day q
    → Some q ≡ containing_of Yearly (held (held f +ℤ pos 3)) (held (held f +ℤ pos 3)) → Spans p q f g
spans p q f g hp hq weekly ef eg found =
    let t : ℤ = first_day p +ℤ pos 3 in
    let there : Some q ≡ containing_of Yearly t t = subst (λ s. Some q ≡ containing_of Yearly s s) (thursday-is p f hp ef) found in
    let answer = one_digit-is p q t hp weekly refl there in
    let bp = day-bounds p hp in
    let bq = day-bounds q hq in
    let fits : FitsSigned w32 (t -ℤ first_day q) = omega (arith, signed_arith) in
    let same : held (held f +ℤ pos 3) -ℤ held g ≡ t -ℤ first_day q = ap (λ z. z -ℤ held g) (thursday-is p f hp ef)
    ∙ ap (λ z. t -ℤ z) (held-first q g hq eg ∙ eg) in
    record {
      fits = subst (FitsSigned w32) (sym same) fits;
      answer = ap (λ z. int_lt z (pos 63)) (ap held same ∙ to_z-of_z fits) ∙ answer.1;
    }

pub spans-none : (p : PeriodName) (f : ℤ) → is_listed p ≡ true → p.kind ≡ Weekly → f ≡ first_day p
    → None ≡ containing_of Yearly (held (held f +ℤ pos 3)) (held (held f +ℤ pos 3)) → ⊥
spans-none p f h weekly e none =
    year-found p (first_day p +ℤ pos 3) h weekly refl (subst (λ s. None ≡ containing_of Yearly s s) (thursday-is p f h e) none)

-- ---- texts

-- a week's text with a zero more is as long as its own where it is its own
padded-same : (p : PeriodName) → p.kind ≡ Weekly → length (padded_text p) ≡ length (period_text p) → padded_text p ≡ period_text p
unfolding padded_text period_text
padded-same p weekly same =
    let own : period_text p ≡ four_digits p.year ++ (codes "W" ++ short_digits p.number) = ap (λ k. four_digits p.year ++ ending_as k p.number p.day) weekly in
    elim (nat_lt p.number 10) as (λ b. period_text p ≡ four_digits p.year ++ (codes "W" ++ cond b (one_digit p.number) (two_digits p.number))
    → padded_text p ≡ period_text p) [
      | true ↦ λ short.
          let six : length (period_text p) ≡ 6 = ap length short in
          absurd (let seven : 7 ≡ length (period_text p) = same in omega arith)
      | false ↦ λ long. sym long
    ] own

same-length : (text : List ℕ) (p : PeriodName) → IsTextOf text p → nat_eq (length text) (length (period_text p)) ≡ bytes_eq text (period_text p)
same-length text p is =
    elim (bytes_eq text (period_text p)) as (λ b. bytes_eq text (period_text p) ≡ b → nat_eq (length text) (length (period_text p)) ≡ b) [
      | true ↦ λ same. eq-eqb _ _ (ap length ((bytes_eq-Decides text (period_text p)).0 same))
      | false ↦ λ other.
          let apart : text ≡ period_text p → ⊥ = λ e. (let same : bytes_eq text (period_text p) ≡ true = (bytes_eq-Decides text (period_text p)).1 e in cc) in
          elim is [
            | inl own ↦ absurd (apart own)
            | inr padded ↦
                elim (nat_eq (length text) (length (period_text p))) as (λ b. nat_eq (length text) (length (period_text p)) ≡ b → b ≡ false) [
                  | true ↦ λ long.
                      let lengths : length text ≡ length (period_text p) = eqb-true _ _ long in
                      absurd (apart (padded.1 ∙ padded-same p padded.0 (sym (ap length padded.1) ∙ lengths)))
                  | false ↦ λ long. refl
                ] refl
          ]
    ] refl

-- a text that says a period is the period's own where it is as long
pub canonical-some : (text : List ℕ) (p : PeriodName) → Some p ≡ period_of text
    → (if nat_eq (length text) (length (period_text p)) then Some p else None) ≡ canonical_of text
unfolding canonical_of
canonical-some text p said =
    let is = period_of-is text p (sym said) in
    ap (λ b. cond b (Some p) None) (same-length text p is.0) ∙ ap (option_and_then (λ q. cond (bytes_eq text (period_text q)) (Some q) None)) said

pub canonical-none : (text : List ℕ) → None ≡ period_of text → None ≡ canonical_of text
unfolding canonical_of
canonical-none text said = ap (option_and_then (λ p. cond (bytes_eq text (period_text p)) (Some p) None)) said

pub canonical-then : (text : List ℕ) (p : PeriodName) → Some p ≡ period_of text → length text ≡ length (period_text p) → Some p ≡ canonical_of text
canonical-then text p said same = sym (ap (λ b. cond b (Some p) None) (eq-eqb _ _ same)) ∙ canonical-some text p said

pub canonical-else : (text : List ℕ) (p : PeriodName) → Some p ≡ period_of text → (length text ≡ length (period_text p) → ⊥) → None ≡ canonical_of text
canonical-else text p said apart =
    elim (nat_eq (length text) (length (period_text p))) as (λ b. nat_eq (length text) (length (period_text p)) ≡ b → cond b (Some p) None ≡ canonical_of text
    → None ≡ canonical_of text) [
      | true ↦ λ same e. absurd (apart (eqb-true _ _ same))
      | false ↦ λ other e. e
    ] refl (canonical-some text p said)
