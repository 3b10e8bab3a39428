-- What is read is written so, and what is written is read.
use Rattle.std.proofs.Common.{◌≡◌, ℕ, ◌+◌, ◌-◌, ◌*◌, ◌/◌, ◌%◌, ◌<◌, ◌≤◌, ◌⊎◌, inl, inr, Bool, true, false, ◌&&◌, nat_le, nat_lt, nat_eq, if◌then◌else◌}
use Rattle.std.proofs.Common.{Option, Some, None, List, [], ◌∷◌, ◌++◌, length, take, drop, slice_index, refl, sym, ap, subst, ◌∙◌, arith}
use Rattle.std.specs.Prelude.{codes, bytes_eq, option_map, option_and_then, ◌==◌, IfSome, IfNone, IsTrue}
use Rattle.std.proofs.lemmas.Bool.{cases_lt, cond_both, and_parts, and_from, le-leb, leb-true, lt-ltb, le-ltb, eqb-true, ne_eqb}
use Rattle.std.proofs.lemmas.Slice.Eq.{bytes_eq-Decides}
use Rattle.dh_periods.specs.declared.kind.PeriodType.{PeriodType}
use Rattle.dh_periods.specs.declared.kind.PeriodType.TheVariants.{Daily, Weekly, Monthly, BiMonthly, Quarterly, SixMonthly, SixMonthlyApril, Yearly}
use Rattle.dh_periods.specs.declared.kind.PeriodType.TheVariants.{FinancialApril, FinancialJuly, FinancialOct}
use Rattle.dh_periods.specs.declared.name.PeriodName.{PeriodName}
use Rattle.dh_periods.specs.Calendar.{month_length, weeks_in_year}
use Rattle.dh_periods.proofs.CalendarLemmas.{month_length_bounds}
use Rattle.dh_periods.proofs.JiffLemmas.{weeks_in_year_bounds}
use Rattle.dh_periods.specs.Types.{shape_of}
use Rattle.dh_periods.specs.Days.{is_in_year_as, listed, is_listed}
use Rattle.dh_periods.specs.declared.kind.Shape.TheVariants.{Week}
use Rattle.dh_periods.proofs.ListedLemmas.{listed-parts}
use Rattle.dh_periods.specs.Texts.{one_digit, two_digits, four_digits, short_digits, ending_as, period_text, padded_text, IsTextOf, is_digit, number_of_one}
use Rattle.dh_periods.specs.Texts.{number_of_two, number_of_four, whole, numbered, dated, read_two, read_three, read_ending, read_name, period_of}

-- which branch a choice took
pub choice : {A : Type 0} (b : Bool) (x y z : A) → (if b then x else y) ≡ z → ((b ≡ true) × (x ≡ z)) ⊎ ((b ≡ false) × (y ≡ z))
choice true x y z e = inl (refl, e)
choice false x y z e = inr (refl, e)

pub some_when : {A : Type 0} (b : Bool) (x z : A) → (if b then Some x else None) ≡ Some z → (b ≡ true) × (x ≡ z)
some_when true x z e = (refl, cc)
some_when false x z e = absurd (cc)

pub and_then-some : {A B : Type 0} (f : A → Option B) (o : Option A) (z : B) → option_and_then f o ≡ Some z → (x : A) × (o ≡ Some x) × (f x ≡ Some z)
and_then-some f (Some x) z e = (x, refl, e)
and_then-some f None z e = absurd (cc)

pub map-some : {A B : Type 0} (f : A → B) (o : Option A) (z : B) → option_map f o ≡ Some z → (x : A) × (o ≡ Some x) × (f x ≡ z)
map-some f (Some x) z e = (x, refl, cc)
map-some f None z e = absurd (cc)

-- the digits of a number that was read
digit-bounds : (a : ℕ) → is_digit a ≡ true → (48 ≤ a) × (a ≤ 57)
digit-bounds a h = let parts = and_parts _ _ h in (leb-true _ _ parts.0, leb-true _ _ parts.1)

digit-is : (a : ℕ) → 48 ≤ a → a ≤ 57 → is_digit a ≡ true
digit-is a low high = and_from _ _ (le-leb _ _ low) (le-leb _ _ high)

one-read : (a n : ℕ) → number_of_one a ≡ Some n → (n < 10) × (a ≡ 48 + n)
one-read a n e =
    let taken = some_when (is_digit a) (a - 48) n e in
    let range = digit-bounds a taken.0 in
    (omega (arith, taken.1), omega (arith, taken.1))

pub two-read : (a b n : ℕ) → number_of_two a b ≡ Some n → (n < 100) × (a ≡ 48 + n / 10) × (b ≡ 48 + n % 10)
two-read a b n e =
    let taken = some_when (is_digit a && is_digit b) (10 * (a - 48) + (b - 48)) n e in
    let both = and_parts _ _ taken.0 in
    let first = digit-bounds a both.0 in
    let second = digit-bounds b both.1 in
    (omega (arith, taken.1), omega (arith, taken.1), omega (arith, taken.1))

pub four-read : (a b c d n : ℕ) → number_of_four a b c d ≡ Some n → (a ≡ 48 + n / 1000) × (b ≡ 48 + n / 100 % 10) × (c ≡ 48 + n / 10 % 10) × (d ≡ 48 + n % 10)
four-read a b c d n e =
    let taken = some_when ((is_digit a && is_digit b) && (is_digit c && is_digit d)) (1000 * (a - 48) + 100 * (b - 48) + 10 * (c - 48) + (d - 48)) n e in
    let halves = and_parts _ _ taken.0 in
    let front = and_parts _ _ halves.0 in
    let back = and_parts _ _ halves.1 in
    let ra = digit-bounds a front.0 in
    let rb = digit-bounds b front.1 in
    let rc = digit-bounds c back.0 in
    let rd = digit-bounds d back.1 in
    (omega (arith, taken.1), omega (arith, taken.1), omega (arith, taken.1), omega (arith, taken.1))

-- the number whose digits are read
one-written : (n : ℕ) → n < 10 → number_of_one (48 + n) ≡ Some n
one-written n h =
    let value : 48 + n - 48 ≡ n = omega arith in
    rw (digit-is (48 + n) (omega arith) (omega arith)) (ap Some value)

pub two-written : (n : ℕ) → n < 100 → number_of_two (48 + n / 10) (48 + n % 10) ≡ Some n
two-written n h =
    let value : 10 * (48 + n / 10 - 48) + (48 + n % 10 - 48) ≡ n = omega arith in
    rw (digit-is (48 + n / 10) (omega arith) (omega arith), digit-is (48 + n % 10) (omega arith) (omega arith)) (ap Some value)

pub four-written : (n : ℕ) → n < 10000 → number_of_four (48 + n / 1000) (48 + n / 100 % 10) (48 + n / 10 % 10) (48 + n % 10) ≡ Some n
four-written n h =
    let value : 1000 * (48 + n / 1000 - 48) + 100 * (48 + n / 100 % 10 - 48) + 10 * (48 + n / 10 % 10 - 48) + (48 + n % 10 - 48) ≡ n = omega arith in
    rw (
      digit-is (48 + n / 1000) (omega arith) (omega arith),
      digit-is (48 + n / 100 % 10) (omega arith) (omega arith),
      digit-is (48 + n / 10 % 10) (omega arith) (omega arith),
      digit-is (48 + n % 10) (omega arith) (omega arith),
    ) (ap Some value)

-- a list of so many is its items
list_of_none : (r : List ℕ) → length r ≡ 0 → r ≡ []
list_of_none [] h = refl
list_of_none (a ∷ r) h = absurd (omega arith)

list_of_two : (r : List ℕ) → length r ≡ 2 → r ≡ slice_index r 0 ∷ slice_index r 1 ∷ []
list_of_two [] h = absurd (omega arith)
list_of_two (a ∷ []) h = absurd (omega arith)
list_of_two (a ∷ b ∷ []) h = refl
list_of_two (a ∷ b ∷ c ∷ r) h = absurd (omega arith)

list_of_three : (r : List ℕ) → length r ≡ 3 → r ≡ slice_index r 0 ∷ slice_index r 1 ∷ slice_index r 2 ∷ []
list_of_three [] h = absurd (omega arith)
list_of_three (a ∷ r) h = ap (λ s. a ∷ s) (list_of_two r (omega arith))

pub list_of_four : (r : List ℕ) → length r ≡ 4 → r ≡ slice_index r 0 ∷ slice_index r 1 ∷ slice_index r 2 ∷ slice_index r 3 ∷ []
list_of_four [] h = absurd (omega arith)
list_of_four (a ∷ r) h = ap (λ s. a ∷ s) (list_of_three r (omega arith))

list_after_four : (r : List ℕ) → 4 ≤ length r → r ≡ slice_index r 0 ∷ slice_index r 1 ∷ slice_index r 2 ∷ slice_index r 3 ∷ drop 4 r
list_after_four [] h = absurd (omega arith)
list_after_four (a ∷ []) h = absurd (omega arith)
list_after_four (a ∷ b ∷ []) h = absurd (omega arith)
list_after_four (a ∷ b ∷ c ∷ []) h = absurd (omega arith)
list_after_four (a ∷ b ∷ c ∷ d ∷ r) h = refl

list_of_seven : (r : List ℕ) → length r ≡ 7 → r ≡ take 6 r ++ slice_index r 6 ∷ []
list_of_seven (a ∷ b ∷ c ∷ d ∷ e ∷ f ∷ g ∷ []) h = refl
list_of_seven (a ∷ b ∷ c ∷ d ∷ e ∷ f ∷ g ∷ k ∷ r) h = absurd (omega arith)
list_of_seven (a ∷ b ∷ c ∷ d ∷ e ∷ f ∷ []) h = absurd (omega arith)
list_of_seven (a ∷ b ∷ c ∷ d ∷ e ∷ []) h = absurd (omega arith)
list_of_seven (a ∷ b ∷ c ∷ d ∷ []) h = absurd (omega arith)
list_of_seven (a ∷ b ∷ c ∷ []) h = absurd (omega arith)
list_of_seven (a ∷ b ∷ []) h = absurd (omega arith)
list_of_seven (a ∷ []) h = absurd (omega arith)
list_of_seven [] h = absurd (omega arith)

-- the bytes after the year are those of the period
IsEnding : List ℕ → PeriodName → Type 0
IsEnding r p = (r ≡ ending_as p.kind p.number p.day) ⊎ ((p.kind ≡ Weekly) × (r ≡ codes "W" ++ two_digits p.number))

abbrev IsReadAs : ℕ → List ℕ → PeriodName → Type 0
IsReadAs y r p = (p.year ≡ y) × IsEnding r p

whole-read : (kind : PeriodType) (y : ℕ) (r : List ℕ) (p : PeriodName) → r ≡ ending_as kind 1 1 → whole kind y ≡ Some p → IsReadAs y r p
unfolding IsEnding
whole-read kind y r p written e =
    let same : record { kind = kind; year = y; number = 1; day = 1 } ≡ p = cc in
    let P : PeriodName → Type 0 = λ q. IsReadAs y r q in
    subst P same (refl, inl written)

numbered-read : (kind : PeriodType) (y : ℕ) (r : List ℕ) (o : Option ℕ) (p : PeriodName) → ((n : ℕ) → o ≡ Some n → r ≡ ending_as kind n 1)
    → numbered kind y o ≡ Some p → IsReadAs y r p
unfolding IsEnding
numbered-read kind y r o p written e =
    let made = map-some (λ (n : ℕ). let q : PeriodName = record { kind = kind; year = y; number = n; day = 1 } in q) o p e in
    let P : PeriodName → Type 0 = λ q. IsReadAs y r q in
    subst P made.2 (refl, inl (written made.0 made.1))

padded-read : (y : ℕ) (r : List ℕ) (o : Option ℕ) (p : PeriodName) → ((n : ℕ) → o ≡ Some n → r ≡ codes "W" ++ two_digits n) → numbered Weekly y o ≡ Some p
    → IsReadAs y r p
unfolding IsEnding
padded-read y r o p written e =
    let made = map-some (λ (n : ℕ). let q : PeriodName = record { kind = Weekly; year = y; number = n; day = 1 } in q) o p e in
    let P : PeriodName → Type 0 = λ q. IsReadAs y r q in
    subst P made.2 (refl, inr (refl, written made.0 made.1))

dated-read : (y : ℕ) (r : List ℕ) (o l : Option ℕ) (p : PeriodName) → ((m d : ℕ) → o ≡ Some m → l ≡ Some d → r ≡ ending_as Daily m d) → dated y o l ≡ Some p
    → IsReadAs y r p
unfolding IsEnding
dated-read y r (Some m) (Some d) p written e =
    let same : record { kind = Daily; year = y; number = m; day = d } ≡ p = cc in
    let P : PeriodName → Type 0 = λ q. IsReadAs y r q in
    subst P same (refl, inl (written m d refl refl))
dated-read y r (Some m) None p written e = absurd (cc)
dated-read y r None l p written e = absurd (cc)

one-letter : (letter a b n : ℕ) → (a == letter) ≡ true → number_of_one b ≡ Some n → a ∷ b ∷ [] ≡ letter ∷ one_digit n
one-letter letter a b n e o = rw (eqb-true a letter e, (one-read b n o).1) refl

read_two-is : (y a b : ℕ) (p : PeriodName) → read_two y a b ≡ Some p → IsReadAs y (a ∷ b ∷ []) p
read_two-is y a b p e =
    elim (choice (a == 87) _ _ _ e) [
      | inl week ↦ numbered-read Weekly y _ (number_of_one b) p (λ n o. one-letter 87 a b n week.0 o ∙ rw (lt-ltb n 10 (one-read b n o).0) refl) week.1
      | inr more ↦
          elim (choice (a == 81) _ _ _ more.1) [
            | inl quarter ↦ numbered-read Quarterly y _ (number_of_one b) p (λ n o. one-letter 81 a b n quarter.0 o) quarter.1
            | inr rest ↦
                elim (choice (a == 83) _ _ _ rest.1) [
                  | inl half ↦ numbered-read SixMonthly y _ (number_of_one b) p (λ n o. one-letter 83 a b n half.0 o) half.1
                  | inr month ↦ numbered-read Monthly y _ (number_of_two a b) p (λ n o. rw ((two-read a b n o).1, (two-read a b n o).2) refl) month.1
                ]
          ]
    ]

read_three-is : (y a b c : ℕ) (p : PeriodName) → read_three y a b c ≡ Some p → IsReadAs y (a ∷ b ∷ c ∷ []) p
read_three-is y a b c p e =
    elim (choice (a == 87) _ _ _ e) [
      | inl week ↦ padded-read y _ (number_of_two b c) p (λ n o. rw (eqb-true a 87 week.0, (two-read b c n o).1, (two-read b c n o).2) refl) week.1
      | inr more ↦
          elim (choice (c == 66) _ _ _ more.1) [
            | inl pair ↦ numbered-read BiMonthly y _ (number_of_two a b) p (λ n o. rw (eqb-true c 66 pair.0, (two-read a b n o).1, (two-read a b n o).2) refl)
                pair.1
            | inr none ↦ absurd (cc none.1)
          ]
    ]

read_four-is : (y a b c d : ℕ) (p : PeriodName) → dated y (number_of_two a b) (number_of_two c d) ≡ Some p → IsReadAs y (a ∷ b ∷ c ∷ d ∷ []) p
read_four-is y a b c d p e =
    dated-read y _ (number_of_two a b) (number_of_two c d) p (λ m n o l.
    rw ((two-read a b m o).1, (two-read a b m o).2, (two-read c d n l).1, (two-read c d n l).2) refl) e

same_text : (r t : List ℕ) → bytes_eq r t ≡ true → r ≡ t
same_text r t e = (bytes_eq-Decides r t).0 e

read_seven-is : (y : ℕ) (r : List ℕ) (p : PeriodName) → length r ≡ 7 → bytes_eq (take 6 r) (codes "AprilS") ≡ true
    → numbered SixMonthlyApril y (number_of_one (slice_index r 6)) ≡ Some p → IsReadAs y r p
read_seven-is y r p long e made =
    let front : take 6 r ≡ codes "AprilS" = same_text _ _ e in
    numbered-read SixMonthlyApril y r (number_of_one (slice_index r 6)) p (λ n o. list_of_seven r long
    ∙ rw (front, (one-read (slice_index r 6) n o).1) refl) made

read_long-is : (y : ℕ) (r : List ℕ) (p : PeriodName)
    → (if length r == 7 && bytes_eq (take 6 r) (codes "AprilS") then numbered SixMonthlyApril y (number_of_one (slice_index r 6)) else None) ≡ Some p
    → IsReadAs y r p
read_long-is y r p e =
    elim (choice (length r == 7 && bytes_eq (take 6 r) (codes "AprilS")) _ _ _ e) [
      | inl seven ↦ let both = and_parts _ _ seven.0 in read_seven-is y r p (eqb-true _ _ both.0) both.1 seven.1
      | inr none ↦ absurd (cc none.1)
    ]

read_ending-is : (y : ℕ) (r : List ℕ) (p : PeriodName) → read_ending y r ≡ Some p → IsReadAs y r p
unfolding read_ending
read_ending-is y r p e =
    let P : List ℕ → Type 0 = λ s. IsReadAs y s p in
    elim (choice (length r == 0) _ _ _ e) [
      | inl none ↦ whole-read Yearly y r p (list_of_none r (eqb-true _ _ none.0)) none.1
      | inr e₁ ↦
          elim (choice (length r == 2) _ _ _ e₁.1) [
            | inl two ↦ subst P (sym (list_of_two r (eqb-true _ _ two.0))) (read_two-is y _ _ p two.1)
            | inr e₂ ↦
                elim (choice (bytes_eq r (codes "Oct")) _ _ _ e₂.1) [
                  | inl oct ↦ whole-read FinancialOct y r p (same_text _ _ oct.0) oct.1
                  | inr e₃ ↦
                      elim (choice (length r == 3) _ _ _ e₃.1) [
                        | inl three ↦ subst P (sym (list_of_three r (eqb-true _ _ three.0))) (read_three-is y _ _ _ p three.1)
                        | inr e₄ ↦
                            elim (choice (bytes_eq r (codes "July")) _ _ _ e₄.1) [
                              | inl july ↦ whole-read FinancialJuly y r p (same_text _ _ july.0) july.1
                              | inr e₅ ↦
                                  elim (choice (length r == 4) _ _ _ e₅.1) [
                                    | inl four ↦ subst P (sym (list_of_four r (eqb-true _ _ four.0))) (read_four-is y _ _ _ _ p four.1)
                                    | inr e₆ ↦
                                        elim (choice (bytes_eq r (codes "April")) _ _ _ e₆.1) [
                                          | inl april ↦ whole-read FinancialApril y r p (same_text _ _ april.0) april.1
                                          | inr e₇ ↦ read_long-is y r p e₇.1
                                        ]
                                  ]
                            ]
                      ]
                ]
          ]
    ]

four-front : (a b c d y : ℕ) (r : List ℕ) → number_of_four a b c d ≡ Some y → a ∷ b ∷ c ∷ d ∷ r ≡ four_digits y ++ r
four-front a b c d y r e =
    let digits = four-read a b c d y e in
    rw (digits.0, digits.1, digits.2, digits.3) refl

-- what is read is the text of the period that is read
pub read_name-is : (text : List ℕ) (p : PeriodName) → read_name text ≡ Some p → IsTextOf text p
unfolding read_name period_text padded_text IsEnding
read_name-is text p e =
    let taken : ((nat_le 4 (length text) && nat_le (length text) 11) ≡ true)
    × (option_and_then (λ y. read_ending y (drop 4 text))
    (number_of_four (slice_index text 0) (slice_index text 1) (slice_index text 2) (slice_index text 3)) ≡ Some p) =
    elim (choice (nat_le 4 (length text) && nat_le (length text) 11) _ _ _ e) [ inl t ↦ t | inr none ↦ absurd (cc none.1) ] in
    let long = leb-true _ _ (and_parts _ _ taken.0).0 in
    let a = slice_index text 0 in
    let b = slice_index text 1 in
    let c = slice_index text 2 in
    let d = slice_index text 3 in
    let year = and_then-some (λ (y : ℕ). read_ending y (drop 4 text)) (number_of_four a b c d) p taken.1 in
    let rest = read_ending-is year.0 (drop 4 text) p year.2 in
    let front : text ≡ four_digits year.0 ++ drop 4 text = list_after_four text long ∙ four-front a b c d year.0 (drop 4 text) year.1 in
    let written : text ≡ four_digits p.year ++ drop 4 text = rw rest.0 front in
    elim rest.1 [
      | inl canonical ↦ inl (rw (← canonical) written)
      | inr padded ↦ inr (padded.0, rw (← padded.1) written)
    ]

range : (n d top : ℕ) → (nat_le 1 n && (nat_le n top && d == 1)) ≡ true → (1 ≤ n) × (n ≤ top) × (d ≡ 1)
range n d top h =
    let a = and_parts (nat_le 1 n) (nat_le n top && d == 1) h in
    let b = and_parts (nat_le n top) (d == 1) a.1 in
    (leb-true 1 n a.0, leb-true n top b.0, eqb-true d 1 b.1)

-- a digit is no letter
no_letter : (n letter : ℕ) → n < 10 → 57 < letter → nat_eq (48 + n) letter ≡ false
no_letter n letter h k = ne_eqb _ _ (λ (e : 48 + n ≡ letter). omega arith)

month-reads : (y n : ℕ) → n < 100 → read_two y (48 + n / 10) (48 + n % 10) ≡ numbered Monthly y (Some n)
month-reads y n h =
    rw (
      no_letter (n / 10) 87 (omega arith) (omega arith),
      no_letter (n / 10) 81 (omega arith) (omega arith),
      no_letter (n / 10) 83 (omega arith) (omega arith),
    ) (ap (numbered Monthly y) (two-written n h))

months-reads : (y n : ℕ) → n < 100 → read_ending y (two_digits n ++ codes "B") ≡ numbered BiMonthly y (Some n)
unfolding read_ending
months-reads y n h =
    rw (no_letter (n / 10) 79 (omega arith) (omega arith), no_letter (n / 10) 87 (omega arith) (omega arith)) (ap (numbered BiMonthly y) (two-written n h))

date-reads : (y n d : ℕ) → n < 100 → d < 100 → read_ending y (two_digits n ++ two_digits d) ≡ dated y (Some n) (Some d)
unfolding read_ending
date-reads y n d h k =
    rw (no_letter (n / 10) 79 (omega arith) (omega arith), no_letter (n / 10) 74 (omega arith) (omega arith)) (rw (two-written n h, two-written d k) refl)

week-reads : (y n : ℕ) → n < 100 → read_ending y (codes "W" ++ short_digits n) ≡ numbered Weekly y (Some n)
unfolding read_ending
week-reads y n h =
    elim (cases_lt n 10) [
      | inl short ↦ rw (lt-ltb n 10 short) (ap (numbered Weekly y) (one-written n short))
      | inr long ↦ rw (le-ltb n 10 long) (ap (numbered Weekly y) (two-written n h))
    ]

padded-reads : (y n : ℕ) → n < 100 → read_ending y (codes "W" ++ two_digits n) ≡ numbered Weekly y (Some n)
unfolding read_ending
padded-reads y n h = ap (numbered Weekly y) (two-written n h)

-- what a type writes after the year is read as that type
reads : (kind : PeriodType) (y n d : ℕ) → is_in_year_as (shape_of kind) (record { kind = kind; year = y; number = n; day = d }) ≡ true → 1900 ≤ y → y ≤ 2100
    → read_ending y (ending_as kind n d) ≡ Some (record { kind = kind; year = y; number = n; day = d })
unfolding read_ending
reads Daily y n d h low high =
    let a = and_parts (nat_le 1 n) (nat_le n 12 && (nat_le 1 d && nat_le d (month_length y n))) h in
    let b = and_parts (nat_le n 12) (nat_le 1 d && nat_le d (month_length y n)) a.1 in
    let top = leb-true n 12 b.0 in
    let last = leb-true d (month_length y n) (and_parts (nat_le 1 d) (nat_le d (month_length y n)) b.1).1 in
    date-reads y n d (omega arith) (omega (arith, month_length_bounds y n))
reads Weekly y n d h low high =
    let r = range n d (weeks_in_year y) h in
    let weeks = weeks_in_year_bounds y low (omega arith) in
    rw r.2 (week-reads y n (omega arith))
reads Monthly y n d h low high = let r = range n d 12 h in rw r.2 (month-reads y n (omega arith))
reads BiMonthly y n d h low high = let r = range n d 6 h in rw r.2 (months-reads y n (omega arith))
reads Quarterly y n d h low high = let r = range n d 4 h in rw r.2 (ap (numbered Quarterly y) (one-written n (omega arith)))
reads SixMonthly y n d h low high = let r = range n d 2 h in rw r.2 (ap (numbered SixMonthly y) (one-written n (omega arith)))
reads SixMonthlyApril y n d h low high = let r = range n d 2 h in rw r.2 (ap (numbered SixMonthlyApril y) (one-written n (omega arith)))
reads Yearly y n d h low high = let r = range n d 1 h in let one : n ≡ 1 = omega arith in rw (r.2, one) refl
reads FinancialApril y n d h low high = let r = range n d 1 h in let one : n ≡ 1 = omega arith in rw (r.2, one) refl
reads FinancialJuly y n d h low high = let r = range n d 1 h in let one : n ≡ 1 = omega arith in rw (r.2, one) refl
reads FinancialOct y n d h low high = let r = range n d 1 h in let one : n ≡ 1 = omega arith in rw (r.2, one) refl

-- the year in front of a short ending is read
name-reads : (y : ℕ) (r : List ℕ) → y ≤ 2100 → length r ≤ 7 → read_name (four_digits y ++ r) ≡ read_ending y r
unfolding read_name
name-reads y r top short =
    let fits : nat_le (length (four_digits y ++ r)) 11 ≡ true = le-leb _ _ (omega arith) in
    let enough : nat_le 4 (length (four_digits y ++ r)) ≡ true = le-leb _ _ (omega arith) in
    rw (fits, enough, four-written y (omega arith)) refl

ending-short : (kind : PeriodType) (n d : ℕ) → length (ending_as kind n d) ≤ 7
ending-short Daily n d = omega arith
ending-short Weekly n d =
    cond_both (nat_lt n 10) (one_digit n) (two_digits n) (λ (s : List ℕ). length (codes "W" ++ s) ≤ 7) (λ e. omega arith) (λ e. omega arith)
ending-short Monthly n d = omega arith
ending-short BiMonthly n d = omega arith
ending-short Quarterly n d = omega arith
ending-short SixMonthly n d = omega arith
ending-short SixMonthlyApril n d = omega arith
ending-short Yearly n d = omega arith
ending-short FinancialApril n d = omega arith
ending-short FinancialJuly n d = omega arith
ending-short FinancialOct n d = omega arith

weekly : (p : PeriodName) → p.kind ≡ Weekly → p.day ≡ 1 → numbered Weekly p.year (Some p.number) ≡ Some p
weekly p week one = rw (← week, ← one) refl

-- a period's text names it, and so does a padded week
pub read_name-text : (p : PeriodName) → is_listed p ≡ true → read_name (period_text p) ≡ Some p
unfolding period_text
read_name-text p h =
    let parts = listed-parts p h in
    name-reads p.year (ending_as p.kind p.number p.day) parts.1 (ending-short p.kind p.number p.day)
    ∙ reads p.kind p.year p.number p.day parts.2 parts.0 parts.1

pub read_name-padded : (p : PeriodName) → is_listed p ≡ true → p.kind ≡ Weekly → read_name (padded_text p) ≡ Some p
unfolding padded_text
read_name-padded p h week =
    let parts = listed-parts p h in
    let shape : is_in_year_as Week p ≡ true = rw week at parts.2 in
    let r = range p.number p.day (weeks_in_year p.year) shape in
    let weeks = weeks_in_year_bounds p.year parts.0 (omega arith) in
    name-reads p.year (codes "W" ++ two_digits p.number) parts.1 (omega arith) ∙ padded-reads p.year p.number (omega arith) ∙ weekly p week r.2

-- a text of a period gives that period, and no other text gives one
pub period_of-text : (text : List ℕ) (p : PeriodName) → is_listed p ≡ true → IsTextOf text p → period_of text ≡ Some p
unfolding period_of
period_of-text text p h (inl canonical) = rw (canonical, read_name-text p h) (rw h refl)
period_of-text text p h (inr padded) = rw (padded.1, read_name-padded p h padded.0) (rw h refl)

pub period_of-is : (text : List ℕ) (p : PeriodName) → period_of text ≡ Some p → IsTextOf text p × (is_listed p ≡ true)
unfolding period_of
period_of-is text p e =
    let named = and_then-some listed (read_name text) p e in
    let there = some_when (is_listed named.0) named.0 p named.2 in
    let P : PeriodName → Type 0 = λ q. IsTextOf text q × (is_listed q ≡ true) in
    subst P there.1 (read_name-is text named.0 named.1, there.0)

-- the printed text of a period gives it back
pub period_of-printed : (p : PeriodName) → is_listed p ≡ true → period_of (period_text p) ≡ Some p
period_of-printed p h = period_of-text (period_text p) p h (inl refl)

pub parsed-found : (text : List ℕ) (r : Option PeriodName) → r ≡ period_of text → IfSome r (λ p. IsTextOf text p × IsTrue (is_listed p))
parsed-found text None e = tt
parsed-found text (Some p) e = period_of-is text p (sym e)

pub parsed-none : (text : List ℕ) (r : Option PeriodName) → r ≡ period_of text → IfNone r ((p : PeriodName) → IsTrue (is_listed p) → ¬ IsTextOf text p)
parsed-none text None e = λ p h t. let found = period_of-text text p h t in cc
parsed-none text (Some p) e = tt
