-- A date that is read is written so, and one that is written is read.
use Rattle.std.proofs.Common.{◌≡◌, ℕ, inl, inr, true, ◌&&◌, Option, Some, None, List, [], ◌∷◌, ◌++◌, length, slice_index, refl, sym, ap, subst, ◌∙◌, arith, ℤ}
use Rattle.std.specs.Prelude.{codes, option_and_then, ◌==◌, IfSome, IfNone}
use Rattle.std.proofs.lemmas.Bool.{and_parts, eqb-true}
use Rattle.dh_periods.specs.declared.kind.PeriodType.TheVariants.{Daily}
use Rattle.dh_periods.specs.declared.kind.Shape.TheVariants.{Day}
use Rattle.dh_periods.specs.declared.name.PeriodName.{PeriodName}
use Rattle.dh_periods.specs.Days.{is_in_year_as, is_listed, listed, first_day}
use Rattle.dh_periods.specs.Texts.{two_digits, four_digits, number_of_two, number_of_four, dated}
use Rattle.dh_periods.specs.Civil.{date_text, IsDateText, read_date, civil_of}
use Rattle.dh_periods.proofs.CalendarLemmas.{month_length_bounds}
use Rattle.dh_periods.proofs.ListedLemmas.{listed-parts}
use Rattle.dh_periods.proofs.BoundLemmas.{date-parts}
use Rattle.dh_periods.proofs.TextLemmas.{choice, some_when, and_then-some, map-some, two-read, four-read, two-written, four-written, list_of_four}

list_of_six : (r : List ℕ) → length r ≡ 6 → r ≡ slice_index r 0 ∷ slice_index r 1 ∷ slice_index r 2 ∷ slice_index r 3 ∷ slice_index r 4 ∷ slice_index r 5 ∷ []
list_of_six [] h = absurd (omega arith)
list_of_six (a ∷ []) h = absurd (omega arith)
list_of_six (a ∷ b ∷ r) h = ap (λ s. a ∷ b ∷ s) (list_of_four r (omega arith))

list_of_eight : (r : List ℕ) → length r ≡ 8
    → r ≡ slice_index r 0 ∷ slice_index r 1 ∷ slice_index r 2 ∷ slice_index r 3 ∷ slice_index r 4 ∷ slice_index r 5 ∷ slice_index r 6 ∷ slice_index r 7 ∷ []
list_of_eight [] h = absurd (omega arith)
list_of_eight (a ∷ []) h = absurd (omega arith)
list_of_eight (a ∷ b ∷ r) h = ap (λ s. a ∷ b ∷ s) (list_of_six r (omega arith))

list_of_ten : (r : List ℕ) → length r ≡ 10
    → r ≡ slice_index r 0 ∷ slice_index r 1 ∷ slice_index r 2 ∷ slice_index r 3 ∷ slice_index r 4 ∷ slice_index r 5 ∷ slice_index r 6 ∷ slice_index r 7 ∷
    slice_index r 8 ∷ slice_index r 9 ∷ []
list_of_ten [] h = absurd (omega arith)
list_of_ten (a ∷ []) h = absurd (omega arith)
list_of_ten (a ∷ b ∷ r) h = ap (λ s. a ∷ b ∷ s) (list_of_eight r (omega arith))

dated-some : (y : ℕ) (o l : Option ℕ) (p : PeriodName) → dated y o l ≡ Some p
    → (m : ℕ) × (d : ℕ) × (o ≡ Some m) × (l ≡ Some d) × (record { kind = Daily; year = y; number = m; day = d } ≡ p)
dated-some y (Some m) (Some d) p e = (m, d, refl, refl, cc)
dated-some y (Some m) None p e = absurd (cc)
dated-some y None l p e = absurd (cc)

-- ten bytes whose digits were read
ten-digits : (a b c d e f g h i j y m n : ℕ) → e ≡ 45 → h ≡ 45 → number_of_four a b c d ≡ Some y → number_of_two f g ≡ Some m → number_of_two i j ≡ Some n
    → a ∷ b ∷ c ∷ d ∷ e ∷ f ∷ g ∷ h ∷ i ∷ j ∷ [] ≡ four_digits y ++ (codes "-" ++ (two_digits m ++ (codes "-" ++ two_digits n)))
ten-digits a b c d e f g h i j y m n ee he ye me ne =
    let yd = four-read a b c d y ye in
    let md = two-read f g m me in
    let nd = two-read i j n ne in
    rw (ee, he, yd.0, yd.1, yd.2, yd.3, md.1, md.2, nd.1, nd.2) refl

pub read_date-is : (text : List ℕ) (p : PeriodName) → read_date text ≡ Some p → (p.kind ≡ Daily) × (text ≡ date_text p)
unfolding read_date date_text
read_date-is text p e =
    let s : ℕ → ℕ = λ k. slice_index text k in
    let o = number_of_two (s 5) (s 6) in
    let l = number_of_two (s 8) (s 9) in
    let taken : ((length text == 10 && (s 4 == 45 && s 7 == 45)) ≡ true)
    × (option_and_then (λ y. dated y o l) (number_of_four (s 0) (s 1) (s 2) (s 3)) ≡ Some p) =
    elim (choice (length text == 10 && (s 4 == 45 && s 7 == 45)) _ _ _ e) [ inl t ↦ t | inr none ↦ absurd (cc none.1) ] in
    let shape = and_parts (length text == 10) (s 4 == 45 && s 7 == 45) taken.0 in
    let hyphens = and_parts (s 4 == 45) (s 7 == 45) shape.1 in
    let year = and_then-some (λ (y : ℕ). dated y o l) (number_of_four (s 0) (s 1) (s 2) (s 3)) p taken.1 in
    let rest = dated-some year.0 o l p year.2 in
    let written = list_of_ten text (eqb-true (length text) 10 shape.0)
    ∙ ten-digits (s 0) (s 1) (s 2) (s 3) (s 4) (s 5) (s 6) (s 7) (s 8) (s 9) year.0 rest.0 rest.1 (eqb-true (s 4) 45 hyphens.0)
    (eqb-true (s 7) 45 hyphens.1) year.1 rest.2 rest.3 in
    let P : PeriodName → Type 0 =
    λ q. (q.kind ≡ Daily) × (text ≡ four_digits q.year ++ (codes "-" ++ (two_digits q.number ++ (codes "-" ++ two_digits q.day)))) in
    subst P rest.4 (refl, written)

day-is : (p : PeriodName) → p.kind ≡ Daily → record { kind = Daily; year = p.year; number = p.number; day = p.day } ≡ p
day-is p e = rw (← e) refl

pub read_date-text : (p : PeriodName) → is_listed p ≡ true → p.kind ≡ Daily → read_date (date_text p) ≡ Some p
unfolding read_date date_text
read_date-text p h day =
    let parts = listed-parts p h in
    let shape : is_in_year_as Day p ≡ true = rw day at parts.2 in
    let d = date-parts p shape in
    let length_bounds = month_length_bounds p.year p.number in
    rw (four-written p.year (omega arith), two-written p.number (omega arith), two-written p.day (omega arith)) (ap Some (day-is p day))

pub civil-found : (text : List ℕ) (r : Option ℤ) → r ≡ civil_of text → IfSome r (λ day. (p : PeriodName) × IsDateText text p × (day ≡ first_day p))
unfolding civil_of
civil-found text None e = tt
civil-found text (Some day) e =
    let dayed = map-some first_day (option_and_then listed (read_date text)) day (sym e) in
    let named = and_then-some listed (read_date text) dayed.0 dayed.1 in
    let there = some_when (is_listed named.0) named.0 dayed.0 named.2 in
    let is = read_date-is text named.0 named.1 in
    (named.0, (there.0, is.0, is.1), sym dayed.2 ∙ ap first_day (sym there.1))

pub civil-none : (text : List ℕ) (r : Option ℤ) → r ≡ civil_of text → IfNone r ((p : PeriodName) → ¬ IsDateText text p)
unfolding civil_of
civil-none text None e = λ p is.
    let read : read_date text ≡ Some p = rw is.2 (read_date-text p is.0 is.1) in
    let found : listed p ≡ Some p = rw is.0 refl in
    let some : civil_of text ≡ Some (first_day p) = rw read (rw found refl) in
    cc
civil-none text (Some day) e = tt
