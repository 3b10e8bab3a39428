-- Calendar dates as text, in the extended format of ISO 8601.
use Rattle.std.specs.Prelude.{◌≡◌, ℕ, ◌&&◌, ◌==◌, IsTrue, if◌then◌else◌, Option, None, option_map, option_and_then, List, ◌++◌, length, slice_index, codes, ℤ}
use Rattle.dh_periods.specs.declared.kind.PeriodType.TheVariants.{Daily}
use Rattle.dh_periods.specs.declared.name.PeriodName.{PeriodName}
use Rattle.dh_periods.specs.Days.{is_listed, listed, first_day}
use Rattle.dh_periods.specs.Texts.{two_digits, four_digits, number_of_two, number_of_four, dated}

-- the text of a date: year, month and day with hyphens between them
unfoldable pub date_text : PeriodName → List ℕ
date_text p = four_digits p.year ++ (codes "-" ++ (two_digits p.number ++ (codes "-" ++ two_digits p.day)))

-- it is the text of that day, which lies in the years 1900 to 2100
abbrev pub IsDateText : List ℕ → PeriodName → Type 0
IsDateText text p = IsTrue (is_listed p) × (p.kind ≡ Daily) × (text ≡ date_text p)

-- the reader: what the digits of a text say
unfoldable pub read_date : List ℕ → Option PeriodName
read_date text =
    if length text == 10 && (slice_index text 4 == 45 && slice_index text 7 == 45)
    then option_and_then (λ y. dated y (number_of_two (slice_index text 5) (slice_index text 6)) (number_of_two (slice_index text 8) (slice_index text 9)))
    (number_of_four (slice_index text 0) (slice_index text 1) (slice_index text 2) (slice_index text 3))
    else None

-- the day of a text
unfoldable pub civil_of : List ℕ → Option ℤ
civil_of text = option_map first_day (option_and_then listed (read_date text))
