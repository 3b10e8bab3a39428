-- How a period is written, and what a text says.
use Rattle.std.specs.Prelude.{◌≡◌, ℕ, ◌+◌, ◌-◌, ◌*◌, ◌/◌, ◌%◌, Bool, ◌&&◌, ◌==◌, nat_le, nat_lt, if◌then◌else◌, Option, Some, None, option_map}
use Rattle.std.specs.Prelude.{option_and_then, List, [], ◌∷◌, ◌++◌, length, drop, take, slice_index, bytes_eq, codes, ◌⊎◌}
use Rattle.dh_periods.specs.declared.kind.PeriodType.{PeriodType}
use Rattle.dh_periods.specs.declared.kind.PeriodType.TheVariants.{Daily, Weekly, Monthly, BiMonthly, Quarterly, SixMonthly, SixMonthlyApril, Yearly}
use Rattle.dh_periods.specs.declared.kind.PeriodType.TheVariants.{FinancialApril, FinancialJuly, FinancialOct}
use Rattle.dh_periods.specs.declared.name.PeriodName.{PeriodName}
use Rattle.dh_periods.specs.Days.{listed}

-- a number below ten, and numbers below a hundred and below ten thousand with all their digits
abbrev pub one_digit : ℕ → List ℕ
one_digit n = (48 + n) ∷ []

abbrev pub two_digits : ℕ → List ℕ
two_digits n = (48 + n / 10) ∷ (48 + n % 10) ∷ []

abbrev pub four_digits : ℕ → List ℕ
four_digits n = (48 + n / 1000) ∷ (48 + n / 100 % 10) ∷ (48 + n / 10 % 10) ∷ (48 + n % 10) ∷ []

-- a number below a hundred with no leading zero
abbrev pub short_digits : ℕ → List ℕ
short_digits n = if nat_lt n 10 then one_digit n else two_digits n

-- what a type writes after the year
abbrev pub ending_as : PeriodType → ℕ → ℕ → List ℕ
ending_as Daily n d = two_digits n ++ two_digits d
ending_as Weekly n d = codes "W" ++ short_digits n
ending_as Monthly n d = two_digits n
ending_as BiMonthly n d = two_digits n ++ codes "B"
ending_as Quarterly n d = codes "Q" ++ one_digit n
ending_as SixMonthly n d = codes "S" ++ one_digit n
ending_as SixMonthlyApril n d = codes "AprilS" ++ one_digit n
ending_as Yearly n d = []
ending_as FinancialApril n d = codes "April"
ending_as FinancialJuly n d = codes "July"
ending_as FinancialOct n d = codes "Oct"

-- the text of a period
unfoldable pub period_text : PeriodName → List ℕ
period_text p = four_digits p.year ++ ending_as p.kind p.number p.day

-- a week's number may be written with two digits
unfoldable pub padded_text : PeriodName → List ℕ
padded_text p = four_digits p.year ++ (codes "W" ++ two_digits p.number)

abbrev pub IsTextOf : List ℕ → PeriodName → Type 0
IsTextOf text p = (text ≡ period_text p) ⊎ ((p.kind ≡ Weekly) × (text ≡ padded_text p))

-- the reader: what the digits of a text say
abbrev pub is_digit : ℕ → Bool
is_digit b = nat_le 48 b && nat_le b 57

abbrev pub number_of_one : ℕ → Option ℕ
number_of_one a = if is_digit a then Some (a - 48) else None

abbrev pub number_of_two : ℕ → ℕ → Option ℕ
number_of_two a b = if is_digit a && is_digit b then Some (10 * (a - 48) + (b - 48)) else None

abbrev pub number_of_four : ℕ → ℕ → ℕ → ℕ → Option ℕ
number_of_four a b c d =
    if (is_digit a && is_digit b) && (is_digit c && is_digit d)
    then Some (1000 * (a - 48) + 100 * (b - 48) + 10 * (c - 48) + (d - 48)) else None

abbrev pub whole : PeriodType → ℕ → Option PeriodName
whole kind y = Some (record { kind = kind; year = y; number = 1; day = 1 })

abbrev pub numbered : PeriodType → ℕ → Option ℕ → Option PeriodName
numbered kind y number = option_map (λ n. record { kind = kind; year = y; number = n; day = 1 }) number

abbrev pub dated : ℕ → Option ℕ → Option ℕ → Option PeriodName
dated y month day = option_and_then (λ m. option_map (λ d. record { kind = Daily; year = y; number = m; day = d }) day) month

-- what the bytes after the year say, by how many they are
abbrev pub read_two : ℕ → ℕ → ℕ → Option PeriodName
read_two y a b =
    if a == 87 then numbered Weekly y (number_of_one b)
    else (if a == 81 then numbered Quarterly y (number_of_one b)
    else (if a == 83 then numbered SixMonthly y (number_of_one b)
    else numbered Monthly y (number_of_two a b)))

abbrev pub read_three : ℕ → ℕ → ℕ → ℕ → Option PeriodName
read_three y a b c =
    if a == 87 then numbered Weekly y (number_of_two b c)
    else (if c == 66 then numbered BiMonthly y (number_of_two a b) else None)

unfoldable pub read_ending : ℕ → List ℕ → Option PeriodName
read_ending y r =
    if length r == 0 then whole Yearly y
    else (if length r == 2 then read_two y (slice_index r 0) (slice_index r 1)
    else (if bytes_eq r (codes "Oct") then whole FinancialOct y
    else (if length r == 3 then read_three y (slice_index r 0) (slice_index r 1) (slice_index r 2)
    else (if bytes_eq r (codes "July") then whole FinancialJuly y
    else (if length r == 4 then dated y (number_of_two (slice_index r 0) (slice_index r 1)) (number_of_two (slice_index r 2) (slice_index r 3))
    else (if bytes_eq r (codes "April") then whole FinancialApril y
    else (if length r == 7 && bytes_eq (take 6 r) (codes "AprilS") then numbered SixMonthlyApril y (number_of_one (slice_index r 6))
    else None)))))))

-- the name that a text says, in no year or too late in it though it may be
unfoldable pub read_name : List ℕ → Option PeriodName
read_name text =
    if nat_le 4 (length text) && nat_le (length text) 11
    then option_and_then (λ y. read_ending y (drop 4 text)) (number_of_four (slice_index text 0) (slice_index text 1) (slice_index text 2) (slice_index text 3))
    else None

-- the period of a text
unfoldable pub period_of : List ℕ → Option PeriodName
period_of text = option_and_then listed (read_name text)
