-- The objects that samples are of: identifiers of units, and months.
use Rattle.std.specs.Prelude.{ℕ, ◌+◌, ◌*◌, ◌/◌, ◌%◌, List, [], ◌∷◌, ◌++◌, codes}
use Rattle.std.specs.Fmt.{decimal}

-- the last decimal digit of a number
abbrev pub digit : ℕ → ℕ
digit n = 48 + n % 10

unfoldable pub country_id : List ℕ
country_id = codes "GenCountry1"

unfoldable pub district_id : ℕ → List ℕ
district_id n = codes "GenDistri" ++ (digit (n / 10) ∷ digit n ∷ [])

unfoldable pub facility_id : ℕ → List ℕ
facility_id n = codes "GenFacil" ++ (digit (n / 100) ∷ digit (n / 10) ∷ digit n ∷ [])

unfoldable pub element_id : List ℕ
element_id = codes "GenElement1"

unfoldable pub user_id : List ℕ
user_id = codes "GenUser0001"

-- the text of a month, counted from January 2023
unfoldable pub month_text : ℕ → List ℕ
month_text month = decimal (202301 + month / 12 * 100 + month % 12)
