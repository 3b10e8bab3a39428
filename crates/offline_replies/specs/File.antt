-- The metadata that samples are of, as a metadata file: a country of 10 districts with 10 facilities each, one element of numbers that are
-- summed, one monthly data set that is assigned to all facilities, and one user who may do all there is in the whole country.
use Rattle.std.specs.Prelude.{ℕ, zero, suc, ◌/◌, nat_eq, if◌then◌else◌, List, [], ◌∷◌, ◌++◌, codes}
use Rattle.offline_replies.specs.Ids.{country_id, district_id, facility_id}

-- the texts of the numbers below a number, one after the other
unfoldable pub each_below : (ℕ → List ℕ) → ℕ → List ℕ
each_below text zero = []
each_below text (suc n) = each_below text n ++ text n

unfoldable pub elements : List ℕ
elements = codes "{\"dataElements\":[{\"aggregationType\":\"SUM\",\"id\":\"GenElement1\",\"valueType\":\"NUMBER\"}],"

unfoldable pub before_assigned : List ℕ
before_assigned = codes "\"dataSets\":[{\"dataSetElements\":[{\"dataElement\":{\"id\":\"GenElement1\"}}],\"id\":\"GenDataSet1\",\"organisationUnits\":["

-- a comma before all but the first
abbrev pub comma : ℕ → List ℕ
comma n = if nat_eq n 0 then [] else 44 ∷ []

-- a facility that the data set is assigned to
unfoldable pub assigned : ℕ → List ℕ
assigned n = comma n ++ (codes "{\"id\":\"" ++ (facility_id n ++ codes "\"}"))

unfoldable pub before_units : List ℕ
before_units = codes "],\"periodType\":\"Monthly\"}],\"organisationUnits\":[{\"id\":\"GenCountry1\"}"

-- a unit below another
unfoldable pub unit_below : List ℕ → List ℕ → List ℕ
unit_below parent id = codes ",{\"id\":\"" ++ (id ++ (codes "\",\"parent\":{\"id\":\"" ++ (parent ++ codes "\"}}")))

unfoldable pub district : ℕ → List ℕ
district n = unit_below country_id (district_id n)

unfoldable pub facility : ℕ → List ℕ
facility n = unit_below (district_id (n / 10)) (facility_id n)

unfoldable pub users : List ℕ
users =
    codes "],\"userRoles\":[{\"authorities\":[\"ALL\"],\"id\":\"GenRole0001\"}]," ++
    codes "\"users\":[{\"id\":\"GenUser0001\",\"organisationUnits\":[{\"id\":\"GenCountry1\"}],\"userRoles\":[{\"id\":\"GenRole0001\"}]}]}"

unfoldable pub data_sets : List ℕ
data_sets = before_assigned ++ each_below assigned 100

unfoldable pub units : List ℕ
units = before_units ++ (each_below district 10 ++ each_below facility 100)

unfoldable pub sample_file : List ℕ
sample_file = elements ++ (data_sets ++ (units ++ users))
