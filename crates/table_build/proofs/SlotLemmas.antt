-- The slots of an update: a part is put into one, and all parts together are the tables.
use Rattle.std.proofs.Common.{◌≡◌, ◌∙◌, ◌≤◌, ◌<◌, ℕ, zero, suc, true, List, [], ◌∷◌, Some, length, map, get_or, set, refl, sym, ap, subst, arith, ℤ}
use Rattle.std.specs.List.{AllByRecursion, list_all}
use Rattle.dh_changes.specs.declared.change.Write.{Write}
use Rattle.dh_metadata.specs.declared.held.Records.{Records}
use Rattle.dh_changes.specs.Facts.{Facts, facts_in}
use Rattle.dh_records.specs.Access.{tree}
use Rattle.table_rows.specs.Store.{Contents, Listed, contents_in, have_own_places}
use Rattle.table_sums.specs.YearParts.{YearPart, AreOfYears, part_of}
use Rattle.table_build.specs.declared.slots.Slot.{Slot}
use Rattle.table_build.specs.Log.{is_of_days, values_named}
use Rattle.table_build.specs.Years.{years_of}
use Rattle.table_build.specs.Listed.{listed_in}
use Rattle.table_build.specs.Slots.{no_part, slot_years, IsSlotOf, AreSlots}
use Rattle.table_build.proofs.KeyLemmas.{StandsTree, rows-own}
use Rattle.table_build.proofs.StoreLemmas.{listed-store}
use Rattle.table_build.proofs.YearLemmas.{listed-years}

-- ---- slots without a part

years-first : (years : List ℤ) → slot_years (map no_part years) ≡ years
years-first [] = refl
years-first (year ∷ years) = ap (λ ys. year ∷ ys) (years-first years)

parts-first : (all : Contents) (years : List ℤ) → AllByRecursion (IsSlotOf all) (map no_part years)
parts-first all [] = tt
parts-first all (year ∷ years) = (tt, parts-first all years)

pub first-slots : (listed : Listed) (years : List ℤ) (slots : List Slot) → slots ≡ map no_part years → years ≡ listed.years
    → have_own_places listed.rows ≡ true → AreSlots listed slots
first-slots listed years slots is year own =
    subst (AreSlots listed) (sym (is)) (subst (λ ys. AreSlots listed (map no_part ys)) (sym year) (record {
      years = years-first listed.years;
      parts = parts-first (contents_in listed) listed.years;
      own = own;
    }))

-- of a group no two rows that writes leave have one place
pub left-own : (r : Records) (writes : List Write) → StandsTree r (facts_in writes) → have_own_places (listed_in r writes).rows ≡ true
unfolding listed_in
left-own r writes stands = rows-own r (facts_in writes) stands (values_named writes)

-- the same, of the units that any log leaves: no write moves one
pub left-own-by : (r : Records) (known : Facts) (writes : List Write) → StandsTree r known → have_own_places (listed_in r writes).rows ≡ true
unfolding tree
left-own-by r known writes stands = left-own r writes (record { is_tree = stands.is_tree; numbers = stands.numbers })

-- ---- a part is put into the slot of its year

set-all : {X : Type 0} (P : X → Type 0) (xs : List X) (n : ℕ) (y : X) → AllByRecursion P xs → P y → AllByRecursion P (set xs n y)
set-all P [] n y all is = tt
set-all P (x ∷ xs) zero y all is = (is, all.1)
set-all P (x ∷ xs) (suc n) y all is = (all.0, set-all P xs n y all.1 is)

set-year : (xs : List Slot) (n : ℕ) (y : Slot) → n < length xs → ((other : Slot) → (get_or xs n other).year ≡ y.year) → slot_years (set xs n y) ≡ slot_years xs
set-year [] n y within same = refl
set-year (x ∷ xs) zero y within same = ap (λ year. year ∷ slot_years xs) (sym (same x))
set-year (x ∷ xs) (suc n) y within same = ap (λ ys. x.year ∷ ys) (set-year xs n y (omega (arith, within)) same)

pub part-put : (listed : Listed) (slots : List Slot) (at : ℕ) (part : YearPart) → at < length slots
    → ((other : Slot) → (get_or slots at other).year ≡ part.year)
    → part ≡ part_of (contents_in listed) part.year → AreSlots listed slots
    → AreSlots listed (set slots at (record { year = part.year; part = Some part }))
part-put listed slots at part within found is are =
    let slot : Slot = record { year = part.year; part = Some part } in
    record {
      years = set-year slots at slot within found ∙ are.years;
      parts = set-all (IsSlotOf (contents_in listed)) slots at slot are.parts is;
      own = are.own;
    }

-- ---- the parts of all years

pub years-are : (listed : Listed) (slots : List Slot) (parts : List YearPart) → AreSlots listed slots
    → parts ≡ map (part_of (contents_in listed)) (slot_years slots)
    → parts ≡ map (part_of (contents_in listed)) listed.years
years-are listed slots parts are is = is ∙ ap (map (part_of (contents_in listed))) are.years

listed-own : (r : Records) (writes : List Write)
    → (listed_in r writes).years ≡ years_of (listed_in r writes).rows (listed_in r writes).regs (listed_in r writes).events
unfolding listed_in
listed-own r writes = refl

-- what writes leave is that of a store, and of its years
pub listed-are : (r : Records) (writes : List Write) → length writes ≤ 4194304 → list_all is_of_days writes ≡ true
    → have_own_places (listed_in r writes).rows ≡ true → AreOfYears (contents_in (listed_in r writes)) (listed_in r writes).years
listed-are r writes few days own =
    listed-years (listed_in r writes).rows (listed_in r writes).events (listed_in r writes).regs (listed_in r writes).years (listed-own r writes)
    (listed-store r writes few days own)
