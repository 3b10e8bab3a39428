-- Lists that are cut by year make up the whole again.
use Rattle.std.proofs.Common.{◌≡◌, ◌∙◌, suc, ◌≤◌, Bool, true, false, not, cond, ◌||◌, List}
use Rattle.std.proofs.Common.{[], ◌∷◌, ◌++◌, length, map, ℤ, refl, sym, ap, subst, arith, Ordering}
use Rattle.std.specs.Cmp.{IsTotalOrder}
use Rattle.std.specs.List.{AllByRecursion, filter, list_all, list_any}
use Rattle.std.specs.List.Sorted.{IsStrictlySortedBy}
use Rattle.std.specs.Ordering.{int_cmp, is_lt}
use Rattle.std.proofs.lemmas.Bool.{and_parts, and_from, le-leb, leb-true}
use Rattle.std.proofs.lemmas.Cmp.{int_cmp_total}
use Rattle.std.proofs.lemmas.List.Kept.{IsStrictlySortedBy-filter}
use Rattle.table_rows.specs.declared.row.Row.{Row}
use Rattle.table_rows.specs.declared.event.EventRow.{EventRow}
use Rattle.table_rows.specs.declared.event.RegRow.{RegRow}
use Rattle.table_rows.specs.Cells.{gathered}
use Rattle.table_rows.specs.Events.{event_cmp, reg_cmp, has_days}
use Rattle.table_rows.specs.Order.{row_cmp}
use Rattle.table_rows.specs.Rows.{same_place}
use Rattle.table_rows.specs.Store.{Contents, is_store, is_short, rises, rises_from, all_differ}
use Rattle.table_rows.proofs.OrderLemmas.{row_total}
use Rattle.table_rows.proofs.RiseLemmas.{sorted_from_rises}
use Rattle.table_rows.proofs.StoreLemmas.{Holds, store-holds}
use Rattle.dh_base.specs.Limits.{is_day}
use Rattle.table_sums.specs.Ascending.{ascending}
use Rattle.table_sums.specs.Years.{is_row_in, is_event_in, is_reg_in}
use Rattle.table_sums.specs.YearParts.{YearPart, AreOfYears, ArePartitions, years_in, together, in_year, part_of}
use Rattle.table_sums.proofs.YearLemmas.{HasOneYear, each-true, filter-whole, gathered-map, is_in_any, years-together}
use Rattle.table_sums.proofs.YearPartLemmas.{reg_total, event_total, row-year, reg-year}
use Rattle.table_sums.proofs.EventLemmas.{event-year}

-- ---- together they are the whole

module _ (all : Contents) (years : List ℤ) (are : AreOfYears all years) where
  holds : Holds all.rows all.events all.regs years
  holds = store-holds all.rows all.events all.regs years are.store

  rise : IsStrictlySortedBy int_cmp years
  rise = sorted_from_rises int_cmp int_cmp_total years holds.years_rise

  back : {X : Type 0} (cmp : X → X → Ordering) → IsTotalOrder cmp → (is_in : ℤ → X → Bool) → HasOneYear is_in → (xs : List X) → rises cmp xs ≡ true
      → list_all (is_in_any is_in years) xs ≡ true → (list : YearPart → List X)
      → ((year : ℤ) → list (part_of all year) ≡ filter (is_in year) xs)
      → ascending cmp (gathered list (map (part_of all) years)) ≡ xs
  back cmp total is_in one xs up there list of_year =
      ap (ascending cmp) (gathered-map list (part_of all) years ∙ parts years)
      ∙ years-together is_in cmp total one years xs rise (sorted_from_rises cmp total xs up)
      ∙ filter-whole (is_in_any is_in years) xs (each-true (is_in_any is_in years) xs there)
    where
      parts : (ys : List ℤ) → gathered (λ year. list (part_of all year)) ys ≡ gathered (λ year. filter (is_in year) xs) ys
      parts [] = refl
      parts (y ∷ ys) = λ i. of_year y i ++ parts ys i

  pub whole-again : together (map (part_of all) years) ≡ all
  whole-again =
      let rows = back row_cmp row_total is_row_in row-year all.rows holds.rows_rise are.rows (λ (part : YearPart). part.contents.rows) (λ year. refl) in
      let events = back event_cmp event_total is_event_in event-year all.events holds.events_rise are.events (λ (part : YearPart). part.contents.events) (λ
      year. refl) in
      let regs = back reg_cmp reg_total is_reg_in reg-year all.regs holds.regs_rise are.regs (λ (part : YearPart). part.contents.regs) (λ year. refl) in
      λ i. record { rows = rows i; events = events i; regs = regs i }

years-again : (all : Contents) (years : List ℤ) → years_in (map (part_of all) years) ≡ years
years-again all [] = refl
years-again all (year ∷ years) = ap (λ ys. year ∷ ys) (years-again all years)

each-own : (all whole : Contents) (years : List ℤ) → whole ≡ all
    → AllByRecursion (λ (part : YearPart). part.contents ≡ in_year part.year whole) (map (part_of all) years)
each-own all whole [] is = tt
each-own all whole (year ∷ years) is = (ap (in_year year) (sym is), each-own all whole years is)

-- the parts of the years are partitions
pub cut-parts : (all : Contents) (years : List ℤ) → AreOfYears all years → ArePartitions (map (part_of all) years)
cut-parts all years are =
    let again = whole-again all years are in
    record {
      whole = subst (λ (whole : Contents). AreOfYears whole (years_in (map (part_of all) years))) (sym again)
          (subst (AreOfYears all) (sym (years-again all years)) are);
      each = each-own all (together (map (part_of all) years)) years again;
    }

pub cut-years : (all : Contents) (years : List ℤ) (parts : List YearPart) → parts ≡ map (part_of all) years → years_in parts ≡ years
cut-years all years parts is = ap years_in is ∙ years-again all years

pub cut-whole : (all : Contents) (years : List ℤ) (parts : List YearPart) → AreOfYears all years → parts ≡ map (part_of all) years → together parts ≡ all
cut-whole all years parts are is = ap together is ∙ whole-again all years are

-- ---- the lists of a year are those of a store

filter-length : {X : Type 0} (p : X → Bool) (xs : List X) → length (filter p xs) ≤ length xs
filter-length p [] = omega arith
filter-length p (x ∷ xs) = by_test (p x) (filter-length p xs)
  where
    by_test : (b : Bool) → length (filter p xs) ≤ length xs → length (cond b (x ∷ filter p xs) (filter p xs)) ≤ suc (length xs)
    by_test true short = omega arith
    by_test false short = omega arith

short-filter : {X : Type 0} (p : X → Bool) (xs : List X) → is_short xs ≡ true → is_short (filter p xs) ≡ true
short-filter p xs short =
    let few = leb-true (length xs) 4194304 short in
    let less = filter-length p xs in
    le-leb (length (filter p xs)) 4194304 (omega arith)

all-filter : {X : Type 0} (t p : X → Bool) (xs : List X) → list_all t xs ≡ true → list_all t (filter p xs) ≡ true
all-filter t p [] all = refl
all-filter t p (x ∷ xs) all = let parts = and_parts (t x) (list_all t xs) all in by_test (p x) parts.0 (all-filter t p xs parts.1)
  where
    by_test : (b : Bool) → t x ≡ true → list_all t (filter p xs) ≡ true → list_all t (cond b (x ∷ filter p xs) (filter p xs)) ≡ true
    by_test true is rest = and_from (t x) (list_all t (filter p xs)) is rest
    by_test false is rest = rest

none-filter : {X : Type 0} (t p : X → Bool) (xs : List X) → not (list_any t xs) ≡ true → not (list_any t (filter p xs)) ≡ true
none-filter t p [] none = refl
none-filter t p (x ∷ xs) none = by_tests (t x) (p x) refl none (none-filter t p xs)
  where
    by_tests : (a b : Bool) → t x ≡ a → not (a || list_any t xs) ≡ true → (not (list_any t xs) ≡ true → not (list_any t (filter p xs)) ≡ true)
        → not (list_any t (cond b (x ∷ filter p xs) (filter p xs))) ≡ true
    by_tests true b is left rest = absurd (cc)
    by_tests false true is left rest = ap (λ c. not (c || list_any t (filter p xs))) is ∙ rest left
    by_tests false false is left rest = rest left

differ-filter : {X : Type 0} (like : X → X → Bool) (p : X → Bool) (xs : List X) → all_differ like xs ≡ true → all_differ like (filter p xs) ≡ true
differ-filter like p [] all = refl
differ-filter like p (x ∷ xs) all =
    let parts = and_parts (not (list_any (like x) xs)) (all_differ like xs) all in
    by_test (p x) parts.0 (differ-filter like p xs parts.1)
  where
    by_test : (b : Bool) → not (list_any (like x) xs) ≡ true → all_differ like (filter p xs) ≡ true
        → all_differ like (cond b (x ∷ filter p xs) (filter p xs)) ≡ true
    by_test true none rest = and_from (not (list_any (like x) (filter p xs))) (all_differ like (filter p xs)) (none-filter (like x) p xs none) rest
    by_test false none rest = rest

rises-sorted : {X : Type 0} (cmp : X → X → Ordering) (xs : List X) → IsStrictlySortedBy cmp xs → rises cmp xs ≡ true
unfolding IsStrictlySortedBy
rises-sorted cmp [] s = refl
rises-sorted cmp (x ∷ []) s = refl
rises-sorted cmp (x ∷ y ∷ ys) s = and_from (is_lt (cmp x y)) (rises_from cmp y ys) (ap is_lt s.0.0) (rises-sorted cmp (y ∷ ys) s.1)

rises-filter : {X : Type 0} (cmp : X → X → Ordering) → IsTotalOrder cmp → (p : X → Bool) (xs : List X) → rises cmp xs ≡ true → rises cmp (filter p xs) ≡ true
rises-filter cmp total p xs up = rises-sorted cmp (filter p xs) (IsStrictlySortedBy-filter cmp p xs (sorted_from_rises cmp total xs up))

year-holds : (rows : List Row) (events : List EventRow) (regs : List RegRow) (year : ℤ) → Holds rows events regs []
    → is_store (filter (is_row_in year) rows) (filter (is_event_in year) events) (filter (is_reg_in year) regs) [] ≡ true
unfolding is_store
year-holds rows events regs year h =
    and_from _ _ (short-filter (is_row_in year) rows h.few_rows)
    (and_from _ _ (short-filter (is_event_in year) events h.few_events)
    (and_from _ _ (short-filter (is_reg_in year) regs h.few_regs)
    (and_from _ _ (rises-filter row_cmp row_total (is_row_in year) rows h.rows_rise)
    (and_from _ _ (rises-filter event_cmp event_total (is_event_in year) events h.events_rise)
    (and_from _ _ (rises-filter reg_cmp reg_total (is_reg_in year) regs h.regs_rise)
    (and_from _ _ refl
    (and_from _ _ (all-filter has_days (is_event_in year) events h.event_days)
    (and_from _ _ (all-filter (λ (reg : RegRow). is_day reg.day) (is_reg_in year) regs h.reg_days)
    (differ-filter same_place (is_row_in year) rows h.own_places)))))))))

pub year-store : (rows : List Row) (events : List EventRow) (regs : List RegRow) (year : ℤ) → is_store rows events regs [] ≡ true
    → is_store (filter (is_row_in year) rows) (filter (is_event_in year) events) (filter (is_reg_in year) regs) [] ≡ true
year-store rows events regs year store = year-holds rows events regs year (store-holds rows events regs [] store)

plain-holds : (rows : List Row) (events : List EventRow) (regs : List RegRow) (years : List ℤ) → Holds rows events regs years
    → is_store rows events regs [] ≡ true
unfolding is_store
plain-holds rows events regs years h =
    and_from _ _ h.few_rows (and_from _ _ h.few_events (and_from _ _ h.few_regs (and_from _ _ h.rows_rise (and_from _ _ h.events_rise
    (and_from _ _ h.regs_rise (and_from _ _ refl (and_from _ _ h.event_days (and_from _ _ h.reg_days h.own_places))))))))

pub years-of-rise : (all : Contents) (years : List ℤ) → AreOfYears all years → rises int_cmp years ≡ true
years-of-rise all years are = (store-holds all.rows all.events all.regs years are.store).years_rise

-- without its years a store is one
pub no-years : (rows : List Row) (events : List EventRow) (regs : List RegRow) (years : List ℤ) → is_store rows events regs years ≡ true
    → is_store rows events regs [] ≡ true
no-years rows events regs years store = plain-holds rows events regs years (store-holds rows events regs years store)

-- lists that were made of those of a store
pub year-store-of : (rows found_rows : List Row) (events found_events : List EventRow) (regs found_regs : List RegRow) (year : ℤ)
    → found_rows ≡ filter (is_row_in year) rows → found_events ≡ filter (is_event_in year) events → found_regs ≡ filter (is_reg_in year) regs
    → is_store rows events regs [] ≡ true → is_store found_rows found_events found_regs [] ≡ true
year-store-of rows found_rows events found_events regs found_regs year row event reg store =
    ap (λ list. is_store list found_events found_regs []) row
    ∙ ap (λ list. is_store (filter (is_row_in year) rows) list found_regs []) event
    ∙ ap (λ list. is_store (filter (is_row_in year) rows) (filter (is_event_in year) events) list []) reg
    ∙ year-store rows events regs year store
