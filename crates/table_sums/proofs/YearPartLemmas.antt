-- What parts by year answer together.
use Rattle.std.proofs.Common.{suc, ◌≡◌, ◌∙◌, ℕ, ◌+◌, ◌<◌, ◌≤◌, Bool, true, false, not, cond, List, [], ◌∷◌, ◌++◌, length, map, drop, get_or, ℤ, inl, inr}
use Rattle.std.proofs.Common.{refl, sym, ap, subst, arith}
use Rattle.std.specs.Cmp.{IsTotalOrder}
use Rattle.std.specs.List.{AllByRecursion, filter, list_any}
use Rattle.std.specs.List.Sorted.{IsStrictlySortedBy}
use Rattle.std.specs.Ordering.{int_cmp, int_eq}
use Rattle.std.proofs.lemmas.Bool.{and_parts, cases_Bool, false≢true}
use Rattle.std.proofs.lemmas.Bool.Decides.{Decides-int_eq}
use Rattle.std.proofs.lemmas.Cmp.{then_total, on_total, nat_cmp_total, int_cmp_total, lists_total}
use Rattle.std.proofs.lemmas.List.{get_or-map}
use Rattle.std.proofs.lemmas.List.Elements.{All-from_recursion}
use Rattle.std.proofs.lemmas.List.Kept.{IsStrictlySortedBy-filter}
use Rattle.dh_base.specs.declared.plain.Need.{Need}
use Rattle.dh_periods.specs.contracts.period.PeriodOrd.TheImpl.Laws as period
use Rattle.table_rows.specs.declared.row.Row.{Row}
use Rattle.table_rows.specs.declared.row.Group.{Group}
use Rattle.table_rows.specs.declared.event.EventRow.{EventRow}
use Rattle.table_rows.specs.declared.event.RegRow.{RegRow}
use Rattle.table_rows.specs.Events.{event_cmp, reg_cmp, is_reg_of, regs_of}
use Rattle.table_rows.specs.Groups.{each_once, groups_of}
use Rattle.table_rows.specs.Order.{group_cmp}
use Rattle.table_rows.specs.Rows.{group_of, same_group, is_of_element, is_in_group, is_wanted, wanted_rows}
use Rattle.table_rows.specs.Store.{Contents, rises}
use Rattle.table_rows.specs.Sums.{no_sum, sum_of_rows}
use Rattle.table_rows.proofs.OrderLemmas.{group_total, same_group-true}
use Rattle.table_rows.proofs.RiseLemmas.{sorted_from_rises}
use Rattle.table_rows.proofs.RunLemmas.{every-filter, every-each_once, groups_of-sorted}
use Rattle.table_rows.proofs.StoreLemmas.{Holds, store-holds}
use Rattle.table_sums.specs.Ascending.{ascending}
use Rattle.table_sums.specs.Years.{period_year, is_row_in, is_group_in, is_reg_in}
use Rattle.table_sums.specs.YearParts.{YearPart, ArePartitions, years_in, together, rows_together, events_together, regs_together, in_year}
use Rattle.table_sums.proofs.AscendingLemmas.{every-to}
use Rattle.table_sums.proofs.YearLemmas.{HasOneYear, is_in_any, is_in_none, same-year, filter-swap, filter-within, filter-gone, each-true}
use Rattle.table_sums.proofs.YearLemmas.{collect-more, collect-none, collect-all}

-- ---- the orders are total

pub reg_total : IsTotalOrder reg_cmp
reg_total =
    then_total (on_total (λ (reg : RegRow). reg.set) nat_cmp_total)
    (then_total (on_total (λ (reg : RegRow). reg.period) period.total-law)
    (then_total (on_total (λ (reg : RegRow). reg.order) nat_cmp_total) (on_total (λ (reg : RegRow). reg.attribute) nat_cmp_total)))

pub event_total : IsTotalOrder event_cmp
event_total = then_total (on_total (λ (event : EventRow). event.day) int_cmp_total) (on_total (λ (event : EventRow). event.id) (lists_total nat_cmp_total))

-- ---- each is of one year at most

by-year : {X : Type 0} (year_of : X → ℤ) → HasOneYear (λ year x. int_eq (year_of x) year)
by-year year_of y z x is also = sym (same-year (year_of x) y is) ∙ same-year (year_of x) z also

pub group-year : HasOneYear is_group_in
group-year = by-year (λ (group : Group). period_year group.period)

pub reg-year : HasOneYear is_reg_in
reg-year = by-year (λ (reg : RegRow). period_year reg.period)

pub row-year : HasOneYear is_row_in
row-year = by-year (λ (row : Row). period_year row.period)

-- ---- what parts together keep to

pub whole : (parts : List YearPart) → ArePartitions parts
    → Holds (rows_together parts) (events_together parts) (regs_together parts) (years_in parts)
whole parts are = store-holds (rows_together parts) (events_together parts) (regs_together parts) (years_in parts) are.whole.store

pub years-rise : (parts : List YearPart) → ArePartitions parts → rises int_cmp (years_in parts) ≡ true
years-rise parts are = (whole parts are).years_rise

pub years-sorted : (parts : List YearPart) → ArePartitions parts → IsStrictlySortedBy int_cmp (years_in parts)
years-sorted parts are = sorted_from_rises int_cmp int_cmp_total (years_in parts) (years-rise parts are)

pub part-at : (parts : List YearPart) (part : YearPart) (i : ℕ) → ArePartitions parts → i < length parts → part ≡ get_or parts i part
    → part.contents ≡ in_year part.year (together parts)
part-at parts part i are within at =
    subst (λ (p : YearPart). p.contents ≡ in_year p.year (together parts)) (sym at)
    (All-from_recursion (λ (p : YearPart). p.contents ≡ in_year p.year (together parts)) parts are.each i part within)

year-at : (parts : List YearPart) (part : YearPart) (i : ℕ) → i < length parts → part ≡ get_or parts i part
    → part.year ≡ get_or (years_in parts) i part.year
year-at parts part i within at =
    ap (λ (p : YearPart). p.year) at ∙ sym (get_or-map (λ (p : YearPart). p.year) parts i part part.year within)

length-years : (parts : List YearPart) → length (years_in parts) ≡ length parts
length-years [] = refl
length-years (part ∷ parts) = ap suc (length-years parts)

-- ---- rows of one group

wanted-year : (group : Group) (need : Need) (from to : ℕ) (row : Row) → is_wanted group need from to row ≡ true
    → period_year row.period ≡ period_year group.period
wanted-year group need from to row is =
    let parts = and_parts (is_in_group group row) _ is in
    ap (λ (g : Group). period_year g.period) (same_group-true (group_of row) group parts.0)

int_eq-from : (y z : ℤ) → y ≡ z → int_eq y z ≡ true
int_eq-from y z is = (Decides-int_eq y z).1 is

pub found-rows : (parts : List YearPart) (part : YearPart) (i : ℕ) (group : Group) (need : Need) (from to : ℕ) → ArePartitions parts → i < length parts
    → part ≡ get_or parts i part → ((d : ℤ) → get_or (years_in parts) i d ≡ period_year group.period)
    → wanted_rows group need from to part.contents.rows ≡ wanted_rows group need from to (rows_together parts)
found-rows parts part i group need from to are within at year =
    let own : part.year ≡ period_year group.period = year-at parts part i within at ∙ year part.year in
    ap (λ (c : Contents). wanted_rows group need from to c.rows) (part-at parts part i are within at)
    ∙ filter-within (is_row_in part.year) (is_wanted group need from to) (rows_together parts) (λ row is.
    int_eq-from (period_year row.period) part.year (wanted-year group need from to row is ∙ sym own))

pub no-rows : (parts : List YearPart) (group : Group) (need : Need) (from to : ℕ) → ArePartitions parts
    → list_any (int_eq (period_year group.period)) (years_in parts) ≡ false → wanted_rows group need from to (rows_together parts) ≡ []
no-rows parts group need from to are none =
    filter-gone (is_wanted group need from to) (rows_together parts)
    (every-to (λ row. is_in_any is_row_in (years_in parts) row ≡ true) (λ row. is_wanted group need from to row ≡ false) (rows_together parts) (λ row there.
    elim (cases_Bool (is_wanted group need from to row)) [
      | inl is ↦ absurd (false≢true (sym none ∙ ap (λ y. list_any (int_eq y) (years_in parts)) (sym (wanted-year group need from to row is)) ∙ there))
      | inr not ↦ not
    ])
    (each-true (λ row. is_in_any is_row_in (years_in parts) row) (rows_together parts) are.whole.rows))

-- the part in the place of a group's year answers for all
pub found-in : (parts : List YearPart) (years : List ℤ) (part : YearPart) (i : ℕ) (year : ℤ) (group : Group) (need : Need) (from to : ℕ) → ArePartitions parts
    → years ≡ years_in parts → year ≡ period_year group.period → i < length years → ((d : ℤ) → get_or years i d ≡ year) → part ≡ get_or parts i part
    → wanted_rows group need from to part.contents.rows ≡ wanted_rows group need from to (rows_together parts)
found-in parts years part i year group need from to are seen own within there at =
    let many = ap (λ (ys : List ℤ). length ys) seen ∙ length-years parts in
    found-rows parts part i group need from to are (omega (arith, many, within)) at (λ d. ap (λ ys. get_or ys i d) (sym seen) ∙ there d ∙ own)

-- and where there is no such year, none does
pub none-in : (parts : List YearPart) (years : List ℤ) (year : ℤ) (group : Group) (need : Need) (from to : ℕ) → ArePartitions parts
    → years ≡ years_in parts → year ≡ period_year group.period → list_any (int_eq year) years ≡ false
    → wanted_rows group need from to (rows_together parts) ≡ []
none-in parts years year group need from to are seen own none =
    no-rows parts group need from to are
    (ap (λ y. list_any (int_eq y) (years_in parts)) (sym own) ∙ ap (λ ys. list_any (int_eq year) ys) (sym seen) ∙ none)

pub nothing-sums : (rows : List Row) → rows ≡ [] → no_sum ≡ sum_of_rows rows
unfolding sum_of_rows
nothing-sums rows is = sym (ap sum_of_rows is)

pub years-rise-in : (parts : List YearPart) (years : List ℤ) → ArePartitions parts → years ≡ years_in parts → rises int_cmp years ≡ true
years-rise-in parts years are seen = ap (rises int_cmp) seen ∙ years-rise parts are

-- ---- groups

map-filter : {A B : Type 0} (t : B → Bool) (f : A → B) (xs : List A) → map f (filter (λ x. t (f x)) xs) ≡ filter t (map f xs)
map-filter t f [] = refl
map-filter t f (x ∷ xs) = by_test (t (f x)) (map-filter t f xs)
  where
    by_test : (b : Bool) → map f (filter (λ x. t (f x)) xs) ≡ filter t (map f xs)
        → map f (cond b (x ∷ filter (λ x. t (f x)) xs) (filter (λ x. t (f x)) xs)) ≡ cond b (f x ∷ filter t (map f xs)) (filter t (map f xs))
    by_test true rest = ap (λ v. f x ∷ v) rest
    by_test false rest = rest

each_once-filter : (t : Group → Bool) (hs : List Group) → each_once same_group (filter t hs) ≡ filter t (each_once same_group hs)
each_once-filter t [] = refl
each_once-filter t (h ∷ hs) = by_test (t h) refl (each_once-filter t hs)
  where
    others : Group → Bool
    others g = not (same_group h g)

    other : t h ≡ false → (g : Group) → t g ≡ true → not (same_group h g) ≡ true
    other left g kept =
        elim (cases_Bool (same_group h g)) [
          | inl same ↦ absurd (false≢true (sym left ∙ ap t (same_group-true h g same) ∙ kept))
          | inr apart ↦ ap not apart
        ]

    by_test : (b : Bool) → t h ≡ b → each_once same_group (filter t hs) ≡ filter t (each_once same_group hs)
        → each_once same_group (cond b (h ∷ filter t hs) (filter t hs))
        ≡ cond b (h ∷ filter t (filter (λ g. not (same_group h g)) (each_once same_group hs)))
        (filter t (filter (λ g. not (same_group h g)) (each_once same_group hs)))
    by_test true is rest =
        ap (λ v. h ∷ filter (λ g. not (same_group h g)) v) rest
        ∙ ap (λ v. h ∷ v) (filter-swap (λ g. not (same_group h g)) t (each_once same_group hs))
    by_test false is rest =
        rest ∙ sym (filter-within (λ g. not (same_group h g)) t (each_once same_group hs) (other is))

groups-filter : (t : Group → Bool) (element : ℕ) (rows : List Row)
    → groups_of element (filter (λ row. t (group_of row)) rows) ≡ filter t (groups_of element rows)
unfolding groups_of
groups-filter t element rows =
    ap (λ rs. each_once same_group (map group_of rs)) (filter-swap (is_of_element element) (λ row. t (group_of row)) rows)
    ∙ ap (each_once same_group) (map-filter t group_of (filter (is_of_element element) rows))
    ∙ each_once-filter t (map group_of (filter (is_of_element element) rows))

every-map : {A B : Type 0} (P : B → Type 0) (f : A → B) (xs : List A) → AllByRecursion (λ x. P (f x)) xs → AllByRecursion P (map f xs)
every-map P f [] all = tt
every-map P f (x ∷ xs) all = (all.0, every-map P f xs all.1)

groups-have : (parts : List YearPart) (element : ℕ) → ArePartitions parts
    → AllByRecursion (λ group. is_in_any is_group_in (years_in parts) group ≡ true) (groups_of element (rows_together parts))
unfolding groups_of
groups-have parts element are =
    let Has : Group → Type 0 = λ group. is_in_any is_group_in (years_in parts) group ≡ true in
    every-each_once Has (map group_of (filter (is_of_element element) (rows_together parts)))
    (every-map Has group_of (filter (is_of_element element) (rows_together parts))
    (every-filter (λ row. Has (group_of row)) (is_of_element element) (rows_together parts)
    (each-true (λ row. is_in_any is_row_in (years_in parts) row) (rows_together parts) are.whole.rows)))

groups-sorted : (parts : List YearPart) (element : ℕ) → ArePartitions parts → IsStrictlySortedBy group_cmp (groups_of element (rows_together parts))
groups-sorted parts element are = groups_of-sorted element (rows_together parts) (whole parts are).rows_rise

part-groups : (parts : List YearPart) (part : YearPart) (i element : ℕ) → ArePartitions parts → i < length parts → part ≡ get_or parts i part
    → groups_of element part.contents.rows ≡ filter (is_group_in part.year) (groups_of element (rows_together parts))
part-groups parts part i element are within at =
    ap (λ (c : Contents). groups_of element c.rows) (part-at parts part i are within at)
    ∙ groups-filter (is_group_in part.year) element (rows_together parts)

-- the groups of the years up to the i-th
abbrev pub GroupsUpto : List YearPart → ℕ → ℕ → List Group → Type 0
GroupsUpto parts element i list = list ≡ filter (is_in_none is_group_in (drop i (years_in parts))) (groups_of element (rows_together parts))

pub groups-begin : (parts : List YearPart) (element : ℕ) (list : List Group) → ArePartitions parts → list ≡ [] → GroupsUpto parts element 0 list
groups-begin parts element list are none =
    collect-none is_group_in (years_in parts) (groups_of element (rows_together parts)) list (groups-have parts element are) none

pub groups-known : (parts : List YearPart) (element i : ℕ) (list : List Group) → ArePartitions parts → GroupsUpto parts element i list
    → IsStrictlySortedBy group_cmp list
groups-known parts element i list are is =
    subst (IsStrictlySortedBy group_cmp) (sym is)
    (IsStrictlySortedBy-filter group_cmp (is_in_none is_group_in (drop i (years_in parts))) (groups_of element (rows_together parts))
    (groups-sorted parts element are))

pub groups-next : (parts : List YearPart) (part : YearPart) (i element : ℕ) → ArePartitions parts → i < length parts → part ≡ get_or parts i part
    → IsStrictlySortedBy group_cmp (groups_of element part.contents.rows)
groups-next parts part i element are within at =
    subst (IsStrictlySortedBy group_cmp) (sym (part-groups parts part i element are within at))
    (IsStrictlySortedBy-filter group_cmp (is_group_in part.year) (groups_of element (rows_together parts)) (groups-sorted parts element are))

pub groups-more : (parts : List YearPart) (part : YearPart) (i element : ℕ) (list new : List Group) → ArePartitions parts → i < length parts
    → part ≡ get_or parts i part → GroupsUpto parts element i list → new ≡ ascending group_cmp (list ++ groups_of element part.contents.rows)
    → GroupsUpto parts element (i + 1) new
groups-more parts part i element list new are within at known is =
    let many = length-years parts in
    collect-more is_group_in group_cmp group_total group-year (years_in parts) (groups_of element (rows_together parts)) list
    (groups_of element part.contents.rows) new i part.year (years-sorted parts are) (groups-sorted parts element are) (omega arith)
    (year-at parts part i within at) known (part-groups parts part i element are within at) is

pub groups-done : (parts : List YearPart) (element i : ℕ) (list : List Group) → length parts ≤ i → GroupsUpto parts element i list
    → list ≡ groups_of element (rows_together parts)
groups-done parts element i list past is =
    let many = length-years parts in
    collect-all is_group_in (years_in parts) (groups_of element (rows_together parts)) list i (omega arith) is

-- ---- registrations

regs-have : (parts : List YearPart) (set : ℕ) → ArePartitions parts
    → AllByRecursion (λ reg. is_in_any is_reg_in (years_in parts) reg ≡ true) (regs_of set (regs_together parts))
regs-have parts set are =
    every-filter (λ reg. is_in_any is_reg_in (years_in parts) reg ≡ true) (is_reg_of set) (regs_together parts)
    (each-true (λ reg. is_in_any is_reg_in (years_in parts) reg) (regs_together parts) are.whole.regs)

regs-sorted : (parts : List YearPart) (set : ℕ) → ArePartitions parts → IsStrictlySortedBy reg_cmp (regs_of set (regs_together parts))
regs-sorted parts set are =
    IsStrictlySortedBy-filter reg_cmp (is_reg_of set) (regs_together parts)
    (sorted_from_rises reg_cmp reg_total (regs_together parts) (whole parts are).regs_rise)

part-regs : (parts : List YearPart) (part : YearPart) (i set : ℕ) → ArePartitions parts → i < length parts → part ≡ get_or parts i part
    → regs_of set part.contents.regs ≡ filter (is_reg_in part.year) (regs_of set (regs_together parts))
part-regs parts part i set are within at =
    ap (λ (c : Contents). regs_of set c.regs) (part-at parts part i are within at) ∙ filter-swap (is_reg_of set) (is_reg_in part.year) (regs_together parts)

-- the registrations of the years up to the i-th
abbrev pub RegsUpto : List YearPart → ℕ → ℕ → List RegRow → Type 0
RegsUpto parts set i list = list ≡ filter (is_in_none is_reg_in (drop i (years_in parts))) (regs_of set (regs_together parts))

pub regs-begin : (parts : List YearPart) (set : ℕ) (list : List RegRow) → ArePartitions parts → list ≡ [] → RegsUpto parts set 0 list
regs-begin parts set list are none =
    collect-none is_reg_in (years_in parts) (regs_of set (regs_together parts)) list (regs-have parts set are) none

pub regs-known : (parts : List YearPart) (set i : ℕ) (list : List RegRow) → ArePartitions parts → RegsUpto parts set i list → IsStrictlySortedBy reg_cmp list
regs-known parts set i list are is =
    subst (IsStrictlySortedBy reg_cmp) (sym is)
    (IsStrictlySortedBy-filter reg_cmp (is_in_none is_reg_in (drop i (years_in parts))) (regs_of set (regs_together parts)) (regs-sorted parts set are))

pub regs-next : (parts : List YearPart) (part : YearPart) (i set : ℕ) → ArePartitions parts → i < length parts → part ≡ get_or parts i part
    → IsStrictlySortedBy reg_cmp (regs_of set part.contents.regs)
regs-next parts part i set are within at =
    subst (IsStrictlySortedBy reg_cmp) (sym (part-regs parts part i set are within at))
    (IsStrictlySortedBy-filter reg_cmp (is_reg_in part.year) (regs_of set (regs_together parts)) (regs-sorted parts set are))

pub regs-more : (parts : List YearPart) (part : YearPart) (i set : ℕ) (list new : List RegRow) → ArePartitions parts → i < length parts
    → part ≡ get_or parts i part → RegsUpto parts set i list → new ≡ ascending reg_cmp (list ++ regs_of set part.contents.regs)
    → RegsUpto parts set (i + 1) new
regs-more parts part i set list new are within at known is =
    let many = length-years parts in
    collect-more is_reg_in reg_cmp reg_total reg-year (years_in parts) (regs_of set (regs_together parts)) list (regs_of set part.contents.regs) new i part.year
    (years-sorted parts are) (regs-sorted parts set are) (omega arith) (year-at parts part i within at) known (part-regs parts part i set are within at) is

pub regs-done : (parts : List YearPart) (set i : ℕ) (list : List RegRow) → length parts ≤ i → RegsUpto parts set i list
    → list ≡ regs_of set (regs_together parts)
regs-done parts set i list past is =
    let many = length-years parts in
    collect-all is_reg_in (years_in parts) (regs_of set (regs_together parts)) list i (omega arith) is
