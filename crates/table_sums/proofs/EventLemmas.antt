-- Events stand in the order of their years.
use Rattle.std.proofs.Common.{◌≡◌, ◌∙◌, ◌+◌, ◌/◌, ◌≤◌, ℕ, zero, suc, Bool, true, false, cond, ◌&&◌, nat_eq, List, [], ◌∷◌, ◌++◌, take, drop}
use Rattle.std.proofs.Common.{ℤ, pos, ◌-ℤ◌, ◌≤ℤ◌, ◌<ℤ◌, Option, Some, None, refl, sym, ap, append_assoc, arith, Ordering, Less, Equal, Greater}
use Rattle.std.specs.Cmp.Lexicographic.{slice_cmp}
use Rattle.std.specs.Prelude.{int_le}
use Rattle.std.specs.List.{AllByRecursion, filter, list_all}
use Rattle.std.specs.Ordering.{int_cmp, nat_cmp, is_lt, is_gt, ordering_then}
use Rattle.std.proofs.lemmas.List.{append-nil}
use Rattle.std.proofs.Math.Nat.{div-mul-le_self}
use Rattle.std.proofs.lemmas.Bool.{and_parts, false≢true}
use Rattle.std.proofs.lemmas.Int.{ints}
use Rattle.std.proofs.lemmas.Cmp.{int_ranked}
use Rattle.std.proofs.lemmas.Nat.{le-div}
use Rattle.std.proofs.lemmas.List.Kept.{IsStrictlySortedBy-filter}
use Rattle.dh_periods.specs.declared.kind.PeriodType.TheVariants.{Daily}
use Rattle.dh_periods.specs.declared.name.PeriodName.{PeriodName}
use Rattle.dh_periods.specs.Calendar.{month_with, year_with, unix_day}
use Rattle.dh_periods.specs.Days.{first_place, first_place_as, end_place, end_place_as, first_day, last_day}
use Rattle.dh_periods.specs.Places.{containing_of, year_of}
use Rattle.dh_periods.specs.Types.{shape_of}
use Rattle.dh_periods.proofs.CalendarLemmas.{month_with-bounds, month_with-from}
use Rattle.dh_periods.proofs.ContainingLemmas.{containing_of-is}
use Rattle.dh_periods.proofs.HeldLemmas.{int_le-yes}
use Rattle.dh_periods.proofs.SpanLemmas.{unix_day-back}
use Rattle.dh_periods.proofs.TextLemmas.{map-some}
use Rattle.table_rows.specs.declared.event.EventRow.{EventRow}
use Rattle.table_rows.specs.Cells.{gathered}
use Rattle.table_rows.specs.Events.{event_cmp, is_event_of, events_of}
use Rattle.table_rows.specs.Store.{Contents}
use Rattle.table_rows.proofs.GatherLemmas.{gathered-same}
use Rattle.table_rows.proofs.RiseLemmas.{sorted_from_rises}
use Rattle.table_rows.proofs.RunLemmas.{every-filter}
use Rattle.table_sums.specs.Years.{period_year, day_year, is_year_if_any, is_event_in, comes_before, comes_after}
use Rattle.table_sums.specs.YearParts.{YearPart, ArePartitions, years_in, together, events_together, in_year}
use Rattle.table_sums.proofs.AscendingLemmas.{every-to}
use Rattle.table_sums.proofs.YearLemmas.{HasOneYear, FollowsYears, is_in_any, same-year, filter-swap}
use Rattle.table_sums.proofs.YearLemmas.{filter-whole, each-true, gathered-map, years-along}
use Rattle.table_sums.proofs.YearPartLemmas.{event_total, whole, years-sorted}
use Rattle.table_sums.proofs.SearchLemmas.{turned}

-- ---- the year of a day

day-end : (p : PeriodName) → p.kind ≡ Daily → end_place p ≡ first_place p + 1
unfolding first_place end_place
day-end p daily = ap (λ kind. end_place_as (shape_of kind) p) daily ∙ sym (ap (λ kind. first_place_as (shape_of kind) p + 1) daily)

day-last : (p : PeriodName) → p.kind ≡ Daily → last_day p ≡ unix_day (first_place p)
unfolding last_day
day-last p daily = ap (λ n. unix_day n -ℤ pos 1) (day-end p daily) ∙ unix_day-back (first_place p)

day-first : (p : PeriodName) → first_day p ≡ unix_day (first_place p)
unfolding first_day
day-first p = refl

-- a day has the year of its place
day-year : (day year : ℤ) → day_year day ≡ Some year → (n : ℕ) × (day ≡ unix_day n) × (year ≡ pos (year_with n))
unfolding day_year year_of
day-year day year e =
    let found = map-some period_year (containing_of Daily day day) year e in
    let p = found.0 in
    let is = containing_of-is Daily day day p found.1 in
    let begun : first_day p ≤ℤ day = is.2.0 in
    let within : day ≤ℤ last_day p = is.2.2 in
    let first = day-first p in
    let last = day-last p is.1 in
    (first_place p, omega (arith, ints), sym found.2)

year-later : (m n : ℕ) → m ≤ n → year_with m ≤ year_with n
year-later m n before =
    let begun = month_with-bounds m in
    let month : month_with m ≤ month_with n = month_with-from (month_with m) n (omega (arith, begun.0)) in
    let low = div-mul-le_self (month_with m) 12 in
    let years : month_with m / 12 ≤ month_with n / 12 = le-div (month_with m / 12) (month_with n) 12 (omega arith) (omega (arith, low, month)) in
    omega (arith, years)

place-later : (m n : ℕ) → unix_day m ≤ℤ unix_day n → m ≤ n
place-later m n before = omega (arith, ints)

-- a later day isn't of an earlier year
pub day-follows : (a b y w : ℤ) → a ≤ℤ b → day_year a ≡ Some w → day_year b ≡ Some y → int_cmp y w ≡ Less → ⊥
day-follows a b y w before first second less =
    let one = day-year a w first in
    let two = day-year b y second in
    let below : y <ℤ w = int_ranked y w Less (sym less) in
    let places : one.0 ≤ two.0 = place-later one.0 two.0 (omega (arith, ints, one.1, two.1, before)) in
    let years = year-later one.0 two.0 places in
    let y_is = two.2 in
    let w_is = one.2 in
    omega (arith, ints)

year-found : (found : Option ℤ) (year : ℤ) → is_year_if_any found year ≡ true → found ≡ Some year
year-found None year is = absurd (false≢true is)
year-found (Some y) year is = ap Some (same-year y year is)

some-same : (y z : ℤ) → ◌≡◌ {A = Option ℤ} (Some y) (Some z) → y ≡ z
some-same y z e = cc

pub event-year : HasOneYear is_event_in
event-year y z event is also = some-same y z (sym (year-found (day_year event.day) y is) ∙ year-found (day_year event.day) z also)

front : (o rest : Ordering) → ordering_then o rest ≡ Less → is_gt o ≡ false
front Less rest e = refl
front Equal rest e = refl
front Greater rest e = absurd (cc)

upto-day : (a b : ℤ) (o : Ordering) → o ≡ int_cmp a b → is_gt o ≡ false → a ≤ℤ b
upto-day a b Less is not = let h : a <ℤ b = int_ranked a b Less is in omega (arith, ints)
upto-day a b Equal is not = let h : a ≡ b = int_ranked a b Equal is in omega (arith, ints)
upto-day a b Greater is not = absurd (false≢true (sym not))

pub events-follow : FollowsYears is_event_in event_cmp
events-follow x z y w less here also earlier =
    let upto = front (int_cmp x.day z.day) (slice_cmp nat_cmp x.id z.id) less in
    day-follows x.day z.day y w (upto-day x.day z.day (int_cmp x.day z.day) refl upto) (year-found (day_year x.day) w here) (year-found (day_year z.day) y also)
    earlier

-- ---- the events of a program

part-events : (program : ℕ) (from to : ℤ) (all : Contents) (part : YearPart) → part.contents ≡ in_year part.year all
    → events_of program from to part.contents.events ≡ filter (is_event_in part.year) (events_of program from to all.events)
part-events program from to all part is =
    ap (λ (c : Contents). events_of program from to c.events) is ∙ filter-swap (is_event_of program from to) (is_event_in part.year) all.events

pub events-all : (program : ℕ) (from to : ℤ) (parts : List YearPart) → ArePartitions parts
    → gathered (λ (part : YearPart). events_of program from to part.contents.events) parts ≡ events_of program from to (events_together parts)
events-all program from to parts are =
    let asked = events_of program from to (events_together parts) in
    let sorted = IsStrictlySortedBy-filter event_cmp (is_event_of program from to) (events_together parts)
    (sorted_from_rises event_cmp event_total (events_together parts) (whole parts are).events_rise) in
    gathered-same (λ (part : YearPart). events_of program from to part.contents.events) (λ (part : YearPart). filter (is_event_in part.year) asked) parts
    (every-to (λ (part : YearPart). part.contents ≡ in_year part.year (together parts))
    (λ (part : YearPart). events_of program from to part.contents.events ≡ filter (is_event_in part.year) asked) parts
    (λ part is. part-events program from to (together parts) part is) are.each)
    ∙ sym (gathered-map (λ year. filter (is_event_in year) asked) (λ (part : YearPart). part.year) parts)
    ∙ years-along is_event_in event_cmp event-year events-follow (years_in parts) asked (years-sorted parts are) sorted
    ∙ filter-whole (is_in_any is_event_in (years_in parts)) asked
    (every-filter (λ event. is_in_any is_event_in (years_in parts) event ≡ true) (is_event_of program from to) (events_together parts)
    (each-true (λ event. is_in_any is_event_in (years_in parts) event) (events_together parts) are.whole.events))

-- ---- the years that can't hold an event of these days

filter-apart : {X : Type 0} (p q : X → Bool) (xs : List X) → ((x : X) → q x ≡ true → p x ≡ true → ⊥) → filter p (filter q xs) ≡ []
filter-apart p q [] apart = refl
filter-apart p q (x ∷ xs) apart = by_tests (p x) (q x) refl refl (filter-apart p q xs apart)
  where
    by_tests : (a b : Bool) → p x ≡ a → q x ≡ b → filter p (filter q xs) ≡ [] → filter p (cond b (x ∷ filter q xs) (filter q xs)) ≡ []
    by_tests true true is also rest = absurd (apart x also is)
    by_tests false true is also rest = ap (λ c. cond c (x ∷ filter p (filter q xs)) (filter p (filter q xs))) is ∙ rest
    by_tests a false is also rest = rest

is-less : (o : Ordering) → is_lt o ≡ true → o ≡ Less
is-less Less e = refl
is-less Equal e = absurd (false≢true e)
is-less Greater e = absurd (false≢true e)

is-greater : (o : Ordering) → is_gt o ≡ true → o ≡ Greater
is-greater Less e = absurd (false≢true e)
is-greater Equal e = absurd (false≢true e)
is-greater Greater e = refl

before-year : (o : Option ℤ) (year : ℤ) → comes_before o year ≡ true → (w : ℤ) × (o ≡ Some w) × (int_cmp year w ≡ Less)
before-year None year e = absurd (false≢true e)
before-year (Some w) year e = (w, refl, is-less (int_cmp year w) e)

after-year : (o : Option ℤ) (year : ℤ) → comes_after o year ≡ true → (w : ℤ) × (o ≡ Some w) × (int_cmp w year ≡ Less)
after-year None year e = absurd (false≢true e)
after-year (Some w) year e = (w, refl, turned year w Greater (is-greater (int_cmp year w) e))

days-asked : (program : ℕ) (from to : ℤ) (event : EventRow) → is_event_of program from to event ≡ true → (from ≤ℤ event.day) × (event.day ≤ℤ to)
days-asked program from to event is =
    let days = (and_parts (nat_eq event.program program) (int_le from event.day && int_le event.day to) is).1 in
    let parts = and_parts (int_le from event.day) (int_le event.day to) days in
    (int_le-yes from event.day parts.0, int_le-yes event.day to parts.1)

none-of-part : (program : ℕ) (from to : ℤ) (all : Contents) (part : YearPart) → part.contents ≡ in_year part.year all
    → ((event : EventRow) → is_event_of program from to event ≡ true → is_event_in part.year event ≡ true → ⊥)
    → events_of program from to part.contents.events ≡ []
none-of-part program from to all part is apart =
    part-events program from to all part is ∙ filter-apart (is_event_in part.year) (is_event_of program from to) all.events apart

none-earlier : (program : ℕ) (from to : ℤ) (all : Contents) (part : YearPart) → part.contents ≡ in_year part.year all
    → comes_before (day_year from) part.year ≡ true → events_of program from to part.contents.events ≡ []
none-earlier program from to all part is before =
    let known = before-year (day_year from) part.year before in
    none-of-part program from to all part is (λ event asked here.
    day-follows from event.day part.year known.0 (days-asked program from to event asked).0 known.1
    (year-found (day_year event.day) part.year here) known.2)

none-later : (program : ℕ) (from to : ℤ) (all : Contents) (part : YearPart) → part.contents ≡ in_year part.year all
    → comes_after (day_year to) part.year ≡ true → events_of program from to part.contents.events ≡ []
none-later program from to all part is after =
    let known = after-year (day_year to) part.year after in
    none-of-part program from to all part is (λ event asked here.
    day-follows event.day to known.0 part.year (days-asked program from to event asked).1
    (year-found (day_year event.day) part.year here) known.1 known.2)

front-none : (program : ℕ) (from to : ℤ) (all : Contents) (n : ℕ) (parts : List YearPart)
    → AllByRecursion (λ (part : YearPart). part.contents ≡ in_year part.year all) parts
    → list_all (comes_before (day_year from)) (take n (years_in parts)) ≡ true
    → gathered (λ (p : YearPart). events_of program from to p.contents.events) (take n parts) ≡ []
front-none program from to all zero parts each before = refl
front-none program from to all (suc n) [] each before = refl
front-none program from to all (suc n) (part ∷ parts) each before =
    let rest = and_parts (comes_before (day_year from) part.year) (list_all (comes_before (day_year from)) (take n (years_in parts))) before in
    ap (λ v. v ++ gathered (λ (p : YearPart). events_of program from to p.contents.events) (take n parts)) (none-earlier program from to all part each.0 rest.0)
    ∙ front-none program from to all n parts each.1 rest.1

back-none : (program : ℕ) (from to : ℤ) (all : Contents) (n : ℕ) (parts : List YearPart)
    → AllByRecursion (λ (part : YearPart). part.contents ≡ in_year part.year all) parts
    → list_all (comes_after (day_year to)) (drop n (years_in parts)) ≡ true
    → gathered (λ (p : YearPart). events_of program from to p.contents.events) (drop n parts) ≡ []
back-none program from to all zero [] each after = refl
back-none program from to all zero (part ∷ parts) each after =
    let rest = and_parts (comes_after (day_year to) part.year) (list_all (comes_after (day_year to)) (years_in parts)) after in
    ap (λ v. v ++ gathered (λ (p : YearPart). events_of program from to p.contents.events) parts) (none-later program from to all part each.0 rest.0)
    ∙ back-none program from to all zero parts each.1 rest.1
back-none program from to all (suc n) [] each after = refl
back-none program from to all (suc n) (part ∷ parts) each after = back-none program from to all n parts each.1 after

all-later : {X : Type 0} (t : X → Bool) (m n : ℕ) (xs : List X) → m ≤ n → list_all t (drop m xs) ≡ true → list_all t (drop n xs) ≡ true
all-later t zero zero xs upto all = all
all-later t zero (suc n) [] upto all = refl
all-later t (suc m) zero [] upto all = refl
all-later t (suc m) (suc n) [] upto all = refl
all-later t zero (suc n) (x ∷ xs) upto all = all-later t zero n xs (omega arith) (and_parts (t x) (list_all t xs) all).1
all-later t (suc m) zero (x ∷ xs) upto all = absurd (omega (arith, upto))
all-later t (suc m) (suc n) (x ∷ xs) upto all = all-later t m n xs (omega (arith, upto)) all

gathered-split : {A B : Type 0} (f : A → List B) (n : ℕ) (xs : List A) → gathered f xs ≡ gathered f (take n xs) ++ gathered f (drop n xs)
gathered-split f zero xs = refl
gathered-split f (suc n) [] = refl
gathered-split f (suc n) (x ∷ xs) = ap (λ v. f x ++ v) (gathered-split f n xs) ∙ sym (append_assoc (f x) (gathered f (take n xs)) (gathered f (drop n xs)))

pub events-start : (parts : List YearPart) (years : List ℤ) (first program : ℕ) (from to : ℤ) → ArePartitions parts → years ≡ years_in parts
    → list_all (comes_before (day_year from)) (take first years) ≡ true
    → ◌≡◌ {A = List EventRow} [] (gathered (λ (p : YearPart). events_of program from to p.contents.events) (take first parts))
events-start parts years first program from to are known before =
    sym (front-none program from to (together parts) first parts are.each
    (ap (λ ys. list_all (comes_before (day_year from)) (take first ys)) (sym known) ∙ before))

pub events-done : (parts : List YearPart) (years : List ℤ) (i end program : ℕ) (from to : ℤ) (list : List EventRow) → ArePartitions parts
    → years ≡ years_in parts → end ≤ i → list_all (comes_after (day_year to)) (drop end years) ≡ true
    → list ≡ gathered (λ (p : YearPart). events_of program from to p.contents.events) (take i parts)
    → list ≡ events_of program from to (events_together parts)
events-done parts years i end program from to list are known past after is =
    let f : YearPart → List EventRow = λ (p : YearPart). events_of program from to p.contents.events in
    let none = back-none program from to (together parts) i parts are.each
    (all-later (comes_after (day_year to)) end i (years_in parts) past (ap (λ ys. list_all (comes_after (day_year to)) (drop end ys)) (sym known) ∙ after)) in
    is ∙ sym (append-nil (gathered f (take i parts))) ∙ ap (λ v. gathered f (take i parts) ++ v) (sym none)
    ∙ sym (gathered-split f i parts) ∙ events-all program from to parts are
