-- Lists that are cut by year, member by member.
use Rattle.std.proofs.Common.{◌≡◌, ◌∙◌, ℕ, zero, suc, ◌+◌, ◌<◌, Bool, true, false, cond, ◌||◌, List, [], ◌∷◌, ◌++◌, length, map, take, drop, get_or, set}
use Rattle.std.proofs.Common.{ℤ, pos, refl, sym, ap, arith, add-one, Less}
use Rattle.std.specs.List.{AllByRecursion, filter, list_any}
use Rattle.std.specs.List.Sorted.{IsStrictlySortedBy}
use Rattle.std.specs.Ordering.{int_cmp, int_eq, is_eq}
use Rattle.std.proofs.lemmas.Bool.Decides.{Decides-int_eq}
use Rattle.std.proofs.lemmas.Cmp.{int_cmp_total}
use Rattle.std.proofs.lemmas.List.{append-nil, get_or-map, get_or_default, length-drop, length-map, map-append, take_more}
use Rattle.std.proofs.lemmas.List.Elements.{filter-append, All-from_recursion}
use Rattle.table_rows.specs.declared.row.Row.{Row}
use Rattle.table_rows.specs.declared.event.EventRow.{EventRow}
use Rattle.table_rows.specs.declared.event.RegRow.{RegRow}
use Rattle.table_rows.specs.Store.{rises}
use Rattle.table_rows.proofs.RiseLemmas.{sorted_from_rises}
use Rattle.table_sums.specs.Years.{is_row_in, is_event_in, is_reg_in}
use Rattle.table_sums.specs.YearParts.{YearPart, cut_by, listed_as, part_of, part_with}
use Rattle.table_sums.proofs.SearchLemmas.{turned}
use Rattle.table_sums.proofs.YearLemmas.{not-among, or-false}

-- ---- one list changes

map-kept : {B : Type 0} (old new : ℤ → B) (years : List ℤ) (year : ℤ) → list_any (int_eq year) years ≡ false
    → ((z : ℤ) → int_eq year z ≡ false → old z ≡ new z) → map old years ≡ map new years
map-kept old new [] year none kept = refl
map-kept old new (z ∷ zs) year none kept =
    let parts = or-false (int_eq year z) (list_any (int_eq year) zs) none in
    ap (λ b. b ∷ map old zs) (kept z parts.0) ∙ ap (λ bs. new z ∷ bs) (map-kept old new zs year parts.1 kept)

-- the year in a later place is another one
apart : (y : ℤ) (ys : List ℤ) (at : ℕ) (year : ℤ) → AllByRecursion (λ z. int_cmp y z ≡ Less) ys → at < length ys → get_or ys at year ≡ year
    → int_eq year y ≡ false
apart y ys at year above within here =
    let less : int_cmp y (get_or ys at year) ≡ Less = All-from_recursion (λ z. int_cmp y z ≡ Less) ys above at year within in
    ap is_eq (turned y year Less (ap (int_cmp y) (sym here) ∙ less))

set-at : {B : Type 0} (old new : ℤ → B) (years : List ℤ) (at : ℕ) (year : ℤ) (b : B) → IsStrictlySortedBy int_cmp years → at < length years
    → get_or years at year ≡ year → b ≡ new year → ((z : ℤ) → int_eq year z ≡ false → old z ≡ new z) → set (map old years) at b ≡ map new years
unfolding IsStrictlySortedBy
set-at old new [] at year b rise within here is kept = absurd (omega (arith, within))
set-at old new (y ∷ ys) zero year b rise within here is kept =
    let same : year ≡ y = sym here in
    ap (λ c. c ∷ map old ys) (is ∙ ap new same)
    ∙ ap (λ bs. new y ∷ bs) (map-kept old new ys year (ap (λ z. list_any (int_eq z) ys) same ∙ not-among y ys rise.0) kept)
set-at old new (y ∷ ys) (suc at) year b rise within here is kept =
    let rest : at < length ys = omega (arith, within) in
    ap (λ c. c ∷ set (map old ys) at b) (kept y (apart y ys at year rise.0 rest here))
    ∙ ap (λ bs. new y ∷ bs) (set-at old new ys at year b rise.1 rest here is kept)

filter-push : {X : Type 0} (p : X → Bool) (before : List X) (x : X) (b : Bool) → p x ≡ b → filter p (before ++ x ∷ []) ≡ filter p before ++ cond b (x ∷ []) []
filter-push p before x b is = filter-append p before (x ∷ []) ∙ ap (λ c. filter p before ++ cond c (x ∷ []) []) is

-- a member of the year at a place goes into the list there
pub put-some : {X : Type 0} (is_in : ℤ → X → Bool) (years : List ℤ) (lists : List (List X)) (before : List X) (x : X) (at : ℕ) → rises int_cmp years ≡ true
    → at < length years → ((d year : ℤ) → is_in year x ≡ int_eq (get_or years at d) year) → lists ≡ cut_by is_in years before
    → set lists at (get_or lists at [] ++ x ∷ []) ≡ cut_by is_in years (before ++ x ∷ [])
put-some {X} is_in years lists before x at rise within of known =
    let year : ℤ = get_or years at (pos 0) in
    let old : ℤ → List X = λ y. filter (is_in y) before in
    let new : ℤ → List X = λ y. filter (is_in y) (before ++ x ∷ []) in
    let sorted = sorted_from_rises int_cmp int_cmp_total years rise in
    let here : get_or years at year ≡ year = sym (get_or_default years at (pos 0) year within) in
    let own : is_in year x ≡ true = of (pos 0) year ∙ (Decides-int_eq year year).1 refl in
    let is : get_or (cut_by is_in years before) at [] ++ x ∷ [] ≡ new year =
    ap (λ v. v ++ x ∷ []) (get_or-map old years at (pos 0) [] within) ∙ sym (filter-push (is_in year) before x true own) in
    let kept : (z : ℤ) → int_eq year z ≡ false → old z ≡ new z =
    λ z other. sym (filter-push (is_in z) before x false (of (pos 0) z ∙ other) ∙ append-nil (old z)) in
    ap (λ (ls : List (List X)). set ls at (get_or ls at [] ++ x ∷ [])) known ∙ set-at old new years at year _ sorted within here is kept

-- a member of none of the years goes into no list
pub put-none : {X : Type 0} (is_in : ℤ → X → Bool) (years : List ℤ) (before : List X) (x : X) → list_any (λ year. is_in year x) years ≡ false
    → cut_by is_in years before ≡ cut_by is_in years (before ++ x ∷ [])
put-none is_in [] before x none = refl
put-none is_in (y ∷ ys) before x none =
    let parts = or-false (is_in y x) (list_any (λ year. is_in year x) ys) none in
    ap (λ v. v ∷ cut_by is_in ys before) (sym (filter-push (is_in y) before x false parts.0 ∙ append-nil (filter (is_in y) before)))
    ∙ ap (λ v. filter (is_in y) (before ++ x ∷ []) ∷ v) (put-none is_in ys before x parts.1)

pub empty-more : {X : Type 0} (years : List ℤ) (i : ℕ) (lists new : List (List X)) (x : List X) → i < length years → x ≡ [] → new ≡ lists ++ x ∷ []
    → lists ≡ map (λ (year : ℤ). []) (take i years) → new ≡ map (λ (year : ℤ). []) (take (i + 1) years)
empty-more {X} years i lists new x within none is known =
    let empty : ℤ → List X = λ (year : ℤ). [] in
    is ∙ ap (λ v. lists ++ v ∷ []) none ∙ ap (λ ls. ls ++ [] ∷ []) known
    ∙ sym (ap (map empty) (take_more years i (pos 0) within) ∙ map-append empty (take i years) (get_or years i (pos 0) ∷ []))

pub none-passes : (test : ℤ → Bool) (years : List ℤ) → ((year : ℤ) → test year ≡ false) → list_any test years ≡ false
none-passes test [] none = refl
none-passes test (y ∷ ys) none = ap (λ b. b || list_any test ys) (none y) ∙ none-passes test ys none

-- ---- lists that are taken out one after the other

first-dropped : {A : Type 0} (at : ℕ) (xs : List A) (d : A) → get_or (drop at xs) 0 d ≡ get_or xs at d
first-dropped zero xs d = refl
first-dropped (suc at) [] d = refl
first-dropped (suc at) (x ∷ xs) d = first-dropped at xs d

pub still-within : {A : Type 0} (at : ℕ) (xs : List A) (f : ℤ → A) (years : List ℤ) → drop at xs ≡ drop at (map f years) → at < length years → at < length xs
still-within at xs f years same within =
    let left = length-drop at xs in
    let all = length-drop at (map f years) in
    let many = length-map years f in
    let equal = ap length same in
    omega (arith, left, all, many, equal, within)

pub taken-is : {A : Type 0} (at : ℕ) (xs : List A) (f : ℤ → A) (years : List ℤ) (year : ℤ) (d : A) → drop at xs ≡ drop at (map f years) → at < length years
    → year ≡ get_or years at year → get_or xs at d ≡ f year
taken-is at xs f years year d same within here =
    sym (first-dropped at xs d) ∙ ap (λ v. get_or v 0 d) same ∙ first-dropped at (map f years) d
    ∙ get_or-map f years at year d within ∙ ap f (sym here)

drop-next : {A : Type 0} (at : ℕ) (xs : List A) → drop (suc at) xs ≡ drop 1 (drop at xs)
drop-next zero xs = refl
drop-next (suc at) [] = refl
drop-next (suc at) (x ∷ xs) = drop-next at xs

drop-set : {A : Type 0} (at : ℕ) (xs : List A) (v : A) → drop (suc at) (set xs at v) ≡ drop (suc at) xs
drop-set zero [] v = refl
drop-set zero (x ∷ xs) v = refl
drop-set (suc at) [] v = refl
drop-set (suc at) (x ∷ xs) v = drop-set at xs v

pub rest-stays : {A : Type 0} (at : ℕ) (xs new all : List A) (v : A) → new ≡ set xs at v → drop at xs ≡ drop at all → drop (at + 1) new ≡ drop (at + 1) all
rest-stays at xs new all v is same =
    rw add-one (ap (drop (suc at)) is ∙ drop-set at xs v ∙ drop-next at xs ∙ ap (drop 1) same ∙ sym (drop-next at all))

pub part-more : (rows list : List Row) (events found : List EventRow) (regs entries : List RegRow) (years : List ℤ) (parts new : List YearPart) (at : ℕ)
    (year : ℤ)
    → at < length years → year ≡ get_or years at year → list ≡ filter (is_row_in year) rows → found ≡ filter (is_event_in year) events
    → entries ≡ filter (is_reg_in year) regs → new ≡ parts ++ part_with year (listed_as list found entries) ∷ []
    → parts ≡ map (part_of (listed_as rows events regs)) (take at years) → new ≡ map (part_of (listed_as rows events regs)) (take (at + 1) years)
part-more rows list events found regs entries years parts new at year within here row event reg is known =
    let part : part_with year (listed_as list found entries) ≡ part_of (listed_as rows events regs) year =
    λ i. part_with year (listed_as (row i) (event i) (reg i)) in
    is ∙ ap (λ ps. ps ++ part_with year (listed_as list found entries) ∷ []) known
    ∙ ap (λ (p : YearPart). map (part_of (listed_as rows events regs)) (take at years) ++ p ∷ []) part
    ∙ sym (ap (map (part_of (listed_as rows events regs))) (take_more years at year within ∙ ap (λ y. take at years ++ y ∷ []) (sym here))
    ∙ map-append (part_of (listed_as rows events regs)) (take at years) (year ∷ []))
