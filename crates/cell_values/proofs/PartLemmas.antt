-- Rows of a cell in parts: of each group the rows in each range.
use Rattle.std.proofs.Common.{◌≡◌, ◌∙◌, ℕ, suc, ◌+◌, ◌<◌, ◌≤◌, Bool, true, false, not, cond, ◌&&◌, ◌||◌, List, [], ◌∷◌, ◌++◌, length, drop, get_or, Option}
use Rattle.std.proofs.Common.{Some, None, ℤ, refl, sym, ap, subst, arith}
use Rattle.std.specs.Prelude.{All, IsPermutation}
use Rattle.std.specs.List.{filter}
use Rattle.std.proofs.lemmas.Bool.{false≢true}
use Rattle.std.proofs.lemmas.List.{drop_more, drop_all}
use Rattle.std.proofs.lemmas.List.Sorted.{IsPermutation-refl, IsPermutation-trans, IsPermutation-append, IsPermutation-append_right, IsPermutation-filter_both}
use Rattle.dh_base.specs.declared.plain.Need.{Need}
use Rattle.dh_sharing.specs.Ranges.{is_in_range, is_within, AreApart}
use Rattle.table_rows.specs.declared.row.Row.{Row}
use Rattle.table_rows.specs.declared.row.Group.{Group}
use Rattle.table_rows.specs.declared.sum.Sum.{Sum}
use Rattle.table_rows.specs.Cells.{Part, times, how_many, is_in_part, gathered, group_rows}
use Rattle.table_rows.specs.Groups.{groups_of}
use Rattle.table_rows.specs.Rows.{meets, is_in_group, is_wanted}
use Rattle.table_rows.specs.Sums.{no_sum, joined, sum_over, sum_of_row, sum_of_rows, sum_of_number}
use Rattle.table_rows.proofs.CellLemmas.{how_many-never, filter-same, filter-never, cell-sum}
use Rattle.table_rows.proofs.SplitLemmas.{sum_over-parts}
use Rattle.table_rows.proofs.SumLemmas.{joined-assoc, joined-none, none-joined}
use Rattle.cell_values.proofs.SpanLemmas.{apart-rest, first-alone}
use Rattle.cell_values.specs.Parts.{is_row_asked, parts_of, range_sum, group_sum, range_rows, ranged_rows}

-- ---- in just one range

pub ranges-once : (ranges : List (ℕ × ℕ)) (n : ℕ) → AreApart ranges → times (is_within ranges n) ≡ how_many (is_in_range n) ranges
ranges-once [] n apart = refl
ranges-once (x ∷ xs) n apart = by_first (is_in_range n x) refl (ranges-once xs n (apart-rest x xs apart))
  where
    zero_front : (m : ℕ) → m ≡ 0 + m
    zero_front m = omega arith

    by_first : (b : Bool) → is_in_range n x ≡ b → times (is_within xs n) ≡ how_many (is_in_range n) xs
        → times (b || is_within xs n) ≡ times b + how_many (is_in_range n) xs
    by_first true is rest = ap (λ m. 1 + m) (ap times (sym (first-alone x xs n apart is)) ∙ rest)
    by_first false is rest = rest ∙ zero_front (how_many (is_in_range n) xs)

many_parts : (need : Need) (ranges : List (ℕ × ℕ)) (row : Row)
    → how_many (is_in_part row) (parts_of need ranges) ≡ how_many (λ x. meets need row.approved && is_in_range row.order x) ranges
many_parts need [] row = refl
many_parts need (x ∷ xs) row = ap (λ n. times (meets need row.approved && is_in_range row.order x) + n) (many_parts need xs row)

-- a row that is asked for lies in just one part, and no other row in any
pub parts-once : (need : Need) (ranges : List (ℕ × ℕ)) (row : Row) → AreApart ranges
    → times (is_row_asked need ranges row) ≡ how_many (is_in_part row) (parts_of need ranges)
parts-once need ranges row apart = by_need (meets need row.approved) ∙ sym (many_parts need ranges row)
  where
    by_need : (b : Bool) → times (b && is_within ranges row.order) ≡ how_many (λ x. b && is_in_range row.order x) ranges
    by_need true = ranges-once ranges row.order apart
    by_need false = sym (how_many-never (λ x. false && is_in_range row.order x) ranges (λ x. refl))

pub all-once : (need : Need) (ranges : List (ℕ × ℕ)) (rows : List Row) → AreApart ranges
    → All (λ r. times (is_row_asked need ranges r) ≡ how_many (is_in_part r) (parts_of need ranges)) rows
all-once need ranges rows apart k d within = parts-once need ranges (get_or rows k d) apart

-- ---- counts

pub filter_short : {X : Type 0} (p : X → Bool) (xs : List X) → length (filter p xs) ≤ length xs
filter_short p [] = omega arith
filter_short p (x ∷ xs) = by_test (p x) (filter_short p xs)
  where
    by_test : (b : Bool) → length (filter p xs) ≤ length xs → length (cond b (x ∷ filter p xs) (filter p xs)) ≤ suc (length xs)
    by_test true short = omega arith
    by_test false short = omega arith

counts_rows : (rows : List Row) → (sum_over sum_of_row rows).count ≡ length rows
counts_rows [] = refl
counts_rows (r ∷ rows) = by_number r.micros (counts_rows rows)
  where
    by_number : (m : Option ℤ) → (sum_over sum_of_row rows).count ≡ length rows → (sum_of_number m).count + (sum_over sum_of_row rows).count ≡ suc (length rows)
    by_number None is = omega arith
    by_number (Some m) is = omega arith

counts_filter : (p : Row → Bool) (rows : List Row) → (sum_over sum_of_row (filter p rows)).count ≤ length rows
counts_filter p rows =
    let a = counts_rows (filter p rows) in
    let b = filter_short p rows in
    omega (arith, a, b)

in_group_once : (need : Need) (ranges : List (ℕ × ℕ)) (rows : List Row) (g : Group) → AreApart ranges
    → All (λ r. times (is_in_group g r && is_row_asked need ranges r) ≡ how_many (λ (p : Part). is_wanted g p.need p.from p.to r) (parts_of need ranges)) rows
in_group_once need ranges rows g apart k d within = by_group (is_in_group g (get_or rows k d))
  where
    by_group : (b : Bool)
        → times (b && is_row_asked need ranges (get_or rows k d)) ≡ how_many (λ (p : Part). b && is_in_part (get_or rows k d) p) (parts_of need ranges)
    by_group true = parts-once need ranges (get_or rows k d) apart
    by_group false = sym (how_many-never (λ (p : Part). false && is_in_part (get_or rows k d) p) (parts_of need ranges) (λ p. refl))

-- the sum of a group's parts is that of its rows that are asked for
group-parts : (need : Need) (ranges : List (ℕ × ℕ)) (rows : List Row) (g : Group) → AreApart ranges
    → sum_over sum_of_row (filter (λ r. is_in_group g r && is_row_asked need ranges r) rows) ≡ group_sum rows need ranges g
unfolding sum_of_rows
group-parts need ranges rows g apart =
    sum_over-parts sum_of_row (λ r. is_in_group g r && is_row_asked need ranges r) (λ (p : Part) r. is_wanted g p.need p.from p.to r) (parts_of need ranges)
    rows
    (in_group_once need ranges rows g apart)

-- it counts no more than all rows
pub group_sum-few : (need : Need) (ranges : List (ℕ × ℕ)) (rows : List Row) (g : Group) → AreApart ranges → (group_sum rows need ranges g).count ≤ length rows
group_sum-few need ranges rows g apart =
    subst (λ (s : Sum). s.count ≤ length rows) (group-parts need ranges rows g apart) (counts_filter (λ r. is_in_group g r && is_row_asked need ranges r) rows)

-- and so do all groups of an element together
pub groups_sum-few : (element : ℕ) (t : Group → Bool) (need : Need) (ranges : List (ℕ × ℕ)) (rows : List Row) → AreApart ranges
    → (sum_over (group_sum rows need ranges) (filter t (groups_of element rows))).count ≤ length rows
unfolding sum_of_rows
groups_sum-few element t need ranges rows apart =
    subst (λ (s : Sum). s.count ≤ length rows) (cell-sum element t (is_row_asked need ranges) (λ g. parts_of need ranges) rows
    (all-once need ranges rows apart))
    (counts_filter _ rows)

-- ---- a loop that joins sums

pub record SumSoFar {X : Type 0} (f : X → Sum) (xs : List X) (i : ℕ) (sum : Sum) : Type 0 where
  pub is : sum_over f xs ≡ joined sum (sum_over f (drop i xs))

pub sums-start : {X : Type 0} (f : X → Sum) (xs : List X) → SumSoFar f xs 0 no_sum
sums-start f xs = record { is = sym (none-joined (sum_over f xs)) }

pub sums-more : {X : Type 0} (f : X → Sum) (xs : List X) (i : ℕ) (x : X) (sum more new : Sum) → i < length xs → x ≡ get_or xs i x → more ≡ f x
    → new ≡ joined sum more
    → SumSoFar f xs i sum → SumSoFar f xs (i + 1) new
sums-more f xs i x sum more new within at of is before = record {
  is = before.is ∙ ap (λ ys. joined sum (sum_over f ys)) (drop_more xs i x within)
      ∙ sym (joined-assoc sum (f (get_or xs i x)) (sum_over f (drop (i + 1) xs)))
      ∙ ap (λ s. joined (joined sum s) (sum_over f (drop (i + 1) xs))) (ap f (sym at) ∙ sym of)
      ∙ ap (λ s. joined s (sum_over f (drop (i + 1) xs))) (sym is);
}

pub sums-end : {X : Type 0} (f : X → Sum) (xs : List X) (i : ℕ) (sum : Sum) → length xs ≤ i → SumSoFar f xs i sum → sum ≡ sum_over f xs
sums-end f xs i sum past done = sym (done.is ∙ ap (λ ys. joined sum (sum_over f ys)) (drop_all i xs past) ∙ joined-none sum)

-- the count so far and that of the next are no more than all
pub sums-fit : {X : Type 0} (f : X → Sum) (xs : List X) (i : ℕ) (x : X) (sum more : Sum) (most : ℕ) → i < length xs → x ≡ get_or xs i x → more ≡ f x
    → (sum_over f xs).count ≤ most → SumSoFar f xs i sum → sum.count + more.count ≤ most
sums-fit f xs i x sum more most within at of few before =
    let next = sums-more f xs i x sum more (joined sum more) within at of refl before in
    let all : (sum_over f xs).count ≡ (sum.count + more.count) + (sum_over f (drop (i + 1) xs)).count = ap (λ (s : Sum). s.count) next.is in
    omega (arith, all, few)

pub over_ranges : (rows : List Row) (need : Need) (g : Group) (ranges : List (ℕ × ℕ)) → group_sum rows need ranges g ≡ sum_over (range_sum rows need g) ranges
over_ranges rows need g [] = refl
over_ranges rows need g (x ∷ xs) = ap (joined (range_sum rows need g x)) (over_ranges rows need g xs)

-- ---- the rows themselves, in another order

pub filter_both : {X : Type 0} (p q : X → Bool) (xs : List X) → filter q (filter p xs) ≡ filter (λ x. p x && q x) xs
filter_both p q [] = refl
filter_both p q (x ∷ xs) = by_test (p x) (filter_both p q xs)
  where
    by_test : (b : Bool) → filter q (filter p xs) ≡ filter (λ x. p x && q x) xs
        → filter q (cond b (x ∷ filter p xs) (filter p xs)) ≡ cond (b && q x) (x ∷ filter (λ x. p x && q x) xs) (filter (λ x. p x && q x) xs)
    by_test true is = ap (λ v. cond (q x) (x ∷ v) v) is
    by_test false is = is

-- a filter in two parts that have nothing in common
pub two_parts : {X : Type 0} (p q r : X → Bool) (xs : List X) → ((x : X) → (p x && q x) ≡ q x) → ((x : X) → (p x && not (q x)) ≡ r x)
    → IsPermutation (filter p xs) (filter q xs ++ filter r xs)
two_parts p q r xs inside rest =
    subst (λ zs. IsPermutation (filter p xs) (filter q xs ++ zs)) (filter_both p (λ x. not (q x)) xs ∙ filter-same (λ x. p x && not (q x)) r xs rest)
    (subst (λ ys. IsPermutation (filter p xs) (ys ++ filter (λ x. not (q x)) (filter p xs))) (filter_both p q xs ∙ filter-same (λ x. p x && q x) q xs inside)
    (IsPermutation-filter_both q (λ x. not (q x)) (λ x. refl) (filter p xs)))

part_inside : (g m x w : Bool) → ((g && (m && (x || w))) && (g && (m && x))) ≡ (g && (m && x))
part_inside true true true w = refl
part_inside true true false true = refl
part_inside true true false false = refl
part_inside true false x w = refl
part_inside false m x w = refl

part_rest : (g m x w : Bool) → (x ≡ true → w ≡ false) → ((g && (m && (x || w))) && not (g && (m && x))) ≡ (g && (m && w))
part_rest true true true true h = absurd (false≢true (sym (h refl)))
part_rest true true true false h = refl
part_rest true true false true h = refl
part_rest true true false false h = refl
part_rest true false x w h = refl
part_rest false m x w h = refl

and_no : (b : Bool) → (b && false) ≡ false
and_no true = refl
and_no false = refl

-- the rows of a group that are asked for are those range by range
pub group-ranged : (need : Need) (ranges : List (ℕ × ℕ)) (rows : List Row) (g : Group) → AreApart ranges
    → IsPermutation (group_rows (is_row_asked need ranges) rows g) (ranged_rows rows need ranges g)
group-ranged need [] rows g apart =
    subst (λ ys. IsPermutation ys []) (sym (filter-never (λ r. is_in_group g r && is_row_asked need [] r) rows (λ r.
    ap (λ b. is_in_group g r && b) (and_no (meets need r.approved)) ∙ and_no (is_in_group g r))))
    (IsPermutation-refl [])
group-ranged need (x ∷ xs) rows g apart =
    IsPermutation-trans (group_rows (is_row_asked need (x ∷ xs)) rows g) (range_rows rows need g x ++ group_rows (is_row_asked need xs) rows g)
    (ranged_rows rows need (x ∷ xs) g)
    (two_parts (λ r. is_in_group g r && is_row_asked need (x ∷ xs) r) (λ r. is_wanted g need x.0 x.1 r) (λ r. is_in_group g r && is_row_asked need xs r) rows
    (λ r. part_inside (is_in_group g r) (meets need r.approved) (is_in_range r.order x) (is_within xs r.order))
    (λ r. part_rest (is_in_group g r) (meets need r.approved) (is_in_range r.order x) (is_within xs r.order) (λ h. first-alone x xs r.order apart h)))
    (IsPermutation-append_right (range_rows rows need g x) (group_rows (is_row_asked need xs) rows g) (ranged_rows rows need xs g)
    (group-ranged need xs rows g (apart-rest x xs apart)))

pub groups-ranged : (need : Need) (ranges : List (ℕ × ℕ)) (rows : List Row) (groups : List Group) → AreApart ranges
    → IsPermutation (gathered (group_rows (is_row_asked need ranges) rows) groups) (gathered (ranged_rows rows need ranges) groups)
groups-ranged need ranges rows [] apart = IsPermutation-refl []
groups-ranged need ranges rows (g ∷ groups) apart =
    IsPermutation-append (group_rows (is_row_asked need ranges) rows g) (ranged_rows rows need ranges g)
    (gathered (group_rows (is_row_asked need ranges) rows) groups) (gathered (ranged_rows rows need ranges) groups)
    (group-ranged need ranges rows g apart) (groups-ranged need ranges rows groups apart)
