-- What a store under a latest part keeps to.
use Rattle.std.proofs.Common.{◌≡◌, ◌∙◌, ℕ, suc, ◌≤◌, ◌*◌, ◌^◌, Bool, true, false, cond, List, [], ◌∷◌, ◌++◌, length, refl, sym, ap, subst, arith}
use Rattle.std.proofs.Common.{length-append, unsigned_abs, Ordering}
use Rattle.std.specs.Cmp.{IsTotalOrder}
use Rattle.std.specs.List.{filter}
use Rattle.std.specs.List.Sorted.{IsStrictlySortedBy}
use Rattle.std.specs.Ordering.{is_gt}
use Rattle.std.proofs.lemmas.Bool.{leb-true}
use Rattle.std.proofs.lemmas.List.Elements.{filter-append}
use Rattle.dh_base.specs.declared.plain.Need.{Need}
use Rattle.table_rows.specs.declared.row.Group.{Group}
use Rattle.table_rows.specs.Order.{row_cmp}
use Rattle.table_rows.specs.Rows.{is_wanted, wanted_rows}
use Rattle.table_rows.specs.Store.{Listed, contents_in, rises}
use Rattle.table_rows.specs.declared.sum.Sum.{Sum}
use Rattle.table_rows.specs.Sums.{joined, sum_over, sum_of_row, sum_of_rows, IsSized}
use Rattle.table_rows.proofs.OrderLemmas.{row_total}
use Rattle.table_rows.proofs.StoreLemmas.{Holds, store-holds}
use Rattle.table_rows.proofs.SumLemmas.{sum_over-append}
use Rattle.table_sums.specs.Ascending.{put_in, ascending}
use Rattle.table_latest.specs.Latest.{LatestPart, IsOverlay, is_row_touched, laid_over, untouched, rows_over, events_over, regs_over}
use Rattle.table_latest.proofs.GapLemmas.{wanted-few}
use Rattle.table_latest.proofs.OrderLemmas.{filter-ascending, kept-sorted, part-over, part-sorted, sum-ascending}

length-put_in : {X : Type 0} (cmp : X → X → Ordering) (x : X) (ys : List X) → length (put_in cmp x ys) ≡ suc (length ys)
length-put_in cmp x [] = refl
length-put_in cmp x (y ∷ ys) = by_order (is_gt (cmp x y)) (length-put_in cmp x ys)
  where
    by_order : (b : Bool) → length (put_in cmp x ys) ≡ suc (length ys) → length (cond b (y ∷ put_in cmp x ys) (x ∷ y ∷ ys)) ≡ suc (suc (length ys))
    by_order true rest = ap suc rest
    by_order false rest = refl

length-ascending : {X : Type 0} (cmp : X → X → Ordering) (xs : List X) → length (ascending cmp xs) ≡ length xs
length-ascending cmp [] = refl
length-ascending cmp (x ∷ xs) = length-put_in cmp x (ascending cmp xs) ∙ ap suc (length-ascending cmp xs)

module _ (base : Listed) (latest : LatestPart) (over : IsOverlay base latest) where
  pub holds : Holds (rows_over (contents_in base) latest) (events_over (contents_in base) latest) (regs_over (contents_in base) latest) base.years
  holds = store-holds (rows_over (contents_in base) latest) (events_over (contents_in base) latest) (regs_over (contents_in base) latest) base.years over.store

  pub rows-few : length (rows_over (contents_in base) latest) ≤ 4194304
  rows-few = leb-true (length (rows_over (contents_in base) latest)) 4194304 holds.few_rows

  -- the rows that stay are no more than a store has
  pub kept-few : length (untouched (is_row_touched latest.touched) base.rows) ≤ 4194304
  kept-few =
      let few = rows-few in
      let whole = length-ascending row_cmp (untouched (is_row_touched latest.touched) base.rows ++ latest.holds.rows) in
      let parts = length-append (untouched (is_row_touched latest.touched) base.rows) latest.holds.rows in
      omega (arith, few, whole, parts)

  -- a sum is that of the rows that stay and that of the latest part's
  pub sums-over : (g : Group) (need : Need) (from to : ℕ)
      → sum_of_rows (wanted_rows g need from to (rows_over (contents_in base) latest))
      ≡ joined (sum_of_rows (wanted_rows g need from to (untouched (is_row_touched latest.touched) base.rows)))
      (sum_of_rows (wanted_rows g need from to latest.holds.rows))
  unfolding sum_of_rows
  sums-over g need from to =
      let kept = untouched (is_row_touched latest.touched) base.rows in
      ap (sum_over sum_of_row) (filter-ascending row_cmp row_total (is_wanted g need from to) (kept ++ latest.holds.rows))
      ∙ sum-ascending row_cmp sum_of_row (filter (is_wanted g need from to) (kept ++ latest.holds.rows))
      ∙ ap (sum_over sum_of_row) (filter-append (is_wanted g need from to) kept latest.holds.rows)
      ∙ sum_over-append sum_of_row (filter (is_wanted g need from to) kept) (filter (is_wanted g need from to) latest.holds.rows)

  pub sum-sized : (g : Group) (need : Need) (from to : ℕ) (sum : Sum) → sum ≡ sum_of_rows (wanted_rows g need from to (rows_over (contents_in base) latest))
      → unsigned_abs sum.micros ≤ 2 ^ 63 * sum.count → sum.plain ≤ sum.count → IsSized sum
  sum-sized g need from to sum is size plain =
      let counted : sum.count ≡ (sum_of_rows (wanted_rows g need from to (rows_over (contents_in base) latest))).count = ap (λ (s : Sum). s.count) is in
      let few = wanted-few g need from to 4194304 (rows_over (contents_in base) latest) rows-few in
      record { micros = size; plain = plain; count = omega (arith, counted, few) }

-- ---- a part of one list

module _ {X : Type 0} (cmp : X → X → Ordering) (total : IsTotalOrder cmp) (p touched : X → Bool) (base now : List X) where
  pub kept-order : (kept all : List X) → rises cmp base ≡ true → all ≡ filter p base → kept ≡ untouched touched all → IsStrictlySortedBy cmp kept
  kept-order kept all rise of_base left =
      subst (IsStrictlySortedBy cmp) (sym (left ∙ ap (untouched touched) of_base)) (kept-sorted cmp total p touched base rise)

  pub now-order : (new : List X) → rises cmp now ≡ true → new ≡ filter p now → IsStrictlySortedBy cmp new
  now-order new rise of_now = subst (IsStrictlySortedBy cmp) (sym of_now) (part-sorted cmp total p now rise)

  pub parts-over : (found kept all new : List X) → all ≡ filter p base → new ≡ filter p now → kept ≡ untouched touched all → found ≡ ascending cmp (kept ++ new)
      → found ≡ filter p (laid_over cmp touched base now)
  parts-over found kept all new of_base of_now left is =
      is ∙ (λ i. ascending cmp ((left ∙ ap (untouched touched) of_base) i ++ of_now i)) ∙ sym (part-over cmp total p touched base now)
