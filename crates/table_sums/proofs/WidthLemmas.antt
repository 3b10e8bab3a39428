-- Of the rows of a group at a position no two have one order, so that a range of orders holds no more rows than orders.
use Rattle.std.proofs.Common.{◌≡◌, ◌∙◌, ℕ, zero, suc, ◌+◌, ◌-◌, ◌<◌, ◌≤◌, max, min, true, false, List, length, get_or, inl, inr}
use Rattle.std.proofs.Common.{refl, sym, ap, arith, Less}
use Rattle.std.specs.Prelude.{nat_lt}
use Rattle.std.specs.Ordering.{is_lt}
use Rattle.std.proofs.lemmas.Bool.{cases_Bool}
use Rattle.std.proofs.lemmas.Bool.Decides.{nat_tests}
use Rattle.table_rows.specs.declared.row.Row.{Row}
use Rattle.table_rows.specs.declared.row.Group.{Group}
use Rattle.table_rows.specs.declared.row.RowKey.{RowKey}
use Rattle.table_rows.specs.Rows.{group_of, key_of, position_of, is_in_group}
use Rattle.table_rows.specs.Order.{row_cmp, key_cmp}
use Rattle.table_rows.specs.Store.{rises}
use Rattle.table_rows.proofs.OrderLemmas.{row_total, same_group-true}
use Rattle.table_rows.proofs.RiseLemmas.{sorted_from_rises, sorted-far}
use Rattle.table_sums.specs.declared.range.Part.{Part}
use Rattle.table_sums.specs.Bounds.{is_before, is_place_below as below, IsCut, IsSpan}
use Rattle.table_sums.specs.Parts.{key_at, bound_of}
use Rattle.table_sums.proofs.BoundLemmas.{before-down}
use Rattle.table_sums.proofs.PartLemmas.{between-group, in_group-below}
use Rattle.table_sums.proofs.SpanLemmas.{span-after}

-- a row of the part's group, at a position, whose order lies in the part's range
record InRun (part : Part) (p : ℕ) (row : Row) : Type 0 where
  pub inside : is_in_group part.group row ≡ true
  pub position : position_of row.approved ≡ p
  pub from : part.from ≤ row.order
  pub to : row.order < max part.to part.from

run-position : (x p o from to : ℕ) → below x o p from ≡ false → below x o p (max to from) ≡ true → x ≡ p
run-position x p o from to a b = grind (arith, nat_tests)

run-from : (x p o from to : ℕ) → below x o p from ≡ false → below x o p (max to from) ≡ true → from ≤ o
run-from x p o from to a b = grind (arith, nat_tests)

run-to : (x p o from to : ℕ) → below x o p from ≡ false → below x o p (max to from) ≡ true → o < max to from
run-to x p o from to a b = grind (arith, nat_tests)

order-less : (x p o u : ℕ) → x ≡ p → below x o p u ≡ true → o < u
order-less x p o u is less = grind (arith, nat_tests)

in-run : (part : Part) (p : ℕ) (row : Row) → is_before (bound_of part p part.from) row ≡ false
    → is_before (bound_of part p (max part.to part.from)) row ≡ true → InRun part p row
in-run part p row after before =
    let is = between-group part p part.from p (max part.to part.from) row after before in
    let a = sym (in_group-below part p part.from row is) ∙ after in
    let b = sym (in_group-below part p (max part.to part.from) row is) ∙ before in
    record {
      inside = is;
      position = run-position (position_of row.approved) p row.order part.from part.to a b;
      from = run-from (position_of row.approved) p row.order part.from part.to a b;
      to = run-to (position_of row.approved) p row.order part.from part.to a b;
    }

abbrev key-with : Group → ℕ → ℕ → RowKey
key-with group position order = record { group = group; position = position; order = order }

-- of two of them the one that stands first has the lower order
order-over : (part : Part) (p : ℕ) (x y : Row) → InRun part p x → InRun part p y → row_cmp x y ≡ Less → x.order < y.order
order-over part p x y run-x run-y less =
    let same : key_of y ≡ key_at part p y.order =
    ap (λ g. key-with g (position_of y.approved) y.order) (same_group-true (group_of y) part.group run-y.inside)
    ∙ ap (λ n. key-with part.group n y.order) run-y.position in
    order-less (position_of x.approved) p x.order y.order run-x.position
    (sym (in_group-below part p y.order x run-x.inside) ∙ sym (ap (λ k. is_lt (key_cmp (key_of x) k)) same) ∙ ap is_lt less)

-- so orders grow by one a row at least
orders-grow : (part : Part) (p : ℕ) (rows : List Row) (low : ℕ) (d : Row) → rises row_cmp rows ≡ true → IsCut (is_before (bound_of part p part.from)) rows low
    → (k n : ℕ) → k ≡ low + n → k < length rows → is_before (bound_of part p (max part.to part.from)) (get_or rows k d) ≡ true
    → part.from + n ≤ (get_or rows k d).order
orders-grow part p rows low d up cut k zero is within before =
    let from = (in-run part p (get_or rows k d) (cut.after k d (omega (arith, is)) within) before).from in
    omega (arith, from)
orders-grow part p rows low d up cut k (suc n) is within before =
    let x = get_or rows (low + n) d in
    let y = get_or rows k d in
    let less : row_cmp x y ≡ Less =
    sorted-far row_cmp rows (low + n) k d d (sorted_from_rises row_cmp row_total rows up) (omega (arith, is)) within in
    let also : is_before (bound_of part p (max part.to part.from)) x ≡ true = before-down (bound_of part p (max part.to part.from)) x y less before in
    let grown = orders-grow part p rows low d up cut (low + n) n refl (omega (arith, is, within)) also in
    let over : x.order < y.order =
    order-over part p x y (in-run part p x (cut.after (low + n) d (omega arith) (omega (arith, is, within))) also)
    (in-run part p y (cut.after k d (omega (arith, is)) within) before) less in
    omega (arith, grown, over)

too-many : (low end k len from last order : ℕ) → low ≤ len → end ≡ low + min (len - low) (last - from) → end ≤ k → k < len
    → from + (k - low) ≤ order → order < last → ⊥
too-many low end k len from last order upto is over within grown less = omega (arith, upto, is, over, within, grown, less)

low-upto : (low end k len width : ℕ) → low ≤ len → end ≡ low + min (len - low) width → end ≤ k → k ≡ low + (k - low)
low-upto low end k len width upto is over = omega (arith, upto, is, over)

-- after as many rows as the range has orders, all stand after it
pub ended : (part : Part) (p : ℕ) (rows : List Row) (low end : ℕ) → rises row_cmp rows ≡ true → IsCut (is_before (bound_of part p part.from)) rows low
    → end ≡ low + min (length rows - low) (max part.to part.from - part.from) → (k : ℕ) (d : Row) → end ≤ k → k < length rows
    → is_before (bound_of part p (max part.to part.from)) (get_or rows k d) ≡ false
ended part p rows low end up cut is k d over within =
    elim (cases_Bool (is_before (bound_of part p (max part.to part.from)) (get_or rows k d))) [
      | inl before ↦
          absurd (
          let from = low-upto low end k (length rows) (max part.to part.from - part.from) cut.within is over in
          let less = (in-run part p (get_or rows k d) (cut.after k d (omega (arith, from)) within) before).to in
          let grown = orders-grow part p rows low d up cut k (k - low) from within before in
          too-many low end k (length rows) part.from (max part.to part.from) (get_or rows k d).order cut.within is over within grown less)
      | inr past ↦ past
    ]

end-over : (low high end k len width : ℕ) → low ≤ high → high ≤ len → end ≡ low + min (high - low) width → end ≤ k → k < high
    → low + min (len - low) width ≤ k
end-over low high end k len width upto within is over less = omega (arith, upto, within, is, over, less)

-- nor after the rows of the group
pub ended-in : (part : Part) (p : ℕ) (rows : List Row) (first high low end : ℕ) → rises row_cmp rows ≡ true → IsSpan part.group rows first high
    → IsCut (is_before (bound_of part p part.from)) rows low → low ≤ high
    → end ≡ low + min (high - low) (max part.to part.from - part.from) → (k : ℕ) (d : Row) → end ≤ k → k < length rows
    → is_before (bound_of part p (max part.to part.from)) (get_or rows k d) ≡ false
ended-in part p rows first high low end up s cut upto is k d over within =
    elim (cases_Bool (nat_lt k high)) [
      | inl inside ↦
          let less : k < high = (let e : nat_lt k high ≡ true = inside in grind (arith, nat_tests)) in
          ended part p rows low (low + min (length rows - low) (max part.to part.from - part.from)) up cut refl k d
          (end-over low high end k (length rows) (max part.to part.from - part.from) upto s.within is over less) within
      | inr past ↦
          span-after (key_at part p (max part.to part.from)) rows first high s k d
          (let e : nat_lt k high ≡ false = past in grind (arith, nat_tests)) within
    ]
