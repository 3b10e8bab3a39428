-- What stands before a bound is a first part of the rows.
use Rattle.std.proofs.Common.{◌≡◌, ◌∙◌, ℕ, zero, suc, ◌+◌, ◌*◌, ◌^◌, ◌<◌, ◌≤◌, ◌⊎◌, Bool, true, false, not, List, length, get_or, inl, inr}
use Rattle.std.proofs.Common.{refl, sym, ap, arith, Ordering, Less, Equal, Greater}
use Rattle.std.specs.Prelude.{nat_lt}
use Rattle.std.specs.Cmp.{IsTotalOrder}
use Rattle.std.specs.Ordering.{is_lt, is_gt, ordering_then, ordering_reverse, nat_cmp}
use Rattle.std.proofs.Math.Nat.{pow-succ'}
use Rattle.std.proofs.lemmas.Bool.{cases_Bool, false≢true, ltb-true}
use Rattle.std.proofs.lemmas.Map.Keys.{le_from_not_gt}
use Rattle.std.proofs.lemmas.Bool.Decides.{nat_tests}
use Rattle.table_rows.specs.declared.row.Row.{Row}
use Rattle.table_rows.specs.Rows.{group_of, key_of}
use Rattle.table_rows.specs.Order.{row_cmp}
use Rattle.table_rows.specs.Store.{rises}
use Rattle.table_rows.proofs.OrderLemmas.{row_total, key_total, group_total, group_upto}
use Rattle.table_rows.proofs.RiseLemmas.{sorted_from_rises, sorted-far}
use Rattle.table_sums.specs.declared.search.Bound.{Bound}
use Rattle.table_sums.specs.declared.search.Bound.TheVariants as bound
use Rattle.table_sums.specs.Bounds.{is_before}

-- ---- steps

-- so many steps are left of d, and with them so many rows can be searched
pub record Left (start now d size : ℕ) : Type 0 where
  pub rest : ℕ
  pub taken : now + rest ≡ start + d
  pub few : size < 2 ^ rest

halved : (start now d size less rest : ℕ) → now + rest ≡ start + d → size < 2 ^ rest → 0 < size → less * 2 ≤ size → Left start (now + 1) d less
halved start now d size less zero taken few some half = absurd (omega arith)
halved start now d size less (suc rest) taken few some half =
    let double : 2 ^ suc rest ≡ 2 * 2 ^ rest = pow-succ' 2 rest in
    record { rest = rest; taken = omega arith; few = omega (arith, double) }

pub left-half : (start now next d size less : ℕ) → Left start now d size → next ≡ now + 1 → 0 < size → less * 2 ≤ size → Left start next d less
left-half start now next d size less left one some half =
    let h = halved start now d size less left.rest left.taken left.few some half in
    record { rest = h.rest; taken = omega (arith, h.taken, one); few = h.few }

pub lt_or_eq : (a b : ℕ) → a ≤ b → (a < b) ⊎ (a ≡ b)
lt_or_eq a b upto =
    elim (cases_Bool (nat_lt a b)) [
      | inl less ↦ inl (ltb-true a b less)
      | inr not ↦ inr (let e : nat_lt a b ≡ false = not in grind (arith, nat_tests))
    ]

-- ---- rows

is_less : (o : Ordering) → is_lt o ≡ true → o ≡ Less
is_less Less e = refl
is_less Equal e = absurd (cc)
is_less Greater e = absurd (cc)

gt_first : (o rest : Ordering) → is_gt (ordering_then o rest) ≡ false → is_gt o ≡ false
gt_first Less rest e = refl
gt_first Equal rest e = refl
gt_first Greater rest e = absurd (cc)

pub element-upto : (a b : Row) → row_cmp a b ≡ Less → a.element ≤ b.element
element-upto a b e = le_from_not_gt a.element b.element (gt_first (nat_cmp a.element b.element) _ (group_upto a b e))

-- neither stands after the next
pub upto-trans : {K : Type 0} {R : K → K → Ordering} (t : IsTotalOrder R) (x y z : K) → is_gt (R x y) ≡ false → is_gt (R y z) ≡ false → is_gt (R x z) ≡ false
upto-trans {R = R} t x y z a b = by (R x y) refl (R y z) refl
  where
    by : (o : Ordering) → R x y ≡ o → (p : Ordering) → R y z ≡ p → is_gt (R x z) ≡ false
    by Equal e p f = ap is_gt (t.congr x y z e) ∙ b
    by Less e Less f = ap is_gt (t.trans x y z e f)
    by Less e Equal f = ap is_gt (t.antisymm x z ∙ ap ordering_reverse (sym (t.congr y z x f)) ∙ sym (t.antisymm x y) ∙ e)
    by Less e Greater f = absurd (false≢true (sym b ∙ ap is_gt f))
    by Greater e p f = absurd (false≢true (sym a ∙ ap is_gt e))

not_true : (b : Bool) → not b ≡ true → b ≡ false
not_true true e = absurd (cc)
not_true false e = refl

-- what is below a row that stands before a bound stands before it too
pub before-down : (b : Bound) (x y : Row) → row_cmp x y ≡ Less → is_before b y ≡ true → is_before b x ≡ true
before-down (bound.Key key) x y less before = ap is_lt (key_total.trans (key_of x) (key_of y) key less (is_less _ before))
before-down (bound.Element element) x y less before = let upto = element-upto x y less in grind (arith, nat_tests)
before-down (bound.UptoElement element) x y less before = let upto = element-upto x y less in grind (arith, nat_tests)
before-down (bound.UptoGroup group) x y less before =
    ap not (upto-trans group_total (group_of x) (group_of y) group (group_upto x y less) (not_true _ before))

-- ---- steps of a search

pub before-more : (b : Bound) (rows : List Row) (middle : ℕ) → rises row_cmp rows ≡ true → middle < length rows
    → ((d : Row) → is_before b (get_or rows middle d) ≡ true) → (k : ℕ) (d : Row) → k < middle + 1 → is_before b (get_or rows k d) ≡ true
before-more b rows middle up within at k d below =
    let here : is_before b (get_or rows middle d) ≡ true = at d in
    elim (lt_or_eq k middle (omega arith)) [
      | inl less ↦
          before-down b (get_or rows k d) (get_or rows middle d)
          (sorted-far row_cmp rows k middle d d (sorted_from_rises row_cmp row_total rows up) less within) here
      | inr same ↦ ap (λ n. is_before b (get_or rows n d)) same ∙ here
    ]

pub after-more : (b : Bound) (rows : List Row) (middle : ℕ) → rises row_cmp rows ≡ true
    → ((d : Row) → is_before b (get_or rows middle d) ≡ false) → (k : ℕ) (d : Row) → middle ≤ k → k < length rows → is_before b (get_or rows k d) ≡ false
after-more b rows middle up at k d from within =
    let here : is_before b (get_or rows middle d) ≡ false = at d in
    elim (lt_or_eq middle k from) [
      | inl less ↦
          elim (cases_Bool (is_before b (get_or rows k d))) [
            | inl before ↦
                absurd (false≢true (sym here ∙
                before-down b (get_or rows middle d) (get_or rows k d)
                (sorted-far row_cmp rows middle k d d (sorted_from_rises row_cmp row_total rows up) less within) before))
            | inr after ↦ after
          ]
      | inr same ↦ ap (λ n. is_before b (get_or rows n d)) (sym same) ∙ here
    ]
