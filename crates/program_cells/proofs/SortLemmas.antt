-- Events sorted by their enrollments stand in the order in which those of one enrollment are together.
use Rattle.std.proofs.Common.{◌≡◌, ◌∙◌, ◌+◌, true, false, List, [], ◌∷◌, suc, get_or, refl, sym, ap, subst, arith, Ordering, Less, Equal, Greater}
use Rattle.std.specs.Prelude.{IsPermutation}
use Rattle.std.specs.Cmp.{IsTotalOrder, eq_by_cmp_equiv}
use Rattle.std.specs.Cmp.Lexicographic.{slice_cmp, options_total}
use Rattle.std.specs.List.{AllByRecursion, IsDistinct}
use Rattle.std.specs.List.Sorted.{IsSorted, IsStrictlySortedBy}
use Rattle.std.specs.Option.{option_cmp}
use Rattle.std.specs.Ordering.{on, then_cmp, eq_by_cmp, is_eq, is_lt, nat_cmp, int_cmp, ordering_then, ordering_reverse}
use Rattle.std.proofs.lemmas.Bool.{and_from}
use Rattle.std.proofs.lemmas.Cmp.{on_total, then_total, int_cmp_total, nat_list_cmp_total}
use Rattle.std.proofs.lemmas.Map.Keys.{IsDistinct-IsPermutation}
use Rattle.table_rows.specs.declared.event.EventRow.{EventRow}
use Rattle.table_rows.specs.Events.{event_cmp}
use Rattle.table_rows.specs.Store.{rises, rises_from}
use Rattle.table_rows.proofs.RiseLemmas.{sorted_from_rises}
use Rattle.program_cells.specs.Order.{rest_cmp, whole_cmp, enrolled_cmp, in_order}
use Rattle.program_cells.proofs.OrderLemmas.{event_total, enrolled_total, enrolled_same, in_order_permutation, in_order_sorted}

-- the order of the keys that events are sorted by
abbrev key_cmp : EventRow → EventRow → Ordering
key_cmp = then_cmp (on (λ event. event.enrolled) (option_cmp int_cmp)) (then_cmp (on (λ event. event.enrollment) (option_cmp (slice_cmp nat_cmp))) event_cmp)

key_total : IsTotalOrder key_cmp
key_total =
    then_total (on_total (λ (e : EventRow). e.enrolled) (options_total int_cmp_total))
    (then_total (on_total (λ (e : EventRow). e.enrollment) (options_total nat_list_cmp_total)) event_total)

-- ---- sorted, without a repeat, they rise

below : (o back : Ordering) → back ≡ ordering_reverse o → is_eq o ≡ false → is_lt back ≡ false → is_lt o ≡ true
below Less back turned apart up = refl
below Equal back turned apart up = absurd (cc)
below Greater back turned apart up = absurd (cc)

module _ {X : Type 0} (cmp : X → X → Ordering) (total : IsTotalOrder cmp) where
  sorted-rest : (x : X) (xs : List X) → IsSorted cmp (x ∷ xs) → IsSorted cmp xs
  sorted-rest x xs up k d from within =
      let shifted : suc k + 1 ≡ suc (k + 1) = omega arith in
      subst (λ n. is_lt (cmp (get_or (x ∷ xs) n d) (get_or xs k d)) ≡ false) shifted (up (suc k) d (omega arith) (omega arith))

  sorted-rises : (xs : List X) → IsSorted cmp xs → IsDistinct (eq_by_cmp cmp) xs → rises cmp xs ≡ true
  unfolding IsDistinct
  sorted-rises [] up apart = refl
  sorted-rises (x ∷ []) up apart = refl
  sorted-rises (x ∷ y ∷ ys) up apart =
      and_from (is_lt (cmp x y)) (rises_from cmp y ys)
      (below (cmp x y) (cmp y x) (total.antisymm y x) apart.0.0 (up 0 x (omega arith) (omega arith)))
      (sorted-rises (y ∷ ys) (sorted-rest x (y ∷ ys) up) apart.1)

-- ---- no two events have one key

apart_by : (o p q : Ordering) → q ≡ Less → is_eq (ordering_then o (ordering_then p q)) ≡ false
apart_by Less p q less = refl
apart_by Greater p q less = refl
apart_by Equal Less q less = refl
apart_by Equal Greater q less = refl
apart_by Equal Equal q less = ap is_eq less

all_apart : (a : EventRow) (es : List EventRow) → AllByRecursion (λ b. event_cmp a b ≡ Less) es → AllByRecursion (λ b. eq_by_cmp key_cmp a b ≡ false) es
all_apart a [] all = tt
all_apart a (b ∷ es) all = (
  apart_by (option_cmp int_cmp a.enrolled b.enrolled) (option_cmp (slice_cmp nat_cmp) a.enrollment b.enrollment)
      (event_cmp a b) all.0,
  all_apart a es all.1,
)

own_keys : (es : List EventRow) → IsStrictlySortedBy event_cmp es → IsDistinct (eq_by_cmp key_cmp) es
unfolding IsDistinct IsStrictlySortedBy
own_keys [] sorted = tt
own_keys (e ∷ es) sorted = (all_apart e es sorted.0, own_keys es sorted.1)

flips : (a b : EventRow) → eq_by_cmp key_cmp a b ≡ eq_by_cmp key_cmp b a
flips a b = (eq_by_cmp_equiv key_total).symm a b

-- ---- what rises by its keys rises in the order

less_by : (o p q rest : Ordering) → ordering_then o (ordering_then p q) ≡ Less → ordering_then o (ordering_then p (ordering_then q rest)) ≡ Less
less_by Less p q rest less = refl
less_by Greater p q rest less = absurd (cc)
less_by Equal Less q rest less = refl
less_by Equal Greater q rest less = absurd (cc)
less_by Equal Equal q rest less = ap (λ o. ordering_then o rest) less

all_less : (a : EventRow) (es : List EventRow) → AllByRecursion (λ b. key_cmp a b ≡ Less) es → AllByRecursion (λ b. enrolled_cmp a b ≡ Less) es
unfolding enrolled_cmp whole_cmp
all_less a [] all = tt
all_less a (b ∷ es) all = (
  less_by (option_cmp int_cmp a.enrolled b.enrolled) (option_cmp (slice_cmp nat_cmp) a.enrollment b.enrollment)
      (event_cmp a b) (rest_cmp a b) all.0,
  all_less a es all.1,
)

sorted_more : (es : List EventRow) → IsStrictlySortedBy key_cmp es → IsStrictlySortedBy enrolled_cmp es
unfolding IsStrictlySortedBy
sorted_more [] sorted = tt
sorted_more (e ∷ es) sorted = (all_less e es sorted.0, sorted_more es sorted.1)

-- sorted by their keys, events of which no two have one day and identifier are in order
pub enrolled_sorted : (events sorted : List EventRow) → IsStrictlySortedBy event_cmp events → IsPermutation events sorted → IsSorted key_cmp sorted
    → sorted ≡ in_order enrolled_cmp events
enrolled_sorted events sorted strict moved up =
    let apart : IsDistinct (eq_by_cmp key_cmp) sorted = IsDistinct-IsPermutation (eq_by_cmp key_cmp) flips events sorted moved (own_keys events strict) in
    let rising : IsStrictlySortedBy key_cmp sorted = sorted_from_rises key_cmp key_total sorted (sorted-rises key_cmp key_total sorted up apart) in
    sym (in_order_permutation enrolled_cmp enrolled_total enrolled_same events sorted moved ∙ in_order_sorted enrolled_cmp sorted (sorted_more sorted rising))
