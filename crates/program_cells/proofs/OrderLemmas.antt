-- The order of events is total, and no two events stand equal in it; a list in order is one for all lists of the same members.
use Rattle.std.proofs.Common.{◌≡◌, ◌∙◌, ℕ, ℤ, pos, Bool, true, false, cond, List, [], ◌∷◌, Some, None, Ordering, Less, Equal, Greater, refl}
use Rattle.std.proofs.Common.{sym, ap, subst}
use Rattle.std.specs.Prelude.{IsPermutation}
use Rattle.std.specs.Option.{option_cmp}
use Rattle.std.specs.Cmp.{IsTotalOrder}
use Rattle.std.specs.Cmp.Lexicographic.{slice_cmp, options_total}
use Rattle.std.specs.FinMap.{IsAntisymmetric, nat_cmp-IsAntisymmetric, int_cmp-IsAntisymmetric, slice_cmp-IsAntisymmetric}
use Rattle.std.specs.List.{AllByRecursion}
use Rattle.std.specs.List.Sorted.{IsStrictlySortedBy}
use Rattle.std.specs.Ordering.{is_lt, nat_cmp, int_cmp, ordering_then, ordering_reverse}
use Rattle.std.proofs.lemmas.Cmp.{then_total, on_total, lists_total, nat_cmp_total, int_cmp_total, nat_list_cmp_total}
use Rattle.table_rows.specs.declared.event.EventRow.{EventRow}
use Rattle.table_rows.specs.declared.event.ItemValue.{ItemValue}
use Rattle.table_rows.specs.declared.event.ItemValue.TheVariants.{Number, Day, Plain}
use Rattle.table_rows.specs.Events.{event_cmp}
use Rattle.table_rows.specs.Store.{rises}
use Rattle.table_rows.proofs.RiseLemmas.{sorted_from_rises}
use Rattle.table_rows.proofs.ShuffleLemmas.{IsClosed, closed-permutation}
use Rattle.program_cells.specs.Order.{value_numbers, value_cmp, rest_cmp, whole_cmp, enrolled_cmp, put, in_order}

-- ---- the order is total

pub event_total : IsTotalOrder event_cmp
event_total = then_total (on_total (λ (e : EventRow). e.day) int_cmp_total) (on_total (λ (e : EventRow). e.id) nat_list_cmp_total)

value_total : IsTotalOrder value_cmp
value_total =
    then_total (on_total (λ (v : ℕ × ItemValue). v.0) nat_cmp_total) (on_total (λ (v : ℕ × ItemValue). value_numbers v.1) (lists_total int_cmp_total))

rest_total : IsTotalOrder rest_cmp
rest_total =
    then_total (on_total (λ (e : EventRow). e.enrollment) (options_total nat_list_cmp_total))
    (then_total (on_total (λ (e : EventRow). e.entity) (options_total nat_list_cmp_total))
    (then_total (on_total (λ (e : EventRow). e.program) nat_cmp_total)
    (then_total (on_total (λ (e : EventRow). e.stage) nat_cmp_total)
    (then_total (on_total (λ (e : EventRow). e.order) nat_cmp_total)
    (then_total (on_total (λ (e : EventRow). e.enrolled) (options_total int_cmp_total))
    (then_total (on_total (λ (e : EventRow). e.values) (lists_total value_total))
    (on_total (λ (e : EventRow). e.attributes) (lists_total value_total))))))))

pub whole_total : IsTotalOrder whole_cmp
unfolding whole_cmp
whole_total = then_total event_total rest_total

-- ---- what stands equal is one

both_equal : (o rest : Ordering) → ordering_then o rest ≡ Equal → (o ≡ Equal) × (rest ≡ Equal)
both_equal Less rest e = absurd (cc)
both_equal Equal rest e = (refl, e)
both_equal Greater rest e = absurd (cc)

same_option : {K : Type 0} (cmp : K → K → Ordering) → IsAntisymmetric cmp → IsAntisymmetric (option_cmp cmp)
same_option cmp same None None e = refl
same_option cmp same None (Some y) e = absurd (cc)
same_option cmp same (Some x) None e = absurd (cc)
same_option cmp same (Some x) (Some y) e = ap Some (same x y e)

abbrev second : List ℤ → ℤ
second (a ∷ b ∷ more) = b
second more = pos 0

same_numbers : (v w : ItemValue) → value_numbers v ≡ value_numbers w → v ≡ w
same_numbers (Number m) (Number n) e = ap Number (ap second e)
same_numbers (Number m) (Day d) e = absurd (cc)
same_numbers (Number m) Plain e = absurd (cc)
same_numbers (Day c) (Number n) e = absurd (cc)
same_numbers (Day c) (Day d) e = ap Day (ap second e)
same_numbers (Day c) Plain e = absurd (cc)
same_numbers Plain (Number n) e = absurd (cc)
same_numbers Plain (Day d) e = absurd (cc)
same_numbers Plain Plain e = refl

same_id : IsAntisymmetric (slice_cmp nat_cmp)
same_id = slice_cmp-IsAntisymmetric nat_cmp-IsAntisymmetric

same_value : IsAntisymmetric value_cmp
same_value x y e =
    let parts = both_equal (nat_cmp x.0 y.0) (slice_cmp int_cmp (value_numbers x.1) (value_numbers y.1)) e in
    let number = nat_cmp-IsAntisymmetric x.0 y.0 parts.0 in
    let value = same_numbers x.1 y.1 (slice_cmp-IsAntisymmetric int_cmp-IsAntisymmetric (value_numbers x.1) (value_numbers y.1) parts.1) in
    λ i. (number i, value i)

same_values : IsAntisymmetric (slice_cmp value_cmp)
same_values = slice_cmp-IsAntisymmetric same_value

pub whole_same : IsAntisymmetric whole_cmp
unfolding whole_cmp
whole_same a b e =
    let first = both_equal (event_cmp a b) (rest_cmp a b) e in
    let own = both_equal (int_cmp a.day b.day) (slice_cmp nat_cmp a.id b.id) first.0 in
    let two = both_equal (option_cmp (slice_cmp nat_cmp) a.enrollment b.enrollment) _ first.1 in
    let three = both_equal (option_cmp (slice_cmp nat_cmp) a.entity b.entity) _ two.1 in
    let four = both_equal (nat_cmp a.program b.program) _ three.1 in
    let five = both_equal (nat_cmp a.stage b.stage) _ four.1 in
    let six = both_equal (nat_cmp a.order b.order) _ five.1 in
    let seven = both_equal (option_cmp int_cmp a.enrolled b.enrolled) _ six.1 in
    let eight = both_equal (slice_cmp value_cmp a.values b.values) (slice_cmp value_cmp a.attributes b.attributes) seven.1 in
    let day = int_cmp-IsAntisymmetric a.day b.day own.0 in
    let id = same_id a.id b.id own.1 in
    let enrollment = same_option (slice_cmp nat_cmp) same_id a.enrollment b.enrollment two.0 in
    let entity = same_option (slice_cmp nat_cmp) same_id a.entity b.entity three.0 in
    let program = nat_cmp-IsAntisymmetric a.program b.program four.0 in
    let stage = nat_cmp-IsAntisymmetric a.stage b.stage five.0 in
    let order = nat_cmp-IsAntisymmetric a.order b.order six.0 in
    let enrolled = same_option int_cmp int_cmp-IsAntisymmetric a.enrolled b.enrolled seven.0 in
    let values = same_values a.values b.values eight.0 in
    let attributes = same_values a.attributes b.attributes eight.1 in
    λ i. record {
      id = id i;
      enrollment = enrollment i;
      entity = entity i;
      program = program i;
      stage = stage i;
      order = order i;
      day = day i;
      enrolled = enrolled i;
      values = values i;
      attributes = attributes i;
    }

-- ---- the same of the order in which those of one enrollment stand together

id_option_total : IsTotalOrder (option_cmp (slice_cmp nat_cmp))
id_option_total = options_total nat_list_cmp_total

pub enrolled_total : IsTotalOrder enrolled_cmp
unfolding enrolled_cmp
enrolled_total =
    then_total (on_total (λ (e : EventRow). e.enrolled) (options_total int_cmp_total))
    (then_total (on_total (λ (e : EventRow). e.enrollment) id_option_total) whole_total)

pub enrolled_same : IsAntisymmetric enrolled_cmp
unfolding enrolled_cmp
enrolled_same a b e =
    let one = both_equal (option_cmp int_cmp a.enrolled b.enrolled) _ e in
    let two = both_equal (option_cmp (slice_cmp nat_cmp) a.enrollment b.enrollment) (whole_cmp a b) one.1 in
    whole_same a b two.1

-- ---- members may be put in one after the other in any order

module _ {X : Type 0} (cmp : X → X → Ordering) (total : IsTotalOrder cmp) where
  after_less : (x y : X) (rest : List X) → cmp x y ≡ Less → put cmp y (x ∷ rest) ≡ x ∷ put cmp y rest
  after_less x y rest less = ap (λ o. cond (is_lt o) (y ∷ x ∷ rest) (x ∷ put cmp y rest)) (total.antisymm y x ∙ ap ordering_reverse less)

  place : (w z : X) (rest : List X) (b : Bool) → is_lt (cmp w z) ≡ b → put cmp w (z ∷ rest) ≡ cond b (w ∷ z ∷ rest) (z ∷ put cmp w rest)
  place w z rest b is = ap (λ c. cond c (w ∷ z ∷ rest) (z ∷ put cmp w rest)) is

  put_far : (x y z : X) (zs : List X) (b : Bool) → cmp x y ≡ Less → put cmp x (put cmp y zs) ≡ put cmp y (put cmp x zs)
      → is_lt (cmp x z) ≡ b → is_lt (cmp y z) ≡ false → put cmp x (put cmp y (z ∷ zs)) ≡ put cmp y (put cmp x (z ∷ zs))
  put_far x y z zs true less rest low high =
      ap (put cmp x) (place y z zs false high) ∙ place x z (put cmp y zs) true low
      ∙ sym (ap (put cmp y) (place x z zs true low) ∙ after_less x y (z ∷ zs) less ∙ ap (λ l. x ∷ l) (place y z zs false high))
  put_far x y z zs false less rest low high =
      ap (put cmp x) (place y z zs false high) ∙ place x z (put cmp y zs) false low ∙ ap (λ l. z ∷ l) rest
      ∙ sym (ap (put cmp y) (place x z zs false low) ∙ place y z (put cmp x zs) false high)

  put_near : (x y z : X) (zs : List X) → cmp x y ≡ Less → cmp y z ≡ Less → put cmp x (put cmp y (z ∷ zs)) ≡ put cmp y (put cmp x (z ∷ zs))
  put_near x y z zs less next =
      let far = total.trans x y z less next in
      ap (put cmp x) (place y z zs true (ap is_lt next)) ∙ place x y (z ∷ zs) true (ap is_lt less)
      ∙ sym (ap (put cmp y) (place x z zs true (ap is_lt far)) ∙ after_less x y (z ∷ zs) less ∙ ap (λ l. x ∷ l) (place y z zs true (ap is_lt next)))

  put_one : (x y z : X) (zs : List X) (o : Ordering) → cmp x y ≡ Less → put cmp x (put cmp y zs) ≡ put cmp y (put cmp x zs)
      → cmp y z ≡ o → put cmp x (put cmp y (z ∷ zs)) ≡ put cmp y (put cmp x (z ∷ zs))
  put_one x y z zs Less less rest is = put_near x y z zs less is
  put_one x y z zs Equal less rest is = put_far x y z zs (is_lt (cmp x z)) less rest refl (ap is_lt is)
  put_one x y z zs Greater less rest is = put_far x y z zs (is_lt (cmp x z)) less rest refl (ap is_lt is)

  put_below : (x y : X) (zs : List X) → cmp x y ≡ Less → put cmp x (put cmp y zs) ≡ put cmp y (put cmp x zs)
  put_below x y [] less = place x y [] true (ap is_lt less) ∙ sym (after_less x y [] less)
  put_below x y (z ∷ zs) less = put_one x y z zs (cmp y z) less (put_below x y zs less) refl

  put_turned : IsAntisymmetric cmp → (x y : X) (zs : List X) → put cmp x (put cmp y zs) ≡ put cmp y (put cmp x zs)
  put_turned same x y zs =
      elim (cmp x y) as (λ o. cmp x y ≡ o → put cmp x (put cmp y zs) ≡ put cmp y (put cmp x zs)) [
        | Less ↦ λ is. put_below x y zs is
        | Equal ↦ λ is. subst (λ w. put cmp x (put cmp w zs) ≡ put cmp w (put cmp x zs)) (same x y is) refl
        | Greater ↦ λ is. sym (put_below y x zs (total.antisymm y x ∙ ap ordering_reverse is))
      ] refl

  closed_order : IsAntisymmetric cmp → IsClosed (λ xs ys. in_order cmp xs ≡ in_order cmp ys)
  closed_order same = record {
    unmoved = λ xs. refl;
    beyond = λ x xs ys are. ap (put cmp x) are;
    turned = λ x y xs. put_turned same x y (in_order cmp xs);
    further = λ xs ys zs one two. one ∙ two;
  }

  -- in order, a list is that of its members in whatever order they stood
  pub in_order_permutation : IsAntisymmetric cmp → (xs ys : List X) → IsPermutation xs ys → in_order cmp xs ≡ in_order cmp ys
  in_order_permutation same xs ys moved = closed-permutation (λ us vs. in_order cmp us ≡ in_order cmp vs) (closed_order same) xs ys moved

-- ---- a list that is in order stays

pub in_order_sorted : {X : Type 0} (cmp : X → X → Ordering) (xs : List X) → IsStrictlySortedBy cmp xs → in_order cmp xs ≡ xs
unfolding IsStrictlySortedBy
in_order_sorted cmp [] sorted = refl
in_order_sorted cmp (x ∷ []) sorted = refl
in_order_sorted cmp (x ∷ y ∷ ys) sorted =
    ap (put cmp x) (in_order_sorted cmp (y ∷ ys) sorted.1) ∙ ap (λ o. cond (is_lt o) (x ∷ y ∷ ys) (y ∷ put cmp x ys)) sorted.0.0

whole_less : (a b : EventRow) → event_cmp a b ≡ Less → whole_cmp a b ≡ Less
unfolding whole_cmp
whole_less a b less = ap (λ o. ordering_then o (rest_cmp a b)) less

all_less : (a : EventRow) (es : List EventRow) → AllByRecursion (λ b. event_cmp a b ≡ Less) es → AllByRecursion (λ b. whole_cmp a b ≡ Less) es
all_less a [] all = tt
all_less a (b ∷ es) all = (whole_less a b all.0, all_less a es all.1)

sorted_more : (es : List EventRow) → IsStrictlySortedBy event_cmp es → IsStrictlySortedBy whole_cmp es
unfolding IsStrictlySortedBy
sorted_more [] sorted = tt
sorted_more (e ∷ es) sorted = (all_less e es sorted.0, sorted_more es sorted.1)

-- the events of a store are in order
pub rising_events : (es : List EventRow) → rises event_cmp es ≡ true → IsStrictlySortedBy whole_cmp es
rising_events es up = sorted_more es (sorted_from_rises event_cmp event_total es up)
