-- Pairs that are put in order have different identifiers, so that they are at most as many as the identifiers that there are.
use Rattle.std.proofs.Common.{◌≡◌, ◌∙◌, ℕ, zero, suc, ◌+◌, ◌<◌, ◌≤◌, ◌^◌, Bool, true, false, cond, List, [], ◌∷◌, length, take, Some, refl, ap, arith}
use Rattle.std.proofs.Common.{Ordering, Less, Equal, Greater}
use Rattle.std.specs.Prelude.{◌||◌}
use Rattle.std.specs.Cmp.Lexicographic.{slice_cmp, texts_ties}
use Rattle.std.specs.List.{AllByRecursion, IsDistinct, list_any, position_from}
use Rattle.std.specs.List.Sorted.{IsStrictlySortedBy}
use Rattle.std.specs.Ordering.{nat_cmp, ordering_reverse, match_ordering, eq_by_cmp}
use Rattle.std.specs.BTreeMap.{insert_entry}
use Rattle.std.specs.Map.{keys_of}
use Rattle.std.proofs.lemmas.Cmp.{nat_list_cmp_total, nat_list_eq_equiv}
use Rattle.std.proofs.lemmas.List.Elements.{All-from_recursion}
use Rattle.std.proofs.lemmas.Map.Entries.{length-keys_of}
use Rattle.std.proofs.lemmas.Map.Keys.{IsDistinct-from_sorted}
use Rattle.std.proofs.lemmas.Map.Made.{length-le_from_is_member}
use Rattle.std.proofs.lemmas.Map.Steps.{list_any_congr}
use Rattle.change_log.specs.Forms.{PairsFit}
use Rattle.dh_changes.specs.Said.{same_id}
use Rattle.tracker_import.specs.Pairs.{Told, put_all, in_order}

-- its identifier is one of these, and its text has bytes in a change
abbrev pub IsFit : List (List ℕ) → Told → Type 0
IsFit ids t = (list_any (same_id t.0) ids ≡ true) × (length t.1 < 2 ^ 16)

-- ---- the order

abbrev by_bytes : List ℕ → List ℕ → Ordering
by_bytes = slice_cmp nat_cmp

insert-above : (x : List ℕ) (k v : List ℕ) (es : List Told) → AllByRecursion (λ y. by_bytes x y ≡ Less) (keys_of es) → by_bytes x k ≡ Less
    → AllByRecursion (λ y. by_bytes x y ≡ Less) (keys_of (insert_entry by_bytes es k v))
insert-above x k v [] above h = (h, tt)
insert-above x k v (e ∷ es) above h =
    elim (by_bytes k e.0) as (λ r. AllByRecursion (λ y. by_bytes x y ≡ Less)
    (keys_of (match_ordering r ((k, v) ∷ e ∷ es) ((e.0, v) ∷ es) (e ∷ insert_entry by_bytes es k v)))) [
      | Less ↦ (h, above)
      | Equal ↦ above
      | Greater ↦ (above.0, insert-above x k v es above.1 h)
    ]

below_all : (x y : List ℕ) (ys : List (List ℕ)) → by_bytes x y ≡ Less → AllByRecursion (λ z. by_bytes y z ≡ Less) ys
    → AllByRecursion (λ z. by_bytes x z ≡ Less) ys
below_all x y [] h all = tt
below_all x y (z ∷ zs) h all = (nat_list_cmp_total.trans x y z h all.0, below_all x y zs h all.1)

insert-sorted : (k v : List ℕ) (es : List Told) → IsStrictlySortedBy by_bytes (keys_of es)
    → IsStrictlySortedBy by_bytes (keys_of (insert_entry by_bytes es k v))
unfolding IsStrictlySortedBy
insert-sorted k v [] s = (tt, tt)
insert-sorted k v (e ∷ es) s =
    elim (by_bytes k e.0) as (λ r. by_bytes k e.0 ≡ r
    → IsStrictlySortedBy by_bytes (keys_of (match_ordering r ((k, v) ∷ e ∷ es) ((e.0, v) ∷ es) (e ∷ insert_entry by_bytes es k v)))) [
      | Less ↦ λ is. ((is, below_all k e.0 (keys_of es) is s.0), s)
      | Equal ↦ λ is. s
      | Greater ↦ λ is. (insert-above e.0 k v es s.0 (nat_list_cmp_total.antisymm e.0 k ∙ ap ordering_reverse is), insert-sorted k v es s.1)
    ] refl

put_all-sorted : (es xs : List Told) → IsStrictlySortedBy by_bytes (keys_of es) → IsStrictlySortedBy by_bytes (keys_of (put_all es xs))
put_all-sorted es [] s = s
put_all-sorted es (x ∷ xs) s = put_all-sorted (insert_entry by_bytes es x.0 x.1) xs (insert-sorted x.0 x.1 es s)

-- ---- each is fit

insert-fit : (ids : List (List ℕ)) (k v : List ℕ) (es : List Told) → AllByRecursion (IsFit ids) es → IsFit ids (k, v)
    → AllByRecursion (IsFit ids) (insert_entry by_bytes es k v)
insert-fit ids k v [] all is = (is, tt)
insert-fit ids k v (e ∷ es) all is =
    elim (by_bytes k e.0) as (λ r. AllByRecursion (IsFit ids) (match_ordering r ((k, v) ∷ e ∷ es) ((e.0, v) ∷ es) (e ∷ insert_entry by_bytes es k v))) [
      | Less ↦ (is, all)
      | Equal ↦ ((all.0.0, is.1), all.1)
      | Greater ↦ (all.0, insert-fit ids k v es all.1 is)
    ]

put_all-fit : (ids : List (List ℕ)) (es xs : List Told) → AllByRecursion (IsFit ids) es → AllByRecursion (IsFit ids) xs
    → AllByRecursion (IsFit ids) (put_all es xs)
put_all-fit ids es [] all more = all
put_all-fit ids es (x ∷ xs) all more = put_all-fit ids (insert_entry by_bytes es x.0 x.1) xs (insert-fit ids x.0 x.1 es all more.0) more.1

-- ---- how many they are

apart : (k : List ℕ) (ks : List (List ℕ)) → AllByRecursion (λ y. eq_by_cmp by_bytes k y ≡ false) ks → AllByRecursion (λ y. same_id k y ≡ false) ks
apart k [] all = tt
apart k (y ∷ ys) all = (texts_ties k y ∙ all.0, apart k ys all.1)

distinct : (ks : List (List ℕ)) → IsDistinct (eq_by_cmp by_bytes) ks → IsDistinct same_id ks
unfolding IsDistinct
distinct [] is = tt
distinct (k ∷ ks) is = (apart k ks is.0, distinct ks is.1)

members : (ids : List (List ℕ)) (q : List ℕ) (es : List Told) → AllByRecursion (IsFit ids) es → list_any (same_id q) (keys_of es) ≡ true
    → list_any (same_id q) ids ≡ true
members ids q [] all is = absurd (cc)
members ids q (e ∷ es) all is =
    elim (same_id q e.0) as (λ b. same_id q e.0 ≡ b → (b || list_any (same_id q) (keys_of es)) ≡ true → list_any (same_id q) ids ≡ true) [
      | true ↦ λ same found. list_any_congr nat_list_eq_equiv q e.0 ids same ∙ all.0.0
      | false ↦ λ differs found. members ids q es all.1 found
    ] refl is

few : (ids : List (List ℕ)) (es : List Told) → IsStrictlySortedBy by_bytes (keys_of es) → AllByRecursion (IsFit ids) es → length es ≤ length ids
few ids es sorted all =
    let keys = length-le_from_is_member nat_list_eq_equiv (keys_of es) ids (distinct (keys_of es) (IsDistinct-from_sorted by_bytes (keys_of es) sorted))
    (λ q found. members ids q es all found) in
    let same = length-keys_of es in
    omega (arith, keys, same)

texts : (ids : List (List ℕ)) (es : List Told) → AllByRecursion (IsFit ids) es → AllByRecursion (λ (pair : Told). length pair.1 < 2 ^ 16) es
texts ids [] all = tt
texts ids (e ∷ es) all = (all.0.1, texts ids es all.1)

-- pairs that are put in order fit the bytes of a change, if each of them is fit, and there are few enough identifiers
pub in_order-fits : (ids : List (List ℕ)) (all : List Told) → length ids < 2 ^ 16 → AllByRecursion (IsFit ids) all → PairsFit (in_order all)
unfolding in_order IsStrictlySortedBy
in_order-fits ids all less each =
    let fit : AllByRecursion (IsFit ids) (put_all [] all) = put_all-fit ids [] all tt each in
    let count : length (put_all [] all) ≤ length ids = few ids (put_all [] all) (put_all-sorted [] all tt) fit in
    (omega (arith, count, less), All-from_recursion (λ (pair : Told). length pair.1 < 2 ^ 16) (put_all [] all) (texts ids (put_all [] all) fit))

-- ---- the first of a list

place-from : (test : List ℕ → Bool) (ids : List (List ℕ)) (at n : ℕ) → position_from test at ids ≡ Some n → at ≤ n
place-from test [] at n is = absurd (cc)
place-from test (x ∷ xs) at n is =
    elim (test x) as (λ b. cond b (Some at) (position_from test (at + 1) xs) ≡ Some n → at ≤ n) [
      | true ↦ λ here. let same : at ≡ n = cc in omega (arith, same)
      | false ↦ λ rest. let more : at + 1 ≤ n = place-from test xs (at + 1) n rest in omega (arith, more)
    ] is

-- what stands at one of the first places is among them
pub among-first : (test : List ℕ → Bool) (ids : List (List ℕ)) (at n most : ℕ) → position_from test at ids ≡ Some n → n < at + most
    → list_any test (take most ids) ≡ true
among-first test [] at n most is less = absurd (cc)
among-first test (x ∷ xs) at n zero is less = let from : at ≤ n = place-from test (x ∷ xs) at n is in absurd (omega (arith, from, less))
among-first test (x ∷ xs) at n (suc most) is less =
    elim (test x) as (λ b. cond b (Some at) (position_from test (at + 1) xs) ≡ Some n → (b || list_any test (take most xs)) ≡ true) [
      | true ↦ λ here. refl
      | false ↦ λ rest. among-first test xs (at + 1) n most rest (omega (arith, less))
    ] is
