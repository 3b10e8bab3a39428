-- Keys in their order, and where one stands among them.
use Rattle.std.proofs.Common.{◌≡◌, ◌∙◌, ℕ, ◌<◌, ◌≤◌, true, false, List, length, get_or, inl, inr, refl, sym, ap, arith, Ordering, Less, Equal, Greater}
use Rattle.std.specs.Cmp.{IsTotalOrder}
use Rattle.std.specs.Cmp.Lexicographic.{slice_cmp}
use Rattle.std.specs.List.{HoldsAt}
use Rattle.std.specs.List.Sorted.{IsStrictlySortedBy, IsNonDecreasingBy, IsPartitionPoint}
use Rattle.std.specs.Ordering.{nat_cmp, is_eq, is_lt, ordering_index}
use Rattle.std.proofs.lemmas.Bool.{cases_lt}
use Rattle.std.proofs.lemmas.Cmp.{nat_cmp_total, lists_total}
use Rattle.std.proofs.lemmas.List.Folds.{list_any_at, list_any_none}
use Rattle.table_rows.proofs.RiseLemmas.{sorted-far}
use Rattle.table_latest.specs.contracts.places.RowPlaceOrd.TheImpl.Laws as row
use Rattle.table_latest.specs.contracts.places.RegPlaceOrd.TheImpl.Laws as reg
use Rattle.table_latest.specs.Keys.{place_cmp, reg_place_cmp, is_among, IsCutAt}
use Rattle.table_latest.proofs.OrderLemmas.{turned-less, turned-greater}

pub place_total : IsTotalOrder place_cmp
place_total = row.total-law

pub reg_place_total : IsTotalOrder reg_place_cmp
reg_place_total = reg.total-law

pub id_total : IsTotalOrder (slice_cmp nat_cmp)
id_total = lists_total nat_cmp_total

module _ {K : Type 0} (cmp : K → K → Ordering) (total : IsTotalOrder cmp) where
  -- a later key doesn't answer less
  later-answer : (a b key : K) → cmp a b ≡ Less → ordering_index (cmp a key) ≤ ordering_index (cmp b key)
  later-answer a b key less = by_order (cmp a key) refl
    where
      beyond : cmp key b ≡ Less → ordering_index (cmp b key) ≡ 2
      beyond below = ap ordering_index (turned-less cmp total key b below)

      by_order : (o : Ordering) → cmp a key ≡ o → ordering_index o ≤ ordering_index (cmp b key)
      by_order Less is = omega arith
      by_order Equal is = let last = beyond (sym (total.congr a key b is) ∙ less) in omega (arith, last)
      by_order Greater is = let last = beyond (total.trans key a b (turned-greater cmp total a key is) less) in omega (arith, last)

  answers-rise : (keys : List K) (key : K) → IsStrictlySortedBy cmp keys → IsNonDecreasingBy (λ k. ordering_index (cmp k key)) keys
  answers-rise keys key sorted i j d upto within =
      elim (cases_lt i j) [
        | inl less ↦ later-answer (get_or keys i d) (get_or keys j d) key (sorted-far cmp keys i j d d sorted less within)
        | inr not ↦
            let same : i ≡ j = omega arith in
            let is : ordering_index (cmp (get_or keys i d) key) ≡ ordering_index (cmp (get_or keys j d) key) =
            ap (λ k. ordering_index (cmp (get_or keys k d) key)) same in
            omega (arith, is)
      ]

  -- where the key stands itself

  found-before : (keys : List K) (key : K) (at k : ℕ) (d : K) → IsStrictlySortedBy cmp keys → at < length keys → HoldsAt (λ y. cmp y key ≡ Equal) keys at
      → k < at → cmp (get_or keys k d) key ≡ Less
  found-before keys key at k d sorted within holds less =
      let below = sorted-far cmp keys k at d d sorted less within in
      turned-greater cmp total key (get_or keys k d)
      (sym (total.congr (get_or keys at d) key (get_or keys k d) (holds d)) ∙ turned-less cmp total (get_or keys k d) (get_or keys at d) below)

  found-after : (keys : List K) (key : K) (at k : ℕ) (d : K) → IsStrictlySortedBy cmp keys → at < length keys → HoldsAt (λ y. cmp y key ≡ Equal) keys at
      → at ≤ k → k < length keys → is_lt (cmp (get_or keys k d) key) ≡ false
  found-after keys key at k d sorted within holds upto short =
      elim (cases_lt at k) [
        | inl less ↦
            let above = sorted-far cmp keys at k d d sorted less short in
            ap is_lt (turned-less cmp total key (get_or keys k d) (sym (total.congr (get_or keys at d) key (get_or keys k d) (holds d)) ∙ above))
        | inr not ↦
            let same : k ≡ at = omega arith in
            ap (λ n. is_lt (cmp (get_or keys n d) key)) same ∙ ap is_lt (holds d)
      ]

  pub cut-found : (keys : List K) (key : K) (at : ℕ) → IsStrictlySortedBy cmp keys → at < length keys → HoldsAt (λ y. cmp y key ≡ Equal) keys at
      → IsCutAt cmp key keys at
  cut-found keys key at sorted within holds =
      record {
        within = omega arith;
        before = λ k d less. found-before keys key at k d sorted within holds less;
        after = λ k d upto short. found-after keys key at k d sorted within holds upto short;
      }

  pub cut-missing : (keys : List K) (key : K) (at : ℕ) → IsStrictlySortedBy cmp keys → at ≤ length keys
      → (IsNonDecreasingBy (λ k. ordering_index (cmp k key)) keys → IsPartitionPoint (λ k. cmp k key ≡ Less) (λ k. cmp k key ≡ Greater) keys at)
      → IsCutAt cmp key keys at
  cut-missing keys key at sorted within parts =
      let parted = parts (answers-rise keys key sorted) in
      record {
        within = within;
        before = λ k d less. parted.0 k d (omega arith) less;
        after = λ k d upto short. ap is_lt (parted.1 k d upto short);
      }

  pub among-found : (keys : List K) (key : K) (at : ℕ) → at < length keys → HoldsAt (λ y. cmp y key ≡ Equal) keys at → is_among cmp keys key ≡ true
  among-found keys key at within holds = list_any_at (λ k. is_eq (cmp k key)) keys at key within (ap is_eq (holds key))

  pub among-missing : (keys : List K) (key : K) (at : ℕ) → IsStrictlySortedBy cmp keys
      → (IsNonDecreasingBy (λ k. ordering_index (cmp k key)) keys → IsPartitionPoint (λ k. cmp k key ≡ Less) (λ k. cmp k key ≡ Greater) keys at)
      → is_among cmp keys key ≡ false
  among-missing keys key at sorted parts =
      let parted = parts (answers-rise keys key sorted) in
      list_any_none (λ k. is_eq (cmp k key)) keys (λ k d within.
      elim (cases_lt k at) [
        | inl before ↦ ap is_eq (parted.0 k d (omega arith) before)
        | inr after ↦ ap is_eq (parted.1 k d (omega arith) within)
      ])
