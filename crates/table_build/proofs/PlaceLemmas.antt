-- Entries that are put at their places, the later ones over those before: what stands at a place is what was put there last.
use Rattle.std.proofs.Common.{◌≡◌, ◌∙◌, Bool, true, false, cond, List, [], ◌∷◌, inl, inr, Option, Some, None, refl, sym, ap, subst}
use Rattle.std.proofs.Common.{Ordering, Less, Equal, Greater}
use Rattle.std.specs.Cmp.{IsTotalOrder, tied_itself}
use Rattle.std.specs.FinMap.{IsAntisymmetric}
use Rattle.std.specs.List.{AllByRecursion, filter_map, cons_option}
use Rattle.std.specs.List.Sorted.{IsStrictlySortedBy}
use Rattle.std.specs.Option.{option_or}
use Rattle.std.specs.Ordering.{is_eq, ordering_reverse, match_ordering}
use Rattle.std.specs.BTreeMap.{insert_entry, is_at}
use Rattle.std.specs.Map.{keys_of, values_of, lookup}
use Rattle.table_build.specs.Ordered.{put_each}
use Rattle.table_build.proofs.MemberLemmas.{IsIn}
use Rattle.table_build.proofs.OrderedLemmas.{insert-sorted}

pub equal-from : (r : Ordering) → is_eq r ≡ true → r ≡ Equal
equal-from Less is = absurd (cc)
equal-from Equal is = refl
equal-from Greater is = absurd (cc)

cond-twice : {A : Type 0} (b : Bool) (x y z : A) → cond b x z ≡ cond b x (cond b y z)
cond-twice true x y z = refl
cond-twice false x y z = refl

or-last : {V : Type 0} (o : Option V) (b : Bool) (v : V) (rest : Option V)
    → option_or o (cond b (Some v) rest) ≡ option_or (option_or o (cond b (Some v) None)) rest
or-last (Some w) b v rest = refl
or-last None true v rest = refl
or-last None false v rest = refl

-- ---- what stands at a place

module _ {K X V : Type 0} (cmp : K → K → Ordering) (total : IsTotalOrder cmp) (decides : IsAntisymmetric cmp) (key : X → K) (value : X → V) where
  -- what is put last at a place
  abbrev pub last_at : K → List X → Option V
  last_at q [] = None
  last_at q (x ∷ xs) = option_or (last_at q xs) (cond (is_at (cmp q) (key x)) (Some (value x)) None)

  insert-lookup : (q k : K) (v : V) (es : List (K × V))
      → lookup (is_at (cmp q)) (insert_entry cmp es k v) ≡ cond (is_at (cmp q) k) (Some v) (lookup (is_at (cmp q)) es)
  insert-lookup q k v [] = refl
  insert-lookup q k v (e ∷ es) =
      elim (cmp k e.0) as (λ r. cmp k e.0 ≡ r
      → lookup (is_at (cmp q)) (match_ordering r ((k, v) ∷ e ∷ es) ((e.0, v) ∷ es) (e ∷ insert_entry cmp es k v))
      ≡ cond (is_at (cmp q) k) (Some v) (cond (is_at (cmp q) e.0) (Some e.1) (lookup (is_at (cmp q)) es))) [
        | Less ↦ λ is. refl
        | Equal ↦ λ is. cond-twice (is_at (cmp q) e.0) (Some v) (Some e.1) (lookup (is_at (cmp q)) es)
            ∙ sym (ap (λ j. cond (is_at (cmp q) j) (Some v) (cond (is_at (cmp q) e.0) (Some e.1) (lookup (is_at (cmp q)) es))) (decides k e.0 is))
        | Greater ↦ λ is. by_first is (is_at (cmp q) e.0) refl (insert-lookup q k v es)
      ] refl
    where
      apart : cmp k e.0 ≡ Greater → is_at (cmp q) e.0 ≡ true → is_at (cmp q) k ≡ false
      apart is at =
          let one : q ≡ e.0 = decides q e.0 (equal-from (cmp q e.0) at) in
          ap (λ j. is_at (cmp j) k) one ∙ ap is_eq (total.antisymm e.0 k ∙ ap ordering_reverse is)

      by_first : cmp k e.0 ≡ Greater → (b : Bool) → is_at (cmp q) e.0 ≡ b
          → lookup (is_at (cmp q)) (insert_entry cmp es k v) ≡ cond (is_at (cmp q) k) (Some v) (lookup (is_at (cmp q)) es)
          → cond (is_at (cmp q) e.0) (Some e.1) (lookup (is_at (cmp q)) (insert_entry cmp es k v))
          ≡ cond (is_at (cmp q) k) (Some v) (cond (is_at (cmp q) e.0) (Some e.1) (lookup (is_at (cmp q)) es))
      by_first is true at rest =
          ap (λ b. cond b (Some e.1) (lookup (is_at (cmp q)) (insert_entry cmp es k v))) at
          ∙ sym (ap (λ b. cond b (Some v) (cond (is_at (cmp q) e.0) (Some e.1) (lookup (is_at (cmp q)) es))) (apart is at)
          ∙ ap (λ b. cond b (Some e.1) (lookup (is_at (cmp q)) es)) at)
      by_first is false at rest =
          ap (λ b. cond b (Some e.1) (lookup (is_at (cmp q)) (insert_entry cmp es k v))) at ∙ rest
          ∙ sym (ap (λ b. cond (is_at (cmp q) k) (Some v) (cond b (Some e.1) (lookup (is_at (cmp q)) es))) at)

  pub put-lookup : (q : K) (es : List (K × V)) (xs : List X)
      → lookup (is_at (cmp q)) (put_each cmp key value es xs) ≡ option_or (last_at q xs) (lookup (is_at (cmp q)) es)
  put-lookup q es [] = refl
  put-lookup q es (x ∷ xs) =
      put-lookup q (insert_entry cmp es (key x) (value x)) xs
      ∙ ap (option_or (last_at q xs)) (insert-lookup q (key x) (value x) es)
      ∙ or-last (last_at q xs) (is_at (cmp q) (key x)) (value x) (lookup (is_at (cmp q)) es)

  pub put-sorted : (es : List (K × V)) (xs : List X) → IsStrictlySortedBy cmp (keys_of es) → IsStrictlySortedBy cmp (keys_of (put_each cmp key value es xs))
  put-sorted es [] s = s
  put-sorted es (x ∷ xs) s = put-sorted (insert_entry cmp es (key x) (value x)) xs (insert-sorted cmp total (key x) (value x) es s)

  -- what is put last is a member of the list, and its place is this
  pub record Last (q : K) (xs : List X) (v : V) : Type 0 where
    pub x : X
    pub there : IsIn x xs
    pub at : q ≡ key x
    pub is : value x ≡ v

  pub last-in : (q : K) (xs : List X) (v : V) → last_at q xs ≡ Some v → Last q xs v
  last-in q [] v e = absurd (cc)
  last-in q (x ∷ xs) v e = by_rest (last_at q xs) refl (is_at (cmp q) (key x)) refl e (last-in q xs v)
    where
      by_rest : (o : Option V) → last_at q xs ≡ o → (b : Bool) → is_at (cmp q) (key x) ≡ b → option_or o (cond b (Some (value x)) None) ≡ Some v
          → (last_at q xs ≡ Some v → Last q xs v) → Last q (x ∷ xs) v
      by_rest (Some w) rest b at found later =
          let l = later (rest ∙ found) in
          record { x = l.x; there = inr l.there; at = l.at; is = l.is }
      by_rest None rest true at found later =
          record { x = x; there = inl refl; at = decides q (key x) (equal-from (cmp q (key x)) at); is = (let e = found in cc) }
      by_rest None rest false at found later = absurd (let e = found in cc)

-- ---- the rows that stand at their places

module _ {K R : Type 0} (cmp : K → K → Ordering) (total : IsTotalOrder cmp) (decides : IsAntisymmetric cmp) (of : R → K) where
  -- each row stands at its own place
  abbrev pub InPlace : List (K × Option R) → Type 0
  InPlace es = AllByRecursion (λ e. (row : R) → e.1 ≡ Some row → of row ≡ e.0) es

  abbrev pub rows_in : List (K × Option R) → List R
  rows_in es = filter_map (λ row. row) (values_of es)

  insert-in_place : (k : K) (v : Option R) (es : List (K × Option R)) → ((row : R) → v ≡ Some row → of row ≡ k) → InPlace es → InPlace (insert_entry cmp es k v)
  insert-in_place k v [] own all = (own, tt)
  insert-in_place k v (e ∷ es) own all =
      elim (cmp k e.0) as (λ r. cmp k e.0 ≡ r → InPlace (match_ordering r ((k, v) ∷ e ∷ es) ((e.0, v) ∷ es) (e ∷ insert_entry cmp es k v))) [
        | Less ↦ λ is. (own, all)
        | Equal ↦ λ is. (λ row given. own row given ∙ decides k e.0 is, all.1)
        | Greater ↦ λ is. (all.0, insert-in_place k v es own all.1)
      ] refl

  pub put-in_place : {X : Type 0} (key : X → K) (value : X → Option R) → (es : List (K × Option R)) (xs : List X)
      → AllByRecursion (λ x. (row : R) → value x ≡ Some row → of row ≡ key x) xs → InPlace es → InPlace (put_each cmp key value es xs)
  put-in_place key value es [] own all = all
  put-in_place key value es (x ∷ xs) own all =
      put-in_place key value (insert_entry cmp es (key x) (value x)) xs own.1 (insert-in_place (key x) (value x) es own.0 all)

  above-rows : (k : K) (es : List (K × Option R)) → InPlace es → AllByRecursion (λ y. cmp k y ≡ Less) (keys_of es)
      → AllByRecursion (λ row. cmp k (of row) ≡ Less) (rows_in es)
  above-rows k [] all above = tt
  above-rows k (e ∷ es) all above =
      elim e.1 as (λ o. e.1 ≡ o → AllByRecursion (λ row. cmp k (of row) ≡ Less) (cons_option o (rows_in es))) [
        | Some row ↦ λ is. (ap (cmp k) (all.0 row is) ∙ above.0, above-rows k es all.1 above.1)
        | None ↦ λ is. above-rows k es all.1 above.1
      ] refl

  pub rows-sorted : (es : List (K × Option R)) → InPlace es → IsStrictlySortedBy cmp (keys_of es)
      → IsStrictlySortedBy (λ a b. cmp (of a) (of b)) (rows_in es)
  unfolding IsStrictlySortedBy
  rows-sorted [] all s = tt
  rows-sorted (e ∷ es) all s =
      elim e.1 as (λ o. e.1 ≡ o → IsStrictlySortedBy (λ a b. cmp (of a) (of b)) (cons_option o (rows_in es))) [
        | Some row ↦ λ is. (
          subst (λ k. AllByRecursion (λ y. cmp k (of y) ≡ Less) (rows_in es)) (sym (all.0 row is)) (above-rows e.0 es all.1 s.0),
          rows-sorted es all.1 s.1,
        )
        | None ↦ λ is. rows-sorted es all.1 s.1
      ] refl

  pub found-row : (k : K) (row : R) (es : List (K × Option R)) → lookup (is_at (cmp k)) es ≡ Some (Some row) → IsIn row (rows_in es)
  found-row k row [] is = absurd (cc)
  found-row k row (e ∷ es) is = by_first (is_at (cmp k) e.0) is (found-row k row es)
    where
      later : (o : Option R) → IsIn row (rows_in es) → IsIn row (cons_option o (rows_in es))
      later None there = there
      later (Some other) there = inr there

      by_first : (b : Bool) → cond b (Some e.1) (lookup (is_at (cmp k)) es) ≡ Some (Some row)
          → (lookup (is_at (cmp k)) es ≡ Some (Some row) → IsIn row (rows_in es)) → IsIn row (cons_option e.1 (rows_in es))
      by_first true found rest =
          let own : Some row ≡ e.1 = (let e = found in cc) in
          subst (λ o. IsIn row (cons_option o (rows_in es))) own (inl refl)
      by_first false found rest = later e.1 (rest found)

  pub row-found : (row : R) (es : List (K × Option R)) → InPlace es → IsStrictlySortedBy cmp (keys_of es) → IsIn row (rows_in es)
      → lookup (is_at (cmp (of row))) es ≡ Some (Some row)
  unfolding IsStrictlySortedBy
  row-found row [] all s there = absurd there
  row-found row (e ∷ es) all s there = by_first e.1 refl there (row-found row es all.1 s.1)
    where
      place : IsIn row (rows_in es) → cmp e.0 (of row) ≡ Less
      place is = member (rows_in es) (above-rows e.0 es all.1 s.0) is
        where
          member : (rows : List R) → AllByRecursion (λ x. cmp e.0 (of x) ≡ Less) rows → IsIn row rows → cmp e.0 (of row) ≡ Less
          member [] each none = absurd none
          member (x ∷ rows) each (inl same) = ap (λ y. cmp e.0 (of y)) same ∙ each.0
          member (x ∷ rows) each (inr more) = member rows each.1 more

      beyond : cmp e.0 (of row) ≡ Less → lookup (is_at (cmp (of row))) es ≡ Some (Some row)
          → cond (is_at (cmp (of row)) e.0) (Some e.1) (lookup (is_at (cmp (of row))) es) ≡ Some (Some row)
      beyond less found =
          ap (λ r. cond (is_eq r) (Some e.1) (lookup (is_at (cmp (of row))) es)) (total.antisymm (of row) e.0 ∙ ap ordering_reverse less) ∙ found

      here : of row ≡ e.0 → e.1 ≡ Some row → cond (is_at (cmp (of row)) e.0) (Some e.1) (lookup (is_at (cmp (of row))) es) ≡ Some (Some row)
      here own is =
          ap (λ k. cond (is_at (cmp k) e.0) (Some e.1) (lookup (is_at (cmp (of row))) es)) own
          ∙ ap (λ r. cond (is_eq r) (Some e.1) (lookup (is_at (cmp (of row))) es)) (tied_itself total e.0) ∙ ap Some is

      by_first : (o : Option R) → e.1 ≡ o → IsIn row (cons_option o (rows_in es))
          → (IsIn row (rows_in es) → lookup (is_at (cmp (of row))) es ≡ Some (Some row))
          → cond (is_at (cmp (of row)) e.0) (Some e.1) (lookup (is_at (cmp (of row))) es) ≡ Some (Some row)
      by_first None is later rest = beyond (place later) (rest later)
      by_first (Some other) is (inl same) rest = here (all.0 row (is ∙ ap Some (sym same))) (is ∙ ap Some (sym same))
      by_first (Some other) is (inr later) rest = beyond (place later) (rest later)
