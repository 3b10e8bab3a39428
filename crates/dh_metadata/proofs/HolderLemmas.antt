-- Places put at the end of lists.
use Rattle.std.proofs.Common.{◌≡◌, ◌∙◌, ◌+◌, ◌<◌, ◌≤◌, ◌++◌, ◌∷◌, [], ◌||◌, ℕ, zero, suc, Bool, true, false, List, cond, length, get_or, set, refl, sym, ap}
use Rattle.std.proofs.Common.{subst, eqb, ltb, take, arith}
use Rattle.std.specs.List.{filter}
use Rattle.std.specs.Option.{option_map_or}
use Rattle.std.specs.List.Sorted.{IsStrictlyIncreasing}
use Rattle.std.proofs.lemmas.Bool.{eqb-true, eqb-false, eq-eqb, ne_eqb, ltb-true, ltb-false, true≢false}
use Rattle.std.proofs.lemmas.List.{get_or_default, get_or-take, take_more, length-set, length-take, get_or-set_same, get_or-set_other, append-nil}
use Rattle.std.proofs.lemmas.List.{length-append, set_past, get_or_past}
use Rattle.std.proofs.lemmas.List.Kept.{AllPairs-from_increasing}
use Rattle.std.proofs.lemmas.List.Elements.{filter-append, filter_passes}
use Rattle.std.proofs.lemmas.List.Folds.{list_any_none, list_any_more}
use Rattle.std.proofs.lemmas.Option.{slice_get_past}
use Rattle.dh_metadata.specs.Linked.{AreBelow}
use Rattle.dh_metadata.specs.Members.{has, has_at, holders, IsPutAt, AreHolders}

-- an ascending list has none of its numbers before
fresh : (ms : List ℕ) (i : ℕ) → IsStrictlyIncreasing ms → i < length ms → has (take i ms) (get_or ms i 0) ≡ false
fresh ms i up within =
    list_any_none (λ own. eqb own (get_or ms i 0)) (take i ms) (λ k d before.
    let k_before : k < i = omega (arith, length-take i ms) in
    let less : get_or ms k 0 < get_or ms i 0 = AllPairs-from_increasing ms up k i 0 k_before within in
    let k_within : k < length ms = omega arith in
    let at : get_or (take i ms) k d ≡ get_or ms k 0 = get_or-take i ms k d k_before ∙ get_or_default ms k d 0 k_within in
    ne_eqb (get_or (take i ms) k d) (get_or ms i 0) (λ same. omega arith))

has_more : (ms : List ℕ) (i n : ℕ) → i < length ms → has (take (i + 1) ms) n ≡ (has (take i ms) n || eqb (get_or ms i 0) n)
has_more ms i n within = list_any_more (λ own. eqb own n) ms i 0 within

put_case : (place : ℕ) (before : Bool) (mid old : List ℕ) → before ≡ false → mid ≡ old ++ cond before (place ∷ []) []
    → mid ++ place ∷ [] ≡ old ++ cond (before || true) (place ∷ []) []
put_case place true mid old none is = absurd (cc)
put_case place false mid old none is = ap (λ l. l ++ place ∷ []) (is ∙ append-nil old)

or_false : (b : Bool) → (b || false) ≡ b
or_false true = refl
or_false false = refl

put_within : (place i m : ℕ) (ms : List ℕ) (old mid new : List (List ℕ)) → IsStrictlyIncreasing ms → i < length ms → m ≡ get_or ms i 0 → m < length mid
    → IsPutAt place (take i ms) old mid → new ≡ set mid m (get_or mid m [] ++ place ∷ []) → IsPutAt place (take (i + 1) ms) old new
put_within place i m ms old mid new up within is in_range so_far next = record {
  same_length = ap length next ∙ length-set mid m _ ∙ so_far.same_length;
  each = λ n below.
      elim (eqb m n) as (λ b. eqb m n ≡ b → get_or new n [] ≡ get_or old n [] ++ cond (has (take (i + 1) ms) n) (place ∷ []) []) [
        | true ↦ λ same.
            let equal : m ≡ n = eqb-true m n same in
            let at : get_or new m [] ≡ get_or mid m [] ++ place ∷ [] = ap (λ l. get_or l m []) next ∙ get_or-set_same mid m _ [] in_range in
            let none : has (take i ms) m ≡ false = subst (λ x. has (take i ms) x ≡ false) (sym is) (fresh ms i up within) in
            let old_in : m < length old = omega (arith, so_far.same_length) in
            let more : has (take (i + 1) ms) m ≡ (has (take i ms) m || true) =
            has_more ms i m within ∙ ap (λ b. has (take i ms) m || b) (eq-eqb (get_or ms i 0) m (sym is)) in
            subst (λ x. get_or new x [] ≡ get_or old x [] ++ cond (has (take (i + 1) ms) x) (place ∷ []) []) equal
            (at ∙ put_case place (has (take i ms) m) (get_or mid m []) (get_or old m []) none (so_far.each m old_in)
            ∙ ap (λ b. get_or old m [] ++ cond b (place ∷ []) []) (sym more))
        | false ↦ λ apart.
            let differ : n ≡ m → ⊥ = λ e. eqb-false m n apart (sym e) in
            let at : get_or new n [] ≡ get_or mid n [] = ap (λ l. get_or l n []) next ∙ get_or-set_other mid m n _ [] differ in
            let more : has (take (i + 1) ms) n ≡ has (take i ms) n =
            has_more ms i n within ∙ ap (λ x. has (take i ms) n || eqb x n) (sym is) ∙ ap (λ b. has (take i ms) n || b) apart ∙ or_false (has (take i ms) n) in
            at ∙ so_far.each n below ∙ ap (λ b. get_or old n [] ++ cond b (place ∷ []) []) (sym more)
      ] refl;
}

put_past : (place i m : ℕ) (ms : List ℕ) (old mid : List (List ℕ)) → i < length ms → m ≡ get_or ms i 0 → length mid ≤ m
    → IsPutAt place (take i ms) old mid → IsPutAt place (take (i + 1) ms) old mid
put_past place i m ms old mid within is past so_far = record {
  same_length = so_far.same_length;
  each = λ n below.
      let differ : eqb m n ≡ false = ne_eqb m n (λ e. omega (arith, so_far.same_length)) in
      let more : has (take (i + 1) ms) n ≡ has (take i ms) n =
      has_more ms i n within ∙ ap (λ x. has (take i ms) n || eqb x n) (sym is) ∙ ap (λ b. has (take i ms) n || b) differ ∙ or_false (has (take i ms) n) in
      so_far.each n below ∙ ap (λ b. get_or old n [] ++ cond b (place ∷ []) []) (sym more);
}

-- one number more
pub put_more : (place i m : ℕ) (ms : List ℕ) (old mid new : List (List ℕ)) → IsStrictlyIncreasing ms → i < length ms → m ≡ get_or ms i 0
    → IsPutAt place (take i ms) old mid → new ≡ set mid m (get_or mid m [] ++ place ∷ []) → IsPutAt place (take (i + 1) ms) old new
put_more place i m ms old mid new up within is so_far next =
    elim (ltb m (length mid)) as (λ b. ltb m (length mid) ≡ b → IsPutAt place (take (i + 1) ms) old new) [
      | true ↦ λ less. put_within place i m ms old mid new up within is (ltb-true m (length mid) less) so_far next
      | false ↦ λ more.
          let past : length mid ≤ m = ltb-false m (length mid) more in
          subst (IsPutAt place (take (i + 1) ms) old) (sym (next ∙ set_past mid m _ past)) (put_past place i m ms old mid within is past so_far)
    ] refl

pub put_none : (place : ℕ) (all : List (List ℕ)) → IsPutAt place [] all all
put_none place all = record { same_length = refl; each = λ n below. sym (append-nil (get_or all n [])) }

pub put_begun : (place : ℕ) (ms : List ℕ) (all : List (List ℕ)) → IsPutAt place (take 0 ms) all all
put_begun place ms all = put_none place all

push_default : {A : Type 0} (xs : List A) (n : ℕ) (d : A) → get_or (xs ++ d ∷ []) n d ≡ get_or xs n d
push_default [] zero d = refl
push_default [] (suc n) d = refl
push_default (x ∷ xs) zero d = refl
push_default (x ∷ xs) (suc n) d = push_default xs n d

-- one more empty list
pub empty_more : (count : ℕ) (all : List (List ℕ)) → AreHolders [] [] count all → AreHolders [] [] (count + 1) (all ++ [] ∷ [])
empty_more count all so_far = record {
  same_length = omega (arith, so_far.same_length, length-append all ([] ∷ []));
  each = λ n below.
      push_default all n []
      ∙ elim (ltb n (length all)) as (λ b. ltb n (length all) ≡ b → get_or all n [] ≡ []) [
        | true ↦ λ less. let inside : n < length all = ltb-true n (length all) less in so_far.each n (omega (arith, so_far.same_length))
        | false ↦ λ more. get_or_past all n [] (ltb-false n (length all) more)
      ] refl;
}

holders_more : (lists : List (List ℕ)) (order : List ℕ) (i n : ℕ) → i < length order
    → holders lists (take (i + 1) order) n ≡ holders lists (take i order) n ++ cond (has_at lists n (get_or order i 0)) (get_or order i 0 ∷ []) []
holders_more lists order i n within =
    ap (filter (has_at lists n)) (take_more order i 0 within) ∙ filter-append (has_at lists n) (take i order) (get_or order i 0 ∷ [])

has_there : (lists : List (List ℕ)) (n place : ℕ) → has_at lists n place ≡ has (get_or lists place []) n
has_there [] n place = refl
has_there (list ∷ lists) n zero = refl
has_there (list ∷ lists) n (suc place) = has_there lists n place

-- one place more
pub hold_more : (lists : List (List ℕ)) (order : List ℕ) (i place count : ℕ) (mid new : List (List ℕ)) → i < length order → place ≡ get_or order i 0
    → AreHolders lists (take i order) count mid → IsPutAt place (get_or lists place []) mid new → AreHolders lists (take (i + 1) order) count new
hold_more lists order i place count mid new within is so_far put = record {
  same_length = put.same_length ∙ so_far.same_length;
  each = λ n below.
      let inside : n < length mid = omega (arith, so_far.same_length) in
      let more = holders_more lists order i n within in
      put.each n inside ∙ ap (λ l. l ++ cond (has (get_or lists place []) n) (place ∷ []) []) (so_far.each n below)
      ∙ ap (λ b. holders lists (take i order) n ++ cond b (place ∷ []) []) (sym (has_there lists n place))
      ∙ ap (λ p. holders lists (take i order) n ++ cond (has_at lists n p) (p ∷ []) []) is
      ∙ sym more;
}

-- empty lists hold as many as no order has
pub hold_begun : (lists : List (List ℕ)) (order : List ℕ) (count : ℕ) (all : List (List ℕ)) → AreHolders [] [] count all
    → AreHolders lists (take 0 order) count all
hold_begun lists order count all empty = record { same_length = empty.same_length; each = empty.each }

-- a place whose list has a number is one of the lists'
in_lists : (lists : List (List ℕ)) (n x : ℕ) → has_at lists n x ≡ true → x < length lists
in_lists lists n x there =
    elim (ltb x (length lists)) as (λ b. ltb x (length lists) ≡ b → x < length lists) [
      | true ↦ λ less. ltb-true x (length lists) less
      | false ↦ λ more.
          let none : has_at lists n x ≡ false =
          ap (λ o. option_map_or (λ numbers. has numbers n) o false) (slice_get_past lists x (ltb-false x (length lists) more)) in
          absurd (true≢false (sym there ∙ none))
    ] refl

pub holders_below : (lists : List (List ℕ)) (order : List ℕ) (n : ℕ) → AreBelow (length lists) (holders lists order n)
holders_below lists order n =
    record { each = λ k d within. in_lists lists n (get_or (holders lists order n) k d) (filter_passes (has_at lists n) order k d within) }
