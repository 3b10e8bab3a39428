-- Identifiers that hang on another, found among those noted under it.
use Rattle.std.proofs.Common.{◌≡◌, ◌∙◌, ◌+◌, ◌<◌, ℕ, Bool, true, false, cond, List, [], ◌∷◌, ◌++◌, ◌||◌, Option, Some, None, length, take, get_or, refl, sym}
use Rattle.std.proofs.Common.{◌≤◌, ap}
use Rattle.std.proofs.lemmas.List.{take_more, take_all}
use Rattle.std.specs.List.{filter, list_any, dedup, dedup_from}
use Rattle.std.specs.HashMap.{HashMap}
use Rattle.std.specs.Cmp.Lexicographic.{same_text}
use Rattle.dh_changes.specs.Said.{same_id}
use Rattle.dh_changes.specs.Maps.{is_noted}
use Rattle.dh_changes.specs.Index.{is_linked}
use Rattle.dh_changes.specs.Hanging.{hangs_on}

filter-end : {X : Type 0} (p : X → Bool) (xs : List X) (x : X) → filter p (xs ++ x ∷ []) ≡ filter p xs ++ cond (p x) (x ∷ []) []
filter-end p [] x = refl
filter-end p (y ∷ xs) x =
    elim (p y) as (λ b. cond b (y ∷ filter p (xs ++ x ∷ [])) (filter p (xs ++ x ∷ [])) ≡ cond b (y ∷ filter p xs) (filter p xs) ++ cond (p x) (x ∷ []) [])
    [ true ↦ ap (λ l. y ∷ l) (filter-end p xs x) | false ↦ filter-end p xs x ]

-- one item more is looked at
pub filter-more : {X : Type 0} (p : X → Bool) (xs found more : List X) (i : ℕ) (x : X) (b : Bool) → i < length xs → x ≡ get_or xs i x
    → found ≡ filter p (take i xs) → b ≡ p x → more ≡ found ++ cond b (x ∷ []) [] → more ≡ filter p (take (i + 1) xs)
filter-more p xs found more i x b within is so_far keep next =
    next ∙ ap (λ l. l ++ cond b (x ∷ []) []) so_far ∙ ap (λ t. filter p (take i xs) ++ cond t (x ∷ []) []) keep ∙ sym (filter-end p (take i xs) x)
    ∙ ap (filter p) (sym (take_more xs i x within ∙ ap (λ y. take i xs ++ y ∷ []) (sym is)))

-- all items were looked at
pub filter-all : {X : Type 0} (p : X → Bool) (xs found : List X) (i : ℕ) → length xs ≤ i → found ≡ filter p (take i xs) → found ≡ filter p xs
filter-all p xs found i all so_far = so_far ∙ ap (filter p) (take_all i xs all)

either-again : (a r : Bool) → (a || r) ≡ (a || (a || r))
either-again true r = refl
either-again false r = refl

any-dedup_from : (id : List ℕ) (y : List ℕ) (xs : List (List ℕ))
    → list_any (λ other. same_id id other) (dedup_from same_id y xs) ≡ (same_id id y || list_any (λ other. same_id id other) xs)
any-dedup_from id y [] = refl
any-dedup_from id y (x ∷ xs) =
    elim (same_id x y) as (λ b. same_id x y ≡ b
    → list_any (λ other. same_id id other) (cond b (dedup_from same_id y xs) (y ∷ dedup_from same_id x xs))
    ≡ (same_id id y || (same_id id x || list_any (λ other. same_id id other) xs))) [
      | true ↦ λ same.
          let equal : x ≡ y = same_text x y (sym same) in
          any-dedup_from id y xs ∙ either-again (same_id id y) _
          ∙ ap (λ z. same_id id y || (same_id id z || list_any (λ other. same_id id other) xs)) (sym equal)
      | false ↦ λ apart. ap (λ r. same_id id y || r) (any-dedup_from id x xs)
    ] refl

-- the list without repeats has the same identifiers
pub any-dedup : (id : List ℕ) (xs : List (List ℕ)) → list_any (λ other. same_id id other) (dedup same_id xs) ≡ list_any (λ other. same_id id other) xs
any-dedup id [] = refl
any-dedup id (x ∷ xs) = any-dedup_from id x xs

-- an identifier is among those that pass the test where it passes and is in the list
pub any-filter : (test : List ℕ → Bool) (id : List ℕ) (xs : List (List ℕ))
    → list_any (λ other. same_id id other) (filter test xs) ≡ cond (test id) (list_any (λ other. same_id id other) xs) false
any-filter test id [] = elim (test id) as (λ b. false ≡ cond b false false) [ true ↦ refl | false ↦ refl ]
any-filter test id (x ∷ xs) =
    elim (same_id id x) as (λ b. same_id id x ≡ b
    → list_any (λ other. same_id id other) (cond (test x) (x ∷ filter test xs) (filter test xs))
    ≡ cond (test id) (b || list_any (λ other. same_id id other) xs) false) [
      | true ↦ λ same.
          let equal : id ≡ x = same_text id x (sym same) in
          ap (λ t. list_any (λ other. same_id id other) (cond t (x ∷ filter test xs) (filter test xs))) (sym (ap test equal))
          ∙ elim (test id) as (λ t. test id ≡ t
          → list_any (λ other. same_id id other) (cond t (x ∷ filter test xs) (filter test xs)) ≡ cond t true false) [
            | true ↦ λ passes. ap (λ b. b || list_any (λ other. same_id id other) (filter test xs)) same
            | false ↦ λ fails. any-filter test id xs ∙ ap (λ t. cond t (list_any (λ other. same_id id other) xs) false) fails
          ] refl
      | false ↦ λ apart.
          elim (test x) as (λ t. list_any (λ other. same_id id other) (cond t (x ∷ filter test xs) (filter test xs))
          ≡ cond (test id) (list_any (λ other. same_id id other) xs) false) [
            | true ↦ ap (λ b. b || list_any (λ other. same_id id other) (filter test xs)) apart ∙ any-filter test id xs
            | false ↦ any-filter test id xs
          ]
    ] refl

-- what hangs on another is noted under it
pub noted-from_linked : {S : Type 0} (children : HashMap (List ℕ) (List (List ℕ)) S) (parent : Option (List ℕ)) (asked id : List ℕ)
    → is_linked children parent id ≡ true → hangs_on parent asked ≡ true → is_noted children asked id ≡ true
noted-from_linked children None asked id linked hangs = absurd (cc)
noted-from_linked children (Some parent) asked id linked hangs =
    let equal : parent ≡ asked = same_text parent asked (sym hangs) in
    ap (λ p. is_noted children p id) (sym equal) ∙ linked
