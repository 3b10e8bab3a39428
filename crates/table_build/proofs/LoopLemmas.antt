-- Steps of loops that gather what is found of the members of a list.
use Rattle.std.proofs.Common.{◌≡◌, ◌∙◌, ℕ, ◌+◌, ◌<◌, Bool, true, false, cond, List, [], ◌∷◌, ◌++◌, Option, Some, None, length, take, drop, get_or, sym, ap}
use Rattle.std.proofs.Common.{Ordering, append_assoc, append-nil}
use Rattle.std.specs.BTreeMap.{insert_entry}
use Rattle.std.specs.List.{filter, filter_map, cons_option}
use Rattle.std.proofs.lemmas.List.{drop_more}
use Rattle.std.proofs.lemmas.List.Elements.{filter_more}
use Rattle.table_build.specs.Ordered.{put_all}

left-at : {A : Type 0} (xs : List A) (i : ℕ) (a : A) → i < length xs → a ≡ get_or xs i a → drop i xs ≡ a ∷ drop (i + 1) xs
left-at xs i a within at = drop_more xs i a within ∙ ap (λ y. y ∷ drop (i + 1) xs) (sym at)

-- ---- those that pass

module _ {A : Type 0} (p : A → Bool) (xs : List A) (i : ℕ) (a : A) (within : i < length xs) (at : a ≡ get_or xs i a) where
  passed-by : (b : Bool) → p a ≡ b → filter p (take i xs) ++ cond b (a ∷ []) [] ≡ filter p (take (i + 1) xs)
  passed-by b is =
      ap (λ c. filter p (take i xs) ++ cond c (a ∷ []) []) (sym is)
      ∙ sym (filter_more p xs i a within ∙ ap (λ y. filter p (take i xs) ++ cond (p y) (y ∷ []) []) (sym at))

  pub passed-more : (old new : List A) → p a ≡ true → new ≡ old ++ a ∷ [] → old ≡ filter p (take i xs) → new ≡ filter p (take (i + 1) xs)
  passed-more old new passes put before = put ∙ ap (λ l. l ++ a ∷ []) before ∙ passed-by true passes

  pub passed-no-more : (old : List A) → p a ≡ false → old ≡ filter p (take i xs) → old ≡ filter p (take (i + 1) xs)
  passed-no-more old out before = before ∙ sym (append-nil (filter p (take i xs))) ∙ passed-by false out

-- ---- what is found of each is put by its key

module _ {A K X : Type 0} (cmp : K → K → Ordering) (key : X → K) (find : A → Option X) (xs : List A) (i : ℕ) (a : A) (within : i < length xs)
    (at : a ≡ get_or xs i a) where
  put-by : (o : Option X) (old whole : List (K × X)) → find a ≡ o → whole ≡ put_all cmp key old (filter_map find (drop i xs))
      → whole ≡ put_all cmp key old (cons_option o (filter_map find (drop (i + 1) xs)))
  put-by o old whole is before =
      before
      ∙ ap (λ l. put_all cmp key old (filter_map find l)) (left-at xs i a within at)
      ∙ ap (λ p. put_all cmp key old (cons_option p (filter_map find (drop (i + 1) xs)))) is

  pub put-more : (x : X) (old new whole : List (K × X)) → find a ≡ Some x → new ≡ insert_entry cmp old (key x) x
      → whole ≡ put_all cmp key old (filter_map find (drop i xs)) → whole ≡ put_all cmp key new (filter_map find (drop (i + 1) xs))
  put-more x old new whole is put before =
      put-by (Some x) old whole is before ∙ ap (λ es. put_all cmp key es (filter_map find (drop (i + 1) xs))) (sym put)

  pub put-no-more : (old new whole : List (K × X)) → find a ≡ None → new ≡ old → whole ≡ put_all cmp key old (filter_map find (drop i xs))
      → whole ≡ put_all cmp key new (filter_map find (drop (i + 1) xs))
  put-no-more old new whole is same before =
      put-by None old whole is before ∙ ap (λ es. put_all cmp key es (filter_map find (drop (i + 1) xs))) (sym same)

-- ---- what is found of each is listed

module _ {A X : Type 0} (find : A → Option X) (xs : List A) (i : ℕ) (a : A) (within : i < length xs) (at : a ≡ get_or xs i a) where
  pub listed-more : (x : X) (old new whole : List X) → find a ≡ Some x → new ≡ old ++ x ∷ [] → whole ≡ old ++ filter_map find (drop i xs)
      → whole ≡ new ++ filter_map find (drop (i + 1) xs)
  listed-more x old new whole is put before =
      let rest = filter_map find (drop (i + 1) xs) in
      before
      ∙ ap (λ l. old ++ filter_map find l) (left-at xs i a within at)
      ∙ ap (λ o. old ++ cons_option o rest) is
      ∙ sym (append_assoc old (x ∷ []) rest)
      ∙ ap (λ l. l ++ rest) (sym put)

  pub listed-no-more : (old new whole : List X) → find a ≡ None → new ≡ old → whole ≡ old ++ filter_map find (drop i xs)
      → whole ≡ new ++ filter_map find (drop (i + 1) xs)
  listed-no-more old new whole is same before =
      let rest = filter_map find (drop (i + 1) xs) in
      before
      ∙ ap (λ l. old ++ filter_map find l) (left-at xs i a within at)
      ∙ ap (λ o. old ++ cons_option o rest) is
      ∙ ap (λ l. l ++ rest) (sym same)
