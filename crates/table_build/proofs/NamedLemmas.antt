-- What the writes of changes name, change by change.
use Rattle.std.proofs.Common.{◌≡◌, ◌∙◌, ℕ, ◌+◌, ◌-◌, ◌<◌, List, [], ◌∷◌, ◌++◌, Option, Some, None, length, take, drop, get_or, map, refl, sym, ap, add-one, drop-cons, le_refl}
use Rattle.std.specs.List.{filter_map, cons_option}
use Rattle.std.specs.Option.{option_to_list}
use Rattle.std.proofs.lemmas.List.{append_assoc, append-nil, map-append, take_more, take_all, length-drop}
use Rattle.std.proofs.lemmas.List.Elements.{filter_map-append}
use Rattle.dh_changes.specs.declared.change.Change.{Change}
use Rattle.dh_changes.specs.declared.change.Write.{Write}
use Rattle.table_build.specs.Log.{writes_of}

found-first : {K : Type 0} (o : Option K) (rest : List K) → option_to_list o ++ rest ≡ cons_option o rest
found-first None rest = refl
found-first (Some x) rest = refl

-- a member more of a list of which those are gathered that something is found of
pub found-step : {X K : Type 0} (find : X → Option K) (xs : List X) (i : ℕ) (x : X) (o : Option K) (all old new : List K) → i < length xs → x ≡ get_or xs i x
    → o ≡ find x → new ≡ old ++ option_to_list o → all ≡ old ++ filter_map find (drop i xs)
    → all ≡ new ++ filter_map find (drop (i + 1) xs)
found-step find xs i x o all old new within is found put so_far =
    let rest = filter_map find (drop (i + 1) xs) in
    let here : drop i xs ≡ get_or xs i x ∷ drop (i + 1) xs = rw add-one (drop-cons xs i x within) in
    so_far
    ∙ ap (λ l. old ++ filter_map find l) here
    ∙ ap (λ y. old ++ cons_option (find y) rest) (sym is)
    ∙ ap (λ p. old ++ cons_option p rest) (sym found)
    ∙ ap (λ l. old ++ l) (sym (found-first o rest))
    ∙ sym (append_assoc old (option_to_list o) rest)
    ∙ ap (λ l. l ++ rest) (sym put)

-- a member more of a list of which those are gathered that something is found of, beside what comes after each
pub left-step : {X K : Type 0} (find : X → List X → Option K) (left : List X → List K) (first : (x : X) (xs : List X) → left (x ∷ xs) ≡ cons_option (find x xs) (left xs))
    (xs : List X) (i : ℕ) (x : X) (o : Option K) (all old new : List K) → i < length xs → x ≡ get_or xs i x
    → o ≡ find x (take (length xs - (i + 1)) (drop (i + 1) xs)) → new ≡ old ++ option_to_list o → all ≡ old ++ left (drop i xs)
    → all ≡ new ++ left (drop (i + 1) xs)
left-step find left first xs i x o all old new within is found put so_far =
    let later = drop (i + 1) xs in
    let here : drop i xs ≡ get_or xs i x ∷ later = rw add-one (drop-cons xs i x within) in
    let rest : take (length xs - (i + 1)) later ≡ later = ap (λ n. take n later) (sym (length-drop (i + 1) xs)) ∙ take_all (length later) later (le_refl (length later)) in
    so_far
    ∙ ap (λ l. old ++ left l) (here ∙ ap (λ y. y ∷ later) (sym is))
    ∙ ap (λ l. old ++ l) (first x later ∙ ap (λ p. cons_option p (left later)) (sym (found ∙ ap (find x) rest)) ∙ sym (found-first o (left later)))
    ∙ sym (append_assoc old (option_to_list o) (left later))
    ∙ ap (λ l. l ++ left later) (sym put)

module _ {A K : Type 0} (of : A → Change) (named : Write → Option K) where
  pub named-step : (changes : List A) (i : ℕ) (a : A) (change : Change) (all old new : List K) → i < length changes → a ≡ get_or changes i a → change ≡ of a
      → all ≡ old ++ filter_map named (writes_of (map of (drop i changes)))
      → new ≡ old ++ filter_map named change.writes
      → all ≡ new ++ filter_map named (writes_of (map of (drop (i + 1) changes)))
  named-step changes i a change all old new within is seen so_far next =
      let rest : List Write = writes_of (map of (drop (i + 1) changes)) in
      let here : drop i changes ≡ get_or changes i a ∷ drop (i + 1) changes = rw add-one (drop-cons changes i a within) in
      so_far
      ∙ ap (λ l. old ++ filter_map named (writes_of (map of l))) here
      ∙ ap (λ x. old ++ filter_map named ((of x).writes ++ rest)) (sym is)
      ∙ ap (λ x. old ++ filter_map named (x.writes ++ rest)) (sym seen)
      ∙ ap (λ l. old ++ l) (filter_map-append named change.writes rest)
      ∙ sym (append_assoc old (filter_map named change.writes) (filter_map named rest))
      ∙ ap (λ l. l ++ filter_map named rest) (sym next)

writes_of-append : (xs ys : List Change) → writes_of (xs ++ ys) ≡ writes_of xs ++ writes_of ys
writes_of-append [] ys = refl
writes_of-append (x ∷ xs) ys = ap (λ l. x.writes ++ l) (writes_of-append xs ys) ∙ sym (append_assoc x.writes (writes_of xs) (writes_of ys))

-- the writes of one change more
pub taken-step : {A : Type 0} (of : A → Change) (changes : List A) (i : ℕ) (a : A) (change : Change) → i < length changes → a ≡ get_or changes i a
    → change ≡ of a
    → writes_of (map of (take i changes)) ++ change.writes ≡ writes_of (map of (take (i + 1) changes))
taken-step of changes i a change within is seen =
    let before : List Change = map of (take i changes) in
    ap (λ x. writes_of before ++ x.writes) (seen ∙ ap of is)
    ∙ ap (λ l. writes_of before ++ l) (sym (append-nil (of (get_or changes i a)).writes))
    ∙ sym (writes_of-append before (of (get_or changes i a) ∷ []))
    ∙ ap writes_of (sym (map-append of (take i changes) (get_or changes i a ∷ [])))
    ∙ ap (λ l. writes_of (map of l)) (sym (take_more changes i a within))
