-- From which tables a latest part leads on.
use Rattle.std.proofs.Common.{◌≡◌, ◌∙◌, ℕ, ◌≤◌, ◌-◌, List, [], ◌∷◌, ◌++◌, length, map, take, drop, sym, ap, refl, arith}
use Rattle.std.proofs.lemmas.List.{append_assoc, drop-append-le, drop-map, length-drop, length-take-le, take_all, take-append-drop}
use Rattle.dh_changes.specs.declared.change.Change.{Change}
use Rattle.table_build.specs.Log.{writes_of}

writes-append : (xs ys : List Change) → writes_of (xs ++ ys) ≡ writes_of xs ++ writes_of ys
writes-append [] ys = refl
writes-append (x ∷ xs) ys = ap (λ l. x.writes ++ l) (writes-append xs ys) ∙ sym (append_assoc x.writes (writes_of xs) (writes_of ys))

-- the writes of all changes are those of the first and of the others
pub writes-split : (n : ℕ) (changes : List Change) → writes_of changes ≡ writes_of (take n changes) ++ writes_of (drop n changes)
writes-split n changes = ap writes_of (sym (take-append-drop n changes)) ∙ writes-append (take n changes) (drop n changes)

-- those of the last are some of the first and the others
writes-rest : (from n : ℕ) (changes : List Change) → from ≤ n → n ≤ length changes
    → writes_of (drop from changes) ≡ writes_of (drop from (take n changes)) ++ writes_of (drop n changes)
writes-rest from n changes below within =
    let whole = length-take-le n changes within in
    ap (λ l. writes_of (drop from l)) (sym (take-append-drop n changes))
    ∙ ap writes_of (drop-append-le from (take n changes) (drop n changes) (omega (arith, below, whole)))
    ∙ writes-append (drop from (take n changes)) (drop n changes)

-- those from a place on, as a slice has them
abbrev pub last : {A : Type 0} → ℕ → List A → List A
last from changes = take (length changes - from) (drop from changes)

pub last-writes : {A : Type 0} (of : A → Change) (from : ℕ) (changes : List A)
    → writes_of (map of (last from changes)) ≡ writes_of (drop from (map of changes))
last-writes of from changes =
    let left = length-drop from changes in
    ap (λ l. writes_of (map of l)) (take_all (length changes - from) (drop from changes) (omega (arith, left)))
    ∙ ap writes_of (sym (drop-map of from changes))

pub writes-last : {A : Type 0} (of : A → Change) (from n : ℕ) (changes : List A) → from ≤ n → n ≤ length (map of changes)
    → writes_of (map of (last from changes))
    ≡ writes_of (drop from (take n (map of changes))) ++ writes_of (drop n (map of changes))
writes-last of from n changes below within = last-writes of from changes ∙ writes-rest from n (map of changes) below within

-- the writes of all changes are those of the base and of the last
pub writes-cut : {A : Type 0} (of : A → Change) (from cut : ℕ) (changes : List A) → from ≡ cut
    → writes_of (map of changes) ≡ writes_of (take cut (map of changes)) ++ writes_of (map of (last from changes))
writes-cut of from cut changes is =
    writes-split cut (map of changes)
    ∙ ap (λ w. writes_of (take cut (map of changes)) ++ w) (sym (last-writes of from changes ∙ ap (λ n. writes_of (drop n (map of changes))) is))
