-- References that are known are the numbers of objects.
use Rattle.std.proofs.Common.{◌≡◌, ◌∙◌, ℕ, zero, suc, ◌+◌, ◌<◌, Bool, true, false, cond, List, [], ◌∷◌, ◌++◌, length, map, Option, Some, None, is_some}
use Rattle.std.proofs.Common.{option_map, refl, sym, ap, subst, arith}
use Rattle.std.specs.Prelude.{slice_get, slice_index_or}
use Rattle.std.specs.Fmt.{decimal}
use Rattle.std.specs.Option.{unwrap_or}
use Rattle.std.specs.List.{flat_map}
use Rattle.dh_metadata.specs.Places.{place_of}
use Rattle.dh_metadata.proofs.DistinctLemmas.{place_of-below}
use Rattle.dh_sharing.specs.declared.access.Access.{Access}
use Rattle.dh_metadata.specs.declared.kind.Kind.{Kind}
use Rattle.dh_metadata.specs.declared.kind.Kind.TheVariants as kind
use Rattle.dh_metadata.specs.declared.raw.RawSharing.{RawSharing}
use Rattle.dh_metadata.specs.Ids.{ids_at}
use Rattle.meta_links.specs.Reference.{Reference, is_known, first_unknown, one, optional, each, several, several_in, number_of, step, field_path}
use Rattle.meta_links.specs.Table.{entries, sharing_references, set_elements}
use Rattle.meta_links.specs.Held.{numbers_of, shared_with, sharing_held}
use Rattle.dh_metadata.specs.Linked.{AreBelow, IsBelow, Each}

abbrev pub Ids : Type 0
Ids = List (List (List ℕ))

abbrev pub Known : Ids → List Reference → Type 0
Known ids references = first_unknown ids references ≡ None

known_first : (ids : Ids) (reference : Reference) (rest : List Reference) → Known ids (reference ∷ rest) → (is_known ids reference ≡ true) × Known ids rest
unfolding first_unknown
known_first ids reference rest known =
    elim (is_known ids reference) as (λ b. cond b (first_unknown ids rest) (Some (reference.uid, reference.path)) ≡ None → (b ≡ true) × Known ids rest)
    [ true ↦ λ is. (refl, is) | false ↦ λ is. absurd (cc) ] known

known_more : (ids : Ids) (reference : Reference) (rest : List Reference) → is_known ids reference ≡ true → Known ids rest → Known ids (reference ∷ rest)
unfolding first_unknown
known_more ids reference rest is known = ap (λ b. cond b (first_unknown ids rest) (Some (reference.uid, reference.path))) is ∙ known

known_none : (ids : Ids) → Known ids []
unfolding first_unknown
known_none ids = refl

-- where references are known, those of the front and those of the rest are
pub known_parts : (ids : Ids) (front rest : List Reference) → Known ids (front ++ rest) → Known ids front × Known ids rest
known_parts ids [] rest known = (known_none ids, known)
known_parts ids (reference ∷ front) rest known =
    let here = known_first ids reference (front ++ rest) known in
    let beyond = known_parts ids front rest here.1 in
    (known_more ids reference front here.0 beyond.0, beyond.1)

found_below : (ids : List (List ℕ)) (uid : List ℕ) (o : Option ℕ) → place_of ids uid ≡ o → is_some o ≡ true → unwrap_or o 0 < length ids
found_below ids uid None at is = absurd (cc)
found_below ids uid (Some place) at is = place_of-below ids uid place at

-- the number of a known reference is below the number of identifiers of its kind
pub one_below : (ids : Ids) (path : List ℕ) (of_kind : Kind) (uid : List ℕ) → Known ids (one path of_kind uid)
    → number_of ids of_kind uid < length (ids_at ids of_kind)
unfolding one number_of
one_below ids path of_kind uid known =
    found_below (ids_at ids of_kind) uid (place_of (ids_at ids of_kind) uid) refl
    (known_first ids (record { kind = of_kind; uid = uid; path = path }) [] known).0

pub optional_below : (ids : Ids) (path : List ℕ) (of_kind : Kind) (uid : Option (List ℕ)) → Known ids (optional path of_kind uid)
    → IsBelow (length (ids_at ids of_kind)) (option_map (number_of ids of_kind) uid)
unfolding optional
optional_below ids path of_kind None known = tt
optional_below ids path of_kind (Some uid) known = one_below ids path of_kind uid known

at_place : (end n : ℕ) (ns : List ℕ) → n < end → AreBelow end ns → (k d : ℕ) → k < length (n ∷ ns) → slice_index_or (n ∷ ns) k d < end
at_place end n ns first rest zero d within = first
at_place end n ns first rest (suc k) d within = rest.each k d (omega arith)

cons_below : (end n : ℕ) (ns : List ℕ) → n < end → AreBelow end ns → AreBelow end (n ∷ ns)
cons_below end n ns first rest = record { each = at_place end n ns first rest }

pub none_below : (end : ℕ) → AreBelow end []
none_below end = record { each = λ k d within. absurd (omega arith) }

-- the numbers that each of some entries has
pub each_below : {X : Type 0} (ids : Ids) (end : ℕ) (has : ℕ → X → List Reference) (number : X → ℕ) (place : ℕ) (xs : List X)
    → ((at : ℕ) (x : X) → Known ids (has at x) → number x < end) → Known ids (each has place xs) → AreBelow end (map number xs)
each_below ids end has number place [] below known = none_below end
each_below ids end has number place (x ∷ xs) below known =
    let both = known_parts ids (has place x) (each has (place + 1) xs) known in
    cons_below end (number x) (map number xs) (below place x both.0) (each_below ids end has number (place + 1) xs below both.1)

pub several_below : (ids : Ids) (path : List ℕ) (of_kind : Kind) (uids : List (List ℕ)) → Known ids (several path of_kind uids)
    → AreBelow (length (ids_at ids of_kind)) (numbers_of ids of_kind uids)
unfolding several
several_below ids path of_kind uids known =
    each_below ids (length (ids_at ids of_kind)) (λ place uid. one (step path (decimal place)) of_kind uid) (number_of ids of_kind) 0 uids
    (λ at uid known_one. one_below ids (step path (decimal at)) of_kind uid known_one) known

pub several_in_below : (ids : Ids) (path name : List ℕ) (of_kind : Kind) (uids : List (List ℕ)) → Known ids (several_in path name of_kind uids)
    → AreBelow (length (ids_at ids of_kind)) (numbers_of ids of_kind uids)
unfolding several_in
several_in_below ids path name of_kind uids known =
    each_below ids (length (ids_at ids of_kind)) (λ place uid. one (step (step path (decimal place)) name) of_kind uid) (number_of ids of_kind) 0 uids
    (λ at uid known_one. one_below ids (step (step path (decimal at)) name) of_kind uid known_one) known

entries_from : (ids : Ids) (path : List ℕ) (of_kind : Kind) (shared : List (List ℕ × List ℕ × Access))
    → Known ids (flat_map (λ entry. one (step path entry.0) of_kind entry.1) shared)
    → AreBelow (length (ids_at ids of_kind)) (map (λ entry. entry.0) (shared_with ids of_kind shared))
entries_from ids path of_kind [] known = none_below (length (ids_at ids of_kind))
entries_from ids path of_kind (entry ∷ shared) known =
    let both = known_parts ids (one (step path entry.0) of_kind entry.1) (flat_map (λ e. one (step path e.0) of_kind e.1) shared) known in
    cons_below (length (ids_at ids of_kind)) (number_of ids of_kind entry.1) (map (λ e. e.0) (shared_with ids of_kind shared))
    (one_below ids (step path entry.0) of_kind entry.1 both.0) (entries_from ids path of_kind shared both.1)

-- the users or the groups that an object is shared with
pub entries_below : (ids : Ids) (path : List ℕ) (of_kind : Kind) (shared : List (List ℕ × List ℕ × Access)) → Known ids (entries path of_kind shared)
    → AreBelow (length (ids_at ids of_kind)) (map (λ entry. entry.0) (shared_with ids of_kind shared))
unfolding entries
entries_below ids path of_kind shared known = entries_from ids path of_kind shared known

pub none_each : {A : Type 0} (Holds : A → Type 0) → Each Holds []
none_each Holds n object at = absurd (cc)

pub cons_each : {A : Type 0} (Holds : A → Type 0) (x : A) (xs : List A) → Holds x → Each Holds xs → Each Holds (x ∷ xs)
cons_each Holds x xs first rest zero object at = let same : x ≡ object = cc in subst Holds same first
cons_each Holds x xs first rest (suc n) object at = rest n object at

-- what holds of each object whose references are known holds of all that are held
pub all_held : {A B : Type 0} (ids : Ids) (has : A → List Reference) (held : A → B) (Holds : B → Type 0) (xs : List A)
    → ((x : A) → Known ids (has x) → Holds (held x)) → Known ids (flat_map has xs) → Each Holds (map held xs)
all_held ids has held Holds [] holds known = none_each Holds
all_held ids has held Holds (x ∷ xs) holds known =
    let both = known_parts ids (has x) (flat_map has xs) known in
    cons_each Holds (held x) (map held xs) (holds x both.0) (all_held ids has held Holds xs holds both.1)

-- of a list of lists of references
pub known_at : {K : Type 0} (ids : Ids) (has : K → List Reference) (ks : List K) (n : ℕ) (k : K) → Known ids (flat_map has ks) → slice_get ks n ≡ Some k
    → Known ids (has k)
known_at ids has [] n k known at = absurd (cc)
known_at {K = K} ids has (other ∷ ks) zero k known at =
    let same : other ≡ k = cc in
    subst (λ (x : K). Known ids (has x)) same (known_parts ids (has other) (flat_map has ks) known).0
known_at ids has (other ∷ ks) (suc n) k known at = known_at ids has ks n k (known_parts ids (has other) (flat_map has ks) known).1 at
