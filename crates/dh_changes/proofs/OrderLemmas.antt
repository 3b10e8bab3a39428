-- Identifiers in ascending order are told by which they are.
use Rattle.std.proofs.Common.{◌≡◌, ◌∙◌, ℕ, Bool, true, false, cond, List, [], ◌∷◌, ◌&&◌, ◌||◌, T, Option, Some, None, refl, sym, ap, subst, map}
use Rattle.std.specs.Option.{unwrap_or, is_some, option_or, option_to_list}
use Rattle.std.specs.List.{filter, list_any, AllByRecursion}
use Rattle.std.specs.List.Sorted.{IsStrictlySortedBy}
use Rattle.std.specs.Map.{lookup, keys_of}
use Rattle.std.specs.FinMap as finite
use Rattle.std.specs.FinMap.Entries.{below_all}
use Rattle.std.specs.Cmp.Lexicographic.{slice_cmp, texts_ties, nat_list_cmp_total}
use Rattle.std.specs.Ordering.{nat_cmp, is_lt}
use Rattle.std.specs.declared.cmp.Ordering.{Ordering}
use Rattle.std.specs.declared.cmp.Ordering.TheVariants.{Less}
use Rattle.std.proofs.lemmas.Map.Made.{is_some-lookup}
use Rattle.std.proofs.lemmas.List.Folds.{list_any-append}
use Rattle.dh_changes.specs.declared.said.Said.{Said}
use Rattle.dh_changes.specs.Said.{same_id, last_said}
use Rattle.dh_changes.specs.Facts.{all_named}
use Rattle.dh_changes.specs.Hanging.{hangs_on, in_order, marked, hanging}
use Rattle.dh_changes.proofs.HangingLemmas.{any-filter}

abbrev by_bytes : List ℕ → List ℕ → Ordering
by_bytes = slice_cmp nat_cmp

keys-marked : (ids : List (List ℕ)) → map (λ e. e.0) (marked ids) ≡ ids
keys-marked [] = refl
keys-marked (x ∷ xs) = ap (λ l. x ∷ l) (keys-marked xs)

both : (a b : Bool) → T a → T b → T (a && b)
both true b p q = q
both false b p q = p

below-list : (x : List ℕ) (ids : List (List ℕ)) → AllByRecursion (λ y. by_bytes x y ≡ Less) ids → T (below_all by_bytes x (marked ids))
below-list x [] above = tt
below-list x (y ∷ ys) above = both _ _ (subst (λ r. T (is_lt r)) (sym above.0) tt) (below-list x ys above.1)

below-marked : (x : List ℕ) (ids : List (List ℕ)) → AllByRecursion (λ y. by_bytes x y ≡ Less) ids → T (finite.is_sorted by_bytes (marked ids))
    → T (finite.is_sorted by_bytes (marked (x ∷ ids)))
below-marked x ids above rest = both _ _ (below-list x ids above) rest

sorted-marked : (ids : List (List ℕ)) → IsStrictlySortedBy by_bytes ids → T (finite.is_sorted by_bytes (marked ids))
unfolding IsStrictlySortedBy
sorted-marked [] s = tt
sorted-marked (x ∷ xs) s = below-marked x xs s.0 (sorted-marked xs s.1)

-- what the finite map of these keys says of a key
find-marked : (q : List ℕ) (ids : List (List ℕ)) → finite.find by_bytes q (marked ids) ≡ cond (list_any (λ other. same_id q other) ids) (Some tt) None
find-marked q [] = refl
find-marked q (x ∷ xs) =
    ap (λ b. cond b (Some tt) (finite.find by_bytes q (marked xs))) (sym (texts_ties q x))
    ∙ elim (same_id q x) as (λ b. cond b (Some tt) (finite.find by_bytes q (marked xs)) ≡ cond (b || list_any (λ other. same_id q other) xs) (Some tt) None)
    [ true ↦ refl | false ↦ find-marked q xs ]

antisymmetric : finite.IsAntisymmetric by_bytes
antisymmetric = finite.slice_cmp-IsAntisymmetric finite.nat_cmp-IsAntisymmetric

get-marked : (ids : List (List ℕ)) (q : List ℕ)
    → finite.get (finite.from_entries {R = by_bytes} (marked ids)) q ≡ cond (list_any (λ other. same_id q other) ids) (Some tt) None
get-marked ids q = finite.get-from_entries nat_list_cmp_total (marked ids) q ∙ find-marked q ids

-- an ascending list is the ascending list of any list with the same identifiers
pub in_order-is : (xs ids : List (List ℕ)) → IsStrictlySortedBy by_bytes xs
    → ((id : List ℕ) → list_any (λ other. same_id id other) xs ≡ list_any (λ other. same_id id other) ids) → xs ≡ in_order ids
unfolding in_order
in_order-is xs ids sorted same =
    let up = sorted-marked xs sorted in
    let known : finite.FinMap by_bytes (Unit {0}) = finite.from_sorted {R = by_bytes} (marked xs) in
    sym (ap (map (λ e. e.0)) (finite.entries-from_sorted by_bytes (marked xs) up) ∙ keys-marked xs)
    ∙ ap finite.keys (finite.same_map nat_list_cmp_total antisymmetric known (finite.from_entries {R = by_bytes} (marked ids))
    (λ q. finite.get-from_sorted by_bytes (marked xs) q up ∙ find-marked q xs ∙ ap (λ b. cond b (Some tt) None) (same q) ∙ sym (get-marked ids q)))

-- two lists with the same identifiers have the same ascending list
pub in_order-same : (xs ids : List (List ℕ)) → ((id : List ℕ) → list_any (λ other. same_id id other) xs ≡ list_any (λ other. same_id id other) ids)
    → in_order xs ≡ in_order ids
unfolding in_order
in_order-same xs ids same =
    ap finite.keys (finite.same_map nat_list_cmp_total antisymmetric (finite.from_entries {R = by_bytes} (marked xs))
    (finite.from_entries {R = by_bytes} (marked ids))
    (λ q. get-marked xs q ∙ ap (λ b. cond b (Some tt) None) (same q) ∙ sym (get-marked ids q)))

-- each identifier that hangs on the parent is in the list
abbrev pub Covers : (List ℕ → Option (List ℕ)) → List ℕ → List (List ℕ) → Type 0
Covers parent_of parent ids = (id : List ℕ) → hangs_on (parent_of id) parent ≡ true → list_any (λ other. same_id id other) ids ≡ true

any-covered : (parent_of : List ℕ → Option (List ℕ)) (ids : List (List ℕ)) (parent : List ℕ) → Covers parent_of parent ids
    → (id : List ℕ) → list_any (λ other. same_id id other) (filter (λ other. hangs_on (parent_of other) parent) ids) ≡ hangs_on (parent_of id) parent
any-covered parent_of ids parent covers id =
    any-filter (λ other. hangs_on (parent_of other) parent) id ids
    ∙ elim (hangs_on (parent_of id) parent) as (λ b. hangs_on (parent_of id) parent ≡ b → cond b (list_any (λ other. same_id id other) ids) false ≡ b) [
      | true ↦ λ hangs. covers id hangs
      | false ↦ λ apart. refl
    ] refl

-- the same objects hang on the parent, whichever lists they are taken from
pub hanging-same : (f g : List ℕ → Option (List ℕ)) (ids others : List (List ℕ)) (parent : List ℕ) → ((id : List ℕ) → f id ≡ g id)
    → Covers f parent ids → Covers g parent others → hanging f ids parent ≡ hanging g others parent
hanging-same f g ids others parent alike left right =
    in_order-same (filter (λ id. hangs_on (f id) parent) ids) (filter (λ id. hangs_on (g id) parent) others)
    (λ id. any-covered f ids parent left id ∙ ap (λ p. hangs_on p parent) (alike id) ∙ sym (any-covered g others parent right id))

-- what is held stands among the keys
pub covers-entries : {V : Type 0} (parent_of : Option V → Option (List ℕ)) → parent_of None ≡ None → (es : List (List ℕ × Option V)) (parent : List ℕ)
    → Covers (λ id. parent_of (unwrap_or (lookup (same_id id) es) None)) parent (keys_of es)
covers-entries parent_of none es parent id hangs =
    elim (lookup (same_id id) es) as (λ o. lookup (same_id id) es ≡ o → hangs_on (parent_of (unwrap_or o None)) parent ≡ true
    → list_any (λ other. same_id id other) (keys_of es) ≡ true) [
      | Some v ↦ λ is held. sym (is_some-lookup (same_id id) es) ∙ ap is_some is
      | None ↦ λ is held. absurd (let no : hangs_on (parent_of None) parent ≡ false = ap (λ p. hangs_on p parent) none in cc)
    ] refl hangs

is_some-or : {A : Type 0} (a b : Option A) → is_some (option_or a b) ≡ (is_some b || is_some a)
is_some-or (Some x) (Some y) = refl
is_some-or (Some x) None = refl
is_some-or None (Some y) = refl
is_some-or None None = refl

-- an identifier of which something is said is named
named-said : {A : Type 0} (of : Said → Option A) (named : Said → Option (List ℕ)) (id : List ℕ)
    → ((s : Said) → is_some (of s) ≡ list_any (λ other. same_id id other) (option_to_list (named s)))
    → (xs : List Said) → is_some (last_said of xs) ≡ list_any (λ other. same_id id other) (all_named named xs)
named-said of named id one [] = refl
named-said of named id one (s ∷ more) =
    is_some-or (last_said of more) (of s) ∙ ap (λ b. b || is_some (last_said of more)) (one s)
    ∙ ap (λ b. list_any (λ other. same_id id other) (option_to_list (named s)) || b) (named-said of named id one more)
    ∙ sym (list_any-append (λ other. same_id id other) (option_to_list (named s)) (all_named named more))

-- what was written is named
pub covers-named : {V : Type 0} (parent_of : Option V → Option (List ℕ)) → parent_of None ≡ None
    → (of : List ℕ → Said → Option (Option V)) (named : Said → Option (List ℕ))
    → ((id : List ℕ) (s : Said) → is_some (of id s) ≡ list_any (λ other. same_id id other) (option_to_list (named s)))
    → (xs : List Said) (parent : List ℕ) → Covers (λ id. parent_of (unwrap_or (last_said (of id) xs) None)) parent (all_named named xs)
covers-named parent_of none of named one xs parent id hangs =
    elim (last_said (of id) xs) as (λ o. last_said (of id) xs ≡ o → hangs_on (parent_of (unwrap_or o None)) parent ≡ true
    → list_any (λ other. same_id id other) (all_named named xs) ≡ true) [
      | Some v ↦ λ is held. sym (named-said (of id) named id (one id) xs) ∙ ap is_some is
      | None ↦ λ is held. absurd (let no : hangs_on (parent_of None) parent ≡ false = ap (λ p. hangs_on p parent) none in cc)
    ] refl hangs
