-- The pairs of an object that is written, and the attributes that stood and stay, fit the bytes of a change.
use Rattle.std.proofs.Common.{◌≡◌, ℕ, ◌<◌, ◌≤◌, ◌^◌, Bool, true, false, cond, List, [], ◌∷◌, ◌++◌, length, take, filter}
use Rattle.std.proofs.Common.{Option, Some, None, refl, sym, arith}
use Rattle.std.specs.Prelude.{not, ◌&&◌, ◌||◌, nat_lt, nat_le, option_map, option_and_then}
use Rattle.std.specs.Option.{is_some, is_none}
use Rattle.std.specs.List.{AllByRecursion, list_any, cons_option}
use Rattle.std.proofs.lemmas.Bool.{ltb-true}
use Rattle.std.proofs.lemmas.Bool.Decides.{nat_tests}
use Rattle.std.proofs.lemmas.List.{length-take}
use Rattle.change_log.specs.Forms.{PairsFit}
use Rattle.dh_metadata.specs.Objects.{ids_of, find_of}
use Rattle.dh_metadata.specs.Places.{place_of}
use Rattle.dh_metadata.specs.declared.held.Records.{Records}
use Rattle.dh_metadata.specs.declared.names.ValueType.{ValueType}
use Rattle.dh_changes.specs.Said.{same_id}
use Rattle.import_forms.specs.declared.pair.Pair.{Pair}
use Rattle.value_import.specs.Names.{if_so}
use Rattle.value_import.proofs.TextSizes.{fits-small}
use Rattle.tracker_import.specs.declared.pairs.TheConstants.{MOST_ITEMS, MOST_BYTES}
use Rattle.tracker_import.specs.declared.pairs.ItemKind.{ItemKind}
use Rattle.tracker_import.specs.declared.pairs.ItemKind.TheVariants as item
use Rattle.tracker_import.specs.Pairs.{Told, kind_of, item_of, item_named, type_of, fits_type, is_fit, has_unknown, has_unfit, told, is_kept, merged}
use Rattle.tracker_import.specs.Rules.{id_in}
use Rattle.tracker_import.proofs.OrderLemmas.{IsFit, in_order-fits, among-first}

-- the identifiers of the attributes, or of the elements, that can be written
abbrev ids_in : Records → ItemKind → List (List ℕ)
ids_in r kind = take MOST_ITEMS (ids_of r (kind_of kind))

first-few : (most : ℕ) (ids : List (List ℕ)) → length (take most ids) ≤ most
first-few most ids = let long = length-take most ids in omega (arith, long)

-- ---- what is known

is_so : (most n : ℕ) → is_some (if_so (λ number. nat_lt number most) (Some n)) ≡ true → nat_lt n most ≡ true
is_so most n is = elim (nat_lt n most) as (λ b. is_some (cond b (Some n) None) ≡ true → b ≡ true) [ true ↦ λ there. refl | false ↦ λ gone. gone ] is

among : (ids : List (List ℕ)) (id : List ℕ) (most : ℕ) (found : Option ℕ) → place_of ids id ≡ found
    → is_some (if_so (λ number. nat_lt number most) found) ≡ true → list_any (same_id id) (take most ids) ≡ true
among ids id most None at is = absurd (cc)
among ids id most (Some n) at is =
    let less : n < most = ltb-true n most (is_so most n is) in
    among-first (same_id id) ids 0 n most at (omega (arith, less))

known : (r : Records) (kind : ItemKind) (id : List ℕ) → is_some (item_of r kind id) ≡ true → list_any (same_id id) (ids_in r kind) ≡ true
unfolding item_of
known r kind id is = among (ids_of r (kind_of kind)) id MOST_ITEMS (find_of r (kind_of kind) id) refl is

there : (o : Option ℕ) → is_none o ≡ false → is_some o ≡ true
there None is = cc
there (Some n) is = refl

-- ---- what pairs tell

small : (kind : Option ValueType) (text : List ℕ) → fits_type kind (Some text) ≡ true → length text < 2 ^ 16
small None text is = absurd (cc)
small (Some kind) text is = let fit : length text ≤ 1024 = fits-small kind text is in omega (arith, fit)

put-one : (r : Records) (kind : ItemKind) (id text : Option (List ℕ)) (more : List Told) → is_none (option_and_then (item_of r kind) id) ≡ false
    → fits_type (option_and_then (type_of r kind) (option_and_then (item_of r kind) id)) text ≡ true → AllByRecursion (IsFit (ids_in r kind)) more
    → AllByRecursion (IsFit (ids_in r kind)) (cons_option (option_and_then (λ own. option_map (λ t. (own, t)) text) id) more)
put-one r kind None text more is fit all = all
put-one r kind (Some id) None more is fit all = all
put-one r kind (Some id) (Some text) more is fit all =
    ((known r kind id (there (item_of r kind id) is), small (option_and_then (type_of r kind) (item_of r kind id)) text fit), all)

neither : (a b : Bool) → (a || b) ≡ false → (a ≡ false) × (b ≡ false)
neither true b is = absurd (cc)
neither false b is = (refl, is)

so : (b : Bool) → not b ≡ false → b ≡ true
so true is = refl
so false is = sym is

told-fit : (r : Records) (kind : ItemKind) (pairs : List Pair) → has_unknown r kind pairs ≡ false → has_unfit r kind pairs ≡ false
    → AllByRecursion (IsFit (ids_in r kind)) (told pairs)
unfolding has_unknown has_unfit item_named is_fit
told-fit r kind [] named fit = tt
told-fit r kind (pair ∷ pairs) named fit =
    let own = neither (is_none (item_named r kind pair)) (list_any (λ other. is_none (item_named r kind other)) pairs) named in
    let typed = neither (not (is_fit r kind pair)) (list_any (λ other. not (is_fit r kind other)) pairs) fit in
    put-one r kind (id_in pair.item) pair.value (told pairs) own.0 (so (is_fit r kind pair) typed.0) (told-fit r kind pairs own.1 typed.1)

-- ---- what stood

both : (a b : Bool) → (a && b) ≡ true → (a ≡ true) × (b ≡ true)
both true b is = (refl, is)
both false b is = absurd (cc)

short : (n : ℕ) → nat_le n MOST_BYTES ≡ true → n < 2 ^ 16
short n is = grind (arith, nat_tests)

kept : (r : Records) (t : Told) → is_kept r t ≡ true → IsFit (ids_in r item.Attribute) t
unfolding is_kept
kept r t is =
    let parts = both (is_some (item_of r item.Attribute t.0)) (nat_le (length t.1) MOST_BYTES) is in
    (known r item.Attribute t.0 parts.0, short (length t.1) parts.1)

kept-fit : (r : Records) (old : List Told) → AllByRecursion (IsFit (ids_in r item.Attribute)) (filter (is_kept r) old)
kept-fit r [] = tt
kept-fit r (t ∷ old) =
    elim (is_kept r t) as (λ b. is_kept r t ≡ b
    → AllByRecursion (IsFit (ids_in r item.Attribute)) (cond b (t ∷ filter (is_kept r) old) (filter (is_kept r) old))) [
      | true ↦ λ is. (kept r t is, kept-fit r old)
      | false ↦ λ is. kept-fit r old
    ] refl

-- ---- what is written

all-both : (ids : List (List ℕ)) (xs ys : List Told) → AllByRecursion (IsFit ids) xs → AllByRecursion (IsFit ids) ys → AllByRecursion (IsFit ids) (xs ++ ys)
all-both ids [] ys first second = second
all-both ids (x ∷ xs) ys first second = (first.0, all-both ids xs ys first.1 second)

-- the attributes of an entity
pub attributes-fit : (r : Records) (old : List Told) (pairs : List Pair) → has_unknown r item.Attribute pairs ≡ false
    → has_unfit r item.Attribute pairs ≡ false → PairsFit (merged r old pairs)
unfolding merged
attributes-fit r old pairs named fit =
    let few = first-few MOST_ITEMS (ids_of r (kind_of item.Attribute)) in
    in_order-fits (ids_in r item.Attribute) (filter (is_kept r) old ++ told pairs) (omega (arith, few))
    (all-both (ids_in r item.Attribute) (filter (is_kept r) old) (told pairs) (kept-fit r old) (told-fit r item.Attribute pairs named fit))

-- the values of an event
pub values-fit : (r : Records) (pairs : List Pair) → has_unknown r item.Element pairs ≡ false → has_unfit r item.Element pairs ≡ false
    → PairsFit (merged r [] pairs)
unfolding merged
values-fit r pairs named fit =
    let few = first-few MOST_ITEMS (ids_of r (kind_of item.Element)) in
    in_order-fits (ids_in r item.Element) (told pairs) (omega (arith, few)) (told-fit r item.Element pairs named fit)
