-- No number of a body is a float.
use Rattle.std.proofs.Common.{◌≡◌, ℕ, List, [], ◌∷◌, Bool, true, false, ◌||◌, Ordering, Less, Equal, Greater, refl}
use Rattle.std.specs.Ordering.{nat_cmp, match_ordering}
use Rattle.std.specs.Cmp.Lexicographic.{slice_cmp}
use Rattle.serde_json.specs.Data.{Data, Members, no_members, member, put}
use Rattle.serde_json.specs.View.{items_of}
use Rattle.serde_json.specs.Written.{has_float, items_have_float, members_have_float}
use Rattle.dh_metadata.specs.declared.held.Records.{Records}
use Rattle.query_lang.specs.declared.plain.Query.{Query}
use Rattle.query_answer.specs.Names.{ids_of, name_of, put_name, put_names, dimensions_of, meta_of, dx_named, unit_named, period_named}

both_false : (a b : Bool) → a ≡ false → b ≡ false → (a || b) ≡ false
both_false true b p q = p
both_false false b p q = q

ids_plain : (named : List (List ℕ × List ℕ)) → items_have_float (items_of (ids_of named)) ≡ false
ids_plain [] = refl
ids_plain (x ∷ xs) = ids_plain xs

by_order : (o : Ordering) (a b c : Members) → members_have_float a ≡ false → members_have_float b ≡ false → members_have_float c ≡ false
    → members_have_float (match_ordering o a b c) ≡ false
by_order Less a b c p q s = p
by_order Equal a b c p q s = q
by_order Greater a b c p q s = s

first_plain : (a b : Bool) → (a || b) ≡ false → a ≡ false
first_plain true b h = h
first_plain false b h = refl

second_plain : (a b : Bool) → (a || b) ≡ false → b ≡ false
second_plain true b h = absurd (cc)
second_plain false b h = h

put_plain : (k : List ℕ) (d : Data) (ms : Members) → has_float d ≡ false → members_have_float ms ≡ false → members_have_float (put k d ms) ≡ false
put_plain k d no_members p q = both_false _ _ p refl
put_plain k d (member l e ms) p q =
    by_order (slice_cmp nat_cmp k l) _ _ _
    (both_false _ _ p q)
    (both_false _ _ p (second_plain (has_float e) _ q))
    (both_false _ _ (first_plain (has_float e) _ q) (put_plain k d ms p (second_plain (has_float e) _ q)))

names_plain : (named : List (List ℕ × List ℕ)) (ms : Members) → members_have_float ms ≡ false → members_have_float (put_names named ms) ≡ false
unfolding name_of
names_plain [] ms p = p
names_plain (x ∷ xs) ms p = names_plain xs (put_name x ms) (put_plain _ _ ms refl p)

pub meta_plain : (r : Records) (query : Query) → has_float (meta_of r query) ≡ false
unfolding meta_of dimensions_of
meta_plain r query =
    both_false _ _
    (both_false _ _ (ids_plain (dx_named r query.dx))
    (both_false _ _ (ids_plain (unit_named r query.units.items)) (both_false _ _ (ids_plain (period_named query.periods.items)) refl)))
    (both_false _ _
    (names_plain (unit_named r query.units.items) _ (names_plain (period_named query.periods.items) _ (names_plain (dx_named r query.dx) no_members refl)))
    refl)
