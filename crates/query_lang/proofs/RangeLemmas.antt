-- All units that are chosen are units of the tree.
use Rattle.std.proofs.Common.{◌≡◌, ℕ, zero, suc, ◌<◌, ◌==◌, Bool, true, false, cond, List, [], ◌∷◌, ◌++◌, length, Option, refl, sym, subst, inl, inr, arith}
use Rattle.std.proofs.Common.{nat_eq, nat_lt}
use Rattle.std.specs.List.{list_any, flat_map}
use Rattle.std.specs.Option.{option_to_list}
use Rattle.std.proofs.lemmas.Bool.{ltb-true}
use Rattle.std.proofs.lemmas.List.Elements.{All-append, All-filter}
use Rattle.org_tree.specs.Units.{UnitRow, order_of}
use Rattle.org_tree.proofs.CountLemmas.{first_below_tells}
use Rattle.query_lang.specs.Once.{with_new, once_from}
use Rattle.query_lang.specs.declared.part.Part.{Part}
use Rattle.query_lang.specs.declared.part.Part.TheVariants as part
use Rattle.query_lang.specs.Walk.{unit_at, first_units, walk_of, AreIn}
use Rattle.query_lang.specs.Parts.{kin_of, is_kin, is_narrowing, part_units}
use Rattle.query_lang.specs.Choice.{parts_units, listed_units, narrowed_units, chosen_units}

none_in : (end : ℕ) → AreIn end []
none_in end = λ k d within. absurd (omega arith)

one_in : (end x : ℕ) → x < end → AreIn end (x ∷ [])
one_in end x below zero d within = below
one_in end x below (suc k) d within = absurd (omega arith)

at_in : (us : List UnitRow) (order : ℕ) → AreIn (length us) (option_to_list (unit_at us order))
at_in us order =
    elim (first_below_tells (λ z. order_of us z == order) (length us)) [
      | inl found ↦ subst (λ (o : Option ℕ). AreIn (length us) (option_to_list o)) (sym found.1) (one_in (length us) found.0 found.2.below)
      | inr none ↦ subst (λ (o : Option ℕ). AreIn (length us) (option_to_list o)) (sym none.0) (none_in (length us))
    ]

first_in : (us : List UnitRow) (order : ℕ) → AreIn (length us) (first_units us order)
first_in us zero = none_in (length us)
first_in us (suc order) = All-append (λ n. n < length us) (first_units us order) (option_to_list (unit_at us order)) (first_in us order) (at_in us order)

pub walk_in : (us : List UnitRow) → AreIn (length us) (walk_of us)
unfolding walk_of
walk_in us = first_in us (length us)

kin_in : (us : List UnitRow) (views : List ℕ) (degree : ℕ) → AreIn (length us) (kin_of us views degree)
unfolding kin_of
kin_in us views degree = All-filter (is_kin us views degree) (λ n. n < length us) (walk_of us) (walk_in us)

single_in : (end x : ℕ) (b : Bool) → nat_lt x end ≡ b → AreIn end (cond b (x ∷ []) [])
single_in end x true is = one_in end x (ltb-true x end is)
single_in end x false is = none_in end

part_in : (us : List UnitRow) (views : List ℕ) (p : Part) → AreIn (length us) (part_units us views p)
part_in us views (part.Unit x) = single_in (length us) x (nat_lt x (length us)) refl
part_in us views part.User = kin_in us views 0
part_in us views part.Children = kin_in us views 1
part_in us views part.Grandchildren = kin_in us views 2
part_in us views (part.Level n) = none_in (length us)
part_in us views (part.Group g) = none_in (length us)

flat_in : (us : List UnitRow) (views : List ℕ) (parts : List Part) → AreIn (length us) (flat_map (part_units us views) parts)
flat_in us views [] = none_in (length us)
flat_in us views (p ∷ parts) =
    All-append (λ n. n < length us) (part_units us views p) (flat_map (part_units us views) parts) (part_in us views p) (flat_in us views parts)

pub parts_in : (us : List UnitRow) (views : List ℕ) (parts : List Part) → AreIn (length us) (parts_units us views parts)
unfolding parts_units
parts_in us views parts = flat_in us views parts

tail_in : (end x : ℕ) (xs : List ℕ) → AreIn end (x ∷ xs) → AreIn end xs
tail_in end x xs all = λ k d within. all (suc k) d (omega arith)

new_in : (end x : ℕ) (kept : List ℕ) → AreIn end kept → x < end → AreIn end (with_new nat_eq kept x)
new_in end x kept all below =
    elim (list_any (nat_eq x) kept) as (λ b. AreIn end (cond b kept (kept ++ x ∷ []))) [
      | true ↦ all
      | false ↦ All-append (λ n. n < end) kept (x ∷ []) all (one_in end x below)
    ]

once_in : (end : ℕ) (kept xs : List ℕ) → AreIn end kept → AreIn end xs → AreIn end (once_from nat_eq kept xs)
once_in end kept [] all more = all
once_in end kept (x ∷ xs) all more = once_in end (with_new nat_eq kept x) xs (new_in end x kept all (more 0 0 (omega arith))) (tail_in end x xs more)

-- the units of a query are units
pub chosen_in : (us : List UnitRow) (views members : List ℕ) (parts : List Part) → AreIn (length us) (chosen_units us views members parts)
unfolding chosen_units narrowed_units listed_units
chosen_in us views members parts =
    elim (list_any is_narrowing parts) as (λ b. AreIn (length us) (cond b (narrowed_units us views members parts) (listed_units us views parts))) [
      | true ↦ All-filter _ (λ n. n < length us) (walk_of us) (walk_in us)
      | false ↦ once_in (length us) [] (parts_units us views parts) (none_in (length us)) (parts_in us views parts)
    ]
