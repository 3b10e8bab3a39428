-- One step of a list of items.
use Rattle.std.proofs.Common.{◌≡◌, ℕ, ◌+◌, ◌<◌, List, [], ◌∷◌, ◌++◌, length, get_or, drop, Option, Some, None, refl, sym, ap, subst, ◌∙◌, inl, inr}
use Rattle.std.proofs.Common.{arith}
use Rattle.std.specs.Prelude.{slice_get, Contains}
use Rattle.std.proofs.lemmas.Bool.{cases_lt}
use Rattle.std.proofs.lemmas.List.{drop_more, drop_all}
use Rattle.std.proofs.lemmas.Option.{slice_get_read, get_or_from_slice_get}
use Rattle.expr_lang.specs.declared.tree.Item.{Item}
use Rattle.expr_lang.specs.declared.reading.Spot.{Spot}
use Rattle.expr_lang.specs.Leaves.{leaf_of_node}
use Rattle.expr_lang.specs.Items.{Occurrence, item_of_leaf_of, with_occurrence, occurrences, ListsOne, ListsFrom, Lists}

one_listed : (o : Option Item) (place : ℕ) (others : List Occurrence) (items : List Item) (places : List ℕ) (new_items : List Item) (new_places : List ℕ)
    (all : List Item) (all_places : List ℕ)
    → ListsOne o place items places new_items new_places → ListsFrom others new_items new_places all all_places
    → ListsFrom (with_occurrence o place others) items places all all_places
one_listed None place others items places new_items new_places all all_places one rest =
    subst (λ (p : List Item × List ℕ). ListsFrom others p.0 p.1 all all_places) (ap (λ (i : List Item). (i, new_places)) one.0
    ∙ ap (λ (q : List ℕ). (items, q)) one.1) rest
one_listed (Some i) place others items places new_items new_places all all_places one rest =
    elim one [
      | inl there ↦ inl (
        there.0,
        subst (λ (p : List Item × List ℕ). ListsFrom others p.0 p.1 all all_places) (ap (λ (j : List Item). (j, new_places)) there.1
            ∙ ap (λ (q : List ℕ). (items, q)) there.2) rest,
      )
      | inr absent ↦ inr (
        absent.0,
        subst (λ (p : List Item × List ℕ). ListsFrom others p.0 p.1 all all_places)
            (ap (λ (j : List Item). (j, new_places)) absent.1 ∙ ap (λ (q : List ℕ). (items ++ i ∷ [], q)) absent.2) rest,
      )
    ]

-- the lists so far, and what is still to be listed
pub record Listed (text : List ℕ) (days : List (List ℕ)) (nodes : List Spot) (n : ℕ) (items : List Item) (places : List ℕ) : Type 0 where
  pub goes_on : (all : List Item) (all_places : List ℕ) → ListsFrom (occurrences text days (drop n nodes)) items places all all_places
      → Lists (occurrences text days nodes) all all_places

pub listed_none : (text : List ℕ) (days : List (List ℕ)) (nodes : List Spot) → Listed text days nodes 0 [] []
unfolding Lists
listed_none text days nodes = record { goes_on = λ all all_places rest. rest }

pub listed_more : (text : List ℕ) (days : List (List ℕ)) (nodes : List Spot) (n : ℕ) (d : Spot) (items : List Item) (places : List ℕ) (new_items : List Item)
    (new_places : List ℕ)
    → n < length nodes
    → ListsOne (item_of_leaf_of (leaf_of_node text days (get_or nodes n d).at (get_or nodes n d).node)) (get_or nodes n d).at items places new_items
    new_places → Listed text days nodes n items places → Listed text days nodes (n + 1) new_items new_places
listed_more text days nodes n d items places new_items new_places within one before = record {
  goes_on = λ all all_places rest.
      before.goes_on all all_places
      (subst (λ (l : List Spot). ListsFrom (occurrences text days l) items places all all_places)
      (sym (drop_more nodes n d within))
      (one_listed (item_of_leaf_of (leaf_of_node text days (get_or nodes n d).at (get_or nodes n d).node)) (get_or nodes n d).at
      (occurrences text days (drop (n + 1) nodes)) items places new_items new_places all all_places one rest));
}

pub listed_all : (text : List ℕ) (days : List (List ℕ)) (nodes : List Spot) (n : ℕ) (items : List Item) (places : List ℕ) → n ≡ length nodes
    → Listed text days nodes n items places → Lists (occurrences text days nodes) items places
listed_all text days nodes n items places end before =
    before.goes_on items places (subst (λ (l : List Spot). ListsFrom (occurrences text days l) items places items places) (sym (drop_all n nodes (omega arith)))
    (refl, refl))

-- an item that isn't before a place, nor at it
pub none_more : (items : List Item) (i x : Item) (n : ℕ) → x ≡ get_or items n x → (¬ (x ≡ i))
    → ((k : ℕ) → k < n → ¬ (slice_get items k ≡ Some i)) → (k : ℕ) → k < n + 1 → ¬ (slice_get items k ≡ Some i)
none_more items i x n at other before k below there =
    elim (cases_lt k n) [
      | inl earlier ↦ before k earlier there
      | inr later ↦
          let same : k ≡ n = omega (arith, below, later) in
          other (at ∙ get_or_from_slice_get items n i x (subst (λ (m : ℕ). slice_get items m ≡ Some i) same there))
    ]

pub none_in : (items : List Item) (i : Item) (n : ℕ) → n ≡ length items → ((k : ℕ) → k < n → ¬ (slice_get items k ≡ Some i)) → ¬ Contains items i
none_in items i n end before there = before there.0 (omega (arith, end, there.1)) (slice_get_read items (length items) there.0 i refl there.1 (sym there.2))
