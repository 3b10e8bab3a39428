-- The items of a text.
use Rattle.std.specs.Prelude.{◌≡◌, ℕ, Bool, ◌&&◌, List, [], ◌∷◌, ◌++◌, Option, Some, None, Contains, ◌⊎◌, cond, nat_eq}
use Rattle.std.specs.List.{list_any}
use Rattle.std.specs.Cmp.Lexicographic.{pointwise}
use Rattle.dh_base.specs.declared.plain.Rate.{Rate}
use Rattle.dh_base.specs.declared.plain.Rate.TheVariants as rates
use Rattle.expr_lang.specs.declared.tree.Item.{Item}
use Rattle.expr_lang.specs.declared.tree.Item.TheVariants as item
use Rattle.expr_lang.specs.declared.tree.Leaf.{Leaf}
use Rattle.expr_lang.specs.declared.tree.Leaf.TheVariants as leaf
use Rattle.expr_lang.specs.declared.reading.Spot.{Spot}
use Rattle.expr_lang.specs.Leaves.{leaf_of_node}

-- an item, and the place of its first byte
pub record Occurrence : Type 0 where
  pub item : Item
  pub at : ℕ

abbrev pub item_of_leaf_of : Leaf → Option Item
item_of_leaf_of (leaf.Number n) = None
item_of_leaf_of (leaf.Item i) = Some i
item_of_leaf_of (leaf.Day i) = Some i

abbrev pub with_occurrence : Option Item → ℕ → List Occurrence → List Occurrence
with_occurrence None place others = others
with_occurrence (Some i) place others = record { item = i; at = place } ∷ others

-- each occurrence of an item, from left to right
abbrev pub occurrences : List ℕ → List (List ℕ) → List Spot → List Occurrence
occurrences text days [] = []
occurrences text days (spot ∷ spots) =
    with_occurrence (item_of_leaf_of (leaf_of_node text days spot.at spot.node)) spot.at (occurrences text days spots)

-- the lists old become new by an item that is put at their ends, with its place, unless it is in them already
abbrev pub ListsOne : Option Item → ℕ → List Item → List ℕ → List Item → List ℕ → Type 0
ListsOne None place items places new_items new_places = (new_items ≡ items) × (new_places ≡ places)
ListsOne (Some i) place items places new_items new_places =
    (Contains items i × (new_items ≡ items) × (new_places ≡ places))
    ⊎ ((¬ Contains items i) × (new_items ≡ items ++ i ∷ []) × (new_places ≡ places ++ place ∷ []))

-- and so by each occurrence of an item, from left to right
abbrev pub ListsFrom : List Occurrence → List Item → List ℕ → List Item → List ℕ → Type 0
ListsFrom [] items places all_items all_places = (all_items ≡ items) × (all_places ≡ places)
ListsFrom (o ∷ others) items places all_items all_places =
    (Contains items o.item × ListsFrom others items places all_items all_places)
    ⊎ ((¬ Contains items o.item) × ListsFrom others (items ++ o.item ∷ []) (places ++ o.at ∷ []) all_items all_places)

-- the different items in order of their first occurrence, and the places of these
unfoldable pub Lists : List Occurrence → List Item → List ℕ → Type 0
Lists all items places = ListsFrom all [] [] items places

-- the form of an item as a number, and the identifiers in it
abbrev pub rate_key : Rate → ℕ
rate_key rates.Expected = 6
rate_key rates.Actual = 7
rate_key rates.OnTime = 8
rate_key rates.Reported = 9
rate_key rates.ReportedOnTime = 10

abbrev pub item_key : Item → ℕ × List (List ℕ)
item_key (item.Element element None None) = (0, element ∷ [])
item_key (item.Element element (Some combo) None) = (1, element ∷ combo ∷ [])
item_key (item.Element element None (Some attribute)) = (2, element ∷ attribute ∷ [])
item_key (item.Element element (Some combo) (Some attribute)) = (3, element ∷ combo ∷ attribute ∷ [])
item_key (item.Constant uid) = (4, uid ∷ [])
item_key (item.Group uid) = (5, uid ∷ [])
item_key (item.Rate set rate) = (rate_key rate, set ∷ [])
item_key (item.StageElement stage element) = (11, stage ∷ element ∷ [])
item_key (item.Attribute uid) = (12, uid ∷ [])
item_key item.Days = (13, [])
item_key item.EventDate = (14, [])
item_key item.EnrollmentDate = (15, [])
item_key item.EventCount = (16, [])
item_key item.EnrollmentCount = (17, [])
item_key item.EntityCount = (18, [])

abbrev pub is_one_key : ℕ × List (List ℕ) → ℕ × List (List ℕ) → Bool
is_one_key a b = nat_eq a.0 b.0 && pointwise (pointwise nat_eq) a.1 b.1

-- whether two items are one
unfoldable pub is_one : Item → Item → Bool
is_one a b = is_one_key (item_key a) (item_key b)

-- The lists with each occurrence of an item put at their ends, with its place, unless it is in them already.
abbrev pub listed_from : List Occurrence → List Item → List ℕ → List Item × List ℕ
listed_from [] items places = (items, places)
listed_from (o ∷ others) items places =
    cond (list_any (is_one o.item) items) (listed_from others items places) (listed_from others (items ++ o.item ∷ []) (places ++ o.at ∷ []))

-- the different items in order of their first occurrence, and the places of these
unfoldable pub listed : List Occurrence → List Item × List ℕ
listed occurring = listed_from occurring [] []
