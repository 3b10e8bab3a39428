-- The items that words name, and which of them are days.
use Rattle.std.specs.Prelude.{ℕ, ◌+◌, Bool, true, false, List, Option, Some, None, length, slice_range, nat_eq, nat_lt, if◌then◌else◌, option_and_then}
use Rattle.std.specs.Prelude.{option_map}
use Rattle.std.specs.List.{list_any}
use Rattle.std.specs.Cmp.Lexicographic.{pointwise}
use Rattle.dh_base.specs.Uid.{uid_of}
use Rattle.expr_lang.specs.declared.tree.Item.{Item}
use Rattle.expr_lang.specs.declared.tree.Item.TheVariants as item
use Rattle.expr_lang.specs.declared.tree.Leaf.{Leaf}
use Rattle.expr_lang.specs.declared.tree.Leaf.TheVariants as leaf
use Rattle.expr_lang.specs.declared.words.ItemForm.{ItemForm}
use Rattle.expr_lang.specs.declared.words.ItemForm.TheVariants as form

-- the identifier at a place of a word
abbrev pub uid_from : ℕ → List ℕ → Option (List ℕ)
uid_from from bytes = if nat_lt (length bytes) (from + 11) then None else uid_of (slice_range bytes from (from + 11))

-- an item of one identifier, and of two
abbrev pub one_uid : (List ℕ → Item) → ℕ → List ℕ → Option Item
one_uid make from bytes = option_map make (uid_from from bytes)

abbrev pub two_uids : (List ℕ → List ℕ → Item) → List ℕ → Option Item
two_uids make bytes = option_and_then (λ first. option_map (make first) (uid_from 14 bytes)) (uid_from 2 bytes)

abbrev pub three_uids : (List ℕ → List ℕ → List ℕ → Item) → List ℕ → Option Item
three_uids make bytes =
    option_and_then (λ first. option_and_then (λ second. option_map (make first second) (uid_from 26 bytes)) (uid_from 14 bytes)) (uid_from 2 bytes)

-- the item that a word of this form names
unfoldable pub item_from : ItemForm → List ℕ → Option Item
item_from form.Element bytes = one_uid (λ element. item.Element element None None) 2 bytes
item_from form.ElementCombo bytes = two_uids (λ element combo. item.Element element (Some combo) None) bytes
item_from form.ElementCombos bytes = three_uids (λ element combo attribute. item.Element element (Some combo) (Some attribute)) bytes
item_from form.Constant bytes = one_uid (λ constant. item.Constant constant) 2 bytes
item_from form.Group bytes = one_uid (λ group. item.Group group) 4 bytes
item_from form.Days bytes = Some item.Days
item_from (form.Rate rate) bytes = one_uid (λ set. item.Rate set rate) 2 bytes
item_from form.StageElement bytes = two_uids (λ stage element. item.StageElement stage element) bytes
item_from form.Attribute bytes = one_uid (λ attribute. item.Attribute attribute) 2 bytes
item_from form.EventDate bytes = Some item.EventDate
item_from form.EnrollmentDate bytes = Some item.EnrollmentDate
item_from form.EventCount bytes = Some item.EventCount
item_from form.EnrollmentCount bytes = Some item.EnrollmentCount
item_from form.EntityCount bytes = Some item.EntityCount

abbrev pub is_among_of : List ℕ → List (List ℕ) → Bool
is_among_of uid days = list_any (λ day. pointwise nat_eq day uid) days

-- the two dates, and what has an element or attribute of type DATE
abbrev pub is_day_of : List (List ℕ) → Item → Bool
is_day_of days item.EventDate = true
is_day_of days item.EnrollmentDate = true
is_day_of days (item.StageElement stage element) = is_among_of element days
is_day_of days (item.Attribute attribute) = is_among_of attribute days
is_day_of days _ = false

abbrev pub leaf_from : List (List ℕ) → Item → Leaf
leaf_from days i = if is_day_of days i then leaf.Day i else leaf.Item i
