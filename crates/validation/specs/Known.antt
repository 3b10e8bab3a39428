-- Items whose values a check has found.
use Rattle.std.specs.Prelude.{◌≡◌, ℕ, nat_eq, List, Option, Some, cond, IfSome}
use Rattle.std.specs.BTreeMap.{is_at}
use Rattle.std.specs.Cmp.Lexicographic.{slice_cmp}
use Rattle.std.specs.Map.{lookup}
use Rattle.std.specs.Option.{option_cmp}
use Rattle.std.specs.Ordering.{ordering_then, nat_cmp}
use Rattle.std.specs.declared.cmp.Ordering.{Ordering}
use Rattle.dh_base.specs.Fractions.{Fraction}
use Rattle.dh_base.specs.declared.plain.Rate.{Rate}
use Rattle.dh_base.specs.declared.plain.Rate.TheVariants as rate
use Rattle.expr_lang.specs.declared.tree.Item.{Item}
use Rattle.expr_lang.specs.declared.tree.Item.TheVariants as item
use Rattle.validation.specs.declared.known.ItemKey.{ItemKey}

-- the rate with that code
abbrev pub rate_of : ℕ → Rate
rate_of code =
    cond (nat_eq code 2) rate.Expected (cond (nat_eq code 3) rate.Actual (cond (nat_eq code 4) rate.OnTime
    (cond (nat_eq code 5) rate.Reported rate.ReportedOnTime)))

-- the item that a key stands for
abbrev pub item_of : ItemKey → Item
item_of key =
    cond (nat_eq key.code 0) (item.Element key.id key.combo key.attribute)
    (cond (nat_eq key.code 1) (item.Group key.id) (item.Rate key.id (rate_of key.code)))

-- the order of keys, field by field
abbrev pub key_cmp : ItemKey → ItemKey → Ordering
key_cmp a b =
    ordering_then (nat_cmp a.code b.code) (ordering_then (slice_cmp nat_cmp a.id b.id)
    (ordering_then (option_cmp (slice_cmp nat_cmp) a.combo b.combo) (option_cmp (slice_cmp nat_cmp) a.attribute b.attribute)))

abbrev pub key_with : ℕ → List ℕ → Option (List ℕ) → Option (List ℕ) → ItemKey
key_with code id combo attribute = record { code = code; id = id; combo = combo; attribute = attribute }

-- the value under a key is noted, and under other keys all stays
abbrev pub IsNoted : List (ItemKey × Option Fraction) → List (ItemKey × Option Fraction) → ItemKey → Option Fraction → Type 0
IsNoted old new key found = (q : ItemKey) → lookup (is_at (key_cmp q)) new ≡ cond (is_at (key_cmp key) q) (Some found) (lookup (is_at (key_cmp q)) old)

-- what stands under a key is the value of the item that it stands for
unfoldable pub AreKnown : (Item → Option Fraction) → List (ItemKey × Option Fraction) → Type 0
AreKnown value entries = (key : ItemKey) → IfSome (lookup (is_at (key_cmp key)) entries) (λ found. found ≡ value (item_of key))
