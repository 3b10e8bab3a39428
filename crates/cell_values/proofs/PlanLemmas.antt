-- The value of a cell by what was worked out before it.
use Rattle.std.proofs.Common.{◌≡◌, ◌∙◌, ℕ, ◌+◌, ◌<◌, Bool, true, false, cond, ◌&&◌, List, [], ◌∷◌, ◌++◌, length, map, take, drop, get_or, append_assoc, Option, Some, None, refl, sym, ap}
use Rattle.std.proofs.lemmas.List.{drop_more, map-append, map_more, take_more}
use Rattle.std.proofs.lemmas.List.Elements.{filter_more}
use Rattle.std.specs.Prelude.{option_map, option_and_then, slice_get}
use Rattle.std.specs.List.{filter}
use Rattle.dh_base.specs.declared.plain.AggType.{AggType}
use Rattle.dh_base.specs.declared.plain.Rate.{Rate}
use Rattle.dh_base.specs.Fractions.{Fraction}
use Rattle.dh_sharing.specs.Ranges.{AreApart}
use Rattle.dh_sharing.specs.declared.access.Right.TheVariants.{Read}
use Rattle.dh_periods.specs.declared.name.PeriodName.{PeriodName}
use Rattle.expr_lang.specs.declared.tree.Item.{Item}
use Rattle.expr_lang.specs.declared.tree.Item.TheVariants as item
use Rattle.dh_metadata.specs.declared.held.Records.{Records}
use Rattle.dh_metadata.specs.declared.kind.Kind.TheVariants as kind
use Rattle.dh_metadata.specs.declared.records.Element.{Element}
use Rattle.dh_metadata.specs.Objects.{find_of}
use Rattle.dh_metadata.specs.Users.{may_of}
use Rattle.table_rows.specs.declared.row.Row.{Row}
use Rattle.table_rows.specs.declared.row.Group.{Group}
use Rattle.table_rows.specs.Groups.{groups_of}
use Rattle.table_rows.specs.Order.{row_cmp}
use Rattle.table_rows.specs.Store.{rises}
use Rattle.table_rows.proofs.CellLemmas.{filter-same}
use Rattle.cell_values.specs.Reporting.{rate_of}
use Rattle.cell_values.specs.declared.cell.Operand.{Operand}
use Rattle.cell_values.specs.declared.rates.RateAsked.{RateAsked}
use Rattle.cell_values.specs.declared.element.ElementPlan.{ElementPlan}
use Rattle.cell_values.specs.declared.item.ItemPlan.{ItemPlan}
use Rattle.cell_values.specs.Held.{AreSeenOrders}
use Rattle.cell_values.specs.Seen.{SeenRecords, sees_attribute, need_for, seen}
use Rattle.cell_values.specs.Cells.{cell_of, is_named, is_in_some, days_in, aggregate_of}
use Rattle.cell_values.specs.Parts.{value_in, is_group_asked}
use Rattle.cell_values.specs.Items.{named_combo, item_value_of}
use Rattle.cell_values.specs.Plans.{is_group_read, inside, IsElementPlan, operand_value, operand, operand_of, rate_named, rate_asked_of, other_value_of}
use Rattle.cell_values.proofs.PartLemmas.{filter_both}
use Rattle.cell_values.proofs.GlueLemmas.{element-value}

-- ---- groups

period_last : (c a s m p : Bool) → ((c && (a && (s && m))) && p) ≡ (c && (a && (p && (s && m))))
period_last false a s m p = refl
period_last true false s m p = refl
period_last true true false m true = refl
period_last true true false m false = refl
period_last true true true true p = period_alone p
  where
    period_alone : (p : Bool) → p ≡ (p && true)
    period_alone true = refl
    period_alone false = refl
period_last true true true false true = refl
period_last true true true false false = refl

group_asked : (r : Records) (user : ℕ) (combo attribute : Option ℕ) (periods : List PeriodName) (group : Group)
    → (is_group_read r user combo attribute group && is_in_some periods group.period) ≡ is_group_asked r user combo attribute periods group
unfolding is_group_read is_group_asked
group_asked r user combo attribute periods group =
    period_last (is_named combo group.combo) (is_named attribute group.attribute) (sees_attribute r user group.attribute)
    (may_of r user Read kind.DataElement group.element) (is_in_some periods group.period)

-- the groups inside the periods are those that the cell asks for
pub inside-asked : (r : Records) (user : ℕ) (combo attribute : Option ℕ) (periods : List PeriodName) (groups : List Group)
    → inside periods (filter (is_group_read r user combo attribute) groups) ≡ filter (is_group_asked r user combo attribute periods) groups
inside-asked r user combo attribute periods groups =
    filter_both (is_group_read r user combo attribute) (λ (group : Group). is_in_some periods group.period) groups
    ∙ filter-same (λ (group : Group). is_group_read r user combo attribute group && is_in_some periods group.period)
    (is_group_asked r user combo attribute periods) groups (group_asked r user combo attribute periods)

pub plan-asked : (r : Records) (user : ℕ) (rows : List Row) (plan : ElementPlan) (periods : List PeriodName) (groups : List Group)
    → IsElementPlan r user rows plan → groups ≡ inside periods plan.groups
    → groups ≡ filter (is_group_asked r user plan.operand.combo plan.operand.attribute periods) (groups_of plan.operand.element rows)
plan-asked r user rows plan periods groups is within =
    within ∙ ap (inside periods) is.groups ∙ inside-asked r user plan.operand.combo plan.operand.attribute periods (groups_of plan.operand.element rows)

-- ---- elements

of_kind : (found : Option Element) (k : AggType) → option_map (λ (e : Element). e.aggregation_type) found ≡ Some k
    → (e : Element) × ((found ≡ Some e) × (k ≡ e.aggregation_type))
of_kind None k is = absurd (cc)
of_kind (Some e) k is = (e, (refl, cc))

pub element-planned : (r : Records) (user : ℕ) (rows : List Row) (plan : ElementPlan) (periods : List PeriodName) (groups : List Group) (units : List ℕ)
    (alone : Bool) (ranges : List (ℕ × ℕ)) (days : ℕ)
    → rises row_cmp rows ≡ true → AreApart ranges → AreSeenOrders r user alone units ranges
    → IsElementPlan r user rows plan → groups ≡ inside periods plan.groups → days ≡ days_in periods
    → value_in rows plan.kind groups plan.need ranges days
    ≡ aggregate_of r (seen r user rows) (cell_of plan.operand.element plan.operand.combo plan.operand.attribute periods units alone)
element-planned r user rows plan periods groups units alone ranges days up apart are is within counted =
    let element = plan.operand.element in
    let found = filter (is_group_asked r user plan.operand.combo plan.operand.attribute periods) (groups_of element rows) in
    let of = of_kind (slice_get r.data_elements element) plan.kind is.kind in
    ap (λ gs. value_in rows plan.kind gs plan.need ranges days) (plan-asked r user rows plan periods groups is within)
    ∙ ap (λ k. value_in rows k found plan.need ranges days) of.1.1
    ∙ ap (λ n. value_in rows of.0.aggregation_type found n ranges days) is.need
    ∙ ap (λ d. value_in rows of.0.aggregation_type found (need_for r user element) ranges d) counted
    ∙ element-value r user element plan.operand.combo plan.operand.attribute periods units alone ranges rows of.0 up apart are of.1.0

-- ---- items

same_inside : {X : Type 0} (x y : X) → Some x ≡ Some y → x ≡ y
same_inside x y is = cc

module _ (r : Records) (shown : SeenRecords) (periods : List PeriodName) (units : List ℕ) (alone : Bool) where
  abbrev by_parts : Option ℕ → Option (Option ℕ) → Option (Option ℕ) → Option Fraction
  by_parts element combo attribute =
      option_and_then (λ e. option_and_then (λ c. option_and_then (λ a. aggregate_of r shown.samples (cell_of e c a periods units alone))
      attribute) combo) element

  abbrev operand_by : Option ℕ → Option (Option ℕ) → Option (Option ℕ) → Option Operand
  operand_by element combo attribute =
      option_and_then (λ e. option_and_then (λ c. option_map (λ a. operand e c a) attribute) combo) element

  parts-operand : (element : Option ℕ) (combo attribute : Option (Option ℕ)) (o : Operand) → operand_by element combo attribute ≡ Some o
      → by_parts element combo attribute ≡ operand_value r shown o periods units alone
  parts-operand None combo attribute o is = absurd (cc)
  parts-operand (Some e) None attribute o is = absurd (cc)
  parts-operand (Some e) (Some c) None o is = absurd (cc)
  parts-operand (Some e) (Some c) (Some a) o is = ap (λ v. operand_value r shown v periods units alone) (same_inside (operand e c a) o is)

  parts-none : (element : Option ℕ) (combo attribute : Option (Option ℕ)) → operand_by element combo attribute ≡ None → by_parts element combo attribute ≡ None
  parts-none None combo attribute is = refl
  parts-none (Some e) None attribute is = refl
  parts-none (Some e) (Some c) None is = refl
  parts-none (Some e) (Some c) (Some a) is = absurd (cc)

  -- the value of an item of an operand
  pub item-operand : (asked : Item) (o : Operand) → operand_of r asked ≡ Some o
      → item_value_of r shown asked periods units alone ≡ operand_value r shown o periods units alone
  unfolding item_value_of
  item-operand (item.Element element combo attribute) o is =
      parts-operand (find_of r kind.DataElement element) (named_combo r combo) (named_combo r attribute) o is
  item-operand (item.Constant id) o is = absurd (cc)
  item-operand (item.Group id) o is = absurd (cc)
  item-operand item.Days o is = absurd (cc)
  item-operand (item.Rate set figure) o is = absurd (cc)
  item-operand (item.StageElement stage element) o is = absurd (cc)
  item-operand (item.Attribute id) o is = absurd (cc)
  item-operand item.EventDate o is = absurd (cc)
  item-operand item.EnrollmentDate o is = absurd (cc)
  item-operand item.EventCount o is = absurd (cc)
  item-operand item.EnrollmentCount o is = absurd (cc)
  item-operand item.EntityCount o is = absurd (cc)

  rate-parts : (which : Rate) (set : Option ℕ) (o : RateAsked) → option_map (λ n. rate_named which n) set ≡ Some o
      → option_and_then (λ n. rate_of r which n periods units shown.regs alone) set ≡ rate_of r o.which o.set periods units shown.regs alone
  rate-parts which None o is = absurd (cc)
  rate-parts which (Some n) o is = ap (λ (v : RateAsked). rate_of r v.which v.set periods units shown.regs alone) (same_inside (rate_named which n) o is)

  rate-none : (which : Rate) (set : Option ℕ) → option_map (λ n. rate_named which n) set ≡ None
      → option_and_then (λ n. rate_of r which n periods units shown.regs alone) set ≡ None
  rate-none which None is = refl
  rate-none which (Some n) is = absurd (cc)

  -- the value of an item of a rate
  pub item-rate : (asked : Item) (o : RateAsked) → rate_asked_of r asked ≡ Some o
      → item_value_of r shown asked periods units alone ≡ rate_of r o.which o.set periods units shown.regs alone
  unfolding item_value_of
  item-rate (item.Rate set which) o is = rate-parts which (find_of r kind.DataSet set) o is
  item-rate (item.Element element combo attribute) o is = absurd (cc)
  item-rate (item.Constant id) o is = absurd (cc)
  item-rate (item.Group id) o is = absurd (cc)
  item-rate item.Days o is = absurd (cc)
  item-rate (item.StageElement stage element) o is = absurd (cc)
  item-rate (item.Attribute id) o is = absurd (cc)
  item-rate item.EventDate o is = absurd (cc)
  item-rate item.EnrollmentDate o is = absurd (cc)
  item-rate item.EventCount o is = absurd (cc)
  item-rate item.EnrollmentCount o is = absurd (cc)
  item-rate item.EntityCount o is = absurd (cc)

  -- the value of an item without an operand and without a rate
  pub item-other : (asked : Item) → operand_of r asked ≡ None → rate_asked_of r asked ≡ None
      → item_value_of r shown asked periods units alone ≡ other_value_of r asked periods units alone
  unfolding item_value_of
  item-other (item.Element element combo attribute) is no_rate = parts-none (find_of r kind.DataElement element) (named_combo r combo)
      (named_combo r attribute) is
  item-other (item.Constant id) is no_rate = refl
  item-other (item.Group id) is no_rate = refl
  item-other item.Days is no_rate = refl
  item-other (item.Rate set which) is no_rate = rate-none which (find_of r kind.DataSet set) no_rate
  item-other (item.StageElement stage element) is no_rate = refl
  item-other (item.Attribute id) is no_rate = refl
  item-other item.EventDate is no_rate = refl
  item-other item.EnrollmentDate is no_rate = refl
  item-other item.EventCount is no_rate = refl
  item-other item.EnrollmentCount is no_rate = refl
  item-other item.EntityCount is no_rate = refl

-- a plan more is one of the next item
-- a loop over members that lists what f makes of each
pub mapped-more : {X Y : Type 0} (f : X → Y) (xs : List X) (found more : List Y) (i : ℕ) (x : X) (y : Y) → i < length xs → x ≡ get_or xs i x
    → found ≡ map f (take i xs) → more ≡ found ++ y ∷ [] → y ≡ f x → more ≡ map f (take (i + 1) xs)
mapped-more f xs found more i x y within at before is made =
    is
    ∙ ap (λ v. found ++ v ∷ []) (made ∙ ap f at)
    ∙ ap (λ all. all ++ f (get_or xs i x) ∷ []) before
    ∙ sym (map_more f xs i x within)

-- a loop over members that keeps those that pass a test
pub kept-more : {X : Type 0} (p : X → Bool) (xs found more : List X) (i : ℕ) (x : X) (b : Bool) → i < length xs → x ≡ get_or xs i x
    → found ≡ filter p (take i xs) → more ≡ found ++ cond b (x ∷ []) [] → b ≡ p x → more ≡ filter p (take (i + 1) xs)
kept-more p xs found more i x b within at before is passes =
    is
    ∙ ap (λ v. found ++ cond v (x ∷ []) []) passes
    ∙ ap (λ y. found ++ cond (p y) (y ∷ []) []) at
    ∙ ap (λ all. all ++ cond (p (get_or xs i x)) (get_or xs i x ∷ []) []) before
    ∙ sym (filter_more p xs i x within)

pub items-more : (plans after : List ItemPlan) (plan : ItemPlan) (items : List Item) (i : ℕ) (x : Item)
    → after ≡ plans ++ plan ∷ [] → map (λ (p : ItemPlan). p.item) plans ≡ take i items → i < length items → get_or items i x ≡ x → plan.item ≡ x
    → map (λ (p : ItemPlan). p.item) after ≡ take (i + 1) items
items-more plans after plan items i x is before within at of =
    ap (map (λ (p : ItemPlan). p.item)) is
    ∙ map-append (λ (p : ItemPlan). p.item) plans (plan ∷ [])
    ∙ ap (λ (xs : List Item). xs ++ plan.item ∷ []) before
    ∙ ap (λ (v : Item). take i items ++ v ∷ []) (of ∙ sym at)
    ∙ sym (take_more items i x within)

-- what is made of one more stands after what was there at the start, and what is made of those before it
pub mapped-after : {X Y : Type 0} (f : X → Y) (xs : List X) (start found more : List Y) (i : ℕ) (x : X) (y : Y) → i < length xs → x ≡ get_or xs i x
    → found ≡ start ++ map f (take i xs) → more ≡ found ++ y ∷ [] → y ≡ f x → more ≡ start ++ map f (take (i + 1) xs)
mapped-after f xs start found more i x y within at before is made =
    is
    ∙ ap (λ v. found ++ v ∷ []) (made ∙ ap f at)
    ∙ ap (λ all. all ++ f (get_or xs i x) ∷ []) before
    ∙ append_assoc start (map f (take i xs)) (f (get_or xs i x) ∷ [])
    ∙ ap (λ all. start ++ all) (sym (map_more f xs i x within))

-- what comes of one more, where something is made of those that are left too
pub taken-more : {X Y : Type 0} (F : List X → List Y) (one : X → List Y) → ((x : X) (more : List X) → F (x ∷ more) ≡ one x ++ F more)
    → (xs : List X) (i : ℕ) (x : X) (found new whole : List Y) → i < length xs → x ≡ get_or xs i x → found ++ F (drop i xs) ≡ whole → new ≡ found ++ one x
    → new ++ F (drop (i + 1) xs) ≡ whole
taken-more F one rule xs i x found new whole within at before is =
    let left = drop (i + 1) xs in
    ap (λ l. l ++ F left) is
    ∙ append_assoc found (one x) (F left)
    ∙ ap (λ l. found ++ l) (sym (ap F (drop_more xs i x within ∙ ap (λ y. y ∷ left) (sym at)) ∙ rule x left))
    ∙ before
