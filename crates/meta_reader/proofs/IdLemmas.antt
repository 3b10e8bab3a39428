-- The identifiers and the numbers of objects.
use Rattle.std.proofs.Common.{◌≡◌, ◌∙◌, ℕ, zero, suc, ◌+◌, ◌<◌, ◌≤◌, ◌^◌, Bool, true, false, cond, List, [], ◌∷◌, ◌++◌, ◌||◌, length, length-append, map}
use Rattle.std.proofs.Common.{get_or, Option, Some, None, option_map, refl, sym, ap, subst, arith, inl, inr}
use Rattle.std.specs.Prelude.{slice_get, slice_index_or, nat_lt, ℤ}
use Rattle.std.specs.List.{flat_map, list_any, find}
use Rattle.std.specs.Option.{option_or, option_map_or}
use Rattle.std.proofs.lemmas.List.{length-map}
use Rattle.std.proofs.lemmas.Bool.{cases_lt, lt-ltb}
use Rattle.std.proofs.Math.ListN.{get_or-append}
use Rattle.dh_metadata.specs.Places.{repeat_of}
use Rattle.dh_metadata.proofs.DistinctLemmas.{repeat_of-differ}
use Rattle.org_tree.specs.Units.{HasOwnIds, id_at}
use Rattle.dh_categories.specs.Single.{CombosBelow}
use Rattle.dh_metadata.specs.declared.kind.Kind.{Kind}
use Rattle.dh_metadata.specs.declared.kind.Kind.TheVariants as kind
use Rattle.dh_metadata.specs.declared.parts.MetaParts.{MetaParts}
use Rattle.dh_metadata.specs.declared.held.Records.{Records}
use Rattle.dh_metadata.specs.declared.raw.RawUnit.{RawUnit}
use Rattle.dh_metadata.specs.declared.raw.RawOptionCombo.{RawOptionCombo}
use Rattle.dh_metadata.specs.Ids.{ids_of, ids_in, ids_at, kinds, joined, all_ids, repeated, user_of_repeated, twice_of}
use Rattle.meta_links.specs.Reference.{Reference, one, several, number_of, field_path}
use Rattle.meta_links.specs.Table.{option_combo_references, references_in, token_references, references}
use Rattle.meta_links.specs.Held.{numbers_of, unit_held, unit_group_held, category_option_held, category_held, category_combo_held, option_combo_held}
use Rattle.meta_links.specs.Held.{element_held, approval_level_held, workflow_held, data_set_held, constant_held, indicator_type_held, indicator_held}
use Rattle.meta_links.specs.Held.{rule_held, entity_type_held, attribute_held, program_held, stage_held, program_indicator_held, role_held, user_held}
use Rattle.meta_links.specs.Held.{user_group_held, built_in_combo, built_in_option_combo, links_of}
use lib.Chars.{codes}
use Rattle.dh_metadata.specs.Rows.{tree_rows, option_combo_rows}
use Rattle.meta_rules.specs.declared.limits.LimitFault.{LimitFault}
use Rattle.meta_rules.specs.declared.limits.LimitFault.TheVariants as limit
use Rattle.meta_rules.specs.Limits.{limits, objects_of, passes, first_passed}
use Rattle.meta_rules.specs.Days.{days_of}
use Rattle.meta_rules.specs.Read.{Meaning}
use Rattle.meta_rules.specs.Objects.{made_of, indicator_in, rule_in, program_indicator_in}
use Rattle.dh_metadata.specs.Objects.{HaveIds, count_of}
use Rattle.dh_metadata.specs.Known.{AreFew}
use Rattle.dh_metadata.specs.Linked.{Each}
use Rattle.dh_metadata.proofs.IdLemmas.{ids_count}
use Rattle.meta_reader.specs.Records.{links_in, records_in}
use Rattle.meta_reader.proofs.KnownLemmas.{Ids, Known, known_parts, known_at, one_below, cons_each, none_each}

map_held : {A B C : Type 0} (f : A → C) (g : B → C) (held : A → B) → ((a : A) → f a ≡ g (held a)) → (xs : List A) → map f xs ≡ map g (map held xs)
map_held f g held same [] = refl
map_held f g held same (x ∷ xs) = ap (λ y. y ∷ map f xs) (same x) ∙ ap (λ ys. g (held x) ∷ ys) (map_held f g held same xs)

map_made : {A B C D : Type 0} (f : A → D) (g : C → D) (make : A → B → C) (held : A → B) → ((a : A) → g (make a (held a)) ≡ f a)
    → (xs : List A) → map f xs ≡ map g (made_of make xs (map held xs))
map_made f g make held same [] = refl
map_made f g make held same (x ∷ xs) =
    ap (λ y. y ∷ map f xs) (sym (same x)) ∙ ap (λ ys. g (make x (held x)) ∷ ys) (map_made f g make held same xs)

-- the identifiers of the objects are those of the file
pub have_ids : (meaning : Meaning) (parts : MetaParts) → HaveIds (records_in meaning parts) (ids_of parts)
unfolding ids_of links_of unit_held unit_group_held category_option_held category_held category_combo_held option_combo_held element_held approval_level_held
    workflow_held data_set_held constant_held indicator_type_held indicator_held rule_held entity_type_held attribute_held program_held stage_held
    program_indicator_held role_held user_held user_group_held built_in_combo built_in_option_combo
have_ids meaning parts kind.OrganisationUnit = map_held _ _ (unit_held (ids_of parts)) (λ a. refl) parts.organisation_units
have_ids meaning parts kind.OrganisationUnitGroup = map_held _ _ (unit_group_held (ids_of parts)) (λ a. refl) parts.organisation_unit_groups
have_ids meaning parts kind.CategoryOption = map_held _ _ (category_option_held (ids_of parts)) (λ a. refl) parts.category_options
have_ids meaning parts kind.Category = map_held _ _ (category_held (ids_of parts)) (λ a. refl) parts.categories
have_ids meaning parts kind.CategoryCombo =
    ap (λ ids. built_in_combo.id ∷ ids) (map_held _ _ (category_combo_held (ids_of parts)) (λ a. refl) parts.category_combos)
have_ids meaning parts kind.CategoryOptionCombo =
    ap (λ ids. built_in_option_combo.id ∷ ids) (map_held _ _ (option_combo_held (ids_of parts)) (λ a. refl) parts.category_option_combos)
have_ids meaning parts kind.DataElement = map_held _ _ (element_held (ids_of parts)) (λ a. refl) parts.data_elements
have_ids meaning parts kind.ApprovalLevel = map_held _ _ (approval_level_held (ids_of parts)) (λ a. refl) parts.data_approval_levels
have_ids meaning parts kind.Workflow = map_held _ _ (workflow_held (ids_of parts)) (λ a. refl) parts.data_approval_workflows
have_ids meaning parts kind.DataSet = map_held _ _ (data_set_held (ids_of parts)) (λ a. refl) parts.data_sets
have_ids meaning parts kind.Constant = map_held _ _ (constant_held (ids_of parts)) (λ a. refl) parts.constants
have_ids meaning parts kind.IndicatorType = map_held _ _ (indicator_type_held (ids_of parts)) (λ a. refl) parts.indicator_types
have_ids meaning parts kind.Indicator = map_made _ _ (indicator_in meaning (days_of parts)) (indicator_held (ids_of parts)) (λ a. refl) parts.indicators
have_ids meaning parts kind.ValidationRule = map_made _ _ (rule_in meaning (days_of parts)) (rule_held (ids_of parts)) (λ a. refl) parts.validation_rules
have_ids meaning parts kind.TrackedEntityType = map_held _ _ (entity_type_held (ids_of parts)) (λ a. refl) parts.tracked_entity_types
have_ids meaning parts kind.TrackedEntityAttribute = map_held _ _ (attribute_held (ids_of parts)) (λ a. refl) parts.tracked_entity_attributes
have_ids meaning parts kind.Program = map_held _ _ (program_held (ids_of parts)) (λ a. refl) parts.programs
have_ids meaning parts kind.ProgramStage = map_held _ _ (stage_held (ids_of parts)) (λ a. refl) parts.program_stages
have_ids meaning parts kind.ProgramIndicator =
    map_made _ _ (program_indicator_in meaning (days_of parts)) (program_indicator_held (ids_of parts)) (λ a. refl) parts.program_indicators
have_ids meaning parts kind.UserRole = map_held _ _ (role_held (ids_of parts)) (λ a. refl) parts.user_roles
have_ids meaning parts kind.User = map_held _ _ (user_held (ids_of parts)) (λ a. refl) parts.users
have_ids meaning parts kind.UserGroup = map_held _ _ (user_group_held (ids_of parts)) (λ a. refl) parts.user_groups

-- so there are as many identifiers of each kind as objects
pub counts : (ids : Ids) (r : Records) → HaveIds r ids → (of_kind : Kind) → length (ids_at ids of_kind) ≡ count_of r of_kind
counts ids r have of_kind = ap length (have of_kind) ∙ ids_count r of_kind

find_none : {A : Type 0} (test : A → Bool) (xs : List A) (n : ℕ) (x : A) → find test xs ≡ None → slice_get xs n ≡ Some x → test x ≡ false
find_none test [] n x none at = absurd (cc)
find_none test (y ∷ xs) zero x none at =
    let same : y ≡ x = cc in
    ap test (sym same) ∙ elim (test y) as (λ b. cond b (Some y) (find test xs) ≡ None → b ≡ false) [ true ↦ λ some. absurd (cc) | false ↦ λ rest. refl ] none
find_none test (y ∷ xs) (suc n) x none at =
    find_none test xs n x (elim (test y) as (λ b. cond b (Some y) (find test xs) ≡ None
    → find test xs ≡ None) [ true ↦ λ some. absurd (cc) | false ↦ λ rest. rest ] none) at

at_most : (most n : ℕ) → nat_lt most n ≡ false → n ≤ most
at_most most n none =
    elim (cases_lt most n) [ inl less ↦ (let is : nat_lt most n ≡ true = lt-ltb most n less in absurd (cc)) | inr past ↦ past ]

few_of : (most count raw : ℕ) → nat_lt most raw ≡ false → count ≤ raw + 1 → most ≤ 65536 → count < 2 ^ 32
few_of most count raw none within small = let below = at_most most raw none in omega arith

-- where no limit is passed there are fewer than 2^32 objects of each kind
pub are_few : (parts : MetaParts) (positions : List (List ℤ)) (r : Records) → HaveIds r (ids_of parts) → first_passed parts positions ≡ None → AreFew r
unfolding first_passed ids_of
are_few parts positions r have none kind.OrganisationUnit =
    few_of _ (count_of r kind.OrganisationUnit) (length parts.organisation_units)
    (find_none (passes parts positions) limits 0 (limit.Objects kind.OrganisationUnit) none refl) (let same =
    counts (ids_of parts) r have kind.OrganisationUnit in let own = length-map parts.organisation_units (λ o. o.id) in omega arith) (omega arith)
are_few parts positions r have none kind.OrganisationUnitGroup =
    few_of _ (count_of r kind.OrganisationUnitGroup) (length parts.organisation_unit_groups)
    (find_none (passes parts positions) limits 1 (limit.Objects kind.OrganisationUnitGroup) none refl) (let same =
    counts (ids_of parts) r have kind.OrganisationUnitGroup in let own = length-map parts.organisation_unit_groups (λ o. o.id) in omega arith) (omega arith)
are_few parts positions r have none kind.CategoryOption =
    few_of _ (count_of r kind.CategoryOption) (length parts.category_options)
    (find_none (passes parts positions) limits 2 (limit.Objects kind.CategoryOption) none refl) (let same =
    counts (ids_of parts) r have kind.CategoryOption in let own = length-map parts.category_options (λ o. o.id) in omega arith) (omega arith)
are_few parts positions r have none kind.Category =
    few_of _ (count_of r kind.Category) (length parts.categories) (find_none (passes parts positions) limits 3 (limit.Objects kind.Category) none refl)
    (let same = counts (ids_of parts) r have kind.Category in let own = length-map parts.categories (λ o. o.id) in omega arith) (omega arith)
are_few parts positions r have none kind.CategoryCombo =
    few_of _ (count_of r kind.CategoryCombo) (length parts.category_combos)
    (find_none (passes parts positions) limits 4 (limit.Objects kind.CategoryCombo) none refl) (let same =
    counts (ids_of parts) r have kind.CategoryCombo in let own = length-map parts.category_combos (λ o. o.id) in omega arith) (omega arith)
are_few parts positions r have none kind.CategoryOptionCombo =
    few_of _ (count_of r kind.CategoryOptionCombo) (length parts.category_option_combos)
    (find_none (passes parts positions) limits 5 (limit.Objects kind.CategoryOptionCombo) none refl) (let same =
    counts (ids_of parts) r have kind.CategoryOptionCombo in let own = length-map parts.category_option_combos (λ o. o.id) in omega arith) (omega arith)
are_few parts positions r have none kind.DataElement =
    few_of _ (count_of r kind.DataElement) (length parts.data_elements) (find_none (passes parts positions) limits 6 (limit.Objects kind.DataElement) none refl)
    (let same = counts (ids_of parts) r have kind.DataElement in let own = length-map parts.data_elements (λ o. o.id) in omega arith) (omega arith)
are_few parts positions r have none kind.ApprovalLevel =
    few_of _ (count_of r kind.ApprovalLevel) (length parts.data_approval_levels)
    (find_none (passes parts positions) limits 7 (limit.Objects kind.ApprovalLevel) none refl) (let same =
    counts (ids_of parts) r have kind.ApprovalLevel in let own = length-map parts.data_approval_levels (λ o. o.id) in omega arith) (omega arith)
are_few parts positions r have none kind.Workflow =
    few_of _ (count_of r kind.Workflow) (length parts.data_approval_workflows)
    (find_none (passes parts positions) limits 8 (limit.Objects kind.Workflow) none refl) (let same = counts (ids_of parts) r have kind.Workflow in let own =
    length-map parts.data_approval_workflows (λ o. o.id) in omega arith) (omega arith)
are_few parts positions r have none kind.DataSet =
    few_of _ (count_of r kind.DataSet) (length parts.data_sets) (find_none (passes parts positions) limits 10 (limit.Objects kind.DataSet) none refl)
    (let same = counts (ids_of parts) r have kind.DataSet in let own = length-map parts.data_sets (λ o. o.id) in omega arith) (omega arith)
are_few parts positions r have none kind.Constant =
    few_of _ (count_of r kind.Constant) (length parts.constants) (find_none (passes parts positions) limits 11 (limit.Objects kind.Constant) none refl)
    (let same = counts (ids_of parts) r have kind.Constant in let own = length-map parts.constants (λ o. o.id) in omega arith) (omega arith)
are_few parts positions r have none kind.IndicatorType =
    few_of _ (count_of r kind.IndicatorType) (length parts.indicator_types)
    (find_none (passes parts positions) limits 12 (limit.Objects kind.IndicatorType) none refl) (let same =
    counts (ids_of parts) r have kind.IndicatorType in let own = length-map parts.indicator_types (λ o. o.id) in omega arith) (omega arith)
are_few parts positions r have none kind.Indicator =
    few_of _ (count_of r kind.Indicator) (length parts.indicators) (find_none (passes parts positions) limits 13 (limit.Objects kind.Indicator) none refl)
    (let same = counts (ids_of parts) r have kind.Indicator in let own = length-map parts.indicators (λ o. o.id) in omega arith) (omega arith)
are_few parts positions r have none kind.ValidationRule =
    few_of _ (count_of r kind.ValidationRule) (length parts.validation_rules)
    (find_none (passes parts positions) limits 14 (limit.Objects kind.ValidationRule) none refl) (let same =
    counts (ids_of parts) r have kind.ValidationRule in let own = length-map parts.validation_rules (λ o. o.id) in omega arith) (omega arith)
are_few parts positions r have none kind.TrackedEntityType =
    few_of _ (count_of r kind.TrackedEntityType) (length parts.tracked_entity_types)
    (find_none (passes parts positions) limits 15 (limit.Objects kind.TrackedEntityType) none refl) (let same =
    counts (ids_of parts) r have kind.TrackedEntityType in let own = length-map parts.tracked_entity_types (λ o. o.id) in omega arith) (omega arith)
are_few parts positions r have none kind.TrackedEntityAttribute =
    few_of _ (count_of r kind.TrackedEntityAttribute) (length parts.tracked_entity_attributes)
    (find_none (passes parts positions) limits 16 (limit.Objects kind.TrackedEntityAttribute) none refl) (let same =
    counts (ids_of parts) r have kind.TrackedEntityAttribute in let own = length-map parts.tracked_entity_attributes (λ o. o.id) in omega arith) (omega arith)
are_few parts positions r have none kind.Program =
    few_of _ (count_of r kind.Program) (length parts.programs) (find_none (passes parts positions) limits 17 (limit.Objects kind.Program) none refl) (let same =
    counts (ids_of parts) r have kind.Program in let own = length-map parts.programs (λ o. o.id) in omega arith) (omega arith)
are_few parts positions r have none kind.ProgramStage =
    few_of _ (count_of r kind.ProgramStage) (length parts.program_stages)
    (find_none (passes parts positions) limits 18 (limit.Objects kind.ProgramStage) none refl) (let same =
    counts (ids_of parts) r have kind.ProgramStage in let own = length-map parts.program_stages (λ o. o.id) in omega arith) (omega arith)
are_few parts positions r have none kind.ProgramIndicator =
    few_of _ (count_of r kind.ProgramIndicator) (length parts.program_indicators)
    (find_none (passes parts positions) limits 19 (limit.Objects kind.ProgramIndicator) none refl) (let same =
    counts (ids_of parts) r have kind.ProgramIndicator in let own = length-map parts.program_indicators (λ o. o.id) in omega arith) (omega arith)
are_few parts positions r have none kind.UserRole =
    few_of _ (count_of r kind.UserRole) (length parts.user_roles) (find_none (passes parts positions) limits 20 (limit.Objects kind.UserRole) none refl)
    (let same = counts (ids_of parts) r have kind.UserRole in let own = length-map parts.user_roles (λ o. o.id) in omega arith) (omega arith)
are_few parts positions r have none kind.User =
    few_of _ (count_of r kind.User) (length parts.users) (find_none (passes parts positions) limits 21 (limit.Objects kind.User) none refl) (let same =
    counts (ids_of parts) r have kind.User in let own = length-map parts.users (λ o. o.id) in omega arith) (omega arith)
are_few parts positions r have none kind.UserGroup =
    few_of _ (count_of r kind.UserGroup) (length parts.user_groups) (find_none (passes parts positions) limits 22 (limit.Objects kind.UserGroup) none refl)
    (let same = counts (ids_of parts) r have kind.UserGroup in let own = length-map parts.user_groups (λ o. o.id) in omega arith) (omega arith)

list_any_none : (test : List ℤ → Bool) (xs : List (List ℤ)) → list_any test xs ≡ false → Each (λ x. test x ≡ false) xs
list_any_none test [] none = none_each (λ x. test x ≡ false)
list_any_none test (y ∷ xs) none =
    elim (test y) as (λ b. test y ≡ b → (b || list_any test xs) ≡ false → Each (λ x. test x ≡ false) (y ∷ xs)) [
      | true ↦ λ is some. absurd (cc)
      | false ↦ λ is rest. cons_each (λ x. test x ≡ false) y xs is (list_any_none test xs rest)
    ] refl none

-- and each workflow has at most eight positions
pub few_positions : (parts : MetaParts) (positions : List (List ℤ)) → first_passed parts positions ≡ None → Each (λ own. length own ≤ 8) positions
unfolding first_passed
few_positions parts positions none n own at =
    at_most 8 (length own) (list_any_none (λ x. nat_lt 8 (length x)) positions (find_none (passes parts positions) limits 9 limit.Levels none refl) n own at)

-- identifiers of which none is told twice have no repeat
none_repeats : (ids : List (List ℕ)) → repeated ids ≡ None → repeat_of ids ≡ None
none_repeats ids none =
    elim (repeat_of ids) as (λ o. option_map (λ place. get_or ids place []) o ≡ None → o ≡ None) [ None ↦ λ is. refl | Some place ↦ λ is. absurd (cc) ] none

or_first : (x y : Option (List ℕ)) → option_or x y ≡ None → x ≡ None
or_first None y none = refl
or_first (Some x) y none = absurd (cc)

unit_id : (ids : Ids) (units : List RawUnit) (x : ℕ) → id_at (tree_rows (map (unit_held ids) units)) x ≡ get_or (map (λ (unit : RawUnit). unit.id) units) x []
unfolding unit_held
unit_id ids [] zero = refl
unit_id ids [] (suc x) = refl
unit_id ids (unit ∷ units) zero = refl
unit_id ids (unit ∷ units) (suc x) = unit_id ids units x

row_count : (ids : Ids) (units : List RawUnit) → length (tree_rows (map (unit_held ids) units)) ≡ length (map (λ (unit : RawUnit). unit.id) units)
row_count ids [] = refl
row_count ids (unit ∷ units) = ap suc (row_count ids units)

-- where nothing stands twice the identifiers of the units differ
pub own_ids : (ids : Ids) (parts : MetaParts) → twice_of parts ≡ None → HasOwnIds (tree_rows (links_of ids parts).organisation_units)
unfolding twice_of all_ids ids_of links_of
own_ids ids parts none =
    let own : List (List ℕ) = map (λ (unit : RawUnit). unit.id) parts.organisation_units in
    let others : List (List ℕ) =
    flat_map (λ of_kind. of_kind) (map (ids_in parts)
    (kind.OrganisationUnitGroup ∷ kind.CategoryOption ∷ kind.Category ∷ kind.CategoryCombo ∷ kind.CategoryOptionCombo ∷ kind.DataElement ∷
    kind.ApprovalLevel ∷ kind.Workflow ∷ kind.DataSet ∷ kind.Constant ∷ kind.IndicatorType ∷ kind.Indicator ∷ kind.ValidationRule ∷ kind.TrackedEntityType ∷
    kind.TrackedEntityAttribute ∷ kind.Program ∷ kind.ProgramStage ∷ kind.ProgramIndicator ∷ kind.UserRole ∷ kind.User ∷ kind.UserGroup ∷ [])) in
    let all : repeat_of (own ++ others) ≡ None = none_repeats (own ++ others) (or_first (repeated (own ++ others)) (user_of_repeated parts.api_tokens) none) in
    let number = row_count ids parts.organisation_units in
    let long = length-append own others in
    record {
      differ = λ x y left right same.
          (let left_within : x < length own = omega arith in
          let right_within : y < length own = omega arith in
          repeat_of-differ (own ++ others) all x y (omega arith) (omega arith)
          (get_or-append own others [] x left_within ∙ sym (unit_id ids parts.organisation_units x) ∙ same ∙ unit_id ids parts.organisation_units y
          ∙ sym (get_or-append own others [] y right_within)));
    }

combo_at : (end : ℕ) (row : ℕ × List ℕ) (rows : List (ℕ × List ℕ)) → row.0 < end → CombosBelow end rows → (k : ℕ) → k < length (row ∷ rows)
    → (slice_index_or (row ∷ rows) k (0, [])).0 < end
combo_at end row rows first rest zero within = first
combo_at end row rows first rest (suc k) within = rest.below k (omega arith)

cons_combo : (end : ℕ) (row : ℕ × List ℕ) (rows : List (ℕ × List ℕ)) → row.0 < end → CombosBelow end rows → CombosBelow end (row ∷ rows)
cons_combo end row rows first rest = record { below = combo_at end row rows first rest }

combos_from : (ids : Ids) (raws : List RawOptionCombo) → Known ids (flat_map option_combo_references raws)
    → CombosBelow (length (ids_at ids kind.CategoryCombo)) (option_combo_rows (map (option_combo_held ids) raws))
unfolding option_combo_references option_combo_held
combos_from ids [] known = record { below = λ k within. absurd (omega arith) }
combos_from ids (raw ∷ raws) known =
    let both = known_parts ids (option_combo_references raw) (flat_map option_combo_references raws) known in
    let own =
    known_parts ids (one (field_path kind.CategoryOptionCombo raw.place (codes "categoryCombo")) kind.CategoryCombo raw.category_combo)
    (several (field_path kind.CategoryOptionCombo raw.place (codes "categoryOptions")) kind.CategoryOption raw.category_options) both.0 in
    cons_combo (length (ids_at ids kind.CategoryCombo)) (
      number_of ids kind.CategoryCombo raw.category_combo,
      numbers_of ids kind.CategoryOption raw.category_options,
    ) (option_combo_rows (map (option_combo_held ids) raws))
    (one_below ids _ kind.CategoryCombo raw.category_combo own.0) (combos_from ids raws both.1)

-- where references are known the option combinations name combinations
pub combos_below : (parts : MetaParts) → Known (ids_of parts) (references parts)
    → CombosBelow (length (links_in parts).category_combos) (option_combo_rows (links_in parts).category_option_combos)
unfolding references links_of built_in_option_combo ids_of
combos_below parts known =
    let ids : Ids = ids_of parts in
    let both = known_parts ids (flat_map (references_in parts) kinds) (token_references parts.api_tokens) known in
    let own : Known ids (flat_map option_combo_references parts.category_option_combos) =
    known_at ids (references_in parts) kinds 5 kind.CategoryOptionCombo both.0 refl in
    let held = length-map parts.category_combos (category_combo_held ids) in
    let named = length-map parts.category_combos (λ o. o.id) in
    let same : length (ids_at ids kind.CategoryCombo) ≡ length (links_in parts).category_combos = omega arith in
    cons_combo (length (links_in parts).category_combos) (0, []) (option_combo_rows (map (option_combo_held ids) parts.category_option_combos)) (omega arith)
    (subst (λ n. CombosBelow n (option_combo_rows (map (option_combo_held ids) parts.category_option_combos))) same
    (combos_from ids parts.category_option_combos own))
