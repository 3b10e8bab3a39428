-- All references of a file that are known are numbers of objects of its metadata.
use Rattle.std.proofs.Common.{◌≡◌, ◌∙◌, ℕ, zero, suc, ◌+◌, ◌<◌, List, [], ◌∷◌, ◌++◌, length, map, Option, Some, None, option_map, refl, sym, ap, subst, arith}
use Rattle.std.specs.Prelude.{slice_get, slice_index_or}
use Rattle.std.specs.Fmt.{decimal}
use Rattle.std.specs.List.{flat_map}
use lib.Chars.{codes}
use Rattle.dh_sharing.specs.declared.rule.Sharing.{Sharing}
use Rattle.dh_metadata.specs.declared.kind.Kind.{Kind}
use Rattle.dh_metadata.specs.declared.kind.Kind.TheVariants as kind
use Rattle.dh_metadata.specs.declared.parts.MetaParts.{MetaParts}
use Rattle.dh_metadata.specs.declared.held.Records.{Records}
use Rattle.dh_metadata.specs.declared.raw.RawUnit.{RawUnit}
use Rattle.dh_metadata.specs.declared.raw.RawUnitGroup.{RawUnitGroup}
use Rattle.dh_metadata.specs.declared.raw.RawCategoryOption.{RawCategoryOption}
use Rattle.dh_metadata.specs.declared.raw.RawCategory.{RawCategory}
use Rattle.dh_metadata.specs.declared.raw.RawCategoryCombo.{RawCategoryCombo}
use Rattle.dh_metadata.specs.declared.raw.RawOptionCombo.{RawOptionCombo}
use Rattle.dh_metadata.specs.declared.raw.RawElement.{RawElement}
use Rattle.dh_metadata.specs.declared.raw.RawWorkflow.{RawWorkflow}
use Rattle.dh_metadata.specs.declared.raw.RawDataSet.{RawDataSet}
use Rattle.dh_metadata.specs.declared.raw.RawIndicator.{RawIndicator}
use Rattle.dh_metadata.specs.declared.raw.RawRule.{RawRule}
use Rattle.dh_metadata.specs.declared.raw.RawEntityType.{RawEntityType}
use Rattle.dh_metadata.specs.declared.raw.RawProgram.{RawProgram}
use Rattle.dh_metadata.specs.declared.raw.RawStage.{RawStage}
use Rattle.dh_metadata.specs.declared.raw.RawProgramIndicator.{RawProgramIndicator}
use Rattle.dh_metadata.specs.declared.raw.RawUser.{RawUser}
use Rattle.dh_metadata.specs.declared.raw.RawUserGroup.{RawUserGroup}
use Rattle.dh_metadata.specs.declared.raw.RawSharing.{RawSharing}
use Rattle.dh_metadata.specs.Ids.{ids_at, kinds}
use Rattle.meta_links.specs.Reference.{Reference, one, optional, each, several, several_in, number_of, step, field_path}
use Rattle.meta_links.specs.Table.{entries, sharing_references, set_element, set_elements, unit_references, unit_group_references}
use Rattle.meta_links.specs.Table.{category_option_references, category_references, category_combo_references, option_combo_references, element_references}
use Rattle.meta_links.specs.Table.{workflow_references, data_set_references, indicator_references, rule_references, entity_type_references}
use Rattle.meta_links.specs.Table.{program_references, stage_references, program_indicator_references, user_references, user_group_references, references_in}
use Rattle.meta_links.specs.Table.{token_references, references}
use Rattle.meta_links.specs.Held.{numbers_of, shared_with, sharing_held, unit_held, unit_group_held, category_option_held, category_held}
use Rattle.meta_links.specs.Held.{category_combo_held, option_combo_held, element_held, workflow_held, data_set_held, indicator_held, rule_held}
use Rattle.meta_links.specs.Held.{entity_type_held, program_held, stage_held, program_indicator_held, user_held, user_group_held, built_in_combo}
use Rattle.meta_links.specs.Held.{built_in_option_combo, links_of}
use Rattle.meta_rules.specs.Days.{days_of}
use Rattle.meta_rules.specs.Read.{Meaning}
use Rattle.meta_rules.specs.Objects.{made_of, indicator_in, rule_in, program_indicator_in}
use Rattle.dh_metadata.specs.Objects.{count_of}
use Rattle.dh_metadata.specs.Linked.{AreBelow, IsBelow, Each, IsLinked, IsLinkedSharing, IsLinkedUnit, IsLinkedUnitGroup, IsLinkedOption, IsLinkedCategory}
use Rattle.dh_metadata.specs.Linked.{IsLinkedCombo, IsLinkedOptionCombo, IsLinkedElement, IsLinkedWorkflow, IsLinkedDataSet, IsLinkedIndicator, IsLinkedRule}
use Rattle.dh_metadata.specs.Linked.{IsLinkedEntityType, IsLinkedProgram, IsLinkedStage, IsLinkedProgramIndicator, IsLinkedUser, IsLinkedUserGroup}
use Rattle.meta_reader.specs.Records.{records_from}
use Rattle.meta_reader.proofs.KnownLemmas.{Ids, Known, known_parts, known_at, one_below, optional_below, several_below, several_in_below, entries_below}
use Rattle.meta_reader.proofs.KnownLemmas.{each_below, none_below, cons_each, none_each, all_held}

-- there are as many identifiers of each kind as objects
abbrev pub Counts : Ids → Records → Type 0
Counts ids r = (of_kind : Kind) → length (ids_at ids of_kind) ≡ count_of r of_kind

one_of : (ids : Ids) (r : Records) → Counts ids r → (path : List ℕ) (of_kind : Kind) (uid : List ℕ) → Known ids (one path of_kind uid)
    → number_of ids of_kind uid < count_of r of_kind
one_of ids r same path of_kind uid known = subst (λ n. number_of ids of_kind uid < n) (same of_kind) (one_below ids path of_kind uid known)

optional_of : (ids : Ids) (r : Records) → Counts ids r → (path : List ℕ) (of_kind : Kind) (uid : Option (List ℕ)) → Known ids (optional path of_kind uid)
    → IsBelow (count_of r of_kind) (option_map (number_of ids of_kind) uid)
optional_of ids r same path of_kind uid known =
    subst (λ n. IsBelow n (option_map (number_of ids of_kind) uid)) (same of_kind) (optional_below ids path of_kind uid known)

several_of : (ids : Ids) (r : Records) → Counts ids r → (path : List ℕ) (of_kind : Kind) (uids : List (List ℕ)) → Known ids (several path of_kind uids)
    → AreBelow (count_of r of_kind) (numbers_of ids of_kind uids)
several_of ids r same path of_kind uids known = subst (λ n. AreBelow n (numbers_of ids of_kind uids)) (same of_kind) (several_below ids path of_kind uids known)

several_in_of : (ids : Ids) (r : Records) → Counts ids r → (path name : List ℕ) (of_kind : Kind) (uids : List (List ℕ))
    → Known ids (several_in path name of_kind uids) → AreBelow (count_of r of_kind) (numbers_of ids of_kind uids)
several_in_of ids r same path name of_kind uids known =
    subst (λ n. AreBelow n (numbers_of ids of_kind uids)) (same of_kind) (several_in_below ids path name of_kind uids known)

sharing_linked : (ids : Ids) (r : Records) → Counts ids r → (of_kind : Kind) (place : ℕ) (sharing : RawSharing)
    → Known ids (sharing_references of_kind place sharing) → IsLinkedSharing r (sharing_held ids sharing)
unfolding sharing_references sharing_held
sharing_linked ids r same of_kind place sharing known =
    let groups = known_parts ids _ (entries (field_path of_kind place (codes "sharing.userGroups")) kind.UserGroup sharing.groups) known in
    let users =
    known_parts ids (optional (field_path of_kind place (codes "sharing.owner")) kind.User sharing.owner)
    (entries (field_path of_kind place (codes "sharing.users")) kind.User sharing.users) groups.0 in
    record {
      owner = optional_of ids r same _ kind.User sharing.owner users.0;
      users =
          subst (λ n. AreBelow n (map (λ entry. entry.0) (shared_with ids kind.User sharing.users))) (same kind.User)
          (entries_below ids _ kind.User sharing.users users.1);
      groups =
          subst (λ n. AreBelow n (map (λ entry. entry.0) (shared_with ids kind.UserGroup sharing.groups))) (same kind.UserGroup)
          (entries_below ids _ kind.UserGroup sharing.groups groups.1);
    }

unit_linked : (ids : Ids) (r : Records) → Counts ids r → (raw : RawUnit) → Known ids (unit_references raw) → IsLinkedUnit r (unit_held ids raw)
unfolding unit_references unit_held
unit_linked ids r same raw known = optional_of ids r same _ kind.OrganisationUnit raw.parent known

unit_group_linked : (ids : Ids) (r : Records) → Counts ids r → (raw : RawUnitGroup) → Known ids (unit_group_references raw)
    → IsLinkedUnitGroup r (unit_group_held ids raw)
unfolding unit_group_references unit_group_held
unit_group_linked ids r same raw known = several_of ids r same _ kind.OrganisationUnit raw.organisation_units known

category_option_linked : (ids : Ids) (r : Records) → Counts ids r → (raw : RawCategoryOption) → Known ids (category_option_references raw)
    → IsLinkedOption r (category_option_held ids raw)
unfolding category_option_references category_option_held
category_option_linked ids r same raw known = sharing_linked ids r same kind.CategoryOption raw.place raw.sharing known

category_linked : (ids : Ids) (r : Records) → Counts ids r → (raw : RawCategory) → Known ids (category_references raw)
    → IsLinkedCategory r (category_held ids raw)
unfolding category_references category_held
category_linked ids r same raw known = several_of ids r same _ kind.CategoryOption raw.category_options known

category_combo_linked : (ids : Ids) (r : Records) → Counts ids r → (raw : RawCategoryCombo) → Known ids (category_combo_references raw)
    → IsLinkedCombo r (category_combo_held ids raw)
unfolding category_combo_references category_combo_held
category_combo_linked ids r same raw known = several_of ids r same _ kind.Category raw.categories known

option_combo_linked : (ids : Ids) (r : Records) → Counts ids r → (raw : RawOptionCombo) → Known ids (option_combo_references raw)
    → IsLinkedOptionCombo r (option_combo_held ids raw)
unfolding option_combo_references option_combo_held
option_combo_linked ids r same raw known =
    let both = known_parts ids (one (field_path kind.CategoryOptionCombo raw.place (codes "categoryCombo")) kind.CategoryCombo raw.category_combo) _ known in
    record {
      combo = one_of ids r same _ kind.CategoryCombo raw.category_combo both.0;
      options = several_of ids r same _ kind.CategoryOption raw.category_options both.1;
    }

element_linked : (ids : Ids) (r : Records) → Counts ids r → (raw : RawElement) → Known ids (element_references raw) → IsLinkedElement r (element_held ids raw)
unfolding element_references element_held
element_linked ids r same raw known =
    let both = known_parts ids (one (field_path kind.DataElement raw.place (codes "categoryCombo")) kind.CategoryCombo raw.category_combo) _ known in
    record {
      combo = one_of ids r same _ kind.CategoryCombo raw.category_combo both.0;
      sharing = sharing_linked ids r same kind.DataElement raw.place raw.sharing both.1;
    }

workflow_linked : (ids : Ids) (r : Records) → Counts ids r → (raw : RawWorkflow) → Known ids (workflow_references raw)
    → IsLinkedWorkflow r (workflow_held ids raw)
unfolding workflow_references workflow_held
workflow_linked ids r same raw known = several_of ids r same _ kind.ApprovalLevel raw.data_approval_levels known

elements_of : (ids : Ids) (r : Records) → Counts ids r → (path : List ℕ) (elements : List (List ℕ × Option (List ℕ))) → Known ids (set_elements path elements)
    → AreBelow (count_of r kind.DataElement) (map (λ element. number_of ids kind.DataElement element.0) elements)
unfolding set_elements
elements_of ids r same path elements known =
    each_below ids (count_of r kind.DataElement) (set_element path) (λ element. number_of ids kind.DataElement element.0) 0 elements
    (λ at element known_one. one_of ids r same _ kind.DataElement element.0
    (known_parts ids (one (step (step path (decimal at)) (codes "dataElement")) kind.DataElement element.0) _ known_one).0) known

data_set_linked : (ids : Ids) (r : Records) → Counts ids r → (raw : RawDataSet) → Known ids (data_set_references raw)
    → IsLinkedDataSet r (data_set_held ids raw)
unfolding data_set_references data_set_held
data_set_linked ids r same raw known =
    let sharing = known_parts ids _ (sharing_references kind.DataSet raw.place raw.sharing) known in
    let workflow = known_parts ids _ (optional (field_path kind.DataSet raw.place (codes "workflow")) kind.Workflow raw.workflow) sharing.0 in
    let combo = known_parts ids _ (one (field_path kind.DataSet raw.place (codes "categoryCombo")) kind.CategoryCombo raw.category_combo) workflow.0 in
    let units =
    known_parts ids (set_elements (field_path kind.DataSet raw.place (codes "dataSetElements")) raw.data_set_elements)
    (several (field_path kind.DataSet raw.place (codes "organisationUnits")) kind.OrganisationUnit raw.organisation_units) combo.0 in
    record {
      elements = elements_of ids r same _ raw.data_set_elements units.0;
      units = several_of ids r same _ kind.OrganisationUnit raw.organisation_units units.1;
      combo = one_of ids r same _ kind.CategoryCombo raw.category_combo combo.1;
      workflow = optional_of ids r same _ kind.Workflow raw.workflow workflow.1;
      sharing = sharing_linked ids r same kind.DataSet raw.place raw.sharing sharing.1;
    }

entity_type_linked : (ids : Ids) (r : Records) → Counts ids r → (raw : RawEntityType) → Known ids (entity_type_references raw)
    → IsLinkedEntityType r (entity_type_held ids raw)
unfolding entity_type_references entity_type_held
entity_type_linked ids r same raw known = sharing_linked ids r same kind.TrackedEntityType raw.place raw.sharing known

program_linked : (ids : Ids) (r : Records) → Counts ids r → (raw : RawProgram) → Known ids (program_references raw) → IsLinkedProgram r (program_held ids raw)
unfolding program_references program_held
program_linked ids r same raw known =
    let sharing = known_parts ids _ (sharing_references kind.Program raw.place raw.sharing) known in
    let attributes =
    known_parts ids (optional (field_path kind.Program raw.place (codes "trackedEntityType")) kind.TrackedEntityType raw.tracked_entity_type)
    (several_in (field_path kind.Program raw.place (codes "programTrackedEntityAttributes")) (codes "trackedEntityAttribute") kind.TrackedEntityAttribute
    raw.program_tracked_entity_attributes) sharing.0 in
    record {
      entity_type = optional_of ids r same _ kind.TrackedEntityType raw.tracked_entity_type attributes.0;
      attributes = several_in_of ids r same _ _ kind.TrackedEntityAttribute raw.program_tracked_entity_attributes attributes.1;
      sharing = sharing_linked ids r same kind.Program raw.place raw.sharing sharing.1;
    }

stage_linked : (ids : Ids) (r : Records) → Counts ids r → (raw : RawStage) → Known ids (stage_references raw) → IsLinkedStage r (stage_held ids raw)
unfolding stage_references stage_held
stage_linked ids r same raw known =
    let both = known_parts ids (one (field_path kind.ProgramStage raw.place (codes "program")) kind.Program raw.program) _ known in
    record {
      program = one_of ids r same _ kind.Program raw.program both.0;
      elements = several_in_of ids r same _ _ kind.DataElement raw.program_stage_data_elements both.1;
    }

user_linked : (ids : Ids) (r : Records) → Counts ids r → (raw : RawUser) → Known ids (user_references raw) → IsLinkedUser r (user_held ids raw)
unfolding user_references user_held
user_linked ids r same raw known =
    let roles = known_parts ids _ (several (field_path kind.User raw.place (codes "userRoles")) kind.UserRole raw.user_roles) known in
    let units =
    known_parts ids (several (field_path kind.User raw.place (codes "organisationUnits")) kind.OrganisationUnit raw.organisation_units)
    (several (field_path kind.User raw.place (codes "dataViewOrganisationUnits")) kind.OrganisationUnit raw.data_view_organisation_units) roles.0 in
    record {
      units = several_of ids r same _ kind.OrganisationUnit raw.organisation_units units.0;
      view_units = several_of ids r same _ kind.OrganisationUnit raw.data_view_organisation_units units.1;
      roles = several_of ids r same _ kind.UserRole raw.user_roles roles.1;
    }

user_group_linked : (ids : Ids) (r : Records) → Counts ids r → (raw : RawUserGroup) → Known ids (user_group_references raw)
    → IsLinkedUserGroup r (user_group_held ids raw)
unfolding user_group_references user_group_held
user_group_linked ids r same raw known = several_of ids r same _ kind.User raw.users known

indicator_linked : (ids : Ids) (r : Records) → Counts ids r → (meaning : Meaning) (days : List (List ℕ)) (raw : RawIndicator)
    → Known ids (indicator_references raw) → IsLinkedIndicator r (indicator_in meaning days raw (indicator_held ids raw))
unfolding indicator_references indicator_held
indicator_linked ids r same meaning days raw known =
    let both = known_parts ids (one (field_path kind.Indicator raw.place (codes "indicatorType")) kind.IndicatorType raw.indicator_type) _ known in
    record {
      indicator_type = one_of ids r same _ kind.IndicatorType raw.indicator_type both.0;
      sharing = sharing_linked ids r same kind.Indicator raw.place raw.sharing both.1;
    }

rule_linked : (ids : Ids) (r : Records) → Counts ids r → (meaning : Meaning) (days : List (List ℕ)) (raw : RawRule) → Known ids (rule_references raw)
    → IsLinkedRule r (rule_in meaning days raw (rule_held ids raw))
unfolding rule_references rule_held
rule_linked ids r same meaning days raw known = sharing_linked ids r same kind.ValidationRule raw.place raw.sharing known

program_indicator_linked : (ids : Ids) (r : Records) → Counts ids r → (meaning : Meaning) (days : List (List ℕ)) (raw : RawProgramIndicator)
    → Known ids (program_indicator_references raw) → IsLinkedProgramIndicator r (program_indicator_in meaning days raw (program_indicator_held ids raw))
unfolding program_indicator_references program_indicator_held
program_indicator_linked ids r same meaning days raw known =
    let both = known_parts ids (one (field_path kind.ProgramIndicator raw.place (codes "program")) kind.Program raw.program) _ known in
    record {
      program = one_of ids r same _ kind.Program raw.program both.0;
      sharing = sharing_linked ids r same kind.ProgramIndicator raw.place raw.sharing both.1;
    }

-- what holds of each object that is made of one whose references are known holds of all
all_made : {A B C : Type 0} (ids : Ids) (has : A → List Reference) (held : A → B) (make : A → B → C) (Holds : C → Type 0)
    → ((a : A) → Known ids (has a) → Holds (make a (held a))) → (xs : List A) → Known ids (flat_map has xs) → Each Holds (made_of make xs (map held xs))
all_made ids has held make Holds each_made [] known = none_each Holds
all_made ids has held make Holds each_made (a ∷ xs) known =
    let both = known_parts ids (has a) (flat_map has xs) known in
    cons_each Holds (make a (held a)) (made_of make xs (map held xs)) (each_made a both.0) (all_made ids has held make Holds each_made xs both.1)

same_numbers : (ids : Ids) (tokens : List (List ℕ × List ℕ))
    → map (λ (token : List ℕ × List ℕ). number_of ids kind.User token.1) tokens
    ≡ map (λ (held : List ℕ × ℕ). held.1) (map (λ (token : List ℕ × List ℕ). (token.0, number_of ids kind.User token.1)) tokens)
same_numbers ids [] = refl
same_numbers ids (token ∷ tokens) = ap (λ ns. number_of ids kind.User token.1 ∷ ns) (same_numbers ids tokens)

tokens_linked : (ids : Ids) (r : Records) → Counts ids r → (tokens : List (List ℕ × List ℕ)) → Known ids (token_references tokens)
    → AreBelow (count_of r kind.User) (map (λ (held : List ℕ × ℕ). held.1)
    (map (λ (token : List ℕ × List ℕ). (token.0, number_of ids kind.User token.1)) tokens))
unfolding token_references
tokens_linked ids r same tokens known =
    subst (AreBelow (count_of r kind.User)) (same_numbers ids tokens)
    (each_below ids (count_of r kind.User) (λ place (token : List ℕ × List ℕ).
    one (step (step (codes "apiTokens") (decimal place)) (codes "user")) kind.User token.1) (λ (token : List ℕ × List ℕ). number_of ids kind.User token.1) 0
    tokens
    (λ at token known_one. one_of ids r same _ kind.User token.1 known_one) known)

built_in_linked : (r : Records) → IsLinkedCombo r built_in_combo
unfolding built_in_combo
built_in_linked r = none_below (length r.categories)

built_in_option_linked : (r : Records) → 0 < length r.category_combos → IsLinkedOptionCombo r built_in_option_combo
unfolding built_in_option_combo
built_in_option_linked r some = record { combo = some; options = none_below (length r.category_options) }

-- references that are known are numbers of objects
pub linked : (meaning : Meaning) (ids : Ids) (parts : MetaParts) → Counts ids (records_from meaning parts (links_of ids parts)) → Known ids (references parts)
    → IsLinked (records_from meaning parts (links_of ids parts))
unfolding links_of references
linked meaning ids parts same known =
    let r : Records = records_from meaning parts (links_of ids parts) in
    let days : List (List ℕ) = days_of parts in
    let both = known_parts ids (flat_map (references_in parts) kinds) (token_references parts.api_tokens) known in
    let of_kind : (n : ℕ) (k : Kind) → slice_get kinds n ≡ Some k → Known ids (references_in parts k) =
    λ n k at. known_at ids (references_in parts) kinds n k both.0 at in
    record {
      units =
          all_held ids unit_references (unit_held ids) (IsLinkedUnit r) parts.organisation_units (unit_linked ids r same)
          (of_kind 0 kind.OrganisationUnit refl);
      unit_groups =
          all_held ids unit_group_references (unit_group_held ids) (IsLinkedUnitGroup r) parts.organisation_unit_groups (unit_group_linked ids r same)
          (of_kind 1 kind.OrganisationUnitGroup refl);
      options =
          all_held ids category_option_references (category_option_held ids) (IsLinkedOption r) parts.category_options (category_option_linked ids r same)
          (of_kind 2 kind.CategoryOption refl);
      categories =
          all_held ids category_references (category_held ids) (IsLinkedCategory r) parts.categories (category_linked ids r same)
          (of_kind 3 kind.Category refl);
      combos =
          cons_each (IsLinkedCombo r) built_in_combo (map (category_combo_held ids) parts.category_combos) (built_in_linked r)
          (all_held ids category_combo_references (category_combo_held ids) (IsLinkedCombo r) parts.category_combos (category_combo_linked ids r same)
          (of_kind 4 kind.CategoryCombo refl));
      option_combos =
          cons_each (IsLinkedOptionCombo r) built_in_option_combo (map (option_combo_held ids) parts.category_option_combos)
          (built_in_option_linked r (omega arith))
          (all_held ids option_combo_references (option_combo_held ids) (IsLinkedOptionCombo r) parts.category_option_combos (option_combo_linked ids r same)
          (of_kind 5 kind.CategoryOptionCombo refl));
      elements =
          all_held ids element_references (element_held ids) (IsLinkedElement r) parts.data_elements (element_linked ids r same)
          (of_kind 6 kind.DataElement refl);
      workflows =
          all_held ids workflow_references (workflow_held ids) (IsLinkedWorkflow r) parts.data_approval_workflows (workflow_linked ids r same)
          (of_kind 8 kind.Workflow refl);
      data_sets =
          all_held ids data_set_references (data_set_held ids) (IsLinkedDataSet r) parts.data_sets (data_set_linked ids r same) (of_kind 9 kind.DataSet refl);
      indicators =
          all_made ids indicator_references (indicator_held ids) (indicator_in meaning days) (IsLinkedIndicator r) (indicator_linked ids r same meaning days)
          parts.indicators (of_kind 12 kind.Indicator refl);
      rules =
          all_made ids rule_references (rule_held ids) (rule_in meaning days) (IsLinkedRule r) (rule_linked ids r same meaning days) parts.validation_rules
          (of_kind 13 kind.ValidationRule refl);
      entity_types =
          all_held ids entity_type_references (entity_type_held ids) (IsLinkedEntityType r) parts.tracked_entity_types (entity_type_linked ids r same)
          (of_kind 14 kind.TrackedEntityType refl);
      programs =
          all_held ids program_references (program_held ids) (IsLinkedProgram r) parts.programs (program_linked ids r same) (of_kind 16 kind.Program refl);
      stages =
          all_held ids stage_references (stage_held ids) (IsLinkedStage r) parts.program_stages (stage_linked ids r same) (of_kind 17 kind.ProgramStage refl);
      program_indicators =
          all_made ids program_indicator_references (program_indicator_held ids) (program_indicator_in meaning days) (IsLinkedProgramIndicator r)
          (program_indicator_linked ids r same meaning days) parts.program_indicators
          (of_kind 18 kind.ProgramIndicator refl);
      users = all_held ids user_references (user_held ids) (IsLinkedUser r) parts.users (user_linked ids r same) (of_kind 20 kind.User refl);
      user_groups =
          all_held ids user_group_references (user_group_held ids) (IsLinkedUserGroup r) parts.user_groups (user_group_linked ids r same)
          (of_kind 21 kind.UserGroup refl);
      tokens = tokens_linked ids r same parts.api_tokens both.1;
    }
