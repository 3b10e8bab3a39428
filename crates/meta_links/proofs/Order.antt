-- The references and the objects of all kinds, list after list.
use Rattle.std.proofs.Common.{◌≡◌, ◌∙◌, ℕ, ◌+◌, List, [], ◌∷◌, ◌++◌, map, Result, Ok, Err, IfOk, OnOk, refl, sym, ap, subst, append_assoc}
use Rattle.std.proofs.lemmas.List.{append-nil}
use Rattle.std.specs.List.{flat_map}
use Rattle.dh_metadata.specs.declared.kind.Kind.{Kind}
use Rattle.dh_metadata.specs.declared.kind.Kind.TheVariants as kind
use Rattle.dh_metadata.specs.declared.parts.MetaParts.{MetaParts}
use Rattle.meta_links.specs.Groups.{Units, Combos, Sets, Rules, Programs, Users, Groups, assembled, AreAssembled}
use Rattle.dh_metadata.specs.declared.held.Links.{Links}
use Rattle.meta_links.specs.Held.{links_of, built_in_combo, built_in_option_combo}
use Rattle.meta_links.specs.Held.{unit_held, unit_group_held, category_option_held, category_held, category_combo_held, option_combo_held}
use Rattle.meta_links.specs.Held.{element_held, approval_level_held, workflow_held, data_set_held, constant_held, indicator_type_held}
use Rattle.meta_links.specs.Held.{indicator_held, rule_held, entity_type_held, attribute_held, program_held, stage_held}
use Rattle.meta_links.specs.Held.{program_indicator_held, role_held, user_held, user_group_held}
use Rattle.meta_links.specs.Reference.{Reference, each, number_of}
use Rattle.meta_links.specs.Table.{references_in, token_references, references}

-- how lists of references are joined
pub data Tree : Type 0 where
  leaf : Kind → Tree
  node : Tree → Tree → Tree

abbrev pub joined : (Kind → List Reference) → Tree → List Reference
joined has (leaf k) = has k
joined has (node front rest) = joined has front ++ joined has rest

abbrev pub leaves : Tree → List Kind
leaves (leaf k) = k ∷ []
leaves (node front rest) = leaves front ++ leaves rest

flat_append : (has : Kind → List Reference) (front rest : List Kind) → flat_map has (front ++ rest) ≡ flat_map has front ++ flat_map has rest
flat_append has [] rest = refl
flat_append has (k ∷ front) rest =
    ap (λ more. has k ++ more) (flat_append has front rest) ∙ sym (append_assoc (has k) (flat_map has front) (flat_map has rest))

-- however they are joined, they stand in the order of the leaves
joined_is : (has : Kind → List Reference) (tree : Tree) → joined has tree ≡ flat_map has (leaves tree)
joined_is has (leaf k) = sym (append-nil (has k))
joined_is has (node front rest) =
    ap (λ first. first ++ joined has rest) (joined_is has front) ∙ ap (λ more. flat_map has (leaves front) ++ more) (joined_is has rest)
    ∙ sym (flat_append has (leaves front) (leaves rest))

-- lists that are joined so, one after the other, and what stands after them
abbrev pub in_turn : (Kind → List Reference) → List Tree → List Reference → List Reference
in_turn has [] last = last
in_turn has (tree ∷ trees) last = joined has tree ++ in_turn has trees last

in_turn_is : (has : Kind → List Reference) (trees : List Tree) (last : List Reference)
    → in_turn has trees last ≡ flat_map has (flat_map leaves trees) ++ last
in_turn_is has [] last = refl
in_turn_is has (tree ∷ trees) last =
    ap (λ first. first ++ in_turn has trees last) (joined_is has tree)
    ∙ ap (λ more. flat_map has (leaves tree) ++ more) (in_turn_is has trees last)
    ∙ sym (append_assoc (flat_map has (leaves tree)) (flat_map has (flat_map leaves trees)) last)
    ∙ ap (λ all. all ++ last) (sym (flat_append has (leaves tree) (flat_map leaves trees)))

-- the kinds as their lists are linked
abbrev pub in_groups : List Tree
in_groups =
    node (leaf kind.OrganisationUnit) (node (leaf kind.OrganisationUnitGroup) (node (leaf kind.CategoryOption) (leaf kind.Category)))
    ∷ node (leaf kind.CategoryCombo) (node (leaf kind.CategoryOptionCombo) (node (leaf kind.DataElement) (leaf kind.ApprovalLevel)))
    ∷ node (leaf kind.Workflow) (node (leaf kind.DataSet) (node (leaf kind.Constant) (leaf kind.IndicatorType)))
    ∷ node (leaf kind.Indicator) (node (leaf kind.ValidationRule) (node (leaf kind.TrackedEntityType) (leaf kind.TrackedEntityAttribute)))
    ∷ node (leaf kind.Program) (node (leaf kind.ProgramStage) (leaf kind.ProgramIndicator))
    ∷ node (leaf kind.UserRole) (node (leaf kind.User) (leaf kind.UserGroup)) ∷ []

pub in_order : (parts : MetaParts) → in_turn (references_in parts) in_groups (token_references parts.api_tokens) ≡ references parts
unfolding references
in_order parts = in_turn_is (references_in parts) in_groups (token_references parts.api_tokens)

-- the references of five fields, joined from the last one on
pub five_fields : (a b c d e : List Reference) → a ++ (b ++ (c ++ (d ++ e))) ≡ a ++ b ++ c ++ d ++ e
five_fields a b c d e =
    sym (append_assoc (a ++ b ++ c) d e ∙ append_assoc (a ++ b) c (d ++ e) ∙ append_assoc a b (c ++ (d ++ e)))

-- where the place of an entry is not in its path
each_is : {X : Type 0} (has : X → List Reference) (place : ℕ) (xs : List X) → each (λ _ x. has x) place xs ≡ flat_map has xs
each_is has place [] = refl
each_is has place (x ∷ xs) = ap (λ rest. has x ++ rest) (each_is has (place + 1) xs)

-- two such lists after other references
pub two_lists : {X : Type 0} (first : List Reference) (has also : X → List Reference) (xs ys : List X)
    → first ++ (each (λ _ x. has x) 0 xs ++ each (λ _ x. also x) 0 ys) ≡ first ++ flat_map has xs ++ flat_map also ys
two_lists first has also xs ys =
    ap (λ more. first ++ (more ++ each (λ _ x. also x) 0 ys)) (each_is has 0 xs)
    ∙ ap (λ more. first ++ (flat_map has xs ++ more)) (each_is also 0 ys) ∙ sym (append_assoc first (flat_map has xs) (flat_map also ys))

-- what is made of a value, where there is one
pub made_of : {A B E : Type 0} (made : A → B) (found : Result A E) (x : A) (y : B)
    → made x ≡ y → IfOk found (λ a. a ≡ x) → IfOk found (λ a. made a ≡ y)
made_of made (Ok a) x y is held = ap made held ∙ is
made_of made (Err e) x y is held = held

abbrev Ids : Type 0
Ids = List (List (List ℕ))

abbrev units_held : Ids → MetaParts → Units
units_held ids parts = (map (unit_held ids) parts.organisation_units, (map (unit_group_held ids) parts.organisation_unit_groups, (map (category_option_held ids) parts.category_options, map (category_held ids) parts.categories)))

abbrev combos_held : Ids → MetaParts → Combos
combos_held ids parts = (built_in_combo ∷ map (category_combo_held ids) parts.category_combos, (built_in_option_combo ∷ map (option_combo_held ids) parts.category_option_combos, (map (element_held ids) parts.data_elements, map (approval_level_held ids) parts.data_approval_levels)))

abbrev sets_held : Ids → MetaParts → Sets
sets_held ids parts = (map (workflow_held ids) parts.data_approval_workflows, (map (data_set_held ids) parts.data_sets, (map (constant_held ids) parts.constants, map (indicator_type_held ids) parts.indicator_types)))

abbrev rules_held : Ids → MetaParts → Rules
rules_held ids parts = (map (indicator_held ids) parts.indicators, (map (rule_held ids) parts.validation_rules, (map (entity_type_held ids) parts.tracked_entity_types, map (attribute_held ids) parts.tracked_entity_attributes)))

abbrev programs_held : Ids → MetaParts → Programs
programs_held ids parts = (map (program_held ids) parts.programs, (map (stage_held ids) parts.program_stages, map (program_indicator_held ids) parts.program_indicators))

abbrev users_held : Ids → MetaParts → Users
users_held ids parts = (map (role_held ids) parts.user_roles, (map (user_held ids) parts.users, map (user_group_held ids) parts.user_groups))

-- the lists of all kinds as they are held
abbrev pub groups_held : Ids → MetaParts → Groups
groups_held ids parts =
    (units_held ids parts, (combos_held ids parts, (sets_held ids parts, (rules_held ids parts, (programs_held ids parts, (users_held ids parts, map (λ token. (token.0, number_of ids kind.User token.1)) parts.api_tokens))))))

pub assembled_is : (ids : Ids) (parts : MetaParts) → assembled (groups_held ids parts) ≡ links_of ids parts
unfolding links_of
assembled_is ids parts = refl

pub assembled_held : {E : Type 0} (found : Result Groups E) (result : Result Links E) (links : Links) → AreAssembled found result
    → IfOk found (λ groups. assembled groups ≡ links) → IfOk result (λ all. all ≡ links)
assembled_held (Ok groups) result links is held = subst (λ r. IfOk r (λ all. all ≡ links)) (sym is) held
assembled_held (Err error) result links is held = subst (λ r. IfOk r (λ all. all ≡ links)) (sym is) held

pub assembled_told : {E : Type 0} (found : Result Groups E) (result : Result Links E) (P : Type 0) → AreAssembled found result → OnOk found P → OnOk result P
assembled_told (Ok groups) result P is told = subst (λ r. OnOk r P) (sym is) told
assembled_told (Err error) result P is told = subst (λ r. OnOk r P) (sym is) told
