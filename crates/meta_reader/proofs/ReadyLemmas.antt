-- What is known of the records of a file that has no fault.
use Rattle.std.proofs.Common.{◌≡◌, ◌∙◌, ℕ, List, Option, Some, None, refl, sym, ap, subst, option_map, length}
use Rattle.std.specs.Prelude.{Result, Ok, Err, ℤ}
use Rattle.std.specs.Option.{option_or}
use Rattle.std.proofs.lemmas.List.{length-map}
use Rattle.dh_base.specs.Memory.{IsFirst, Finds}
use Rattle.org_tree.specs.Units.{HasOwnIds}
use Rattle.dh_categories.specs.Single.{CombosBelow}
use Rattle.dh_metadata.specs.declared.parts.MetaParts.{MetaParts}
use Rattle.dh_metadata.specs.declared.held.Links.{Links}
use Rattle.dh_metadata.specs.declared.held.Records.{Records}
use Rattle.dh_metadata.specs.Ids.{ids_of, twice_of}
use Rattle.meta_links.specs.Table.{references}
use Rattle.meta_links.specs.Reference.{first_unknown}
use Rattle.meta_links.specs.Held.{links_of, indicator_held, rule_held, program_indicator_held}
use Rattle.dh_metadata.specs.declared.structure.Structure.{Structure}
use Rattle.dh_metadata.specs.Rows.{tree_rows, option_combo_rows}
use Rattle.meta_rules.specs.Held.{IsHeld}
use Rattle.meta_rules.specs.Limits.{first_passed}
use Rattle.meta_rules.specs.declared.limits.LimitFault.{LimitFault}
use Rattle.meta_rules.specs.Read.{Meaning}
use Rattle.meta_rules.specs.Stages.{stages_broken}
use Rattle.dh_metadata.specs.Objects.{HaveIds}
use Rattle.dh_metadata.specs.Known.{AreFew, HaveRules}
use Rattle.dh_metadata.specs.Linked.{IsLinked}
use Rattle.meta_reader.specs.declared.fault.MetaFault.{MetaFault}
use Rattle.meta_reader.specs.Records.{links_in, records_in}
use Rattle.meta_reader.specs.Faults.{broken, passed, stage_fault, limit_fault, late_fault, paired, meta_cause}
use Rattle.meta_reader.proofs.KnownLemmas.{Ids, Known}
use Rattle.meta_reader.proofs.LinkedLemmas.{linked}
use Rattle.meta_reader.proofs.IdLemmas.{have_ids, counts, are_few, few_positions, own_ids, combos_below}
use Rattle.meta_reader.proofs.FaultLemmas.{met_then, met_some, none_of}

pub linked_of : (meaning : Meaning) (parts : MetaParts) → Known (ids_of parts) (references parts) → IsLinked (records_in meaning parts)
linked_of meaning parts known = linked meaning (ids_of parts) parts (counts (ids_of parts) (records_in meaning parts) (have_ids meaning parts)) known

pub rules_of : (meaning : Meaning) (parts : MetaParts) (held : Structure) → IsHeld (links_in parts) held
    → first_passed parts held.positions.items ≡ None → HaveRules (records_in meaning parts) held
rules_of meaning parts held ruled none = record {
  tree = ruled.tree;
  combos = ruled.combos;
  workflows = ruled.approvals.workflows;
  positions = ruled.approvals.positions;
  few_positions = few_positions parts held.positions.items none;
}

no_limit : (a : Option MetaFault) (b : Option LimitFault) → option_or a (option_map passed b) ≡ None → b ≡ None
no_limit None None none = refl
no_limit None (Some limit) none = absurd (cc)
no_limit (Some fault) b none = absurd (cc)

-- the faults that are seen late, by what was made and by the file
pub late_is : (meaning : Meaning) (parts : MetaParts) (held : Structure) → IsHeld (links_in parts) held
    → option_or (option_map broken (stages_broken (ids_of parts) (records_in meaning parts).program_stages (records_in meaning parts).program_indicators))
    (option_map passed (first_passed parts held.positions.items)) ≡ late_fault meaning (ids_of parts) parts (links_in parts)
unfolding stage_fault limit_fault
late_is meaning parts held ruled =
    ap (λ (ps : List (List ℤ)). option_or (stage_fault meaning (ids_of parts) parts (links_in parts)) (option_map passed (first_passed parts ps)))
    ruled.approvals.positions

-- the faults that are seen late, by what was made
abbrev late_of : MetaParts → Ids → Records → Structure → Option MetaFault
late_of parts ids r held =
    option_or (option_map broken (stages_broken ids r.program_stages r.program_indicators)) (option_map passed (first_passed parts held.positions.items))

late_at : (meaning : Meaning) (parts : MetaParts) (ids : Ids) (r : Records) (held : Structure) → ids ≡ ids_of parts
    → r ≡ records_in meaning parts → IsHeld (links_in parts) held → late_of parts ids r held ≡ late_fault meaning (ids_of parts) parts (links_in parts)
late_at meaning parts ids r held same is ruled =
    ap (λ (x : Ids). late_of parts x r held) same ∙ ap (λ (x : Records). late_of parts (ids_of parts) x held) is ∙ late_is meaning parts held ruled

-- a fault that is seen late is met
pub late_met : (meaning : Meaning) (parts : MetaParts) (ids : Ids) (r : Records) (held : Structure) (met : Option MetaFault) (found : MetaFault)
    → ids ≡ ids_of parts → r ≡ records_in meaning parts → IsHeld (links_in parts) held
    → met ≡ option_or (option_map broken (stages_broken ids r.program_stages r.program_indicators))
    (option_map passed (first_passed parts held.positions.items)) → met ≡ Some found
    → IsFirst (late_fault meaning (ids_of parts) parts (links_in parts)) (meta_cause found)
late_met meaning parts ids r held met found same is ruled late some =
    met_some (late_fault meaning (ids_of parts) parts (links_in parts)) found (sym (late ∙ late_at meaning parts ids r held same is ruled) ∙ some)

-- and if none is, the records are in order
pub ready : (meaning : Meaning) (parts : MetaParts) (ids : Ids) (r : Records) (held : Structure) (met : Option MetaFault) → ids ≡ ids_of parts
    → Known (ids_of parts) (references parts)
    → r ≡ records_in meaning parts → IsHeld (links_in parts) held
    → met ≡ option_or (option_map broken (stages_broken ids r.program_stages r.program_indicators))
    (option_map passed (first_passed parts held.positions.items)) → met ≡ None
    → (late_fault meaning (ids_of parts) parts (links_in parts) ≡ None) × AreFew r × IsLinked r × HaveIds r ids × HaveRules r held
ready meaning parts ids r held met same known is ruled late none =
    let all : late_fault meaning (ids_of parts) parts (links_in parts) ≡ None = sym (late ∙ late_at meaning parts ids r held same is ruled) ∙ none in
    let fits : first_passed parts held.positions.items ≡ None =
    no_limit (option_map broken (stages_broken ids r.program_stages r.program_indicators)) (first_passed parts held.positions.items) (sym late ∙ none) in (
      all,
      subst AreFew (sym is) (are_few parts held.positions.items (records_in meaning parts) (have_ids meaning parts) fits),
      subst IsLinked (sym is) (linked_of meaning parts known),
      subst (λ (x : Records). HaveIds x ids) (sym is) (subst (HaveIds (records_in meaning parts)) (sym same) (have_ids meaning parts)),
      subst (λ (x : Records). HaveRules x held) (sym is) (rules_of meaning parts held ruled fits),
    )

-- the answer of what comes after is the answer if nothing was met before
pub then_found : {X : Type 0} (a b : Option MetaFault) (Is : X → Type 0) (result : Result X MetaFault) → a ≡ None → Finds meta_cause b Is result
    → Finds meta_cause (option_or a b) Is result
then_found a b Is (Ok x) none is = (none_of a b none is.0, is.1)
then_found a b Is (Err found) none is = met_then a b (meta_cause found) none is

-- two answers, if nothing was met before the second one
pub found_both : {A B : Type 0} (a b : Option MetaFault) (Is : A → Type 0) (Other : B
    → Type 0) (first : A) (second : Result B MetaFault) (result : Result (A × B) MetaFault) → a ≡ None → Is first → Finds meta_cause b Other second
    → result ≡ paired first second
    → Finds meta_cause (option_or a b) (λ pair. Is pair.0 × Other pair.1) result
found_both a b Is Other first (Ok second) result none is other made =
    subst (λ r. Finds meta_cause (option_or a b) (λ pair. Is pair.0 × Other pair.1) r) (sym made) (none_of a b none other.0, (is, other.1))
found_both a b Is Other first (Err found) result none is other made =
    subst (λ r. Finds meta_cause (option_or a b) (λ pair. Is pair.0 × Other pair.1) r) (sym made) (met_then a b (meta_cause found) none other)

-- what linked objects need so that they can be tried
pub linked_ready : (parts : MetaParts) (ids : Ids) (links : Links) → ids ≡ ids_of parts → twice_of parts ≡ None → first_unknown ids (references parts) ≡ None
    → links ≡ links_of ids parts
    → (length parts.indicators ≡ length links.indicators) × (length parts.validation_rules ≡ length links.validation_rules)
    × (length parts.program_indicators ≡ length links.program_indicators)
    × HasOwnIds (tree_rows links.organisation_units) × CombosBelow (length links.category_combos) (option_combo_rows links.category_option_combos)
unfolding links_of
linked_ready parts ids links same differ known is =
    let at : links ≡ links_in parts = is ∙ ap (λ (x : Ids). links_of x parts) same in (
      sym (ap (λ (l : Links). length l.indicators) is ∙ length-map parts.indicators (indicator_held ids)),
      sym (ap (λ (l : Links). length l.validation_rules) is ∙ length-map parts.validation_rules (rule_held ids)),
      sym (ap (λ (l : Links). length l.program_indicators) is ∙ length-map parts.program_indicators (program_indicator_held ids)),
      subst (λ (l : Links). HasOwnIds (tree_rows l.organisation_units)) (sym is) (own_ids ids parts differ),
      subst (λ (l : Links). CombosBelow (length l.category_combos) (option_combo_rows l.category_option_combos)) (sym at)
          (combos_below parts (subst (λ (x : Ids). Known x (references parts)) same known)),
    )
