-- Two answers as one.
use Rattle.std.proofs.Common.{◌≡◌, ◌∙◌, ℕ, ℤ, List, Option, None, Some, Result, Ok, Err, sym, ap, subst}
use Rattle.std.specs.Prelude.{Vec}
use Rattle.std.specs.Global.{Global}
use Rattle.std.specs.Option.{option_or}
use Rattle.dh_base.specs.Memory.{Finds, IsFirst}
use Rattle.dh_metadata.specs.Rows.{tree_rows, option_combo_rows}
use Rattle.dh_metadata.specs.declared.held.Links.{Links}
use Rattle.dh_metadata.specs.declared.parts.MetaParts.{MetaParts}
use Rattle.dh_metadata.specs.declared.records.Indicator.{Indicator}
use Rattle.dh_metadata.specs.declared.records.Rule.{Rule}
use Rattle.dh_metadata.specs.declared.records.ProgramIndicator.{ProgramIndicator}
use Rattle.meta_rules.specs.declared.all.Unread.{Unread}
use Rattle.meta_rules.specs.declared.expr_fault.ExprError.{ExprError}
use Rattle.meta_rules.specs.declared.fault.RuleError.{RuleError}
use Rattle.meta_rules.specs.All.{expressions_unread}
use Rattle.meta_rules.specs.Both.{IsBoth}
use Rattle.meta_rules.specs.Categories.{combo_broken}
use Rattle.meta_rules.specs.Days.{days_of}
use Rattle.meta_rules.specs.Faults.{rule_cause}
use Rattle.meta_rules.specs.Held.{approvals_broken, AreApprovals, rules_broken}
use Rattle.meta_rules.specs.Names.{KindIds}
use Rattle.meta_rules.specs.Objects.{expr_cause, first_unread, made_of, indicator_unread, indicator_in, rule_unread, rule_in}
use Rattle.meta_rules.specs.Objects.{program_indicator_unread, program_indicator_in}
use Rattle.meta_rules.specs.Read.{Meaning}
use Rattle.meta_rules.specs.Trees.{tree_broken}

-- what is met first stays so if more would be met later
first_first : {E : Type 0} (met met' cause : Option E) → IsFirst met cause → IsFirst (option_or met met') cause
first_first met met' None is = tt
first_first met met' (Some cause) is = ap (λ m. option_or m met') is

first_later : {E : Type 0} (met met' cause : Option E) → met ≡ None → IsFirst met' cause → IsFirst (option_or met met') cause
first_later met met' None none is = tt
first_later met met' (Some cause) none is = ap (λ m. option_or m met') none ∙ is

-- both find what they find, one after the other
pub finds_both : {A B E F : Type 0} (cause_of : F → Option E) (met met' : Option E) (Is : A → Type 0) (Is' : B → Type 0) (first : Result A F)
    (second : Result B F) (result : Result (A × B) F)
    → Finds cause_of met Is first → Finds cause_of met' Is' second → IsBoth first second result
    → Finds cause_of (option_or met met') (λ pair. Is pair.0 × Is' pair.1) result
finds_both cause_of met met' Is Is' (Ok a) (Ok b) result one other is =
    subst (λ r. Finds cause_of (option_or met met') (λ pair. Is pair.0 × Is' pair.1) r) (sym is)
    (ap (λ m. option_or m met') one.0 ∙ other.0, (one.1, other.1))
finds_both cause_of met met' Is Is' (Ok a) (Err fault) result one other is =
    subst (λ r. Finds cause_of (option_or met met') (λ pair. Is pair.0 × Is' pair.1) r) (sym is)
    (first_later met met' (cause_of fault) one.0 other)
finds_both cause_of met met' Is Is' (Err fault) second result one other is =
    subst (λ r. Finds cause_of (option_or met met') (λ pair. Is pair.0 × Is' pair.1) r) (sym is) (first_first met met' (cause_of fault) one)

-- ---- all objects with expressions

abbrev pub Indicators : Meaning → MetaParts → Unread → Vec Indicator Global → Type 0
Indicators meaning parts links all = all.items ≡ made_of (indicator_in meaning (days_of parts)) parts.indicators links.indicators

abbrev pub Rules : Meaning → MetaParts → Unread → Vec Rule Global → Type 0
Rules meaning parts links all = all.items ≡ made_of (rule_in meaning (days_of parts)) parts.validation_rules links.validation_rules

abbrev pub Programs : Meaning → MetaParts → Unread → Vec ProgramIndicator Global → Type 0
Programs meaning parts links all =
    all.items ≡ made_of (program_indicator_in meaning (days_of parts)) parts.program_indicators links.program_indicators

abbrev pub AllRead : Meaning → KindIds → MetaParts → Unread
    → Result (Vec Indicator Global × (Vec Rule Global × Vec ProgramIndicator Global)) ExprError → Type 0
AllRead meaning ids parts links result =
    Finds expr_cause (expressions_unread meaning ids parts)
    (λ all. Indicators meaning parts links all.0 × (Rules meaning parts links all.1.0 × Programs meaning parts links all.1.1)) result

pub all_read : (meaning : Meaning) (ids : KindIds) (parts : MetaParts) (links : Unread) (indicators : Result (Vec Indicator Global) ExprError)
    (rules : Result (Vec Rule Global) ExprError) (programs : Result (Vec ProgramIndicator Global) ExprError)
    (later : Result (Vec Rule Global × Vec ProgramIndicator Global) ExprError)
    (result : Result (Vec Indicator Global × (Vec Rule Global × Vec ProgramIndicator Global)) ExprError)
    → Finds expr_cause (first_unread (indicator_unread meaning ids (days_of parts)) parts.indicators) (Indicators meaning parts links) indicators
    → Finds expr_cause (first_unread (rule_unread meaning ids (days_of parts)) parts.validation_rules) (Rules meaning parts links) rules
    → Finds expr_cause (first_unread (program_indicator_unread meaning ids (days_of parts)) parts.program_indicators) (Programs meaning parts links) programs
    → IsBoth rules programs later → IsBoth indicators later result → AllRead meaning ids parts links result
all_read meaning ids parts links indicators rules programs later result one two three behind all =
    finds_both expr_cause (first_unread (indicator_unread meaning ids (days_of parts)) parts.indicators)
    (option_or (first_unread (rule_unread meaning ids (days_of parts)) parts.validation_rules)
    (first_unread (program_indicator_unread meaning ids (days_of parts)) parts.program_indicators))
    (Indicators meaning parts links) (λ pair. Rules meaning parts links pair.0 × Programs meaning parts links pair.1) indicators later result one
    (finds_both expr_cause (first_unread (rule_unread meaning ids (days_of parts)) parts.validation_rules)
    (first_unread (program_indicator_unread meaning ids (days_of parts)) parts.program_indicators) (Rules meaning parts links)
    (Programs meaning parts links) rules programs later two three behind) all

-- ---- what the rules hand on

abbrev pub Approvals : Links → Vec (Option ℕ) Global × Vec (List ℤ) Global → Type 0
Approvals links pair = AreApprovals links pair.0.items pair.1.items

abbrev pub AllRuled : MetaParts → Links
    → Result (List (List ℕ × Option ℕ) × (List (ℕ × List ℕ) × (Vec (Option ℕ) Global × Vec (List ℤ) Global))) RuleError → Type 0
AllRuled parts links result =
    Finds rule_cause (rules_broken parts links)
    (λ all. (all.0 ≡ tree_rows links.organisation_units) × ((all.1.0 ≡ option_combo_rows links.category_option_combos) × Approvals links all.1.1)) result

pub all_ruled : (parts : MetaParts) (links : Links) (tree : Result (List (List ℕ × Option ℕ)) RuleError) (combos : Result (List (ℕ × List ℕ)) RuleError)
    (approvals : Result (Vec (Option ℕ) Global × Vec (List ℤ) Global) RuleError)
    (later : Result (List (ℕ × List ℕ) × (Vec (Option ℕ) Global × Vec (List ℤ) Global)) RuleError)
    (result : Result (List (List ℕ × Option ℕ) × (List (ℕ × List ℕ) × (Vec (Option ℕ) Global × Vec (List ℤ) Global))) RuleError)
    → Finds rule_cause (tree_broken links.organisation_units) (λ held. held ≡ tree_rows links.organisation_units) tree
    → Finds rule_cause (combo_broken links.categories links.category_combos links.category_option_combos)
    (λ held. held ≡ option_combo_rows links.category_option_combos) combos
    → Finds rule_cause (approvals_broken parts links) (Approvals links) approvals → IsBoth combos approvals later → IsBoth tree later result
    → AllRuled parts links result
all_ruled parts links tree combos approvals later result one two three behind all =
    finds_both rule_cause (tree_broken links.organisation_units)
    (option_or (combo_broken links.categories links.category_combos links.category_option_combos) (approvals_broken parts links))
    (λ held. held ≡ tree_rows links.organisation_units)
    (λ pair. (pair.0 ≡ option_combo_rows links.category_option_combos) × Approvals links pair.1) tree later result one
    (finds_both rule_cause (combo_broken links.categories links.category_combos links.category_option_combos) (approvals_broken parts links)
    (λ held. held ≡ option_combo_rows links.category_option_combos) (Approvals links) combos approvals later two three behind) all
