-- Rules that are broken.
use Rattle.std.specs.Prelude.{ℕ, List, Option, None, Some}
use lib.Chars.{codes}
use Rattle.meta_rules.specs.declared.fault.BrokenRule.{BrokenRule}
use Rattle.meta_rules.specs.declared.fault.BrokenRule.TheVariants as rule
use Rattle.meta_rules.specs.declared.fault.RuleFault.{RuleFault}
use Rattle.meta_rules.specs.declared.fault.RuleError.{RuleError}
use Rattle.meta_rules.specs.declared.fault.RuleError.TheVariants.{Broken, Memory}

-- the word for a rule
unfoldable pub rule_text : BrokenRule → List ℕ
rule_text rule.Tree = codes "tree"
rule_text rule.Combo = codes "combo"
rule_text rule.Override = codes "override"
rule_text rule.Workflow = codes "workflow"
rule_text rule.Levels = codes "levels"
rule_text rule.Stage = codes "stage"
rule_text rule.Aggregation = codes "aggregation"

-- an object breaks a rule
abbrev pub breaks : BrokenRule → Option (List ℕ) → RuleFault
breaks which uid = record { uid = uid; which = which }

-- what a fault carries; running out of memory carries nothing
abbrev pub rule_cause : RuleError → Option RuleFault
rule_cause (Broken fault) = Some fault
rule_cause Memory = None
