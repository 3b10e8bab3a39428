-- All expressions of metadata.
use Rattle.std.specs.Prelude.{Option}
use Rattle.std.specs.Option.{option_or}
use Rattle.dh_metadata.specs.declared.parts.MetaParts.{MetaParts}
use Rattle.meta_rules.specs.declared.all.Unread.{Unread}
use Rattle.meta_rules.specs.declared.all.Expressions.{Expressions}
use Rattle.meta_rules.specs.declared.expr_fault.ExprFault.{ExprFault}
use Rattle.meta_rules.specs.Names.{KindIds}
use Rattle.meta_rules.specs.Read.{Meaning}
use Rattle.meta_rules.specs.Days.{days_of}
use Rattle.meta_rules.specs.Objects.{first_unread, indicator_unread, rule_unread, program_indicator_unread}
use Rattle.meta_rules.specs.Objects.{made_of, indicator_in, rule_in, program_indicator_in}

-- the first text that isn't read: of the indicators, else of the validation rules, else of the program indicators
abbrev pub expressions_unread : Meaning → KindIds → MetaParts → Option ExprFault
expressions_unread meaning ids parts =
    option_or (first_unread (indicator_unread meaning ids (days_of parts)) parts.indicators)
    (option_or (first_unread (rule_unread meaning ids (days_of parts)) parts.validation_rules)
    (first_unread (program_indicator_unread meaning ids (days_of parts)) parts.program_indicators))

-- all objects with expressions: each has what the file says, its references, and the expressions that its texts are
abbrev pub expressions_of : Meaning → MetaParts → Unread → Expressions
expressions_of meaning parts links = record {
  indicators = made_of (indicator_in meaning (days_of parts)) parts.indicators links.indicators;
  validation_rules = made_of (rule_in meaning (days_of parts)) parts.validation_rules links.validation_rules;
  program_indicators = made_of (program_indicator_in meaning (days_of parts)) parts.program_indicators links.program_indicators;
}
