-- The first of several faults.
use Rattle.std.proofs.Common.{◌≡◌, ◌∙◌, Option, Some, None, sym, ap, subst}
use Rattle.std.specs.Option.{option_or}
use Rattle.dh_base.specs.Memory.{IsFirst}
use Rattle.meta_reader.specs.declared.fault.MetaFault.{MetaFault}
use Rattle.meta_reader.specs.declared.fault.MetaFault.TheVariants as fault
use Rattle.meta_reader.specs.Faults.{meta_cause}

-- a fault that is met is the first of two if it is the first one
pub met_first : (a b cause : Option MetaFault) → IsFirst a cause → IsFirst (option_or a b) cause
met_first a b None is = tt
met_first a b (Some found) is = ap (λ o. option_or o b) is

-- and if the first of two isn't met
pub met_then : (a b cause : Option MetaFault) → a ≡ None → IsFirst b cause → IsFirst (option_or a b) cause
met_then a b cause none is = subst (λ o. IsFirst (option_or o b) cause) (sym none) is

-- a fault that is there is met
pub met_some : (a : Option MetaFault) (found : MetaFault) → a ≡ Some found → IsFirst a (meta_cause found)
met_some a fault.Memory is = tt
met_some a fault.NotJson is = is
met_some a (fault.Shape path) is = is
met_some a (fault.Unknown uid path) is = is
met_some a (fault.Twice uid) is = is
met_some a (fault.Expr uid at) is = is
met_some a (fault.Rule uid which) is = is
met_some a (fault.Limit which) is = is

-- none of two is there
pub none_of : (a b : Option MetaFault) → a ≡ None → b ≡ None → option_or a b ≡ None
none_of a b no_first no_second = ap (λ o. option_or o b) no_first ∙ no_second

pub ruleset faults = (met_first, met_then, met_some, none_of)
