-- The names of values in a metadata file.
use Rattle.std.specs.Prelude.{ℕ, List, [], ◌∷◌, Option, Some, None, if◌then◌else◌, find, bytes_eq}
use lib.Chars.{codes}
use Rattle.dh_metadata.specs.declared.names.ValueType.{ValueType}
use Rattle.dh_metadata.specs.declared.names.ValueType.TheVariants as value_type
use Rattle.dh_metadata.specs.declared.names.Operator.{Operator}
use Rattle.dh_metadata.specs.declared.names.Operator.TheVariants as operator
use Rattle.dh_metadata.specs.declared.names.ProgramType.{ProgramType}
use Rattle.dh_metadata.specs.declared.names.ProgramType.TheVariants as program_type
use Rattle.dh_metadata.specs.declared.names.AnalyticsType.{AnalyticsType}
use Rattle.dh_metadata.specs.declared.names.AnalyticsType.TheVariants as analytics_type
use Rattle.dh_base.specs.declared.plain.AggType.{AggType}
use Rattle.dh_base.specs.declared.plain.AggType.TheVariants as aggregation
use Rattle.dh_base.specs.declared.plain.Strategy.{Strategy}
use Rattle.dh_base.specs.declared.plain.Strategy.TheVariants as strategy

-- what stands beside a name in a table
abbrev pub named : {T : Type 0} → List (List ℕ × T) → List ℕ → Option T
named [] name = None
named (entry ∷ more) name = if bytes_eq entry.0 name then Some entry.1 else named more name

-- the name of the value type
abbrev pub value_type_name : ValueType → List ℕ
value_type_name value_type.Number = codes "NUMBER"
value_type_name value_type.Integer = codes "INTEGER"
value_type_name value_type.IntegerPositive = codes "INTEGER_POSITIVE"
value_type_name value_type.IntegerNegative = codes "INTEGER_NEGATIVE"
value_type_name value_type.IntegerZeroOrPositive = codes "INTEGER_ZERO_OR_POSITIVE"
value_type_name value_type.Percentage = codes "PERCENTAGE"
value_type_name value_type.UnitInterval = codes "UNIT_INTERVAL"
value_type_name value_type.Boolean = codes "BOOLEAN"
value_type_name value_type.TrueOnly = codes "TRUE_ONLY"
value_type_name value_type.Date = codes "DATE"
value_type_name value_type.Text = codes "TEXT"

-- the value type of that name
unfoldable pub value_type_named : List ℕ → Option ValueType
value_type_named name =
    find (λ each. bytes_eq (value_type_name each) name)
    (value_type.Number ∷ value_type.Integer ∷ value_type.IntegerPositive ∷ value_type.IntegerNegative ∷ value_type.IntegerZeroOrPositive ∷ value_type.Percentage
    ∷ value_type.UnitInterval ∷ value_type.Boolean ∷ value_type.TrueOnly ∷ value_type.Date ∷ value_type.Text ∷ [])

-- the name of the operator
abbrev pub operator_name : Operator → List ℕ
operator_name operator.EqualTo = codes "equal_to"
operator_name operator.NotEqualTo = codes "not_equal_to"
operator_name operator.GreaterThan = codes "greater_than"
operator_name operator.GreaterThanOrEqualTo = codes "greater_than_or_equal_to"
operator_name operator.LessThan = codes "less_than"
operator_name operator.LessThanOrEqualTo = codes "less_than_or_equal_to"
operator_name operator.CompulsoryPair = codes "compulsory_pair"
operator_name operator.ExclusivePair = codes "exclusive_pair"

-- the operator of that name
unfoldable pub operator_named : List ℕ → Option Operator
operator_named name =
    find (λ each. bytes_eq (operator_name each) name)
    (operator.EqualTo ∷ operator.NotEqualTo ∷ operator.GreaterThan ∷ operator.GreaterThanOrEqualTo ∷ operator.LessThan ∷ operator.LessThanOrEqualTo ∷
    operator.CompulsoryPair ∷ operator.ExclusivePair ∷ [])

-- the name of the program type
abbrev pub program_type_name : ProgramType → List ℕ
program_type_name program_type.WithRegistration = codes "WITH_REGISTRATION"
program_type_name program_type.WithoutRegistration = codes "WITHOUT_REGISTRATION"

-- the program type of that name
unfoldable pub program_type_named : List ℕ → Option ProgramType
program_type_named name = find (λ each. bytes_eq (program_type_name each) name) (program_type.WithRegistration ∷ program_type.WithoutRegistration ∷ [])

-- the name of the analytics type
abbrev pub analytics_type_name : AnalyticsType → List ℕ
analytics_type_name analytics_type.Event = codes "EVENT"
analytics_type_name analytics_type.Enrollment = codes "ENROLLMENT"

-- the analytics type of that name
unfoldable pub analytics_type_named : List ℕ → Option AnalyticsType
analytics_type_named name = find (λ each. bytes_eq (analytics_type_name each) name) (analytics_type.Event ∷ analytics_type.Enrollment ∷ [])

-- the name of the aggregation type
abbrev pub aggregation_name : AggType → List ℕ
aggregation_name aggregation.Sum = codes "SUM"
aggregation_name aggregation.Average = codes "AVERAGE"
aggregation_name aggregation.AverageSumOrgUnit = codes "AVERAGE_SUM_ORG_UNIT"
aggregation_name aggregation.Last = codes "LAST"
aggregation_name aggregation.First = codes "FIRST"
aggregation_name aggregation.LastAverageOrgUnit = codes "LAST_AVERAGE_ORG_UNIT"
aggregation_name aggregation.FirstAverageOrgUnit = codes "FIRST_AVERAGE_ORG_UNIT"
aggregation_name aggregation.Count = codes "COUNT"
aggregation_name aggregation.Min = codes "MIN"
aggregation_name aggregation.Max = codes "MAX"
aggregation_name aggregation.None = codes "NONE"

-- the aggregation type of that name
unfoldable pub aggregation_named : List ℕ → Option AggType
aggregation_named name =
    find (λ each. bytes_eq (aggregation_name each) name)
    (aggregation.Sum ∷ aggregation.Average ∷ aggregation.AverageSumOrgUnit ∷ aggregation.Last ∷ aggregation.First ∷ aggregation.LastAverageOrgUnit ∷
    aggregation.FirstAverageOrgUnit ∷ aggregation.Count ∷ aggregation.Min ∷ aggregation.Max ∷ aggregation.None ∷ [])

-- the name of the missing-value strategy
abbrev pub strategy_name : Strategy → List ℕ
strategy_name strategy.SkipIfAny = codes "SKIP_IF_ANY_VALUE_MISSING"
strategy_name strategy.SkipIfAll = codes "SKIP_IF_ALL_VALUES_MISSING"
strategy_name strategy.Never = codes "NEVER_SKIP"

-- the missing-value strategy of that name
unfoldable pub strategy_named : List ℕ → Option Strategy
strategy_named name = find (λ each. bytes_eq (strategy_name each) name) (strategy.SkipIfAny ∷ strategy.SkipIfAll ∷ strategy.Never ∷ [])
