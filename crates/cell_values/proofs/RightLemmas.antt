-- Nobody has a right to an object that isn't there, or is of a kind that isn't shared.
use Rattle.std.proofs.Common.{◌≡◌, ℕ, ◌≤◌, false, ap, sym, refl, None}
use Rattle.std.specs.Prelude.{option_map}
use Rattle.std.specs.Option.{option_map_or}
use Rattle.std.proofs.lemmas.Bool.{false≢true}
use Rattle.std.proofs.lemmas.Option.{slice_get_past}
use Rattle.dh_sharing.specs.declared.access.Right.{Right}
use Rattle.dh_sharing.specs.Rule.{may}
use Rattle.dh_metadata.specs.declared.held.Records.{Records}
use Rattle.dh_metadata.specs.declared.kind.Kind.{Kind}
use Rattle.dh_metadata.specs.declared.kind.Kind.TheVariants.{OrganisationUnit, OrganisationUnitGroup, CategoryOption, Category, CategoryCombo}
use Rattle.dh_metadata.specs.declared.kind.Kind.TheVariants.{CategoryOptionCombo, DataElement, ApprovalLevel, Workflow, DataSet, Constant, IndicatorType}
use Rattle.dh_metadata.specs.declared.kind.Kind.TheVariants.{Indicator, ValidationRule, TrackedEntityType, TrackedEntityAttribute, Program, ProgramStage}
use Rattle.dh_metadata.specs.declared.kind.Kind.TheVariants.{ProgramIndicator, UserRole, User, UserGroup}
use Rattle.dh_metadata.specs.Objects.{count_of, is_shared, sharing_of}
use Rattle.dh_metadata.specs.Users.{facts_of, may_of}

none-past : (r : Records) (kind : Kind) (n : ℕ) → count_of r kind ≤ n → sharing_of r kind n ≡ None
none-past r OrganisationUnit n past = refl
none-past r OrganisationUnitGroup n past = refl
none-past r CategoryOption n past = ap (λ o. option_map (λ object. object.sharing) o) (slice_get_past r.category_options n past)
none-past r Category n past = refl
none-past r CategoryCombo n past = refl
none-past r CategoryOptionCombo n past = refl
none-past r DataElement n past = ap (λ o. option_map (λ object. object.sharing) o) (slice_get_past r.data_elements n past)
none-past r ApprovalLevel n past = refl
none-past r Workflow n past = refl
none-past r DataSet n past = ap (λ o. option_map (λ object. object.sharing) o) (slice_get_past r.data_sets n past)
none-past r Constant n past = refl
none-past r IndicatorType n past = refl
none-past r Indicator n past = ap (λ o. option_map (λ object. object.sharing) o) (slice_get_past r.indicators n past)
none-past r ValidationRule n past = ap (λ o. option_map (λ object. object.sharing) o) (slice_get_past r.validation_rules n past)
none-past r TrackedEntityType n past = ap (λ o. option_map (λ object. object.sharing) o) (slice_get_past r.tracked_entity_types n past)
none-past r TrackedEntityAttribute n past = refl
none-past r Program n past = ap (λ o. option_map (λ object. object.sharing) o) (slice_get_past r.programs n past)
none-past r ProgramStage n past = refl
none-past r ProgramIndicator n past = ap (λ o. option_map (λ object. object.sharing) o) (slice_get_past r.program_indicators n past)
none-past r UserRole n past = refl
none-past r User n past = refl
none-past r UserGroup n past = refl

none-unshared : (r : Records) (kind : Kind) (n : ℕ) → is_shared kind ≡ false → sharing_of r kind n ≡ None
none-unshared r OrganisationUnit n not = refl
none-unshared r OrganisationUnitGroup n not = refl
none-unshared r CategoryOption n not = absurd (false≢true (sym not))
none-unshared r Category n not = refl
none-unshared r CategoryCombo n not = refl
none-unshared r CategoryOptionCombo n not = refl
none-unshared r DataElement n not = absurd (false≢true (sym not))
none-unshared r ApprovalLevel n not = refl
none-unshared r Workflow n not = refl
none-unshared r DataSet n not = absurd (false≢true (sym not))
none-unshared r Constant n not = refl
none-unshared r IndicatorType n not = refl
none-unshared r Indicator n not = absurd (false≢true (sym not))
none-unshared r ValidationRule n not = absurd (false≢true (sym not))
none-unshared r TrackedEntityType n not = absurd (false≢true (sym not))
none-unshared r TrackedEntityAttribute n not = refl
none-unshared r Program n not = absurd (false≢true (sym not))
none-unshared r ProgramStage n not = refl
none-unshared r ProgramIndicator n not = absurd (false≢true (sym not))
none-unshared r UserRole n not = refl
none-unshared r User n not = refl
none-unshared r UserGroup n not = refl

pub may_not_past : (r : Records) (user : ℕ) (right : Right) (kind : Kind) (n : ℕ) → count_of r kind ≤ n → may_of r user right kind n ≡ false
may_not_past r user right kind n past = ap (λ o. option_map_or (λ sharing. may (facts_of r user) right sharing) o false) (none-past r kind n past)

pub may_not_unshared : (r : Records) (user : ℕ) (right : Right) (kind : Kind) (n : ℕ) → is_shared kind ≡ false → may_of r user right kind n ≡ false
may_not_unshared r user right kind n not = ap (λ o. option_map_or (λ sharing. may (facts_of r user) right sharing) o false) (none-unshared r kind n not)
