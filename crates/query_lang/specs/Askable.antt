-- What holds of every query that is read.
use Rattle.std.specs.Prelude.{◌≡◌, ℕ, ◌<◌, true, length, Some, IfSome, IsUtf8}
use Rattle.std.specs.List.{AllByRecursion}
use Rattle.dh_sharing.specs.declared.access.Right.TheVariants.{Read}
use Rattle.dh_metadata.specs.declared.held.Records.{Records}
use Rattle.dh_metadata.specs.declared.kind.Kind.{Kind}
use Rattle.dh_metadata.specs.declared.kind.Kind.TheVariants as kind
use Rattle.dh_metadata.specs.Objects.{count_of}
use Rattle.dh_metadata.specs.Users.{may_of}
use Rattle.query_lang.specs.declared.plain.DxKind.{DxKind}
use Rattle.query_lang.specs.declared.plain.DxKind.TheVariants as dx
use Rattle.query_lang.specs.declared.plain.Dx.{Dx}
use Rattle.query_lang.specs.declared.plain.Query.{Query}
use Rattle.query_lang.specs.declared.item.DxForm.{DxForm}
use Rattle.query_lang.specs.declared.item.DxItem.{DxItem}
use Rattle.query_lang.specs.declared.form.Form.{Form}
use Rattle.query_lang.specs.Items.{dx_form}
use Rattle.query_lang.specs.Walk.{AreIn}
use Rattle.query_lang.specs.declared.named.Found.{Found}
use Rattle.query_lang.specs.Named.{named}

-- the text of the item has its form
abbrev pub IsFormed : DxItem → Type 0
IsFormed item = dx_form item.text ≡ Some item.form

-- there is a period, and each item of the dimension `dx` has a text of its form
pub record IsForm (form : Form) : Type 0 where
  pub periods : 0 < length form.periods.items
  pub dx : AllByRecursion IsFormed form.dx

-- the kind of the objects that an item names by number
abbrev pub kind_of : DxKind → Kind
kind_of dx.Element = kind.DataElement
kind_of dx.Indicator = kind.Indicator
kind_of dx.ProgramIndicator = kind.ProgramIndicator
kind_of (dx.Rate figure) = kind.DataSet

-- the numbers name objects, and the user may read the first
pub record IsSeen (r : Records) (user : ℕ) (found : Found) : Type 0 where
  pub in_range : found.number < count_of r (kind_of found.kind)
  pub readable : may_of r user Read (kind_of found.kind) found.number ≡ true
  pub part : IfSome found.part (λ part. part < length r.category_option_combos)

abbrev pub found_in : Dx → Found
found_in d = record { kind = d.kind; number = d.number; part = d.part }

-- the item's text has a form, names this, and is UTF-8
pub record IsAsked (r : Records) (user : ℕ) (d : Dx) : Type 0 where
  pub form : DxForm
  pub text : dx_form d.text ≡ Some form
  pub named : named r user form ≡ Some (found_in d)
  pub seen : IsSeen r user (found_in d)
  pub utf8 : IsUtf8 d.text

-- there are a period and a unit, the units are units, and the user may read each item
pub record IsAskable (r : Records) (user : ℕ) (query : Query) : Type 0 where
  pub periods : 0 < length query.periods.items
  pub units : 0 < length query.units.items
  pub in_range : AreIn (length r.organisation_units) query.units.items
  pub dx : AllByRecursion (IsAsked r user) query.dx
