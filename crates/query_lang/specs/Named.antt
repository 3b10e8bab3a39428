-- What the items of the dimension `dx` name, for a user.
use Rattle.std.specs.Prelude.{ℕ, ◌==◌, Bool, false, if◌then◌else◌, List, slice_get, Option, None, Some, option_map, option_and_then}
use Rattle.std.specs.Prelude.{Result}
use Rattle.std.specs.Option.{option_map_or, option_or}
use Rattle.dh_base.specs.declared.codes.Code.TheVariants as code
use Rattle.dh_base.specs.declared.codes.Refusal.{Refusal}
use Rattle.dh_sharing.specs.declared.access.Right.TheVariants.{Read}
use Rattle.dh_metadata.specs.declared.held.Records.{Records}
use Rattle.dh_metadata.specs.declared.kind.Kind.{Kind}
use Rattle.dh_metadata.specs.declared.kind.Kind.TheVariants as kind
use Rattle.dh_metadata.specs.declared.records.Element.{Element}
use Rattle.dh_metadata.specs.declared.records.OptionCombo.{OptionCombo}
use Rattle.dh_metadata.specs.Objects.{find_of}
use Rattle.dh_metadata.specs.Users.{may_of}
use Rattle.query_lang.specs.declared.plain.DxKind.{DxKind}
use Rattle.query_lang.specs.declared.plain.DxKind.TheVariants as dx
use Rattle.query_lang.specs.declared.plain.Dx.{Dx}
use Rattle.query_lang.specs.declared.item.DxForm.{DxForm}
use Rattle.query_lang.specs.declared.item.DxForm.TheVariants as form
use Rattle.query_lang.specs.declared.item.DxItem.{DxItem}
use Rattle.query_lang.specs.Given.{or_refuse}
use Rattle.query_lang.specs.declared.named.Found.{Found}

-- the object of that identifier, if the user may read it
unfoldable pub readable : Records → ℕ → Kind → List ℕ → Option ℕ
readable r user kind id = option_and_then (λ n. if may_of r user Read kind n then Some n else None) (find_of r kind id)

abbrev pub alone : DxKind → ℕ → Found
alone kind n = record { kind = kind; number = n; part = None }

-- a data element, an indicator or a program indicator
unfoldable pub object_named : Records → ℕ → List ℕ → Option Found
object_named r user id =
    option_or (option_map (alone dx.Element) (readable r user kind.DataElement id))
    (option_or (option_map (alone dx.Indicator) (readable r user kind.Indicator id))
    (option_map (alone dx.ProgramIndicator) (readable r user kind.ProgramIndicator id)))

-- the option combination is one of the element's category combination
unfoldable pub is_combo_of : Records → ℕ → ℕ → Bool
is_combo_of r element part =
    option_map_or (λ (e : Element). option_map_or (λ (c : OptionCombo). c.category_combo == e.category_combo) (slice_get r.category_option_combos part) false)
    (slice_get r.data_elements element) false

unfoldable pub combo_named : Records → ℕ → List ℕ → Option ℕ
combo_named r element id = option_and_then (λ part. if is_combo_of r element part then Some part else None) (find_of r kind.CategoryOptionCombo id)

-- a data element with one of its option combinations
unfoldable pub operand_named : Records → ℕ → List ℕ → List ℕ → Option Found
operand_named r user element combo =
    option_and_then (λ n. option_map (λ part. record { kind = dx.Element; number = n; part = Some part }) (combo_named r n combo))
    (readable r user kind.DataElement element)

-- what an item names, if the user may read it
abbrev pub named : Records → ℕ → DxForm → Option Found
named r user (form.Object id) = object_named r user id
named r user (form.Operand element combo) = operand_named r user element combo
named r user (form.Rate set figure) = option_map (alone (dx.Rate figure)) (readable r user kind.DataSet set)

abbrev pub dx_from : Found → List ℕ → Dx
dx_from n text = record { kind = n.kind; number = n.number; part = n.part; text = text }

-- an item, or its refusal
unfoldable pub dx_of : Records → ℕ → DxItem → Result Dx Refusal
dx_of r user item = or_refuse code.F14 item.text (option_map (λ (found : Found). dx_from found item.text) (named r user item.form))
