-- How many units of a group are under the units of a cell.
use Rattle.std.proofs.Common.{◌≡◌, ◌∙◌, ℕ, ◌≤◌, Bool, true, false, ◌&&◌, List, length, sym, ap, subst, arith}
use Rattle.std.specs.Prelude.{nat_eq, slice_index_or}
use Rattle.std.proofs.lemmas.Bool.{ne_eqb}
use Rattle.std.proofs.lemmas.List.{length-map}
use Rattle.std.proofs.lemmas.List.Folds.{list_any_none}
use Rattle.dh_sharing.specs.Ranges.{is_within, AreApart}
use Rattle.org_tree.specs.Count.{count_below}
use Rattle.org_tree.specs.Units.{UnitRow, IsTree, order_of}
use Rattle.org_tree.proofs.CountLemmas.{count_below-agree}
use Rattle.org_tree.proofs.OrderLemmas.{order-lt}
use Rattle.dh_metadata.specs.declared.held.Records.{Records}
use Rattle.dh_metadata.specs.Approval.{unit_rows}
use Rattle.dh_metadata.specs.Linked.{AreBelow}
use Rattle.cell_values.specs.Cuts.{HoldsBoth}
use Rattle.cell_values.specs.Places.{is_at_some, AreOrdersAt}
use Rattle.cell_values.specs.Items.{is_group_unit, units_in}
use Rattle.cell_values.specs.Counts.{covered}
use Rattle.cell_values.proofs.SpanLemmas.{covered-count}

-- no unit has an order after all
past_none : (us : List UnitRow) (units : List ℕ) (n : ℕ) → IsTree us → AreBelow (length us) units → length us ≤ n → is_at_some us true units n ≡ false
past_none us units n t below past =
    list_any_none (λ unit. nat_eq (order_of us unit) n) units
    (λ k d within.
    let low = order-lt us t (slice_index_or units k d) (below.each k d within) in
    ne_eqb (order_of us (slice_index_or units k d)) n (λ e. absurd (omega (arith, low, past, e))))

and_first : (a b : Bool) → a ≡ false → (a && b) ≡ false
and_first a b e = ap (λ v. v && b) e

pub units-counted : (r : Records) (group units : List ℕ) (alone : Bool) (us : List UnitRow) (own asked both : List (ℕ × ℕ)) → us ≡ unit_rows r → IsTree us
    → AreBelow (length r.organisation_units) group → AreOrdersAt us true group own → AreOrdersAt us alone units asked → HoldsBoth own asked both → AreApart both
    → covered both ≡ units_in r group units alone
unfolding units_in
units-counted r group units alone us own asked both is t below of_group of_units cuts apart =
    let all : length us ≡ length r.organisation_units = ap length is ∙ length-map r.organisation_units _ in
    let member : (n : ℕ) → is_within both n ≡ (is_at_some us true group n && is_at_some us alone units n) =
    λ n. cuts.members n ∙ ap (λ b. b && is_within asked n) (of_group.members n) ∙ ap (λ b. is_at_some us true group n && b) (of_units.members n) in
    let inside : AreBelow (length us) group = subst (λ end. AreBelow end group) (sym all) below in
    covered-count both (length us) apart (λ n past. member n ∙ and_first _ _ (past_none us group n t inside past))
    ∙ ap (λ end. count_below (is_within both) end) all
    ∙ count_below-agree (is_within both) (is_group_unit r group units alone) (length r.organisation_units)
    (λ n h. member n ∙ ap (λ v. is_at_some v true group n && is_at_some v alone units n) is)
