-- What a dx item that can be answered names.
use Rattle.std.proofs.Common.{◌≡◌, ◌<◌, ℕ, zero, suc, List, [], ◌∷◌, get_or, subst, arith, Bool, true, false, length}
use Rattle.std.proofs.Common.{sym, ap, ◌∙◌}
use Rattle.std.proofs.lemmas.Bool.{ltb-true}
use Rattle.std.proofs.lemmas.List.{length-map, get_or-map}
use Rattle.dh_metadata.specs.Linked.{AreBelow}
use Rattle.dh_base.specs.declared.plain.Rate.{Rate}
use Rattle.dh_metadata.specs.declared.held.Records.{Records}
use Rattle.query_lang.specs.declared.plain.Dx.{Dx}
use Rattle.query_lang.specs.declared.plain.DxKind.TheVariants as dx_kind
use Rattle.query_answer.specs.Rows.{Slot, alone, slots}
use Rattle.query_answer.specs.Asked.{can_answer_kind, can_answer_dx}

pub element_there : (r : Records) (dx : Dx) → can_answer_dx r dx ≡ true → dx.kind ≡ dx_kind.Element → dx.number < length r.data_elements
unfolding can_answer_dx
element_there r dx can is = ltb-true _ _ (sym (ap (λ k. can_answer_kind r dx.number k) is) ∙ can)

pub indicator_there : (r : Records) (dx : Dx) → can_answer_dx r dx ≡ true → dx.kind ≡ dx_kind.Indicator → dx.number < length r.indicators
unfolding can_answer_dx
indicator_there r dx can is = ltb-true _ _ (sym (ap (λ k. can_answer_kind r dx.number k) is) ∙ can)

pub rate_there : (r : Records) (dx : Dx) (which : Rate) → can_answer_dx r dx ≡ true → dx.kind ≡ dx_kind.Rate which → dx.number < length r.data_sets
unfolding can_answer_dx
rate_there r dx which can is = ltb-true _ _ (sym (ap (λ k. can_answer_kind r dx.number k) is) ∙ can)

pub program_there : (r : Records) (dx : Dx) → can_answer_dx r dx ≡ true → dx.kind ≡ dx_kind.ProgramIndicator → dx.number < length r.program_indicators
unfolding can_answer_dx
program_there r dx can is = ltb-true _ _ (sym (ap (λ k. can_answer_kind r dx.number k) is) ∙ can)

at_one : (end x k d : ℕ) → x < end → k < 1 → get_or (x ∷ []) k d < end
at_one end x zero d is within = is
at_one end x (suc k) d is within = absurd (omega arith)

one_below : (end x : ℕ) → x < end → AreBelow end (x ∷ [])
one_below end x is = record { each = λ k d within. at_one end x k d is within }

-- one part of units that are there
pub units_there : (end : ℕ) (filter : Bool) (items : List ℕ) (place : ℕ) (part : Slot ℕ) → AreBelow end items → place < length (slots filter items)
    → part ≡ get_or (slots filter items) place part → AreBelow end part.items
units_there end true items zero part below within is = subst (λ (p : Slot ℕ). AreBelow end p.items) (sym is) below
units_there end true items (suc place) part below within is = absurd (omega arith)
units_there end false items place part below within is =
    let at : place < length items = rw (length-map items alone) at within in
    let x = get_or items place 0 in
    let one : part ≡ alone x = is ∙ get_or-map alone items place 0 part at in
    subst (λ (p : Slot ℕ). AreBelow end p.items) (sym one) (one_below end x (below.each place 0 at))
