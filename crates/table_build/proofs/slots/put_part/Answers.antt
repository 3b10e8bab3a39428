use Rattle.std.proofs.Common.{◌≡◌, ◌<◌, ◌∙◌, List, Some, length, get_or, set, sym, subst, rules, w32, of_z, to_z, to_z-of_z, FitsSigned}
use Rattle.table_build.specs.declared.slots.Slot.{Slot}
use Rattle.table_build.specs.Slots.{AreSlots}
use Rattle.table_build.proofs.SlotLemmas.{part-put}
use Rattle.table_build.proofs.slots.put_part.Goals as goal

pub returns-in-Some : goal.returns-in-Some
returns-in-Some c = λ listed is are.
    let same = c.deref.ensures.value in
    let fits : FitsSigned w32 c.year-year.result = search rules in
    let year : to_z w32 (of_z w32 c.year-year.result) ≡ c.args.part.year = to_z-of_z fits ∙ c.year-year.ensures in
    let within = subst (λ (xs : List Slot). c.in-Some.at < length xs) same c.in-Some.ensures.within in
    let found = subst (λ (xs : List Slot). (other : Slot) → (get_or xs c.in-Some.at other).year ≡ c.args.part.year) same
    (λ other. c.in-Some.ensures.found other ∙ year) in
    let put = part-put listed c.args.slots.now.items c.in-Some.at c.args.part within found is are in
    subst (AreSlots listed) (sym c.fill.ensures) (subst (λ y. AreSlots listed (set c.args.slots.now.items c.in-Some.at
    (record { year = y; part = Some c.args.part }))) (sym year) put)
