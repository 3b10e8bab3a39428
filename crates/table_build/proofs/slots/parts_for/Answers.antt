use Rattle.std.proofs.Common.{◌≡◌, ◌∙◌, ◌∷◌, [], ◌++◌, append_assoc, append-nil, ℤ, List, length, map, sym, ap, subst, arith}
use Rattle.std.specs.Arc.{arc_value}
use Rattle.std.specs.List.{AllByRecursion}
use Rattle.std.specs.Vec.Iter.{into_iter_items}
use Rattle.std.proofs.lemmas.List.{nil_from_length}
use Rattle.table_rows.specs.Store.{contents_in}
use Rattle.table_sums.specs.YearParts.{YearPart, part_of}
use Rattle.table_build.specs.declared.slots.Slot.{Slot}
use Rattle.table_build.specs.Log.{writes_of}
use Rattle.table_build.specs.Listed.{listed_in}
use Rattle.table_build.specs.Slots.{slot_years, IsSlotOf}
use Rattle.table_build.proofs.slots.parts_for.Goals as goal

pub loop-slot-preserved : goal.loop-slot-preserved
loop-slot-preserved c =
    let listed = contents_in (listed_in c.args.meta.now (writes_of (map arc_value c.args.changes.now))) in
    let made : ℤ → YearPart = part_of listed in
    let parts : List YearPart = c.loop-slot.parts.items in
    let slot : Slot = c.in-Some.slot in
    let left = into_iter_items c.next.new.self in
    let rest : List YearPart = map made (slot_years left) in
    let both = subst (AllByRecursion (IsSlotOf listed)) c.in-Some.ensures.steps.0 c.loop-slot.invariant.rest in
    record {
      parts = c.loop-slot.invariant.parts
          ∙ ap (λ (slots : List Slot). parts ++ map made (slot_years slots)) c.in-Some.ensures.steps.0
          ∙ sym (append_assoc parts (made slot.year ∷ []) rest)
          ∙ ap (λ all. all ++ rest) (sym (c.in_ok-push.ensures.items ∙ ap (λ part. parts ++ part ∷ []) c.in_ok-part_for.ensures));
      rest = both.1;
    }

pub returns : goal.returns
returns c =
    let listed = contents_in (listed_in c.args.meta.now (writes_of (map arc_value c.args.changes.now))) in
    let parts : List YearPart = c.loop-slot.parts.items in
    let left = into_iter_items c.loop-slot.slot-iterator in
    let empty : length left ≡ 0 = omega (arith, c.loop-slot.slot-iterator.rest.ok.0, c.in-None.ensures.steps.0) in
    sym (c.loop-slot.invariant.parts
    ∙ ap (λ (slots : List Slot). parts ++ map (part_of listed) (slot_years slots)) (nil_from_length left empty)
    ∙ append-nil parts)

pub part_for-requires-clause-slot : goal.part_for-requires-clause-slot
part_for-requires-clause-slot c =
    let listed = contents_in (listed_in c.args.meta.now (writes_of (map arc_value c.args.changes.now))) in
    let both = subst (AllByRecursion (IsSlotOf listed)) c.in-Some.ensures.steps.0 c.loop-slot.invariant.rest in
    both.0
