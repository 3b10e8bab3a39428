use Rattle.std.proofs.Common.{◌≡◌, ◌∙◌, ◌<◌, [], List, length, sym, subst, rules, arith}
use Rattle.std.proofs.Math.Nat.{le_refl}
use Rattle.table_rows.specs.declared.row.Group.{Group}
use Rattle.table_rows.proofs.GroupLemmas.{Step, groups_upto}
use Rattle.table_sums.proofs.JumpLemmas.{groups-begin, groups-next, groups-done, next-after, next-within}
use Rattle.table_sums.proofs.groups.groups_of.Goals as goal

pub loop-place-init : goal.loop-place-init
loop-place-init g c =
    let none : c.new-groups.result.items ≡ [] = search rules in
    record {
      step = subst (λ (gs : List Group). Step (groups_upto c.args.element c.args.rows.now c.place_of-place.result) gs) (sym none)
          (groups-begin c.args.element c.args.rows.now c.place_of-place.result c.place_of-place.ensures.cut);
      from = le_refl c.place_of-place.result;
      within = c.place_of-place.ensures.cut.within;
    }

pub loop-place-smaller : goal.loop-place-smaller
loop-place-smaller g c =
    let ends = c.place_of-end.ensures.cut.within in
    let to = c.loop-place-test.true in
    let within : c.loop-place.place < length c.args.rows.now = omega (arith, ends, to) in
    let more = next-after c.args.rows.now c.loop-place.place c.loop-place.groups.items c.next_group.new.groups.items c.in_ok-place.place within
    c.in_ok-place.ensures in
    omega (arith, more, to)

pub loop-place-preserved : goal.loop-place-preserved
loop-place-preserved g c =
    let ends = c.place_of-end.ensures.cut.within in
    let to = c.loop-place-test.true in
    let from = c.loop-place.invariant.from in
    let within : c.loop-place.place < length c.args.rows.now = omega (arith, ends, to) in
    let more = next-after c.args.rows.now c.loop-place.place c.loop-place.groups.items c.next_group.new.groups.items c.in_ok-place.place within
    c.in_ok-place.ensures in
    record {
      step = groups-next c.args.element c.args.rows.now c.place_of-place.result c.place_of-end.result c.loop-place.place c.loop-place.groups.items
          c.next_group.new.groups.items
          c.in_ok-place.place c.requires c.place_of-place.ensures.cut c.place_of-end.ensures.cut from to c.loop-place.invariant.step c.in_ok-place.ensures;
      from = omega (arith, more, from);
      within = next-within c.args.rows.now c.loop-place.place c.loop-place.groups.items c.next_group.new.groups.items c.in_ok-place.place within
          c.in_ok-place.ensures;
    }

pub returns : goal.returns
returns g c =
    c.from.ensures ∙ groups-done c.args.element c.args.rows.now c.place_of-end.result c.loop-place.place c.loop-place.groups.items
    c.place_of-end.ensures.cut c.loop-place-test.false
    c.loop-place.invariant.step
