use Rattle.std.proofs.Common.{◌∙◌, ◌≤◌, [], length, get_or, refl, sym, ap, subst, arith}
use Rattle.std.specs.List.Sorted.{IsStrictlyIncreasing}
use Rattle.std.proofs.lemmas.List.{take_all, get_or_default, get_or_past}
use Rattle.dh_metadata.specs.Members.{AreHolders, IsPutAt}
use Rattle.dh_metadata.proofs.HolderLemmas.{hold_more, hold_begun, put_none}
use Rattle.dh_metadata.proofs.holders.holders.Goals as goal
use Rattle.dh_metadata.proofs.holders.holders.Goals.{then-place-lists+in_ok-put_at, else-place-lists}

pub put_at-requires : goal.put_at-requires
put_at-requires c =
    let place = get_or c.args.order.now c.loop-place.place-index 0 in
    subst IsStrictlyIncreasing (sym (c.as_slice.ensures ∙ c.index-lists-place.is ∙ get_or_default c.args.lists.now place _ [] c.if-place-lists.true))
    (c.requires.each place c.if-place-lists.true)

pub loop-place-init : goal.loop-place-init
loop-place-init c = hold_begun c.args.lists.now c.args.order.now c.args.count c.in_ok-all.all.items c.in_ok-all.ensures

pub loop-place-preserved : goal.loop-place-preserved
loop-place-preserved c =
    let lists = c.args.lists.now in
    let order = c.args.order.now in
    let place = get_or order c.loop-place.place-index 0 in
    let put : IsPutAt place (get_or lists place []) c.loop-place.all.items c.if-place-lists.all.items =
    elim c.if-place-lists.branch [
      | then-place-lists+in_ok-put_at w ↦
          let numbers = w.as_slice.ensures ∙ w.index-lists-place.is ∙ get_or_default lists place _ [] w.if-place-lists.true in
          subst (λ all. IsPutAt place (get_or lists place []) c.loop-place.all.items all) (sym (ap (λ all. all.items) w.all-is))
          (subst (λ n. IsPutAt place n c.loop-place.all.items w.put_at.new.all.items) numbers w.in_ok-put_at.ensures)
      | else-place-lists w ↦
          subst (λ all. IsPutAt place (get_or lists place []) c.loop-place.all.items all) (sym (ap (λ all. all.items) w.all-is))
          (subst (λ n. IsPutAt place n c.loop-place.all.items c.loop-place.all.items) (sym (get_or_past lists place [] w.if-place-lists.false))
          (put_none place c.loop-place.all.items))
    ] in
    hold_more lists order c.loop-place.place-index place c.args.count c.loop-place.all.items c.if-place-lists.all.items c.loop-place-test.true refl
    c.loop-place.invariant put

pub returns : goal.returns
returns c =
    let past = c.loop-place-test.false in
    let end : length c.args.order.now ≤ c.loop-place.place-index = omega arith in
    subst (λ order. AreHolders c.args.lists.now order c.args.count c.loop-place.all.items) (take_all c.loop-place.place-index c.args.order.now end)
    c.loop-place.invariant
