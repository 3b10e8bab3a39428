use Rattle.std.proofs.Common.{◌∙◌, sym, ap}
use Rattle.std.specs.List.{filter}
use Rattle.std.proofs.lemmas.List.{take_all}
use Rattle.table_build.specs.InYear.{is_place_in}
use Rattle.table_build.proofs.LoopLemmas.{passed-more, passed-no-more}
use Rattle.table_build.proofs.in_year.places_in.Goals.{then-is_place_in+in_ok-push, else-is_place_in}
use Rattle.table_build.proofs.in_year.places_in.Goals as goal

pub loop-place-init : goal.loop-place-init
loop-place-init c = c.new-found.ensures.items

pub loop-place-preserved : goal.loop-place-preserved
loop-place-preserved c =
    let test = is_place_in c.args.year.now in
    let list = c.args.places.now in
    let found = c.loop-place.found.items in
    let at = c.loop-place.place-index in
    let x = c.place-item.result in
    elim c.if-is_place_in.branch [
      | then-is_place_in+in_ok-push w ↦
          ap (λ kept. kept.items) w.found-is
          ∙ passed-more test list at x c.loop-place-test.true c.place-item.is found w.push.new.self.items
          (sym c.is_place_in.ensures ∙ w.if-is_place_in.true) w.in_ok-push.ensures.items c.loop-place.invariant
      | else-is_place_in w ↦
          ap (λ kept. kept.items) w.found-is
          ∙ passed-no-more test list at x c.loop-place-test.true c.place-item.is found (sym c.is_place_in.ensures ∙ w.if-is_place_in.false) c.loop-place.invariant
    ]

pub returns : goal.returns
returns c =
    c.loop-place.invariant ∙ ap (filter (is_place_in c.args.year.now)) (take_all c.loop-place.place-index c.args.places.now c.loop-place-test.false)
