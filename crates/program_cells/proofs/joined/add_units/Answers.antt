use Rattle.std.proofs.Common.{◌<◌, length, arith}
use Rattle.program_cells.specs.Places.{order_of}
use Rattle.program_cells.proofs.JoinLemmas.{units-more}
use Rattle.program_cells.proofs.joined.add_units.Goals as goal

pub loop-unit-preserved : goal.loop-unit-preserved
loop-unit-preserved c =
    let known = c.loop-unit.invariant in
    let less : c.loop-unit.unit < c.args.to = c.loop-unit-test.true in
    let within : c.loop-unit.unit < length c.args.places.now = omega (arith, less, c.requires.there) in (
      omega (arith, known.0),
      omega (arith, less),
      λ events are.
          units-more order_of events c.args.places.now c.args.from c.loop-unit.unit c.args.found.now.items c.loop-unit.found.items
          c.add_unit.new.found.items are
          known.0 within c.in_ok-add_unit.ensures (known.2 events are),
    )
