use Rattle.shared_engine.proofs.PlaceLemmas.{has_place, with_part}
use Rattle.shared_engine.proofs.work.put.Goals as goal

pub index_mut-requires : goal.index_mut-requires
index_mut-requires g c =
    has_place (g.B.Builder.is_part c.args.builder.now) c.args.years.now c.args.places.now.items c.args.built.place _ c.requires.places
    c.requires.built.there c.args.places.now.ok.0

pub returns : goal.returns
returns g c =
    with_part (g.B.Builder.is_part c.args.builder.now) c.args.years.now c.args.places.now.items c.args.built.place c.args.built.part c.requires.places
    c.requires.built.part
