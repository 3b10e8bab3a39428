use Rattle.meta_reader.proofs.ReadyLemmas.{linked_ready}
use Rattle.meta_reader.proofs.build.joined.Goals as goal

pub tried-requires : goal.tried-requires
tried-requires g c =
    let r =
    linked_ready c.args.parts.now c.args.ids c.args.links c.requires.0 c.requires.1.0 c.requires.1.1.1 c.requires.1.1.0 in
    (r.0, (r.1, (r.2, (r.3, r.4))))
