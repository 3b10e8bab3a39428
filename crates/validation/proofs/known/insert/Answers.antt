use Rattle.validation.proofs.known.insert.Goals as goal

pub returns : goal.returns
returns c = c.in_ok-insert.ensures.updates.0
