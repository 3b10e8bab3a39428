use Rattle.value_import.proofs.SaidLemmas.{said-more}
use Rattle.value_import.proofs.batch.accept.Goals as goal

pub returns-clause-said : goal.returns-clause-said
returns-clause-said c =
    said-more c.args.batch.now.verdict.writes c.push.new.self c.args.write c.args.batch.now.values c.note.new.values c.args.batch.now.registrations
    c.note.new.registrations
    c.requires c.in_ok-note.ensures c.in_ok-push.ensures.ok
