use Rattle.std.proofs.Common.{◌≤◌, length, subst, sym}
use Rattle.request_session.proofs.HeadLemmas.{short_phrase}
use Rattle.request_session.proofs.heads.short_phrase.Goals as goal

pub returns-clause-short : goal.returns-clause-short
returns-clause-short c = subst (λ xs. length xs ≤ 31) (sym c.phrase.ensures) (short_phrase c.args.status c.requires)
