use Rattle.std.proofs.Common.{rules}
use Rattle.request_session.proofs.ToldLemmas.{over_all}
use Rattle.request_session.proofs.session.serve_requests.Goals as goal

pub returns-clause-ran : goal.returns-clause-ran
returns-clause-ran g c = search rules

pub returns-clause-told : goal.returns-clause-told
returns-clause-told g c bytes told other =
    over_all g.M.Machine.step c.args.most bytes _ _ _ _ c.args.machine.now c.run.new.machine c.run.result told other (returns-clause-ran g c)
