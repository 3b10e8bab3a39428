use Rattle.std.proofs.Common.{◌≡◌, rules, Ok}
use Rattle.dh_changes.specs.World.{facts}
use Rattle.value_import.specs.Verdicts.{completions_verdict_of}
use Rattle.value_import.proofs.WriteLemmas.{list-writes, list-fits}
use Rattle.value_import.proofs.verdict.judge_completions.Goals as goal

value : (c : goal.After-drop-batch-3)
    → c.with_completions.new.batch.verdict ≡ completions_verdict_of (facts c.args.world.now) c.args.meta.now c.args.who c.args.moment c.args.list.now
unfolding completions_verdict_of
value c = search rules

pub returns-clause-writes : goal.returns-clause-writes
returns-clause-writes c =
    list-writes (facts c.args.world.now) c.args.meta.now c.args.who c.args.moment c.args.list.now (Ok c.with_completions.new.batch.verdict) (value c)

pub returns-clause-fits : goal.returns-clause-fits
returns-clause-fits c =
    list-fits (facts c.args.world.now) c.args.meta.now c.args.who c.args.moment c.args.list.now (Ok c.with_completions.new.batch.verdict) (value c)
