use Rattle.std.proofs.Common.{◌∙◌, ap}
use Rattle.serde_json.specs.Written.{has_float}
use Rattle.query_answer.proofs.FloatLemmas.{meta_plain}
use Rattle.query_answer.proofs.body.push_told.Goals as goal

pub push_value-requires : goal.push_value-requires
push_value-requires c = ap has_float c.in_ok-told.ensures ∙ meta_plain c.args.meta.now c.args.query.now
