use Rattle.std.proofs.Common.{◌≡◌, ◌∙◌, false, ap}
use Rattle.serde_json.specs.View.{view}
use Rattle.serde_json.specs.Written.{has_float, compact_text}
use Rattle.validation.specs.Body.{body_of}
use Rattle.validation.proofs.BodyLemmas.{body-plain}
use Rattle.validation.proofs.body_text.body.Goals as goal

pub returns : goal.returns
returns c =
    let is : view c.in_ok-body.body ≡ body_of c.args.meta.now c.args.violations.now = c.in_ok-body.ensures in
    let whole : has_float (view c.in_ok-body.body) ≡ false = ap has_float is ∙ body-plain c.args.meta.now c.args.violations.now in
    c.in_ok-to_vec.ensures.text whole ∙ ap compact_text is
