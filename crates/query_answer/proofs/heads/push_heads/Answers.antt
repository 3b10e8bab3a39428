use Rattle.std.proofs.Common.{◌∙◌, ◌++◌, ap}
use Rattle.json.specs.Print.{escape_byte}
use Rattle.query_answer.specs.Heads.{dimension_of, value_column}
use Rattle.query_answer.proofs.BodyLemmas.{six_after, heads_joined}
use Rattle.query_answer.proofs.heads.push_heads.Goals as goal

pub returns : goal.returns
unfolding dimension_of value_column escape_byte
returns c =
    six_after _ _ _ _ _ _ _ _ _ _ _ _ _ (c.in_ok-extend_from_slice.ensures.items ∙ ap (λ l. c.args.text.now.items ++ l) c.opening.ensures)
    c.in_ok-extend_from_slice-2.ensures.items
    (c.in_ok-extend_from_slice-3.ensures.items ∙ ap (λ l. c.extend_from_slice-2.new.self.items ++ l) c.unless.ensures)
    (c.in_ok-extend_from_slice-4.ensures.items ∙ ap (λ l. c.extend_from_slice-3.new.self.items ++ l) c.unless-2.ensures)
    c.in_ok-extend_from_slice-5.ensures.items c.in_ok-push.ensures.items
    ∙ ap (λ l. c.args.text.now.items ++ l) (heads_joined c.args.periods c.args.units)
