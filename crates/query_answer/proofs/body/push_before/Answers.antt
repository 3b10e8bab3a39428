use Rattle.std.proofs.Common.{◌∙◌, ◌++◌, ap}
use Rattle.json.specs.Print.{escape_byte}
use Rattle.serde_json.specs.Written.{has_float, compact_text}
use Rattle.query_answer.specs.Written.{before_text}
use Rattle.query_answer.proofs.BodyLemmas.{six_after}
use Rattle.query_answer.proofs.body.push_before.Goals as goal

pub push_value-requires : goal.push_value-requires
push_value-requires c = ap has_float c.from.ensures

pub returns : goal.returns
unfolding before_text escape_byte
returns c =
    six_after _ _ _ _ _ _ _ _ _ _ _ _ _ c.in_ok-push_heads.ensures c.in_ok-extend_from_slice.ensures.items
    (c.in_ok-push_value.ensures ∙ ap (λ v. c.extend_from_slice.new.self.items ++ compact_text v) c.from.ensures)
    c.in_ok-extend_from_slice-2.ensures.items c.in_ok-push_told.ensures c.in_ok-extend_from_slice-3.ensures.items
