use Rattle.std.proofs.Common.{◌≡◌, [], drop}
use Rattle.dh_metadata.specs.Sets.{put_by_id}
use Rattle.validation.specs.Check.{rule_ids}
use Rattle.validation.proofs.order.rules_by_id.Given as goal

abbrev pub invariant-loop-number : goal.invariant-loop-number
invariant-loop-number l = put_by_id [] 0 (rule_ids l.meta) ≡ put_by_id l.map.entries l.number (drop l.number (rule_ids l.meta))
