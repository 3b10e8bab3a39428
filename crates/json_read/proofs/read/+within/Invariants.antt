use Rattle.std.proofs.Common.{◌≡◌, drop, length}
use Rattle.json.specs.Tree.{json_tokens, items_tokens, members_tokens}
use Rattle.json.specs.Value.{value_view, items_view, members_view}
use Rattle.json_read.specs.Meant.{are_items_within, are_members_within}
use Rattle.json_read.proofs.read.+within.Given as goal

abbrev pub decreases-is_within : goal.decreases-is_within
decreases-is_within l = length (json_tokens (value_view l.value.now))

abbrev pub decreases-are_items_within : goal.decreases-are_items_within
decreases-are_items_within l = length (items_tokens (items_view l.items.now.items))

abbrev pub decreases-are_members_within : goal.decreases-are_members_within
decreases-are_members_within l = length (members_tokens (members_view l.members.now.items))

abbrev pub invariant-are_items_within-loop-item : goal.invariant-are_items_within-loop-item
invariant-are_items_within-loop-item l = are_items_within (items_view (drop l.item-index l.item-items)) ≡ are_items_within (items_view l.item-items)

abbrev pub invariant-are_members_within-loop-member : goal.invariant-are_members_within-loop-member
invariant-are_members_within-loop-member l =
    are_members_within (members_view (drop l.member-index l.member-items)) ≡ are_members_within (members_view l.member-items)
