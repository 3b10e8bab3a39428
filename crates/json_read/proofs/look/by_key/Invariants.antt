use Rattle.std.proofs.Common.{◌≡◌, drop}
use Rattle.json.specs.Value.{members_view}
use Rattle.serde_json.specs.Data.{no_members}
use Rattle.json_read.specs.Meant.{members_meant}
use Rattle.json_read.specs.Views.{members_data}
use Rattle.json_read.proofs.look.by_key.Given as goal

abbrev pub invariant-loop-member : goal.invariant-loop-member
invariant-loop-member l =
    members_meant (members_view (drop l.member-index l.members)) (members_data l.map.entries) ≡ members_meant (members_view l.members) no_members
