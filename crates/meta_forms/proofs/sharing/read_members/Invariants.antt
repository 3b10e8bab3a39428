use Rattle.std.proofs.Common.{◌≡◌, ◌++◌, Ok}
use Rattle.json_read.specs.Views.{members_data}
use Rattle.json_read.specs.Forms.{and_then}
use Rattle.meta_forms.specs.Sharing.{members_of}
use Rattle.meta_forms.proofs.sharing.read_members.Given as goal

-- all members are those that are read and those that are left to read
abbrev pub invariant-loop-key : goal.invariant-loop-key
invariant-loop-key l =
    members_of l.outer (members_data l.fn.members.entries) ≡ and_then (members_of l.outer (members_data l.key-iterator)) (λ more. Ok (l.all.items ++ more))
