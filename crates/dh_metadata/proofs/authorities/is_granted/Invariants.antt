use Rattle.std.proofs.Common.{◌≡◌, false, take}
use Rattle.std.specs.List.{list_any}
use Rattle.dh_metadata.specs.Users.{role_has}
use Rattle.dh_metadata.proofs.authorities.is_granted.Given as goal

abbrev pub invariant-loop-role : goal.invariant-loop-role
invariant-loop-role l = list_any (role_has l.roles l.authority) (take l.role-index l.user.user_roles) ≡ false
