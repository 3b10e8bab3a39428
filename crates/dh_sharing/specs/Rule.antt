-- The rule of sharing: a right that any entry gives is given.
use Rattle.std.specs.Prelude.{ℕ, Bool, ◌==◌, ◌&&◌, ◌||◌, false}
use Rattle.std.specs.List.{list_any}
use Rattle.std.specs.Option.{option_map_or}
use Rattle.dh_sharing.specs.declared.access.Right.{Right}
use Rattle.dh_sharing.specs.declared.rule.UserFacts.{UserFacts}
use Rattle.dh_sharing.specs.declared.rule.Sharing.{Sharing}
use Rattle.dh_sharing.specs.Access.{has}

abbrev pub is_owner : UserFacts → Sharing → Bool
is_owner user object = option_map_or (λ owner. owner == user.number) object.owner false

-- the user's own entry gives the right
abbrev pub user_may : UserFacts → Right → Sharing → Bool
user_may user right object = list_any (λ entry. (entry.0 == user.number) && has entry.1 right) object.users

abbrev pub is_in_group : UserFacts → ℕ → Bool
is_in_group user group = list_any (λ own. own == group) user.groups

-- the entry of one of the user's groups gives it
abbrev pub group_may : UserFacts → Right → Sharing → Bool
group_may user right object = list_any (λ entry. is_in_group user entry.0 && has entry.1 right) object.groups

-- the user has all authorities, or is the owner, or the public entry, the user's own or one of a group of
-- the user's gives the right
abbrev pub may : UserFacts → Right → Sharing → Bool
may user right object =
    user.all || is_owner user object || has object.public right || user_may user right object || group_may user right object
