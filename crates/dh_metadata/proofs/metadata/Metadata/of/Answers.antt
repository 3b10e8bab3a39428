use Rattle.dh_metadata.specs.declared.kind.Kind.TheVariants.{DataSet, User, UserGroup}
use Rattle.dh_metadata.proofs.metadata.Metadata.of.Goals as goal

pub make-requires-clause-sets : goal.make-requires-clause-sets
make-requires-clause-sets c = c.requires.few DataSet

pub make-requires-clause-users : goal.make-requires-clause-users
make-requires-clause-users c = c.requires.few User

pub make-requires-clause-groups : goal.make-requires-clause-groups
make-requires-clause-groups c = c.requires.few UserGroup
