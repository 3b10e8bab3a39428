use Rattle.std.proofs.Common.{refl}
use Rattle.meta_forms.proofs.sharing.open_access.Goals as goal

pub returns : goal.returns
returns c = refl
