use Rattle.meta_forms.specs.Entries.{tokens_of}
use Rattle.meta_forms.specs.Parts.{hierarchy_of, elements_of, sets_of, indicators_of, programs_of, users_of, groups_of}
use Rattle.meta_forms.proofs.parts.read_groups.Goals as goal

pub returns : goal.returns
unfolding hierarchy_of elements_of sets_of indicators_of programs_of users_of groups_of tokens_of
returns c = c.read.ensures
