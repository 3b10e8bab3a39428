-- What logs of changes leave of rights and the tree.
use Rattle.std.proofs.Common.{◌≡◌, ◌<◌, ℕ, List, length, sym, subst}
use Rattle.dh_changes.specs.declared.change.Change.{Change}
use Rattle.dh_metadata.specs.declared.held.Records.{Records}
use Rattle.dh_changes.specs.Facts.{Facts, facts_in}
use Rattle.dh_records.specs.Access as known
use Rattle.dh_records.proofs.AccessLaws as laws
use Rattle.change_log.specs.Log.{writes_of}
use Rattle.engine.specs.MetaAfter.{meta_after, IsAfter}

-- those after all writes are those after the log
pub of_writes : (meta after : Records) → ((log : Facts) → after ≡ known.meta_after log meta) → (log : List Change) → after ≡ meta_after meta log
unfolding meta_after
of_writes meta after is log = is (facts_in (writes_of log))

-- metadata after two logs are the same
pub same_after : (meta : Records) (log other : List Change) → meta_after meta log ≡ meta_after meta other
unfolding meta_after
same_after meta log other = laws.same_after (facts_in (writes_of log)) (facts_in (writes_of other)) meta

-- metadata after a log have the rights and the tree that the log leaves
pub is_after : (meta : Records) (log : List Change) → IsAfter meta log (meta_after meta log)
unfolding meta_after
is_after meta log = laws.is_after (facts_in (writes_of log)) meta

-- a user of the metadata is one of those after a log, and the other way round
pub user_after : (meta : Records) (log : List Change) (user : ℕ) → user < length meta.users → user < length (meta_after meta log).users
user_after meta log user below = subst (λ n. user < n) (sym (is_after meta log).users) below

pub user_before : (meta : Records) (log : List Change) (user : ℕ) → user < length (meta_after meta log).users → user < length meta.users
user_before meta log user below = subst (λ n. user < n) (is_after meta log).users below
