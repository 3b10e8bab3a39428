-- What a user doesn't see of the published changes changes no answer to the user.
use Rattle.std.specs.Prelude.{◌≡◌, ℕ, List, take}
use Rattle.dh_changes.specs.declared.change.Change.{Change}
use Rattle.dh_metadata.specs.declared.held.Records.{Records}
use Rattle.query_lang.specs.declared.plain.Query.{Query}
use Rattle.query_answer.specs.Answer.{answer_of}
use Rattle.table_rows.specs.Store.{Contents}
use Rattle.cell_values.specs.Seen.{SeenRecords, SameSeen, seen_of}
use Rattle.engine.specs.MetaAfter.{meta_after}
use Rattle.engine.specs.Tables.{tables_of}
use Rattle.shared_engine.specs.Entries.{Entry}
use Rattle.shared_engine.specs.Histories.{Made, stand_of}

-- the changes that are published in a history
abbrev pub published_changes : Made → List Entry → List Change
published_changes made entries = take (stand_of made entries).machine.published (stand_of made entries).machine.log

-- rights and the tree as these leave them
abbrev pub published_meta : Made → List Entry → Records
published_meta made entries = meta_after made.meta (published_changes made entries)

-- what a user sees of the tables that stand for them
abbrev pub published_seen : Made → List Entry → ℕ → SeenRecords
published_seen made entries user = seen_of (published_meta made entries) user (tables_of made.meta (published_changes made entries))

-- a look in a history has these tables
abbrev pub HasTables : Made → List Entry → Contents → Type 0
HasTables made entries tables = tables ≡ tables_of made.meta (published_changes made entries)

-- two histories, whose published changes leave the same metadata with the same rights and tree, and of which the user sees the same, in
-- whatever order it stands
pub record LookAlike (made other : Made) (entries others : List Entry) (user : ℕ) : Type 0 where
  pub meta : published_meta other others ≡ published_meta made entries
  pub same : SameSeen (published_seen made entries user) (published_seen other others user)

-- the user's query over the tables of a look has the same answer in both
abbrev pub UnseenStays : Type 0
UnseenStays =
    (made other : Made) (entries others : List Entry) (tables held : Contents) (user : ℕ) (query : Query) → LookAlike made other entries others user
    → HasTables made entries tables → HasTables other others held
    → answer_of (published_meta made entries) query (seen_of (published_meta made entries) user tables)
    ≡ answer_of (published_meta other others) query (seen_of (published_meta other others) user held)
