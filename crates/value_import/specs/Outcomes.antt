-- Verdicts, one value or completion after another.
use Rattle.std.specs.Prelude.{ℕ, ◌+◌, ◌<◌, ◌≤◌, Bool, cond, [], ◌∷◌, ◌++◌, None, length, ⊤}
use Rattle.dh_metadata.specs.declared.held.Records.{Records}
use Rattle.dh_base.specs.declared.codes.Code.{Code}
use Rattle.dh_changes.specs.declared.outcome.Conflict.{Conflict}
use Rattle.dh_changes.specs.declared.outcome.Verdict.{Verdict}
use Rattle.dh_changes.specs.declared.outcome.Who.{Who}
use Rattle.dh_changes.specs.declared.outcome.Who.TheVariants.{User, Loader}
use Rattle.value_import.specs.declared.judged.Judged.{Judged}
use Rattle.value_import.specs.declared.judged.Judged.TheVariants as judged

-- no write, no conflict and nothing counted
abbrev pub nothing : Verdict
nothing = record { writes = []; conflicts = []; imported = 0; updated = 0; ignored = 0; deleted = 0 }

abbrev pub conflict_at : ℕ → Code → Conflict
conflict_at index code = record { code = code; index = index; uid = None }

-- a verdict with what the value or completion at an index comes to: a conflict adds one to ignored
abbrev pub taken : ℕ → Judged → Verdict → Verdict
taken index (judged.Refused code) v = record v { conflicts = v.conflicts ++ conflict_at index code ∷ []; ignored = v.ignored + 1 }
taken index judged.Ignored v = record v { ignored = v.ignored + 1 }
taken index (judged.Imported write) v = record v { writes = v.writes ++ write ∷ []; imported = v.imported + 1 }
taken index (judged.Updated write) v = record v { writes = v.writes ++ write ∷ []; updated = v.updated + 1 }
taken index (judged.Deleted write) v = record v { writes = v.writes ++ write ∷ []; deleted = v.deleted + 1 }
taken index (judged.Uncounted write) v = record v { writes = v.writes ++ write ∷ [] }

-- a dry run has the same conflicts and counts, and no writes
abbrev pub finished : Bool → Verdict → Verdict
finished dry v = cond dry (record v { writes = [] }) v

-- at most so much is counted of each
pub record AreAtMost (n : ℕ) (v : Verdict) : Type 0 where
  pub imported : v.imported ≤ n
  pub updated : v.updated ≤ n
  pub ignored : v.ignored ≤ n
  pub deleted : v.deleted ≤ n

-- a user's number is that of a user
abbrev pub IsKnown : Records → Who → Type 0
IsKnown r (User user) = user < length r.users
IsKnown r Loader = ⊤
