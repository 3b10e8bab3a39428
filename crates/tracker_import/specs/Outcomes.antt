-- What objects come to, one after another.
use Rattle.std.specs.Prelude.{ℕ, ◌+◌, ◌≤◌, Bool, ◌&&◌, ◌==◌, not, cond, List, [], ◌∷◌, ◌++◌, length, Option}
use Rattle.dh_changes.specs.declared.outcome.Verdict.{Verdict}
use Rattle.tracker_import.specs.declared.judged.Judged.{Judged}
use Rattle.tracker_import.specs.declared.judged.Judged.TheVariants as outcome

-- a verdict, and the identifiers of the objects judged so far, each of which may have none
pub record Sofar : Type 0 where
  pub verdict : Verdict
  pub judged : List (Option (List ℕ))

abbrev pub sofar_of : Verdict → List (Option (List ℕ)) → Sofar
sofar_of verdict judged = record { verdict = verdict; judged = judged }

abbrev pub nothing : Verdict
nothing = record { writes = []; conflicts = []; imported = 0; updated = 0; ignored = 0; deleted = 0 }

abbrev pub none : Sofar
none = sofar_of nothing []

-- a verdict with what the object at an index, of this identifier, comes to: a conflict adds one to ignored
abbrev pub counted : ℕ → Option (List ℕ) → Judged → Verdict → Verdict
counted index id (outcome.Refused code) v =
    record v { conflicts = v.conflicts ++ record { code = code; index = index; uid = id } ∷ []; ignored = v.ignored + 1 }
counted index id outcome.Nothing v = v
counted index id (outcome.Created writes) v = record v { writes = v.writes ++ writes; imported = v.imported + 1 }
counted index id (outcome.Updated writes) v = record v { writes = v.writes ++ writes; updated = v.updated + 1 }
counted index id (outcome.Deleted writes) v = record v { writes = v.writes ++ writes; deleted = v.deleted + 1 }

-- one object more
unfoldable pub taken : Option (List ℕ) → Judged → Sofar → Sofar
taken id what sofar = record {
  verdict = counted (length sofar.judged) id what sofar.verdict;
  judged = sofar.judged ++ id ∷ [];
}

-- all together or not at all: one conflict leaves all objects unwritten, and they count as ignored
abbrev pub unwritten : ℕ → Verdict → Verdict
unwritten count v = record v { writes = []; imported = 0; updated = 0; ignored = count; deleted = 0 }

abbrev pub is_whole : Verdict → Bool
is_whole v = length v.conflicts == 0

unfoldable pub finished : Bool → Sofar → Verdict
finished atomic sofar = cond (atomic && not (is_whole sofar.verdict)) (unwritten (length sofar.judged) sofar.verdict) sofar.verdict

-- how many objects are counted
abbrev pub total_of : Verdict → ℕ
total_of v = v.imported + v.updated + v.ignored + v.deleted

-- no more are counted than there are
abbrev pub AreAtMost : ℕ → Verdict → Type 0
AreAtMost n v = total_of v ≤ n
