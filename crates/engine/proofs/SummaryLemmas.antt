-- The numbers of a summary.
use Rattle.std.proofs.Common.{◌≡◌, ◌||◌, false, List, [], ◌∷◌, map, refl, ap}
use Rattle.serde_json.specs.View.{items_of}
use Rattle.serde_json.specs.Written.{has_float, items_have_float}
use Rattle.dh_changes.specs.declared.outcome.Conflict.{Conflict}
use Rattle.dh_changes.specs.declared.outcome.Verdict.{Verdict}
use Rattle.request_session.specs.Bodies.{reply_of}
use Rattle.engine.specs.Summary.{conflict_of, counts_of, response_of, summary_response, summary_of}

conflicts_whole : (conflicts : List Conflict) → items_have_float (items_of (map conflict_of conflicts)) ≡ false
unfolding conflict_of
conflicts_whole [] = refl
conflicts_whole (conflict ∷ conflicts) = conflicts_whole conflicts

-- no number of a summary is a float
pub summary_whole : (verdict : Verdict) → has_float (summary_of verdict) ≡ false
unfolding summary_of summary_response reply_of response_of counts_of
summary_whole verdict = ap (λ t. t || false) (ap (λ t. t || false) (conflicts_whole verdict.conflicts))
