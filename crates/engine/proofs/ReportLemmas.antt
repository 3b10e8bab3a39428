-- The numbers of a report.
use Rattle.std.proofs.Common.{◌≡◌, ◌||◌, ℕ, false, List, [], ◌∷◌, Option, Some, None, map, refl, ap, ◌∙◌}
use Rattle.serde_json.specs.View.{items_of}
use Rattle.serde_json.specs.Written.{has_float, items_have_float}
use Rattle.dh_changes.specs.declared.outcome.Conflict.{Conflict}
use Rattle.dh_changes.specs.declared.outcome.Verdict.{Verdict}
use Rattle.engine.specs.Report.{uid_of, error_of, stats_of, body_of, validation_of, report_of}

uid_whole : (uid : Option (List ℕ)) → has_float (uid_of uid) ≡ false
uid_whole (Some uid) = refl
uid_whole None = refl

error_whole : (conflict : Conflict) → has_float (error_of conflict) ≡ false
unfolding error_of
error_whole conflict = ap (λ t. t || false) (uid_whole conflict.uid)

errors_whole : (conflicts : List Conflict) → items_have_float (items_of (map error_of conflicts)) ≡ false
errors_whole [] = refl
errors_whole (conflict ∷ conflicts) = ap (λ t. t || items_have_float (items_of (map error_of conflicts))) (error_whole conflict) ∙ errors_whole conflicts

-- no number of a report is a float
pub report_whole : (verdict : Verdict) → has_float (report_of verdict) ≡ false
unfolding report_of body_of stats_of validation_of
report_whole verdict = ap (λ t. (t || false) || false) (errors_whole verdict.conflicts)
