use Rattle.std.proofs.Common.{◌≡◌, false, take}
use Rattle.dh_metadata.specs.Approval.{unit_rows}
use Rattle.query_lang.specs.View.{is_under_any}
use Rattle.web_routes.proofs.checked.is_under_any.Given as goal

abbrev pub invariant-loop-view : goal.invariant-loop-view
invariant-loop-view l = is_under_any (unit_rows l.meta) (take l.view-index l.views) l.unit ≡ false
