use Rattle.std.proofs.Common.{◌≡◌, ◌∙◌, true, false, refl, not, ap, sym}
use Rattle.std.specs.List.{list_any}
use Rattle.std.specs.HashSet.{contains}
use Rattle.dh_periods.specs.Keys.{same_period}
use Rattle.query_lang.proofs.OnceLemmas.{put_one}
use Rattle.query_lang.proofs.period.put_new.Goals as goal

pub returns-clause-seen : goal.returns-clause-seen
returns-clause-seen c =
    let absent : contains same_period c.args.seen.now c.args.period ≡ false = sym c.contains.ensures ∙ c.if-contains.false in
    let added : c.in_ok-insert.field-0 ≡ true = c.in_ok-insert.ensures.added ∙ ap not absent in
    λ period.
    put_one (same_period period) (same_period period) c.args.period c.args.period c.args.seen.now.keys c.insert.new.self.keys c.args.kept.now.items
    c.in_ok-insert.field-0
    added c.in_ok-insert.ensures.keys refl (c.requires period)
    ∙ ap (list_any (same_period period)) (sym c.in_ok-push.ensures.items)
