use Rattle.std.proofs.Common.{◌≡◌, ◌∙◌, true, false, refl, not, ap, sym, nat_eq}
use Rattle.std.specs.List.{list_any}
use Rattle.std.specs.HashSet.{contains}
use Rattle.query_lang.proofs.OnceLemmas.{put_one}
use Rattle.query_lang.proofs.set.put_new.Goals as goal

pub returns-clause-seen : goal.returns-clause-seen
returns-clause-seen c =
    let absent : contains nat_eq c.args.seen.now c.args.number ≡ false = sym c.contains.ensures ∙ c.if-contains.false in
    let added : c.in_ok-insert.field-0 ≡ true = c.in_ok-insert.ensures.added ∙ ap not absent in
    λ n.
    put_one (nat_eq n) (nat_eq n) c.args.number c.args.number c.args.seen.now.keys c.insert.new.self.keys c.args.kept.now.items c.in_ok-insert.field-0
    added c.in_ok-insert.ensures.keys refl (c.requires n)
    ∙ ap (list_any (nat_eq n)) (sym c.in_ok-push.ensures.items)
