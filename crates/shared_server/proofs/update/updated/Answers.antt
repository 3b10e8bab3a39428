use Rattle.std.proofs.Common.{rules, ◌∙◌, ◌≤◌, ◌<◌, ◌^◌, ℕ, List, length, sym, subst}
use Rattle.shared_server.proofs.TextLemmas.{update_short}
use Rattle.shared_server.proofs.update.updated.Goals as goal

pub fill-requires : goal.fill-requires
fill-requires c =
    let small : c.args.published < 2 ^ 64 = search rules in
    subst (λ (n : ℕ). length c.bytes.result.now ≤ n) (sym c.requires)
    (subst (λ (text : List ℕ). length text ≤ 128) (sym (c.bytes.ensures ∙ c.update_body-body.ensures)) (update_short c.args.kind c.args.published small))
