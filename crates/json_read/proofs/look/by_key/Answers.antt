use Rattle.std.proofs.Common.{◌≡◌, ◌+◌, ◌∷◌, drop, sym, ap, ◌∙◌, arith}
use Rattle.std.proofs.lemmas.List.{drop_more}
use Rattle.json.specs.Value.{members_view}
use Rattle.serde_json.specs.Data.{put}
use Rattle.json_read.specs.Meant.{members_meant}
use Rattle.json_read.specs.Views.{data_of, members_data}
use Rattle.json_read.proofs.LookLemmas.{members_data-put}
use Rattle.json_read.proofs.look.by_key.Goals as goal

pub loop-member-preserved : goal.loop-member-preserved
loop-member-preserved c =
    let l = c.loop-member in
    let xs = c.args.members.now in
    let x = c.member-item.result in
    let here : drop l.member-index xs ≡ x ∷ drop (l.member-index + 1) xs = drop_more xs l.member-index x (omega arith)
    ∙ ap (λ y. y ∷ drop (l.member-index + 1) xs) (sym c.member-item.is) in
    let added : members_data c.insert.new.self.entries ≡ put x.0.now (data_of x.1) (members_data l.map.entries) =
    ap members_data c.in_ok-insert.ensures.entries ∙ members_data-put l.map.entries _ _ in
    ap (λ found. members_meant (members_view (drop (l.member-index + 1) xs)) found) added
    ∙ sym (ap (λ ms. members_meant (members_view ms) (members_data l.map.entries)) here)
    ∙ l.invariant
