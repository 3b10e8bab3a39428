use Rattle.std.proofs.Common.{◌≡◌, ◌∙◌, ℕ, true, false, [], ◌∷◌, ◌++◌, Vec, Global, not, ap, sym}
use Rattle.std.specs.List.{list_any}
use Rattle.std.specs.HashSet.{contains_by}
use Rattle.query_lang.specs.Once.{same_bytes}
use Rattle.query_lang.proofs.OnceLemmas.{put_one}
use Rattle.query_lang.proofs.once.put_new.Goals as goal

pub returns-clause-seen : goal.returns-clause-seen
returns-clause-seen c =
    let key : Vec ℕ Global = c.in_ok-key.key in
    let is : key.items ≡ c.args.text.now = c.in_ok-key.ensures in
    let absent : contains_by (λ (k : Vec ℕ Global). same_bytes c.args.text.now k.items) c.args.seen.now ≡ false =
    sym c.contains.ensures ∙ c.if-contains.false in
    let added : c.in_ok-insert.field-0 ≡ true = c.in_ok-insert.ensures.added
    ∙ ap not (ap (λ t. contains_by (λ (k : Vec ℕ Global). same_bytes t k.items) c.args.seen.now) is ∙ absent) in
    let item : c.from-item.result ≡ c.args.text.now = c.from-item.ensures ∙ c.in_ok-copied.ensures in
    λ text.
    put_one (λ (k : Vec ℕ Global). same_bytes text k.items) (same_bytes text) key c.args.text.now c.args.seen.now.keys c.insert.new.self.keys
    c.args.kept.now.items c.in_ok-insert.field-0
    added c.in_ok-insert.ensures.keys (ap (same_bytes text) is) (c.requires text)
    ∙ ap (list_any (same_bytes text)) (sym (c.in_ok-push.ensures.items ∙ ap (λ x. c.args.kept.now.items ++ x ∷ []) item))
