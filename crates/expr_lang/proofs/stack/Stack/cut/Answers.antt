use Rattle.std.proofs.Common.{◌-◌, ℕ, take, drop, reverse, ap, ◌∙◌}
use Rattle.expr_lang.proofs.Stacks.{cut_off}
use Rattle.expr_lang.proofs.stack.Stack.cut.Goals as goal

pub returns : goal.returns
returns g c =
    let items = c.self.inside.entries.items in
    let kept = c.saturating_sub.ensures ∙ ap (λ (n : ℕ). n - c.args.count) (c.len.ensures ∙ c.self.inside.entries.ok.0) in
    ap reverse (c.truncate.ensures.items ∙ ap (λ (k : ℕ). take k items) kept) ∙ cut_off items c.args.count ∙ ap (drop c.args.count) c.self.view_is
