use Rattle.std.proofs.Common.{◌≡◌, ◌∙◌, ◌<◌, ◌++◌, ◌∷◌, [], List, append_assoc, sym, ap, arith, ℕ, ◌^◌}
use Rattle.std.proofs.lemmas.List.{append-nil}
use Rattle.std.proofs.lemmas.Result.{on_ok_weaker}
use Rattle.dh_base.specs.Decimals.{decimals, with_point}
use Rattle.dh_base.proofs.DecimalLemmas.{decimals_none, pointed}
use Rattle.dh_base.proofs.print.push_decimals.Goals as goal

pub returns-then-rest-eq0 : goal.returns-then-rest-eq0
returns-then-rest-eq0 c =
    sym (ap (λ n. c.args.text.now.items ++ with_point (decimals c.args.places n)) c.if-rest-eq0.true
    ∙ ap (λ t. c.args.text.now.items ++ with_point t) (decimals_none c.args.places) ∙ append-nil c.args.text.now.items)

pushed : (before middle after : List ℕ) (p n : ℕ) → n < 10 ^ p → 0 < n → middle ≡ before ++ 46 ∷ [] → after ≡ middle ++ decimals p n
    → after ≡ before ++ with_point (decimals p n)
pushed before middle after p n below some first second =
    second ∙ ap (λ t. t ++ decimals p n) first ∙ append_assoc before (46 ∷ []) (decimals p n) ∙ ap (λ t. before ++ t) (sym (pointed p n below some))

pub returns : goal.returns
returns c =
    on_ok_weaker c.push_digits.result
    (λ h. pushed c.args.text.now.items c.push.new.self.items c.push_digits.new.text.items c.args.places c.args.rest c.requires.below
    (omega (arith, c.if-rest-eq0.false)) c.in_ok-push.ensures.items h)
    c.push_digits.ensures
