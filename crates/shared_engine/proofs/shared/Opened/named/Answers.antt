use Rattle.std.proofs.Common.{◌≡◌, [], List, refl, sym, ap, ◌∙◌, subst}
use Rattle.shared_engine.specs.Views.{own}
use Rattle.shared_engine.specs.Entries.{Entry, caller_of}
use Rattle.shared_engine.specs.Histories.{IsLegal}
use Rattle.shared_engine.proofs.shared.Opened.named.Goals as goal

pub invariant_of-callers : goal.invariant_of-callers
invariant_of-callers g c =
    let none : [] ≡ c.first_back.result.list = sym (ap (λ d. d.list) c.first_back.ensures.token ∙ ap (λ s. s.list) c.self.invariant.0) in (
      refl,
      record {
        table = ap (λ d. d.table) c.first_back.ensures.token ∙ ap (λ s. s.table) c.self.invariant.0 ∙ ap (λ m. m.table) (c.self.view_is ∙ c.requires);
        legal = subst (λ (l : List Entry). IsLegal g.J.Naming.made l) none tt;
        none = subst (λ (l : List Entry). own caller_of 0 l ≡ []) none refl;
        settled = c.first_back.ensures.settled;
      },
    )
