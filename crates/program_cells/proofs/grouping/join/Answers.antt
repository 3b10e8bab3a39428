use Rattle.std.proofs.Common.{◌≡◌, ◌∙◌, [], ◌∷◌, ◌++◌, true, false, OnOk, sym, ap, subst, append_assoc}
use Rattle.program_cells.specs.Enrollments.{joined}
use Rattle.program_cells.proofs.GroupLemmas.{goes_on, joined_on, joined_new}
use Rattle.program_cells.proofs.grouping.join.Goals as goal

pub returns-then-goes_on : goal.returns-then-goes_on
returns-then-goes_on c =
    let event = c.args.event in
    let last = c.in-Some.last in
    let on : goes_on event last ≡ true = ap (goes_on event) (sym c.as_slice.ensures) ∙ sym c.goes_on.ensures ∙ c.if-goes_on.true in
    c.in_ok-push.ensures.items ∙ ap (λ subject. c.pop.new.self.items ++ subject ∷ []) c.in_ok-extended.ensures
    ∙ joined_on c.args.subjects.now.items c.pop.new.self.items last event c.in-Some.ensures.items on

pub returns : goal.returns
returns c =
    let event = c.args.event in
    let last = c.in-Some.last in
    let rest = c.pop.new.self.items in
    let off : goes_on event last ≡ false = ap (goes_on event) (sym c.as_slice.ensures) ∙ sym c.goes_on.ensures ∙ c.if-goes_on.false in
    let is : c.push-2.new.self.items ++ (event ∷ []) ∷ [] ≡ joined c.args.subjects.now.items event =
    ap (λ list. list ++ (event ∷ []) ∷ []) c.in_ok-push-2.ensures.items ∙ append_assoc rest (last ∷ []) ((event ∷ []) ∷ [])
    ∙ joined_new c.args.subjects.now.items rest last event c.in-Some.ensures.items off in
    subst (λ list. OnOk c.begin-2.result (c.begin-2.new.subjects.items ≡ list)) is c.begin-2.ensures
