use Rattle.std.proofs.Common.{◌≡◌, ◌∙◌, ◌++◌, ◌∷◌, [], ℕ, Bool, List, Vec, Global, cond, refl, sym, ap}
use Rattle.std.proofs.lemmas.List.{append-nil}
use Rattle.dh_base.specs.declared.uid.Uid.{Uid}
use Rattle.dh_metadata.specs.declared.raw.RawAttribute.{RawAttribute}
use Rattle.meta_rules.specs.Days.{is_date, day_attributes}
use Rattle.meta_rules.proofs.DayLemmas.{is-day, days-more}
use Rattle.meta_rules.proofs.days.add_attributes.Goals.{then-eq+in_ok-push, else-eq}
use Rattle.meta_rules.proofs.days.add_attributes.Goals as goal

pub loop-attribute-preserved : goal.loop-attribute-preserved
loop-attribute-preserved c =
    let x : RawAttribute = c.attribute-item.result in
    let found : List (List ℕ) = c.loop-attribute.days.items in
    let put : Bool → List (List ℕ) = λ b. found ++ cond b (x.id ∷ []) [] in
    let items : Vec Uid Global → List (List ℕ) = λ days. days.items in
    let more : c.if-eq.days.items ≡ put c.eq.result = elim c.if-eq.branch [
      | then-eq+in_ok-push w ↦ ap items w.days-is ∙ w.in_ok-push.ensures.items ∙ ap put (sym w.if-eq.true)
      | else-eq w ↦ ap items w.days-is ∙ sym (append-nil found) ∙ ap put (sym w.if-eq.false)
    ] in
    days-more (λ (each : RawAttribute). is_date each.value_type) (λ (each : RawAttribute). each.id) day_attributes (λ _ _. refl) c.args.attributes.now c.loop-attribute.attribute-index x
    (c.args.days.now.items ++ day_attributes c.args.attributes.now) found c.if-eq.days.items c.eq.result c.loop-attribute-test.true c.attribute-item.is
    (c.eq.ensures ∙ is-day x.value_type) more c.loop-attribute.invariant
