use Rattle.std.proofs.Common.{◌≡◌, ◌∷◌, ◌∙◌, ℕ, Option, Some, IfSome, List, refl, subst, sym, true}
use Rattle.dh_base.specs.declared.plain.CutKind.{CutKind}
use Rattle.dh_base.specs.declared.plain.CutKind.TheVariants.{Full}
use Rattle.std.specs.Prelude.{take}
use Rattle.std.proofs.lemmas.List.Elements.{All-head, All-rest}
use Rattle.table_sums.specs.YearParts.{YearPart}
use Rattle.engine.specs.Machine.{has_ticket, number_in}
use Rattle.engine.specs.Seen.{Seen, IsPartOf}
use Rattle.shared_engine.specs.Builds.{ArePartsOf, HasParts}
use Rattle.shared_engine.proofs.builds.hand_in_all.Goals as goal

-- the parts of a full update
full-parts : (engine : Seen) (kind : CutKind) (ticket : ℕ) (parts : List (Option YearPart)) → kind ≡ Full → HasParts engine kind ticket parts
    → HasParts engine Full ticket parts
full-parts engine kind ticket parts is has = subst (λ (k : CutKind). HasParts engine k ticket parts) is has

-- the next part may be handed in
next-part : (engine now : Seen) (part : YearPart) (place : Option YearPart) (left rest : List (Option YearPart)) → now ≡ engine → place ≡ Some part
    → left ≡ place ∷ rest → ArePartsOf engine.meta (take (number_in engine.state.full) engine.state.log) left
    → IsPartOf now.meta (take (number_in now.state.full) now.state.log) part
next-part engine now part place left rest same is next are =
    subst (λ (e : Seen). IsPartOf e.meta (take (number_in e.state.full) e.state.log) part) (sym same)
    (subst (λ (p : Option YearPart). IfSome p (IsPartOf engine.meta (take (number_in engine.state.full) engine.state.log))) is
    (All-head (λ (p : Option YearPart). IfSome p (IsPartOf engine.meta (take (number_in engine.state.full) engine.state.log))) place rest
    (subst (λ (l : List (Option YearPart)). ArePartsOf engine.meta (take (number_in engine.state.full) engine.state.log) l) next are)))

left-parts : (engine : Seen) (place : Option YearPart) (left rest : List (Option YearPart)) → left ≡ place ∷ rest
    → ArePartsOf engine.meta (take (number_in engine.state.full) engine.state.log) left
    → ArePartsOf engine.meta (take (number_in engine.state.full) engine.state.log) rest
left-parts engine place left rest next are =
    All-rest (λ (p : Option YearPart). IfSome p (IsPartOf engine.meta (take (number_in engine.state.full) engine.state.log))) place rest left next are

pub loop-part-init : goal.loop-part-init
loop-part-init g c = (
  refl,
  subst (λ (l : List (Option YearPart)). ArePartsOf c.args.engine.now.meta
      (take (number_in c.args.engine.now.state.full) c.args.engine.now.state.log) l) (sym c.into_iter-part-iterator.ensures.into_iter_gives.0)
      (full-parts c.args.engine.now c.args.kind c.args.ticket c.args.parts.items c.in-Full.is c.requires).1,
)

pub hand_in-requires-clause-begun : goal.hand_in-requires-clause-begun
hand_in-requires-clause-begun g c =
    subst (λ (e : Seen). has_ticket c.args.ticket e.state.full ≡ true) (sym c.loop-part.invariant.0)
    (full-parts c.args.engine.now c.args.kind c.args.ticket c.args.parts.items c.in-Full.is c.requires).0

pub hand_in-requires-clause-part : goal.hand_in-requires-clause-part
hand_in-requires-clause-part g c =
    next-part c.args.engine.now _ _ _ _ _ c.loop-part.invariant.0 c.in-Some-part.is c.in-Some.ensures.steps.0 c.loop-part.invariant.1

pub loop-part-preserved-in-Some-part : goal.loop-part-preserved-in-Some-part
loop-part-preserved-in-Some-part g c =
    (c.hand_in.ensures.same ∙ c.loop-part.invariant.0, left-parts c.args.engine.now _ _ _ c.in-Some.ensures.steps.0 c.loop-part.invariant.1)

pub loop-part-preserved : goal.loop-part-preserved
loop-part-preserved g c = (c.loop-part.invariant.0, left-parts c.args.engine.now _ _ _ c.in-Some.ensures.steps.0 c.loop-part.invariant.1)
