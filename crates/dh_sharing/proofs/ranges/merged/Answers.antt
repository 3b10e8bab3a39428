use Rattle.std.proofs.Common.{◌<◌, ◌+◌, ℕ, List, ◌∷◌, [], ◌++◌, length, get_or, subst, refl, sym, ap, ◌∙◌, arith}
use Rattle.std.proofs.lemmas.Bool.Decides.{nat_tests}
use Rattle.dh_sharing.specs.Ranges.{AreApart, HoldsTheSame}
use Rattle.dh_sharing.proofs.RangeLemmas.{Joins-same, Joins-first, Joins-widened, Joins-next, Joins-apart, Joins-all}
use Rattle.dh_sharing.proofs.ranges.merged.Goals.{then-next-last, else-next-last+in_ok-push}
use Rattle.dh_sharing.proofs.ranges.merged.Goals as goal

pub loop-i-init : goal.loop-i-init
loop-i-init c =
    let some : 0 < length c.args.sorted.now = grind (arith, nat_tests, c.if-is_empty.ensures) in
    let first = get_or c.args.sorted.now 0 (0, 0) in
    Joins-same c.args.sorted.now 1 [] c.new-parts.result.items first first c.new-parts.ensures.items refl
    (Joins-first c.args.sorted.now c.requires.by_first some)

pub loop-i-preserved : goal.loop-i-preserved
loop-i-preserved c =
    elim c.if-next-last.branch [
      | then-next-last w ↦
          Joins-same c.args.sorted.now (c.loop-i.i + 1) c.loop-i.parts.items c.if-next-last.parts.items _ c.if-next-last.last (ap (λ v. v.items) w.parts-is)
          (w.last-is ∙ ap (λ k. (c.loop-i.last.0, k)) w.max.ensures)
          (Joins-widened c.args.sorted.now c.loop-i.parts.items c.loop-i.last c.loop-i.i c.requires.by_first c.loop-i-test.true w.if-next-last.true c.loop-i.invariant)
      | else-next-last+in_ok-push w ↦
          Joins-same c.args.sorted.now (c.loop-i.i + 1) (c.loop-i.parts.items ++ c.loop-i.last ∷ []) c.if-next-last.parts.items _ c.if-next-last.last
          (ap (λ v. v.items) w.parts-is ∙ w.in_ok-push.ensures.items) w.last-is
          (Joins-next c.args.sorted.now c.loop-i.parts.items c.loop-i.last c.loop-i.i c.requires.by_first c.loop-i-test.true w.if-next-last.false c.loop-i.invariant)
    ]

pub returns-clause-apart : goal.returns-clause-apart
returns-clause-apart c =
    subst (λ (v : List (ℕ × ℕ)). AreApart v) (sym c.in_ok-push-2.ensures.items)
    (Joins-apart c.args.sorted.now c.loop-i.parts.items c.loop-i.last c.loop-i.i c.loop-i.invariant)

pub returns-clause-members : goal.returns-clause-members
returns-clause-members c =
    subst (λ (v : List (ℕ × ℕ)). HoldsTheSame v c.args.sorted.now) (sym c.in_ok-push-2.ensures.items)
    (Joins-all c.args.sorted.now c.loop-i.parts.items c.loop-i.last c.loop-i.i c.loop-i-test.false c.loop-i.invariant)
