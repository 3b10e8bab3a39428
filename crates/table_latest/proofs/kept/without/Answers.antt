use Rattle.std.proofs.Common.{◌≡◌, ◌∙◌, ◌≤◌, ◌+◌, ◌-◌, ℤ, ◌+ℤ◌, ◌-ℤ◌, FitsSigned, to_z, of_z, to_z-of_z, rules, sym, ap, subst, arith}
use Rattle.std.specs.Int.{w128}
use Rattle.std.proofs.lemmas.Int.{ints}
use Rattle.table_rows.specs.declared.sum.Sum.{Sum}
use Rattle.table_rows.specs.Sums.{joined, sum_with, IsSized}
use Rattle.table_latest.proofs.kept.without.Goals as goal

-- what is left of a sum is its difference to the part
left-is : (left part all : Sum) → joined left part ≡ all → left ≡ sum_with (all.micros -ℤ part.micros) (all.count - part.count) (all.plain - part.plain)
left-is left part all is =
    let micros : left.micros ≡ all.micros -ℤ part.micros = omega (arith, ints, ap (λ (s : Sum). s.micros) is) in
    let count : left.count ≡ all.count - part.count = omega (arith, ap (λ (s : Sum). s.count) is) in
    let plain : left.plain ≡ all.plain - part.plain = omega (arith, ap (λ (s : Sum). s.plain) is) in
    λ i. sum_with (micros i) (count i) (plain i)

rejoined : (part all : Sum) → part.count ≤ all.count → part.plain ≤ all.plain
    → joined (sum_with (all.micros -ℤ part.micros) (all.count - part.count) (all.plain - part.plain)) part ≡ all
rejoined part all few plain_few =
    let micros : (all.micros -ℤ part.micros) +ℤ part.micros ≡ all.micros = omega (arith, ints) in
    let count : (all.count - part.count) + part.count ≡ all.count = omega (arith, few) in
    let plain : (all.plain - part.plain) + part.plain ≡ all.plain = omega (arith, plain_few) in
    λ i. sum_with (micros i) (count i) (plain i)

stored : (a b : ℤ) → FitsSigned w128 a → FitsSigned w128 b → FitsSigned w128 (a -ℤ b)
    → to_z w128 (of_z w128 (to_z w128 (of_z w128 a) -ℤ to_z w128 (of_z w128 b))) ≡ a -ℤ b
stored a b first second own =
    ap (λ z. to_z w128 (of_z w128 (z -ℤ to_z w128 (of_z w128 b)))) (to_z-of_z first)
    ∙ ap (λ z. to_z w128 (of_z w128 (a -ℤ z))) (to_z-of_z second) ∙ to_z-of_z own

pub returns-then-is_sized-clause-size : goal.returns-then-is_sized-clause-size
returns-then-is_sized-clause-size c = c.is_sized.ensures.sized c.if-is_sized.true

pub returns-then-is_sized-clause-left : goal.returns-then-is_sized-clause-left
returns-then-is_sized-clause-left c =
    let all = c.args.all.now in
    let part = c.args.part.now in
    ap (λ z. joined (sum_with z (all.count - part.count) (all.plain - part.plain)) part)
    (stored all.micros part.micros (search rules) (search rules) (search rules))
    ∙ rejoined part all c.requires.count c.requires.plain

pub returns-else-is_sized-clause-none : goal.returns-else-is_sized-clause-none
returns-else-is_sized-clause-none c = λ left is sized.
    let all = c.args.all.now in
    let part = c.args.part.now in
    c.is_sized.ensures.larger c.if-is_sized.false
    (subst IsSized
    (left-is left part all is
    ∙ ap (λ z. sum_with z (all.count - part.count) (all.plain - part.plain))
    (sym (stored all.micros part.micros (search rules) (search rules) (search rules))))
    sized)
