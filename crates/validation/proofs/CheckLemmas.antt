-- The rules of a check, one after the other.
use Rattle.std.proofs.Common.{◌≡◌, ◌∙◌, ℕ, ◌+◌, ◌<◌, ◌≤◌, Bool, true, false, not, ◌&&◌, is_some, List, [], ◌∷◌, ◌++◌, length, drop, get_or, Option}
use Rattle.std.proofs.Common.{Some, None}
use Rattle.std.proofs.Common.{refl, sym, ap, subst}
use Rattle.std.specs.Prelude.{Result, Ok, Err, All}
use Rattle.std.proofs.lemmas.Bool.{false≢true}
use Rattle.std.proofs.lemmas.List.Elements.{All-push}
use Rattle.std.specs.declared.cmp.Ordering.{Ordering}
use Rattle.std.proofs.lemmas.List.{append-nil, append_assoc, drop_more, drop_all}
use Rattle.dh_base.specs.Fractions.{Fraction, cmp_of}
use Rattle.dh_base.specs.declared.plain.NumFault.{NumFault}
use Rattle.dh_metadata.specs.declared.held.Records.{Records}
use Rattle.dh_metadata.specs.declared.names.Operator.{Operator}
use Rattle.dh_metadata.specs.declared.names.Operator.TheVariants as operator
use Rattle.validation.specs.declared.outcome.Outcome.{Outcome}
use Rattle.validation.specs.declared.outcome.Outcome.TheVariants as outcome
use Rattle.validation.specs.declared.outcome.Violation.{Violation}
use Rattle.validation.specs.Check.{holds, violated_if, is_one_alone, compared, compared_if, judged_by, put_first, check_all}
use Rattle.validation.specs.Run.{IsOutcomeOf, IsRuleOf, is_wide_outcome, violation_in, with_violation}

-- ---- rule by rule

abbrev pub joined : List Violation → Result (List Violation) (List ℕ) → Result (List Violation) (List ℕ)
joined done (Ok violations) = Ok (done ++ violations)
joined done (Err id) = Err id

-- so many rules are judged, and these are their violations
pub record SoFar (id : ℕ → List ℕ) (outcome : ℕ → Outcome) (all : List ℕ) (i : ℕ) (done : List Violation) : Type 0 where
  pub is : check_all id outcome all ≡ joined done (check_all id outcome (drop i all))

nothing_done : (rest : Result (List Violation) (List ℕ)) → rest ≡ joined [] rest
nothing_done (Ok violations) = refl
nothing_done (Err id) = refl

pub SoFar-start : (id : ℕ → List ℕ) (outcome : ℕ → Outcome) (all : List ℕ) → SoFar id outcome all 0 []
SoFar-start id outcome all = record { is = nothing_done (check_all id outcome all) }

next : (id : ℕ → List ℕ) (o : ℕ → Outcome) (all : List ℕ) (i n : ℕ) (done : List Violation) → i < length all → n ≡ get_or all i n → SoFar id o all i done
    → check_all id o all ≡ joined done (check_all id o (n ∷ drop (i + 1) all))
next id o all i n done within at before =
    before.is ∙ ap (λ ns. joined done (check_all id o ns)) (drop_more all i n within ∙ ap (λ v. v ∷ drop (i + 1) all) (sym at))

SoFar-kept : (id : ℕ → List ℕ) (o : ℕ → Outcome) (all : List ℕ) (i n : ℕ) (done : List Violation) → i < length all → n ≡ get_or all i n → outcome.Kept ≡ o n
    → SoFar id o all i done → SoFar id o all (i + 1) done
SoFar-kept id o all i n done within at is before = record {
  is = next id o all i n done within at before ∙ ap (λ v. joined done (put_first (id n) v (check_all id o (drop (i + 1) all)))) (sym is);
}

one_more : (id : List ℕ) (done : List Violation) (v : Violation) (rest : Result (List Violation) (List ℕ))
    → joined done (put_first id (outcome.Violated v) rest) ≡ joined (done ++ v ∷ []) rest
one_more id done v (Ok violations) = ap Ok (sym (append_assoc done (v ∷ []) violations))
one_more id done v (Err wide) = refl

SoFar-violated : (id : ℕ → List ℕ) (o : ℕ → Outcome) (all : List ℕ) (i n : ℕ) (done : List Violation) (v : Violation) → i < length all → n ≡ get_or all i n
    → outcome.Violated v ≡ o n → SoFar id o all i done → SoFar id o all (i + 1) (done ++ v ∷ [])
SoFar-violated id o all i n done v within at is before = record {
  is = next id o all i n done within at before
      ∙ ap (λ x. joined done (put_first (id n) x (check_all id o (drop (i + 1) all)))) (sym is)
      ∙ one_more (id n) done v (check_all id o (drop (i + 1) all));
}

SoFar-wide : (id : ℕ → List ℕ) (o : ℕ → Outcome) (all : List ℕ) (i n : ℕ) (done : List Violation) → i < length all → n ≡ get_or all i n → outcome.Wide ≡ o n
    → SoFar id o all i done → check_all id o all ≡ Err (id n)
SoFar-wide id o all i n done within at is before =
    next id o all i n done within at before ∙ ap (λ v. joined done (put_first (id n) v (check_all id o (drop (i + 1) all)))) (sym is)

pub SoFar-more : (id : ℕ → List ℕ) (o : ℕ → Outcome) (all : List ℕ) (i n : ℕ) (done after : List Violation) (found : Outcome) → i < length all
    → n ≡ get_or all i n
    → found ≡ o n → is_wide_outcome found ≡ false → after ≡ with_violation (violation_in found) done → SoFar id o all i done → SoFar id o all (i + 1) after
SoFar-more id o all i n done after outcome.Wide within at is off new before = absurd (false≢true (sym off))
SoFar-more id o all i n done after outcome.Kept within at is off new before =
    subst (SoFar id o all (i + 1)) (sym new) (SoFar-kept id o all i n done within at is before)
SoFar-more id o all i n done after (outcome.Violated v) within at is off new before =
    subst (SoFar id o all (i + 1)) (sym new) (SoFar-violated id o all i n done v within at is before)

pub SoFar-stops : (id : ℕ → List ℕ) (o : ℕ → Outcome) (all : List ℕ) (i n : ℕ) (done : List Violation) (found : Outcome) → i < length all
    → n ≡ get_or all i n
    → found ≡ o n → is_wide_outcome found ≡ true → SoFar id o all i done → check_all id o all ≡ Err (id n)
SoFar-stops id o all i n done outcome.Wide within at is on before = SoFar-wide id o all i n done within at is before
SoFar-stops id o all i n done outcome.Kept within at is on before = absurd (false≢true on)
SoFar-stops id o all i n done (outcome.Violated v) within at is on before = absurd (false≢true on)

pub rules-more : (r : Records) (n : ℕ) (found : Outcome) (done after : List Violation) → after ≡ with_violation (violation_in found) done
    → IsOutcomeOf r n found
    → All (IsRuleOf r) done → All (IsRuleOf r) after
rules-more r n outcome.Wide done after new of before = subst (All (IsRuleOf r)) (sym new) before
rules-more r n outcome.Kept done after new of before = subst (All (IsRuleOf r)) (sym new) before
rules-more r n (outcome.Violated v) done after new of before = subst (All (IsRuleOf r)) (sym new) (All-push (IsRuleOf r) done v before of)

pub wide-there : (r : Records) (n : ℕ) (found : Outcome) → is_wide_outcome found ≡ true → IsOutcomeOf r n found → n < length r.validation_rules
wide-there r n outcome.Wide on of = of
wide-there r n outcome.Kept on of = absurd (false≢true on)
wide-there r n (outcome.Violated v) on of = absurd (false≢true on)

pub SoFar-end : (id : ℕ → List ℕ) (o : ℕ → Outcome) (all : List ℕ) (i : ℕ) (done : List Violation) → length all ≤ i → SoFar id o all i done
    → check_all id o all ≡ Ok done
SoFar-end id o all i done past last = last.is ∙ ap (λ ns. joined done (check_all id o ns)) (drop_all i all past) ∙ ap Ok (append-nil done)

-- ---- what comes of a rule is of that rule

if-rule : (r : Records) (b : Bool) (n : ℕ) (left right : Option Fraction) → n < length r.validation_rules → IsOutcomeOf r n (violated_if b n left right)
if-rule r true n left right h = h
if-rule r false n left right h = tt

compared-rule : (r : Records) (op : Operator) (n : ℕ) (x y : Fraction) (o : Result Ordering NumFault) → n < length r.validation_rules
    → IsOutcomeOf r n (compared op n x y o)
compared-rule r op n x y (Ok o) h = if-rule r (not (holds op o)) n (Some x) (Some y) h
compared-rule r op n x y (Err fault) h = h

compared_if-rule : (r : Records) (op : Operator) (n : ℕ) (left right : Option Fraction) → n < length r.validation_rules
    → IsOutcomeOf r n (compared_if op n left right)
compared_if-rule r op n None right h = tt
compared_if-rule r op n (Some x) None h = tt
compared_if-rule r op n (Some x) (Some y) h = compared-rule r op n x y (cmp_of x y) h

pub judged_by_rule : (r : Records) (op : Operator) (n : ℕ) (left right : Option Fraction) → n < length r.validation_rules
    → IsOutcomeOf r n (judged_by op n left right)
judged_by_rule r operator.EqualTo n left right h = compared_if-rule r operator.EqualTo n left right h
judged_by_rule r operator.NotEqualTo n left right h = compared_if-rule r operator.NotEqualTo n left right h
judged_by_rule r operator.GreaterThan n left right h = compared_if-rule r operator.GreaterThan n left right h
judged_by_rule r operator.GreaterThanOrEqualTo n left right h = compared_if-rule r operator.GreaterThanOrEqualTo n left right h
judged_by_rule r operator.LessThan n left right h = compared_if-rule r operator.LessThan n left right h
judged_by_rule r operator.LessThanOrEqualTo n left right h = compared_if-rule r operator.LessThanOrEqualTo n left right h
judged_by_rule r operator.CompulsoryPair n left right h = if-rule r (is_one_alone left right) n left right h
judged_by_rule r operator.ExclusivePair n left right h = if-rule r (is_some left && is_some right) n left right h
