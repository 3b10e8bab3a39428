-- The search for the first item that passes a test, one item further; and a text that isn't read.
use Rattle.std.proofs.Common.{◌≡◌, ℕ, zero, suc, ◌+◌, ◌<◌, Bool, cond, List, [], ◌∷◌, length, get_or, drop, Option, Some, Result, Err, refl, ap, subst, sym}
use Rattle.std.proofs.Common.{add-one, arith}
use Rattle.std.specs.Prelude.{option_map}
use Rattle.dh_base.specs.Memory.{IsFirst}
use Rattle.expr_lang.specs.declared.tree.Item.{Item}
use Rattle.expr_lang.specs.declared.tree.Place.{Place}
use Rattle.expr_lang.specs.declared.tree.Sort.{Sort}
use Rattle.expr_lang.specs.declared.fault.ExprFault.{ExprFault}
use Rattle.expr_lang.specs.declared.fault.ExprFault.TheVariants as syntax_fault
use Rattle.expr_lang.specs.Expression.{Expression}
use Rattle.expr_grammar.specs.Answer.{IsAnswer, UnlessMemory, Reading}
use Rattle.expr_grammar.proofs.Readings.{read_as}
use Rattle.meta_rules.specs.declared.expr_fault.ExprFault as own
use Rattle.meta_rules.specs.declared.expr_fault.ExprError.{ExprError}
use Rattle.meta_rules.specs.Names.{KindIds}
use Rattle.meta_rules.specs.Read.{missing_place, wrong_at, unread_at}
use Rattle.meta_rules.specs.Objects.{expr_cause, text_error, unread}

step_from : (test : Item → Bool) (items : List Item) (places : List ℕ) (n : ℕ) (x : Item) → n < length items → length items ≡ length places
    → missing_place test (drop n items) (drop n places)
    ≡ cond (test (get_or items n x)) (Some (get_or places n 0)) (missing_place test (drop (suc n) items) (drop (suc n) places))
step_from test [] places n x within same = absurd (omega arith)
step_from test (y ∷ items) [] n x within same = absurd (omega arith)
step_from test (y ∷ items) (q ∷ places) zero x within same = refl
step_from test (y ∷ items) (q ∷ places) (suc n) x within same = step_from test items places n x (omega arith) (omega arith)

-- the search goes on after an item
pub missing_place-step : (test : Item → Bool) (items : List Item) (places : List ℕ) (n : ℕ) (x : Item) → n < length items → length items ≡ length places
    → missing_place test (drop n items) (drop n places)
    ≡ cond (test (get_or items n x)) (Some (get_or places n 0)) (missing_place test (drop (n + 1) items) (drop (n + 1) places))
missing_place-step test items places n x within same = rw add-one (step_from test items places n x within same)

-- a fault by the grammar is what a reading says
module _ (reading : Reading) (ids : KindIds) (place : Place) (days : List (List ℕ)) (uid : List ℕ) (wanted : Sort) (text : List ℕ) where
  -- where the object's text isn't read that means this
  abbrev told_of : Result Expression ExprFault → Option own.ExprFault
  told_of means = option_map (λ (at : ℕ). record { uid = uid; at = at }) (wrong_at ids means)

  met : (fault : ExprFault) → UnlessMemory (IsAnswer place days (Some wanted) text) (Err fault)
      → IsFirst (unread reading.answer ids days uid place wanted text) (expr_cause (text_error uid fault))
  unfolding unread unread_at
  met (syntax_fault.Syntax at) is = ap told_of (read_as reading place days (Some wanted) text (Err (syntax_fault.Syntax at)) is)
  met (syntax_fault.TooDeep at) is = ap told_of (read_as reading place days (Some wanted) text (Err (syntax_fault.TooDeep at)) is)
  met (syntax_fault.Sort at) is = ap told_of (read_as reading place days (Some wanted) text (Err (syntax_fault.Sort at)) is)
  met syntax_fault.Memory is = tt

  pub refused : (fault : ExprFault) (told : ExprError) → told ≡ text_error uid fault → UnlessMemory (IsAnswer place days (Some wanted) text) (Err fault)
      → IsFirst (unread reading.answer ids days uid place wanted text) (expr_cause told)
  refused fault told same is =
      subst (λ (t : ExprError). IsFirst (unread reading.answer ids days uid place wanted text) (expr_cause t)) (sym same) (met fault is)
