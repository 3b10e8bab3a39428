-- Running a code, and the best of a stack's topmost values.
use Rattle.std.proofs.Common.{◌≡◌, ℕ, zero, suc, ◌+◌, ◌<◌, Bool, List, [], ◌∷◌, ◌++◌, length, get_or, take, drop, reverse}
use Rattle.std.proofs.Common.{Option, Some, None, Result, refl, sym, ap, ◌∙◌}
use Rattle.std.specs.Prelude.{slice_get}
use Rattle.std.proofs.lemmas.List.{drop_more, drop_min, drop-drop, take_more, reverse-append}
use Rattle.std.proofs.lemmas.Option.{slice_get_within, get_or_from_slice_get}
use Rattle.dh_base.specs.Fractions.{Fraction}
use Rattle.expr_eval.specs.declared.value.Value.{Value}
use Rattle.expr_eval.specs.declared.value.Cell.{Cell}
use Rattle.expr_eval.specs.declared.code.Instr.{Instr}
use Rattle.expr_eval.specs.declared.evaluation.Answer.TheVariants as answer
use Rattle.expr_eval.specs.Meaning.{number_of, then_with, best_from, best_of}
use Rattle.expr_eval.specs.Code.{Step, Go, Stop, act, go_to, run, Comes, passed_to, next_best_of}

-- the best so far, if there is one, and of what is left
abbrev pub best_on : Bool → Option Fraction → List Cell → Result Cell Value
best_on greatest None cells = best_of greatest cells
best_on greatest (Some best) cells = best_from greatest best cells

-- instructions that are passed don't matter
pub run-skip : (entries : List (Option Fraction)) (code : List Instr) (n : ℕ) (stack : List Cell) → run entries code n stack ≡ run entries (drop n code) 0 stack
run-skip entries [] zero stack = refl
run-skip entries [] (suc n) stack = refl
run-skip entries (i ∷ code) zero stack = refl
run-skip entries (i ∷ code) (suc n) stack = run-skip entries code n stack

-- what an instruction does, by what comes of it
comes_go : (next : ℕ → List Cell → Result (List Cell) Value) (s : Step) (skip : ℕ) (stack : List Cell) → Comes (answer.Go skip) stack s
    → go_to next s ≡ next skip stack
comes_go next (Go st k) skip stack h = ap (λ (c : List Cell). next k c) h.0 ∙ ap (λ (n : ℕ). next n stack) h.1
comes_go next (Stop v) skip stack h = absurd h

one_step : (entries : List (Option Fraction)) (code : List Instr) (at : ℕ) (d : Instr) (stack : List Cell) → at < length code
    → run entries (drop at code) 0 stack ≡ go_to (run entries (drop (at + 1) code)) (act entries (get_or code at d) stack)
one_step entries code at d stack within = ap (λ (c : List Instr). run entries c 0 stack) (drop_more code at d within)

-- one instruction more
pub run_on : (entries : List (Option Fraction)) (code : List Instr) (at : ℕ) (d : Instr) (stack after : List Cell) (skip place : ℕ)
    (total : Result (List Cell) Value)
    → at < length code → Comes (answer.Go skip) after (act entries (get_or code at d) stack) → place ≡ passed_to at skip (length code)
    → run entries (drop at code) 0 stack ≡ total → run entries (drop place code) 0 after ≡ total
run_on entries code at d stack after skip place total within comes is so_far =
    ap (λ (n : ℕ). run entries (drop n code) 0 after) is
    ∙ ap (λ (c : List Instr). run entries c 0 after) (drop_min (at + 1 + skip) code ∙ sym (drop-drop skip (at + 1) code))
    ∙ sym (run-skip entries (drop (at + 1) code) skip after)
    ∙ sym (comes_go (run entries (drop (at + 1) code)) (act entries (get_or code at d) stack) skip after comes)
    ∙ sym (one_step entries code at d stack within)
    ∙ so_far

-- the cell that has n above it is the first of those from it on
first_of : (stack : List Cell) (n : ℕ) (c : Cell) → slice_get stack n ≡ Some c → reverse (take (n + 1) stack) ≡ c ∷ reverse (take n stack)
first_of stack n c is =
    ap reverse (take_more stack n c (slice_get_within stack n c is) ∙ ap (λ (x : Cell). take n stack ++ x ∷ []) (get_or_from_slice_get stack n c c is))
    ∙ reverse-append (take n stack) (c ∷ [])

best_next : (greatest : Bool) (best : Option Fraction) (c : Cell) (cells : List Cell)
    → best_on greatest best (c ∷ cells) ≡ then_with (next_best_of greatest best (number_of c)) (λ b. best_from greatest b cells)
best_next greatest None c cells = refl
best_next greatest (Some b) c cells = refl

-- one cell more
pub best_step : (greatest : Bool) (best : Option Fraction) (stack : List Cell) (n : ℕ) (c : Cell) (r : Result Fraction Value) (total : Result Cell Value)
    → slice_get stack n ≡ Some c → r ≡ next_best_of greatest best (number_of c) → best_on greatest best (reverse (take (n + 1) stack)) ≡ total
    → then_with r (λ b. best_from greatest b (reverse (take n stack))) ≡ total
best_step greatest best stack n c r total at is so_far =
    ap (λ (x : Result Fraction Value). then_with x (λ b. best_from greatest b (reverse (take n stack)))) is
    ∙ sym (best_next greatest best c (reverse (take n stack)))
    ∙ ap (best_on greatest best) (sym (first_of stack n c at))
    ∙ so_far
