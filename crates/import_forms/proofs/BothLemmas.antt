-- Two readings, one after the other.
use Rattle.std.proofs.Common.{◌≡◌, ◌∙◌, ℕ, List, Option, Result, Ok, Err, IfOk, sym, ap, subst}
use Rattle.json_read.specs.Forms.{Formed}
use Rattle.json_read.specs.Given.{Gives}
use Rattle.json_read.specs.declared.fault.FormFault.{FormFault}
use Rattle.json_read.specs.declared.fault.FormFault.TheVariants as fault
use Rattle.import_forms.specs.Both.{◌⊗◌, IsBoth}

-- texts that may be absent
abbrev pub Two : Type 0
Two = Option (List ℕ) × Option (List ℕ)

abbrev pub Four : Type 0
Four = Two × Two

-- both values are the ones that are meant
pub both-are : {A B E : Type 0} (a : A) (b : B) (first : Result A E) (second : Result B E) (result : Result (A × B) E)
    → IsBoth first second result → IfOk first (λ x. x ≡ a) → IfOk second (λ y. y ≡ b) → IfOk result (λ pair. pair ≡ (a, b))
both-are a b (Ok x) (Ok y) result is one two =
    subst (λ r. IfOk r (λ pair. pair ≡ (a, b))) (sym is) (ap (λ v. (v, y)) one ∙ ap (λ v. (a, v)) two)
both-are a b (Ok x) (Err fault) result is one two = subst (λ r. IfOk r (λ pair. pair ≡ (a, b))) (sym is) tt
both-are a b (Err fault) second result is one two = subst (λ r. IfOk r (λ pair. pair ≡ (a, b))) (sym is) tt

-- what both give is what both forms mean
pub gives_both : {A B : Type 0} (m : Formed A) (n : Formed B) (first : Result A FormFault) (second : Result B FormFault) (result : Result (A × B) FormFault)
    → IsBoth first second result → Gives m first → Gives n second → Gives (m ⊗ n) result
unfolding ◌⊗◌
gives_both m n (Ok a) (Ok b) result is one two = subst (Gives (m ⊗ n)) (sym is) (ap (λ x. x ⊗ n) one ∙ ap (λ y. Ok a ⊗ y) two)
gives_both m n (Ok a) (Err (fault.At path)) result is one two = subst (Gives (m ⊗ n)) (sym is) (ap (λ x. x ⊗ n) one ∙ ap (λ y. Ok a ⊗ y) two)
gives_both m n (Ok a) (Err fault.Memory) result is one two = subst (Gives (m ⊗ n)) (sym is) tt
gives_both m n (Err (fault.At path)) second result is one two = subst (Gives (m ⊗ n)) (sym is) (ap (λ x. x ⊗ n) one)
gives_both m n (Err fault.Memory) second result is one two = subst (Gives (m ⊗ n)) (sym is) tt
