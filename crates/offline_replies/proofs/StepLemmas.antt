-- Samples and texts, one more at a time.
use Rattle.std.proofs.Common.{◌≡◌, ◌∙◌, ℕ, suc, ◌+◌, ◌-◌, ◌<◌, List, [], ◌∷◌, ◌++◌, sym, ap, arith}
use Rattle.std.proofs.lemmas.List.{append_assoc, append-nil}
use Rattle.offline_replies.specs.declared.samples.draws.Sample.{Sample}
use Rattle.offline_replies.specs.Draws.{sample_from, after_sample, samples, after_samples}
use Rattle.offline_replies.specs.File.{each_below}

left-suc : (n i : ℕ) → i < n → suc (n - (i + 1)) ≡ n - i
left-suc n i below = omega (arith, below)

one-suc : (n : ℕ) → suc n ≡ n + 1
one-suc n = omega arith

-- one sample more
pub sample-step : (list new all : List Sample) (n i x y : ℕ) (s : Sample) → i < n → s ≡ sample_from x → y ≡ after_sample x → new ≡ list ++ s ∷ []
    → list ++ samples (n - i) x ≡ all → new ++ samples (n - (i + 1)) y ≡ all
sample-step list new all n i x y s below drawn next more so_far =
    ap (λ l. l ++ samples (n - (i + 1)) y) more
    ∙ ap (λ t. (list ++ t ∷ []) ++ samples (n - (i + 1)) y) drawn
    ∙ ap (λ z. (list ++ sample_from x ∷ []) ++ samples (n - (i + 1)) z) next
    ∙ append_assoc list (sample_from x ∷ []) (samples (n - (i + 1)) (after_sample x))
    ∙ ap (λ m. list ++ samples m x) (left-suc n i below)
    ∙ so_far

-- and the state after it
pub state-step : (n i x y all : ℕ) → i < n → y ≡ after_sample x → after_samples (n - i) x ≡ all → after_samples (n - (i + 1)) y ≡ all
state-step n i x y all below next so_far =
    ap (λ z. after_samples (n - (i + 1)) z) next ∙ ap (λ m. after_samples m x) (left-suc n i below) ∙ so_far

-- no text yet
pub each-none : (text : ℕ → List ℕ) (xs : List ℕ) → xs ≡ xs ++ each_below text 0
unfolding each_below
each-none text xs = sym (append-nil xs)

-- one text more
pub each-step : (text : ℕ → List ℕ) (xs old new : List ℕ) (n : ℕ) → old ≡ xs ++ each_below text n → new ≡ old ++ text n → new ≡ xs ++ each_below text (n + 1)
unfolding each_below
each-step text xs old new n so_far more =
    more ∙ ap (λ l. l ++ text n) so_far ∙ append_assoc xs (each_below text n) (text n) ∙ ap (λ m. xs ++ each_below text m) (one-suc n)
