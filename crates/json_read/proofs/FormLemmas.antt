-- Lists of records, one more at a time.
use Rattle.std.proofs.Common.{◌≡◌, ℕ, ◌+◌, List, [], ◌∷◌, ◌++◌, drop, Ok, Err, refl, sym, ap, ◌∙◌}
use Rattle.std.proofs.lemmas.List.{append_assoc}
use Rattle.std.specs.Fmt.{decimal}
use Rattle.std.specs.declared.alloc.Global.{Global}
use Rattle.json.specs.declared.value.Value.{Value}
use Rattle.serde_json.specs.Data.{Data}
use Rattle.json_read.specs.Forms.{Formed, and_then, at_step, each_of}
use Rattle.json_read.specs.Views.{data_of, items_data}

more_joined : {A : Type 0} (all grown : List A) (x : A) (rest : Formed (List A)) → grown ≡ all ++ x ∷ []
    → and_then (and_then rest (λ values. Ok (x ∷ values))) (λ more. Ok (all ++ more)) ≡ and_then rest (λ more. Ok (grown ++ more))
more_joined all grown x (Ok values) is = ap Ok (sym (ap (λ list. list ++ values) is ∙ append_assoc all (x ∷ []) values))
more_joined all grown x (Err path) is = refl

-- what is read of a list and what is left to read, by one more value
pub each-more : {A : Type 0} (form : Data → Formed A) (place i : ℕ) (values : List (Value Global)) (value : Value Global) (all grown : List A) (x : A)
    → (whole : Formed (List A)) → drop i values ≡ value ∷ drop (i + 1) values → at_step (decimal place) (form (data_of value)) ≡ Ok x → grown ≡ all ++ x ∷ []
    → whole ≡ and_then (each_of form place (items_data (drop i values))) (λ more. Ok (all ++ more))
    → whole ≡ and_then (each_of form (place + 1) (items_data (drop (i + 1) values))) (λ more. Ok (grown ++ more))
each-more form place i values value all grown x whole here read pushed so_far =
    let rest = each_of form (place + 1) (items_data (drop (i + 1) values)) in
    so_far ∙ ap (λ list. and_then (each_of form place (items_data list)) (λ more. Ok (all ++ more))) here
    ∙ ap (λ first. and_then (and_then first (λ value. and_then rest (λ values. Ok (value ∷ values)))) (λ more. Ok (all ++ more))) read
    ∙ more_joined all grown x rest pushed
