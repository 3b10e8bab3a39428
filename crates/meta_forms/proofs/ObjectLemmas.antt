-- The objects of a list, read one after the other.
use Rattle.std.proofs.Common.{◌≡◌, ◌∙◌, ℕ, ◌+◌, List, [], ◌∷◌, ◌++◌, Option, None, Some, Ok, Err, refl, sym, ap, append_assoc}
use Rattle.std.proofs.lemmas.List.{append-nil}
use Rattle.std.specs.Option.{option_to_list}
use Rattle.std.specs.Fmt.{decimal}
use Rattle.serde_json.specs.Data.{Data, Items, item}
use Rattle.dh_base.specs.Memory.{IsCause}
use Rattle.json_read.specs.Forms.{Formed, and_then, at_step}
use Rattle.meta_forms.specs.Objects.{object_of, objects_of, kept}

one : {A : Type 0} (all : List A) (found : Option A) (rest : Formed (List A))
    → and_then (and_then rest (λ more. Ok (kept found more))) (λ more. Ok (all ++ more)) ≡ and_then rest (λ more. Ok ((all ++ option_to_list found) ++ more))
one all None (Ok more) = ap (λ l. Ok (l ++ more)) (sym (append-nil all))
one all (Some object) (Ok more) = ap Ok (sym (append_assoc all (object ∷ []) more))
one all found (Err path) = refl

-- one object is read, and the others are left
pub objects-more : {A : Type 0} (form : ℕ → List ℕ → Data → Formed A) (place : ℕ) (all : List A) (found : Option A) (json : Data) (rest : Items)
    (whole : Formed (List A)) → whole ≡ and_then (objects_of form place (item json rest)) (λ more. Ok (all ++ more))
    → at_step (decimal place) (object_of form place json) ≡ Ok found
    → whole ≡ and_then (objects_of form (place + 1) rest) (λ more. Ok ((all ++ option_to_list found) ++ more))
objects-more {A = A} form place all found json rest whole known read =
    known
    ∙ ap (λ (o : Formed (Option A)). and_then (and_then o (λ got. and_then (objects_of form (place + 1) rest) (λ more. Ok (kept got more)))) (λ more. Ok (all ++ more))) read
    ∙ one all found (objects_of form (place + 1) rest)

-- one isn't read
pub objects-cause : {A : Type 0} (form : ℕ → List ℕ → Data → Formed A) (place : ℕ) (all : List A) (json : Data) (rest : Items) (whole : Formed (List A))
    (cause : Option (List ℕ)) → whole ≡ and_then (objects_of form place (item json rest)) (λ more. Ok (all ++ more))
    → IsCause (at_step (decimal place) (object_of form place json)) cause → IsCause whole cause
objects-cause form place all json rest whole None known met = tt
objects-cause {A = A} form place all json rest whole (Some path) known met =
    known
    ∙ ap (λ (o : Formed (Option A)). and_then (and_then o (λ got. and_then (objects_of form (place + 1) rest) (λ more. Ok (kept got more)))) (λ more. Ok (all ++ more))) met
