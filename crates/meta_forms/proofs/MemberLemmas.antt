-- The members of an object, read one after the other.
use Rattle.std.proofs.Common.{◌≡◌, ◌∙◌, ℕ, List, [], ◌∷◌, ◌++◌, Ok, Err, refl, sym, ap, append_assoc}
use Rattle.serde_json.specs.Data.{Data, Members, member}
use Rattle.dh_sharing.specs.declared.access.Access.{Access}
use Rattle.json_read.specs.Forms.{Formed, and_then, at_step}
use Rattle.meta_forms.specs.Sharing.{member_of, members_of, step_of}

abbrev Member : Type 0
Member = List ℕ × List ℕ × Access

put_after : (rest : Formed (List Member)) (done : List Member) (found : Member)
    → and_then (and_then rest (λ more. Ok (found ∷ more))) (λ more. Ok (done ++ more)) ≡ and_then rest (λ more. Ok ((done ++ (found ∷ [])) ++ more))
put_after (Ok more) done found = ap (λ (all : List Member). Ok all) (sym (append_assoc done (found ∷ []) more))
put_after (Err path) done found = refl

-- one member more is read
pub member_more : (outer key : List ℕ) (json : Data) (rest : Members) (done : List Member) (found : Member) (whole : Formed (List Member))
    → whole ≡ and_then (members_of outer (member key json rest)) (λ more. Ok (done ++ more))
    → at_step (step_of outer key) (member_of key json) ≡ Ok found
    → whole ≡ and_then (members_of outer rest) (λ more. Ok ((done ++ (found ∷ [])) ++ more))
member_more outer key json rest done found whole so_far read =
    so_far
    ∙ ap (λ one. and_then (and_then one (λ first. and_then (members_of outer rest) (λ more. Ok (first ∷ more)))) (λ more. Ok (done ++ more))) read
    ∙ put_after (members_of outer rest) done found
