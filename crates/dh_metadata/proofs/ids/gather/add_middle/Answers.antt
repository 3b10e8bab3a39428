use Rattle.std.proofs.Common.{◌≡◌, ◌∙◌, List, ◌++◌, Result, Ok, Err, IfOk, ap, append_assoc}
use Rattle.dh_metadata.proofs.ids.gather.add_middle.Goals as goal

-- what was put at the end in three steps
three-more : {A E : Type 0} (start one two x y z : List A) (result : Result (List A) E) → one ≡ start ++ x → two ≡ one ++ y
    → IfOk result (λ all. all ≡ two ++ z) → IfOk result (λ all. all ≡ start ++ (x ++ (y ++ z)))
three-more start one two x y z (Ok all) first second last =
    let apart : ((start ++ x) ++ y) ++ z ≡ start ++ (x ++ (y ++ z)) = simp append_assoc in
    last ∙ ap (λ l. l ++ z) second ∙ ap (λ l. (l ++ y) ++ z) first ∙ apart
three-more start one two x y z (Err fault) first second last = tt

pub returns : goal.returns
returns c =
    three-more c.args.lists c.in_ok-lists.lists c.in_ok-lists-2.lists _ _ _ c.add_four-3.result c.in_ok-lists.ensures c.in_ok-lists-2.ensures
    c.add_four-3.ensures
