-- A jump is written after the instructions that it passes.
use Rattle.std.proofs.Common.{◌≡◌, ℕ, ◌+◌, ◌-◌, Bool, true, false, List, [], ◌∷◌, ◌++◌, length, refl, sym, ap, ◌∙◌, arith, append_assoc, length-append}
use Rattle.std.specs.Prelude.{◌&&◌, slice_set}
use Rattle.std.proofs.Math.Seq.{set-append_seam}
use Rattle.expr_eval.specs.declared.code.Instr.{Instr}
use Rattle.expr_eval.specs.declared.code.Instr.TheVariants as instr
use Rattle.expr_eval.specs.Code.{Codes, if_code, same_code, code_in}

pub code_in_same : (list : Bool) (code : List Instr) → code_in list (same_code code) ≡ code
code_in_same true code = refl
code_in_same false code = refl

pub patch_one : (make : ℕ → Instr) (base lc rc c1 c2 c3 : List Instr) (x : Instr) (n1 n2 : ℕ) → c1 ≡ base ++ lc → n1 ≡ length c1 → c2 ≡ c1 ++ x ∷ []
    → c3 ≡ c2 ++ rc → n2 ≡ length c3 → slice_set c3 n1 (make (n2 - n1 - 1)) ≡ base ++ (lc ++ make (length rc) ∷ rc)
patch_one make base lc rc c1 c2 c3 x n1 n2 e1 m1 e2 e3 m2 =
    let l2 = ap length e2 ∙ length-append c1 (x ∷ []) in
    let l3 = ap length e3 ∙ length-append c2 rc in
    let d : n2 - n1 - 1 ≡ length rc = omega arith in
    let flat : c3 ≡ c1 ++ x ∷ rc = e3 ∙ ap (λ (l : List Instr). l ++ rc) e2 ∙ append_assoc c1 (x ∷ []) rc in
    ap (λ (l : List Instr). slice_set l n1 (make (n2 - n1 - 1))) flat
    ∙ ap (λ (n : ℕ). slice_set (c1 ++ x ∷ rc) n (make (n2 - n1 - 1))) m1
    ∙ set-append_seam c1 x rc (make (n2 - n1 - 1))
    ∙ ap (λ (l : List Instr). l ++ make (n2 - n1 - 1) ∷ rc) e1
    ∙ append_assoc base lc (make (n2 - n1 - 1) ∷ rc)
    ∙ ap (λ (n : ℕ). base ++ (lc ++ make n ∷ rc)) d

two_writes : (c a b : List Instr) (x y i j : Instr) → slice_set (slice_set (c ++ x ∷ (a ++ y ∷ b)) (length c) i) (length (c ++ i ∷ a)) j ≡ c ++ i ∷ (a ++ j ∷ b)
two_writes c a b x y i j =
    ap (λ l. slice_set l (length (c ++ i ∷ a)) j) (set-append_seam c x (a ++ y ∷ b) i ∙ sym (append_assoc c (i ∷ a) (y ∷ b)))
    ∙ set-append_seam (c ++ i ∷ a) y b j
    ∙ append_assoc c (i ∷ a) (j ∷ b)

pub patch_if : (base tc ac bc c1 c2 c3 c4 c5 : List Instr) (x y : Instr) (n1 n2 n3 : ℕ) → c1 ≡ base ++ tc → n1 ≡ length c1 → c2 ≡ c1 ++ x ∷ [] → c3 ≡ c2 ++ ac
    → n2 ≡ length c3 → c4 ≡ c3 ++ y ∷ [] → c5 ≡ c4 ++ bc → n3 ≡ length c5
    → slice_set (slice_set c5 n1 (instr.SkipUnless (n2 - n1))) n2 (instr.GoOn (n3 - n2 - 1)) ≡ base ++ if_code tc ac bc
patch_if base tc ac bc c1 c2 c3 c4 c5 x y n1 n2 n3 e1 m1 e2 e3 m2 e4 e5 m3 =
    let l2 = ap length e2 ∙ length-append c1 (x ∷ []) in
    let l3 = ap length e3 ∙ length-append c2 ac in
    let l4 = ap length e4 ∙ length-append c3 (y ∷ []) in
    let l5 = ap length e5 ∙ length-append c4 bc in
    let i = instr.SkipUnless (n2 - n1) in
    let j = instr.GoOn (n3 - n2 - 1) in
    let d1 : n2 - n1 ≡ length ac + 1 = omega arith in
    let d2 : n3 - n2 - 1 ≡ length bc = omega arith in
    let at2 : n2 ≡ length (c1 ++ i ∷ ac) = omega (arith, length-append c1 (i ∷ ac)) in
    let all : c5 ≡ (((c1 ++ x ∷ []) ++ ac) ++ y ∷ []) ++ bc = cc in
    let flat : (((c1 ++ x ∷ []) ++ ac) ++ y ∷ []) ++ bc ≡ c1 ++ x ∷ (ac ++ y ∷ bc) = simp append_assoc in
    ap (λ l. slice_set (slice_set l n1 i) n2 j) (all ∙ flat)
    ∙ ap (λ n. slice_set (slice_set (c1 ++ x ∷ (ac ++ y ∷ bc)) n i) n2 j) m1
    ∙ ap (λ n. slice_set (slice_set (c1 ++ x ∷ (ac ++ y ∷ bc)) (length c1) i) n j) at2
    ∙ two_writes c1 ac bc x y i j
    ∙ ap (λ l. l ++ i ∷ (ac ++ j ∷ bc)) e1
    ∙ append_assoc base tc (i ∷ (ac ++ j ∷ bc))
    ∙ ap (λ n. base ++ (tc ++ instr.SkipUnless n ∷ (ac ++ j ∷ bc))) d1
    ∙ ap (λ n. base ++ (tc ++ instr.SkipUnless (length ac + 1) ∷ (ac ++ instr.GoOn n ∷ bc))) d2

-- the code of a value in a list of arguments, under an operator that makes none
pub code_in_none : (list : Bool) (codes : Codes) → code_in (list && false) codes ≡ codes.one
code_in_none true codes = refl
code_in_none false codes = refl

-- the code of two operands with the jump over the right one
pub with_jump : (list : Bool) (base front : List Instr) (left right : Codes) (jump : Instr) → front ≡ left.one
    → base ++ (front ++ jump ∷ right.one) ≡ base ++ code_in list (same_code (left.one ++ jump ∷ right.one))
with_jump list base front left right jump one =
    ap (λ (l : List Instr). base ++ (l ++ jump ∷ right.one)) one
    ∙ ap (λ (l : List Instr). base ++ l) (sym (code_in_same list (left.one ++ jump ∷ right.one)))
