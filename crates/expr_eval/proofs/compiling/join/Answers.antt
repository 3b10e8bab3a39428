use Rattle.std.proofs.Common.{◌≡◌, List, [], ◌∷◌, ◌++◌, length, refl, sym, ap, ◌∙◌}
use Rattle.std.specs.Prelude.{◌&&◌}
use Rattle.expr_lang.specs.declared.tree.Binary.{Binary}
use Rattle.expr_eval.specs.declared.code.Instr.{Instr}
use Rattle.expr_eval.specs.declared.code.Instr.TheVariants as instr
use Rattle.expr_eval.specs.Code.{binary_code, code_in}
use Rattle.expr_eval.specs.Emitted.{is_list, room_of}
use Rattle.expr_eval.proofs.Patch.{patch_one, code_in_none, with_jump}
use Rattle.expr_eval.proofs.compiling.join.Goals as goal

pub returns-then-end-len : goal.returns-then-end-len
returns-then-end-len c = λ base left right start end is.
    let code : List Instr = c.args.code.now.items in
    let front : List Instr = code_in (c.args.list && is_list c.args.binary) left in
    let one : front ≡ left.one = ap (λ (b : Binary). code_in (c.args.list && is_list b) left) c.in-And.is ∙ code_in_none c.args.list left in
    patch_one (λ n. instr.And n) base front right.one (base ++ front) ((base ++ front) ++ instr.And 0 ∷ []) code (instr.And 0) c.args.end
    c.len-then-end-len.result refl end refl (is ∙ ap (λ (b : Binary). ((base ++ front) ++ room_of b) ++ right.one) c.in-And.is)
    (c.len-then-end-len.ensures ∙ c.args.code.now.ok.0)
    ∙ with_jump c.args.list base front left right (instr.And (length right.one)) one
    ∙ ap (λ (b : Binary). base ++ code_in c.args.list (binary_code b left right)) (sym c.in-And.is)

pub returns-then-end-len-2 : goal.returns-then-end-len-2
returns-then-end-len-2 c = λ base left right start end is.
    let code : List Instr = c.args.code.now.items in
    let front : List Instr = code_in (c.args.list && is_list c.args.binary) left in
    let one : front ≡ left.one = ap (λ (b : Binary). code_in (c.args.list && is_list b) left) c.in-Or.is ∙ code_in_none c.args.list left in
    patch_one (λ n. instr.Or n) base front right.one (base ++ front) ((base ++ front) ++ instr.Or 0 ∷ []) code (instr.Or 0) c.args.end
    c.len-then-end-len-2.result refl end refl (is ∙ ap (λ (b : Binary). ((base ++ front) ++ room_of b) ++ right.one) c.in-Or.is)
    (c.len-then-end-len-2.ensures ∙ c.args.code.now.ok.0)
    ∙ with_jump c.args.list base front left right (instr.Or (length right.one)) one
    ∙ ap (λ (b : Binary). base ++ code_in c.args.list (binary_code b left right)) (sym c.in-Or.is)
