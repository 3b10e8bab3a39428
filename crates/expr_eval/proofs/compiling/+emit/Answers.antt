use Rattle.std.proofs.Common.{◌≡◌, ℕ, List, [], ◌∷◌, ◌++◌, length, sym, ap, ◌∙◌, subst, append_assoc, rules}
use Rattle.std.proofs.lemmas.List.{map-append}
use Rattle.std.specs.Prelude.{◌&&◌, OnOk, map}
use Rattle.expr_lang.specs.declared.tree.Item.{Item}
use Rattle.expr_lang.specs.declared.tree.Leaf.TheVariants as leaf
use Rattle.expr_lang.specs.Branches.{shape_in}
use Rattle.expr_lang.specs.Shape.{Shape}
use Rattle.expr_eval.specs.declared.code.Instr.{Instr}
use Rattle.expr_eval.specs.declared.code.Instr.TheVariants as instr
use Rattle.expr_eval.specs.Applied.{plain_items}
use Rattle.expr_eval.specs.Given.{index_in}
use Rattle.expr_eval.specs.Code.{Codes, codes_of, code_in, if_code}
use Rattle.expr_eval.specs.Emitted.{is_list, room_of}
use Rattle.expr_eval.proofs.Patch.{patch_if, code_in_same}
use Rattle.expr_eval.proofs.Places.{at-place}
use Rattle.expr_eval.proofs.compiling.+emit.Goals as goal

-- what three parts list, one after the other
plain_three : (index : Item → ℕ) (a b d e : List ℕ) (p q r : List Item) → b ≡ a ++ map index p → d ≡ b ++ map index q → e ≡ d ++ map index r
    → e ≡ a ++ map index (p ++ (q ++ r))
plain_three index a b d e p q r first second third =
    third ∙ ap (λ (l : List ℕ). l ++ map index r) (second ∙ ap (λ (l : List ℕ). l ++ map index q) first)
    ∙ append_assoc (a ++ map index p) (map index q) (map index r) ∙ append_assoc a (map index p) (map index q ++ map index r)
    ∙ ap (λ (l : List ℕ). a ++ (map index p ++ l)) (sym (map-append index q r)) ∙ ap (λ (l : List ℕ). a ++ l) (sym (map-append index p (q ++ r)))

pub returns-in-Day-clause-code : goal.returns-in-Day-clause-code
returns-in-Day-clause-code t c =
    let items : List Item = c.args.source.now.items.now in
    let form : Shape → List Instr = λ s. code_in c.args.list (codes_of (index_in items) s) in
    subst (λ (l : List Instr). OnOk c.put.result (c.put.new.code.items ≡ c.args.code.now.items ++ l))
    (sym (ap form c.in-Day.ensures.shape
    ∙ at-place form (λ k. instr.LoadDay k ∷ []) (λ i. leaf.Day i) items c.in-Day.place c.in-Day.ensures.earlier c.requires.different
    (λ i. code_in_same c.args.list (instr.LoadDay (index_in items i) ∷ [])))) c.put.ensures

pub returns-in_ok-emit-in-Binary-2-clause-code : goal.returns-in_ok-emit-in-Binary-2-clause-code
returns-in_ok-emit-in-Binary-2-clause-code t c =
    let base : List Instr = c.args.code.now.items in
    let items : List Item = c.args.source.now.items.now in
    let codes : ℕ → Codes = λ n. codes_of (index_in items) (shape_in items c.args.source.now.branches.now n) in
    let left : Codes = codes c.in-Binary.left in
    let front : List Instr = code_in (c.args.list && is_list c.in-Binary.binary) left in
    let first : c.emit-in-Binary.new.code.items ≡ base ++ front = search rules in
    subst (λ (s : Shape). OnOk c.join.result (c.join.new.code.items ≡ base ++ code_in c.args.list (codes_of (index_in items) s))) (sym c.in-Binary.ensures.shape)
    (c.join.ensures base left (codes c.in-Binary.right) (c.len-start.ensures ∙ c.args.code.now.ok.0)
    (c.len-end.ensures ∙ c.emit-in-Binary.new.code.ok.0 ∙ ap length first)
    (c.in_ok-emit-in-Binary-2.ensures.code
    ∙ ap (λ (l : List Instr). l ++ (codes c.in-Binary.right).one) (c.in_ok-put_room-in-Binary.ensures ∙ ap (λ (l : List Instr). l ++ room_of c.in-Binary.binary) first)))

pub returns-in_ok-emit-in-If-3-clause-code : goal.returns-in_ok-emit-in-If-3-clause-code
returns-in_ok-emit-in-If-3-clause-code t c =
    let base : List Instr = c.args.code.now.items in
    let items : List Item = c.args.source.now.items.now in
    let one : ℕ → List Instr = λ n. (codes_of (index_in items) (shape_in items c.args.source.now.branches.now n)).one in
    patch_if base _ _ _ _ _ _ _ _ _ _ _ _ _ c.in_ok-emit-in-If.ensures.code (c.len-test_end.ensures
    ∙ c.emit-in-If.new.code.ok.0) c.in_ok-put-in-If.ensures c.in_ok-emit-in-If-2.ensures.code (c.len-one_end.ensures
    ∙ c.emit-in-If-2.new.code.ok.0) c.in_ok-put-in-If-2.ensures c.in_ok-emit-in-If-3.ensures.code (c.len.ensures ∙ c.emit-in-If-3.new.code.ok.0)
    ∙ ap (λ (l : List Instr). base ++ l) (sym (code_in_same c.args.list (if_code (one c.in-If.test) (one c.in-If.one) (one c.in-If.other))))
    ∙ ap (λ (s : Shape). base ++ code_in c.args.list (codes_of (index_in items) s)) (sym c.in-If.ensures.shape)

pub returns-in_ok-emit-in-If-3-clause-plain : goal.returns-in_ok-emit-in-If-3-clause-plain
returns-in_ok-emit-in-If-3-clause-plain t c =
    let items : List Item = c.args.source.now.items.now in
    let shape : ℕ → Shape = λ n. shape_in items c.args.source.now.branches.now n in
    plain_three (index_in items) c.args.plain.now.items c.emit-in-If.new.plain.items c.emit-in-If-2.new.plain.items c.emit-in-If-3.new.plain.items
    (plain_items (shape c.in-If.test)) (plain_items (shape c.in-If.one)) (plain_items (shape c.in-If.other))
    c.in_ok-emit-in-If.ensures.plain c.in_ok-emit-in-If-2.ensures.plain c.in_ok-emit-in-If-3.ensures.plain
    ∙ ap (λ (s : Shape). c.args.plain.now.items ++ map (index_in items) (plain_items s)) (sym c.in-If.ensures.shape)
