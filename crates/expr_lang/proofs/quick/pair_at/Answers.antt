use Rattle.std.proofs.Common.{◌≡◌, ℕ, ◌-◌, ◌≤◌, Bool, true, false, length, drop, Some, None, Option, sym, ap, ◌∙◌, arith}
use Rattle.std.specs.Prelude.{nat_eq, nat_lt, slice_index, if◌then◌else◌}
use Rattle.std.proofs.lemmas.Bool.{le-ltb, lt-ltb}
use Rattle.std.proofs.lemmas.List.{length-drop, take_all}
use Rattle.expr_lang.specs.declared.tree.Place.{Place}
use Rattle.expr_lang.specs.declared.words.ItemForm.{ItemForm}
use Rattle.expr_lang.specs.Quick.{pair_form, pair_of, is_identifier_of}
use Rattle.expr_lang.proofs.Letters.{differ}
use Rattle.expr_lang.proofs.NumberLemmas.{by_true, by_false}
use Rattle.expr_lang.proofs.quick.pair_at.Goals.{then-bytes-lt26-via-then-bytes-lt26, then-bytes-lt26-via-else-bytes-lt26+then-bytes-ne125}
use Rattle.expr_lang.proofs.quick.pair_at.Goals as goal

abbrev pair_by : Place → ℕ → ℕ → Bool → Option (ItemForm × ℕ)
pair_by place len byte second =
    if nat_lt len 26 then None else if nat_eq byte 125 then (if second then Some (pair_form place, 26) else None) else None

pair_found : (place : Place) (len byte : ℕ) (second : Bool) → 26 ≤ len → byte ≡ 125 → second ≡ true → Some (pair_form place, 26) ≡ pair_by place len byte second
pair_found place len byte second long closed is =
    by_true second _ _ is ∙ by_true (nat_eq byte 125) _ _ (ap (λ (k : ℕ). nat_eq k 125) closed) ∙ by_false (nat_lt len 26) _ _ (le-ltb len 26 long)

pair_other : (place : Place) (len byte : ℕ) (second : Bool) → 26 ≤ len → byte ≡ 125 → second ≡ false → None ≡ pair_by place len byte second
pair_other place len byte second long closed is =
    by_false second _ _ is ∙ by_true (nat_eq byte 125) _ _ (ap (λ (k : ℕ). nat_eq k 125) closed) ∙ by_false (nat_lt len 26) _ _ (le-ltb len 26 long)

pair_open : (place : Place) (len byte : ℕ) (second : Bool) → 26 ≤ len → (¬ (byte ≡ 125)) → None ≡ pair_by place len byte second
pair_open place len byte second long open_ =
    by_false (nat_eq byte 125) _ _ (differ byte 125 open_) ∙ by_false (nat_lt len 26) _ _ (le-ltb len 26 long)

pub returns-in-Program : goal.returns-in-Program
unfolding pair_of
returns-in-Program c =
    ap (λ (p : Place). Some (pair_form p, 26)) (sym c.in-Program.is)
    ∙ pair_found c.args.place (length c.args.bytes.now) (slice_index c.args.bytes.now 25) (is_identifier_of (drop 14 c.args.bytes.now)) c.if-bytes-lt26.false
    c.if-bytes-ne125.false
    (ap is_identifier_of (sym (take_all (length c.args.bytes.now - 14) (drop 14 c.args.bytes.now) (omega (arith, length-drop 14 c.args.bytes.now))))
    ∙ sym c.is_identifier.ensures ∙ c.if-not-is_identifier.false)

pub returns-in-Aggregate : goal.returns-in-Aggregate
unfolding pair_of
returns-in-Aggregate c =
    ap (λ (p : Place). Some (pair_form p, 26)) (sym c.in-Aggregate.is)
    ∙ pair_found c.args.place (length c.args.bytes.now) (slice_index c.args.bytes.now 25) (is_identifier_of (drop 14 c.args.bytes.now)) c.if-bytes-lt26.false
    c.if-bytes-ne125.false
    (ap is_identifier_of (sym (take_all (length c.args.bytes.now - 14) (drop 14 c.args.bytes.now) (omega (arith, length-drop 14 c.args.bytes.now))))
    ∙ sym c.is_identifier.ensures ∙ c.if-not-is_identifier.false)

pub returns-then-bytes-lt26 : goal.returns-then-bytes-lt26
unfolding pair_of
returns-then-bytes-lt26 c =
    elim c.then-bytes-lt26.branch [
      | then-bytes-lt26-via-then-bytes-lt26 w ↦ by_true (nat_lt (length c.args.bytes.now) 26) _ _ (lt-ltb _ _ w.if-bytes-lt26.true)
      | then-bytes-lt26-via-else-bytes-lt26+then-bytes-ne125 w ↦
          pair_open c.args.place (length c.args.bytes.now) (slice_index c.args.bytes.now 25) (is_identifier_of (drop 14 c.args.bytes.now))
          w.if-bytes-lt26.false w.if-bytes-ne125.true
    ]

pub returns-then-not-is_identifier : goal.returns-then-not-is_identifier
unfolding pair_of
returns-then-not-is_identifier c =
    pair_other c.args.place (length c.args.bytes.now) (slice_index c.args.bytes.now 25) (is_identifier_of (drop 14 c.args.bytes.now)) c.if-bytes-lt26.false
    c.if-bytes-ne125.false
    (ap is_identifier_of (sym (take_all (length c.args.bytes.now - 14) (drop 14 c.args.bytes.now) (omega (arith, length-drop 14 c.args.bytes.now))))
    ∙ sym c.is_identifier.ensures ∙ c.if-not-is_identifier.true)
