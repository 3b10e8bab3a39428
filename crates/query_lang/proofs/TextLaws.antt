-- The text of an item of the dimension `dx` is ASCII.
use Rattle.std.proofs.Common.{◌≡◌, ◌∙◌, ℕ, zero, suc, ◌<◌, Bool, true, false, cond, ◌&&◌, ◌==◌, nat_lt, List, [], ◌∷◌, ◌++◌, length, take, drop, slice_index}
use Rattle.std.proofs.Common.{bytes_eq, codes, Option, None, Some, IfSome, option_map, option_and_then, refl, sym, ap, subst, arith, drop-cons}
use Rattle.std.specs.List.{list_all}
use Rattle.std.specs.Str.{IsAscii, IsUtf8}
use Rattle.std.specs.Char.{is_ascii_alphanumeric}
use Rattle.std.proofs.lemmas.Bool.{ltb-true, eqb-true}
use Rattle.std.proofs.lemmas.Bool.Decides.{nat_tests}
use Rattle.std.proofs.lemmas.List.{take-append-drop}
use Rattle.std.proofs.lemmas.Slice.Eq.{bytes_eq-Decides}
use Rattle.std.proofs.lemmas.Str.{IsAscii-append, IsUtf8-from_ascii}
use Rattle.dh_base.specs.Uid.{is_uid, uid_of}
use Rattle.dh_base.specs.declared.plain.Rate.{Rate}
use Rattle.query_lang.specs.declared.item.DxForm.{DxForm}
use Rattle.query_lang.specs.declared.item.DxForm.TheVariants as dx
use Rattle.query_lang.specs.Items.{rate_named, part_by, part_form, pair_form, dx_by, dx_form}

left : (a b : Bool) → (a && b) ≡ true → a ≡ true
left true b both = refl
left false b both = absurd (cc)

right : (a b : Bool) → (a && b) ≡ true → b ≡ true
right true b both = both
right false b both = absurd (cc)

cons_ascii : (b : ℕ) (bytes : List ℕ) → b < 128 → IsAscii bytes → IsAscii (b ∷ bytes)
cons_ascii b bytes small rest zero = small
cons_ascii b bytes small rest (suc i) = rest i

small : (b : ℕ) → is_ascii_alphanumeric b ≡ true → b < 128
small b is = grind (arith, nat_tests)

all_ascii : (bytes : List ℕ) → list_all is_ascii_alphanumeric bytes ≡ true → IsAscii bytes
all_ascii [] all = λ i. omega arith
all_ascii (b ∷ bytes) all = cons_ascii b bytes (small b (left _ _ all)) (all_ascii bytes (right _ _ all))

uid_ascii : (text : List ℕ) → is_uid text ≡ true → IsAscii text
uid_ascii text is = all_ascii text (right _ _ is)

tested : (bytes : List ℕ) → list_all (λ b. nat_lt b 128) bytes ≡ true → IsAscii bytes
tested [] all = λ i. omega arith
tested (b ∷ bytes) all = cons_ascii b bytes (ltb-true b 128 (left _ _ all)) (tested bytes (right _ _ all))

pick : (name word : List ℕ) (r : Rate) (others : Option Rate) (b : Bool) → bytes_eq name word ≡ b → list_all (λ b. nat_lt b 128) word ≡ true
    → IfSome others (λ _. IsAscii name) → IfSome (cond b (Some r) others) (λ _. IsAscii name)
pick name word r others true is plain rest = subst IsAscii (sym ((bytes_eq-Decides name word).0 is)) (tested word plain)
pick name word r others false is plain rest = rest

rate_ascii : (name : List ℕ) → IfSome (rate_named name) (λ _. IsAscii name)
unfolding rate_named
rate_ascii name =
    pick name (codes "EXPECTED_REPORTS") _ _ _ refl refl
    (pick name (codes "ACTUAL_REPORTS") _ _ _ refl refl
    (pick name (codes "ACTUAL_REPORTS_ON_TIME") _ _ _ refl refl
    (pick name (codes "REPORTING_RATE") _ _ _ refl refl
    (pick name (codes "REPORTING_RATE_ON_TIME") _ _ _ refl refl tt))))

combo_ascii : (id rest : List ℕ) (b : Bool) → is_uid rest ≡ b
    → IfSome (option_map (λ combo. let form : DxForm = dx.Operand id combo in form) (let o : Option (List ℕ) = cond b (Some rest) None in o)) (λ _.
    IsAscii rest)
combo_ascii id rest true is = uid_ascii rest is
combo_ascii id rest false is = tt

by_ascii : (o : Option Rate) (id rest : List ℕ) → IfSome o (λ _. IsAscii rest) → IfSome (part_by o id rest) (λ _. IsAscii rest)
by_ascii (Some r) id rest plain = plain
by_ascii None id rest plain = combo_ascii id rest (is_uid rest) refl

part_ascii : (id rest : List ℕ) → IfSome (part_form id rest) (λ _. IsAscii rest)
part_ascii id rest = by_ascii (rate_named rest) id rest (rate_ascii rest)

lifted : {S : Type 0} (P Q : Type 0) (o : Option S) → (P → Q) → IfSome o (λ _. P) → IfSome o (λ _. Q)
lifted P Q None so is = tt
lifted P Q (Some x) so is = so is

-- an identifier, a point and more
joined : (text : List ℕ) → 11 < length text → slice_index text 11 ≡ 46 → IsAscii (take 11 text) → IsAscii (drop 12 text) → IsAscii text
joined text long point front rest =
    let split : take 11 text ++ (46 ∷ drop 12 text) ≡ text =
    ap (λ (r : List ℕ). take 11 text ++ r) (sym (drop-cons text 11 0 long ∙ ap (λ (b : ℕ). b ∷ drop 12 text) point)) ∙ take-append-drop 11 text in
    subst IsAscii split (IsAscii-append (take 11 text) (46 ∷ drop 12 text) front (cons_ascii 46 (drop 12 text) (omega arith) rest))

front_ascii : (text : List ℕ) → 11 < length text → slice_index text 11 ≡ 46 → (b : Bool) → is_uid (take 11 text) ≡ b
    → IfSome (option_and_then (λ id. part_form id (drop 12 text)) (let o : Option (List ℕ) = cond b (Some (take 11 text)) None in o)) (λ _. IsAscii text)
front_ascii text long point true is =
    lifted (IsAscii (drop 12 text)) (IsAscii text) (part_form (take 11 text) (drop 12 text)) (joined text long point (uid_ascii (take 11 text) is))
    (part_ascii (take 11 text) (drop 12 text))
front_ascii text long point false is = tt

pair_by : (text : List ℕ) (b : Bool) → (nat_lt 11 (length text) && slice_index text 11 == 46) ≡ b
    → IfSome (cond b (option_and_then (λ id. part_form id (drop 12 text)) (uid_of (take 11 text))) None) (λ _. IsAscii text)
pair_by text true is =
    front_ascii text (ltb-true 11 (length text) (left _ _ is)) (eqb-true (slice_index text 11) 46 (right (nat_lt 11 (length text)) _ is))
    (is_uid (take 11 text)) refl
pair_by text false is = tt

pair_ascii : (text : List ℕ) → IfSome (pair_form text) (λ _. IsAscii text)
unfolding pair_form
pair_ascii text = pair_by text _ refl

form_by : (text : List ℕ) (b : Bool) → is_uid text ≡ b → IfSome (dx_by (let o : Option (List ℕ) = cond b (Some text) None in o) text) (λ _. IsAscii text)
form_by text true is = uid_ascii text is
form_by text false is = pair_ascii text

form_ascii : (text : List ℕ) → IfSome (dx_form text) (λ _. IsAscii text)
unfolding dx_form
form_ascii text = form_by text (is_uid text) refl

-- a text in a form is UTF-8
pub form_utf8 : (text : List ℕ) (form : DxForm) → dx_form text ≡ Some form → IsUtf8 text
form_utf8 text form is =
    let P : Option DxForm → Type 0 = λ o. IfSome o (λ _. IsAscii text) in
    IsUtf8-from_ascii text (subst P is (form_ascii text))
