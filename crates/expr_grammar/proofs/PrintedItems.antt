-- What is printed of an item is the word that names it.
use Rattle.std.proofs.Common.{◌≡◌, ℕ, ◌+◌, ◌-◌, ◌≤◌, Bool, true, false, cond, List, [], ◌∷◌, ◌++◌, length, take, drop, Some, None, refl, sym, ap, ◌∙◌}
use Rattle.std.proofs.Common.{append_assoc, append-nil, length-append, arith}
use Rattle.std.specs.Prelude.{◌&&◌, ◌||◌, not, nat_eq, nat_lt, codes, slice_range, slice_index, option_map, option_and_then}
use Rattle.std.specs.Char.{is_ascii_alphabetic, is_ascii_alphanumeric}
use Rattle.std.specs.List.{list_all}
use Rattle.std.proofs.lemmas.Bool.Decides.{nat_tests}
use Rattle.dh_base.specs.Uid.{uid_of}
use Rattle.dh_base.specs.declared.plain.Rate.TheVariants as rates
use Rattle.expr_lang.specs.declared.tree.Item.{Item}
use Rattle.expr_lang.specs.declared.tree.Item.TheVariants as item
use Rattle.expr_lang.specs.declared.words.Symbol.TheVariants as symbol
use Rattle.expr_lang.specs.declared.words.ItemForm.{ItemForm}
use Rattle.expr_lang.specs.declared.words.ItemForm.TheVariants as form
use Rattle.expr_lang.specs.Item.{uid_from, item_from, leaf_from, is_day_of}
use Rattle.expr_lang.specs.Leaves.{item_leaf}
use Rattle.expr_lang.specs.Print.{item_text, leaf_text}
use Rattle.expr_lang.specs.Token.{fits_of}
use Rattle.expr_lang.specs.Words.{text_of, item_text_of}
use Rattle.expr_grammar.specs.Grammar.{IsWord}
use Rattle.expr_grammar.proofs.Words.{drop_front, take_front, word_long}

-- ---- a word in parts

abbrev Parts : List ℕ → List ℕ → List ℕ → Type 0
Parts p q word = (a : List ℕ) × (b : List ℕ) × IsWord p a × IsWord q b × (word ≡ a ++ b)

parts : (p q word : List ℕ) → IsWord (p ++ q) word → Parts p q word
parts [] q word h = ([], word, tt, h, refl)
parts (c ∷ cs) q [] h = absurd h
parts (c ∷ cs) q (b ∷ bs) h = let r = parts cs q bs h.1 in (b ∷ r.0, r.1, (h.0, r.2), r.3, ap (λ (l : List ℕ). b ∷ l) r.4)

abbrev is_fixed : List ℕ → Bool
is_fixed [] = true
is_fixed (c ∷ cs) = not (nat_eq c 64) && not (nat_eq c 36) && is_fixed cs

same_letter : (c b : ℕ) → not (nat_eq c 64) && not (nat_eq c 36) ≡ true → fits_of c b ≡ true → b ≡ c
same_letter c b h f = grind (arith, nat_tests)

first_two : (a b c : Bool) → a && b && c ≡ true → (a && b ≡ true) × (c ≡ true)
first_two true true c h = (refl, h)
first_two true false c h = absurd cc
first_two false b c h = absurd cc

fixed : (p word : List ℕ) → is_fixed p ≡ true → IsWord p word → word ≡ p
fixed [] [] f h = refl
fixed [] (b ∷ bs) f h = absurd h
fixed (c ∷ cs) [] f h = absurd h
fixed (c ∷ cs) (b ∷ bs) f h =
    let k = first_two (not (nat_eq c 64)) (not (nat_eq c 36)) (is_fixed cs) f in
    let e = same_letter c b k.0 h.0 in
    let r = fixed cs bs k.1 h.1 in
    ap (λ (x : ℕ). x ∷ bs) e ∙ ap (λ (l : List ℕ). c ∷ l) r

-- ---- identifiers

abbrev uid_pattern : List ℕ
uid_pattern = codes "@$$$$$$$$$$"

abbrev is_wild : List ℕ → Bool
is_wild [] = true
is_wild (c ∷ cs) = (nat_eq c 64 || nat_eq c 36) && is_wild cs

both : (a b : Bool) → a && b ≡ true → (a ≡ true) × (b ≡ true)
both true true e = (refl, refl)
both true false e = absurd cc
both false b e = absurd cc

wild_fits : (c b : ℕ) → nat_eq c 64 || nat_eq c 36 ≡ true → fits_of c b ≡ true → is_ascii_alphanumeric b ≡ true
wild_fits c b h f = grind (arith, nat_tests)

wild_word : (t word : List ℕ) → is_wild t ≡ true → IsWord t word → list_all is_ascii_alphanumeric word ≡ true
wild_word [] [] w h = refl
wild_word [] (b ∷ bs) w h = absurd h
wild_word (c ∷ cs) [] w h = absurd h
wild_word (c ∷ cs) (b ∷ bs) w h =
    let k = both (nat_eq c 64 || nat_eq c 36) (is_wild cs) w in
    rw (wild_fits c b k.0 h.0, wild_word cs bs k.1 h.1) refl

first_letter : (t word : List ℕ) → IsWord (64 ∷ t) word → is_ascii_alphabetic (slice_index word 0) ≡ true
first_letter t [] h = absurd h
first_letter t (b ∷ bs) h = h.0

three_true : (a b c : Bool) → a ≡ true → b ≡ true → c ≡ true → a && b && c ≡ true
three_true a b c e f g = rw (e, f, g) refl

length_eleven : (n : ℕ) → n ≡ 11 → nat_eq n 11 ≡ true
length_eleven n h = grind (arith, nat_tests)

uid_is : (u : List ℕ) → IsWord uid_pattern u → uid_of u ≡ Some u
uid_is u h =
    ap (λ (t : Bool). cond t (Some u) None)
    (three_true (nat_eq (length u) 11) (is_ascii_alphabetic (slice_index u 0)) (list_all is_ascii_alphanumeric u)
    (length_eleven (length u) (word_long uid_pattern u h)) (first_letter (codes "$$$$$$$$$$") u h) (wild_word uid_pattern u refl h))

long_enough : (n m : ℕ) → m ≤ n → nat_lt n m ≡ false
long_enough n m h = grind (arith, nat_tests)

uid_at : (from : ℕ) (p u rest : List ℕ) → length p ≡ from → IsWord uid_pattern u → uid_from from (p ++ (u ++ rest)) ≡ Some u
uid_at from p u rest at h =
    let eleven : length u ≡ 11 = word_long uid_pattern u h in
    let long : from + 11 ≤ length (p ++ (u ++ rest)) = omega (arith, length-append p (u ++ rest), length-append u rest) in
    let wide : (from + 11) - from ≡ length u = omega arith in
    let cut : slice_range (p ++ (u ++ rest)) from (from + 11) ≡ u =
    ap (λ (n : ℕ). take n (drop from (p ++ (u ++ rest)))) wide
    ∙ ap (λ (n : ℕ). take (length u) (drop n (p ++ (u ++ rest)))) (sym at)
    ∙ ap (take (length u)) (drop_front p (u ++ rest))
    ∙ take_front u rest in
    ap (λ (t : Bool). cond t None (uid_of (slice_range (p ++ (u ++ rest)) from (from + 11)))) (long_enough (length (p ++ (u ++ rest))) (from + 11) long)
    ∙ ap uid_of cut ∙ uid_is u h

-- ---- items of one, two and three identifiers

abbrev OneUid : List ℕ → List ℕ → List ℕ → Type 0
OneUid front back word = (u : List ℕ) × (word ≡ front ++ (u ++ back)) × (uid_from (length front) word ≡ Some u)

one : (front back word : List ℕ) → is_fixed front ≡ true → is_fixed back ≡ true → IsWord (front ++ (uid_pattern ++ back)) word → OneUid front back word
one front back word f g h =
    let a = parts front (uid_pattern ++ back) word h in
    let b = parts uid_pattern back a.1 a.3 in
    let x : a.0 ≡ front = fixed front a.0 f a.2 in
    let z : b.1 ≡ back = fixed back b.1 g b.3 in
    let e : word ≡ front ++ (b.0 ++ back) = a.4 ∙ ap (λ (l : List ℕ). l ++ a.1) x ∙ ap (λ (l : List ℕ). front ++ l) (b.4 ∙ ap (λ (l : List ℕ). b.0 ++ l) z) in
    (b.0, e, ap (uid_from (length front)) e ∙ uid_at (length front) front b.0 back refl b.2)

abbrev TwoUids : List ℕ → Type 0
TwoUids word =
    (u : List ℕ) × (v : List ℕ) × (word ≡ codes "#{" ++ (u ++ (codes "." ++ (v ++ codes "}"))))
    × (uid_from 2 word ≡ Some u) × (uid_from 14 word ≡ Some v)

second_at : (u rest : List ℕ) → IsWord uid_pattern u → length (codes "#{" ++ (u ++ codes ".")) ≡ 14
second_at u rest h = omega (arith, length-append u (codes "."), word_long uid_pattern u h)

two : (word : List ℕ) → IsWord (codes "#{@$$$$$$$$$$.@$$$$$$$$$$}") word → TwoUids word
two word h =
    let a = parts (codes "#{") (uid_pattern ++ (codes "." ++ (uid_pattern ++ codes "}"))) word h in
    let b = parts uid_pattern (codes "." ++ (uid_pattern ++ codes "}")) a.1 a.3 in
    let c = parts (codes ".") (uid_pattern ++ codes "}") b.1 b.3 in
    let d = parts uid_pattern (codes "}") c.1 c.3 in
    let e : word ≡ codes "#{" ++ (b.0 ++ (codes "." ++ (d.0 ++ codes "}"))) =
    a.4 ∙ ap (λ (l : List ℕ). l ++ a.1) (fixed (codes "#{") a.0 refl a.2)
    ∙ ap (λ (l : List ℕ). codes "#{" ++ l) (b.4
    ∙ ap (λ (l : List ℕ). b.0 ++ l) (c.4 ∙ ap (λ (l : List ℕ). l ++ c.1) (fixed (codes ".") c.0 refl c.2)
    ∙ ap (λ (l : List ℕ). codes "." ++ l) (d.4 ∙ ap (λ (l : List ℕ). d.0 ++ l) (fixed (codes "}") d.1 refl d.3)))) in
    let f : codes "#{" ++ (b.0 ++ (codes "." ++ (d.0 ++ codes "}"))) ≡ (codes "#{" ++ (b.0 ++ codes ".")) ++ (d.0 ++ codes "}") =
    ap (λ (l : List ℕ). codes "#{" ++ l) (sym (append_assoc b.0 (codes ".") (d.0 ++ codes "}"))) in (
      b.0,
      d.0,
      e,
      ap (uid_from 2) e ∙ uid_at 2 (codes "#{") b.0 (codes "." ++ (d.0 ++ codes "}")) refl b.2,
      ap (uid_from 14) (e ∙ f) ∙ uid_at 14 (codes "#{" ++ (b.0 ++ codes ".")) d.0 (codes "}") (second_at b.0 [] b.2) d.2,
    )

abbrev ThreeUids : List ℕ → Type 0
ThreeUids word =
    (u : List ℕ) × (v : List ℕ) × (w : List ℕ) × (word ≡ codes "#{" ++ (u ++ (codes "." ++ (v ++ (codes "." ++ (w ++ codes "}"))))))
    × (uid_from 2 word ≡ Some u) × (uid_from 14 word ≡ Some v) × (uid_from 26 word ≡ Some w)

third_at : (u v : List ℕ) → IsWord uid_pattern u → IsWord uid_pattern v → length (codes "#{" ++ (u ++ (codes "." ++ (v ++ codes ".")))) ≡ 26
third_at u v h k =
    omega (arith, length-append u (codes "." ++ (v ++ codes ".")), length-append v (codes "."), word_long uid_pattern u h, word_long uid_pattern v k)

three : (word : List ℕ) → IsWord (codes "#{@$$$$$$$$$$.@$$$$$$$$$$.@$$$$$$$$$$}") word → ThreeUids word
three word h =
    let a = parts (codes "#{") (uid_pattern ++ (codes "." ++ (uid_pattern ++ (codes "." ++ (uid_pattern ++ codes "}"))))) word h in
    let b = parts uid_pattern (codes "." ++ (uid_pattern ++ (codes "." ++ (uid_pattern ++ codes "}")))) a.1 a.3 in
    let c = parts (codes ".") (uid_pattern ++ (codes "." ++ (uid_pattern ++ codes "}"))) b.1 b.3 in
    let d = parts uid_pattern (codes "." ++ (uid_pattern ++ codes "}")) c.1 c.3 in
    let i = parts (codes ".") (uid_pattern ++ codes "}") d.1 d.3 in
    let j = parts uid_pattern (codes "}") i.1 i.3 in
    let e : word ≡ codes "#{" ++ (b.0 ++ (codes "." ++ (d.0 ++ (codes "." ++ (j.0 ++ codes "}"))))) =
    a.4 ∙ ap (λ (l : List ℕ). l ++ a.1) (fixed (codes "#{") a.0 refl a.2)
    ∙ ap (λ (l : List ℕ). codes "#{" ++ l) (b.4
    ∙ ap (λ (l : List ℕ). b.0 ++ l) (c.4 ∙ ap (λ (l : List ℕ). l ++ c.1) (fixed (codes ".") c.0 refl c.2)
    ∙ ap (λ (l : List ℕ). codes "." ++ l) (d.4
    ∙ ap (λ (l : List ℕ). d.0 ++ l) (i.4 ∙ ap (λ (l : List ℕ). l ++ i.1) (fixed (codes ".") i.0 refl i.2)
    ∙ ap (λ (l : List ℕ). codes "." ++ l) (j.4 ∙ ap (λ (l : List ℕ). j.0 ++ l) (fixed (codes "}") j.1 refl j.3)))))) in
    let end = codes "." ++ (j.0 ++ codes "}") in
    let f : codes "#{" ++ (b.0 ++ (codes "." ++ (d.0 ++ end))) ≡ (codes "#{" ++ (b.0 ++ codes ".")) ++ (d.0 ++ end) =
    ap (λ (l : List ℕ). codes "#{" ++ l) (sym (append_assoc b.0 (codes ".") (d.0 ++ end))) in
    let g : codes "#{" ++ (b.0 ++ (codes "." ++ (d.0 ++ end))) ≡ (codes "#{" ++ (b.0 ++ (codes "." ++ (d.0 ++ codes ".")))) ++ (j.0 ++ codes "}") =
    ap (λ (l : List ℕ). codes "#{" ++ l)
    (ap (λ (l : List ℕ). b.0 ++ (codes "." ++ l)) (sym (append_assoc d.0 (codes ".") (j.0 ++ codes "}")))
    ∙ sym (append_assoc b.0 (codes "." ++ (d.0 ++ codes ".")) (j.0 ++ codes "}"))) in (
      b.0,
      d.0,
      j.0,
      e,
      ap (uid_from 2) e ∙ uid_at 2 (codes "#{") b.0 (codes "." ++ (d.0 ++ end)) refl b.2,
      ap (uid_from 14) (e ∙ f) ∙ uid_at 14 (codes "#{" ++ (b.0 ++ codes ".")) d.0 end (second_at b.0 [] b.2) d.2,
      ap (uid_from 26) (e ∙ g) ∙ uid_at 26 (codes "#{" ++ (b.0 ++ (codes "." ++ (d.0 ++ codes ".")))) j.0 (codes "}") (third_at b.0 d.0 b.2 d.2) j.2,
    )

-- ---- the words of items

abbrev Names : ItemForm → List ℕ → Type 0
Names it word = (i : Item) × (item_from it word ≡ Some i) × (item_text i ≡ word)

none_more : (u back : List ℕ) → ((u ++ []) ++ []) ++ back ≡ u ++ back
none_more u back = ap (λ (l : List ℕ). l ++ back) (append-nil (u ++ []) ∙ append-nil u)

one_more : (u v back : List ℕ) → ((u ++ (codes "." ++ v)) ++ []) ++ back ≡ u ++ (codes "." ++ (v ++ back))
one_more u v back = ap (λ (l : List ℕ). l ++ back) (append-nil (u ++ (codes "." ++ v))) ∙ append_assoc u (codes "." ++ v) back

two_more : (u v w back : List ℕ) → ((u ++ (codes "." ++ v)) ++ (codes "." ++ w)) ++ back ≡ u ++ (codes "." ++ (v ++ (codes "." ++ (w ++ back))))
two_more u v w back =
    append_assoc (u ++ (codes "." ++ v)) (codes "." ++ w) back
    ∙ append_assoc u (codes "." ++ v) (codes "." ++ (w ++ back))

behind_dot : (u v back : List ℕ) → ((u ++ codes ".") ++ v) ++ back ≡ u ++ (codes "." ++ (v ++ back))
behind_dot u v back = append_assoc (u ++ codes ".") v back ∙ append_assoc u (codes ".") (v ++ back)

named : (it : ItemForm) (word : List ℕ) → IsWord (item_text_of it) word → Names it word
unfolding item_from item_text
named form.Element word h =
    let r = one (codes "#{") (codes "}") word refl refl h in (
      item.Element r.0 None None,
      ap (option_map (λ u. item.Element u None None)) r.2,
      ap (λ (l : List ℕ). codes "#{" ++ l) (none_more r.0 (codes "}"))
          ∙ sym r.1,
    )
named form.ElementCombo word h =
    let r = two word h in (
      item.Element r.0 (Some r.1) None,
      ap (option_and_then (λ u. option_map (λ v. item.Element u (Some v) None) (uid_from 14 word))) r.3
          ∙ ap (option_map (λ v. item.Element r.0 (Some v) None)) r.4,
      ap (λ (l : List ℕ). codes "#{" ++ l) (one_more r.0 r.1 (codes "}")) ∙ sym r.2,
    )
named form.ElementCombos word h =
    let r = three word h in (
      item.Element r.0 (Some r.1) (Some r.2),
      ap (option_and_then (λ u. option_and_then (λ v. option_map (λ w. item.Element u (Some v) (Some w)) (uid_from 26 word)) (uid_from 14 word))) r.4
          ∙ ap (option_and_then (λ v. option_map (λ w. item.Element r.0 (Some v) (Some w)) (uid_from 26 word))) r.5
          ∙ ap (option_map (λ w. item.Element r.0 (Some r.1) (Some w))) r.6,
      ap (λ (l : List ℕ). codes "#{" ++ l) (two_more r.0 r.1 r.2 (codes "}")) ∙ sym r.3,
    )
named form.Constant word h =
    let r = one (codes "C{") (codes "}") word refl refl h in
    (item.Constant r.0, ap (option_map (λ u. item.Constant u)) r.2, sym r.1)
named form.Group word h =
    let r = one (codes "OUG{") (codes "}") word refl refl h in
    (item.Group r.0, ap (option_map (λ u. item.Group u)) r.2, sym r.1)
named form.Days word h = (item.Days, refl, sym (fixed (codes "[days]") word refl h))
named (form.Rate rates.Expected) word h =
    let r = one (codes "R{") (codes ".EXPECTED_REPORTS}") word refl refl h in (
      item.Rate r.0 rates.Expected,
      ap (option_map (λ u. item.Rate u rates.Expected)) r.2,
      ap (λ (l : List ℕ). codes "R{" ++ l) (behind_dot r.0 (codes "EXPECTED_REPORTS") (codes "}")) ∙ sym r.1,
    )
named (form.Rate rates.Actual) word h =
    let r = one (codes "R{") (codes ".ACTUAL_REPORTS}") word refl refl h in (
      item.Rate r.0 rates.Actual,
      ap (option_map (λ u. item.Rate u rates.Actual)) r.2,
      ap (λ (l : List ℕ). codes "R{" ++ l) (behind_dot r.0 (codes "ACTUAL_REPORTS") (codes "}")) ∙ sym r.1,
    )
named (form.Rate rates.OnTime) word h =
    let r = one (codes "R{") (codes ".ACTUAL_REPORTS_ON_TIME}") word refl refl h in (
      item.Rate r.0 rates.OnTime,
      ap (option_map (λ u. item.Rate u rates.OnTime)) r.2,
      ap (λ (l : List ℕ). codes "R{" ++ l) (behind_dot r.0 (codes "ACTUAL_REPORTS_ON_TIME") (codes "}")) ∙ sym r.1,
    )
named (form.Rate rates.Reported) word h =
    let r = one (codes "R{") (codes ".REPORTING_RATE}") word refl refl h in (
      item.Rate r.0 rates.Reported,
      ap (option_map (λ u. item.Rate u rates.Reported)) r.2,
      ap (λ (l : List ℕ). codes "R{" ++ l) (behind_dot r.0 (codes "REPORTING_RATE") (codes "}")) ∙ sym r.1,
    )
named (form.Rate rates.ReportedOnTime) word h =
    let r = one (codes "R{") (codes ".REPORTING_RATE_ON_TIME}") word refl refl h in (
      item.Rate r.0 rates.ReportedOnTime,
      ap (option_map (λ u. item.Rate u rates.ReportedOnTime)) r.2,
      ap (λ (l : List ℕ). codes "R{" ++ l) (behind_dot r.0 (codes "REPORTING_RATE_ON_TIME") (codes "}")) ∙ sym r.1,
    )
named form.StageElement word h =
    let r = two word h in (
      item.StageElement r.0 r.1,
      ap (option_and_then (λ u. option_map (λ v. item.StageElement u v) (uid_from 14 word))) r.3
          ∙ ap (option_map (λ v. item.StageElement r.0 v)) r.4,
      ap (λ (l : List ℕ). codes "#{" ++ l) (behind_dot r.0 r.1 (codes "}")) ∙ sym r.2,
    )
named form.Attribute word h =
    let r = one (codes "A{") (codes "}") word refl refl h in
    (item.Attribute r.0, ap (option_map (λ u. item.Attribute u)) r.2, sym r.1)
named form.EventDate word h = (item.EventDate, refl, sym (fixed (codes "V{event_date}") word refl h))
named form.EnrollmentDate word h = (item.EnrollmentDate, refl, sym (fixed (codes "V{enrollment_date}") word refl h))
named form.EventCount word h = (item.EventCount, refl, sym (fixed (codes "V{event_count}") word refl h))
named form.EnrollmentCount word h = (item.EnrollmentCount, refl, sym (fixed (codes "V{enrollment_count}") word refl h))
named form.EntityCount word h = (item.EntityCount, refl, sym (fixed (codes "V{tei_count}") word refl h))

leaf_by : (t : Bool) (days : List (List ℕ)) (i : Item) → is_day_of days i ≡ t → leaf_text (leaf_from days i) ≡ item_text i
leaf_by true days i e = rw e refl
leaf_by false days i e = rw e refl

-- a word that names an item is what is printed of the item
pub item_written : (days : List (List ℕ)) (it : ItemForm) (word : List ℕ) → IsWord (text_of (symbol.Item it)) word
    → leaf_text (item_leaf days (item_from it word)) ≡ word
unfolding text_of
item_written days it word h =
    let r = named it word h in
    ap (λ i. leaf_text (item_leaf days i)) r.1 ∙ leaf_by (is_day_of days r.0) days r.0 refl ∙ r.2
