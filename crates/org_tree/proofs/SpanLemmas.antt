-- The part of the list by families where a unit's children stand.
use Rattle.std.proofs.Common.{◌≡◌, ℕ, ◌+◌, ◌-◌, ◌<◌, true, cond, ◌==◌, List, length, get_or, take, drop, set, Some, sym, ap, ◌∙◌, subst, inl, inr}
use Rattle.std.proofs.Common.{arith, get_or-set_same, get_or-set_other}
use Rattle.std.specs.Prelude.{Contains, option_and_then}
use Rattle.std.specs.Ordering.{nat_cmp, is_lt}
use Rattle.std.proofs.lemmas.Bool.{cases_eq, cases_lt, eq-eqb, ne_eqb}
use Rattle.std.proofs.lemmas.List.{length-set, length-take, length-drop, get_or-take, get_or-drop, get_or_default}
use Rattle.std.proofs.lemmas.Option.{slice_get_past}
use Rattle.std.specs.Cmp.Lexicographic.{slice_cmp}
use Rattle.org_tree.specs.Units.{UnitRow, id_at, parent_of, IsTree}
use Rattle.org_tree.specs.Families.{InFamilies, Spans, AreSpans, AreChildren}
use Rattle.org_tree.proofs.KinLemmas.{sibling_keys, same_family_between, parent_from_keys, StandsBefore-from_Less}

pub span-other : (us : List UnitRow) (kin : List ℕ) (i x first end : ℕ) → ¬ (parent_of us (get_or kin i 0) ≡ Some x) → Spans us kin i x first end
    → Spans us kin (i + 1) x first end
span-other us kin i x first end other span = record {
  end_in_range = let e = span.end_in_range in omega arith;
  first_in_range = span.first_in_range;
  inside = span.inside;
  outside = λ j h up.
      elim (cases_eq j i) [
        | inl last ↦ absurd (other (subst (λ (k : ℕ). parent_of us (get_or kin k 0) ≡ Some x) last up))
        | inr before ↦ span.outside j (omega arith) up
      ];
}

pub span-first : (us : List UnitRow) (kin : List ℕ) (i x first end : ℕ) → parent_of us (get_or kin i 0) ≡ Some x → first ≡ end → Spans us kin i x first end
    → Spans us kin (i + 1) x i (i + 1)
span-first us kin i x first end up empty span = record {
  end_in_range = omega arith;
  first_in_range = omega arith;
  inside = λ j l h. (let same : i ≡ j = omega arith in subst (λ (k : ℕ). parent_of us (get_or kin k 0) ≡ Some x) same up);
  outside = λ j h up_j.
      elim (cases_eq j i) [
        | inl last ↦ (omega arith, omega arith)
        | inr before ↦ absurd (let lies = span.outside j (omega arith) up_j in omega arith)
      ];
}

pub span-more : (us : List UnitRow) (kin : List ℕ) → IsTree us → InFamilies us kin → (i x first end : ℕ) → i < length us
    → parent_of us (get_or kin i 0) ≡ Some x → ¬ (first ≡ end) → Spans us kin i x first end → Spans us kin (i + 1) x first (i + 1)
span-more us kin t fam i x first end h up some span = record {
  end_in_range = omega arith;
  first_in_range = let e = span.first_in_range in let f = span.end_in_range in omega arith;
  inside = λ j l k.
      elim (cases_eq j i) [
        | inl last ↦ subst (λ (v : ℕ). parent_of us (get_or kin v 0) ≡ Some x) (sym last) up
        | inr before ↦ span.inside j l (let e = reaches in omega arith)
      ];
  outside = λ j l up_j.
      elim (cases_eq j i) [
        | inl last ↦ (let e = span.first_in_range in let f = span.end_in_range in (omega arith, omega arith))
        | inr before ↦ (let lies = span.outside j (omega arith) up_j in (lies.0, omega arith))
      ];
}
  where
    -- between two children of x stands a child of x, so the span has no gap
    reaches : end ≡ i
    reaches =
        elim (cases_lt end i) [
          | inr past ↦ (let e = span.end_in_range in omega arith)
          | inl gap ↦
              let f = span.first_in_range in
              let a = get_or kin first 0 in
              let b = get_or kin end 0 in
              let c = get_or kin i 0 in
              let up_a : parent_of us a ≡ Some x = span.inside first (omega arith) (omega arith) in
              let keys = sibling_keys us t a c x (fam.in_range first (omega arith)) (fam.in_range i h) up_a up in
              let between = same_family_between us a b c (fam.sorted first end (omega arith) (omega arith)) (fam.sorted end i gap h) keys.0 keys.1 in
              let up_b : parent_of us b ≡ Some x = parent_from_keys us t b c x (fam.in_range end (omega arith)) (fam.in_range i h) up between.0 between.1 in
              absurd (let lies = span.outside end gap up_b in omega arith)
        ]

-- the spans when the next unit of the list is a child of the unit above
pub AreSpans-more : (us : List UnitRow) (kin : List ℕ) (spans : List (ℕ × ℕ)) (i above : ℕ) (span : ℕ × ℕ) → IsTree us → InFamilies us kin → i < length us
    → above < length us → parent_of us (get_or kin i 0) ≡ Some above → span.1 ≡ i + 1
    → span.0 ≡ cond ((get_or spans above (0, 0)).0 == (get_or spans above (0, 0)).1) i (get_or spans above (0, 0)).0 → AreSpans us kin i spans
    → AreSpans us kin (i + 1) (set spans above span)
AreSpans-more us kin spans i above span t fam h inside up end first so_far = record {
  same_length = length-set spans above span ∙ so_far.same_length;
  each = λ x l.
      elim (cases_eq x above) [
        | inl same ↦
            subst (λ (v : ℕ). Spans us kin (i + 1) v (get_or (set spans above span) v (0, 0)).0 (get_or (set spans above span) v (0, 0)).1) (sym same)
            (subst (λ (s : ℕ × ℕ). Spans us kin (i + 1) above s.0 s.1)
            (sym (get_or-set_same spans above span (0, 0) (let e = so_far.same_length in omega arith))) here)
        | inr other ↦
            subst (λ (s : ℕ × ℕ). Spans us kin (i + 1) x s.0 s.1) (sym (get_or-set_other spans above x span (0, 0) other))
            (span-other us kin i x _ _ (λ up_x. other (let e : Some x ≡ Some above = sym up_x ∙ up in cc)) (so_far.each x l))
      ];
}
  where
    before : ℕ × ℕ
    before = get_or spans above (0, 0)

    here : Spans us kin (i + 1) above span.0 span.1
    here =
        elim (cases_eq (get_or spans above (0, 0)).0 (get_or spans above (0, 0)).1) [
          | inl empty ↦
              let at : span.0 ≡ i = first ∙ ap (λ b. cond b i (get_or spans above (0, 0)).0) (eq-eqb _ _ empty) in
              subst (λ (v : ℕ). Spans us kin (i + 1) above v span.1) (sym at)
              (subst (λ (v : ℕ). Spans us kin (i + 1) above i v) (sym end) (span-first us kin i above _ _ up empty (so_far.each above inside)))
          | inr some ↦
              let at : span.0 ≡ (get_or spans above (0, 0)).0 = first ∙ ap (λ b. cond b i (get_or spans above (0, 0)).0) (ne_eqb _ _ some) in
              subst (λ (v : ℕ). Spans us kin (i + 1) above v span.1) (sym at)
              (subst (λ (v : ℕ). Spans us kin (i + 1) above (get_or spans above (0, 0)).0 v) (sym end)
              (span-more us kin t fam i above _ _ h up some (so_far.each above inside)))
        ]

-- what stands in a unit's span are its children
pub children_in_span : (us : List UnitRow) (kin : List ℕ) → IsTree us → InFamilies us kin → (x first end : ℕ) → Spans us kin (length us) x first end
    → AreChildren us x (take (end - first) (drop first kin))
children_in_span us kin t fam x first end span = record {
  members = λ z. (child z, member z);
  ascending = λ i j l h.
      (let len = lengths in
      let read_i = reads i (omega arith) in
      let read_j = reads j (omega arith) in
      subst (λ (v : ℕ). is_lt (slice_cmp nat_cmp (id_at us v) (id_at us (get_or (take (end - first) (drop first kin)) j 0))) ≡ true) (sym read_i)
      (subst (λ (v : ℕ). is_lt (slice_cmp nat_cmp (id_at us (get_or kin (first + i) 0)) (id_at us v)) ≡ true) (sym read_j)
      (elder i j l (omega arith))));
}
  where
    lengths : length (take (end - first) (drop first kin)) ≡ end - first
    lengths =
        let a = length-take (end - first) (drop first kin) in
        let b = length-drop first kin in
        let c = fam.same_length in
        let d = span.end_in_range in
        omega arith

    reads : (i : ℕ) → i < end - first → get_or (take (end - first) (drop first kin)) i 0 ≡ get_or kin (first + i) 0
    reads i h = get_or-take (end - first) (drop first kin) i 0 h ∙ get_or-drop first kin i 0

    child : (z : ℕ) → Contains (take (end - first) (drop first kin)) z → parent_of us z ≡ Some x
    child z at =
        let in_list : at.0 < length (take (end - first) (drop first kin)) = at.1 in
        let len = lengths in
        let here : get_or kin (first + at.0) 0 ≡ z =
        sym (reads at.0 (omega arith)) ∙ get_or_default (take (end - first) (drop first kin)) at.0 0 z at.1 ∙ at.2 in
        subst (λ (v : ℕ). parent_of us v ≡ Some x) here (span.inside (first + at.0) (omega arith) (omega arith))

    member : (z : ℕ) → parent_of us z ≡ Some x → Contains (take (end - first) (drop first kin)) z
    member z up =
        elim (cases_lt z (length us)) [
          | inr past ↦ absurd (let e = ap (option_and_then (λ (u : UnitRow). u.1)) (slice_get_past us z past) in cc)
          | inl h ↦
              let at = fam.found z h in
              let lies = span.outside at.0 at.1.0 (subst (λ (v : ℕ). parent_of us v ≡ Some x) (sym at.1.1) up) in
              let k = at.0 - first in
              let len = lengths in
              let in_list : at.0 - first < length (take (end - first) (drop first kin)) = let l = lies.1 in let f = lies.0 in omega arith in
              let place : first + (at.0 - first) ≡ at.0 = let f = lies.0 in omega arith in (
                at.0 - first,
                in_list,
                sym (get_or_default (take (end - first) (drop first kin)) (at.0 - first) 0 z in_list)
                    ∙ reads (at.0 - first) (let l = lies.1 in let f = lies.0 in omega arith) ∙ ap (λ (v : ℕ). get_or kin v 0) place ∙ at.1.1,
              )
        ]

    elder : (i j : ℕ) → i < j → j < end - first → is_lt (slice_cmp nat_cmp (id_at us (get_or kin (first + i) 0)) (id_at us (get_or kin (first + j) 0))) ≡ true
    elder i j l h =
        let a = get_or kin (first + i) 0 in
        let b = get_or kin (first + j) 0 in
        let e = span.end_in_range in
        let up_a = span.inside (first + i) (omega arith) (omega arith) in
        let up_b = span.inside (first + j) (omega arith) (omega arith) in
        let keys = sibling_keys us t a b x (fam.in_range (first + i) (omega arith)) (fam.in_range (first + j) (omega arith)) up_a up_b in
        elim (StandsBefore-from_Less us a b (fam.sorted (first + i) (first + j) (omega arith) (omega arith))) [
          | inl low ↦ absurd (let k = keys.0 in omega arith)
          | inr same ↦
              elim same.1 [
                | inl low ↦ absurd (let k = keys.1 in omega arith)
                | inr both ↦ ap is_lt both.1
              ]
        ]
