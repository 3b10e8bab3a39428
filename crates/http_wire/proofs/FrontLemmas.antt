-- Bytes that were moved to the front, and empty lines that were skipped as the bytes came.
use Rattle.std.proofs.Common.{◌≡◌, ◌∙◌, ℕ, ◌+◌, ◌-◌, ◌<◌, ◌≤◌, List, length, get_or, drop, take, sym, arith}
use Rattle.std.proofs.Common.{[], ◌++◌, ◌⊎◌, inl, inr, Option, subst, refl, ap, append-nil, append_assoc, length-append, true, false, Result, Err}
use Rattle.std.proofs.KnownBytes.{Consumes-nil, Consumes-trans}
use Rattle.dh_outside.specs.Faults.{Rose}
use Rattle.dh_outside.specs.Pieces.{Gains}
use Rattle.dh_outside.specs.Talk.{Talk}
use Rattle.dh_outside.proofs.TalkLemmas.{paced_none, paced_on, paced_one}
use Rattle.http_wire.specs.Lines.{blank_length, opening_of, IsPassed}
use Rattle.http_wire.specs.declared.lines.Opening.{Opening}
use Rattle.http_wire.specs.declared.lines.Opening.TheVariants.{Nothing, Unfinished, TooLong, Whole}
use Rattle.http_wire.specs.declared.fault.WireFault.{WireFault}
use Rattle.http_wire.specs.declared.fault.WireFault.TheVariants as fault
use Rattle.http_wire.specs.Next.{Found, ended, cut, beyond, IsFoundBy, IsFirst, skipped, IsNext, IsOpen}
use Rattle.http_wire.specs.Reads.{Gathers, Skims, Opens, is_settled, judged}
use Rattle.http_wire.proofs.OpeningLaws.{skip_on, skip_twice, blank_skipped, opening_nothing, passed_more, passed_none}
use Rattle.std.proofs.lemmas.List.{get_or-take, get_or-drop, ext_get_or, length-take, length-drop}

pub moved_all : (old new : List ℕ) (from : ℕ) → from ≤ length old → length new ≡ length old
    → ((k : ℕ) → k < length old - from → get_or new k 0 ≡ get_or old (from + k) 0) → take (length old - from) new ≡ drop from old
moved_all old new from within len at =
    let front = length-take (length old - from) new in
    let rest = length-drop from old in
    ext_get_or 0 (take (length old - from) new) (drop from old) (omega arith)
    (λ i h. (let below : i < length old - from = omega arith in get_or-take (length old - from) new i 0 below ∙ at i below ∙ sym (get_or-drop from old i 0)))

-- ---- what was taken

pub gathers_none : (Open : List ℕ → Type 0) (left : Option (List ℕ)) (talk : Option Talk) (held : List ℕ) (read : ℕ)
    → Gathers Open left left talk talk held held read read
gathers_none Open left talk held read = record {
  taken = [];
  consumed = Consumes-nil left;
  beyond = sym (append-nil held);
  counted = omega arith;
  paced = paced_none talk Open held;
}

-- one more piece, asked for while the bytes held were open
pub gathers_on : {Open : List ℕ → Type 0} {left left' left'' : Option (List ℕ)} {talk talk' talk'' : Option Talk} {held held' held'' : List ℕ}
    {read read' read'' : ℕ}
    → Gathers Open left left' talk talk' held held' read read' → Open held' → Gains left' left'' talk' talk'' held' held'' read' read''
    → Gathers Open left left'' talk talk'' held held'' read read''
gathers_on {Open} {left} {left'} {left''} {talk} {talk'} {talk''} {held} {held'} {held''} {read} {read'} {read''} first is second = record {
  taken = first.taken ++ second.taken;
  consumed = Consumes-trans left left' left'' first.taken second.taken first.consumed second.consumed;
  beyond = second.beyond ∙ ap (λ xs. xs ++ second.taken) first.beyond ∙ append_assoc held first.taken second.taken;
  counted = (let sum = length-append first.taken second.taken in omega (arith, first.counted, second.counted));
  paced = paced_on talk talk' talk'' Open held first.taken second.taken first.paced
      (paced_one talk' talk'' Open (held ++ first.taken) second.taken (subst Open first.beyond is) second.hears);
}

pub skip_zero : (b : List ℕ) → blank_length b ≡ 0 → skipped b ≡ b
skip_zero b none = ap (λ n. drop n b) none

pub next_by : (all front : List ℕ) (first : Found) → front ≡ skipped all → IsFirst front first → IsNext all (beyond (blank_length all) first)
next_by all front first at is = (first, subst (λ xs. IsFirst xs first) at is, refl)

-- bytes are open where no head is found at their front
pub open_by : (all front : List ℕ) → front ≡ skipped all → (opening_of front ≡ Nothing) ⊎ (opening_of front ≡ Unfinished) → IsOpen all
open_by all front at (inl nothing) = inl (next_by all front ended at (subst (λ o. IsFoundBy o front ended) (sym nothing) refl))
open_by all front at (inr still) = inr (next_by all front cut at (subst (λ o. IsFoundBy o front cut) (sym still) refl))

pub skims_none : (left : Option (List ℕ)) (talk : Option Talk) (held : List ℕ) (read : ℕ) → Skims left left talk talk held held read read
skims_none left talk held read = record {
  taken = [];
  consumed = Consumes-nil left;
  same = sym (ap skipped (append-nil held));
  counted = omega arith;
  paced = paced_none talk IsOpen held;
}

pub skims_skipped : {left left' : Option (List ℕ)} {talk talk' : Option Talk} {held held' : List ℕ} {read read' : ℕ} (held'' : List ℕ)
    → Skims left left' talk talk' held held' read read' → held'' ≡ skipped held' → Skims left left' talk talk' held held'' read read'
skims_skipped {held' = held'} held'' skims at = record {
  taken = skims.taken;
  consumed = skims.consumed;
  same = ap skipped at ∙ skip_twice held' ∙ skims.same;
  counted = skims.counted;
  paced = skims.paced;
}

pub skims_more : {left left' left'' : Option (List ℕ)} {talk talk' talk'' : Option Talk} {held held' held'' : List ℕ} {read read' read'' : ℕ}
    → Skims left left' talk talk' held held' read read' → blank_length held' ≡ 0 → (opening_of held' ≡ Nothing) ⊎ (opening_of held' ≡ Unfinished)
    → Gains left' left'' talk' talk'' held' held'' read' read'' → Skims left left'' talk talk'' held held'' read read''
skims_more {left} {left'} {left''} {talk} {talk'} {talk''} {held} {held'} {held''} {read} {read'} {read''} skims front opening gains = record {
  taken = skims.taken ++ gains.taken;
  consumed = Consumes-trans left left' left'' skims.taken gains.taken skims.consumed gains.consumed;
  same = ap skipped gains.beyond ∙ skip_on held' gains.taken ∙ ap (λ xs. skipped (xs ++ gains.taken)) skims.same
      ∙ sym (skip_on (held ++ skims.taken) gains.taken) ∙ ap skipped (append_assoc held skims.taken gains.taken);
  counted = (let sum = length-append skims.taken gains.taken in omega (arith, skims.counted, gains.counted));
  paced = paced_on talk talk' talk'' IsOpen held skims.taken gains.taken skims.paced
      (paced_one talk' talk'' IsOpen (held ++ skims.taken) gains.taken
      (open_by (held ++ skims.taken) held' (sym (skip_zero held' front) ∙ skims.same) opening) gains.hears);
}

-- more bytes may change what stands at the front
pub may_change : (held : List ℕ) (opening : Opening) → opening ≡ opening_of held → is_settled opening ≡ false
    → (opening_of held ≡ Nothing) ⊎ (opening_of held ≡ Unfinished)
may_change held Nothing at still = inl (sym at)
may_change held Unfinished at still = inr (sym at)
may_change held TooLong at still = absurd (cc)
may_change held (Whole end) at still = absurd (cc)

-- what stands at the front is answered
pub opens_settled : (held : List ℕ) (Spent : Type 0) (opening : Opening) (answer : Result (Option ℕ) WireFault) → answer ≡ judged opening
    → opening ≡ opening_of held → is_settled opening ≡ true → Opens held Spent answer
opens_settled held Spent Nothing answer is at settled = absurd (cc)
opens_settled held Spent Unfinished answer is at settled = absurd (cc)
opens_settled held Spent TooLong answer is at settled = subst (λ a. Opens held Spent a) (sym is) (sym at, refl)
opens_settled held Spent (Whole end) answer is at settled = subst (λ a. Opens held Spent a) (sym is) (sym at)

pub opens_spent : (held : List ℕ) (Spent : Type 0) (opening : Opening) (answer : Result (Option ℕ) WireFault) → answer ≡ judged opening
    → opening ≡ opening_of held → Spent → Opens held Spent answer
opens_spent held Spent Nothing answer is at spent = subst (λ a. Opens held Spent a) (sym is) (sym at, spent)
opens_spent held Spent Unfinished answer is at spent = subst (λ a. Opens held Spent a) (sym is) (sym at, spent)
opens_spent held Spent TooLong answer is at spent = subst (λ a. Opens held Spent a) (sym is) (sym at, refl)
opens_spent held Spent (Whole end) answer is at spent = subst (λ a. Opens held Spent a) (sym is) (sym at)

-- no more bytes came, and the source isn't over
pub opens_stopped : (held held' : List ℕ) (Spent : Type 0) (e : WireFault) → held' ≡ held → (opening_of held ≡ Nothing) ⊎ (opening_of held ≡ Unfinished)
    → (e ≡ fault.ReadFault) ⊎ (e ≡ fault.Memory) → Opens held' Spent (Err e)
opens_stopped held held' Spent e same still (inl failed) = subst (λ x. Opens held' Spent (Err x)) (sym failed)
    (subst (λ xs. (opening_of xs ≡ Nothing) ⊎ (opening_of xs ≡ Unfinished)) (sym same) still)
opens_stopped held held' Spent e same still (inr memory) = subst (λ x. Opens held' Spent (Err x)) (sym memory) tt

-- no opening is a failed read
pub judged_no_fault : (opening : Opening) (answer : Result (Option ℕ) WireFault) → answer ≡ judged opening → answer ≡ Err fault.ReadFault → ⊥
judged_no_fault Nothing answer is failed = cc
judged_no_fault Unfinished answer is failed = cc
judged_no_fault TooLong answer is failed = cc
judged_no_fault (Whole end) answer is failed = cc

-- the same fault, of another value
pub fault_of : {A : Type 0} {r : Result A WireFault} (e : WireFault) → r ≡ Err e → r ≡ Err fault.ReadFault → e ≡ fault.ReadFault
fault_of e is failed = cc

-- a count that rose later
pub rose_after : (a b c : ℕ) → a ≤ b → Rose b c → Rose a c
rose_after a b c kept (inl rose) = inl (omega arith)
rose_after a b c kept (inr most) = inr most

pub front_skipped : (held held' : List ℕ) → held' ≡ skipped held → blank_length held' ≡ 0
front_skipped held held' at = ap blank_length at ∙ blank_skipped held

pub front_same : (held held' held'' : List ℕ) → held' ≡ skipped held → held'' ≡ held' → blank_length held'' ≡ 0
front_same held held' held'' at same = ap blank_length same ∙ front_skipped held held' at

-- what was looked at need not be looked at again
pub passed_on : (held held' taken : List ℕ) (from : ℕ) → (opening_of held ≡ Nothing) ⊎ (opening_of held ≡ Unfinished) → from ≡ length held - 2
    → held' ≡ held ++ taken → IsPassed held' from
passed_on held held' taken from (inl none) at more =
    let nothing : from ≡ 0 = (let empty = ap length (opening_nothing held none) in omega arith) in
    subst (λ n. IsPassed held' n) (sym nothing) (passed_none held')
passed_on held held' taken from (inr still) at more =
    subst (λ n. IsPassed held' n) (sym at) (subst (λ xs. IsPassed xs (length held - 2)) (sym more) (passed_more held taken still))
