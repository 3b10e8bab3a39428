-- How the links stand once no more come, and once one more of them is given back.
use Rattle.std.proofs.Common.{◌≡◌, ◌≤◌, ◌+◌, ◌∙◌, ◌∷◌, ◌++◌, ◌||◌, ℕ, Bool, true, false, List, [], Option, None, Some, IfSome, Result, Ok}
use Rattle.std.proofs.Common.{refl, sym, ap, subst, arith, append_assoc, length-append, le_trans}
use Rattle.std.specs.List.{AllZip}
use Rattle.std.specs.Option.{option_map}
use Rattle.net_doors.specs.Doors.{Shown, Accepts, links_in, with_back}
use Rattle.net_doors.specs.declared.ending.Ending.{Ending}
use Rattle.net_doors.specs.declared.ending.Ending.TheVariants as ending
use Rattle.net_doors.specs.Serving.{Serving, EndsBy}

told_on : {N : Type 0} (links : Option (List N)) (back : List N) (link : N)
    → option_map (λ all. all ++ link ∷ []) (option_map (λ all. all ++ back) links) ≡ option_map (λ all. all ++ (back ++ link ∷ [])) links
told_on None back link = refl
told_on (Some links) back link = ap Some (append_assoc links back (link ∷ []))

one_more : {A B : Type 0} (R : A → B → Type 0) (xs : List A) (ys : List B) (x : A) (y : B) → AllZip R xs ys → R x y
    → AllZip R (xs ++ x ∷ []) (ys ++ y ∷ [])
one_more R [] [] x y all is = (is, tt)
one_more R [] (b ∷ ys) x y all is = absurd all
one_more R (a ∷ xs) [] x y all is = absurd all
one_more R (a ∷ xs) (b ∷ ys) x y all is = (all.0, one_more R xs ys x y all.1 is)

-- a link that was served is given back, with what this left
pub given_back : {N P : Type 0} (Served : N → P → Type 0) (began now new : Shown N) (most count out less : ℕ) (lefts : List P) (link : N)
    (left : P) → Serving Served began now most count out lefts → less + 1 ≡ out → Served link left → new ≡ with_back now link
    → Serving Served began new most count less (lefts ++ left ∷ [])
given_back Served began now new most count out less lefts link left was one served is = record {
  back = was.back ++ link ∷ [];
  counted = let c = was.counted in let l = length-append was.back (link ∷ []) in omega arith;
  accepted = ap (λ s. s.accepted) is ∙ was.accepted;
  told = ap (λ s. s.back) is ∙ (ap (λ o. option_map (λ all. all ++ link ∷ []) o) was.told ∙ told_on began.back was.back link);
  served = one_more Served was.back lefts link left was.served served;
  bound = was.bound;
  faults = subst (λ (n : ℕ). began.faults ≤ n) (sym (ap (λ s. s.faults) is)) was.faults;
}

end_kept : {N : Type 0} (how : Ending) (began now : Shown N) (most count : ℕ) (link : N) → EndsBy how began now most count
    → EndsBy how began (with_back now link) most count
end_kept ending.Enough began now most count link ends = ends
end_kept ending.Closed began now most count link ends = ends
end_kept ending.ListenFault began now most count link ends = ends

-- how accepting ended stays as it is
pub ends_kept : {N : Type 0} (how : Option Ending) (began now new : Shown N) (most count : ℕ) (link : N)
    → IfSome how (λ h. EndsBy h began now most count) → new ≡ with_back now link → IfSome how (λ h. EndsBy h began new most count)
ends_kept None began now new most count link ends is = tt
ends_kept {N} (Some how) began now new most count link ends is =
    subst (λ (s : Shown N). EndsBy how began s most count) (sym is) (end_kept how began now most count link ends)

-- no link came
pub still_served : {N P E : Type 0} {Served : N → P → Type 0} {began now new : Shown N} {most count out : ℕ} {lefts : List P} {answer : Result (Option N) E}
    → links_in answer ≡ 0 → Serving Served began now most count out lefts → Accepts now new answer → Serving Served began new most count out lefts
still_served none was accepts = record {
  back = was.back;
  counted = was.counted;
  accepted = let a = accepts.accepted in let b = was.accepted in omega arith;
  told = accepts.back ∙ was.told;
  served = was.served;
  bound = was.bound;
  faults = le_trans was.faults accepts.faults;
}

or_true : (b : Bool) → (b || true) ≡ true
or_true true = refl
or_true false = refl

-- the listener told that no more links come
pub is_closed : {N E : Type 0} {now new : Shown N} {found : Option N} → found ≡ None → Accepts {N = N} {E = E} now new (Ok found) → new.closed ≡ true
is_closed {N} {E} {now} {new} none accepts =
    let is = subst (λ (f : Option N). Accepts {N = N} {E = E} now new (Ok f)) none accepts in is.closed ∙ or_true now.closed
