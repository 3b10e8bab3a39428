-- What the workers and the lender of passes leave is what a server over one history promises.
use Rattle.std.proofs.Common.{◌≡◌, ◌+◌, ℕ, zero, suc, ◌<◌, ◌≢◌, List, [], ◌∷◌, length, map, refl, sym, ap, subst, arith}
use Rattle.std.specs.Prelude.{All, Any}
use Rattle.std.specs.List.{AllZip}
use Rattle.std.proofs.lemmas.List.{length-map}
use Rattle.std.proofs.lemmas.List.Elements.{All-nil, All-cons, All-head, All-tail, All-weaker}
use mathlib.Core.List.{IsPrefix}
use Rattle.net_doors.specs.Doors.{Shown}
use Rattle.net_doors.specs.Serving.{HasServed}
use Rattle.net_doors.specs.declared.ending.Ending.{Ending}
use Rattle.shared_engine.specs.Entries.{Entry, caller_of}
use Rattle.shared_engine.specs.Histories.{Made, IsLegal}
use Rattle.shared_engine.specs.Views.{AreApart, Settled, TokenView, known_of, own}
use Rattle.shared_engine.specs.declared.views.Known.{Known}
use Rattle.shared_engine.proofs.ApartLemmas.{theirs}
use Rattle.shared_server.specs.Links.{Answers, ServesBy}
use Rattle.shared_server.proofs.UnseenLemmas.{unseen}

-- ---- two lists, place by place

zip_weaker : {A B : Type 0} (R S : A → B → Type 0) → ((x : A) (y : B) → R x y → S x y) → (xs : List A) (ys : List B) → AllZip R xs ys → AllZip S xs ys
zip_weaker R S to [] [] all = tt
zip_weaker R S to [] (y ∷ ys) all = absurd all
zip_weaker R S to (x ∷ xs) [] all = absurd all
zip_weaker R S to (x ∷ xs) (y ∷ ys) all = (to x y all.0, zip_weaker R S to xs ys all.1)

zip_length : {A B : Type 0} (R : A → B → Type 0) (xs : List A) (ys : List B) → AllZip R xs ys → length xs ≡ length ys
zip_length R [] [] all = refl
zip_length R [] (y ∷ ys) all = absurd all
zip_length R (x ∷ xs) [] all = absurd all
zip_length R (x ∷ xs) (y ∷ ys) all = ap suc (zip_length R xs ys all.1)

-- the same links are served, and less is said of each
pub served_so : {N P : Type 0} (R S : N → P → Type 0) (before after : Shown N) (most count : ℕ) (how : Ending) (lefts : List P)
    → ((link : N) (left : P) → R link left → S link left) → HasServed R before after most count how lefts → HasServed S before after most count how lefts
served_so R S before after most count how lefts to was = record {
  links = record {
    back = was.links.back;
    counted = was.links.counted;
    accepted = was.links.accepted;
    told = was.links.told;
    served = zip_weaker R S to was.links.back lefts was.links.served;
    bound = was.links.bound;
    faults = was.links.faults;
  };
  ends = was.ends;
}

-- as many came back as links were accepted
came_back : {N P : Type 0} (R : N → P → Type 0) (before after : Shown N) (most count : ℕ) (how : Ending) (lefts : List P)
    → HasServed R before after most count how lefts → length lefts ≡ count
came_back R before after most count how lefts was =
    let same = zip_length R was.links.back lefts was.links.served in let counted = was.links.counted in omega arith

-- ---- the list that was mapped

all_map : {A B : Type 0} (f : A → B) (P : B → Type 0) (xs : List A) → All P (map f xs) → All (λ x. P (f x)) xs
all_map f P [] all = All-nil (λ x. P (f x))
all_map f P (x ∷ xs) all = All-cons (λ y. P (f y)) x xs (All-head P (f x) (map f xs) all) (all_map f P xs (All-tail P (f x) (map f xs) all))

any_map : {A B : Type 0} (f : A → B) (P : B → Type 0) (xs : List A) → Any P (map f xs) → Any (λ x. P (f x)) xs
any_map f P [] some = absurd (omega (arith, some.2))
any_map f P (x ∷ xs) (zero, y, within, at, is) = (zero, x, omega arith, refl, subst P (sym at) is)
any_map f P (x ∷ xs) (suc k, y, within, at, is) =
    let rest = any_map f P xs (k, y, omega arith, at, is) in (suc rest.0, rest.1, omega (arith, rest.2), rest.3, rest.4)

map_twice : {A B C : Type 0} (f : A → B) (g : B → C) (xs : List A) → map g (map f xs) ≡ map (λ x. g (f x)) xs
map_twice f g [] = refl
map_twice f g (x ∷ xs) = ap (λ l. g (f x) ∷ l) (map_twice f g xs)

-- ---- one history

-- A pass was handed out for each link that was accepted, and all of them came back: so the history is that of the links' callers alone.
pub serves_by : {N : Type 0} (U : N → Type 0) (A : Made → TokenView Entry → N → N → Type 0) (before after : Shown N) (made : Made) (most count : ℕ)
    (how : Ending) (callers : List (TokenView Entry)) (number : ℕ) (gone : List (Known Entry)) (whole : List Entry)
    → IsLegal made whole → own caller_of 0 whole ≡ [] → Settled caller_of number gone whole → number ≡ count + 1 → gone ≡ map known_of callers
    → HasServed (Answers U (A made)) before after most count how callers → ServesBy U A before after made most count how
serves_by U A before after made most count how callers number gone whole legal nobody settled counted gone_is served =
    let known : Settled caller_of number (map known_of callers) whole = subst (λ (g : List (Known Entry)). Settled caller_of number g whole) gone_is settled in
    let back : length callers ≡ count = came_back (Answers U (A made)) before after most count how callers served in
    let many : length (map known_of callers) + 1 ≡ number = omega (arith, length-map callers known_of) in
    record {
      whole = whole;
      legal = legal;
      callers = callers;
      links = served;
      theirs = record {
        apart = subst AreApart (map_twice known_of (λ (one : Known Entry). one.caller) callers) known.apart;
        fronts = λ i d within. let one = all_map known_of (λ (k : Known Entry). IsPrefix k.list whole
            × (own caller_of k.caller whole ≡ own caller_of k.caller k.list) × (k.caller < number) × (k.caller ≢ 0)) callers known.all i d within in
            (one.0, one.1);
        theirs = All-weaker (λ (entry : Entry). Any (λ (k : Known Entry). caller_of entry ≡ k.caller) (map known_of callers))
            (λ (entry : Entry). Any (λ (one : TokenView Entry). caller_of entry ≡ one.caller) callers)
            (λ entry some. any_map known_of (λ (k : Known Entry). caller_of entry ≡ k.caller) callers some) whole
            (theirs caller_of number (map known_of callers) whole known nobody many);
      };
      unseen = unseen made;
    }
