-- What holds along every legal history.
use Rattle.std.proofs.Common.{◌≡◌, ◌≢◌, ◌∙◌, ◌≤◌, ℕ, zero, suc, List, [], ◌∷◌, ◌||◌, take, ap, subst, refl, arith, Bool, true, false, cond, slice_get}
use Rattle.std.specs.Prelude.{◌==◌, Option, None, Some, Ok, Err, IfSome}
use Rattle.std.proofs.lemmas.Bool.Decides.{nat_tests}
use Rattle.std.proofs.Math.Nat.{le-max_left}
use Rattle.dh_base.specs.declared.plain.CutKind.{CutKind}
use Rattle.dh_base.specs.declared.plain.CutKind.TheVariants.{Full, Latest}
use Rattle.dh_metadata.specs.declared.held.Records.{Records}
use Rattle.change_log.specs.declared.limits.Limits.{Limits}
use Rattle.engine.specs.declared.machine.Staged.{Staged}
use Rattle.engine.specs.Machine.{State, start, Act, IsReply, next, staged_of, has_ticket, is_begun, kind_of, number_in, number_of}
use Rattle.engine.specs.Machine.Act.{changed, begun, swapped, dropped, looked}
use Rattle.engine.specs.Histories.{after_from, after, IsLegal, IsInOrder, last_swap}
use Rattle.engine.proofs.Orders.{reply-in-order}

-- the same from any state
abbrev IsLegalFrom : Records → Limits → State → List Act → Type 0
IsLegalFrom meta limits old acts = (n : ℕ) → (act : Act) → slice_get acts n ≡ Some act → IsReply meta limits (after_from meta old (take n acts)) act

first-of : (meta : Records) (limits : Limits) (old : State) (act : Act) (acts : List Act) → IsLegalFrom meta limits old (act ∷ acts)
    → IsReply meta limits old act
first-of meta limits old act acts legal = legal zero act refl

rest-of : (meta : Records) (limits : Limits) (old : State) (act : Act) (acts : List Act) → IsLegalFrom meta limits old (act ∷ acts)
    → IsLegalFrom meta limits (next meta old act) acts
rest-of meta limits old act acts legal = λ n a is. legal (suc n) a is

in-order-from : (meta : Records) (limits : Limits) (old : State) (acts : List Act) → IsLegalFrom meta limits old acts → IsInOrder limits old
    → IsInOrder limits (after_from meta old acts)
in-order-from meta limits old [] legal h = h
in-order-from meta limits old (act ∷ acts) legal h =
    in-order-from meta limits (next meta old act) acts (rest-of meta limits old act acts legal)
    (reply-in-order meta limits old act (first-of meta limits old act acts legal) h)

pub in-order : (meta : Records) (limits : Limits) (acts : List Act) → IsLegal meta limits acts → IsInOrder limits (after meta acts)
in-order meta limits acts legal =
    in-order-from meta limits start acts legal (record
    { published = omega arith; base_cut = omega arith; full = tt; latest = tt; apart = tt; tickets = omega arith })

-- ---- what is published

published-from : (meta : Records) (old : State) (acts : List Act) → (after_from meta old acts).published ≡ last_swap old.published acts
published-from meta old [] = refl
published-from meta old (changed asked (Ok report) ∷ acts) = published-from meta (next meta old (changed asked (Ok report))) acts
published-from meta old (changed asked (Err fault) ∷ acts) = published-from meta old acts
published-from meta old (begun kind (Ok update) ∷ acts) = published-from meta (next meta old (begun kind (Ok update))) acts
published-from meta old (begun kind (Err fault) ∷ acts) = published-from meta old acts
published-from meta old (swapped ticket (Ok published) ∷ acts) = published-from meta (next meta old (swapped ticket (Ok published))) acts
published-from meta old (swapped ticket (Err memory) ∷ acts) = published-from meta old acts
published-from meta old (dropped ticket ∷ acts) = published-from meta (next meta old (dropped ticket)) acts
published-from meta old (looked asked reply ∷ acts) = published-from meta old acts

pub published : (meta : Records) (limits : Limits) (acts : List Act) → IsLegal meta limits acts → (after meta acts).published ≡ last_swap 0 acts
published meta limits acts legal = published-from meta start acts

next-rises : (meta : Records) (limits : Limits) (old : State) (act : Act) → IsReply meta limits old act → old.published ≤ (next meta old act).published
next-rises meta limits old (changed asked (Ok report)) r = omega arith
next-rises meta limits old (changed asked (Err fault)) r = omega arith
next-rises meta limits old (begun kind (Ok update)) r = omega arith
next-rises meta limits old (begun kind (Err fault)) r = omega arith
next-rises meta limits old (swapped ticket (Ok published)) r = let m = le-max_left old.published (number_of old ticket) in let e = r.1 in omega arith
next-rises meta limits old (swapped ticket (Err memory)) r = omega arith
next-rises meta limits old (dropped ticket) r = omega arith
next-rises meta limits old (looked asked reply) r = omega arith

rises-from-first : (meta : Records) (limits : Limits) (old : State) (acts : List Act) (n : ℕ) → IsLegalFrom meta limits old acts
    → old.published ≤ (after_from meta old (take n acts)).published
rises-from-first meta limits old [] zero legal = omega arith
rises-from-first meta limits old [] (suc n) legal = omega arith
rises-from-first meta limits old (act ∷ acts) zero legal = omega arith
rises-from-first meta limits old (act ∷ acts) (suc n) legal =
    let one = next-rises meta limits old act (first-of meta limits old act acts legal) in
    let more = rises-from-first meta limits (next meta old act) acts n (rest-of meta limits old act acts legal) in
    omega arith

rises-from : (meta : Records) (limits : Limits) (old : State) (acts : List Act) (first later : ℕ) → IsLegalFrom meta limits old acts → first ≤ later
    → (after_from meta old (take first acts)).published ≤ (after_from meta old (take later acts)).published
rises-from meta limits old acts zero later legal le = rises-from-first meta limits old acts later legal
rises-from meta limits old acts (suc first) zero legal le = absurd (omega (arith, le))
rises-from meta limits old [] (suc first) (suc later) legal le = omega arith
rises-from meta limits old (act ∷ acts) (suc first) (suc later) legal le =
    rises-from meta limits (next meta old act) acts first later (rest-of meta limits old act acts legal) (omega (arith, le))

pub never-falls : (meta : Records) (limits : Limits) (acts : List Act) (first later : ℕ) → IsLegal meta limits acts → first ≤ later
    → (after meta (take first acts)).published ≤ (after meta (take later acts)).published
never-falls meta limits acts first later legal le = rises-from meta limits start acts first later legal le

-- ---- a ticket tells its update

has-own : (update : Staged) (staged : Option Staged) → staged ≡ Some update → has_ticket update.ticket staged ≡ true
has-own update staged is = ap (has_ticket update.ticket) is ∙ (grind (arith, nat_tests))

or-left : (a b : Bool) → a ≡ true → (a || b) ≡ true
or-left true b is = refl
or-left false b is = absurd (cc)

or-right : (a b : Bool) → b ≡ true → (a || b) ≡ true
or-right true b is = refl
or-right false b is = is

pub staged-is-begun : (state : State) (kind : CutKind) (update : Staged) → staged_of state kind ≡ Some update → is_begun state update.ticket ≡ true
staged-is-begun state Full update is = or-left (has_ticket update.ticket state.full) (has_ticket update.ticket state.latest) (has-own update state.full is)
staged-is-begun state Latest update is = or-right (has_ticket update.ticket state.full) (has_ticket update.ticket state.latest) (has-own update state.latest is)

differ-test : (a b : ℕ) → a ≢ b → (a == b) ≡ false
differ-test a b h = grind (arith, nat_tests)

has-not : (full latest : Option Staged) (update : Staged) → latest ≡ Some update → IfSome full (λ one. IfSome latest (λ other. one.ticket ≢ other.ticket))
    → has_ticket update.ticket full ≡ false
has-not None latest update is apart = refl
has-not (Some one) latest update is apart =
    differ-test one.ticket update.ticket (subst (λ l. IfSome l (λ (other : Staged). one.ticket ≢ other.ticket)) is apart)

pub kind-is : (limits : Limits) (state : State) (kind : CutKind) (update : Staged) → IsInOrder limits state → staged_of state kind ≡ Some update
    → kind_of state update.ticket ≡ kind
kind-is limits state Full update h is = ap (λ b. cond b Full Latest) (has-own update state.full is)
kind-is limits state Latest update h is = ap (λ b. cond b Full Latest) (has-not state.full state.latest update is h.apart)

pub number-is : (limits : Limits) (state : State) (kind : CutKind) (update : Staged) → IsInOrder limits state → staged_of state kind ≡ Some update
    → number_of state update.ticket ≡ update.number
number-is limits state kind update h is =
    ap (λ k. number_in (staged_of state k)) (kind-is limits state kind update h is) ∙ ap number_in is
