-- The next request, from what is read of its head and of its body.
use Rattle.std.proofs.Common.{◌≡◌, ◌∙◌, ℕ, ◌+◌, ◌≤◌, List, [], ◌++◌, length, drop, take, Option, None, Some, Result, Ok, Err, inl, inr, refl, sym, ap, subst}
use Rattle.std.proofs.Common.{arith, append-nil, append_assoc, length-append}
use Rattle.std.proofs.lemmas.List.{drop-drop, take-append-le}
use Rattle.std.proofs.KnownBytes.{Consumes-nil, Consumes-trans}
use Rattle.dh_base.specs.declared.codes.Code.{Code}
use Rattle.dh_base.specs.declared.codes.Code.TheVariants.{F2}
use Rattle.dh_outside.specs.Pieces.{IsSpent}
use Rattle.dh_outside.specs.Talk.{Talk, Paced}
use Rattle.dh_outside.proofs.TalkLemmas.{paced_none, paced_on, paced_rebase, paced_shut}
use Rattle.http_wire.specs.Lines.{blank_length, opening_of}
use Rattle.http_wire.specs.Head.{Says, Tells}
use Rattle.http_wire.specs.declared.head.Head.{Head}
use Rattle.http_wire.specs.declared.head.HeadFault.{HeadFault}
use Rattle.http_wire.specs.declared.head.HeadFault.TheVariants as head_fault
use Rattle.http_wire.specs.declared.lines.Opening.TheVariants.{Nothing, Whole}
use Rattle.http_wire.specs.Faults.{comes_from}
use Rattle.http_wire.specs.Next.{Found, ended, cut, refused, whole, beyond, with_body, request_of, IsFoundBy, skipped, IsNext, IsOpen}
use Rattle.http_wire.specs.Reads.{RestSeen, seen, IsCutBehind, IsWaiting, Gives, Reads, Opens, Skims, IsBehind, GivesBehind, ReadsBehind, GivesBody, ReadsBody}
use Rattle.http_wire.specs.declared.request.Request.{Request}
use Rattle.http_wire.specs.declared.fault.WireFault.{WireFault}
use Rattle.http_wire.specs.declared.fault.WireFault.TheVariants as fault
use Rattle.http_wire.proofs.FrontLemmas.{skip_zero, next_by}
use Rattle.http_wire.proofs.NextLaws.{next_unique, IsDecided}
use Rattle.http_wire.proofs.OpeningLaws.{skip_still, opening_head, opening_more, opening_nothing}

-- ---- after a head

says_on : (held taken : List ℕ) (end : ℕ) (said : Result Head Code) → end ≤ length held → Says (take end held) said → Says (take end (held ++ taken)) said
says_on held taken end said within says = subst (λ xs. Says xs said) (sym (take-append-le end held taken within)) says

behind_ok : (all held' : List ℕ) (end : ℕ) (Spent : Type 0) (head : Head) (content : List ℕ) (request : Request) → Says (take end all) (Ok head)
    → request ≡ request_of head content
    → GivesBody all held' end head.plan Spent (Ok content) → GivesBehind all held' end Spent (Ok request)
behind_ok all held' end Spent head content request says same gives =
    (gives.0, (Ok head, says, ap (with_body head) gives.1 ∙ ap (λ r. whole r gives.0) (sym same)), gives.2)

behind_stop : (e : WireFault) (all held' : List ℕ) (end : ℕ) (Spent : Type 0) (head : Head) → Says (take end all) (Ok head)
    → GivesBody all held' end head.plan Spent (Err e) → GivesBehind all held' end Spent (Err e)
behind_stop (fault.Refused code) all held' end Spent head says gives = (Ok head, says, ap (with_body head) gives)
behind_stop fault.Truncated all held' end Spent head says gives = ((Ok head, says, ap (with_body head) gives.0), gives.1)
behind_stop fault.ReadFault all held' end Spent head says gives = ((Ok head, says, ap (with_body head) gives.0), gives.1)
behind_stop fault.Memory all held' end Spent head says gives = gives

-- a request is cut off while its body isn't whole
paced_cut : {talk talk' : Option Talk} (held taken : List ℕ) (end : ℕ) (head : Head) → end ≤ length held → Says (take end held) (Ok head)
    → Paced talk talk' (IsWaiting end head.plan) held taken → Paced talk talk' (IsCutBehind end) held taken
paced_cut {talk} {talk'} held taken end head within says paced =
    paced_rebase talk talk' (IsWaiting end head.plan) (IsCutBehind end) held held taken
    (λ more is. (is.0, (Ok head, says_on held more end (Ok head) within says, ap (with_body head) is.1))) paced

pub reads_behind : {left left' : Option (List ℕ)} {talk talk' : Option Talk} {held held' : List ℕ} {read read' end : ℕ} (head : Head) (content : List ℕ)
    (request : Request)
    → end ≤ length held → Says (take end held) (Ok head) → request ≡ request_of head content
    → ReadsBody left left' talk talk' held held' read read' end head.plan (Ok content)
    → ReadsBehind left left' talk talk' held held' read read' end (Ok request)
reads_behind {left} {left'} {talk} {talk'} {held} {held'} {read} {read'} {end} head content request within says same reads = record {
  taken = reads.taken;
  consumed = reads.consumed;
  counted = reads.counted;
  gives =
      behind_ok (held ++ reads.taken) held' end (IsSpent left' read') head content request (says_on held reads.taken end (Ok head) within says) same
      reads.gives;
  paced = paced_cut held reads.taken end head within says reads.paced;
}

pub reads_behind_stop : {left left' : Option (List ℕ)} {talk talk' : Option Talk} {held held' : List ℕ} {read read' end : ℕ} (head : Head) (e : WireFault)
    → end ≤ length held → Says (take end held) (Ok head)
    → ReadsBody left left' talk talk' held held' read read' end head.plan (Err e) → ReadsBehind left left' talk talk' held held' read read' end (Err e)
reads_behind_stop {left} {left'} {talk} {talk'} {held} {held'} {read} {read'} {end} head e within says reads = record {
  taken = reads.taken;
  consumed = reads.consumed;
  counted = reads.counted;
  gives = behind_stop e (held ++ reads.taken) held' end (IsSpent left' read') head (says_on held reads.taken end (Ok head) within says) reads.gives;
  paced = paced_cut held reads.taken end head within says reads.paced;
}

head_stop : (f : HeadFault) (held : List ℕ) (end : ℕ) (Spent : Type 0) → Tells (Says (take end held)) (Err f)
    → GivesBehind held held end Spent (Err (comes_from f))
head_stop (head_fault.Refused code) held end Spent says = (Err code, says, refl)
head_stop head_fault.Memory held end Spent says = refl

pub reads_behind_head : (left : Option (List ℕ)) (talk : Option Talk) (held : List ℕ) (read end : ℕ) (f : HeadFault) (e : WireFault) → e ≡ comes_from f
    → Tells (Says (take end held)) (Err f)
    → ReadsBehind left left talk talk held held read read end (Err e)
reads_behind_head left talk held read end f e same says = record {
  taken = [];
  consumed = Consumes-nil left;
  counted = omega arith;
  gives = subst (λ x. GivesBehind (held ++ []) held end (IsSpent left read) (Err x)) (sym same)
      (subst (λ all. GivesBehind all held end (IsSpent left read) (Err (comes_from f))) (sym (append-nil held))
      (head_stop f held end (IsSpent left read) says));
  paced = paced_none talk (IsCutBehind end) held;
}

-- ---- at the front

front_is : {left left' : Option (List ℕ)} {talk talk' : Option Talk} {held held' : List ℕ} {read read' : ℕ}
    (skims : Skims left left' talk talk' held held' read read') → blank_length held' ≡ 0 → held' ≡ skipped (held ++ skims.taken)
front_is {held' = held'} skims none = sym (skip_zero held' none) ∙ skims.same

pub reads_end : {left left' : Option (List ℕ)} {talk talk' : Option Talk} {held held' : List ℕ} {read read' : ℕ}
    → Skims left left' talk talk' held held' read read' → blank_length held' ≡ 0
    → opening_of held' ≡ Nothing → IsSpent left' read' → Reads left left' talk talk' (seen held read) (seen held' read') (Ok None)
reads_end {held = held} {held' = held'} skims none nothing spent = record {
  taken = skims.taken;
  consumed = skims.consumed;
  counted = skims.counted;
  gives = (
    next_by (held ++ skims.taken) held' ended (front_is skims none) (subst (λ o. IsFoundBy o held' ended) (sym nothing) refl),
    opening_nothing held' nothing,
    spent,
  );
  paced = skims.paced;
}

open_stop : (e : WireFault) (all held : List ℕ) (Spent : Type 0) → held ≡ skipped all → Opens held Spent (Err e) → Gives all held Spent (Err e)
open_stop (fault.Refused code) all held Spent at opens =
    subst (λ c. IsNext all (refused c)) (sym opens.1) (next_by all held (refused F2) at (subst (λ o. IsFoundBy o held (refused F2)) (sym opens.0) refl))
open_stop fault.Truncated all held Spent at opens = (next_by all held cut at (subst (λ o. IsFoundBy o held cut) (sym opens.0) refl), opens.1)
open_stop fault.ReadFault all held Spent at (inl nothing) = (inl (next_by all held ended at (subst (λ o. IsFoundBy o held ended) (sym nothing) refl)), at)
open_stop fault.ReadFault all held Spent at (inr still) = (inr (next_by all held cut at (subst (λ o. IsFoundBy o held cut) (sym still) refl)), at)
open_stop fault.Memory all held Spent at opens = at

pub reads_stop : {left left' : Option (List ℕ)} {talk talk' : Option Talk} {held held' : List ℕ} {read read' : ℕ} (e : WireFault)
    → Skims left left' talk talk' held held' read read' → blank_length held' ≡ 0
    → Opens held' (IsSpent left' read') (Err e) → Reads left left' talk talk' (seen held read) (seen held' read') (Err e)
reads_stop {left} {left'} {talk} {talk'} {held} {held'} {read} {read'} e skims none opens = record {
  taken = skims.taken;
  consumed = skims.consumed;
  counted = skims.counted;
  gives = open_stop e (held ++ skims.taken) held' (IsSpent left' read') (front_is skims none) opens;
  paced = skims.paced;
}

-- a head at the front stays there as more bytes come
front_on : (all front taken : List ℕ) (end : ℕ) → front ≡ skipped all → opening_of front ≡ Whole end → front ++ taken ≡ skipped (all ++ taken)
front_on all front taken end at is =
    let head = opening_head front end is in
    let low : 2 ≤ end = head.0 in
    let high : end ≤ length front = head.1 in
    let same = ap length at in
    let stays = skip_still all taken (omega arith) in
    ap (λ xs. xs ++ taken) at ∙ sym stays.1

behind_next : (all front : List ℕ) (end : ℕ) (found : Found) → front ≡ skipped all → opening_of front ≡ Whole end → IsBehind front end found
    → IsNext all (beyond (blank_length all) (beyond end found))
behind_next all front end found at is back =
    next_by all front (beyond end found) at (subst (λ o. IsFoundBy o front (beyond end found)) (sym is) (back.0, back.1, ap (beyond end) (sym back.2)))

-- bytes are open while the request at their front is cut off
paced_behind : {talk talk' : Option Talk} (all front taken : List ℕ) (end : ℕ) → front ≡ skipped all → opening_of front ≡ Whole end
    → Paced talk talk' (IsCutBehind end) front taken → Paced talk talk' IsOpen all taken
paced_behind {talk} {talk'} all front taken end at is paced =
    paced_rebase talk talk' (IsCutBehind end) IsOpen front all taken
    (λ more waits. inr (behind_next (all ++ more) (front ++ more) end cut (front_on all front more end at is) (opening_more front more end is) waits.1)) paced

some_gives : (all front held' : List ℕ) (end : ℕ) (Spent : Type 0) (request : Request) → front ≡ skipped all → opening_of front ≡ Whole end
    → GivesBehind front held' end Spent (Ok request) → Gives all held' Spent (Ok (Some request))
some_gives all front held' end Spent request at is gives = (
  blank_length all + (end + gives.0),
  behind_next all front end (whole request gives.0) at is gives.1,
  gives.2 ∙ ap (drop (end + gives.0)) at ∙ drop-drop (end + gives.0) (blank_length all) all,
)

stop_gives : (e : WireFault) (all front held' : List ℕ) (end : ℕ) (Spent : Type 0) → front ≡ skipped all → opening_of front ≡ Whole end
    → GivesBehind front held' end Spent (Err e) → Gives all held' Spent (Err e)
stop_gives (fault.Refused code) all front held' end Spent at is gives = behind_next all front end (refused code) at is gives
stop_gives fault.Truncated all front held' end Spent at is gives = (behind_next all front end cut at is gives.0, gives.1)
stop_gives fault.ReadFault all front held' end Spent at is gives = (inr (behind_next all front end cut at is gives.0), gives.1 ∙ at)
stop_gives fault.Memory all front held' end Spent at is gives = gives ∙ at

pub reads_some : {left left1 left' : Option (List ℕ)} {talk talk1 talk' : Option Talk} {held held1 held' : List ℕ} {read read1 read' : ℕ} (end : ℕ)
    (request : Request)
    → Skims left left1 talk talk1 held held1 read read1 → blank_length held1 ≡ 0 → opening_of held1 ≡ Whole end
    → ReadsBehind left1 left' talk1 talk' held1 held' read1 read' end (Ok request)
    → Reads left left' talk talk' (seen held read) (seen held' read') (Ok (Some request))
reads_some {left} {left1} {left'} {talk} {talk1} {talk'} {held} {held1} {held'} {read} {read1} {read'} end request skims none is reads = record {
  taken = skims.taken ++ reads.taken;
  consumed = Consumes-trans left left1 left' skims.taken reads.taken skims.consumed reads.consumed;
  counted = (let sum = length-append skims.taken reads.taken in omega (arith, skims.counted, reads.counted));
  gives = subst (λ all. Gives all held' (IsSpent left' read') (Ok (Some request))) (append_assoc held skims.taken reads.taken)
      (some_gives ((held ++ skims.taken) ++ reads.taken) (held1 ++ reads.taken) held' end (IsSpent left' read') request
      (front_on (held ++ skims.taken) held1 reads.taken end (front_is skims none) is) (opening_more held1 reads.taken end is) reads.gives);
  paced =
      paced_on talk talk1 talk' IsOpen held skims.taken reads.taken skims.paced
      (paced_behind (held ++ skims.taken) held1 reads.taken end (front_is skims none) is reads.paced);
}

pub reads_some_stop : {left left1 left' : Option (List ℕ)} {talk talk1 talk' : Option Talk} {held held1 held' : List ℕ} {read read1 read' : ℕ} (end : ℕ)
    (e : WireFault)
    → Skims left left1 talk talk1 held held1 read read1 → blank_length held1 ≡ 0 → opening_of held1 ≡ Whole end
    → ReadsBehind left1 left' talk1 talk' held1 held' read1 read' end (Err e) → Reads left left' talk talk' (seen held read) (seen held' read') (Err e)
reads_some_stop {left} {left1} {left'} {talk} {talk1} {talk'} {held} {held1} {held'} {read} {read1} {read'} end e skims none is reads = record {
  taken = skims.taken ++ reads.taken;
  consumed = Consumes-trans left left1 left' skims.taken reads.taken skims.consumed reads.consumed;
  counted = (let sum = length-append skims.taken reads.taken in omega (arith, skims.counted, reads.counted));
  gives = subst (λ all. Gives all held' (IsSpent left' read') (Err e)) (append_assoc held skims.taken reads.taken)
      (stop_gives e ((held ++ skims.taken) ++ reads.taken) (held1 ++ reads.taken) held' end (IsSpent left' read')
      (front_on (held ++ skims.taken) held1 reads.taken end (front_is skims none) is) (opening_more held1 reads.taken end is) reads.gives);
  paced =
      paced_on talk talk1 talk' IsOpen held skims.taken reads.taken skims.paced
      (paced_behind (held ++ skims.taken) held1 reads.taken end (front_is skims none) is reads.paced);
}

pub opens_some : (held : List ℕ) (Spent : Type 0) (found : Option ℕ) (end : ℕ) → found ≡ Some end → Opens held Spent (Ok found) → opening_of held ≡ Whole end
opens_some held Spent found end some opens = subst (λ o. Opens held Spent (Ok o)) some opens

-- ---- nothing is read ahead

is_shut : (bytes : List ℕ) (found : Found) → IsNext bytes found → IsDecided found → IsOpen bytes → ⊥
is_shut bytes found is decided (inl over) = subst IsDecided (next_unique bytes found ended is over) decided
is_shut bytes found is decided (inr still) = subst IsDecided (next_unique bytes found cut is still) decided

-- where the bytes held decide, nothing is read
pub unread : {left left' : Option (List ℕ)} {talk talk' : Option Talk} {old new : RestSeen} {answer : Result (Option Request) WireFault} (found : Found)
    → Reads left left' talk talk' old new answer → IsNext old.bytes found → IsDecided found → new.read ≡ old.read
unread {talk = talk} {talk' = talk'} {old = old} found reads is decided =
    let none : length reads.taken ≡ 0 = ap length (paced_shut talk talk' IsOpen old.bytes reads.taken (is_shut old.bytes found is decided) reads.paced) in
    omega (arith, reads.counted, none)
