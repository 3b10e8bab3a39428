-- From turn to turn, and the ends of a session.
use Rattle.std.proofs.Common.{◌≡◌, ◌≢◌, ◌∙◌, ◌≤◌, ◌<◌, ◌+◌, ◌^◌, ◌&&◌, inl, inr, ℕ, Bool, true, false, List, [], ◌∷◌, ◌++◌, Option, None, Some, Result, Ok}
use Rattle.std.proofs.Common.{Err, length, refl, sym, ap, subst, arith, append-nil, length-append, nat_lt}
use Rattle.std.specs.List.{list_all}
use Rattle.std.specs.Io.KnownBytes.{Consumes, Appends}
use Rattle.std.proofs.KnownBytes.{Consumes-nil, Consumes-trans, Appends-nil, Appends-trans}
use Rattle.dh_outside.specs.Faults.{Rose}
use Rattle.dh_outside.specs.Pieces.{IsSpent}
use Rattle.http_wire.specs.Reads.{RestSeen, Reads}
use Rattle.http_wire.specs.declared.request.Request.{Request}
use Rattle.http_wire.specs.declared.fault.WireFault.{WireFault}
use Rattle.http_wire.specs.declared.fault.WireFault.TheVariants as fault
use Rattle.request_session.specs.Session.{Requests, Replies, GoesOn, EndsBy, WritesUpTo, Ran}
use Rattle.dh_outside.specs.Talk.{Talk}
use Rattle.request_session.specs.Prompt.{Prompt}
use Rattle.request_session.specs.SoFar.{SoFar, PromptSoFar}
use Rattle.request_session.specs.Turn.{Turns, Follows, Responds, Stops}
use Rattle.request_session.specs.declared.ended.Ended.{Ended}
use Rattle.request_session.specs.declared.ended.Ended.TheVariants as end
use Rattle.request_session.specs.declared.ended.Turn.{Turn}
use Rattle.request_session.specs.declared.ended.Turn.TheVariants.{Answered, Stopped}
use Rattle.request_session.proofs.PromptLemmas.{prompt_start, prompt_reads, prompt_says, prompt_end}
use Rattle.request_session.proofs.RequestLemmas.{requests_longer, requests_one, replies_one}
use Rattle.request_session.proofs.SendLemmas.{front_behind}

-- ---- counts of faults

pub rose_later : {old mid new : ℕ} → old ≤ mid → Rose mid new → Rose old new
rose_later {old} {mid} {new} first (inl more) = inl (omega arith)
rose_later {old} {mid} {new} first (inr last) = inr last

-- ---- the start

pub at_start : {M : Type 0} (step : M → Request → Bool → List ℕ → M
    → Type 0) (most : ℕ) (left : Option (List ℕ)) (talk : Option Talk) (written : Option (List ℕ)) (held : RestSeen) (old : M)
    → 0 < most → held.bytes ≡ [] → held.read ≡ 0 → SoFar step most left left talk talk written written held old old 0
at_start step most left talk written held old some none unread = record {
  taken = [];
  consumed = Consumes-nil left;
  counted = unread;
  requests = [];
  found = none;
  count = refl;
  goes = (refl, some);
  replies = [];
  given = (refl, refl);
  writes = Appends-nil written;
  prompt = prompt_start step most old talk;
}

-- none is allowed
pub none_allowed : {M : Type 0} (step : M → Request → Bool → List ℕ → M → Type 0) (most : ℕ) (left written : Option (List ℕ)) (old : M)
    → most ≡ 0 → Ran step most left left written written old old end.Limit
none_allowed step most left written old none = record {
  taken = [];
  consumed = Consumes-nil left;
  bound = omega arith;
  text = [];
  session = record {
    requests = [];
    rest = [];
    found = refl;
    replies = [];
    served = (refl, refl);
    last = [];
    ends = (refl, (sym none, inl refl));
    whole = refl;
  };
  writes = Appends-nil written;
}

-- ---- one more request

all_and_one : (requests : List Request) (request : Request) → list_all (λ r. r.keep) requests ≡ true → request.keep ≡ true
    → list_all (λ r. r.keep) (requests ++ request ∷ []) ≡ true
all_and_one [] request all one = ap (λ t. t && true) one
all_and_one (first ∷ requests) request all one =
    let here : first.keep ≡ true = and_first first.keep (list_all (λ r. r.keep) requests) all in
    let beyond : list_all (λ r. r.keep) requests ≡ true = and_second first.keep (list_all (λ r. r.keep) requests) all in
    ap (λ t. t && list_all (λ r. r.keep) (requests ++ request ∷ [])) here ∙ all_and_one requests request beyond one
  where
    and_first : (a b : Bool) → (a && b) ≡ true → a ≡ true
    and_first true b is = refl
    and_first false b is = absurd (cc)

    and_second : (a b : Bool) → (a && b) ≡ true → b ≡ true
    and_second true b is = is
    and_second false b is = absurd (cc)

one_longer : (earlier : List Request) (request : Request) → length (earlier ++ request ∷ []) ≡ length earlier + 1
one_longer earlier request = let sum = length-append earlier (request ∷ []) in omega arith

-- what stands when one more request was read and its reply is made
record Grown {M : Type 0} (step : M → Request → Bool → List ℕ → M
    → Type 0) (most : ℕ) (left left' : Option (List ℕ)) (held : RestSeen) (old new : M) (served : ℕ) (request : Request) (replies : List ℕ) : Type 0 where
  taken : List ℕ
  consumed : Consumes left left' taken
  counted : held.read ≡ length taken
  earlier : List Request
  found : Requests taken (earlier ++ request ∷ []) held.bytes
  count : served ≡ length earlier
  goes : GoesOn most earlier
  given : Replies step most 0 old (earlier ++ request ∷ []) replies new

abbrev how_of : Turn → Ended
how_of (Answered keep) = end.Limit
how_of (Stopped how) = how

module _ {M : Type 0} (step : M → Request → Bool → List ℕ → M
    → Type 0) (most : ℕ) (left mid left' : Option (List ℕ)) (talk told talk' : Option Talk) (written middle written' : Option (List ℕ)) (held held' : RestSeen)
    (old now new : M) (served : ℕ) where
  grown : {heard : Option Talk} (request : Request) (reply : List ℕ) (so : SoFar step most left mid talk told written middle held old now served)
      → Reads mid left' told heard held held' (Ok (Some request))
      → step now request (request.keep && nat_lt (served + 1) most) reply new
      → Grown step most left left' held' old new served request (so.replies ++ reply)
  grown request reply so reads steps = record {
    taken = so.taken ++ reads.taken;
    consumed = Consumes-trans left mid left' so.taken reads.taken so.consumed reads.consumed;
    counted = (let sum = length-append so.taken reads.taken in omega (arith, so.counted, reads.counted));
    earlier = so.requests;
    found = requests_one (so.taken ++ reads.taken) so.requests (held.bytes ++ reads.taken) request reads.gives.0 held'.bytes
        (requests_longer so.taken reads.taken so.requests held.bytes so.found) reads.gives.1 reads.gives.2;
    count = so.count;
    goes = so.goes;
    given = replies_one step most 0 old now new so.requests so.replies request reply so.given
        (subst (λ n. step now request (request.keep && nat_lt (n + 1) most) reply new) (let same : served ≡ 0 + length so.requests =
        omega (arith, so.count) in same) steps);
  }

  -- the session ends after a request
  behind_one : (request : Request) (replies : List ℕ) (how : Ended) (g : Grown step most left left' held' old new served request replies) → held'.read ≤ 2 ^ 63
      → EndsBy most (g.earlier ++ request ∷ []) held'.bytes (IsSpent left' (length g.taken)) how [] → WritesUpTo how written written' replies
      → Ran step most left left' written written' old new how
  behind_one request replies how g bound ends writes = record {
    taken = g.taken;
    consumed = g.consumed;
    bound = omega (arith, g.counted, bound);
    text = replies;
    session = record {
      requests = g.earlier ++ request ∷ [];
      rest = held'.bytes;
      found = g.found;
      replies = replies;
      served = g.given;
      last = [];
      ends = ends;
      whole = sym (append-nil replies);
    };
    writes = writes;
  }

  -- the session ends where no request was read
  no_more : {heard : Option Talk} (answer : Result (Option Request) WireFault) (how : Ended) (last : List ℕ)
      (so : SoFar step most left mid talk told written middle held old now served) (reads : Reads mid left' told heard held held' answer)
      → held'.read ≤ 2 ^ 63 → new ≡ now
      → EndsBy most so.requests (held.bytes ++ reads.taken) (IsSpent left' (length (so.taken ++ reads.taken))) how last
      → WritesUpTo how written written' (so.replies ++ last)
      → Ran step most left left' written written' old new how
  no_more answer how last so reads bound same ends writes = record {
    taken = so.taken ++ reads.taken;
    consumed = Consumes-trans left mid left' so.taken reads.taken so.consumed reads.consumed;
    bound = (let sum = length-append so.taken reads.taken in omega (arith, so.counted, reads.counted, bound));
    text = so.replies ++ last;
    session = record {
      requests = so.requests;
      rest = held.bytes ++ reads.taken;
      found = requests_longer so.taken reads.taken so.requests held.bytes so.found;
      replies = so.replies;
      served = subst (λ m. Replies step most 0 old so.requests so.replies m) (sym same) so.given;
      last = last;
      ends = ends;
      whole = refl;
    };
    writes = writes;
  }

  -- what is spent by the bytes read is spent by those taken
  spent : {heard : Option Talk} (answer : Result (Option Request) WireFault) (so : SoFar step most left mid talk told written middle held old now served)
      (reads : Reads mid left' told heard held held' answer)
      → IsSpent left' held'.read → IsSpent left' (length (so.taken ++ reads.taken))
  spent answer so reads is =
      let sum = length-append so.taken reads.taken in
      let same : held'.read ≡ length (so.taken ++ reads.taken) = omega (arith, so.counted, reads.counted) in
      subst (IsSpent left') same is

  -- what was read came after the replies to all requests before
  heard_too : {heard : Option Talk} (answer : Result (Option Request) WireFault) (so : SoFar step most left mid talk told written middle held old now served)
      (reads : Reads mid left' told heard held held' answer) → PromptSoFar step most talk heard old (so.taken ++ reads.taken) so.replies
  heard_too {heard} answer so reads =
      prompt_reads step most old talk told heard so.taken reads.taken so.replies held.bytes so.requests now so.found so.goes so.given so.prompt reads.paced

  pub prompt : {turn : Turn} → SoFar step most left mid talk told written middle held old now served
      → Turns step (nat_lt (served + 1) most) mid left' told talk' held held' middle written' now new turn → Prompt step most talk talk' old
  prompt so turn =
      prompt_end step most old talk turn.heard talk' (so.taken ++ turn.reads.taken) so.replies (heard_too turn.answer so turn.reads) turn.speaks

  -- ---- an answer after which the session goes on, closes or has reached the limit

  pub goes_on : (keep : Bool) → SoFar step most left mid talk told written middle held old now served
      → Turns step (nat_lt (served + 1) most) mid left' told talk' held held' middle written' now new (Answered keep)
      → served < most → served + 1 ≢ most → keep ≡ true → SoFar step most left left' talk talk' written written' held' old new (served + 1)
  unfolding grown
  goes_on keep so turn below other is = by_answer turn.answer turn.reads turn.follows
    where
      by_answer : (answer : Result (Option Request) WireFault) → Reads mid left' told turn.heard held held' answer
          → Follows step (nat_lt (served + 1) most) middle written' turn.heard talk' now new answer (Answered keep)
          → SoFar step most left left' talk talk' written written' held' old new (served + 1)
      by_answer (Ok (Some request)) reads follows =
          let g = grown request follows.0 so reads follows.1 in record {
            taken = so.taken ++ reads.taken;
            consumed = g.consumed;
            counted = g.counted;
            requests = g.earlier ++ request ∷ [];
            found = g.found;
            count = (let sum = one_longer g.earlier request in omega (arith, g.count));
            goes =
                (all_and_one g.earlier request g.goes.0 (sym follows.3 ∙ is), (let sum = one_longer g.earlier request in omega (arith, g.count, below, other)));
            replies = so.replies ++ follows.0;
            given = g.given;
            writes = Appends-trans written middle written' so.replies follows.0 so.writes follows.2;
            prompt =
                prompt_says step most old talk turn.heard talk' (so.taken ++ reads.taken) so.replies follows.0 (heard_too (Ok (Some request)) so reads)
                follows.4;
          }
      by_answer (Ok None) reads follows = absurd (cc)
      by_answer (Err found) reads follows = absurd (cc)

  pub closes : (keep : Bool) → SoFar step most left mid talk told written middle held old now served
      → Turns step (nat_lt (served + 1) most) mid left' told talk' held held' middle written' now new (Answered keep)
      → held'.read ≤ 2 ^ 63 → served < most → served + 1 ≢ most → keep ≡ false → Ran step most left left' written written' old new end.Closed
  closes keep so turn bound below other is = by_answer turn.answer turn.reads turn.follows
    where
      by_answer : (answer : Result (Option Request) WireFault) → Reads mid left' told turn.heard held held' answer
          → Follows step (nat_lt (served + 1) most) middle written' turn.heard talk' now new answer (Answered keep)
          → Ran step most left left' written written' old new end.Closed
      by_answer (Ok (Some request)) reads follows =
          let g = grown request follows.0 so reads follows.1 in
          let sum = one_longer g.earlier request in
          let few : length (g.earlier ++ request ∷ []) < most = omega (arith, g.count, below, other) in
          behind_one request (so.replies ++ follows.0) end.Closed g bound (refl, inl (g.earlier, request, (refl, g.goes), sym follows.3 ∙ is, few))
          (Appends-trans written middle written' so.replies follows.0 so.writes follows.2)
      by_answer (Ok None) reads follows = absurd (cc)
      by_answer (Err found) reads follows = absurd (cc)

  pub at_limit : (keep : Bool) → SoFar step most left mid talk told written middle held old now served
      → Turns step (nat_lt (served + 1) most) mid left' told talk' held held' middle written' now new (Answered keep)
      → held'.read ≤ 2 ^ 63 → served + 1 ≡ most → Ran step most left left' written written' old new end.Limit
  at_limit keep so turn bound is = by_answer turn.answer turn.reads turn.follows
    where
      by_answer : (answer : Result (Option Request) WireFault) → Reads mid left' told turn.heard held held' answer
          → Follows step (nat_lt (served + 1) most) middle written' turn.heard talk' now new answer (Answered keep)
          → Ran step most left left' written written' old new end.Limit
      by_answer (Ok (Some request)) reads follows =
          let g = grown request follows.0 so reads follows.1 in
          let sum = one_longer g.earlier request in
          let full : length (g.earlier ++ request ∷ []) ≡ most = omega (arith, g.count, is) in
          behind_one request (so.replies ++ follows.0) end.Limit g bound (refl, (full, inr (g.earlier, request, (refl, g.goes))))
          (Appends-trans written middle written' so.replies follows.0 so.writes follows.2)
      by_answer (Ok None) reads follows = absurd (cc)
      by_answer (Err found) reads follows = absurd (cc)

  -- ---- the end of a session

  -- nothing was written in the turn
  unwritten : (so : SoFar step most left mid talk told written middle held old now served) → Appends middle written' []
      → Appends written written' (so.replies ++ [])
  unwritten so none = Appends-trans written middle written' so.replies [] so.writes none

  by_request : {heard : Option Talk} (request : Request) (how : Ended) (so : SoFar step most left mid talk told written middle held old now served)
      → Reads mid left' told heard held held' (Ok (Some request)) → held'.read ≤ 2 ^ 63
      → Responds step (nat_lt (served + 1) most) middle written' heard talk' now new request (Stopped how)
      → Ran step most left left' written written' old new how
  by_request request end.Closed so reads bound follows = absurd follows
  by_request request end.Truncated so reads bound follows = absurd follows
  by_request request (end.Refused code) so reads bound follows = absurd follows
  by_request request end.Limit so reads bound follows = absurd follows
  by_request request end.ReadFault so reads bound follows = absurd follows
  by_request request end.WriteFault so reads bound follows =
      let g = grown request follows.0 so reads follows.1 in
      behind_one request (so.replies ++ follows.0) end.WriteFault g bound (inl (refl, g.earlier, request, (refl, g.goes)))
      (front_behind written middle written' so.replies follows.0 so.writes follows.2)
  by_request request end.Memory so reads bound follows = absurd follows

  by_end : {heard : Option Talk} (how : Ended) (so : SoFar step most left mid talk told written middle held old now served)
      → Reads mid left' told heard held held' (Ok None) → held'.read ≤ 2 ^ 63
      → how ≡ end.Closed → new ≡ now → Appends middle written' [] → Ran step most left left' written written' old new how
  by_end how so reads bound is same none =
      subst (λ h. Ran step most left left' written written' old new h) (sym is)
      (no_more (Ok None) end.Closed [] so reads bound same (refl, inr (so.goes, reads.gives.0, spent (Ok None) so reads reads.gives.2)) (unwritten so none))

  by_fault : {heard : Option Talk} (found : WireFault) (how : Ended) (so : SoFar step most left mid talk told written middle held old now served)
      → Reads mid left' told heard held held' (Err found) → held'.read ≤ 2 ^ 63
      → new ≡ now → Stops middle written' found how → Ran step most left left' written written' old new how
  by_fault (fault.Refused code) end.Closed so reads bound same stops = absurd stops
  by_fault (fault.Refused code) end.Truncated so reads bound same stops = absurd stops
  by_fault (fault.Refused code) (end.Refused told) so reads bound same stops =
      subst (λ c. Ran step most left left' written written' old new (end.Refused c)) (sym stops.0)
      (no_more (Err (fault.Refused code)) (end.Refused code) stops.1 so reads bound same (so.goes, reads.gives, stops.2)
      (Appends-trans written middle written' so.replies stops.1 so.writes stops.3))
  by_fault (fault.Refused code) end.Limit so reads bound same stops = absurd stops
  by_fault (fault.Refused code) end.ReadFault so reads bound same stops = absurd stops
  by_fault (fault.Refused code) end.WriteFault so reads bound same stops =
      no_more (Err (fault.Refused code)) end.WriteFault stops.0 so reads bound same (inr (code, (so.goes, reads.gives, stops.1)))
      (front_behind written middle written' so.replies stops.0 so.writes stops.2)
  by_fault (fault.Refused code) end.Memory so reads bound same stops = absurd stops
  by_fault fault.Truncated end.Closed so reads bound same stops = absurd stops
  by_fault fault.Truncated end.Truncated so reads bound same stops =
      no_more (Err fault.Truncated) end.Truncated [] so reads bound same (
        refl,
        so.goes,
        reads.gives.0,
        spent (Err fault.Truncated) so reads reads.gives.1,
      ) (unwritten so stops)
  by_fault fault.Truncated (end.Refused told) so reads bound same stops = absurd stops
  by_fault fault.Truncated end.Limit so reads bound same stops = absurd stops
  by_fault fault.Truncated end.ReadFault so reads bound same stops = absurd stops
  by_fault fault.Truncated end.WriteFault so reads bound same stops = absurd stops
  by_fault fault.Truncated end.Memory so reads bound same stops = absurd stops
  by_fault fault.ReadFault end.Closed so reads bound same stops = absurd stops
  by_fault fault.ReadFault end.Truncated so reads bound same stops = absurd stops
  by_fault fault.ReadFault (end.Refused told) so reads bound same stops = absurd stops
  by_fault fault.ReadFault end.Limit so reads bound same stops = absurd stops
  by_fault fault.ReadFault end.ReadFault so reads bound same stops =
      no_more (Err fault.ReadFault) end.ReadFault [] so reads bound same (refl, so.goes, reads.gives.0) (unwritten so stops)
  by_fault fault.ReadFault end.WriteFault so reads bound same stops = absurd stops
  by_fault fault.ReadFault end.Memory so reads bound same stops = absurd stops
  by_fault fault.Memory end.Closed so reads bound same stops = absurd stops
  by_fault fault.Memory end.Truncated so reads bound same stops = absurd stops
  by_fault fault.Memory (end.Refused told) so reads bound same stops = absurd stops
  by_fault fault.Memory end.Limit so reads bound same stops = absurd stops
  by_fault fault.Memory end.ReadFault so reads bound same stops = absurd stops
  by_fault fault.Memory end.WriteFault so reads bound same stops = absurd stops
  by_fault fault.Memory end.Memory so reads bound same stops = no_more (Err fault.Memory) end.Memory [] so reads bound same (refl, so.goes) (unwritten so stops)

  pub stopped : (how : Ended) → SoFar step most left mid talk told written middle held old now served
      → Turns step (nat_lt (served + 1) most) mid left' told talk' held held' middle written' now new (Stopped how)
      → held'.read ≤ 2 ^ 63 → Ran step most left left' written written' old new how
  stopped how so turn bound = by_answer turn.answer turn.reads turn.follows
    where
      by_answer : (answer : Result (Option Request) WireFault) → Reads mid left' told turn.heard held held' answer
          → Follows step (nat_lt (served + 1) most) middle written' turn.heard talk' now new answer (Stopped how)
          → Ran step most left left' written written' old new how
      by_answer (Ok (Some request)) reads follows = by_request request how so reads bound follows
      by_answer (Ok None) reads follows = by_end how so reads bound (ap how_of follows.0) follows.1 follows.2
      by_answer (Err found) reads follows =
          subst (λ h. Ran step most left left' written written' old new h) (sym (ap how_of follows.1))
          (by_fault found follows.0 so reads bound follows.2 follows.3)

pub bound_of : {r s : RestSeen} → r ≡ s → r.read ≤ 2 ^ 63 → s.read ≤ 2 ^ 63
bound_of same bound = subst (λ r. r.read ≤ 2 ^ 63) same bound
