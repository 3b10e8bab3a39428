-- What a session writes is the one text of its file, its input and its moments, as long as memory suffices.
use Rattle.std.proofs.Common.{◌≡◌, ◌∙◌, ◌<◌, ◌+◌, ◌⊎◌, inl, inr, ℕ, ℤ, Bool, true, false, ◌&&◌, nat_lt, List, [], ◌∷◌, ◌++◌, length, take, drop, Option, None}
use Rattle.std.proofs.Common.{Some}
use Rattle.std.proofs.Common.{suc, Result, Ok, Err, sym, ap, subst, refl, arith, append_assoc, append-nil}
use Rattle.std.specs.Prelude.{⊤}
use Rattle.std.specs.List.{AllByRecursion, list_all}
use Rattle.std.proofs.Math.Seq.{take-length}
use Rattle.std.proofs.lemmas.Bool.Decides.{nat_tests}
use Rattle.std.proofs.lemmas.List.Folds.{list_all-append}
use Rattle.std.specs.Io.KnownBytes.{Appends}
use Rattle.change_log.specs.declared.limits.Limits.{Limits}
use Rattle.http_wire.specs.Next.{Found, ended, cut, refused, whole, IsNext}
use Rattle.http_wire.specs.declared.request.Request.{Request}
use Rattle.http_wire.proofs.NextLaws.{next_unique}
use Rattle.dh_metadata.specs.declared.held.Records.{Records}
use Rattle.meta_reader.specs.declared.fault.MetaFault.{MetaFault}
use Rattle.meta_reader.specs.Read.{IsMetadata}
use Rattle.meta_reader.proofs.OneMetadata.{one-metadata}
use Rattle.request_session.specs.Replies.{memory_reply, refused_text}
use Rattle.request_session.specs.Session.{Requests, Replies, Session, keeps, counting, GoesOn, AsksToClose, EndsBy, WritesUpTo, is_decided}
use Rattle.request_session.specs.declared.ended.Ended.{Ended}
use Rattle.request_session.specs.declared.ended.Ended.TheVariants as how
use Rattle.engine.specs.Machine.{State, start}
use Rattle.engine.specs.Seen.{Seen}
use Rattle.engine.specs.InMemory.{largest, started}
use Rattle.request_replies.specs.Texts.{text_of}
use Rattle.request_replies.specs.Steps.{ReplyAt}
use Rattle.request_replies.specs.OverFile.{refusal_line, SessionOverAll}
use Rattle.request_replies.specs.Serving.{SessionStep, most_requests}
use Rattle.request_replies.specs.Response.{response_of}
use Rattle.request_replies.specs.SessionText.{replies_of, goes_on, IsLast, LastIn, IsTextOver, IsTextBy, IsText, IsOneText, BreaksOff, BreaksOffOver}
use Rattle.request_replies.specs.SessionText.{WritesText, WritesOne, is_over}
use Rattle.request_replies.specs.declared.over_file.SessionEnd.{SessionEnd}
use Rattle.request_replies.specs.declared.over_file.SessionEnd.TheVariants as end
use Rattle.request_replies.proofs.KeepLaws.{reply-keeps}
use Rattle.request_replies.proofs.ResponseLemmas.{Is, reply_is}

-- ---- there is one text

same-whole : (request request' : Request) (used used' : ℕ) → whole request used ≡ whole request' used' → (request ≡ request') × (used ≡ used')
same-whole request request' used used' is = (cc, cc)

requests-same : (bytes : List ℕ) (one other : List Request) (rest rest' : List ℕ) → length one ≡ length other → Requests bytes one rest
    → Requests bytes other rest' → (one ≡ other) × (rest ≡ rest')
requests-same bytes [] [] rest rest' as_long first second = (refl, first ∙ sym second)
requests-same bytes [] (o ∷ other) rest rest' as_long first second = absurd (omega (arith, as_long))
requests-same bytes (r ∷ one) [] rest rest' as_long first second = absurd (omega (arith, as_long))
requests-same bytes (r ∷ one) (o ∷ other) rest rest' as_long first second =
    let both = same-whole r o first.0 second.0 (next_unique bytes (whole r first.0) (whole o second.0) first.1 second.1) in
    let more = requests-same (drop first.0 bytes) one other rest rest' (let e : length one ≡ length other = omega (arith, as_long) in e) first.2
    (subst (λ n. Requests (drop n bytes) other rest') (sym both.1) second.2) in
    (ap (λ x. x ∷ one) both.0 ∙ ap (λ xs. o ∷ xs) more.0, more.1)

last-same : (found : Found) (one other : List ℕ) → IsLast found one → IsLast found other → one ≡ other
last-same ended one other first second = first ∙ sym second
last-same cut one other first second = first ∙ sym second
last-same (refused code) one other first second = first ∙ sym second
last-same (whole request used) one other first second = absurd first

lasts-same : (goes : Bool) (rest one other : List ℕ) → LastIn goes rest one → LastIn goes rest other → one ≡ other
lasts-same true rest one other first second =
    last-same first.0 one other first.2 (subst (λ f. IsLast f other) (next_unique rest second.0 first.0 second.1 first.1) second.2)
lasts-same false rest one other first second = first ∙ sym second

text-same : (meta : Records) (input : List ℕ) (moments : List ℤ) (one other : List ℕ) → IsTextOver meta input moments one
    → IsTextOver meta input moments other → other ≡ one
text-same meta input moments one other first second =
    let both = requests-same input second.requests first.requests second.rest first.rest (sym second.each ∙ first.each) second.found first.found in
    let last = lasts-same (goes_on first.requests) first.rest second.last first.last
    (subst (λ rs. LastIn (goes_on rs) first.rest second.last) both.0 (subst (λ r. LastIn (goes_on second.requests) r second.last) both.1 second.ends))
    first.ends in
    second.text_is ∙ ap (λ rs. replies_of meta 0 start rs moments ++ second.last) both.0 ∙ ap (λ l. replies_of meta 0 start first.requests moments ++ l) last
    ∙ sym first.text_is

one-over : (read : Result Records MetaFault) (input : List ℕ) (moments : List ℤ) (one other : List ℕ) → IsTextBy read input moments one
    → IsTextBy read input moments other → other ≡ one
one-over (Ok meta) input moments one other first second = text-same meta (counting input) moments one other first second
one-over (Err fault) input moments one other first second = second ∙ sym first

one-text : (file input : List ℕ) (moments : List ℤ) (text : List ℕ) → IsText file input moments text → IsOneText file input moments text
one-text file input moments text is = (
  is,
  λ other also.
      one-over is.0 input moments text other is.2
      (subst (λ (found : Result Records MetaFault). IsTextBy found input moments other) (one-metadata file also.0 is.0 also.1 is.1) also.2),
)

-- ---- the replies to the requests

-- at moments that the clock shows, these are the replies, or they break off
record GoesAlong (shows : ℤ → Type 0) (meta : Records) (before : ℕ) (state : State) (requests : List Request) (text : List ℕ) : Type 0 where
  moments : List ℤ
  shown : AllByRecursion shows moments
  is : ((length moments ≡ length requests) × (text ≡ replies_of meta before state requests moments)) ⊎ BreaksOff meta before state requests moments text

-- three texts and more, from the first on
front : (reply rest last more : List ℕ) → reply ++ ((rest ++ last) ++ more) ≡ ((reply ++ rest) ++ last) ++ more
front reply rest last more = sym (append_assoc reply (rest ++ last) more) ∙ ap (λ xs. xs ++ more) (sym (append_assoc reply rest last))

-- the first reply is the response, and the others follow from its state
with-response : (meta : Records) (before : ℕ) (state after : State) (request : Request) (requests : List Request) (moment : ℤ) (moments : List ℤ)
    (reply beyond : List ℕ)
    → Is (response_of meta largest state moment request (keeps most_requests before request)) reply after
    → beyond ≡ replies_of meta (before + 1) after requests moments
    → reply ++ beyond ≡ replies_of meta before state (request ∷ requests) (moment ∷ moments)
with-response meta before state after request requests moment moments reply beyond is beyond_is =
    let first = response_of meta largest state moment request (keeps most_requests before request) in
    ap (λ xs. reply ++ xs) beyond_is
    ∙ ap (λ xs. xs ++ replies_of meta (before + 1) after requests moments) is.0
    ∙ ap (λ (s : State). first.text ++ replies_of meta (before + 1) s requests moments) is.1

-- by whether the others break off
with-others : (meta : Records) (before : ℕ) (state after : State) (request : Request) (requests : List Request) (moment : ℤ) (moments : List ℤ)
    (reply beyond text : List ℕ)
    → Is (response_of meta largest state moment request (keeps most_requests before request)) reply after → text ≡ reply ++ beyond
    → ((length moments ≡ length requests) × (beyond ≡ replies_of meta (before + 1) after requests moments))
    ⊎ BreaksOff meta (before + 1) after requests moments beyond
    → ((length (moment ∷ moments) ≡ length (request ∷ requests)) × (text ≡ replies_of meta before state (request ∷ requests) (moment ∷ moments)))
    ⊎ BreaksOff meta before state (request ∷ requests) (moment ∷ moments) text
with-others meta before state after request requests moment moments reply beyond text is text_is (inl all) =
    let each = all.0 in
    let as_many : length (moment ∷ moments) ≡ length (request ∷ requests) = omega (arith, each) in
    inl (as_many, text_is ∙ with-response meta before state after request requests moment moments reply beyond is all.1)
with-others meta before state after request requests moment moments reply beyond text is text_is (inr breaks) =
    let rest = replies_of meta (before + 1) after (take breaks.0 requests) moments in
    inr (
      suc breaks.0,
      breaks.1,
      breaks.2,
      text_is ∙ ap (λ xs. reply ++ xs) breaks.3 ∙ front reply rest (memory_reply breaks.1) breaks.2
          ∙ ap (λ xs. (xs ++ memory_reply breaks.1) ++ breaks.2)
          (with-response meta before state after request (take breaks.0 requests) moment moments reply rest is refl),
    )

-- a step of the session at a moment: its reply is the response, or says that memory ran out
one-step : (shows : ℤ → Type 0) (meta : Records) (before : ℕ) (old next : Seen) (request : Request) (requests : List Request) (made : Option (List ℕ))
    (moment : ℤ) (reply beyond text : List ℕ)
    → old.meta ≡ meta → old.limits ≡ largest → shows moment → next.faults ≡ 0
    → ReplyAt old moment request (keeps most_requests before request) made next → reply ≡ text_of (keeps most_requests before request) made
    → text ≡ reply ++ beyond → GoesAlong shows meta (before + 1) next.state requests beyond
    → GoesAlong shows meta before old.state (request ∷ requests) text
one-step shows meta before old next request requests None moment reply beyond text meta_is limits_is shown none replies reply_text text_is along = record {
  moments = [];
  shown = tt;
  is = inr (0, keeps most_requests before request, beyond, text_is ∙ ap (λ xs. xs ++ beyond) reply_text);
}
one-step shows meta before old next request requests (Some told) moment reply beyond text meta_is limits_is shown none replies reply_text text_is along =
    let keep = keeps most_requests before request in
    let here = reply_is old next moment request keep told none replies in
    let response = subst (λ (m : Records). Is (response_of m largest old.state moment request keep) reply next.state) meta_is
    (subst (λ (l : Limits). Is (response_of old.meta l old.state moment request keep) reply next.state) limits_is (reply_text ∙ here.0, here.1)) in
    record {
      moments = moment ∷ along.moments;
      shown = (shown, along.shown);
      is = with-others meta before old.state next.state request requests moment along.moments reply beyond text response text_is along.is;
    }

along : (shows : ℤ → Type 0) (meta : Records) (before : ℕ) (old new : Seen) (requests : List Request) (text : List ℕ) → old.meta ≡ meta
    → old.limits ≡ largest → Replies (SessionStep shows) most_requests before old requests text new → GoesAlong shows meta before old.state requests text
along shows meta before old new [] text meta_is limits_is given = record { moments = []; shown = tt; is = inl (refl, given.0) }
along shows meta before old new (request ∷ requests) text meta_is limits_is given =
    let step = given.3.0.step in
    let kept = reply-keeps old given.2 step.moment request (keeps most_requests before request) step.made step.replies in
    one-step shows meta before old given.2 request requests step.made step.moment given.0 given.1 text meta_is limits_is step.shown given.3.1 step.replies
    step.text_is given.5
    (along shows meta (before + 1) given.2 new requests given.1 (kept.meta ∙ meta_is) (kept.limits ∙ limits_is) given.4)

-- ---- what is written after them

both-true : (all : Bool) (m n : ℕ) → all ≡ true → m < n → (all && nat_lt m n) ≡ true
both-true all m n is less = ap (λ b. b && nat_lt m n) is ∙ (let test : nat_lt m n ≡ true = grind (arith, nat_tests) in test)

and-false : (all : Bool) (m n : ℕ) → m ≡ n → (all && nat_lt m n) ≡ false
and-false true m n same = grind (arith, nat_tests)
and-false false m n same = refl

closes : (all keep : Bool) → keep ≡ false → (all && (keep && true)) ≡ false
closes true keep is = ap (λ b. b && true) is
closes false keep is = refl

asks-to-close : (requests : List Request) → AsksToClose most_requests requests → goes_on requests ≡ false
asks-to-close requests asks =
    ap (λ b. b && nat_lt (length requests) most_requests)
    (ap (list_all (λ request. request.keep)) asks.2.0 ∙ list_all-append (λ request. request.keep) asks.0 (asks.1 ∷ [])
    ∙ closes (list_all (λ request. request.keep) asks.0) asks.1.keep asks.3)

on : (requests : List Request) (rest last : List ℕ) (found : Found) → GoesOn most_requests requests → IsNext rest found → IsLast found last
    → LastIn (goes_on requests) rest last
on requests rest last found goes next is =
    subst (λ b. LastIn b rest last) (sym (both-true (list_all (λ request. request.keep) requests) (length requests) most_requests goes.0 goes.1))
    (found, next, is)

off : (requests : List Request) (rest last : List ℕ) → goes_on requests ≡ false → last ≡ [] → LastIn (goes_on requests) rest last
off requests rest last closed is = subst (λ b. LastIn b rest last) (sym closed) is

-- what is decided is written so, or it says that memory ran out
ends-in : (requests : List Request) (rest last : List ℕ) (ended_so : Ended) → is_decided ended_so ≡ true
    → EndsBy most_requests requests rest ⊤ ended_so last → LastIn (goes_on requests) rest last ⊎ (last ≡ memory_reply false)
ends-in requests rest last how.Closed decided ends = inl (closed ends.1)
  where
    closed : AsksToClose most_requests requests ⊎ (GoesOn most_requests requests × IsNext rest ended × ⊤) → LastIn (goes_on requests) rest last
    closed (inl asks) = off requests rest last (asks-to-close requests asks) ends.0
    closed (inr goes) = on requests rest last ended goes.0 goes.1 ends.0
ends-in requests rest last how.Truncated decided ends = inl (on requests rest last cut ends.1 ends.2 ends.0)
ends-in requests rest last (how.Refused code) decided ends = refusal ends.2
  where
    refusal : (last ≡ refused_text code) ⊎ (last ≡ memory_reply false) → LastIn (goes_on requests) rest last ⊎ (last ≡ memory_reply false)
    refusal (inl is) = inl (on requests rest last (refused code) ends.0 ends.1 is)
    refusal (inr lacks) = inr lacks
ends-in requests rest last how.Limit decided ends =
    inl (off requests rest last (and-false (list_all (λ request. request.keep) requests) (length requests) most_requests ends.1.0) ends.0)
ends-in requests rest last how.ReadFault decided ends = absurd (cc)
ends-in requests rest last how.WriteFault decided ends = absurd (cc)
ends-in requests rest last how.Memory decided ends = absurd (cc)

-- ---- the whole session

-- it breaks off in the replies, or in what is written after them
broken-before : (meta : Records) (requests : List Request) (moments : List ℤ) (replies last text : List ℕ) → text ≡ replies ++ last
    → BreaksOff meta 0 start requests moments replies → BreaksOff meta 0 start requests moments text
broken-before meta requests moments replies last text whole_is breaks =
    let rest = replies_of meta 0 start (take breaks.0 requests) moments in (
      breaks.0,
      breaks.1,
      breaks.2 ++ last,
      whole_is ∙ ap (λ xs. xs ++ last) breaks.3 ∙ append_assoc (rest ++ memory_reply breaks.1) breaks.2 last,
    )

broken-after : (meta : Records) (requests : List Request) (moments : List ℤ) (replies last text : List ℕ) → text ≡ replies ++ last
    → replies ≡ replies_of meta 0 start requests moments → last ≡ memory_reply false → BreaksOff meta 0 start requests moments text
broken-after meta requests moments replies last text whole_is replies_is lacks = (
  length requests,
  false,
  [],
  whole_is ∙ ap (λ xs. xs ++ last) replies_is ∙ ap (λ xs. replies_of meta 0 start requests moments ++ xs) lacks
      ∙ ap (λ (rs : List Request). replies_of meta 0 start rs moments ++ memory_reply false) (sym (take-length requests))
      ∙ sym (append-nil (replies_of meta 0 start (take (length requests) requests) moments ++ memory_reply false)),
)

by-ends : (file input text : List ℕ) (meta : Records) (requests : List Request) (rest replies last : List ℕ) (moments : List ℤ)
    → IsMetadata file (Ok meta) → Requests (counting input) requests rest → text ≡ replies ++ last
    → ((length moments ≡ length requests) × (replies ≡ replies_of meta 0 start requests moments)) ⊎ BreaksOff meta 0 start requests moments replies
    → LastIn (goes_on requests) rest last ⊎ (last ≡ memory_reply false)
    → IsOneText file input moments text ⊎ BreaksOffOver file input moments text
by-ends file input text meta requests rest replies last moments meta_is found whole_is (inl all) (inl ends) =
    let over : IsTextOver meta (counting input) moments text = record {
      requests = requests;
      rest = rest;
      found = found;
      each = all.0;
      last = last;
      ends = ends;
      text_is = whole_is ∙ ap (λ xs. xs ++ last) all.1;
    } in
    inl (one-text file input moments text (Ok meta, meta_is, over))
by-ends file input text meta requests rest replies last moments meta_is found whole_is (inl all) (inr lacks) =
    inr (record {
      meta = meta;
      meta_is = meta_is;
      requests = requests;
      rest = rest;
      found = found;
      breaks = broken-after meta requests moments replies last text whole_is all.1 lacks;
    })
by-ends file input text meta requests rest replies last moments meta_is found whole_is (inr breaks) ends =
    inr (record {
      meta = meta;
      meta_is = meta_is;
      requests = requests;
      rest = rest;
      found = found;
      breaks = broken-before meta requests moments replies last text whole_is breaks;
    })

session-text : (shows : ℤ → Type 0) (file input text : List ℕ) (meta : Records) (new : Seen) (ended_so : Ended) → IsMetadata file (Ok meta)
    → is_decided ended_so ≡ true → Session (SessionStep shows) most_requests (counting input) ⊤ (started meta) new ended_so text
    → WritesText shows file input text
session-text shows file input text meta new ended_so meta_is decided session =
    let replies = along shows meta 0 (started meta) new session.requests session.replies refl refl session.served in
    record {
      moments = replies.moments;
      shown = replies.shown;
      is = by-ends file input text meta session.requests session.rest session.replies session.last replies.moments meta_is session.found session.whole
          replies.is (ends-in session.requests session.rest session.last ended_so decided session.ends);
    }

refused-text : (shows : ℤ → Type 0) (file input : List ℕ) (found : MetaFault) → IsMetadata file (Err found)
    → WritesText shows file input (refusal_line found)
refused-text shows file input found is = record {
  moments = [];
  shown = tt;
  is = inl (one-text file input [] (refusal_line found) (Err found, is, refl));
}

written-whole : (ended_so : Ended) (written written' : Option (List ℕ)) (text : List ℕ) → is_decided ended_so ≡ true
    → WritesUpTo ended_so written written' text → Appends written written' text
written-whole how.Closed written written' text decided writes = writes
written-whole how.Truncated written written' text decided writes = writes
written-whole (how.Refused code) written written' text decided writes = writes
written-whole how.Limit written written' text decided writes = writes
written-whole how.ReadFault written written' text decided writes = absurd (cc)
written-whole how.WriteFault written written' text decided writes = absurd (cc)
written-whole how.Memory written written' text decided writes = absurd (cc)

-- what it wrote
pub text_over : (shows : ℤ → Type 0) (file input : List ℕ) (written written' : Option (List ℕ)) (ended_so : SessionEnd) → is_over ended_so ≡ true
    → SessionOverAll shows file input written written' ended_so → WritesOne shows file input written written'
text_over shows file input written written' end.Refused done over =
    (refusal_line over.0, over.2, refused-text shows file input over.0 over.1)
text_over shows file input written written' end.Unwritten done over = absurd (cc)
text_over shows file input written written' (end.Ended ended_so) done over =
    let ran = over.2.1 in
    (ran.0, written-whole ended_so written written' ran.0 done ran.2, session-text shows file input ran.0 over.0 over.2.0 ended_so over.1 done ran.1)
text_over shows file input written written' end.Memory done over = absurd (cc)
