-- What a server over a metadata file came to.
use Rattle.std.proofs.Common.{◌≡◌, ◌≤◌, ◌+◌, ◌∙◌, inl, inr, ℕ, List, ◌++◌, Option, None, Some, Result, Ok, Err, length, take, drop, refl, sym, ap, subst, arith}
use Rattle.std.proofs.Common.{take-append-drop}
use Rattle.std.specs.Prelude.{OnErr}
use Rattle.std.specs.Option.{option_map}
use Rattle.std.specs.Io.KnownBytes.{Appends, Keeps}
use Rattle.dh_outside.specs.Faults.{Rose}
use Rattle.dh_outside.specs.Talk.{Talk, Says}
use Rattle.dh_outside.specs.declared.Failed.{Failed}
use Rattle.dh_metadata.specs.declared.held.Records.{Records}
use Rattle.meta_reader.specs.Read.{IsMetadata}
use Rattle.meta_reader.proofs.OneMetadata.{some-metadata}
use Rattle.meta_reader.specs.declared.fault.MetaFault.{MetaFault}
use Rattle.net_doors.specs.Doors.{Shown}
use Rattle.net_doors.specs.Serving.{Serving, EndsBy}
use Rattle.net_doors.specs.declared.ending.Ending.{Ending}
use Rattle.net_doors.specs.declared.ending.Ending.TheVariants as ending
use Rattle.request_session.specs.Session.{AppendsFront}
use Rattle.shared_engine.specs.Entries.{Entry}
use Rattle.shared_engine.specs.Histories.{Made}
use Rattle.shared_engine.specs.Views.{TokenView}
use Rattle.shared_server.specs.Links.{Answers, Serves}
use Rattle.shared_server.specs.OverFile.{served_line, Completes, Finishes, ServesMeta, ServesOver, ServesTold, Tells}
use Rattle.shared_server.specs.declared.over_file.ServeEnd.{ServeEnd}
use Rattle.shared_server.specs.declared.over_file.ServeEnd.TheVariants as end

-- ---- what was written

-- a prefix that was written
pub front_written : {T : Type 0} (result : Result T Failed) (old new : Option (List ℕ)) (talk talk' : Option Talk) (text : List ℕ)
    → OnErr result ((count : ℕ) × (count ≤ length text) × Appends old new (take count text) × Says talk talk' (take count text))
    → OnErr result (AppendsFront old new text)
front_written (Ok v) old new talk talk' text front = tt
front_written (Err e) old new talk talk' text front = (take front.0 text, drop front.0 text, sym (take-append-drop front.0 text), front.2)

pub kept : (written : Option (List ℕ)) → Keeps written written
kept None = tt
kept (Some bytes) = refl

-- ---- from where the listener began to listen back to where it stood before

rose_from : (old mid new : ℕ) → old ≤ mid → Rose mid new → Rose old new
rose_from old mid new least (inl rises) = inl (omega arith)
rose_from old mid new least (inr full) = inr full

ends_from : {N : Type 0} (how : Ending) (before mid after : Shown N) (most count : ℕ) → before.faults ≤ mid.faults → EndsBy how mid after most count
    → EndsBy how before after most count
ends_from ending.Enough before mid after most count least ends = ends
ends_from ending.Closed before mid after most count least ends = ends
ends_from ending.ListenFault before mid after most count least ends = rose_from before.faults mid.faults after.faults least ends

serving_from : {N P : Type 0} (Served : N → P → Type 0) (before mid after : Shown N) (most count out : ℕ) (lefts : List P) → mid.accepted ≡ before.accepted
    → mid.back ≡ before.back → before.faults ≤ mid.faults → Serving Served mid after most count out lefts → Serving Served before after most count out lefts
serving_from Served before mid after most count out lefts accepted back least was = record {
  back = was.back;
  counted = was.counted;
  accepted = was.accepted ∙ ap (λ (n : ℕ). n + count) accepted;
  told = was.told ∙ ap (λ links. option_map (λ all. all ++ was.back) links) back;
  served = was.served;
  bound = was.bound;
  faults = omega (arith, least, was.faults);
}

serves_from : {N : Type 0} (U : N → Type 0) (A : Made → TokenView Entry → N → N → Type 0) (before mid after : Shown N) (meta : Records) (most count : ℕ)
    (how : Ending) → mid.accepted ≡ before.accepted → mid.back ≡ before.back → before.faults ≤ mid.faults → Serves U A mid after meta most count how
    → Serves U A before after meta most count how
serves_from U A before mid after meta most count how accepted back least was = record {
  made = was.made;
  made_for = was.made_for;
  served = record {
    whole = was.served.whole;
    legal = was.served.legal;
    callers = was.served.callers;
    links = record {
      links = serving_from (Answers U (A was.made)) before mid after most count 0 was.served.callers accepted back least was.served.links.links;
      ends = ends_from how before mid after most count least was.served.links.ends;
    };
    theirs = was.served.theirs;
    unseen = was.served.unseen;
  };
}

tells : {N : Type 0} (U : N → Type 0) (A : Made → TokenView Entry → N → N → Type 0) (before after : Shown N) (meta : Records) (most count : ℕ)
    (written written' : Option (List ℕ)) (result : ServeEnd) → Completes U A before after meta most count → Tells count written written' result
    → ServesMeta U A before after most meta written written' result
tells U A before after meta most count written written' end.Refused was told = absurd told
tells U A before after meta most count written written' end.Unwritten was told = (count, was, told)
tells U A before after meta most count written written' (end.Served links) was told =
    subst (λ n. Completes U A before after meta most n × Appends written written' (served_line n)) (sym told.0) (was, told.1)
tells U A before after meta most count written written' end.ListenFault was told = absurd told
tells U A before after meta most count written written' end.Memory was told = (told, inr (count, was))

finishes : {N : Type 0} (U : N → Type 0) (A : Made → TokenView Entry → N → N → Type 0) (before after : Shown N) (meta : Records) (most count : ℕ) (how : Ending)
    (written written' : Option (List ℕ)) (result : ServeEnd) → Serves U A before after meta most count how → Finishes how count written written' result
    → ServesMeta U A before after most meta written written' result
finishes U A before after meta most count ending.Enough written written' result was told =
    tells U A before after meta most count written written' result (record { how = ending.Enough; complete = λ is. absurd (cc); serves = was }) told
finishes U A before after meta most count ending.Closed written written' result was told =
    tells U A before after meta most count written written' result (record { how = ending.Closed; complete = λ is. absurd (cc); serves = was }) told
finishes U A before after meta most count ending.ListenFault written written' result was told =
    subst (ServesMeta U A before after most meta written written') (sym told.0) (was.served.links.ends, told.1, inr (count, was))

-- links were served once the listener listened
pub listened : {N : Type 0} (U : N → Type 0) (A : Made → TokenView Entry → N → N → Type 0) (before mid after : Shown N) (most : ℕ) (meta : Records)
    (written written' : Option (List ℕ)) (result : ServeEnd) → mid.accepted ≡ before.accepted → mid.back ≡ before.back → before.faults ≤ mid.faults
    → ServesTold U A mid after most meta written written' result → ServesMeta U A before after most meta written written' result
listened U A before mid after most meta written written' result accepted back least was =
    finishes U A before after meta most was.0 was.1 written written' result
    (serves_from U A before mid after meta most was.0 was.1 accepted back least was.2) was.3

-- ---- out of memory while the file was read

unread-by : {N : Type 0} (U : N → Type 0) (A : Made → TokenView Entry → N → N → Type 0) (shown : Shown N) (most : ℕ) (bytes : List ℕ)
    (written : Option (List ℕ)) (found : Result Records MetaFault) → IsMetadata bytes found → ServesOver U A shown shown most bytes written written end.Memory
unread-by U A shown most bytes written (Ok meta) is = inr (meta, is, (kept written, inl refl))
unread-by U A shown most bytes written (Err found) is = inl (found, is, kept written, refl)

pub unread : {N : Type 0} (U : N → Type 0) (A : Made → TokenView Entry → N → N → Type 0) (shown : Shown N) (most : ℕ) (bytes : List ℕ)
    (written : Option (List ℕ)) → ServesOver U A shown shown most bytes written written end.Memory
unread U A shown most bytes written = let file = some-metadata bytes in unread-by U A shown most bytes written file.0 file.1
