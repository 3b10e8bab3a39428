-- Servers over a metadata file, told as what a run of the command may do.
use Rattle.std.proofs.Common.{◌≡◌, ◌≢◌, ◌⊎◌, inl, inr, ℕ, ℤ, true, false, List, Option, None, Some, IfSome, Ok, Err}
use Rattle.std.proofs.Common.{refl, sym, subst, arith}
use Rattle.dh_outside.specs.Faults.{Rose}
use Rattle.dh_metadata.specs.declared.held.Records.{Records}
use Rattle.meta_reader.specs.Read.{IsMetadata}
use Rattle.meta_reader.specs.declared.fault.MetaFault.{MetaFault}
use Rattle.net_doors.specs.Doors as doors
use Rattle.net_doors.specs.Serving.{EndsBy}
use Rattle.net_doors.specs.declared.ending.Ending.{Ending}
use Rattle.net_doors.specs.declared.ending.Ending.TheVariants as ending
use Rattle.shared_engine.specs.Entries.{Entry}
use Rattle.shared_engine.specs.Histories.{Made}
use Rattle.shared_engine.specs.Views.{TokenView}
use Rattle.shared_server.specs.OverFile.{Completes, Refuses, ServesMeta, ServesOver}
use Rattle.shared_server.specs.declared.over_file.ServeEnd.{ServeEnd}
use Rattle.shared_server.specs.declared.over_file.ServeEnd.TheVariants as end
use Rattle.dhis_main.specs.Shown.{Side, Folder, Shown}
use Rattle.dhis_main.specs.Outcome.{word_at}
use Rattle.dhis_main.specs.Words.{serving_of}
use Rattle.dhis_main.specs.Run.{RunsBy, RefusesWords, Runs, AnswersBy, AnswersTold, is_bad}
use Rattle.dhis_main.specs.Serve.{status_by, ServeRuns, ServesAll}
use Rattle.dhis_main.specs.declared.words.Command.{Command}
use Rattle.dhis_main.specs.declared.words.Command.TheVariants as command
use Rattle.dhis_main.specs.declared.status.Outcome.TheVariants as outcome
use Rattle.dhis_main.specs.declared.status.Status.{Status}
use Rattle.dhis_main.specs.declared.status.Status.TheVariants as status

-- ---- all links were served

ends-well : {N : Type 0} (how : Ending) (before after : doors.Shown N) (most count : ℕ) → how ≢ ending.ListenFault → EndsBy how before after most count
    → (count ≡ most) ⊎ (after.closed ≡ true)
ends-well ending.Enough before after most count well ends = inl ends
ends-well ending.Closed before after most count well ends = inr ends
ends-well ending.ListenFault before after most count well ends = absurd (well refl)

serves-all : {N : Type 0} (U : N → Type 0) (A : Made → TokenView Entry → N → N → Type 0) (before after : doors.Shown N) (meta : Records) (most count : ℕ)
    → Completes U A before after meta most count → ServesAll U A before after meta most count
serves-all U A before after meta most count was = let served = was.serves.served.links.links in record {
  accepted = served.accepted;
  few = served.bound;
  ends = ends-well was.how before after most count was.complete was.serves.served.links.ends;
  made = was.serves.made;
  made_for = was.serves.made_for;
  whole = was.serves.served.whole;
  legal = was.serves.served.legal;
  back = served.back;
  many = let c = served.counted in omega arith;
  told = served.told;
  callers = was.serves.served.callers;
  answered = served.served;
  theirs = was.serves.served.theirs;
  unseen = was.serves.served.unseen;
}

-- ---- what a server came to, as a status

over-meta : {N : Type 0} (U : N → Type 0) (A : Made → TokenView Entry → N → N → Type 0) (most : ℕ) (name : List ℕ) (files : Folder) (output : Side)
    (before after : doors.Shown N) (bytes : List ℕ) (meta : Records) (how : ServeEnd) → IfSome (files.file name) (λ all. bytes ≡ all)
    → IsMetadata bytes (Ok meta) → (how ≡ end.Unwritten → Rose output.faults output.faults_after)
    → ServesMeta U A before after most meta output.before output.after how → ServeRuns U A most name files output before after (status_by how)
over-meta U A most name files output before after bytes meta end.Refused told is rose came = absurd came
over-meta U A most name files output before after bytes meta end.Unwritten told is rose came =
    (rose refl, inr (bytes, told, (meta, is, (came.0, serves-all U A before after meta most came.0 came.1, came.2))))
over-meta U A most name files output before after bytes meta (end.Served count) told is rose came =
    (bytes, told, (meta, is, (count, serves-all U A before after meta most count came.0, came.1)))
over-meta U A most name files output before after bytes meta end.ListenFault told is rose came = (came.0, came.1, (bytes, told, (meta, is, came.2)))
over-meta U A most name files output before after bytes meta end.Memory told is rose (kept, inl same) = (kept, inl same)
over-meta U A most name files output before after bytes meta end.Memory told is rose (kept, inr all) =
    (kept, inr (bytes, told, (meta, is, (all.0, serves-all U A before after meta most all.0 all.1))))

refused : {N : Type 0} (U : N → Type 0) (A : Made → TokenView Entry → N → N → Type 0) (most : ℕ) (name : List ℕ) (files : Folder) (output : Side)
    (before after : doors.Shown N) (bytes : List ℕ) (found : MetaFault) (how : ServeEnd) → IfSome (files.file name) (λ all. bytes ≡ all)
    → IsMetadata bytes (Err found) → (how ≡ end.Unwritten → Rose output.faults output.faults_after)
    → Refuses found output.before output.after how → after ≡ before → ServeRuns U A most name files output before after (status_by how)
refused U A most name files output before after bytes found end.Refused told is rose came same = ((bytes, told, (found, is, came)), same)
refused U A most name files output before after bytes found end.Unwritten told is rose came same = (rose refl, inl ((bytes, told, (found, is, came)), same))
refused U A most name files output before after bytes found (end.Served count) told is rose came same = absurd came
refused U A most name files output before after bytes found end.ListenFault told is rose came same = absurd came
refused U A most name files output before after bytes found end.Memory told is rose came same = (came, inl same)

by-over : {N : Type 0} (U : N → Type 0) (A : Made → TokenView Entry → N → N → Type 0) (most : ℕ) (name : List ℕ) (files : Folder) (output : Side)
    (before after : doors.Shown N) (bytes : List ℕ) (how : ServeEnd) → IfSome (files.file name) (λ all. bytes ≡ all)
    → (how ≡ end.Unwritten → Rose output.faults output.faults_after) → ServesOver U A before after most bytes output.before output.after how
    → ServeRuns U A most name files output before after (status_by how)
by-over U A most name files output before after bytes how told rose (inl came) =
    refused U A most name files output before after bytes came.0 how told came.1 rose came.2 came.3
by-over U A most name files output before after bytes how told rose (inr came) =
    over-meta U A most name files output before after bytes came.0 how told came.1 rose came.2

-- a server over the bytes of the file
pub served : {N : Type 0} (U : N → Type 0) (A : Made → TokenView Entry → N → N → Type 0) (most : ℕ) (name : List ℕ) (files : Folder) (output : Side)
    (before after : doors.Shown N) (bytes : List ℕ) (how : ServeEnd) (result : Status) → result ≡ status_by how
    → IfSome (files.file name) (λ all. bytes ≡ all) → (how ≡ end.Unwritten → Rose output.faults output.faults_after)
    → ServesOver U A before after most bytes output.before output.after how → ServeRuns U A most name files output before after result
served U A most name files output before after bytes how result is told rose over =
    subst (ServeRuns U A most name files output before after) (sym is) (by-over U A most name files output before after bytes how told rose over)

-- metadata that are refused before the listener is called
pub refused_by : {N : Type 0} (U : N → Type 0) (A : Made → TokenView Entry → N → N → Type 0) (most : ℕ) (name : List ℕ) (files : Folder) (output : Side)
    (shown : doors.Shown N) (bytes : List ℕ) (found : MetaFault) (how : ServeEnd) (result : Status) → result ≡ status_by how
    → IfSome (files.file name) (λ all. bytes ≡ all) → IsMetadata bytes (Err found)
    → (how ≡ end.Unwritten → Rose output.faults output.faults_after) → Refuses found output.before output.after how
    → ServeRuns U A most name files output shown shown result
refused_by U A most name files output shown bytes found how result is told at rose came =
    subst (ServeRuns U A most name files output shown shown) (sym is) (refused U A most name files output shown shown bytes found how told at rose came refl)

-- ---- by what the words ask for

pub by_serving : {N : Type 0} (U : N → Type 0) (A : Made → TokenView Entry → N → N → Type 0) (asked : Option (ℕ × ℕ)) (numbers : ℕ × ℕ) (most : ℕ)
    (words : List (List ℕ)) (name : List ℕ) (shows : ℤ → Type 0) (shown : Shown) (before after : doors.Shown N) (result : Status) → asked ≡ Some numbers
    → most ≡ numbers.1 → word_at words 1 ≡ name → shown.input.after ≡ shown.input.before
    → ServeRuns U A most name shown.files shown.output before after result → RunsBy U A asked words shows shown before after result
by_serving U A asked numbers most words name shows shown before after result is many second same run =
    subst (λ o. RunsBy U A o words shows shown before after result) (sym is) (
      same,
      subst (λ n. ServeRuns U A numbers.1 n shown.files shown.output before after result) (sym second)
          (subst (λ n. ServeRuns U A n name shown.files shown.output before after result) many run),
    )

pub unasked : (asked : Option (ℕ × ℕ)) (numbers : ℕ × ℕ) (words : List (List ℕ)) (shows : ℤ → Type 0) (shown : Shown) (result : Status)
    → asked ≡ Some numbers → AnswersBy asked words shows shown result
unasked asked numbers words shows shown result is = subst (λ o. AnswersBy o words shows shown result) (sym is) tt

pub by_other : {N : Type 0} (U : N → Type 0) (A : Made → TokenView Entry → N → N → Type 0) (asked : Option (ℕ × ℕ)) (words : List (List ℕ)) (shows : ℤ → Type 0)
    (shown : Shown) (kept : doors.Shown N) (result : Status) → asked ≡ None → Runs words shows shown result
    → RunsBy U A asked words shows shown kept kept result
by_other U A asked words shows shown kept result is run =
    subst (λ o. RunsBy U A o words shows shown kept kept result) (sym is) (run, refl)

pub answers_other : (asked : Option (ℕ × ℕ)) (words : List (List ℕ)) (shows : ℤ → Type 0) (shown : Shown) (result : Status) → asked ≡ None
    → AnswersTold words shows shown result → AnswersBy asked words shows shown result
answers_other asked words shows shown result is answers = subst (λ o. AnswersBy o words shows shown result) (sym is) answers

-- ---- a server's words are in the grammar

asked-well : (c : Command) (numbers : ℕ × ℕ) → serving_of c ≡ Some numbers → is_bad c ≡ false
asked-well (command.Serve workers connections) numbers is = refl
asked-well command.Help numbers is = absurd (cc)
asked-well command.Version numbers is = absurd (cc)
asked-well command.Query numbers is = absurd (cc)
asked-well command.Session numbers is = absurd (cc)
asked-well (command.Generate count) numbers is = absurd (cc)
asked-well (command.Bad place) numbers is = absurd (cc)

pub serves_words : {N : Type 0} (U : N → Type 0) (A : Made → TokenView Entry → N → N → Type 0) (most : ℕ) (name : List ℕ) (files : Folder) (output : Side)
    (before after : doors.Shown N) (c : Command) (numbers : ℕ × ℕ) (result : Status) → serving_of c ≡ Some numbers
    → ServeRuns U A most name files output before after result → RefusesWords c result
serves_words U A most name files output before after c numbers (status.Done outcome.Ok) is run = sym (asked-well c numbers is)
serves_words U A most name files output before after c numbers (status.Done outcome.MetaRefused) is run = sym (asked-well c numbers is)
serves_words U A most name files output before after c numbers (status.Done outcome.Usage) is run = absurd run
serves_words U A most name files output before after c numbers (status.Done outcome.QueryRefused) is run = absurd run
serves_words U A most name files output before after c numbers (status.Done outcome.DataRefused) is run = absurd run
serves_words U A most name files output before after c numbers (status.Done outcome.RequestLimit) is run = absurd run
serves_words U A most name files output before after c numbers (status.Done outcome.Truncated) is run = absurd run
serves_words U A most name files output before after c numbers (status.Done outcome.WireRefused) is run = absurd run
serves_words U A most name files output before after c numbers status.ReadFault is run = asked-well c numbers is
serves_words U A most name files output before after c numbers status.WriteFault is run = tt
serves_words U A most name files output before after c numbers status.Memory is run = tt
serves_words U A most name files output before after c numbers status.ListenFault is run = asked-well c numbers is
