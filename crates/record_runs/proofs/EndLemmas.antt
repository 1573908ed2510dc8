-- How a run ends, from what it has taken and written.
use Rattle.std.proofs.Common.{◌≡◌, ℕ, ◌+◌, ◌≤◌, ◌<◌, ◌↔◌, List, [], ◌++◌, length, refl, sym, ap, ◌∙◌, arith, Option, Some, Ok, Err, Result, inl, inr, drop, OnOk, MatchResult}
use Rattle.std.proofs.lemmas.List.{append-nil, length-append}
use Rattle.pg_io.specs.Io.{WhereTold, Gives, Takes, TakesAtMost, Grows, GrowsByPrefix, HasRisen}
use Rattle.pg_io.proofs.Growth.{Takes-then, Takes-gives, TakesAtMost-taken, Grows-then, GrowsByPrefix-whole, GrowsByPrefix-then, GrowsByPrefix-more}
use Rattle.record_runs.specs.Texts.{Reads, Answers, input_limit}
use Rattle.record_runs.specs.Outcome.{Writes, WritesPart, Ports, ports, Outcome, IsCount, Counts}
use Rattle.record_runs.specs.Run.{IsCounted, IsAt, EndsAs, IsFront, Stops, Wrote, Stands, IsAllConsumed, FailsAt, end_of}
use Rattle.record_runs.specs.declared.main_loop.RunEnd.TheVariants.{Done, SomeRefused, BadInput, ReadFault, WriteFault, NoMemory}
use Rattle.record_runs.specs.declared.main_loop.Failure.{Failure}
use Rattle.record_runs.specs.declared.main_loop.Failure.TheVariants as failure
use Rattle.record_runs.specs.declared.main_loop.Stop.{Stop}
use Rattle.record_runs.specs.declared.main_loop.Stop.TheVariants as stop

module _ {Record Ending : Type 0} (format : Reads Record Ending) (job : Answers Record Ending) where
  -- the whole text was written
  Writes-whole : {input text : List ℕ} {ending : Ending} {count refused : ℕ} {written written' : Option (List ℕ)} → EndsAs format job input ending text count refused → Grows written written' (text ++ job.last_line count refused ending) → Writes format job input ending refused written written'
  Writes-whole {text = text} ends grows = record {
    records = ends.records;
    blocks = text;
    reading = ends.reading;
    answers = ends.answered.answers;
    counted = ends.answered.refuses;
    grows = rw ends.answered.counted at grows;
  }

  -- some first bytes of the blocks were written
  WritesPart-front : {input text : List ℕ} {written written' : Option (List ℕ)} → IsFront format job input text → GrowsByPrefix written written' text → WritesPart format job input written written'
  WritesPart-front {text = text} front grows = record {
    records = front.records;
    blocks = text;
    last = [];
    begins = front.begins;
    answers = front.answers;
    last_is = inl refl;
    grows = GrowsByPrefix-more [] grows;
  }

  -- the blocks were written, and some first bytes of the last line
  WritesPart-last : {input text : List ℕ} {ending : Ending} {count refused : ℕ} {written written' : Option (List ℕ)} → ((records : List Record) → format.IsReading input records ending → format.BeginsWith input records) → EndsAs format job input ending text count refused → GrowsByPrefix written written' (text ++ job.last_line count refused ending) → WritesPart format job input written written'
  WritesPart-last {text = text} {ending = ending} {refused = refused} has ends grows = record {
    records = ends.records;
    blocks = text;
    last = job.last_line (length ends.records) refused ending;
    begins = has ends.records ends.reading;
    answers = ends.answered.answers;
    last_is = inr (ending, refused, ends.reading, ends.answered.refuses, refl);
    grows = rw ends.answered.counted at grows;
  }

  -- where the ending was found, all records were counted
  pub ends-counts : {left : Option (List ℕ)} {text : List ℕ} {ending : Ending} {count refused : ℕ} → WhereTold left (λ input. EndsAs format job input ending text count refused) → WhereTold left (λ input. IsCount format job input count refused)
  ends-counts {ending = ending} ends = λ input told. let is = ends input told in
      record { records = is.records; ending = ending; reading = is.reading; count_is = is.answered.counted; refuses = is.answered.refuses }

  -- where the last line could not be written, nothing is said of what was counted
  pub failed-counts : (left : Option (List ℕ)) (count refused : ℕ) (failure : Failure) → Counts format job left count refused (end_of failure)
  failed-counts left count refused failure.WriteFault = tt
  failed-counts left count refused failure.NoMemory = tt

  module _ {start : Ports} {left written : Option (List ℕ)} {reads writes : ℕ} {text : List ℕ} (wrote : Wrote start (ports left reads written writes) text) where
    -- memory was wanting
    pub ends-no_memory : WhereTold start.left (λ input. IsFront format job input text) → Outcome format job start (ports left reads written writes) NoMemory
    ends-no_memory front = ((wrote.reads, wrote.writes), λ (input : List ℕ) (told : start.left ≡ Some input). WritesPart-front (front input told) (GrowsByPrefix-whole wrote.grows))

    -- a write of more blocks failed
    pub ends-cut : {written' : Option (List ℕ)} {writes' : ℕ} (more : List ℕ) → GrowsByPrefix written written' more × HasRisen writes writes' → WhereTold start.left (λ input. IsFront format job input (text ++ more)) → Outcome format job start (ports left reads written' writes') WriteFault
    ends-cut more failed front = (
      rw wrote.writes at failed.1,
      wrote.reads,
      λ (input : List ℕ) (told : start.left ≡ Some input). WritesPart-front (front input told) (GrowsByPrefix-then wrote.grows failed.0),
    )

    -- the last line of an input with this ending could not be written
    pub ends-failed : (ending : Ending) (count refused : ℕ) (written' : Option (List ℕ)) (writes' : ℕ) (failure : Failure) → ((input : List ℕ) (records : List Record) (end : Ending) → format.IsReading input records end → format.BeginsWith input records) → WhereTold start.left (λ input. EndsAs format job input ending text count refused) → FailsAt (job.last_line count refused ending) written written' writes writes' failure → Outcome format job start (ports left reads written' writes') (end_of failure)
    ends-failed ending count refused written' writes' failure.WriteFault has ends failed = (
      rw wrote.writes at failed.1,
      wrote.reads,
      λ (input : List ℕ) (told : start.left ≡ Some input). WritesPart-last (λ records. has input records ending) (ends input told) (GrowsByPrefix-then wrote.grows failed.0),
    )
    ends-failed ending count refused written' writes' failure.NoMemory has ends failed = (
      (wrote.reads, failed.1 ∙ wrote.writes),
      λ (input : List ℕ) (told : start.left ≡ Some input). let is = ends input told in
          WritesPart-front (record { records = is.records; begins = has input is.records ending is.reading; answers = is.answered.answers }) (rw failed.0 (GrowsByPrefix-whole wrote.grows)),
    )

    module _ {ending : Ending} {count refused : ℕ} {written' : Option (List ℕ)} {writes' : ℕ} (ends : WhereTold start.left (λ input. EndsAs format job input ending text count refused)) (grows : Grows written written' (job.last_line count refused ending)) (kept : writes' ≡ writes) where
      -- the last line of a bad ending was written
      pub ends-bad : format.IsBad ending → Outcome format job start (ports left reads written' writes') BadInput
      ends-bad bad = ((wrote.reads, kept ∙ wrote.writes), λ (input : List ℕ) (told : start.left ≡ Some input). (ending, bad, refused, Writes-whole (ends input told) (Grows-then wrote.grows grows)))

      -- all was read and ended well, and no record was refused
      pub ends-done : ending ≡ format.well → refused ≡ 0 → WhereTold start.left (λ input. left ≡ Some []) → Outcome format job start (ports left reads written' writes') Done
      ends-done well none all = ((wrote.reads, kept ∙ wrote.writes), λ (input : List ℕ) (told : start.left ≡ Some input). (all input told, rw (well, none) at (Writes-whole (ends input told) (Grows-then wrote.grows grows))))

      -- the same, and some record was refused
      pub ends-refused : ending ≡ format.well → 0 < refused → WhereTold start.left (λ input. left ≡ Some []) → Outcome format job start (ports left reads written' writes') SomeRefused
      ends-refused well some all = ((wrote.reads, kept ∙ wrote.writes), λ (input : List ℕ) (told : start.left ≡ Some input). (all input told, refused, some, rw well at (Writes-whole (ends input told) (Grows-then wrote.grows grows))))

-- more blocks were written
pub Wrote-more : {start : Ports} {left written written' : Option (List ℕ)} {reads writes writes' : ℕ} {text more : List ℕ} → Wrote start (ports left reads written writes) text → Grows written written' more → writes' ≡ writes → Wrote start (ports left reads written' writes') (text ++ more)
Wrote-more wrote grows kept = record { grows = Grows-then wrote.grows grows; reads = wrote.reads; writes = kept ∙ wrote.writes }

-- at the end of the source all its bytes have been consumed
Takes-end : (o p q : Option (List ℕ)) (xs buf buf' : List ℕ) (k : ℕ) → k ≡ 0 → Takes o p xs → Gives p q k buf buf' → WhereTold p (λ bytes. (k ≡ 0) ↔ (bytes ≡ [])) → IsAllConsumed o q xs
Takes-end o p q xs buf buf' k none first gives end = λ input told.
    let had = first.split input told in
    let empty = (end had.0 had.2).0 none in
    let left = gives.lost had.0 had.2 in
    (left ∙ ap (λ (n : ℕ). Some (drop n had.0)) none ∙ ap (λ (x : List ℕ). Some x) empty, had.1 ∙ ap (λ (x : List ℕ). xs ++ x) empty ∙ append-nil xs)

module _ {Record Ending Reader : Type 0} (format : Reads Record Ending) (job : Answers Record Ending) (At : Reader → List ℕ → List Record → Type 0) (place : Reader → ℕ) (ending : Reader → Ending) (place_is : (reader : Reader) (consumed : List ℕ) (records : List Record) → At reader consumed records → length consumed ≡ place reader) (is_read : (reader : Reader) (consumed : List ℕ) (records : List Record) → At reader consumed records → length consumed ≤ input_limit → format.IsReading consumed records (ending reader)) {start : Ports} {left written : Option (List ℕ)} {reads writes : ℕ} {reader : Reader} {count refused taken : ℕ} (counted : IsCounted (place reader) count refused taken) where
  module _ (stands : Stands At job start (ports left reads written writes) [] reader count refused) where
    -- how many bytes have been consumed
    stands-length : length stands.consumed ≡ taken
    stands-length = place_is reader stands.consumed stands.at.records stands.at.read ∙ sym counted.placed

    -- what they read as
    stands-reading : format.IsReading stands.consumed stands.at.records (ending reader)
    stands-reading = is_read reader stands.consumed stands.at.records stands.at.read (let l = stands-length in omega (arith, counted.within))

    stands-takes : Takes start.left left stands.consumed
    stands-takes = rw (append-nil stands.consumed) at stands.takes

    -- no more were taken
    pub stands-few : TakesAtMost (input_limit + 1) start.left left
    stands-few = TakesAtMost-taken (input_limit + 1) stands-takes (let l = stands-length in omega (arith, counted.within))

    -- nor were with the next read
    pub stands-few_read : (left' : Option (List ℕ)) (piece : List ℕ) → Takes left left' piece → taken + length piece ≤ input_limit + 1 → TakesAtMost (input_limit + 1) start.left left'
    stands-few_read left' piece takes few = TakesAtMost-taken (input_limit + 1) (Takes-then stands-takes takes) (rw (length-append stands.consumed piece) (let l = stands-length in omega arith))

    -- where all was consumed, the input ends as the bytes do
    pub ends-all : (end : Ending) → end ≡ ending reader → IsAllConsumed start.left left stands.consumed → WhereTold start.left (λ input. EndsAs format job input end stands.text count refused)
    ends-all end is all = λ input told. rw ((all input told).1, is) (record { records = stands.at.records; reading = stands-reading; answered = stands.at.answered })

    -- some bytes were read
    pub stands-read : (left' : Option (List ℕ)) (reads' : ℕ) (piece : List ℕ) → Takes left left' piece → reads' ≡ reads → Stands At job start (ports left' reads' written writes) piece reader count refused
    stands-read left' reads' piece takes kept = record {
      consumed = stands.consumed;
      text = stands.text;
      takes = Takes-then stands-takes takes;
      wrote = record { grows = stands.wrote.grows; reads = kept ∙ stands.wrote.reads; writes = stands.wrote.writes };
      at = stands.at;
    }

    -- there were no bytes to read
    pub stands-end : (left' : Option (List ℕ)) (reads' : ℕ) (buf buf' : List ℕ) (k : ℕ) → k ≡ 0 → Gives left left' k buf buf' → WhereTold left (λ bytes. (k ≡ 0) ↔ (bytes ≡ [])) → reads' ≡ reads → (next : Stands At job start (ports left' reads' written writes) [] reader count refused) × IsAllConsumed start.left left' next.consumed
    stands-end left' reads' buf buf' k none gives end kept = (
      record {
        consumed = stands.consumed;
        text = stands.text;
        takes = Takes-then stands-takes (rw none at (Takes-gives gives));
        wrote = record { grows = stands.wrote.grows; reads = kept ∙ stands.wrote.reads; writes = stands.wrote.writes };
        at = stands.at;
      },
      Takes-end start.left left left' stands.consumed buf buf' k none stands-takes gives end,
    )

-- where bytes were consumed, or the run stopped in them, the text answers some first records of the input
pub went-front : {Record Ending Reader : Type 0} (format : Reads Record Ending) (job : Answers Record Ending) (At : Reader → List ℕ → List Record → Type 0) (place : Reader → ℕ) → ((reader : Reader) (consumed : List ℕ) (records : List Record) → At reader consumed records → length consumed ≡ place reader) → ((reader : Reader) (consumed : List ℕ) (records : List Record) (tail : List ℕ) → At reader consumed records → length consumed ≤ input_limit → format.BeginsWith (consumed ++ tail) records) → ((input : List ℕ) (records : List Record) (end : Ending) → format.IsReading input records end → format.BeginsWith input records) → (consumed text : List ℕ) (reader : Reader) (count refused taken : ℕ) (went : Result (Unit {0}) (Stop Ending)) → MatchResult went (λ _. IsAt At job consumed text reader count refused) (Stops format job consumed text count refused) → OnOk went (IsCounted (place reader) count refused taken) → (tail : List ℕ) → IsFront format job (consumed ++ tail) text
went-front format job At place place_is begins has consumed text reader count refused taken (Ok x) at counted tail = record {
  records = at.records;
  begins = begins reader consumed at.records tail at.read (let l = place_is reader consumed at.records at.read in omega (arith, counted.placed, counted.within));
  answers = at.answered.answers;
}
went-front format job At place place_is begins has consumed text reader count refused taken (Err (stop.Bad end)) stops counted tail =
    let is = stops.1 tail in
    record { records = is.records; begins = has (consumed ++ tail) is.records end is.reading; answers = is.answered.answers }
went-front format job At place place_is begins has consumed text reader count refused taken (Err stop.NoMemory) stops counted tail = stops tail
