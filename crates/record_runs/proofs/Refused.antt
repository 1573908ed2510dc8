-- Ends that wrong bodies of a run would answer: what the contract says of each is not so.
use Rattle.std.proofs.Common.{◌≡◌, ℕ, ◌+◌, List, [], ◌∷◌, ◌++◌, length, Option, Some, false, if◌then◌else◌, refl, sym, subst, ap, arith}
use Rattle.std.specs.Prelude.{unwrap_or}
use Rattle.std.proofs.lemmas.List.{length-append}
use Rattle.pg_io.specs.Io.{TakesAtMost}
use Rattle.record_runs.specs.Texts.{Reads, Answers, AreBlocks, Refuses, input_limit}
use Rattle.record_runs.specs.Outcome.{Outcome, ports}
use Rattle.record_runs.specs.declared.main_loop.RunEnd.TheVariants.{Done, SomeRefused, ReadFault}

-- each byte is a record
abbrev bytes : Reads ℕ (Unit {0})
bytes = record {
  IsReading = λ input records ending. input ≡ records;
  BeginsWith = λ input records. (rest : List ℕ) × (input ≡ records ++ rest);
  well = tt;
  IsBad = λ ending. ⊥;
}

-- each record is refused, and its block is the byte; the last line is a byte 10
abbrev echo : Answers ℕ (Unit {0})
echo = record {
  IsBlock = λ k byte text. text ≡ byte ∷ [];
  Serves = λ byte served. served ≡ false;
  last_line = λ count refused ending. 10 ∷ [];
}

-- how long the bytes are that a sink tells
abbrev told : Option (List ℕ) → ℕ
told written = length (unwrap_or written [])

-- no record has no block
no_block : (records text : List ℕ) → length records ≡ 0 → AreBlocks echo.IsBlock 1 records text → length text ≡ 0
no_block [] text e b = ap length b
no_block (byte ∷ records) text e b = absurd (omega (arith, e))

-- the block of the one record held back
block_held_back : (reads writes : ℕ) → Outcome bytes echo (ports (Some (7 ∷ [])) reads (Some []) writes) (ports (Some []) reads (Some (10 ∷ [])) writes) SomeRefused → ⊥
block_held_back reads writes o =
    let w = (o.1 (7 ∷ []) refl).3 in
    let b = subst (λ r. AreBlocks echo.IsBlock 1 r w.blocks) (sym w.reading) w.answers in
    let l : length w.blocks ≡ length (b.0 ++ b.1) = ap length b.4 in
    let f : length b.0 ≡ 1 = ap length b.2 in
    let g : 1 ≡ length (w.blocks ++ 10 ∷ []) = ap told (w.grows.grown [] refl) in
    omega (arith, length-append b.0 b.1, length-append w.blocks (10 ∷ []))

-- a failed read tried again, and the input taken for ended
failed_read_tried_again : {Record Ending : Type 0} (format : Reads Record Ending) (job : Answers Record Ending) (left left' written written' : Option (List ℕ)) → Outcome format job (ports left 0 written 0) (ports left' 1 written' 0) Done → ⊥
failed_read_tried_again format job left left' written written' o = omega (arith, o.0.0)

-- the last line written after a failed read
last_line_after_a_failed_read : Outcome bytes echo (ports (Some []) 0 (Some []) 0) (ports (Some []) 1 (Some (10 ∷ [])) 0) ReadFault → ⊥
last_line_after_a_failed_read o =
    let w = o.2 [] refl in
    let p : 0 ≡ length (w.taken ++ w.rest) = ap length w.parts in
    let r : length w.taken ≡ length w.records = ap length w.reading in
    let b : length w.blocks ≡ 0 = no_block w.records w.blocks (omega (arith, length-append w.taken w.rest)) w.answers in
    let g : 1 ≡ length w.blocks = ap told (w.grows.grown [] refl) in
    omega arith

-- one byte more taken than the limit and the byte after it
one_byte_past_the_limit : (input : List ℕ) → length input ≡ input_limit + 2 → TakesAtMost (input_limit + 1) (Some input) (Some []) → ⊥
one_byte_past_the_limit input e t =
    let s = t.takes.split input refl in
    let a : length input ≡ length (t.bytes ++ s.0) = ap length s.1 in
    let r : 0 ≡ length s.0 = ap told s.2 in
    omega (arith, length-append t.bytes s.0)

-- a record was refused, and the run is called done
refused_run_is_done : (reads writes : ℕ) (written : Option (List ℕ)) → Outcome bytes echo (ports (Some (7 ∷ [])) reads (Some []) writes) (ports (Some []) reads written writes) Done → ⊥
refused_run_is_done reads writes written o =
    let w = (o.1 (7 ∷ []) refl).1 in
    let r = subst (λ records. Refuses echo records 0) (sym w.reading) w.counted in
    let e : 0 ≡ 1 + r.1 = subst (λ served. 0 ≡ (if served then 0 else 1) + r.1) r.2 r.4 in
    omega arith
