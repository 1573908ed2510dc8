-- Texts of parts of an input.
use Rattle.std.proofs.Common.{◌≡◌, ℕ, ◌+◌, Bool, true, false, List, [], ◌∷◌, ◌++◌, length, refl, sym, ap, ◌∙◌, arith, append_assoc, cond}
use Rattle.std.proofs.lemmas.List.{append-nil, length-append}
use Rattle.record_runs.specs.Texts.{Answers, AreBlocks, Refuses}
use Rattle.record_runs.specs.Parts.{part_answers, IsText}
use Rattle.record_runs.specs.declared.part_job.Before.{Before}

-- the blocks of some records, and those of the next ones
AreBlocks-append : {Record : Type 0} (IsBlock : ℕ → Record → List ℕ → Type 0) (k : ℕ) (records records' : List Record) (text text' : List ℕ) → AreBlocks IsBlock k records text → AreBlocks IsBlock (k + length records) records' text' → AreBlocks IsBlock k (records ++ records') (text ++ text')
AreBlocks-append IsBlock k [] records' text text' are next = rw are (let e : k + 0 ≡ k = omega arith in rw e at next)
AreBlocks-append IsBlock k (r ∷ records) records' text text' are next =
    let e : k + length (r ∷ records) ≡ (k + 1) + length records = omega arith in
    (are.0, are.1 ++ text', are.2, AreBlocks-append IsBlock (k + 1) records records' are.1 text' are.3 (rw e at next), ap (λ (x : List ℕ). x ++ text') are.4 ∙ append_assoc are.0 are.1 text')

-- blocks that are numbered from a later record on
AreBlocks-later : {Record : Type 0} (IsBlock : ℕ → Record → List ℕ → Type 0) (before more k : ℕ) (records : List Record) (text : List ℕ) → AreBlocks (λ j. IsBlock ((before + more) + j)) k records text → AreBlocks (λ j. IsBlock (before + j)) (k + more) records text
AreBlocks-later IsBlock before more k [] text are = are
AreBlocks-later IsBlock before more k (r ∷ records) text are =
    let e : (before + more) + k ≡ before + (k + more) = omega arith in
    let f : (k + 1) + more ≡ (k + more) + 1 = omega arith in
    (are.0, are.1, rw e at are.2, rw f at (AreBlocks-later IsBlock before more (k + 1) records are.1 are.3), are.4)

-- refused records of some, and of the next ones
Refuses-append : {Record Ending : Type 0} (job : Answers Record Ending) (records records' : List Record) (refused refused' : ℕ) → Refuses job records refused → Refuses job records' refused' → Refuses job (records ++ records') (refused + refused')
Refuses-append job [] records' refused refused' none next = let e : 0 + refused' ≡ refused' = omega arith in rw (none, e) next
Refuses-append job (r ∷ records) records' refused refused' (served, rest, serves, are, counted) next = (
  served,
  rest + refused',
  serves,
  Refuses-append job records records' rest refused' are next,
  rw counted (let e : (cond served 0 1 + rest) + refused' ≡ cond served 0 1 + (rest + refused') = omega arith in e),
)

-- what is refused depends on what is served alone
Refuses-same : {Record Ending : Type 0} (job job' : Answers Record Ending) → ((r : Record) (served : Bool) → job.Serves r served → job'.Serves r served) → (records : List Record) (refused : ℕ) → Refuses job records refused → Refuses job' records refused
Refuses-same job job' same [] refused none = none
Refuses-same job job' same (r ∷ records) refused (served, rest, serves, are, counted) =
    (served, rest, same r served serves, Refuses-same job job' same records rest are, counted)

-- blocks by a weaker statement
AreBlocks-weaker : {Record : Type 0} (IsBlock IsBlock' : ℕ → Record → List ℕ → Type 0) → ((k : ℕ) (r : Record) (text : List ℕ) → IsBlock k r text → IsBlock' k r text) → (k : ℕ) (records : List Record) (text : List ℕ) → AreBlocks IsBlock k records text → AreBlocks IsBlock' k records text
AreBlocks-weaker IsBlock IsBlock' weaker k [] text are = are
AreBlocks-weaker IsBlock IsBlock' weaker k (r ∷ records) text are =
    (are.0, are.1, weaker k r are.0 are.2, AreBlocks-weaker IsBlock IsBlock' weaker (k + 1) records are.1 are.3, are.4)

module _ {Record Ending : Type 0} (job : Answers Record Ending) (ended_well : Ending → Bool) (ending_behind : ℕ → Ending → Ending) where
  abbrev pub part : Before → Bool → Answers Record Ending
  part before goes_on = part_answers ended_well ending_behind job (record { before = before; goes_on = goes_on })

  -- the texts of two parts, one behind the other, are the text of both
  pub texts-join : ((place : ℕ) (ending : Ending) → ended_well (ending_behind place ending) ≡ ended_well ending) → ((p q : ℕ) (ending : Ending) → ending_behind (p + q) ending ≡ ending_behind p (ending_behind q ending)) → (before : Before) (goes_on : Bool) (records records' : List Record) (ending ending' : Ending) (refused refused' place : ℕ) (text text' : List ℕ) → ended_well ending ≡ true → IsText (part before true) records ending refused text → IsText (part (record { records = before.records + length records; refused = before.refused + refused; place = before.place + place }) goes_on) records' ending' refused' text' → IsText (part before goes_on) (records ++ records') (ending_behind place ending') (refused + refused') (text ++ text')
  texts-join still_well behind_behind before goes_on records records' ending ending' refused refused' place text text' well first next =
      let blocks : text ≡ first.blocks = rw (well, append-nil first.blocks) at first.text_is in
      let counts : before.records + (length records + length records') ≡ (before.records + length records) + length records' = omega arith in
      let sums : before.refused + (refused + refused') ≡ (before.refused + refused) + refused' = omega arith in
      record {
        blocks = first.blocks ++ next.blocks;
        answers = AreBlocks-append (λ j. job.IsBlock (before.records + j)) 1 records records' first.blocks next.blocks first.answers
            (AreBlocks-later job.IsBlock before.records (length records) 1 records' next.blocks next.answers);
        refuses = Refuses-append (part before goes_on) records records' refused refused'
            (Refuses-same (part before true) (part before goes_on) (λ r served is. is) records refused first.refuses)
            (Refuses-same (part (record { records = before.records + length records; refused = before.refused + refused; place = before.place + place }) goes_on) (part before goes_on) (λ r served is. is) records' refused' next.refuses);
        text_is = rw (blocks, next.text_is, still_well place ending', ← behind_behind before.place place ending', length-append records records', counts, sums)
            (sym (append_assoc first.blocks next.blocks _));
      }

  -- the text of the only part of an input is that of the input
  pub whole-text : ((ending : Ending) → ending_behind 0 ending ≡ ending) → (records : List Record) (ending : Ending) (refused : ℕ) (text : List ℕ) → IsText (part (record { records = 0; refused = 0; place = 0 }) false) records ending refused text → IsText job records ending refused text
  whole-text at_front records ending refused text is = record {
    blocks = is.blocks;
    answers = AreBlocks-weaker (λ k. job.IsBlock (0 + k)) job.IsBlock (λ k r block is. let e : 0 + k ≡ k = omega arith in rw e at is) 1 records is.blocks is.answers;
    refuses = Refuses-same (part (record { records = 0; refused = 0; place = 0 }) false) job (λ r served is. is) records refused is.refuses;
    text_is = let e : 0 + length records ≡ length records = omega arith in let f : 0 + refused ≡ refused = omega arith in rw (at_front ending, e, f) at is.text_is;
  }
