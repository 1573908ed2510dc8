-- Records that are answered, one more at a time.
use Rattle.std.proofs.Common.{◌≡◌, ℕ, ◌+◌, List, [], ◌∷◌, ◌++◌, length, refl, sym, ap, ◌∙◌, arith, append_assoc, cond, Bool}
use Rattle.std.proofs.lemmas.List.{append-nil, length-append}
use Rattle.record_runs.specs.Texts.{Answers, AreBlocks, Refuses}
use Rattle.record_runs.specs.Run.{IsAnswered}

-- the blocks of some records, and that of the next
AreBlocks-push : {Record : Type 0} (IsBlock : ℕ → Record → List ℕ → Type 0) (k : ℕ) (records : List Record) (text : List ℕ) (next : Record) (block : List ℕ) → AreBlocks IsBlock k records text → IsBlock (k + length records) next block → AreBlocks IsBlock k (records ++ next ∷ []) (text ++ block)
AreBlocks-push IsBlock k [] text next block are is = (block, [], rw (let e : k + 0 ≡ k = omega arith in e) at is, refl, ap (λ (x : List ℕ). x ++ block) are ∙ sym (append-nil block))
AreBlocks-push IsBlock k (r ∷ records) text next block are is =
    let e : k + length (r ∷ records) ≡ (k + 1) + length records = omega arith in
    (are.0, are.1 ++ block, are.2, AreBlocks-push IsBlock (k + 1) records are.1 next block are.3 (rw e at is), ap (λ (x : List ℕ). x ++ block) are.4 ∙ append_assoc are.0 are.1 block)

-- one record more is refused, or not
Refuses-push : {Record Ending : Type 0} (job : Answers Record Ending) (records : List Record) (next : Record) (served : Bool) (refused : ℕ) → Refuses job records refused → job.Serves next served → Refuses job (records ++ next ∷ []) (refused + cond served 0 1)
Refuses-push job [] next served refused none serves = (served, 0, serves, refl, rw none (let e : 0 + cond served 0 1 ≡ cond served 0 1 + 0 = omega arith in e))
Refuses-push job (r ∷ records) next served refused (first, rest, is, are, counted) serves =
    (first, rest + cond served 0 1, is, Refuses-push job records next served rest are serves, rw counted (let e : cond first 0 1 + rest + cond served 0 1 ≡ cond first 0 1 + (rest + cond served 0 1) = omega arith in e))

-- the next record is answered by its block
pub IsAnswered-push : {Record Ending : Type 0} {job : Answers Record Ending} {records : List Record} {text : List ℕ} {count refused : ℕ} (next : Record) (block : List ℕ) (served : Bool) → IsAnswered job records text count refused → job.IsBlock (count + 1) next block → job.Serves next served → IsAnswered job (records ++ next ∷ []) (text ++ block) (count + 1) (refused + cond served 0 1)
IsAnswered-push {job = job} {records = records} {text = text} {count = count} {refused = refused} next block served answered is serves = record {
  answers = AreBlocks-push job.IsBlock 1 records text next block answered.answers
      (let e : 1 + length records ≡ count + 1 = (let c = answered.counted in omega arith) in rw e is);
  counted = rw (length-append records (next ∷ [])) (let c = answered.counted in omega arith);
  refuses = Refuses-push job records next served refused answered.refuses serves;
}
