-- A part of a longer input, and what a job writes of it.
use Rattle.std.specs.Prelude.{ℕ, ◌+◌, ◌≡◌, Bool, ◌&&◌, if◌then◌else◌, List, [], ◌++◌, length}
use Rattle.record_runs.specs.Texts.{Answers, AreBlocks, Refuses}
use Rattle.record_runs.specs.declared.part_job.Part.{Part}

-- The job over a part of an input: records are numbered on, and the last line has the sums of all parts so far, and the
-- place of a bad ending in the whole. A good ending where more parts come has no last line.
abbrev pub part_answers : {Record Ending : Type 0} → (Ending → Bool) → (ℕ → Ending → Ending) → Answers Record Ending → Part → Answers Record Ending
part_answers ended_well ending_behind job part = record {
  IsBlock = λ k. job.IsBlock (part.before.records + k);
  Serves = job.Serves;
  last_line = λ records refused ending.
      if part.goes_on && ended_well ending then []
      else job.last_line (part.before.records + records) (part.before.refused + refused) (ending_behind part.before.place ending);
}

-- The text is a block for each of these records, in order, and the last line of an input that ends so and has just these: the
-- job refuses so many of them.
pub record IsText {Record Ending : Type 0} (job : Answers Record Ending) (records : List Record) (ending : Ending) (refused : ℕ) (text : List ℕ) : Type 0 where
  pub blocks : List ℕ
  pub answers : AreBlocks job.IsBlock 1 records blocks
  pub refuses : Refuses job records refused
  pub text_is : text ≡ blocks ++ job.last_line (length records) refused ending
