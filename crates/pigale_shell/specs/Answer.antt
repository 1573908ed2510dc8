-- What the jobs over planar_code write.
use Rattle.std.specs.Prelude.{ℕ, ◌↔◌, Bool, true, false, IsTrue, List}
use Rattle.map_lists.specs.Lists.{Lists}
use Rattle.record_runs.specs.Texts.{Answers}
use Rattle.pigale_words.specs.declared.output_form.Form.{Form}
use Rattle.pigale_shell.specs.Blocks.{IsJobBlock, Says}
use Rattle.pigale_shell.specs.Forms.{line_in}
use Rattle.pigale_shell.specs.Kinds.{says_of}
use Rattle.pigale_shell.specs.Lines.{ending_of}
use Rattle.pigale_shell.specs.Text.{last_line}
use Rattle.pigale_shell.specs.declared.output_lines.Ending.{Ending}
use Rattle.pigale_shell.specs.declared.job_kinds.JobKind.{JobKind}
use Rattle.pigale_shell.specs.declared.job_kinds.JobKind.TheVariants.{Maps}

-- the text is the answer for record k, in a form
abbrev pub IsMapBlock : Says → Form → ℕ → Lists → List ℕ → Type 0
IsMapBlock says form k lists text = IsJobBlock (says.Serves lists) (says.IsText form k lists) (says.Breaks lists) form k text

-- the text is the answer of this job for record k; a job that reads no planar_code has none
abbrev pub IsBlock : JobKind → ℕ → Lists → List ℕ → Type 0
IsBlock (Maps job form) k lists text = IsMapBlock (says_of job) form k lists text
IsBlock job k lists text = ⊥

-- whether the record is served, or counts as refused
abbrev pub ServesRecord : JobKind → Lists → Bool → Type 0
ServesRecord (Maps job form) lists served = IsTrue served ↔ (says_of job).Serves lists
ServesRecord job lists served = ⊥

-- it reads planar_code
abbrev pub reads_planar : JobKind → Bool
reads_planar (Maps job form) = true
reads_planar job = false

-- the blocks, which records are served, and the last line
abbrev pub planar_answers : Says → Form → Answers Lists Ending
planar_answers says form = record {
  IsBlock = IsMapBlock says form;
  Serves = λ lists served. IsTrue served ↔ says.Serves lists;
  last_line = λ records refused ending. line_in form (last_line records refused (ending_of ending));
}
