-- What the words and the input decide of the text that a run writes.
use Rattle.std.specs.Prelude.{ℕ, ◌<◌, ◌≡◌, List, length, Some}
use Rattle.map_lists.specs.Lists.{Lists}
use Rattle.graphs.specs.Graphs.{EdgeGraph}
use Rattle.pigale_words.specs.declared.output_form.Form.{Form}
use Rattle.pigale_shell.specs.Answer.{IsMapBlock}
use Rattle.pigale_shell.specs.Blocks.{IsRefused}
use Rattle.pigale_shell.specs.EmbedText.{IsTooSmall, IsEmbedBlock}
use Rattle.pigale_shell.specs.JobInput.{EndingOf}
use Rattle.pigale_shell.specs.Kinds.{says_of}
use Rattle.pigale_shell.specs.Outcome.{Writes}
use Rattle.pigale_shell.specs.declared.map_jobs.MapJob.{MapJob}
use Rattle.pigale_shell.specs.declared.map_jobs.MapJob.TheVariants.{Count}
use Rattle.pigale_shell.specs.declared.job_kinds.JobKind.{JobKind}
use Rattle.pigale_shell.specs.declared.job_kinds.JobKind.TheVariants.{Maps, Figures}

-- it draws nothing: it counts, or it judges what others drew
abbrev pub DrawsNothing : JobKind → Type 0
DrawsNothing (Maps Count form) = Unit {0}
DrawsNothing Figures = Unit {0}
DrawsNothing job = ⊥

-- Two whole texts of such a job over one input are one, behind what was written before.
abbrev pub OneText : Type 0
OneText =
    (job : JobKind) (input before text text' : List ℕ) (ending ending' : EndingOf job) (refused refused' : ℕ) → DrawsNothing job → Writes job input ending refused (Some before) (Some text) → Writes job input ending' refused' (Some before) (Some text') → text ≡ text'

-- A map that breaks a condition has one block in each job: the line that refuses it.
abbrev pub OneRefusalLine : Type 0
OneRefusalLine = (job : MapJob) (form : Form) (k : ℕ) (lists : Lists) (line text : List ℕ) → 0 < length lists → IsRefused ((says_of job).Breaks lists) form k line → IsMapBlock (says_of job) form k lists text → text ≡ line

-- A graph that is too small has one block in `embed`: the line that refuses it.
abbrev pub OneGraphRefusalLine : Type 0
OneGraphRefusalLine = (form : Form) (k : ℕ) (graph : EdgeGraph) (line text : List ℕ) → IsRefused (IsTooSmall graph) form k line → IsEmbedBlock form k graph text → text ≡ line
