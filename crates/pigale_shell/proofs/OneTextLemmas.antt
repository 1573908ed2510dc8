-- The text of a run that draws nothing is one, and so is each line that refuses a record.
use Rattle.std.proofs.Common.{◌≡◌, ◌↔◌, ◌+◌, ◌++◌, ℕ, inl, inr, refl, sym, ap, ap₂, subst, ◌∙◌, Bool, true, false, if◌then◌else◌, IsTrue, List, [], ◌∷◌, length, Some, arith}
use Rattle.std.specs.Prelude.{unwrap_or}
use Rattle.map_lists.specs.Lists.{Lists}
use Rattle.pg_io.specs.Io.{Grows}
use Rattle.record_runs.specs.Texts.{Answers, AreBlocks, Refuses}
use Rattle.refusals.specs.declared.conditions.Refusal.{Refusal}
use Rattle.refusals.specs.declared.conditions.Unserved.{Unserved}
use Rattle.refusals.specs.declared.conditions.Unserved.TheVariants.{Refused as UnservedFor, NoMemory}
use Rattle.figure_text.specs.declared.figure.Figure.{Figure}
use Rattle.figure_verdicts.specs.declared.verdict.FigureVerdict.{FigureVerdict}
use Rattle.figure_verdicts.specs.declared.verdict.FigureVerdict.TheVariants.{Refused, Drawing, Inside, Convex, Bars, Rects, Witness, Yes}
use Rattle.verdict_laws.specs.Laws.{OneFigureVerdict}
use Rattle.pigale_words.specs.declared.output_form.Form.{Form}
use Rattle.pigale_shell.specs.Blocks.{IsLawful}
use Rattle.pigale_shell.specs.Text.{refusal_line}
use Rattle.pigale_shell.specs.Forms.{line_in}
use Rattle.pigale_shell.specs.Kinds.{says_of}
use Rattle.pigale_shell.specs.Answer.{IsMapBlock}
use Rattle.pigale_shell.specs.Verify.{WritesVerdict, IsVerifyBlock}
use Rattle.pigale_shell.specs.JobInput.{RecordOf, EndingOf, answers_of}
use Rattle.pigale_shell.specs.Outcome.{Writes}
use Rattle.pigale_shell.specs.OneText.{OneText, OneRefusalLine, OneGraphRefusalLine}
use Rattle.pigale_shell.specs.declared.map_jobs.MapJob.{MapJob}
use Rattle.pigale_shell.specs.declared.map_jobs.MapJob.TheVariants.{Count}
use Rattle.pigale_shell.specs.declared.job_kinds.JobKind.{JobKind}
use Rattle.pigale_shell.specs.declared.job_kinds.JobKind.TheVariants.{Maps, Figures}
use Rattle.pigale_shell.proofs.OutcomeLemmas.{one_ending, one_records}

-- blocks one by one, and how many are refused
blocks_are_one :
    {Record : Type 0} (IsBlock : ℕ → Record → List ℕ → Type 0) → ((k : ℕ) (r : Record) (t t' : List ℕ) → IsBlock k r t → IsBlock k r t' → t ≡ t') → (records : List Record) (k : ℕ) (t t' : List ℕ)
    → AreBlocks IsBlock k records t → AreBlocks IsBlock k records t' → t ≡ t'
blocks_are_one IsBlock one [] k t t' h g = h ∙ sym g
blocks_are_one IsBlock one (r ∷ records) k t t' h g = h.4 ∙ (ap₂ (λ a b. a ++ b) (one k r h.0 g.0 h.2 g.2) (blocks_are_one IsBlock one records (k + 1) h.1 g.1 h.3 g.3) ∙ sym g.4)

refuses_are_one :
    {Record Ending : Type 0} (job : Answers Record Ending) → ((r : Record) (b b' : Bool) → job.Serves r b → job.Serves r b' → b ≡ b') → (records : List Record) (n n' : ℕ) → Refuses job records n → Refuses job records n' → n ≡ n'
refuses_are_one job one [] n n' h g = h ∙ sym g
refuses_are_one job one (r ∷ records) n n' h g = h.4 ∙ (ap₂ (λ (b : Bool) (m : ℕ). (if b then 0 else 1) + m) (one r h.0 g.0 h.2 g.2) (refuses_are_one job one records h.1 g.1 h.3 g.3) ∙ sym g.4)

-- what is decided by a fact
served_once : (P : Type 0) (b b' : Bool) → (IsTrue b ↔ P) → (IsTrue b' ↔ P) → b ≡ b'
served_once P true true h g = refl
served_once P true false h g = absurd (let e : false ≡ true = g.1 (h.0 refl) in cc)
served_once P false true h g = absurd (let e : false ≡ true = h.1 (g.0 refl) in cc)
served_once P false false h g = refl

-- what has grown by bytes
grown : (before text bytes : List ℕ) → Grows (Some before) (Some text) bytes → text ≡ before ++ bytes
grown before text bytes h = ap (λ o. unwrap_or o text) (h.grown before refl)

-- a run whose blocks are one writes one text
module _ (job : JobKind) (one_block : (k : ℕ) (r : RecordOf job) (t t' : List ℕ) → (answers_of job).IsBlock k r t → (answers_of job).IsBlock k r t' → t ≡ t') (one_served : (r : RecordOf job) (b b' : Bool) → (answers_of job).Serves r b → (answers_of job).Serves r b' → b ≡ b') where
  text_of : List ℕ → List (RecordOf job) → ℕ → EndingOf job → List ℕ
  text_of blocks records refused ending = blocks ++ (answers_of job).last_line (length records) refused ending

  writes_once :
      (input before text text' : List ℕ) (ending ending' : EndingOf job) (refused refused' : ℕ) → Writes job input ending refused (Some before) (Some text) → Writes job input ending' refused' (Some before) (Some text') → text ≡ text'
  unfolding text_of
  writes_once input before text text' ending ending' refused refused' h g =
      let records = one_records job input h.records g.records ending ending' h.reading g.reading in
      let end = one_ending job input h.records g.records ending ending' h.reading g.reading in
      let moved = subst (λ rs. AreBlocks (answers_of job).IsBlock 1 rs h.blocks) records h.answers in
      let counted = subst (λ rs. Refuses (answers_of job) rs refused) records h.counted in
      let blocks = blocks_are_one (answers_of job).IsBlock one_block g.records 1 h.blocks g.blocks moved g.answers in
      let refuses = refuses_are_one (answers_of job) one_served g.records refused refused' counted g.counted in
      grown before text (text_of h.blocks h.records refused ending) h.grows
      ∙ (ap (λ rs. before ++ text_of h.blocks rs refused ending) records
      ∙ (ap (λ bs. before ++ text_of bs g.records refused ending) blocks
      ∙ (ap₂ (λ n e. before ++ text_of g.blocks g.records n e) refuses end
      ∙ sym (grown before text' (text_of g.blocks g.records refused' ending') g.grows))))

-- the block of `count`
count_block : (form : Form) (k : ℕ) (lists : Lists) (t t' : List ℕ) → IsMapBlock (says_of Count) form k lists t → IsMapBlock (says_of Count) form k lists t' → t ≡ t'
count_block form k lists t t' (inl h) (inl g) = h.1 ∙ sym g.1
count_block form k lists t t' (inl h) (inr g) = absurd (let served = h.0 in let breaks = g.1 in cc)
count_block form k lists t t' (inr h) (inl g) = absurd (let served = g.0 in let breaks = h.1 in cc)
count_block form k lists t t' (inr h) (inr g) = h.2 ∙ (ap (λ refusal. line_in form (refusal_line k refusal)) (ap (λ o. unwrap_or o h.0) (sym h.1 ∙ g.1)) ∙ sym g.2)

-- the block of `verify`
named : Unserved → Refusal → Refusal
named (UnservedFor refusal) other = refusal
named NoMemory other = other

verdict_text : (k : ℕ) (verdict : FigureVerdict) (t t' : List ℕ) → WritesVerdict k verdict t → WritesVerdict k verdict t' → t ≡ t'
unfolding named
verdict_text k (Refused fault) t t' h g = h.2 ∙ (ap (λ refusal. refusal_line k refusal) (ap (λ found. named found h.0) (sym h.1 ∙ g.1)) ∙ sym g.2)
verdict_text k (Drawing verdict) t t' h g = h ∙ sym g
verdict_text k (Inside v u) t t' h g = h ∙ sym g
verdict_text k (Convex verdict) t t' h g = h ∙ sym g
verdict_text k (Bars verdict) t t' h g = h ∙ sym g
verdict_text k (Rects verdict) t t' h g = h ∙ sym g
verdict_text k (Witness verdict) t t' h g = h ∙ sym g
verdict_text k Yes t t' h g = h ∙ sym g

verify_block : OneFigureVerdict → (k : ℕ) (figure : Figure) (t t' : List ℕ) → IsVerifyBlock k figure t → IsVerifyBlock k figure t' → t ≡ t'
verify_block one k figure t t' h g = verdict_text k g.0 t t' (subst (λ v. WritesVerdict k v t) (one figure h.0 g.0 h.1 g.1) h.2) g.2

pub one_text : OneFigureVerdict → OneText
one_text one (Maps Count form) input before text text' ending ending' refused refused' draws h g = writes_once (Maps Count form) (count_block form) (λ r b b' s s'. served_once ((says_of Count).Serves r) b b' s s') input before text text' ending ending' refused refused' h g
one_text one Figures input before text text' ending ending' refused refused' draws h g = writes_once Figures (verify_block one) (λ r b b' s s'. served_once _ b b' s s') input before text text' ending ending' refused refused' h g
one_text one job input before text text' ending ending' refused refused' draws h g = absurd draws

pub one_refusal_line : ((job : MapJob) → IsLawful (says_of job)) → OneRefusalLine
one_refusal_line lawful job form k lists line text some refused (inl h) = absurd ((lawful job).breaks_nothing lists refused.0 some h.0 refused.1)
one_refusal_line lawful job form k lists line text some refused (inr h) =
    h.2 ∙ (ap (λ refusal. line_in form (refusal_line k refusal)) ((lawful job).one_break lists some h.0 refused.0 h.1 refused.1) ∙ sym refused.2)

pub one_graph_refusal_line : OneGraphRefusalLine
one_graph_refusal_line form k graph line text refused (inl h) = absurd (omega (arith, h.0, refused.1.1))
one_graph_refusal_line form k graph line text refused (inr h) = h.2 ∙ (ap (λ refusal. line_in form (refusal_line k refusal)) (h.1.0 ∙ sym refused.1.0) ∙ sym refused.2)
