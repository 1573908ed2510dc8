-- The text of a run, on worked cases. Each is a computation: the two sides come to the same value.
use Rattle.std.specs.Prelude.{ℕ, List, pos, ◌-◌, ◌≡◌, [], ◌∷◌, ◌++◌, map, codes, refl, Some, None}
use Rattle.std.proofs.Common.{arith, inl, inr}
use Rattle.classes.specs.Classes.{merge}
use Rattle.std.specs.Fmt.{digits}
use Rattle.map_lists.specs.Lists.{Lists}
use Rattle.map_theory.specs.Maps.{entry_after, face_count, component_count}
use Rattle.simple_maps.specs.Faults.{first_fault}
use Rattle.clap.proofs.OnLiterals.{clap_on_literals}
use Rattle.pigale_words.specs.Words.{given, job_of}
use Rattle.pigale_words.specs.declared.job.Job.TheVariants.{Count, Shift, Gen, Verify, Embed}
use Rattle.pigale_words.specs.Numbers.{number_in}
use Rattle.pigale_shell.specs.Made.{sums_line}
use Rattle.pigale_words.specs.declared.output_form.Form.TheVariants as forms
use Rattle.pigale_shell.specs.Forms.{commented, line_in}
use Rattle.line_inputs.specs.declared.figure_lines.ending.Ending.TheVariants.{BadLine}
use Rattle.pigale_shell.specs.Verify.{verdict_line, verify_last_line}
use Rattle.line_inputs.specs.declared.graph_lines.ending.Ending.TheVariants.{Limit}
use Rattle.pigale_shell.specs.EmbedText.{IsEmbedBlock, embed_last_line}
use Rattle.pigale_shell.specs.Text.{counts_line, refusal_line, end_line}
use Rattle.verdict_laws.specs.Laws.{OneFigureVerdict}
use Rattle.pigale_words.specs.declared.output_form.Form.{Form}
use Rattle.pigale_shell.specs.JobInput.{EndingOf}
use Rattle.pigale_shell.specs.Outcome.{Writes}
use Rattle.pigale_shell.specs.declared.job_kinds.JobKind.TheVariants.{Maps, Figures}
use Rattle.pigale_shell.proofs.OneTextLemmas.{one_text}
use Rattle.pigale_shell.specs.Answer.{IsMapBlock}
use Rattle.pigale_shell.specs.Kinds.{says_of}
use Rattle.pigale_shell.specs.declared.map_jobs.MapJob.TheVariants as maps
use Rattle.refusals.specs.declared.conditions.Refusal.TheVariants.{OutOfRange, Loop, Repeated, OneSided, Small}

-- lists with vertices numbered from 1, as they are printed
abbrev from_one : Lists → Lists
from_one lists = map (map (λ u. u - 1)) lists

-- the blocks of `count` for lists whose vertices are numbered from 1

octahedron_block : IsMapBlock (says_of maps.Count) forms.Text 1 (from_one ((2 ∷ 3 ∷ 4 ∷ 5 ∷ []) ∷ (1 ∷ 5 ∷ 6 ∷ 3 ∷ []) ∷ (1 ∷ 2 ∷ 6 ∷ 4 ∷ []) ∷ (1 ∷ 3 ∷ 6 ∷ 5 ∷ []) ∷ (1 ∷ 4 ∷ 6 ∷ 2 ∷ []) ∷ (2 ∷ 5 ∷ 4 ∷ 3 ∷ []) ∷ [])) (codes "count 1 n 6 m 12 f 8 c 1 genus 0" ++ 10 ∷ [])
unfolding entry_after merge face_count component_count first_fault counts_line digits
octahedron_block = inl (refl, refl)

one_sided_block : IsMapBlock (says_of maps.Count) forms.Text 1 (from_one ((2 ∷ []) ∷ [] ∷ [])) (codes "refused 1 4 OneSided 1 2" ++ 10 ∷ [])
unfolding first_fault refusal_line digits
one_sided_block = inr (OneSided 0 1, refl, refl)

loop_block : IsMapBlock (says_of maps.Count) forms.Text 1 (from_one ((1 ∷ 2 ∷ 2 ∷ []) ∷ (1 ∷ []) ∷ [])) (codes "refused 1 2 Loop 1" ++ 10 ∷ [])
unfolding first_fault refusal_line digits
loop_block = inr (Loop 0, refl, refl)

repeated_block : IsMapBlock (says_of maps.Count) forms.Text 1 (from_one ((2 ∷ 2 ∷ []) ∷ (1 ∷ []) ∷ [])) (codes "refused 1 3 Repeated 1 2" ++ 10 ∷ [])
unfolding first_fault refusal_line digits
repeated_block = inr (Repeated 0 1, refl, refl)

out_of_range_block : IsMapBlock (says_of maps.Count) forms.Text 1 (from_one ((3 ∷ []) ∷ (2 ∷ []) ∷ [])) (codes "refused 1 1 OutOfRange 1 3" ++ 10 ∷ [])
unfolding first_fault refusal_line digits
out_of_range_block = inr (OutOfRange 0 2, refl, refl)

last_line_of_three : end_line 3 0 ≡ codes "end records 3 refused 0" ++ 10 ∷ []
unfolding end_line digits
last_line_of_three = refl

commented_last_line : line_in forms.Svg (end_line 1 0) ≡ codes "<!-- end records 1 refused 0 -->" ++ 10 ∷ []
unfolding commented end_line digits
commented_last_line = refl

-- words, with `--` beside the job, an option that the job has not, and an option without a text

count_alone : job_of (codes "count" ∷ []) ≡ Some Count
unfolding given clap_on_literals
count_alone = refl

count_behind_hyphens : job_of (codes "--" ∷ codes "count" ∷ []) ≡ Some Count
unfolding given clap_on_literals
count_behind_hyphens = refl

no_words : job_of [] ≡ None
unfolding given clap_on_literals
no_words = refl

count_with_form : job_of (codes "count" ∷ codes "--form" ∷ codes "svg" ∷ []) ≡ None
unfolding given clap_on_literals
count_with_form = refl

shift_alone : job_of (codes "shift" ∷ []) ≡ Some (Shift forms.Text)
unfolding given clap_on_literals
shift_alone = refl

shift_as_pictures : job_of (codes "--form=svg" ∷ codes "shift" ∷ []) ≡ Some (Shift forms.Svg)
unfolding given clap_on_literals
shift_as_pictures = refl

shift_with_other_form : job_of (codes "shift" ∷ codes "--form" ∷ codes "png" ∷ []) ≡ None
unfolding given clap_on_literals
shift_with_other_form = refl

texts_of_options : given (codes "--form=svg" ∷ codes "shift" ∷ codes "--size" ∷ codes "5" ∷ []) ≡ Some (record { job = Some (codes "shift"); form = Some (codes "svg"); size = Some (codes "5"); number = None })
unfolding given clap_on_literals
texts_of_options = refl

form_twice : given (codes "count" ∷ codes "--form=svg" ∷ codes "--form=png" ∷ []) ≡ None
unfolding given clap_on_literals
form_twice = refl

form_without_text : given (codes "count" ∷ codes "--form" ∷ []) ≡ None
unfolding given clap_on_literals
form_without_text = refl

-- numbers that a text spells, and texts that spell none in a range

least_size : number_in 3 4095 (codes "3") ≡ Some 3
least_size = refl

greatest_number : number_in 0 4294967295 (codes "4294967295") ≡ Some 4294967295
greatest_number = refl

beyond_the_greatest : number_in 0 4294967295 (codes "4294967296") ≡ None
beyond_the_greatest = refl

begins_with_zero : number_in 3 4095 (codes "05") ≡ None
begins_with_zero = refl

with_a_sign : number_in 3 4095 (codes "+5") ≡ None
with_a_sign = refl

no_digits : number_in 0 9 [] ≡ None
no_digits = refl

-- the words of `gen`, and its second line

gen_with_both : job_of (codes "gen" ∷ codes "--size" ∷ codes "4" ∷ codes "--number=7" ∷ []) ≡ Some (Gen 4 7)
unfolding given clap_on_literals
gen_with_both = refl

gen_without_number : job_of (codes "gen" ∷ codes "--size" ∷ codes "5" ∷ []) ≡ None
unfolding given clap_on_literals
gen_without_number = refl

gen_with_form : job_of (codes "gen" ∷ codes "--size" ∷ codes "4" ∷ codes "--number" ∷ codes "7" ∷ codes "--form=text" ∷ []) ≡ None
unfolding given clap_on_literals
gen_with_form = refl

line_of_sums : sums_line 1 (pos 15) (pos 6) ≡ codes "verdict 1 yes sum 15 6" ++ 10 ∷ []
unfolding sums_line digits
line_of_sums = refl

-- the lines of `verify`

line_of_verdict : verdict_line 3 (codes "OnEdge", 2 ∷ 0 ∷ 1 ∷ []) ≡ codes "verdict 3 OnEdge 3 1 2" ++ 10 ∷ []
unfolding verdict_line digits
line_of_verdict = refl

line_of_yes : verdict_line 1 (codes "yes", []) ≡ codes "verdict 1 yes" ++ 10 ∷ []
unfolding verdict_line digits
line_of_yes = refl

last_line_of_bad_line : verify_last_line 1 0 (BadLine 12) ≡ codes "stop BadLine 12" ++ 10 ∷ []
unfolding verify_last_line digits
last_line_of_bad_line = refl

verify_alone : job_of (codes "verify" ∷ []) ≡ Some Verify
unfolding given clap_on_literals
verify_alone = refl

verify_with_form : job_of (codes "verify" ∷ codes "--form=text" ∷ []) ≡ None
unfolding given clap_on_literals
verify_with_form = refl

-- the words of `embed`, its refusal, and a last line

embed_as_pictures : job_of (codes "embed" ∷ codes "--form=svg" ∷ []) ≡ Some (Embed forms.Svg)
unfolding given clap_on_literals
embed_as_pictures = refl

one_vertex_refused : IsEmbedBlock forms.Text 1 (record { n = 1; edges = [] }) (codes "refused 1 5 Small 1" ++ 10 ∷ [])
unfolding refusal_line digits
one_vertex_refused = inr (Small 1, (refl, omega arith), refl)

last_line_of_limit : embed_last_line 1 0 (Limit 2) ≡ codes "stop Limit 2" ++ 10 ∷ []
unfolding embed_last_line digits
last_line_of_limit = refl

-- two texts of one `verify` are one, since it draws nothing
one_verdict_text :
    OneFigureVerdict → (input before text text' : List ℕ) (ending ending' : EndingOf Figures) (refused refused' : ℕ) → Writes Figures input ending refused (Some before) (Some text) → Writes Figures input ending' refused' (Some before) (Some text') → text ≡ text'
one_verdict_text one input before text text' ending ending' refused refused' =
    one_text one Figures input before text text' ending ending' refused refused' tt

-- and so are two of one `count`
one_count_text :
    OneFigureVerdict → (form : Form) (input before text text' : List ℕ) (ending ending' : EndingOf (Maps maps.Count form)) (refused refused' : ℕ) → Writes (Maps maps.Count form) input ending refused (Some before) (Some text) → Writes (Maps maps.Count form) input ending' refused' (Some before) (Some text') → text ≡ text'
one_count_text one form input before text text' ending ending' refused refused' =
    one_text one (Maps maps.Count form) input before text text' ending ending' refused refused' tt
