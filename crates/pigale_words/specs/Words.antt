-- Which words are those of a job.
use Rattle.std.specs.Prelude.{◌≡◌, ◌⊎◌, ◌↔◌, ◌||◌, ℕ, Bool, true, List, [], ◌∷◌, Option, Some, None, is_some, option_and_then, option_map, if◌then◌else◌, codes, bytes_eq}
use Rattle.std.specs.Map.{lookup}
use Rattle.clap.specs.Walk.{Row, Rule, Text, first_of}
use Rattle.clap.specs.Simple.{App, Shape, matches_of, new_app, new_rule, on_top, with_rule}
use Rattle.clap.specs.Kinds.{Kinds}
use Rattle.clap.specs.Faults.{fault_of}
use Rattle.pigale_words.specs.Numbers.{number_in}
use Rattle.pigale_words.specs.declared.output_form.Form.{Form}
use Rattle.pigale_words.specs.declared.output_form.Form.TheVariants as forms
use Rattle.pigale_words.specs.declared.job.Job.{Job}
use Rattle.pigale_words.specs.declared.job.Job.TheVariants.{Count, Shift, Schnyder, Bars, Convex, Rect, Gen, Verify, Embed}

-- an option `--name` with one text
abbrev pub option : Text → Rule
option name = record (new_rule name) { long = Some name }

-- no word before those of the job, and no help
abbrev pub without_extras : Shape → Shape
without_extras s = record s { no_binary_name = true; disable_help_flag = true }

-- the simple command as which clap reads the words: one positional, and the options of all jobs
abbrev pub command : App
command =
    with_rule (with_rule (with_rule (with_rule (on_top without_extras (new_app (codes "pigale")))
    (new_rule (codes "job"))) (option (codes "form"))) (option (codes "size"))) (option (codes "number"))

-- the texts that the words give, each once at most
pub record Given : Type 0 where
  pub job : Option Text
  pub form : Option Text
  pub size : Option Text
  pub number : Option Text

-- the first text that these rows of clap have for each of the four names
abbrev pub given_in : List Row → Given
given_in rows = record {
  job = first_of (codes "job") rows;
  form = first_of (codes "form") rows;
  size = first_of (codes "size") rows;
  number = first_of (codes "number") rows;
}

-- what these rows give, or None where clap has a fault to name
abbrev pub given_by : Kinds → List Row → Option Given
given_by [] rows = Some (given_in rows)
given_by (fault ∷ faults) rows = None

-- what words give, which is nothing where clap refuses them
unfoldable pub given : List Text → Option Given
given words = given_by (fault_of command words) (matches_of command words)

-- some option is given
abbrev pub has_option : Given → Bool
has_option g = is_some g.form || (is_some g.size || is_some g.number)

-- an option is given that no job that draws has
abbrev pub has_number : Given → Bool
has_number g = is_some g.size || is_some g.number

-- the form with a name; text where none is named
abbrev pub form_of : Option Text → Option Form
form_of None = Some forms.Text
form_of (Some name) = if bytes_eq name (codes "text") then Some forms.Text else if bytes_eq name (codes "svg") then Some forms.Svg else None

-- the form of a job that draws, which takes no other option
abbrev pub form_given : Given → Option Form
form_given g = if has_number g then None else form_of g.form

-- the number from `least` to `most` that an option gives
abbrev pub number_given : ℕ → ℕ → Option Text → Option ℕ
number_given least most given = option_and_then (number_in least most) given

-- the job that makes a map from a size and a number, where both are given
abbrev pub gen_of : Option ℕ → Option ℕ → Option Job
gen_of None number = None
gen_of (Some size) None = None
gen_of (Some size) (Some number) = Some (Gen size number)

-- the job `gen` by the texts of its two options; None where one is missing or out of range, or where a form is given
abbrev pub gen_given : Given → Option Job
gen_given g = if is_some g.form then None else gen_of (number_given 3 4095 g.size) (number_given 0 4294967295 g.number)

-- what a job takes beside its word: no option; the form at most; or a size and a number, of which it makes a map
pub data Takes : Type 0 where
  no_option : Job → Takes
  a_form : (Form → Job) → Takes
  two_numbers : Takes

-- the jobs: the word of each, and what it takes
abbrev pub jobs : List (Text × Takes)
jobs =
    (codes "count", no_option Count)
    ∷ (codes "shift", a_form Shift)
    ∷ (codes "schnyder", a_form Schnyder)
    ∷ (codes "bars", a_form Bars)
    ∷ (codes "convex", a_form Convex)
    ∷ (codes "rect", a_form Rect)
    ∷ (codes "embed", a_form Embed)
    ∷ (codes "verify", no_option Verify)
    ∷ (codes "gen", two_numbers)
    ∷ []

-- what the job with a word takes; None where there is no such job
abbrev pub taken_by : Text → Option Takes
taken_by word = lookup (bytes_eq word) jobs

-- the job, where the options given are those that it takes
abbrev pub job_with : Given → Takes → Option Job
job_with g (no_option job) = if has_option g then None else Some job
job_with g (a_form job) = option_map job (form_given g)
job_with g two_numbers = gen_given g

-- the job of a word with the options beside it
abbrev pub job_named : Given → Text → Option Job
job_named g word = option_and_then (job_with g) (taken_by word)

-- the job that what was given names, if any
abbrev pub job_given : Given → Option Job
job_given g = option_and_then (job_named g) g.job

-- the job of the words after the program's name, each a list of bytes; None where they are bad
abbrev pub job_of : List (List ℕ) → Option Job
job_of words = option_and_then job_given (given words)
