-- What the words of each job spell.
use Rattle.std.specs.Prelude.{◌≡◌, ◌⊎◌, ◌↔◌, ℕ, List, [], ◌∷◌, ◌++◌, Option, Some, None, codes}
use Rattle.clap.specs.Walk.{Text}
use Rattle.pigale_words.specs.Numbers.{number_in}
use Rattle.pigale_words.specs.Words.{Takes, Takes.no_option, Takes.a_form, Takes.two_numbers, taken_by, job_of}
use Rattle.pigale_words.specs.declared.output_form.Form.{Form}
use Rattle.pigale_words.specs.declared.output_form.Form.TheVariants as forms
use Rattle.pigale_words.specs.declared.job.Job.{Job}
use Rattle.pigale_words.specs.declared.job.Job.TheVariants.{Gen}

-- The words spell the word of a job, or of none, and options with their texts, in their order. An option is the two words `--name text`, or the one word
-- `--name=text`. `--` may stand once; behind it is no option, and so nothing but the word of the job where that has not come before.
pub data Spell : List Text → Option Text → List (Text × Text) → Type 0 where
  nothing : Spell [] None []
  hyphens : Spell (codes "--" ∷ []) None []
  behind : {word : Text} → Spell (codes "--" ∷ word ∷ []) (Some word) []
  job_word : {word : Text} {words : List Text} {options : List (Text × Text)} → Spell words None options → Spell (word ∷ words) (Some word) options
  apart : {name text : Text} {words : List Text} {word : Option Text} {options : List (Text × Text)}
      → Spell words word options → Spell ((codes "--" ++ name) ∷ text ∷ words) word ((name, text) ∷ options)
  joined : {name text : Text} {words : List Text} {word : Option Text} {options : List (Text × Text)}
      → Spell words word options → Spell ((codes "--" ++ name ++ codes "=" ++ text) ∷ words) word ((name, text) ∷ options)

-- the options name the form; where there is none it is text
abbrev pub NamesForm : Form → List (Text × Text) → Type 0
NamesForm forms.Text options = (options ≡ []) ⊎ (options ≡ (codes "form", codes "text") ∷ [])
NamesForm forms.Svg options = options ≡ (codes "form", codes "svg") ∷ []

-- the options name a size from 3 to 4095 and a number from 0 to 4294967295, in either order
abbrev pub NamesNumbers : ℕ → ℕ → List (Text × Text) → Type 0
NamesNumbers size number options =
    (s n : Text) × (number_in 3 4095 s ≡ Some size) × (number_in 0 4294967295 n ≡ Some number)
    × ((options ≡ (codes "size", s) ∷ (codes "number", n) ∷ []) ⊎ (options ≡ (codes "number", n) ∷ (codes "size", s) ∷ []))

-- the options are those of a job that takes such
abbrev pub Fits : Takes → Job → List (Text × Text) → Type 0
Fits (no_option named) job options = (job ≡ named) × (options ≡ [])
Fits (a_form named) job options = (form : Form) × (job ≡ named form) × NamesForm form options
Fits two_numbers job options = (size number : ℕ) × (job ≡ Gen size number) × NamesNumbers size number options

-- the word is one of the table, and the options are those of the job
abbrev pub IsNamed : Job → Text → List (Text × Text) → Type 0
IsNamed job word options = (takes : Takes) × (taken_by word ≡ Some takes) × Fits takes job options

-- the words of each job are those that spell its word and its options, and no others
abbrev pub JobWords : Type 0
JobWords = (words : List Text) (job : Job)
    → (job_of words ≡ Some job) ↔ ((word : Text) × (options : List (Text × Text)) × Spell words (Some word) options × IsNamed job word options)
