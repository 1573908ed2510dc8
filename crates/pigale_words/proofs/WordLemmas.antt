-- What clap says of the words, in the words of a job.
use Rattle.std.proofs.Common.{◌≡◌, ◌≢◌, ◌∙◌, Option, Some, None, List, [], ◌∷◌, true, refl, ap, sym, inl, inr}
use Rattle.clap.specs.Walk.{Row, Text}
use Rattle.clap.specs.Simple.{App, is_simple, matches_of}
use Rattle.clap.specs.Values.{kind_of}
use Rattle.clap.specs.Kinds.{HasKind, Kinds}
use Rattle.clap.specs.Faults.{fault_of, is_simple_and_free}
use Rattle.clap.specs.declared.error.Error.{Error}
use Rattle.clap.specs.declared.error.kind.ErrorKind.TheVariants.{OutOfMemory}
use Rattle.clap.proofs.OnLiterals.{clap_on_literals}
use Rattle.pigale_words.specs.Status.{RefusesWords}
use Rattle.pigale_words.specs.declared.job.WordFault.{WordFault}
use Rattle.pigale_words.specs.declared.job.WordFault.TheVariants.{BadWords, NoMemory}
use Rattle.pigale_words.specs.Words.{command, given, given_by, given_in}

-- clap's statements are exact for the command
command_is_simple : is_simple command ≡ true
unfolding clap_on_literals
command_is_simple = refl

command_is_free : is_simple_and_free command ≡ true
unfolding clap_on_literals
command_is_free = refl

-- words that clap takes give what is in its rows
pub given-taken : (a : App) (words : List Text) (rows : List Row) {X : Type 0} → a ≡ command → (is_simple_and_free a ≡ true → fault_of a words ≡ []) → (is_simple a ≡ true → (rows ≡ matches_of a words) × X) → given words ≡ Some (given_in rows)
unfolding given
given-taken a words rows is taken found =
    ap (λ faults. given_by faults (matches_of command words)) (sym (ap (λ b. fault_of b words) is) ∙ taken (ap is_simple_and_free is ∙ command_is_free))
    ∙ ap (λ found_rows. Some (given_in found_rows)) (sym ((found (ap is_simple is ∙ command_is_simple)).0 ∙ ap (λ b. matches_of b words) is))

-- an error is one of some kinds only where there are some
given_by-fault : (faults : Kinds) (rows : List Row) (e : Error) → HasKind faults e → kind_of e ≢ OutOfMemory → given_by faults rows ≡ None
given_by-fault [] rows e (inl memory) other = absurd (other memory)
given_by-fault [] rows e (inr among) other = absurd among
given_by-fault (fault ∷ faults) rows e has other = refl

-- words that clap refuses, but not when out of memory, give nothing
pub given-refused : (a : App) (words : List Text) (e : Error) → a ≡ command → (is_simple_and_free a ≡ true → HasKind (fault_of a words) e) → kind_of e ≢ OutOfMemory → given words ≡ None
unfolding given
given-refused a words e is fails other =
    ap (λ b. given_by (fault_of b words) (matches_of command words)) (sym is)
    ∙ given_by-fault (fault_of a words) (matches_of command words) e (fails (ap is_simple_and_free is ∙ command_is_free)) other

-- a refusal is right if it is right where it says that the words are bad
pub RefusesWords-where_bad : {X : Type 0} (found : Option X) (f : WordFault) → (f ≡ BadWords → found ≡ None) → RefusesWords found f
RefusesWords-where_bad found BadWords bad = bad refl
RefusesWords-where_bad found NoMemory bad = tt
