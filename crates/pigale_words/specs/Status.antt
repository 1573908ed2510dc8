-- The numbers of statuses, and why words are refused.
use Rattle.std.specs.Prelude.{ℕ, ◌≡◌, Option, None}
use Rattle.pigale_words.specs.declared.job.Status.{Status}
use Rattle.pigale_words.specs.declared.job.Status.TheVariants.{Done, SomeRefused, BadWords, BadInput, ReadFault, WriteFault, NoMemory}
use Rattle.pigale_words.specs.declared.job.WordFault.{WordFault}
use Rattle.pigale_words.specs.declared.job.WordFault.TheVariants as fault

abbrev pub status_number : Status → ℕ
status_number Done = 0
status_number SomeRefused = 1
status_number BadWords = 2
status_number BadInput = 3
status_number ReadFault = 4
status_number WriteFault = 5
status_number NoMemory = 6

-- `BadWords` only where the words give nothing; out of memory says nothing of them
abbrev pub RefusesWords : {X : Type 0} → Option X → WordFault → Type 0
RefusesWords found fault.BadWords = found ≡ None
RefusesWords found fault.NoMemory = Unit {0}
