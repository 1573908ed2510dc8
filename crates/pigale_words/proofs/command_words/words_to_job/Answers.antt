use Rattle.std.proofs.Common.{sym, ◌∙◌, ap}
use Rattle.std.specs.Prelude.{option_and_then}
use Rattle.pigale_words.specs.Words.{job_given}
use Rattle.pigale_words.proofs.SizeLemmas.{job_of-sized}
use Rattle.pigale_words.proofs.command_words.words_to_job.Goals as goal

pub returns-in-Some-clause-sized : goal.returns-in-Some-clause-sized
returns-in-Some-clause-sized c =
    job_of-sized _ c.in-Some.job (ap (option_and_then job_given) c.in_ok-matches.ensures ∙ sym c.in-Some.ensures)
