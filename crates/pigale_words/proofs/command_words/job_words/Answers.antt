use Rattle.pigale_words.proofs.JobWords.{job_words-law}
use Rattle.pigale_words.proofs.command_words.job_words.Goals as goal

pub returns : goal.returns
returns c = job_words-law
