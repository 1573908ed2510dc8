use Rattle.std.proofs.Common.{◌≡◌, rules}
use Rattle.pigale_shell.specs.Text.{bad_words_line}
use Rattle.pigale_shell.proofs.OutcomeLemmas.{GrowsByText-none, Outcome-complete}
use Rattle.pigale_shell.proofs.top_call.pigale.Goals as goal

pub returns-in-Err-NoMemory-clause-no_memory : goal.returns-in-Err-NoMemory-clause-no_memory
returns-in-Err-NoMemory-clause-no_memory g c = λ _. GrowsByText-none _ _ _

pub returns-in-Ok-clause-complete : goal.returns-in-Ok-clause-complete
returns-in-Ok-clause-complete g c = λ job input records ending named told reading no_read no_write.
    let found = c.in-Ok.ensures in
    let same : c.in-Ok.job ≡ job = cc in
    Outcome-complete job _ _ c.run_job.result input records ending (rw same at c.run_job.ensures.outcome) told reading no_read no_write

pub returns-in-Ok-clause-limit : goal.returns-in-Ok-clause-limit
returns-in-Ok-clause-limit g c = c.run_job.ensures.limit

pub returns-in-Ok-put_all-clause-bad_words : goal.returns-in-Ok-put_all-clause-bad_words
unfolding bad_words_line
returns-in-Ok-put_all-clause-bad_words g c = search rules

pub returns-in-Err-clause-write_fault : goal.returns-in-Err-clause-write_fault
unfolding bad_words_line
returns-in-Err-clause-write_fault g c = search rules
