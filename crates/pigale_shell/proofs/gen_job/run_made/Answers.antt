use Rattle.std.proofs.Common.{◌∙◌}
use Rattle.pigale_shell.proofs.MadeLemmas.{made-cut, made-none, made-whole}
use Rattle.pigale_shell.proofs.gen_job.run_made.Goals as goal

pub returns-in_default-clause-outcome : goal.returns-in_default-clause-outcome
returns-in_default-clause-outcome g c = λ reads. made-none c.args.size c.args.number reads _ _

pub returns-in-Ok-put_all-clause-outcome : goal.returns-in-Ok-put_all-clause-outcome
returns-in-Ok-put_all-clause-outcome g c = λ reads.
    let is = c.in-Ok.ensures in
    made-whole c.args.size c.args.number reads is.0 c.deref.result.now is.1 (c.deref.ensures.value ∙ is.2) c.in-Ok-put_all.ensures.ok c.in-Ok-put_all.ensures.kept

pub returns-clause-outcome : goal.returns-clause-outcome
returns-clause-outcome g c = λ reads.
    let is = c.in-Ok.ensures in
    let failed = c.in-Err.ensures.err in
    made-cut c.args.size c.args.number reads is.0 c.deref.result.now is.1 (c.deref.ensures.value ∙ is.2) failed.0 failed.1
