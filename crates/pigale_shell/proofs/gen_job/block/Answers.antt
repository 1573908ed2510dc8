use Rattle.refusals.proofs.RefusalLemmas.{no_fault}
use Rattle.pigale_shell.proofs.gen_job.block.Goals as goal

pub count-requires-clause-simple : goal.count-requires-clause-simple
count-requires-clause-simple c = no_fault 3 c.args.lists.now c.requires.served
