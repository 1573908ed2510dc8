use Rattle.std.proofs.Common.{rules, append_assoc}
use Rattle.pigale_shell.specs.Forms.{commented}
use Rattle.pigale_shell.proofs.form_printer.commented.Goals as goal

pub returns : goal.returns
unfolding commented
returns c = search (rules, append_assoc)
