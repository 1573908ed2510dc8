use Rattle.refusals.proofs.RefusalLemmas.{no_refusal}
use Rattle.refusals.proofs.no_refusal_is_plane.Goals as goal

pub returns : goal.returns
returns c = λ least lists some. no_refusal least lists c.euler_bound.ensures (c.no_fault_is_simple.ensures lists some)
