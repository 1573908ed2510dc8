use Rattle.plane_laws.proofs.Completions.{completion}
use Rattle.plane_laws.proofs.map_edits.completion.Goals as goal

pub returns : goal.returns
returns c = completion
