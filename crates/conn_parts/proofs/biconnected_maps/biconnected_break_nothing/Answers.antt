use Rattle.conn_parts.proofs.RefusalLemmas.{nothing_broken}
use Rattle.conn_parts.proofs.biconnected_maps.biconnected_break_nothing.Goals as goal

pub returns : goal.returns
returns c = λ least lists refusal some biconnected. nothing_broken least lists refusal ((c.no_refusal_is_plane.ensures least lists some).1 (biconnected.simple, biconnected.plane, biconnected.some)) biconnected
