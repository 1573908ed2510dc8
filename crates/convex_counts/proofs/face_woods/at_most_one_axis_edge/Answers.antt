use Rattle.convex_counts.proofs.Leads.{one_rising_at}
use Rattle.convex_counts.proofs.face_woods.at_most_one_axis_edge.Goals as goal

pub returns : goal.returns
returns c = λ steps n v u w axis whole some a b d e r r'. one_rising_at steps n whole some v u w axis a b d e r r'
