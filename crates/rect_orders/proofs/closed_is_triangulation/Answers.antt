use Rattle.rect_orders.proofs.Closed.{triangulation, far}
use Rattle.rect_orders.proofs.closed_is_triangulation.Goals as goal

pub returns : goal.returns
returns c = λ lists s d p t h. (triangulation lists s d p t h, far lists s d p t h)
