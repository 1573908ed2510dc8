use Rattle.rect_class.proofs.RectMapLemmas.{open_quadrangle}
use Rattle.rect_class.proofs.biconnected_are_rect_maps.Goals as goal

pub returns : goal.returns
returns c = open_quadrangle
