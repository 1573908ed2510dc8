use Rattle.rect_runs.proofs.Later.{two_later_sort}
use Rattle.rect_runs.proofs.two_later_sort.Goals as goal

pub returns : goal.returns
returns c = two_later_sort
