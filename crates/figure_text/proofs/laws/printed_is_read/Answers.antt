-- Line by line, and word by word.
use Rattle.figure_text.proofs.LawLemmas.{printed-read}
use Rattle.figure_text.proofs.laws.printed_is_read.Goals as goal

pub returns : goal.returns
returns c = printed-read
