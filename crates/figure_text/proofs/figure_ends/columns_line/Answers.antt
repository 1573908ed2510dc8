-- A line with a word that is neither a number nor a word of figures is none of columns.
use Rattle.figure_text.specs.Words.{words_of}
use Rattle.figure_text.proofs.OtherLemmas.{other-columns}
use Rattle.figure_text.proofs.figure_ends.columns_line.Goals as goal

pub returns-in-Ok-None-known_words : goal.returns-in-Ok-None-known_words
returns-in-Ok-None-known_words c = other-columns (words_of c.args.line.now) (rw c.in-Ok-None-known_words.field-0-is at c.in-Ok-None-known_words.ensures)
