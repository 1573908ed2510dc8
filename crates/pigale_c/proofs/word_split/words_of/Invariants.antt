use Rattle.std.proofs.Common.{◌≡◌, ◌++◌, drop, map}
use Rattle.std.specs.Prelude.{string_bytes}
use Rattle.pigale_c.specs.Words.{words_from, words_in}
use Rattle.pigale_c.proofs.word_split.words_of.Given as goal

abbrev pub invariant-loop-byte : goal.invariant-loop-byte
invariant-loop-byte l = map string_bytes l.words.items ++ words_from l.word.items (drop l.byte-index l.text) ≡ words_in l.text
