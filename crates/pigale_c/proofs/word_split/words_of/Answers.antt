-- Where a word is not UTF-8 there are no words.
use Rattle.std.proofs.Common.{inr, ap, map, arith}
use Rattle.std.specs.Prelude.{string_bytes}
use Rattle.pigale_c.proofs.WordLemmas.{no_text_before_space, no_text_at_end}
use Rattle.pigale_c.proofs.word_split.words_of.Goals as goal

pub returns-then-not-branch : goal.returns-then-not-branch
returns-then-not-branch c =
    inr (
      ap (map string_bytes) c.new.ensures.items,
      no_text_before_space c.args.text.now (map string_bytes c.loop-byte.words.items) c.loop-byte.word.items c.loop-byte.byte-index c.loop-byte-test.true c.if-byte-eq32.true c.loop-byte.invariant (rw c.if-not-branch.true at c.in_ok-close_word.ensures.refused),
    )

pub returns-else-branch : goal.returns-else-branch
returns-else-branch c =
    inr (
      ap (map string_bytes) c.new-else-branch.ensures.items,
      no_text_at_end c.args.text.now (map string_bytes c.loop-byte.words.items) c.loop-byte.word.items c.loop-byte.byte-index (omega arith) c.loop-byte.invariant (rw c.if-branch.false at c.in_ok-close_word-2.ensures.refused),
    )
