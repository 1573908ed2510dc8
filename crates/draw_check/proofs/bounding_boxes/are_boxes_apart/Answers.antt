use Rattle.std.proofs.Common.{inl, inr, arith}
use Rattle.std.proofs.lemmas.Int.{ints}
use Rattle.draw_check.proofs.bounding_boxes.are_boxes_apart.Goals as goal

pub returns-then-other-span : goal.returns-then-other-span
returns-then-other-span c = λ p q first second. let h = c.if-other-span.true in let a = first.right in let b = second.right in inl (omega (arith, ints), omega (arith, ints))

pub returns-then-span-other : goal.returns-then-span-other
returns-then-span-other c = λ p q first second. let h = c.if-span-other.true in let a = first.left in let b = second.left in inr (inl (omega (arith, ints), omega (arith, ints)))

pub returns-then-other-span-2 : goal.returns-then-other-span-2
returns-then-other-span-2 c = λ p q first second. let h = c.if-other-span-2.true in let a = first.top in let b = second.top in inr (inr (inl (omega (arith, ints), omega (arith, ints))))

pub returns-then-span-other-2 : goal.returns-then-span-other-2
returns-then-span-other-2 c = λ p q first second. let h = c.if-span-other-2.true in let a = first.bottom in let b = second.bottom in inr (inr (inr (omega (arith, ints), omega (arith, ints))))
