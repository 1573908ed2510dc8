use Rattle.std.proofs.Common.{◌<◌, ◌≡◌, Bool, true, false, cond, length, get_or, below_more, refl, sym, ap, ◌∙◌, arith}
use mir.Val.{bool_byte}
use Rattle.std.proofs.lemmas.List.{get_or_append_left, get_or_push, length_push}
use Rattle.half_edges.proofs.InducedLemmas.{kept_before_none, kept_before_more}
use Rattle.half_edges.proofs.submaps.numbers_of.Goals as goal

bool_byte-cond : (b : Bool) → bool_byte b ≡ cond b 1 0
bool_byte-cond true = refl
bool_byte-cond false = refl

bool_byte-le : (b : Bool) → bool_byte b < 2
bool_byte-le true = omega arith
bool_byte-le false = omega arith

pub loop-k-init : goal.loop-k-init
loop-k-init c = record {
  numbers = ap length (c.in_ok-numbers.ensures.items);
  at = λ v l. absurd (omega (arith, l));
  count = sym (kept_before_none c.args.keep.now);
  few = omega arith;
}

pub loop-k-preserved : goal.loop-k-preserved
loop-k-preserved c =
    let i = c.loop-k.k-index in
    let before = c.loop-k.numbers.items in
    let pushed = c.in_ok-push.ensures.items in
    let b = get_or c.args.keep.now i false in
    let h = c.loop-k.invariant in
    record {
      numbers = omega (arith, ap length pushed, length_push before c.loop-k.count, h.numbers);
      at = below_more _ _
          (λ v l. ap (λ xs. get_or xs v 0) pushed ∙ get_or_append_left before _ 0 v (omega (arith, h.numbers, l)) ∙ h.at v l)
          (ap (λ xs. get_or xs i 0) pushed ∙ get_or_push before c.loop-k.count 0 i h.numbers ∙ h.count);
      count = omega (arith, h.count, kept_before_more c.args.keep.now i (omega arith), bool_byte-cond b);
      few = omega (arith, h.few, bool_byte-le b);
    }
