use Rattle.std.proofs.Common.{◌≡◌, ◌<◌, ◌≤◌, ◌+◌, ℕ, suc, List, length, slice_index, get_or, take, drop, All, subst, sym, ap, ◌∙◌, arith}
use Rattle.std.proofs.lemmas.List.{get_or_default}
use Rattle.std.proofs.lemmas.List.Elements.{All-take, All-drop}
use Rattle.map_theory.specs.Maps.{list_of}
use Rattle.rect_dual.specs.Sides.{IsWritten, AreSides}
use Rattle.rect_dual.proofs.Pieces.{IsWritten-front, IsWritten-back}
use Rattle.rect_dual.proofs.RectSidesSides.{AreSides-more}
use Rattle.rect_dual.proofs.rect_sides.fill_sides.Goals as goal

pub split_at-requires : goal.split_at-requires
split_at-requires c =
    let t = c.args.turned.now in
    let l : c.loop-k.k < length t.rows.now = omega (arith, c.loop-k-test.true, c.len-k-end.ensures.is) in
    omega (arith, t.turns c.loop-k.k l, ap length c.list.ensures)

pub put_side-requires : goal.put_side-requires
put_side-requires c =
    let t = c.args.turned.now in
    let l : c.loop-k.k < length t.rows.now = omega (arith, c.loop-k-test.true, c.len-k-end.ensures.is) in
    let turn : ℕ = slice_index t.places.now c.loop-k.k in
    subst (λ (us : List ℕ). All (λ u. u < length c.loop-k.right) us) (sym (c.split_at.ensures.front ∙ ap (take (turn + 1)) c.list.ensures))
    (All-take (λ u. u < length c.loop-k.right) (turn + 1) (list_of t.rows.now c.loop-k.k) (λ i d m. omega (arith, t.within c.loop-k.k l i d m, c.loop-k.invariant.right_size)))

pub put_side-requires-in-loop-k : goal.put_side-requires-in-loop-k
put_side-requires-in-loop-k c =
    let t = c.args.turned.now in
    let l : c.loop-k.k < length t.rows.now = omega (arith, c.loop-k-test.true, c.len-k-end.ensures.is) in
    let turn : ℕ = slice_index t.places.now c.loop-k.k in
    subst (λ (us : List ℕ). All (λ u. u < length c.loop-k.high) us) (sym (c.split_at.ensures.back ∙ ap (drop (turn + 1)) c.list.ensures))
    (All-drop (λ u. u < length c.loop-k.high) (turn + 1) (list_of t.rows.now c.loop-k.k) (λ i d m. omega (arith, t.within c.loop-k.k l i d m, c.loop-k.invariant.high_size)))

pub loop-k-init : goal.loop-k-init
loop-k-init c = record {
  right_size = c.requires.right;
  high_size = c.requires.high;
  sides = λ steps width ceiling h t one two. record { rights_are = one; highs_are = two };
}

pub loop-k-preserved : goal.loop-k-preserved
loop-k-preserved c =
    let h = c.loop-k.invariant in
    let turned = c.args.turned.now in
    let rows = turned.rows.now in
    let k : ℕ = c.loop-k.k in
    let row = list_of rows k in
    let l : k < length rows = omega (arith, c.loop-k-test.true, c.len-k-end.ensures.is) in
    let turn : ℕ = slice_index turned.places.now k in
    let short : turn + 1 ≤ length row = omega (arith, turned.turns k l) in
    let xs = c.args.numbers.now.x.items in
    let ys = c.args.numbers.now.y.items in
    let right = c.put_side.new.sides in
    let high = c.put_side-in-loop-k.new.sides in
    let x = c.index.result.now in
    let y = c.index-in-loop-k.result.now in
    let x_is : x ≡ get_or xs (k + 2) 0 = c.index.ensures ∙ get_or_default xs (k + 2) x 0 (omega (arith, l, c.requires.xs)) in
    let y_is : y ≡ get_or ys (k + 2) 0 = c.index-in-loop-k.ensures ∙ get_or_default ys (k + 2) y 0 (omega (arith, l, c.requires.ys)) in
    let one : IsWritten c.loop-k.right right row 0 (turn + 1) x =
    IsWritten-front c.loop-k.right right row (turn + 1) x short (subst (λ (us : List ℕ). IsWritten c.loop-k.right right us 0 (length us) x) (c.split_at.ensures.front ∙ ap (take (turn + 1)) c.list.ensures) c.put_side.ensures) in
    let two : IsWritten c.loop-k.high high row (turn + 1) (length row) y =
    IsWritten-back c.loop-k.high high row (turn + 1) y short (subst (λ (us : List ℕ). IsWritten c.loop-k.high high us 0 (length us) y) (c.split_at.ensures.back ∙ ap (drop (turn + 1)) c.list.ensures) c.put_side-in-loop-k.ensures) in
    let next : suc k ≡ k + 1 = omega arith in
    record {
      right_size = c.put_side.auto.sides ∙ h.right_size;
      high_size = c.put_side-in-loop-k.auto.sides ∙ h.high_size;
      sides = λ steps width ceiling a t first second.
          subst (λ (z : ℕ). AreSides steps z (length rows + 2) (slice_index xs) (slice_index ys) width ceiling right high) next
          (AreSides-more steps rows a k l (slice_index xs) (slice_index ys) width ceiling (length rows + 2) c.loop-k.right c.loop-k.high right high turn x y (t k l) x_is y_is one two (h.sides steps width ceiling a t first second));
    }

pub returns : goal.returns
returns c = λ steps width ceiling h t one two.
    let rows = c.args.turned.now.rows.now in
    let all : c.loop-k.k ≡ length rows = omega (arith, c.loop-k-test.false, c.loop-k.auto.k-end, c.len-k-end.ensures.is) in
    subst (λ (z : ℕ). AreSides steps z (length rows + 2) (slice_index c.args.numbers.now.x.items) (slice_index c.args.numbers.now.y.items) width ceiling c.loop-k.right c.loop-k.high) all (c.loop-k.invariant.sides steps width ceiling h t one two)
