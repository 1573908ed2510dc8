use Rattle.std.proofs.Common.{◌≡◌, ◌+◌, ◌-◌, true, length, slice_index, refl, ◌∙◌, subst, arith}
use Rattle.left_right_sides.specs.Views.{rooted_by, MatchPlaced}
use Rattle.left_right_sides.proofs.Numbered.{next_at}
use Rattle.left_right_sides.proofs.Items.{left_begin, left_more}
use Rattle.left_right_sides.proofs.vertex_forks.VertexForks.place_all.Goals as goal

pub loop-k-init : goal.loop-k-init
loop-k-init c = record {
  alike = record { edges = refl; count = refl };
  long = refl;
  numbers = refl;
  placed = λ edge number root P lists t numbered whole long s stands held items.
      ((P, (s, stands)), (lists, (held, left_begin (rooted_by edge number c.args.self.now.parents.now c.args.self.now.depths.now c.args.self.now.darts.now c.args.self.now.heights.now) lists items)));
}

pub returns-then-not-placed-clause-placed : goal.returns-then-not-placed-clause-placed
returns-then-not-placed-clause-placed c = λ edge number root P lists t numbered whole long s stands held items.
    let r = rooted_by edge number c.args.self.now.parents.now c.args.self.now.depths.now c.args.self.now.darts.now c.args.self.now.heights.now in
    let both = c.loop-k.invariant.placed edge number root P lists t numbered whole long s stands held items in
    let f = both.0 in
    let v = slice_index c.args.order.now (length c.args.order.now - 1 - c.loop-k.k) in
    let next = next_at r c.args.order.now c.loop-k.k v numbered whole c.loop-k-test.true refl in
    let in_n = next.1 in
    subst (MatchPlaced r (c.loop-k.k + 1) c.place.new.lows c.place.new.blocks) c.if-not-placed.true
    (c.in_ok-placed.ensures.placed edge number root c.loop-k.k f.0 both.1.0 t f.1.0 f.1.1 next (c.loop-k.invariant.long ∙ long) both.1.1.0 (λ p. both.1.1.1 v p next.0 (omega (arith, in_n))))

pub loop-k-preserved : goal.loop-k-preserved
loop-k-preserved c = record {
  alike = record { edges = c.in_ok-placed.ensures.alike.edges ∙ c.loop-k.invariant.alike.edges; count = c.in_ok-placed.ensures.alike.count ∙ c.loop-k.invariant.alike.count };
  long = c.in_ok-placed.ensures.long ∙ c.loop-k.invariant.long;
  numbers = c.in_ok-placed.ensures.numbers ∙ c.loop-k.invariant.numbers;
  placed = λ edge number root P lists t numbered whole long s stands held items.
      let r = rooted_by edge number c.args.self.now.parents.now c.args.self.now.depths.now c.args.self.now.darts.now c.args.self.now.heights.now in
      let both = c.loop-k.invariant.placed edge number root P lists t numbered whole long s stands held items in
      let f = both.0 in
      let v = slice_index c.args.order.now (length c.args.order.now - 1 - c.loop-k.k) in
      let next = next_at r c.args.order.now c.loop-k.k v numbered whole c.loop-k-test.true refl in
      let in_n = next.1 in
      let kept = c.in_ok-placed.ensures.kept both.1.0 both.1.1.0 in (
        subst (MatchPlaced r (c.loop-k.k + 1) c.place.new.lows c.place.new.blocks) c.if-not-placed.false
            (c.in_ok-placed.ensures.placed edge number root c.loop-k.k f.0 both.1.0 t f.1.0 f.1.1 next (c.loop-k.invariant.long ∙ long) both.1.1.0 (λ p. both.1.1.1 v p next.0 (omega (arith, in_n)))),
        (kept.0, (kept.1.0, left_more r c.loop-k.k v both.1.0 kept.0 next.1 both.1.1.1 kept.1.1)),
      );
}

pub returns-clause-placed : goal.returns-clause-placed
returns-clause-placed c = λ edge number root P lists t numbered whole long s stands held items.
    let r = rooted_by edge number c.args.self.now.parents.now c.args.self.now.depths.now c.args.self.now.darts.now c.args.self.now.heights.now in
    let e : c.loop-k.k ≡ length c.args.order.now = omega (arith, c.loop-k.auto.k-end, c.loop-k-test.false) in
    subst (λ k. MatchPlaced r k c.loop-k.lows c.loop-k.blocks true) e (c.loop-k.invariant.placed edge number root P lists t numbered whole long s stands held items).0

pub place-requires-clause-room : goal.place-requires-clause-room
place-requires-clause-room c =
    let l = c.requires.within (length c.args.order.now - 1 - c.loop-k.k) (omega (arith, c.loop-k-test.true)) in
    let room = c.requires.room in
    let count = c.loop-k.invariant.alike.count in
    omega (arith, l, room, count)
