use Rattle.std.proofs.Common.{◌≡◌, Contains, get_or, slice_index, refl, subst, inl, inr, arith}
use Rattle.std.proofs.lemmas.Bool.{cases_lt}
use Rattle.map_theory.specs.Maps.{Dart}
use Rattle.left_right_maps.specs.Orders.{MayPrecede}
use Rattle.left_right_lists.specs.Sides.{side_in}
use Rattle.left_right_lists.proofs.Ordered.{all_held}
use Rattle.left_right_lists.proofs.edge_orders.Choice.may_all_precede.Goals as goal

pub loop-d-preserved : goal.loop-d-preserved
loop-d-preserved c = λ j l e has. elim (cases_lt j c.loop-d.d-index) [
  | inl less ↦ c.loop-d.invariant j less e has
  | inr late ↦
      let same : c.loop-d.d-index ≡ j = omega (arith, l, late) in
      subst (λ i. MayPrecede (slice_index c.args.self.now.depths.now) (side_in c.args.self.now.sides.now) (get_or c.args.ds.now i (0, 0)) e) same
      (all_held (λ e. MayPrecede (slice_index c.args.self.now.depths.now) (side_in c.args.self.now.sides.now) (get_or c.args.ds.now c.loop-d.d-index (0, 0)) e) c.args.es.now c.loop-e.e-index (omega (arith, c.loop-e-test.false)) c.loop-e.invariant e has)
]

pub returns : goal.returns
returns c = (
  (λ _ d e one other. all_held (λ d. (e : Dart) → Contains c.args.es.now e → MayPrecede (slice_index c.args.self.now.depths.now) (side_in c.args.self.now.sides.now) d e) c.args.ds.now c.loop-d.d-index (omega (arith, c.loop-d-test.false)) c.loop-d.invariant d one e other),
  (λ _. refl),
)
