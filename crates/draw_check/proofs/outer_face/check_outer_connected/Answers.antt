use Rattle.std.proofs.Common.{Some, None, sym, subst, rules, arith}
use Rattle.map_theory.specs.Maps.{dart_count}
use Rattle.vertex_rounds.specs.Rounds.{dart_of}
use Rattle.draw_check.specs.Outer.{IsInside}
use Rattle.draw_check.specs.FaceSums.{AreSumsBelow, HasLowSum}
use Rattle.vertex_rounds.proofs.FirstLemmas.{least_pair}
use Rattle.vertex_rounds.proofs.LeastLemmas.{IsLeastPair-alike}
use Rattle.draw_check.proofs.FaceSumLemmas.{inside_from, inside_to, outer_from}
use Rattle.draw_check.proofs.outer_face.check_outer_connected.Goals as goal

pub invariant_of-summed-clause-count : goal.invariant_of-summed-clause-count
invariant_of-summed-clause-count c = rw c.deref.ensures.value c.in_ok-sums.ensures.count

pub returns-in-Some : goal.returns-in-Some
returns-in-Some c =
    let map = c.args.map.now in
    let points = c.args.points.now in
    let walks = c.in_ok-faces.faces in
    let base = c.args.base.0 in
    let sums = c.deref.result.now in
    let s = subst (λ sums. AreSumsBelow map points walks (dart_count map.lists) sums) (sym c.deref.ensures.value) c.in_ok-sums.ensures in
    let low = least_pair map c.args.map.now.known _ (HasLowSum map walks sums base) 0 (Some (c.in-Some.v, c.in-Some.u)) c.in-Some.ensures (λ d live late r s. search rules) (λ v u low. (omega arith, low.dart)) in (
      c.requires.connected,
      IsLeastPair-alike (HasLowSum map walks sums base) (IsInside map.lists points (dart_of map base))
          (inside_from map c.args.map.now.known points walks c.in_ok-faces.ensures.walks sums s base)
          (inside_to map c.args.map.now.known points walks c.in_ok-faces.ensures.walks sums s base)
          c.in-Some.v.0 c.in-Some.u.0 low,
    )

pub returns : goal.returns
returns c =
    let map = c.args.map.now in
    let points = c.args.points.now in
    let walks = c.in_ok-faces.faces in
    let base = c.args.base.0 in
    let sums = c.deref.result.now in
    let s = subst (λ sums. AreSumsBelow map points walks (dart_count map.lists) sums) (sym c.deref.ensures.value) c.in_ok-sums.ensures in
    let none = least_pair map c.args.map.now.known _ (HasLowSum map walks sums base) 0 None c.in-None.ensures (λ d live late r s. search rules) (λ v u low. (omega arith, low.dart)) in
    outer_from map.lists points (dart_of map base) (λ v u i. none v u (inside_to map c.args.map.now.known points walks c.in_ok-faces.ensures.walks sums s base v u i))
