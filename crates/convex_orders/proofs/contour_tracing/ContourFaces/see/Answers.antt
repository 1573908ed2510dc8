use Rattle.std.proofs.Common.{◌≡◌, ◌<◌, ℕ, List, length, get_or, set, length-set, sym, ap, ◌∙◌, subst, arith}
use Rattle.map_theory.proofs.DartLemmas.{place_of-lt-length}
use Rattle.map_theory.specs.Maps.{list_of, place_of}
use Rattle.convex_orders.specs.FaceNumbers.{entry}
use Rattle.convex_orders.specs.Shown.{IsRimIn}
use Rattle.convex_orders.specs.Splits.{IsRimAt}
use Rattle.convex_orders.proofs.Known.{based}
use Rattle.convex_orders.proofs.Rows.{rows_of, place_rim, place_numbers}
use Rattle.convex_orders.proofs.contour_tracing.ContourFaces.see.Goals as goal

pub returns-clause-rim : goal.returns-clause-rim
returns-clause-rim c =
    let t = c.args.map.now.tables.now in
    let marks = c.args.map.now.marks.now in
    let x = c.args.x in
    let k = c.rim_near-k.result in
    let at : IsRimAt (list_of t.faces.own x) (list_of t.faces.other x) marks k = subst (λ (z : List ℕ). IsRimAt z (list_of t.faces.other x) marks k) c.list-own.ensures (subst (λ (z : List ℕ). IsRimAt c.list-own.result.now z marks k) c.list-other.ensures c.rim_near-k.ensures) in
    subst (IsRimIn t.lists t.faces.own t.faces.other marks x) (ap (λ (z : List ℕ). get_or z k 0) (sym c.list.ensures))
    (place_rim t.lists t.faces.own t.faces.other t.faces.count (based t).three.simple t.numbers marks x k c.requires.some.1.dart.0 at)

pub returns-clause-seen : goal.returns-clause-seen
returns-clause-seen c =
    let t = c.args.map.now.tables.now in
    let s = c.args.self.now in
    let x = c.args.x in
    let k = c.rim_near-k.result in
    let y = get_or (list_of t.lists x) k 0 in
    let to : y ≡ get_or c.list.result.now k 0 = ap (λ (z : List ℕ). get_or z k 0) (sym c.list.ensures) in
    let within : k < length (list_of t.faces.own x) = subst (λ (z : List ℕ). k < length z) c.list-own.ensures c.rim_near-k.ensures.within in
    let numbers = place_numbers t.lists t.faces.own t.faces.other t.faces.count (based t).three.simple t.numbers x k c.requires.some.1.dart.0 within in
    record {
      hints = length-set s.hints.items x _;
      inner = ap (set s.inner.items x) (ap (λ (z : List ℕ). get_or z k 0) c.list-other.ensures ∙ (numbers.1 ∙ ap (λ v. entry t.lists t.faces.own v x) to));
      outer = ap (set s.outer.items x) (ap (λ (z : List ℕ). get_or z k 0) c.list-own.ensures ∙ (numbers.0 ∙ ap (entry t.lists t.faces.own x) to));
    }

pub rim_near-k-requires : goal.rim_near-k-requires
rim_near-k-requires c =
    let t = c.args.map.now.tables.now in
    let (y, rim) = c.requires.some in
    rw (c.list-own.ensures, c.list-other.ensures) (record {
      rows = rows_of t.lists t.faces.own t.faces.other t.faces.count (based t).three.simple t.numbers c.args.x _ rim.dart.0 (omega arith);
      some = (place_of y (list_of t.lists c.args.x), record { within = omega (arith, place_of-lt-length y (list_of t.lists c.args.x) rim.dart.1, t.numbers.own_table.sizes c.args.x rim.dart.0); outside = rim.outside; inside = rim.inside });
    })
