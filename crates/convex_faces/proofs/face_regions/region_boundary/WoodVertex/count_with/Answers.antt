use Rattle.std.proofs.Common.{Some, subst, ap, ◌∙◌}
use Rattle.std.proofs.lemmas.Result.{IfOk-weaker}
use Rattle.convex_faces.specs.Directions.{root_in}
use Rattle.convex_faces.specs.Passing.{PassesAxis}
use Rattle.convex_laws.proofs.RegionWalks.{IsRegionWalk-closed}
use Rattle.convex_faces.proofs.RegionLemmas.{has_base, marks_region, start_is}
use Rattle.convex_faces.proofs.face_regions.region_boundary.WoodVertex.count_with.Goals as goal

pub dart_between-base-requires : goal.dart_between-base-requires
dart_between-base-requires c = let given = c.requires.wood in has_base c.args.self.now.map.now c.args.self.now.map.now.known given.0 c.args.self.now.wood.now given.1

pub returns : goal.returns
returns c =
    let map = c.args.self.now.map.now in
    let wood = c.args.self.now.wood.now in
    let root = root_in wood in
    let v = c.args.self.now.v.0 in
    let one = c.pass_axis.new.marked in
    let two = c.pass_outer.new.marked in
    let new = c.pass_axis-2.new.marked in
    IfOk-weaker c.inside_count.result _ _ (λ k h start w.
    let m = marks_region map c.args.self.now.map.now.known start wood w c.dart_between-base.result.0 c.dart_between-before.result.0 c.dart_between-base.ensures c.dart_between-before.ensures c.args.axis v c.args.marked.now one two new c.requires.unset
    (subst (λ a. PassesAxis map root w.head a v (root a) c.args.marked.now one) c.axes_beside-ahead.ensures.behind (c.pass_axis.ensures start w)) c.pass_outer.ensures
    (subst (λ a. PassesAxis map root w.head a v (root a) two new) c.axes_beside-ahead.ensures.before (c.pass_axis-2.ensures start w)) in
    record {
      walk = m.walk;
      closed = m.closed;
      count = h start v m.walk (c.dart_between-base.ensures ∙ ap Some (start_is map c.args.self.now.map.now.known start wood w)) (IsRegionWalk-closed map.lists start root w.head c.args.self.now.map.now.known.simple w.convex c.args.axis v m.walk m.closed) m.marks;
    })
    c.inside_count.ensures
