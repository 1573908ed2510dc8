use Rattle.std.proofs.Common.{sym, ◌∙◌, ap, subst, Some}
use Rattle.std.proofs.lemmas.Result.{IfOk-weaker}
use Rattle.map_theory.specs.Maps.{HasDart}
use Rattle.wood_runs.specs.Parents.{one, two}
use Rattle.schnyder_wood.specs.Parents.{kind, root_in, parent_in}
use Rattle.half_edges.specs.Map.{dart_at}
use Rattle.euler_faces.proofs.NumberLemmas.{live_from}
use Rattle.schnyder_wood.specs.Boundaries.{base_in}
use Rattle.schnyder_wood.proofs.ClosedPathLemmas.{has_edges, has_vertices, base_is}
use Rattle.schnyder_wood.proofs.schnyder_regions.region_counts.region_count.Goals as goal

pub base_dart-start-requires : goal.base_dart-start-requires
base_dart-start-requires c =
    let lists = c.args.tri.now.lists in
    let wood = c.args.wood.now in
    let (base, has, is) = c.requires.wood in
    subst (λ x. HasDart lists x (root_in wood one)) (sym (is.roots two)) (subst (HasDart lists base.0) (sym (is.roots one)) has)

pub invariant_of-region : goal.invariant_of-region
invariant_of-region c =
    let (base, has, is) = c.requires.wood in
    record {
      all = c.in_ok-path.ensures.nexts.count ∙ is.count;
      live = live_from (dart_at c.args.tri.now c.base_dart-start.result.0) (base_in c.args.wood.now) c.base_dart-start.ensures;
    }

pub returns : goal.returns
returns c =
    let wood = c.args.wood.now in
    let known = c.args.tri.now.known in
    let d = kind c.args.colour in
    let path = c.in_ok-path.path in
    IfOk-weaker c.count.result _ _ (λ k h base is.
    h base (parent_in wood) d c.args.v.0 (c.base_dart-start.ensures ∙ ap Some (base_is c.args.tri.now.lists base wood is c.facts.ensures))
    (has_edges c.args.tri.now.lists base wood is c.facts.ensures known.simple c.args.v.0 c.requires.inner d path c.in_ok-path.ensures)
    (has_vertices c.args.tri.now.lists base wood is c.facts.ensures known.simple c.args.v.0 c.requires.inner d path c.in_ok-path.ensures))
    c.count.ensures
