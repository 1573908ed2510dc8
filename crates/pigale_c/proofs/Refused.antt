-- Wrong bodies that the clauses exclude.
use Rattle.std.proofs.Common.{◌≡◌, ℕ, List, [], ◌∷◌, ℤ, pos, length, Option, refl, sym, ap, ◌∙◌, subst, arith, lit<}
use Rattle.std.specs.Prelude.{IsSome}
use Rattle.std.proofs.lemmas.List.Elements.{Contains-get_or}
use Rattle.map_lists.specs.Lists.{Lists}
use Rattle.map_theory.specs.Maps.{Dart, HasDart}
use Rattle.half_edges.specs.Map.{IsLive}
use Rattle.pg_plane.specs.declared.grid_points.Point.{Point}
use Rattle.plane_drawings.specs.Drawing.{place}
use Rattle.draw_check.specs.declared.verdict.Verdict.TheVariants.{Yes}
use Rattle.pigale_c.specs.Counted.{IsCounted}
use Rattle.pigale_c.specs.Drawn.{IsSchnyderDrawn}
use Rattle.graphs.specs.Graphs.{EdgeGraph}
use Rattle.pigale_c.specs.EdgeDrawings.{IsJudgedEdges}
use Rattle.pigale_c.specs.EdgeFailures.{IsGraphOf}
use Rattle.pigale_c.specs.Judged.{IsJudged}
use Rattle.pigale_c.specs.Embedded.{IsEmbedded}
use Rattle.pigale_c.specs.Walked.{IsFaced}
use Rattle.refusals.specs.declared.conditions.Refusal.TheVariants.{Small}
use Rattle.pigale_c.specs.declared.counts.Counts.{Counts}
use Rattle.pigale_c.specs.declared.edges.EdgeEnds.{EdgeEnds}
use Rattle.pigale_c.specs.declared.outcome.Failure.TheVariants.{Refused}
use Rattle.pigale_c.specs.declared.outcome.Outcome.TheVariants.{Served, Failed, Drawing}

-- a check that answers yes without looking: two vertices of an edge stand at one point
check_says_yes : (width height : ℤ) → ¬ IsJudged (1 ∷ 2 ∷ []) (1 ∷ 0 ∷ []) (pos 0 ∷ pos 0 ∷ []) (pos 0 ∷ pos 0 ∷ []) width height (Drawing Yes)
check_says_yes width height judged = judged.2.1 0 1 (record { order = lit< tt; vertex = lit< tt; same = refl })

-- a drawing of a triangle that writes y for x: vertex 0 stands at (0, 1)
draws_y_for_x : (xs ys xs' ys' : List ℤ) (y : ℤ) → ¬ IsSchnyderDrawn (2 ∷ 4 ∷ 6 ∷ []) (1 ∷ 2 ∷ 2 ∷ 0 ∷ 0 ∷ 1 ∷ []) xs ys (pos 1 ∷ xs') (y ∷ ys') Served
draws_y_for_x xs ys xs' ys' y drawn =
    let first = ap (λ (ps : List Point). (place ps 0).x) drawn.4 in
    let corner = ap (λ (p : Point). p.x) drawn.3.placed.tail in
    let same : pos 1 ≡ pos 0 = first ∙ corner in
    cc

-- the count of another map: a triangle has three vertices
counts_another : (old new : Counts) → new.n ≡ 2 → ¬ IsCounted (2 ∷ 4 ∷ 6 ∷ []) (1 ∷ 2 ∷ 2 ∷ 0 ∷ 0 ∷ 1 ∷ []) old new Served
counts_another old new two counted = let n = ap (λ (c : Counts). c.n) counted.2 in omega (arith, two, n)

-- a drawing of a graph that writes y for x: vertex 0 of three stands at (0, 1)
embeds_y_for_x : (edges : List EdgeEnds) (ends neighbours ends' neighbours' : List ℕ) (xs ys xs' ys' : List ℤ) (y : ℤ) → ¬ IsEmbedded 3 edges ends neighbours xs ys ends' neighbours' (pos 1 ∷ xs') (y ∷ ys') Served
embeds_y_for_x edges ends neighbours ends' neighbours' xs ys xs' ys' y drawn =
    let first = ap (λ (ps : List Point). (place ps 0).x) drawn.2.2.points_are in
    let corner = ap (λ (p : Point). p.x) drawn.2.2.drawn.valid.placed.tail in
    let same : pos 1 ≡ pos 0 = first ∙ corner in
    cc

-- a graph of three vertices that is refused as small
refuses_three : (edges : List EdgeEnds) (ends neighbours ends' neighbours' : List ℕ) (xs ys xs' ys' : List ℤ) → ¬ IsEmbedded 3 edges ends neighbours xs ys ends' neighbours' xs' ys' (Failed (Refused (Small 3)))
refuses_three edges ends neighbours ends' neighbours' xs ys xs' ys' failed = let few = failed.0.1.0 in omega (arith, few)

-- a check of edges that answers yes without looking: two vertices without an edge stand at one point
check_of_edges_says_yes : ¬ IsJudgedEdges [] (pos 0 ∷ pos 0 ∷ []) (pos 0 ∷ pos 0 ∷ []) (Drawing Yes)
check_of_edges_says_yes judged =
    let vertices = judged.1.1.vertices in
    judged.1.2.1.0 0 1 (record { order = lit< tt; vertex = omega (arith, vertices); same = refl })

-- a map called planar that has two edges between the same vertices: the second is left out
edge_left_out : (graph : EdgeGraph) → length graph.edges ≡ 1 → ¬ IsGraphOf 3 (record { a = 0; b = 1 } ∷ record { a = 1; b = 0 } ∷ []) graph
edge_left_out graph one is = omega (arith, one, is.count)

-- faces of a map with an edge, none of which is written: each dart stands in a walk
faces_left_out : ¬ IsFaced ((1 ∷ []) ∷ (0 ∷ []) ∷ []) []
faces_left_out faced =
    let dart : HasDart faced.map.lists 0 1 = subst (λ (lists : Lists). HasDart lists 0 1) (sym faced.lists_are) (lit< tt, Contains-get_or (1 ∷ []) 0 0 (lit< tt)) in
    let id = faced.map.known.has_id 0 1 dart in
    let live : IsLive faced.map id.0 = subst (λ (o : Option Dart). IsSome o) (sym id.1) refl in
    let walk = faced.faces.all id.0 live in
    omega (arith, walk.1, faced.tails.count)
