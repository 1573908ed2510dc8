use Rattle.std.proofs.Common.{◌+◌, sym, ◌∙◌, arith}
use Rattle.std.proofs.lemmas.Bool.{false≢true}
use Rattle.plane_laws.proofs.Triangles.{edge_bound_met}
use Rattle.augment_tri.proofs.EarCover.{filled_first, covered_first, filled_skip, filled_grown, filled_last}
use Rattle.augment_tri.proofs.Growth.{IsGrown-itself, IsGrown-chained}
use Rattle.augment_tri.proofs.NearEars.{live_dart}
use Rattle.augment_tri.proofs.face_filling.fill.Goals as goal
use Rattle.augment_tri.proofs.face_filling.fill.Goals.{then-is_live, else-is_live}

pub loop-d-init : goal.loop-d-init
loop-d-init c = record {
  fillable = c.requires;
  grown = IsGrown-itself c.args.map.now;
  filled = filled_first c.args.map.now c.requires.roomy.known;
}

pub loop-d-preserved : goal.loop-d-preserved
loop-d-preserved c =
    let h = c.loop-d.invariant in
    elim c.if-is_live.branch [
      | then-is_live w ↦
          let x = live_dart c.loop-d.map c.loop-d.d (c.is_live.ensures.0 w.if-is_live.true) in
          let covered = covered_first c.loop-d.map c.loop-d.d x.0 x.1 h.filled in
          rw w.map-is (record {
            fillable = w.fill_face.ensures.fillable;
            grown = IsGrown-chained _ _ _ h.grown w.fill_face.ensures.grown;
            filled = filled_grown c.loop-d.map w.fill_face.new.map (c.loop-d.d + 1) w.fill_face.new.map.lists w.fill_face.ensures.grown (w.fill_face.ensures.filled c.loop-d.map (c.loop-d.d + 1) x.0.0 x.0.1 x.1 covered);
          })
      | else-is_live w ↦
          rw w.map-is (record {
            fillable = h.fillable;
            grown = h.grown;
            filled = filled_skip c.loop-d.map c.loop-d.d c.loop-d.map.lists (λ live. false≢true (sym w.if-is_live.false ∙ c.is_live.ensures.1 live)) h.filled;
          })
    ]

pub returns-clause-edges : goal.returns-clause-edges
returns-clause-edges c =
    let h = c.loop-d.invariant in
    let total = h.grown.total in
    let last = c.loop-d-test.false in
    let triangles = filled_last c.loop-d.map c.loop-d.d h.fillable.roomy.known (omega (arith, c.m.ensures.count, c.spare.ensures)) h.filled in
    (edge_bound_met c.loop-d.map.lists h.fillable.roomy.known.simple h.fillable.roomy.plane h.fillable.roomy.some).1 (h.fillable.one, triangles)

pub returns-then-m-most-clause-edges : goal.returns-then-m-most-clause-edges
returns-then-m-most-clause-edges c =
    let h = c.loop-d.invariant in
    let some = c.requires.roomy.some in
    omega (arith, h.grown.extended.vertices, c.n.ensures.count, c.m-in-loop-d.ensures.count, c.if-m-most.true)
