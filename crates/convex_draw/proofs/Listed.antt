-- A listed run with its turns read off.
use Rattle.std.proofs.Common.{◌≡◌, ℕ, suc, ◌+◌, ◌-◌, ◌<◌, List, length, pos, subst, refl, sym, ap, ap₂, ◌∙◌, arith}
use Rattle.contour_runs.specs.FaceRuns.{Step}
use Rattle.convex_counts.specs.Counts.{face_counts}
use Rattle.convex_counts.specs.FacePointsLaws.{IsWholeRun}
use Rattle.convex_counts.specs.Turns.{well_turned, turn_from}
use Rattle.convex_counts.proofs.Turns.{stage_is, contours_as_before}
use Rattle.convex_laws.specs.declared.convex_rows.rows.ConvexRows.{ConvexRows}
use Rattle.convex_laws.proofs.ConvexWoodsTurned.{faces_made-well_turned}
use Rattle.convex_draw.specs.Runs.{IsCountRun}
use Rattle.pg_plane.specs.declared.grid_points.Point.{Point}
use Rattle.convex_counts.proofs.Steps.{IsFalling-run}
use Rattle.convex_draw.specs.declared.convex_points.spots.Spot.{Spot}
use Rattle.convex_draw.specs.Spots.{spot_of}
use Rattle.convex_draw.specs.Points.{IsListedRun, ArePlaced, ArePointsOf}
use Rattle.convex_draw.proofs.Onto.{onto}

pub IsCountRun-listed :
    (steps : ℕ → Step) (at : ℕ → ℕ) (rows : ConvexRows) (d s count faces : ℕ) → IsListedRun steps at rows d s count faces → IsWholeRun (well_turned steps) (length rows.rows) → faces < 1048576 → count < 65536 → IsCountRun (well_turned steps) at rows count
IsCountRun-listed steps at rows d s count faces h whole few small = record {
  run = whole.turned.run;
  turned = whole.turned.turned;
  turns = λ k i. let is = stage_is steps k in ap₂ (λ g c. turn_from g c ((steps k).cut i) ((steps k).cut (suc i) - (steps k).cut i - 1)) (sym is.0) (sym is.1);
  rows_are = record {
    rows_count = refl;
    cuts_count = h.rows_are.cuts_count;
    news_count = h.rows_are.news_count;
    row = λ k j e.
        let r = h.rows_are.row k j e in
        let is = contours_as_before steps k in
        record { long = r.long; each = λ i l. r.each i l ∙ ap (λ x. at (x ((steps k).first + i))) (sym is.2) };
    cuts = λ k j e. let r = h.rows_are.cuts k j e in record { long = r.long; each = r.each };
    news = λ k j e.
        let r = h.rows_are.news k j e in
        let is = contours_as_before steps k in
        record { long = r.long; each = λ i l. r.each i l ∙ ap (λ c. at (c + i)) (sym is.1) };
  };
  all = (contours_as_before steps (length rows.rows)).1 ∙ h.ranked.all;
  named = record { below = h.ranked.below; one = h.ranked.one };
  few = let e = faces_made-well_turned steps (length rows.rows) in let m = h.made in omega arith;
  small = small;
}

-- the counts of every vertex are small
pub small_counts :
    (steps : ℕ → Step) (name : ℕ → ℕ) (rows : ConvexRows) (count : ℕ) (spots : List Spot) → IsCountRun steps name rows count
    → ((r : ℕ) → r < count → ((spot_of spots (name r)).one ≡ (face_counts steps (length rows.rows)).one r) × ((spot_of spots (name r)).two ≡ (face_counts steps (length rows.rows)).two r))
    → (u : ℕ) → u < count → ((spot_of spots u).one < 1048576) × ((spot_of spots u).two < 1048576)
small_counts steps name rows count spots h are u l =
    let v = onto name count u h.named.below h.named.one l in
    let all = h.all in
    let at = v.within in
    let f = (IsFalling-run steps (length rows.rows) h.run).sums v.at (omega arith) in
    let few = h.few in
    let e = are v.at v.within in
    subst (λ u. ((spot_of spots u).one < 1048576) × ((spot_of spots u).two < 1048576)) v.is (omega (arith, e.0), omega (arith, e.1))

-- the points of the ranks
pub ArePointsOf-placed :
    (steps : ℕ → Step) (name : ℕ → ℕ) (rows : ConvexRows) (count m : ℕ) (spots : List Spot) (points : List Point) → IsCountRun steps name rows count → m ≡ count
    → ((r : ℕ) → r < count → ((spot_of spots (name r)).one ≡ (face_counts steps (length rows.rows)).one r) × ((spot_of spots (name r)).two ≡ (face_counts steps (length rows.rows)).two r))
    → ArePlaced spots m points → ArePointsOf (face_counts steps (length rows.rows)) name count points
ArePointsOf-placed steps name rows count m spots points h size are placed = record {
  count = placed.count ∙ size;
  placed = λ r l. let b = h.named.below r l in let e = are r l in placed.placed (name r) (omega arith) ∙ ap₂ (λ x y. record { x = pos x; y = pos y }) e.0 e.1;
}
