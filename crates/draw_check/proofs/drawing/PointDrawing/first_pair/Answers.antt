use Rattle.std.proofs.Common.{◌≡◌, ℕ, List, [], take, true, false, refl, subst}
use Rattle.plane_drawings.specs.Drawing.{IsPlaneDrawing}
use Rattle.plane_drawings.specs.SweepCheckLines.{firm_lists}
use Rattle.draw_check.specs.declared.edge_meetings.Probe.{Probe}
use Rattle.draw_check.proofs.LooseLemmas.{IsClear, apart_but_loose, off_but_loose, uncrossed_but_loose}
use Rattle.draw_check.proofs.drawing.PointDrawing.first_pair.Goals as goal

pub first_meeting-requires-clause-apart : goal.first_meeting-requires-clause-apart
first_meeting-requires-clause-apart c = apart_but_loose c.args.self.now.map.now.lists c.args.self.now.points.now (take c.in-Some.count c.loose_vertices.new.loose) c.args.self.now.map.now.known.simple c.in-Some.ensures.plane

pub returns-in-Some-eq0-clause-verdict : goal.returns-in-Some-eq0-clause-verdict
returns-in-Some-eq0-clause-verdict c =
    let lists = c.args.self.now.map.now.lists in
    let points = c.args.self.now.points.now in
    let simple = c.args.self.now.map.now.known.simple in
    let none : List ℕ = [] in
    let plane = subst (λ (k : ℕ). IsPlaneDrawing (firm_lists (take k c.loose_vertices.new.loose) lists) points) c.in-Some-eq0.field-0-test c.in-Some-eq0.ensures.plane in
    let clear : (probe : Probe) → IsClear lists points none probe = λ probe v u among has touches. absurd (let no : false ≡ true = among in cc) in (
      apart_but_loose lists points none simple plane,
      (λ v a b. off_but_loose lists points none simple plane (record { 0 = v }) a b (clear _)),
      (λ a b s t. uncrossed_but_loose lists points none simple plane (record { 0 = a }) (record { 0 = b }) s t refl refl (clear _)),
    )
