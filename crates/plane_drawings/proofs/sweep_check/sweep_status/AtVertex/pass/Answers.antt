use Rattle.std.proofs.Common.{◌≡◌, ℕ, ◌+◌, ◌-◌, ◌≤◌, List, [], ◌++◌, length, take, drop, sym, subst, ap, ◌∙◌, arith}
use Rattle.std.proofs.lemmas.List.{take_rest, length-drop, drop-drop}
use Rattle.std.proofs.lemmas.List.Elements.{All-append, All-take, All-drop}
use Rattle.std.specs.List.{All}
use borrow.Rule.Slice.PartMut.{put_mid}
use Rattle.plane_drawings.specs.Drawing.{place}
use Rattle.plane_drawings.specs.declared.plane_sweep.line.Line.{Line}
use Rattle.plane_drawings.specs.PlaneSweepLines.{IsLine}
use Rattle.plane_drawings.proofs.ListLemmas.{filled_front, filled_back}
use Rattle.plane_drawings.proofs.Pairs.{All-append-left, All-append-right}
use Rattle.plane_drawings.proofs.StepLemmas.{passed_gap}
use Rattle.plane_drawings.proofs.sweep_check.sweep_status.AtVertex.pass.Goals as goal

rest : (status : List Line) (n r : ℕ) → drop r (drop n status) ≡ drop (n + r) status
rest status n r = drop-drop r n status ∙ ap (λ (m : ℕ). drop m status) (omega arith)

-- the lines below the gap with those that begin, and the lines behind those that end
module _ (n : ℕ) (status fresh : List Line) (begin end run : ℕ) (lines : All (IsLine n) (take begin status ++ drop end status)) where
  lower : begin ≤ length status → All (IsLine n) fresh → All (IsLine n) (take (begin + length fresh) (put_mid begin (begin + length fresh - begin) status fresh))
  lower within new = subst (All (IsLine n)) (sym (filled_front status fresh begin within)) (All-append (IsLine n) (take begin status) fresh (All-append-left (IsLine n) (take begin status) (drop end status) lines) new)

  upper : All (IsLine n) (drop (end + run) status)
  upper = subst (All (IsLine n)) (rest status end run) (All-drop (IsLine n) run (drop end status) (All-append-right (IsLine n) (take begin status) (drop end status) lines))

pub is_below-requires-clause-lines : goal.is_below-requires-clause-lines
is_below-requires-clause-lines c =
    let status = c.args.status.now in
    let end = c.args.gap.end + c.run_end.result in
    All-take (IsLine (length c.args.self.now.places.now)) (length status - end) (drop end status) (upper _ status [] c.args.gap.begin c.args.gap.end c.run_end.result c.requires.lines)

pub all_end_apart-requires : goal.all_end_apart-requires
all_end_apart-requires c = record { lines = rw (c.copy_from_slice.ensures.after) (lower _ c.args.status.now c.args.self.now.fresh.now c.args.gap.begin c.args.gap.end 0 c.requires.lines (omega (arith, c.requires.order, c.requires.within)) c.args.self.now.lines) }

pub is_seam_apart-requires-clause-lower : goal.is_seam_apart-requires-clause-lower
is_seam_apart-requires-clause-lower c = rw (c.copy_from_slice.ensures.after) (lower _ c.args.status.now c.args.self.now.fresh.now c.args.gap.begin c.args.gap.end 0 c.requires.lines (omega (arith, c.requires.order, c.requires.within)) c.args.self.now.lines)

pub is_seam_apart-requires-clause-upper : goal.is_seam_apart-requires-clause-upper
is_seam_apart-requires-clause-upper c =
    let status = c.args.status.now in
    let begin = c.args.gap.begin in
    let fresh = c.args.self.now.fresh.now in
    let end = c.args.gap.end + c.run_end.result in
    let P = IsLine (length c.args.self.now.places.now) in
    rw (c.copy_from_slice.ensures.after)
    (All-take P _ (drop end (put_mid begin (begin + length fresh - begin) status fresh)) (subst (All P) (sym (filled_back status fresh begin end (omega arith) (omega (arith, c.run_end.ensures.within, length-drop c.args.gap.end status, ap length (take_rest status c.args.gap.end))))) (upper _ status [] begin c.args.gap.end c.run_end.result c.requires.lines)))

pub returns-then-is_seam_apart-clause-passed : goal.returns-then-is_seam_apart-clause-passed
returns-then-is_seam_apart-clause-passed c =
    let status = c.args.status.now in
    let begin = c.args.gap.begin in
    let fresh = c.args.self.now.fresh.now in
    let end = c.args.gap.end + c.run_end.result in
    let written = c.copy_from_slice.ensures.after in
    let new = put_mid begin (begin + length fresh - begin) status c.copy_from_slice.new.self in
    let within : end ≤ length status = omega (arith, c.run_end.ensures.within, length-drop c.args.gap.end status, ap length (take_rest status c.args.gap.end)) in
    let front : take (begin + length fresh) new ≡ take begin status ++ fresh = ap (λ (us : List Line). take (begin + length fresh) (put_mid begin (begin + length fresh - begin) status us)) written ∙ filled_front status fresh begin (omega arith) in
    let back : drop end new ≡ drop end status = ap (λ (us : List Line). drop end (put_mid begin (begin + length fresh - begin) status us)) written ∙ filled_back status fresh begin end (omega arith) within in
    passed_gap (place c.args.self.now.places.now) c.args.self.now.v status new fresh _ _ _ begin c.args.gap.end c.run_end.result (omega arith) within front back
    (take_rest status c.args.gap.end) (take_rest status end) (take_rest new end ∙ back)
    c.run_end.ensures.run c.if-not-is_above.ensures c.if-not-is_below.ensures (λ k d first last. c.if-not-all_end_apart.ensures k d (omega arith)) c.if-is_seam_apart.ensures

pub is_above-requires-clause-lines : goal.is_above-requires-clause-lines
is_above-requires-clause-lines c = All-append-left (IsLine (length c.args.self.now.places.now)) (take c.args.gap.begin c.args.status.now) (drop c.args.gap.end c.args.status.now) c.requires.lines
