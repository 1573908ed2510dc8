use Rattle.std.proofs.Common.{◌+◌, ◌≤◌, length, get_or, slice_index, refl, sym, ap, subst, arith}
use Rattle.contour_runs.specs.Runs.{stage_after}
use Rattle.order_drawings.specs.Rows.{IsRow}
use Rattle.rect_dual.proofs.SideLemmas.{IsSideState-left, IsSideState-low}
use Rattle.rect_dual.proofs.side_lines.SideLines.put.Goals as goal

pub place_in-requires : goal.place_in-requires
place_in-requires c = omega (arith, c.args.turned.now.turns c.args.k c.requires.row, ap length c.list-row.ensures)

pub returns-in-Left-clause-state : goal.returns-in-Left-clause-state
returns-in-Left-clause-state c = λ steps rows turns labelled.
    let s = c.args.self.now in
    let t = c.args.turned.now in
    let u = c.put_over.new.self in
    let k = c.args.k in
    let row = c.list-row.result.now in
    let is_row : IsRow (stage_after steps k) (steps k) row = subst (IsRow (stage_after steps k) (steps k)) (sym c.list-row.ensures) (rows.row k c.requires.row) in
    let few : slice_index t.places.now k + 2 ≤ length row = omega (arith, t.turns k c.requires.row, ap length c.list-row.ensures) in
    IsSideState-left steps (length t.rows.now) k labelled c.requires.row row is_row (slice_index t.places.now k) few (turns.place k c.requires.row) _ (turns.run k c.requires.row) (k + 2) refl s.lines.items s.next.items s.links.items s.leads.items u.lines.items u.next.items u.links.items u.leads.items
    (omega (arith, c.requires.row, c.requires.size)) (omega arith) s.side c.in-Left.is _ (ap (λ i. get_or row i 0) c.place_in.ensures.place) _ c.gets_line-own.ensures c.put_over.ensures.over

pub returns-in-Low-clause-state : goal.returns-in-Low-clause-state
returns-in-Low-clause-state c = λ steps rows turns labelled.
    let s = c.args.self.now in
    let t = c.args.turned.now in
    let u = c.put_over-in-Low.new.self in
    let k = c.args.k in
    let row = c.list-row.result.now in
    let is_row : IsRow (stage_after steps k) (steps k) row = subst (IsRow (stage_after steps k) (steps k)) (sym c.list-row.ensures) (rows.row k c.requires.row) in
    let few : slice_index t.places.now k + 2 ≤ length row = omega (arith, t.turns k c.requires.row, ap length c.list-row.ensures) in
    IsSideState-low steps (length t.rows.now) k labelled c.requires.row row is_row (slice_index t.places.now k) few (turns.place k c.requires.row) _ (turns.run k c.requires.row) (k + 2) refl s.lines.items s.next.items s.links.items s.leads.items u.lines.items u.next.items u.links.items u.leads.items
    (omega (arith, c.requires.row, c.requires.size)) (omega arith) s.side c.in-Low.is _ (ap (λ i. get_or row i 0) c.place_in.ensures.place) _ c.gets_line-own.ensures c.put_over-in-Low.ensures.over
