use Rattle.std.proofs.Common.{ℕ, ℤ, ◌<◌, length, subst, rules, w32, FitsSigned}
use Rattle.std.proofs.lemmas.Int.{to_z-of_z}
use Rattle.vertex_rounds.specs.Rounds.{dart_of}
use Rattle.vertex_rounds.proofs.DartIds.{head_is, has_dart}
use Rattle.drawings.specs.Bars.{number_at}
use Rattle.bar_check.proofs.TableLemmas.{column-at}
use Rattle.bar_check.proofs.drawing.BarDrawing.column_at.Goals as goal

pub column_between-requires-clause-v : goal.column_between-requires-clause-v
column_between-requires-clause-v c =
    let map = c.args.self.now.map.now in
    let d = c.args.d.0 in
    subst (λ (x : ℕ). x < length map.lists) (head_is map d c.head.result.0 c.requires.live c.head.ensures) (c.args.self.now.map.now.known.simple.in_range (dart_of map d).0 (dart_of map d).1 (has_dart map c.args.self.now.map.now.known d c.requires.live))

pub returns-then-d-self : goal.returns-then-d-self
returns-then-d-self c =
    let x : ℤ = number_at c.args.self.now.columns.now c.args.d.0 in
    let f : FitsSigned w32 x = search rules in
    rw (to_z-of_z w32 x f) (column-at c.args.self.now.map.now c.args.self.now.fig.now c.args.self.now.map.now.known c.args.self.now.columns.now c.args.self.now.table c.args.d.0 c.requires.live c.if-d-self.true)
