use Rattle.std.proofs.Common.{ℤ, subst, sym, rules, w32, FitsSigned}
use Rattle.std.proofs.lemmas.Int.{to_z-of_z}
use Rattle.vertex_rounds.specs.Rounds.{dart_of}
use Rattle.vertex_rounds.proofs.DartIds.{head_is}
use Rattle.drawings.specs.Bars.{column_between}
use Rattle.bar_check.specs.Tables.{IsSeen}
use Rattle.bar_check.proofs.ClearLemmas.{seen-clear, AreClear-more}
use Rattle.bar_check.proofs.drawing.Bar.mark_if_seen.Goals as goal

pub returns-then-is_seen : goal.returns-then-is_seen
returns-then-is_seen c =
    let map = c.args.self.now.drawing.map.now in
    let fig = c.args.self.now.drawing.fig.now in
    let d = c.args.d.0 in
    let x : ℤ = c.column_at.result in
    let f : FitsSigned w32 x = search rules in
    let seen : IsSeen fig c.args.self.now.h c.args.tops.now x c.head.result.0 = simp to_z-of_z at c.if-is_seen.ensures in
    let here : IsSeen fig c.args.self.now.h c.args.tops.now x (dart_of map d).1 = subst (IsSeen fig c.args.self.now.h c.args.tops.now x) (sym (head_is map d c.head.result.0 c.requires.live c.head.ensures)) seen in
    let column : IsSeen fig c.args.self.now.h c.args.tops.now (column_between map.lists fig (dart_of map d).0 (dart_of map d).1) (dart_of map d).1 = subst (λ (z : ℤ). IsSeen fig c.args.self.now.h c.args.tops.now z (dart_of map d).1) c.column_at.ensures here in
    AreClear-more map fig c.args.clear.now c.mark_dart.new.clear d c.requires.clear
    (seen-clear map.lists fig c.args.self.now.drawing.heights c.args.self.now.h c.args.tops.now (dart_of map d).0 (dart_of map d).1 (column_between map.lists fig (dart_of map d).0 (dart_of map d).1) c.requires.tops c.requires.height column) c.mark_dart.ensures
