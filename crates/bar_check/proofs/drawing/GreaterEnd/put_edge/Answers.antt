use Rattle.std.proofs.Common.{◌≡◌, ℕ, ℤ, ◌+◌, ◌<◌, ◌≤◌, get_or, set, Some, sym, ap, ◌∙◌, subst, arith, rules, w32, FitsSigned}
use Rattle.std.specs.Option.{option_map}
use Rattle.std.proofs.lemmas.Int.{to_z-of_z}
use Rattle.map_theory.specs.Maps.{HasDart, twin_dart}
use Rattle.half_edges.specs.Map.{dart_at}
use Rattle.vertex_rounds.specs.Rounds.{dart_of}
use Rattle.vertex_rounds.proofs.DartIds.{dart_of-live, head_is, has_dart}
use Rattle.drawings.specs.Bars.{number_at}
use Rattle.bar_check.specs.Tables.{IsWritten}
use Rattle.bar_check.proofs.TableLemmas.{number_few, IsWritten-both, AreFilled-put, AreFilled-past}
use Rattle.bar_check.proofs.drawing.GreaterEnd.put_edge.Goals as goal

pub overflow_add-next : goal.overflow_add-next
overflow_add-next c =
    let bars = c.args.self.now.bars in
    let map = bars.map.now in
    let d = c.args.d.0 in
    let b = c.args.self.now.b.0 in
    let a = (dart_of map d).1 in
    let same = head_is map d c.head-a.result.0 c.requires.live c.head-a.ensures in
    let has = subst (λ (z : ℕ). HasDart map.lists z a) c.requires.tail (has_dart map c.args.self.now.bars.map.now.known d c.requires.live) in
    let few = subst (λ (z : ℕ). get_or c.args.next.now z 0 < 4294967295) same (number_few map bars.fig.now c.args.self.now.bars.map.now.known b a has c.args.next.now c.args.columns.now c.requires.filled (subst (λ (z : ℕ). z < b) (sym same) c.if-a-self.true)) in
    omega (arith, few)

pub returns-then-a-self : goal.returns-then-a-self
returns-then-a-self c =
    let bars = c.args.self.now.bars in
    let map = bars.map.now in
    let d = c.args.d.0 in
    let b = c.args.self.now.b.0 in
    let a = (dart_of map d).1 in
    let next = c.args.next.now in
    let same = sym (head_is map d c.head-a.result.0 c.requires.live c.head-a.ensures) in
    let has = subst (λ (z : ℕ). HasDart map.lists z a) c.requires.tail (has_dart map c.args.self.now.bars.map.now.known d c.requires.live) in
    let at : dart_at map d ≡ Some (b, a) = dart_of-live map d c.requires.live ∙ ap (λ (z : ℕ). Some (z, a)) c.requires.tail in
    let at_twin : dart_at map c.twin.result.0 ≡ Some (a, b) = c.twin.ensures ∙ ap (option_map twin_dart) at in
    let x : ℤ = c.entry_or_zero-x.result in
    let fits : FitsSigned w32 x = search rules in
    let written : IsWritten d c.twin.result.0 x c.args.columns.now c.put_column-then-a-self.new.columns = IsWritten-both d c.twin.result.0 x c.args.columns.now c.put_column.new.columns c.put_column-then-a-self.new.columns c.put_column.ensures.size (simp to_z-of_z at c.put_column.ensures.here) c.put_column.ensures.elsewhere c.put_column-then-a-self.ensures.size (simp to_z-of_z at c.put_column-then-a-self.ensures.here) c.put_column-then-a-self.ensures.elsewhere in
    AreFilled-put map bars.fig.now c.args.self.now.bars.map.now.known b a has next c.args.columns.now c.requires.filled _ c.put_column-then-a-self.new.columns (subst (λ (z : ℕ). z < b) same c.if-a-self.true) d c.twin.result.0 at at_twin
    (ap (λ (z : ℕ). set next z (get_or next z 0 + 1)) same)
    (subst (λ (z : ℕ). IsWritten d c.twin.result.0 (number_at bars.fig.now.column (get_or next z 0)) c.args.columns.now c.put_column-then-a-self.new.columns) same (subst (λ (z : ℤ). IsWritten d c.twin.result.0 z c.args.columns.now c.put_column-then-a-self.new.columns) c.entry_or_zero-x.ensures written))

pub returns-else-a-self : goal.returns-else-a-self
returns-else-a-self c =
    let bars = c.args.self.now.bars in
    let map = bars.map.now in
    let d = c.args.d.0 in
    let b = c.args.self.now.b.0 in
    let a = (dart_of map d).1 in
    let same = sym (head_is map d c.head-a.result.0 c.requires.live c.head-a.ensures) in
    let has = subst (λ (z : ℕ). HasDart map.lists z a) c.requires.tail (has_dart map c.args.self.now.bars.map.now.known d c.requires.live) in
    AreFilled-past map bars.fig.now c.args.self.now.bars.map.now.known b a has c.args.next.now c.args.columns.now c.requires.filled c.args.next.now c.args.columns.now (subst (λ (z : ℕ). b ≤ z) same c.if-a-self.false)
