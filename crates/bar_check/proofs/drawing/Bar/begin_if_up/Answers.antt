use Rattle.std.proofs.Common.{◌≡◌, ℕ, ℤ, pos, ◌+◌, ◌/◌, ◌<ℤ◌, sym, ap, subst, ◌∙◌, arith, rules, w32, FitsSigned}
use Rattle.std.proofs.lemmas.Bool.{false≢true, OnTrue_at, OnTrue_from}
use Rattle.std.proofs.lemmas.Int.{ints, to_z-of_z}
use Rattle.map_theory.specs.Maps.{HasDart, list_of, place_of}
use Rattle.vertex_rounds.specs.Rounds.{dart_of}
use Rattle.vertex_rounds.proofs.DartIds.{head_is, has_dart}
use Rattle.drawings.specs.Bars.{number_at, column_between}
use Rattle.bar_check.specs.Reach.{IsRaised, IsBegun, HasReach}
use Rattle.bar_check.proofs.ReachLemmas.{HasReach-past, HasReach-more}
use Rattle.bar_check.proofs.drawing.Bar.begin_if_up.Goals as goal
use Rattle.bar_check.proofs.drawing.Bar.begin_if_up.Goals.{then-raise, else-raise}

pub returns-then-y-from : goal.returns-then-y-from
returns-then-y-from c =
    let map = c.args.self.now.drawing.map.now in
    let fig = c.args.self.now.drawing.fig.now in
    let d = c.args.d.0 in
    let v = c.args.self.now.v.0 in
    let u = (dart_of map d).1 in
    let same = head_is map d c.head.result.0 c.requires.live c.head.ensures in
    let dart = subst (λ (z : ℕ). HasDart map.lists z u) c.requires.tail (has_dart map c.args.self.now.drawing.map.now.known d c.requires.live) in
    let less = c.if-y-from.true in
    let is = c.entry_or_zero-y.ensures in
    let from = c.from.ensures in
    let below : number_at fig.y c.head.result.0 <ℤ pos c.args.self.now.h = omega (arith, ints, less, is, from) in
    HasReach-past map.lists fig c.args.self.now.h v u c.args.peaks.now c.args.blocks.now c.args.superblocks.now dart (subst (λ (z : ℕ). number_at fig.y z <ℤ pos c.args.self.now.h) (sym same) below) c.requires.reach

pub returns-then-raise-2 : goal.returns-then-raise-2
returns-then-raise-2 c =
    let map = c.args.self.now.drawing.map.now in
    let fig = c.args.self.now.drawing.fig.now in
    let h = c.args.self.now.h in
    let d = c.args.d.0 in
    let v = c.args.self.now.v.0 in
    let u = (dart_of map d).1 in
    let same = head_is map d c.head.result.0 c.requires.live c.head.ensures in
    let dart = subst (λ (z : ℕ). HasDart map.lists z u) c.requires.tail (has_dart map c.args.self.now.drawing.map.now.known d c.requires.live) in
    let x : ℤ = c.column_at-x.result in
    let y : ℤ = c.entry_or_zero-y.result in
    let k : ℕ = c.natural-k.result in
    let fx : FitsSigned w32 x = search rules in
    let fy : FitsSigned w32 y = search rules in
    let high : y ≡ number_at fig.y u = c.entry_or_zero-y.ensures ∙ ap (number_at fig.y) (sym same) in
    let value : pos k ≡ x = simp to_z-of_z at c.natural-k.ensures.value in
    let is : pos k ≡ column_between map.lists fig v u = value ∙ (c.column_at-x.ensures ∙ ap (λ (z : ℕ). column_between map.lists fig z u) c.requires.tail) in
    let peaks = c.args.peaks.now in
    let blocks = c.args.blocks.now in
    let superblocks = c.args.superblocks.now in
    let raised : IsRaised k y peaks c.raise.new.table × IsRaised (k / 16) y blocks c.if-raise.blocks = elim c.if-raise.branch [
      | then-raise w ↦
          (OnTrue_at w.if-raise.true (simp to_z-of_z at c.raise.ensures), rw w.blocks-is (OnTrue_at (sym w.value-is ∙ c.if-raise-2.true) (simp to_z-of_z at w.raise-then-raise.ensures)))
      | else-raise w ↦ absurd (false≢true (sym w.if-raise.false ∙ (sym w.value-is ∙ c.if-raise-2.true)))
    ] in
    OnTrue_from c.raise-then-raise-2.result (HasReach map.lists fig (IsBegun map.lists fig h v (place_of u (list_of map.lists v) + 1)) c.raise.new.table c.if-raise.blocks c.raise-then-raise-2.new.table)
    (λ t. HasReach-more map.lists fig h v u k peaks c.raise.new.table blocks c.if-raise.blocks superblocks c.raise-then-raise-2.new.table dart is
    (subst (λ (z : ℤ). IsRaised k z peaks c.raise.new.table) high raised.0) (subst (λ (z : ℤ). IsRaised (k / 16) z blocks c.if-raise.blocks) high raised.1)
    (subst (λ (z : ℤ). IsRaised (k / 256) z superblocks c.raise-then-raise-2.new.table) high (OnTrue_at t (simp to_z-of_z at c.raise-then-raise-2.ensures))) c.requires.reach)
