use Rattle.std.proofs.Common.{◌≡◌, ℕ, ℤ, ◌+◌, ◌<◌, ◌≤◌, List, get_or, Option, Some, option_map, sym, ap, subst, ◌∙◌, rules, arith, w32, FitsSigned}
use Rattle.std.proofs.lemmas.Bool.{false≢true}
use Rattle.std.proofs.lemmas.Int.{to_z-of_z}
use Rattle.map_lists.specs.declared.items.Ends.{Ends}
use Rattle.map_theory.specs.Maps.{Dart, HasDart, list_of, place_of}
use Rattle.half_edges.specs.Map.{Map, IsHalfMap, IsLive, dart_at}
use Rattle.pg_plane.specs.declared.figures.BarFigure.{BarFigure}
use Rattle.vertex_rounds.specs.Rounds.{dart_of}
use Rattle.vertex_rounds.specs.Least.{IsLeastPair}
use Rattle.vertex_rounds.proofs.DartIds.{head_is, has_dart}
use Rattle.drawings.specs.Bars.{number_at, column_of, IsColumn}
use Rattle.drawings.specs.NextEdges.{AreNext}
use Rattle.bar_check.specs.Tables.{IsMetBad, IsFirstMetBad, IsUpTo}
use Rattle.bar_check.proofs.TableLemmas.{column_next, edge_next, first-past, first-good, first-stays, first-new}
use Rattle.bar_check.proofs.drawing.GreaterEnd.with_next.Goals as goal
use Rattle.bar_check.proofs.drawing.GreaterEnd.with_next.Goals.{in_default-via-in-Some+else-e-a, in_default-via-in_default}

-- the column of a dart to a lesser vertex is good where that of the number that is read is
module _ (map : Map) (fig : BarFigure) (known : IsHalfMap map) (width : ℤ) (b d head : ℕ) (next : List ℕ) (x : ℤ) (live : IsLive map d) (tail : (dart_of map d).0 ≡ b) (head_at : option_map (λ (e : Dart). e.1) (dart_at map d) ≡ Some head) (numbers : AreNext map.lists b (place_of (dart_of map d).1 (list_of map.lists b)) next) (less : head < b) (read : x ≡ number_at fig.column (get_or next head 0)) where
  abbrev a : ℕ
  a = (dart_of map d).1

  same : a ≡ head
  same = head_is map d head live head_at

  has : HasDart map.lists b a
  has = subst (λ (z : ℕ). HasDart map.lists z a) tail (has_dart map known d live)

  column_read : x ≡ column_of map.lists fig a b
  column_read = read ∙ ap (λ (z : ℕ). number_at fig.column (get_or next z 0)) (sym same) ∙ column_next map fig known b a has next numbers (omega (arith, same, less))

  with-good : IsColumn fig width head b x → (found : Option Ends) → IsFirstMetBad map.lists fig width b (place_of a (list_of map.lists b)) found → IsFirstMetBad map.lists fig width b (place_of a (list_of map.lists b) + 1) found
  with-good good = first-good map fig known b a has width (subst (λ (z : ℤ). IsColumn fig width a b z) column_read (subst (λ (z : ℕ). IsColumn fig width z b x) (sym same) good))

  with-bad : (IsColumn fig width head b x → ⊥) → (found : Option Ends) → IsFirstMetBad map.lists fig width b (place_of a (list_of map.lists b)) found → ¬ IsUpTo found head → IsLeastPair (IsMetBad map.lists fig width b (place_of a (list_of map.lists b) + 1)) head b
  with-bad bad found first behind =
      subst (λ (z : ℕ). IsLeastPair (IsMetBad map.lists fig width b (place_of a (list_of map.lists b) + 1)) z b) same
      (first-new map fig known b a has width found first (λ up. behind (subst (IsUpTo found) same up)) (record {
        edge = edge_next map fig known b a has (omega (arith, same, less));
        bad = λ good. bad (subst (λ (z : ℕ). IsColumn fig width z b x) same (subst (λ (z : ℤ). IsColumn fig width a b z) (sym column_read) good));
      }))

pub returns-then-self-a : goal.returns-then-self-a
returns-then-self-a c =
    let bars = c.args.self.now.bars in
    let d = c.args.d.0 in
    let b = c.args.self.now.b.0 in
    let a = (dart_of bars.map.now d).1 in
    let same = head_is bars.map.now d c.head-a.result.0 c.requires.live c.head-a.ensures in
    let has = subst (λ (z : ℕ). HasDart bars.map.now.lists z a) c.requires.tail (has_dart bars.map.now c.args.self.now.bars.map.now.known d c.requires.live) in
    first-past bars.map.now bars.fig.now c.args.self.now.bars.map.now.known b a has bars.width (subst (λ (z : ℕ). b ≤ z) (sym same) c.if-self-a.true) c.args.found c.requires.found

pub returns-in-Some : goal.returns-in-Some
returns-in-Some c =
    let bars = c.args.self.now.bars in
    let d = c.args.d.0 in
    let b = c.args.self.now.b.0 in
    let a = (dart_of bars.map.now d).1 in
    let same = head_is bars.map.now d c.head-a.result.0 c.requires.live c.head-a.ensures in
    let has = subst (λ (z : ℕ). HasDart bars.map.now.lists z a) c.requires.tail (has_dart bars.map.now c.args.self.now.bars.map.now.known d c.requires.live) in
    let up : IsUpTo c.args.found a = rw c.in-Some.is (subst (λ (z : ℕ). c.in-Some.e.a.0 ≤ z) (sym same) c.if-e-a.true) in
    rw c.in-Some.is at (first-stays bars.map.now bars.fig.now c.args.self.now.bars.map.now.known b a has bars.width c.args.found up c.requires.found)

pub returns-then-is_column : goal.returns-then-is_column
returns-then-is_column c =
    let bars = c.args.self.now.bars in
    let x : ℤ = c.entry_or_zero-x.result in
    let fits : FitsSigned w32 x = search rules in
    let good : IsColumn bars.fig.now bars.width c.head-a.result.0 c.args.self.now.b.0 x = simp to_z-of_z at (c.is_column.ensures.0 c.if-is_column.true) in
    with-good bars.map.now bars.fig.now c.args.self.now.bars.map.now.known bars.width c.args.self.now.b.0 c.args.d.0 c.head-a.result.0 c.args.next.now x c.requires.live c.requires.tail c.head-a.ensures c.requires.numbers (omega (arith, c.if-self-a.false)) c.entry_or_zero-x.ensures good c.args.found c.requires.found

pub returns-in_default : goal.returns-in_default
returns-in_default c =
    let bars = c.args.self.now.bars in
    let x : ℤ = c.entry_or_zero-x.result in
    let fits : FitsSigned w32 x = search rules in
    let bad : IsColumn bars.fig.now bars.width c.head-a.result.0 c.args.self.now.b.0 x → ⊥ = λ p. false≢true (sym c.if-is_column.false ∙ (simp to_z-of_z at c.is_column.ensures).1 p) in
    with-bad bars.map.now bars.fig.now c.args.self.now.bars.map.now.known bars.width c.args.self.now.b.0 c.args.d.0 c.head-a.result.0 c.args.next.now x c.requires.live c.requires.tail c.head-a.ensures c.requires.numbers (omega (arith, c.if-self-a.false)) c.entry_or_zero-x.ensures bad c.args.found c.requires.found
    (λ up. elim c.in_default.branch [
      | in_default-via-in-Some+else-e-a w ↦ (let most = rw w.in-Some.is at up in omega (arith, most, w.if-e-a.false))
      | in_default-via-in_default w ↦ rw w.in_default.is at up
    ])
