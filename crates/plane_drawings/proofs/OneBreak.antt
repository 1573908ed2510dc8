-- What is known of breaks by darts, said of lists.
use Rattle.std.proofs.Common.{◌≡◌, ℕ, ◌<◌, List, sym, ap, subst, ◌∙◌}
use Rattle.map_lists.specs.Lists.{Lists}
use Rattle.map_theory.specs.Maps.{Dart, HasDart, IsSimpleMap, dart_number, dart_count}
use Rattle.map_theory.proofs.DartLemmas.{dart_number-lt, get_or-dart_number}
use Rattle.map_theory.proofs.DartPermutations.{dart_of, tail_of, rotation, IsPermuting-rotation, tail_of-rotation}
use Rattle.pg_plane.specs.declared.grid_points.Point.{Point}
use Rattle.plane_drawings.specs.Drawing.{IsBreak}

-- the dart is a break
abbrev pub IsBreakOf : Lists → List Point → ℕ → Type 0
IsBreakOf lists points i = IsBreak lists points (dart_of lists i).0 (dart_of lists i).1

-- a vertex has one break, where what follows two of them is one
pub one_of_lists :
    (lists : Lists) (simple : IsSimpleMap lists) (points : List Point)
    → ((i j : ℕ) → i < dart_count lists → j < dart_count lists → tail_of lists (rotation lists i) ≡ tail_of lists (rotation lists j) → IsBreakOf lists points i → IsBreakOf lists points j → rotation lists i ≡ rotation lists j)
    → (v u w : ℕ) → HasDart lists v u → HasDart lists v w → IsBreak lists points v u → IsBreak lists points v w → u ≡ w
one_of_lists lists simple points one v u w has has' bu bw =
    let i : ℕ = dart_number lists (v, u) in
    let j : ℕ = dart_number lists (v, w) in
    let li = dart_number-lt lists v u has in
    let lj = dart_number-lt lists v w has' in
    let di = get_or-dart_number lists v u (0, 0) has in
    let dj = get_or-dart_number lists v w (0, 0) has' in
    let tails = tail_of-rotation lists simple i li ∙ ap (λ (d : Dart). d.0) di in
    let tails' = tail_of-rotation lists simple j lj ∙ ap (λ (d : Dart). d.0) dj in
    let same = one i j li lj (tails ∙ sym tails') (subst (λ (d : Dart). IsBreak lists points d.0 d.1) (sym di) bu) (subst (λ (d : Dart). IsBreak lists points d.0 d.1) (sym dj) bw) in
    ap (λ (d : Dart). d.1) (sym di ∙ ap (dart_of lists) ((IsPermuting-rotation lists simple).apart i j li lj same) ∙ dj)
