-- The definitions, run on worked cases. Each is a computation: the two sides come to the same value.
use Rattle.std.specs.Prelude.{ℕ, pos, ◌≡◌, List, [], ◌∷◌, ◌++◌, codes, refl, flat_map}
use Rattle.std.specs.Fmt.{digits}
use Rattle.map_lists.specs.Lists.{Lists}
use Rattle.pg_plane.specs.declared.grid_points.Point.{Point}
use Rattle.svg_out.specs.Edges.{later_neighbours, edges}
use Rattle.svg_out.specs.Svg.{attribute, ends, segment, front, opening, closing, thick, dot, grid_body, bar_marks, column_marks, bars_body, sides, unfilled, tile, tiles, grid_svg, bars_svg, rects_svg}

-- lines, each closed by byte 10
abbrev closed : List (List ℕ) → List ℕ
closed lines = flat_map (λ l. l ++ 10 ∷ []) lines

abbrev triangle : Lists
triangle = (1 ∷ 2 ∷ []) ∷ (2 ∷ 0 ∷ []) ∷ (0 ∷ 1 ∷ []) ∷ []

abbrev at : ℕ → ℕ → Point
at x y = record { x = pos x; y = pos y }

-- a four-cycle with a diagonal, whose lists are not in rising order
edges_of_four : edges ((1 ∷ 3 ∷ 2 ∷ []) ∷ (0 ∷ 2 ∷ []) ∷ (3 ∷ 1 ∷ 0 ∷ []) ∷ (0 ∷ 2 ∷ []) ∷ []) ≡ (0, 1) ∷ (0, 2) ∷ (0, 3) ∷ (1, 2) ∷ (2, 3) ∷ []
unfolding edges later_neighbours
edges_of_four = refl

triangle_drawn : grid_svg triangle (at 2 0 ∷ at 0 0 ∷ at 1 1 ∷ []) ≡ closed (
    codes "<svg xmlns=\"http://www.w3.org/2000/svg\" viewBox=\"-10 -10 40 30\">"
    ∷ codes "<line x1=\"20\" y1=\"10\" x2=\"0\" y2=\"10\" stroke=\"black\"/>"
    ∷ codes "<line x1=\"20\" y1=\"10\" x2=\"10\" y2=\"0\" stroke=\"black\"/>"
    ∷ codes "<line x1=\"0\" y1=\"10\" x2=\"10\" y2=\"0\" stroke=\"black\"/>"
    ∷ codes "<circle cx=\"20\" cy=\"10\" r=\"3\"/>"
    ∷ codes "<circle cx=\"0\" cy=\"10\" r=\"3\"/>"
    ∷ codes "<circle cx=\"10\" cy=\"0\" r=\"3\"/>"
    ∷ codes "</svg>" ∷ [])
unfolding edges later_neighbours attribute ends segment front opening closing dot grid_body digits
triangle_drawn = refl

triangle_of_bars : bars_svg triangle (record { y = pos 0 ∷ pos 2 ∷ pos 1 ∷ []; x1 = pos 0 ∷ pos 0 ∷ pos 1 ∷ []; x2 = pos 1 ∷ pos 1 ∷ pos 1 ∷ []; column = pos 0 ∷ pos 1 ∷ pos 1 ∷ [] }) ≡ closed (
    codes "<svg xmlns=\"http://www.w3.org/2000/svg\" viewBox=\"-10 -10 30 40\">"
    ∷ codes "<line x1=\"-3\" y1=\"20\" x2=\"13\" y2=\"20\" stroke=\"black\" stroke-width=\"3\"/>"
    ∷ codes "<line x1=\"-3\" y1=\"0\" x2=\"13\" y2=\"0\" stroke=\"black\" stroke-width=\"3\"/>"
    ∷ codes "<line x1=\"7\" y1=\"10\" x2=\"13\" y2=\"10\" stroke=\"black\" stroke-width=\"3\"/>"
    ∷ codes "<line x1=\"0\" y1=\"20\" x2=\"0\" y2=\"0\" stroke=\"black\"/>"
    ∷ codes "<line x1=\"10\" y1=\"20\" x2=\"10\" y2=\"10\" stroke=\"black\"/>"
    ∷ codes "<line x1=\"10\" y1=\"0\" x2=\"10\" y2=\"10\" stroke=\"black\"/>"
    ∷ codes "</svg>" ∷ [])
unfolding edges later_neighbours attribute ends segment front opening closing thick bar_marks column_marks bars_body digits
triangle_of_bars = refl

-- a wheel of four spokes: its hub has the middle of a grid of 3 by 3
wheel_of_rects : rects_svg ((1 ∷ 4 ∷ 3 ∷ []) ∷ (2 ∷ 4 ∷ 0 ∷ []) ∷ (3 ∷ 4 ∷ 1 ∷ []) ∷ (0 ∷ 4 ∷ 2 ∷ []) ∷ (0 ∷ 1 ∷ 2 ∷ 3 ∷ []) ∷ []) (record { x1 = pos 0 ∷ pos 0 ∷ pos 2 ∷ pos 0 ∷ pos 1 ∷ []; x2 = pos 1 ∷ pos 3 ∷ pos 3 ∷ pos 3 ∷ pos 2 ∷ []; y1 = pos 1 ∷ pos 2 ∷ pos 1 ∷ pos 0 ∷ pos 1 ∷ []; y2 = pos 2 ∷ pos 3 ∷ pos 2 ∷ pos 1 ∷ pos 2 ∷ [] }) ≡ closed (
    codes "<svg xmlns=\"http://www.w3.org/2000/svg\" viewBox=\"-10 -10 50 50\">"
    ∷ codes "<rect x=\"0\" y=\"10\" width=\"10\" height=\"10\" fill=\"none\" stroke=\"black\"/>"
    ∷ codes "<rect x=\"0\" y=\"0\" width=\"30\" height=\"10\" fill=\"none\" stroke=\"black\"/>"
    ∷ codes "<rect x=\"20\" y=\"10\" width=\"10\" height=\"10\" fill=\"none\" stroke=\"black\"/>"
    ∷ codes "<rect x=\"0\" y=\"20\" width=\"30\" height=\"10\" fill=\"none\" stroke=\"black\"/>"
    ∷ codes "<rect x=\"10\" y=\"10\" width=\"10\" height=\"10\" fill=\"none\" stroke=\"black\"/>"
    ∷ codes "</svg>" ∷ [])
unfolding attribute sides front opening closing unfilled tile tiles digits
wheel_of_rects = refl
