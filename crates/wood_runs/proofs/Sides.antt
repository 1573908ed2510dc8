-- The paths of a run, and the sides of them on which vertices lie.
use Rattle.std.specs.Prelude.{ℕ, zero, suc, ◌==◌, Bool, true, false, nat_lt, nat_le, if◌then◌else◌}
use Rattle.contour_runs.specs.Runs.{Step, Stage, stage_after}
use Rattle.wood_runs.specs.Parents.{Colour, one, two, three}

-- w is on the path of a colour from v, after a step: the new vertex's paths of colours one and two go on as those of its parents; and it is on the path of colour three of what it covers.
unfoldable pub on_lower_after : Stage → ℕ → (ℕ → ℕ → Bool) → ℕ → ℕ → Bool
on_lower_after g parent on v w = if nat_lt w g.count then on (if nat_lt v g.count then v else parent) w else if nat_lt v g.count then false else true

unfoldable pub on_upper_after : Stage → Step → (ℕ → ℕ → Bool) → ℕ → ℕ → Bool
on_upper_after g s on v w =
    if nat_lt v g.count then if nat_lt w g.count then on v w else if nat_lt s.first (g.place v) then nat_lt (g.place v) s.last else false
    else if nat_lt w g.count then false else true

abbrev pub on_after : Colour → Stage → Step → (ℕ → ℕ → Bool) → ℕ → ℕ → Bool
on_after one g s = on_lower_after g (g.vertex s.first)
on_after two g s = on_lower_after g (g.vertex s.last)
on_after three g s = on_upper_after g s

-- Of the base alone each is on its own path; and vertex 0 is on that of colour one of vertex 1, over the outer edge.
abbrev pub on_base : Colour → ℕ → ℕ → Bool
on_base one v w = if w == 0 then true else v == w
on_base two v w = v == w
on_base three v w = v == w

abbrev pub paths : (ℕ → Step) → ℕ → Colour → ℕ → ℕ → Bool
paths steps zero c = on_base c
paths steps (suc k) c = on_after c (stage_after steps k) (steps k) (paths steps k c)

-- The side of v on which w lies after a step, 1, 2 or 3; 0 for v itself.
unfoldable pub side_after : Stage → Step → (ℕ → ℕ → ℕ) → ℕ → ℕ → ℕ
side_after g s side v w =
    if nat_lt v g.count then if nat_lt w g.count then side v w else if nat_le (g.place v) s.first then 1 else 2
    else if nat_lt w g.count then if side (g.vertex s.first) w == 2 then 2 else if w == g.vertex s.last then 1 else if side (g.vertex s.last) w == 1 then 1 else 3
    else 0

abbrev pub sides : (ℕ → Step) → ℕ → ℕ → ℕ → ℕ
sides steps zero = λ v w. if v == w then 0 else if v == 0 then 1 else 3
sides steps (suc k) = side_after (stage_after steps k) (steps k) (sides steps k)
