-- The faces of a run, and which of three shades each has for a vertex.
use Rattle.std.specs.Prelude.{ℕ, zero, suc, ◌+◌, ◌*◌, ◌-◌, ◌<◌, ◌≤◌, ◌≡◌, ◌⊎◌, ◌==◌, nat_lt, if◌then◌else◌}
use Rattle.contour_runs.specs.Runs.{Step, Stage, stage_after}

-- Before each edge of the contour, from a place to the next, lies a face that a later step makes, or the outer one. They are numbered as they come: the base has 0, and a step has two new ones, before the edges from its first place to the new vertex and from there to its last place.
unfoldable pub front_after : Step → ℕ → (ℕ → ℕ) → ℕ → ℕ
front_after s new front i = if nat_lt i s.first then front i else if i == s.first then new else if i == suc s.first then suc new else front (i + s.last - (s.first + 2))

-- the face that lies before each edge of the contour, after the first k steps
abbrev pub fronts : (ℕ → Step) → ℕ → ℕ → ℕ
fronts steps zero = λ i. 0
fronts steps (suc k) = front_after (steps k) (2 * k + 1) (fronts steps k)

-- before a new edge lies what lay before the first edge under it, and before the other what lay before the last one
unfoldable pub old_front : Step → ℕ → (ℕ → ℕ) → ℕ → ℕ
old_front s new front f = if nat_lt f new then f else if f == new then front s.first else front (s.last - 1)

-- The shade of each face for each vertex, 1, 2 or 3, after a step. For an older vertex a new face has the shade of the one in its place. For the new vertex the older faces have shade 2 where they have it for the vertex at the first place, shade 1 where they have it for that at the last place, and 3 else; the new ones have shades 2 and 1.
unfoldable pub shade_after : Stage → Step → ℕ → (ℕ → ℕ) → (ℕ → ℕ → ℕ) → ℕ → ℕ → ℕ
shade_after g s new front shade v f =
    if nat_lt v g.count then shade v (old_front s new front f)
    else if nat_lt f new then if shade (g.vertex s.first) f == 2 then 2 else if shade (g.vertex s.last) f == 1 then 1 else 3
    else if f == new then 2 else 1

-- the shade of each face for each vertex, after the first k steps
abbrev pub shades : (ℕ → Step) → ℕ → ℕ → ℕ → ℕ
shades steps zero = λ v f. if v == 0 then 1 else 2
shades steps (suc k) = shade_after (stage_after steps k) (steps k) (2 * k + 1) (fronts steps k) (shades steps k)

-- What a step adds: the new vertex is on the faces that it makes and on both new ones; and these are on the vertices at the first place and at the last.
pub data IsNewOn (g : Stage) (s : Step) (new : ℕ) (front : ℕ → ℕ) (w f : ℕ) : Type 0 where
  at_first : w ≡ g.vertex s.first → f ≡ new → IsNewOn g s new front w f
  at_last : w ≡ g.vertex s.last → f ≡ suc new → IsNewOn g s new front w f
  under : w ≡ g.count → (j : ℕ) → s.first ≤ j → j < s.last → f ≡ front j → IsNewOn g s new front w f
  new_first : w ≡ g.count → f ≡ new → IsNewOn g s new front w f
  new_last : w ≡ g.count → f ≡ suc new → IsNewOn g s new front w f

-- the vertex w is on the face f
abbrev pub IsOn : (ℕ → Step) → ℕ → ℕ → ℕ → Type 0
IsOn steps zero w f = (w < 2) × (f ≡ 0)
IsOn steps (suc k) w f = IsOn steps k w f ⊎ IsNewOn (stage_after steps k) (steps k) (2 * k + 1) (fronts steps k) w f
