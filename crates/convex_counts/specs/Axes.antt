-- Axes, and how the edges at a vertex stand to one another.
use Rattle.std.specs.Prelude.{ℕ, ◌≡◌}
use Rattle.convex_counts.specs.declared.face_woods.axis.Axis.{Axis}
use Rattle.convex_counts.specs.declared.face_woods.axis.Axis.TheVariants.{One, Two, Three}

-- the axis after one, cyclically
abbrev pub next : Axis → Axis
next One = Two
next Two = Three
next Three = One

-- the axis before one, cyclically
abbrev pub previous : Axis → Axis
previous One = Three
previous Two = One
previous Three = Two

-- Between the edge that leads out along the axis after c, and counterclockwise on that along the axis before c, lies the sector of c: there stand the edges that lead in along c, and none that leads out. The entry u of v's list has such a sector ahead of it, counterclockwise, and one behind it: where it leads out along c, those of the axis before c and of the one after it; and where it only leads in, the sector of its axis on both sides.
pub data IsEntry (Leads : Axis → ℕ → ℕ → Type 0) (v u : ℕ) (ahead behind : Axis) : Type 0 where
  out : (c : Axis) → Leads c v u → ahead ≡ previous c → behind ≡ next c → IsEntry Leads v u ahead behind
  into : (c : Axis) → Leads c u v → ((c' : Axis) → ¬ Leads c' v u) → ahead ≡ c → behind ≡ c → IsEntry Leads v u ahead behind

-- what lies ahead of the entry u
abbrev pub IsAhead : (Axis → ℕ → ℕ → Type 0) → ℕ → ℕ → Axis → Type 0
IsAhead Leads v u ahead = (behind : Axis) × IsEntry Leads v u ahead behind

-- what lies behind the entry u
abbrev pub IsBehind : (Axis → ℕ → ℕ → Type 0) → ℕ → ℕ → Axis → Type 0
IsBehind Leads v u behind = (ahead : Axis) × IsEntry Leads v u ahead behind
