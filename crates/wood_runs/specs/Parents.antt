-- Schnyder's wood (1990) of a run: the three parents of a vertex.
use Rattle.std.specs.Prelude.{ℕ, ◌+◌, ◌<◌, ◌≡◌}
use Rattle.contour_runs.specs.Runs.{Step, stage_after, IsCovered}

-- the three colours, which are counted cyclically
pub data Colour : Type 0 where
  one : Colour
  two : Colour
  three : Colour

-- the colour after one, cyclically
abbrev pub next : Colour → Colour
next one = two
next two = three
next three = one

-- the colour before one, cyclically
abbrev pub previous : Colour → Colour
previous one = three
previous two = one
previous three = two

-- w is the parent of colour one of v: it stands at the first place of the step that puts v, which is one of the first n
pub record IsParentOne (steps : ℕ → Step) (n v w : ℕ) : Type 0 where
  pub step : ℕ
  pub earlier : step < n
  pub vertex : v ≡ step + 2
  pub parent : (stage_after steps step).vertex (steps step).first ≡ w

-- the parent of colour two stands at the last place
pub record IsParentTwo (steps : ℕ → Step) (n v w : ℕ) : Type 0 where
  pub step : ℕ
  pub earlier : step < n
  pub vertex : v ≡ step + 2
  pub parent : (stage_after steps step).vertex (steps step).last ≡ w

-- the parent of colour three is the vertex that covers v
pub record IsParentThree (steps : ℕ → Step) (n v w : ℕ) : Type 0 where
  pub step : ℕ
  pub earlier : step < n
  pub covered : IsCovered steps step v
  pub parent : w ≡ step + 2

-- w is the parent of v of a colour
abbrev pub IsParent : Colour → (ℕ → Step) → ℕ → ℕ → ℕ → Type 0
IsParent one = IsParentOne
IsParent two = IsParentTwo
IsParent three = IsParentThree

-- An edge at a vertex goes out to its parent of a colour, or comes in from a vertex of which it is the parent of a colour.
pub data End : Type 0 where
  out : Colour → End
  into : Colour → End

-- the edge from v to u stands so to v
abbrev pub IsEnd : End → (ℕ → Step) → ℕ → ℕ → ℕ → Type 0
IsEnd (out c) steps n v u = IsParent c steps n v u
IsEnd (into c) steps n v u = IsParent c steps n u v

-- What may follow what counterclockwise round a vertex: out one, in three, out two, in one, out three, in two, with any number of each that comes in.
abbrev pub MayFollow : End → End → Type 0
MayFollow (out c) (out d) = d ≡ next c
MayFollow (out c) (into d) = d ≡ previous c
MayFollow (into c) (out d) = d ≡ previous c
MayFollow (into c) (into d) = c ≡ d
