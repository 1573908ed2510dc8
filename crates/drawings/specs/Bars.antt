-- Visibility drawings: each vertex a level bar, and each edge a column between two bars. When one is valid.
use Rattle.std.specs.Prelude.{ℕ, zero, suc, ◌+◌, ◌<◌, ◌≤◌, ◌≡◌, ◌≢◌, ◌⊎◌, ◌&&◌, nat_lt, if◌then◌else◌, List, length, count_by, slice_index_or, ℤ, pos, ◌≤ℤ◌, ◌<ℤ◌}
use Rattle.map_lists.specs.Lists.{Lists}
use Rattle.map_theory.specs.Maps.{HasDart, list_of, follows, edge_count}
use Rattle.pg_plane.specs.declared.figures.BarFigure.{BarFigure}
use Rattle.vertex_rounds.specs.Rounds.{HasEdge, ComesBefore}

-- number i of a list, or 0 behind its end
abbrev pub number_at : List ℤ → ℕ → ℤ
number_at xs i = slice_index_or xs i (pos 0)

-- how many edges lead from v to vertices above v and below end
unfoldable pub edges_until : Lists → ℕ → ℕ → ℕ
edges_until lists v end = count_by (λ u. nat_lt v u && nat_lt u end) (list_of lists v)

-- how many edges have their lesser end below k
unfoldable pub edges_before : Lists → ℕ → ℕ
edges_before lists zero = 0
edges_before lists (suc k) = edges_before lists k + edges_until lists k (length lists)

-- the number of the edge from a to b: how many come before it, by the lesser end and then by the greater
abbrev pub edge_number : Lists → ℕ → ℕ → ℕ
edge_number lists a b = edges_before lists a + edges_until lists a b

-- the column of the edge from a to b, a being the lesser end
abbrev pub column_of : Lists → BarFigure → ℕ → ℕ → ℤ
column_of lists fig a b = number_at fig.column (edge_number lists a b)

-- the column of the edge between u and v, in either order
abbrev pub column_between : Lists → BarFigure → ℕ → ℕ → ℤ
column_between lists fig u v = if nat_lt u v then column_of lists fig u v else column_of lists fig v u

-- there is a bar for each vertex
pub record HasBars (lists : Lists) (fig : BarFigure) : Type 0 where
  pub y : length fig.y ≡ length lists
  pub x1 : length fig.x1 ≡ length lists
  pub x2 : length fig.x2 ≡ length lists

-- the height of v is from 0 to n - 1, and no lesser vertex has it
pub record IsNewHeight (lists : Lists) (fig : BarFigure) (v : ℕ) : Type 0 where
  pub low : pos 0 ≤ℤ number_at fig.y v
  pub high : number_at fig.y v <ℤ pos (length lists)
  pub new : (u : ℕ) → u < v → number_at fig.y u ≢ number_at fig.y v

-- the bar of v goes from left to right, within the width
pub record IsBar (fig : BarFigure) (width : ℤ) (v : ℕ) : Type 0 where
  pub left : pos 0 ≤ℤ number_at fig.x1 v
  pub order : number_at fig.x1 v ≤ℤ number_at fig.x2 v
  pub right : number_at fig.x2 v ≤ℤ width

-- the bar of v holds column x
pub record Holds (fig : BarFigure) (v : ℕ) (x : ℤ) : Type 0 where
  pub from : number_at fig.x1 v ≤ℤ x
  pub to : x ≤ℤ number_at fig.x2 v

-- x is within the width and within the bars of a and b
pub record IsColumn (fig : BarFigure) (width : ℤ) (a b : ℕ) (x : ℤ) : Type 0 where
  pub left : pos 0 ≤ℤ x
  pub right : x ≤ℤ width
  pub lesser : Holds fig a x
  pub greater : Holds fig b x

-- z lies strictly between p and q
abbrev pub IsBetween : ℤ → ℤ → ℤ → Type 0
IsBetween p q z = ((p <ℤ z) × (z <ℤ q)) ⊎ ((q <ℤ z) × (z <ℤ p))

-- the bar of v stands strictly between the heights of a and b, and holds column x
pub record IsStruck (fig : BarFigure) (a b : ℕ) (x : ℤ) (v : ℕ) : Type 0 where
  pub between : IsBetween (number_at fig.y a) (number_at fig.y b) (number_at fig.y v)
  pub holds : Holds fig v x

-- p and q lie both at or below r and s
pub record LieBelow (p q r s : ℤ) : Type 0 where
  pub pr : p ≤ℤ r
  pub ps : p ≤ℤ s
  pub qr : q ≤ℤ r
  pub qs : q ≤ℤ s

-- some height lies strictly between p and q and strictly between r and s, where p is not q and r is not s: neither pair lies below the other
pub record MeetInside (p q r s : ℤ) : Type 0 where
  pub not_below : ¬ LieBelow p q r s
  pub not_above : ¬ LieBelow r s p q

-- u stands higher than v
abbrev pub IsAbove : BarFigure → ℕ → ℕ → Type 0
IsAbove fig v u = number_at fig.y v <ℤ number_at fig.y u

-- Among the edges of v the upward ones come by rising column, and then the downward ones by falling column: that to u comes before that to w.
abbrev pub IsEarlier : Lists → BarFigure → ℕ → ℕ → ℕ → Type 0
IsEarlier lists fig v u w =
    (IsAbove fig v u × ¬ IsAbove fig v w) ⊎ ((IsAbove fig v u × IsAbove fig v w × (column_between lists fig v u <ℤ column_between lists fig v w)) ⊎ ((¬ IsAbove fig v u) × (¬ IsAbove fig v w) × (column_between lists fig v w <ℤ column_between lists fig v u)))

-- the edge to the entry after u in v's list does not come after that to u
abbrev pub IsBreak : Lists → BarFigure → ℕ → ℕ → Type 0
IsBreak lists fig v u = ¬ IsEarlier lists fig v u (follows lists v u)

-- v's list, taken cyclically, has just one such break: it is the edges of v in this order
pub record GoesOnceRound (lists : Lists) (fig : BarFigure) (v : ℕ) : Type 0 where
  pub some : (u : ℕ) × HasDart lists v u × IsBreak lists fig v u
  pub one : (u w : ℕ) → HasDart lists v u → HasDart lists v w → IsBreak lists fig v u → IsBreak lists fig v w → u ≡ w

-- Valid bars of this width.
pub record IsValidBars (lists : Lists) (fig : BarFigure) (width : ℤ) : Type 0 where
  -- there is a column for each edge
  pub columns : length fig.column ≡ edge_count lists
  -- the heights are distinct numbers from 0 to n - 1
  pub heights : (v : ℕ) → v < length lists → IsNewHeight lists fig v
  -- each bar lies within the width
  pub bars : (v : ℕ) → v < length lists → IsBar fig width v
  -- each column lies within the width and within the bars of both ends
  pub ends : (a b : ℕ) → HasEdge lists a b → IsColumn fig width a b (column_of lists fig a b)
  -- no bar between the ends of an edge holds its column
  pub clear : (a b v : ℕ) → HasEdge lists a b → v < length lists → ¬ IsStruck fig a b (column_of lists fig a b) v
  -- no two edges of one column have a height strictly inside both
  pub apart : (a b c d : ℕ) → HasEdge lists a b → HasEdge lists c d → ComesBefore a b c d → column_of lists fig a b ≡ column_of lists fig c d → ¬ MeetInside (number_at fig.y a) (number_at fig.y b) (number_at fig.y c) (number_at fig.y d)
  -- each list with at least two entries is the upward edges by rising column and then the downward ones by falling column
  pub turns : (v : ℕ) → v < length lists → 2 ≤ length (list_of lists v) → GoesOnceRound lists fig v
