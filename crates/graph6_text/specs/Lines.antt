-- Graphs as lines of text: a form of the number of vertices, and then a bit for each pair of vertices, six bits a byte.
use Rattle.std.specs.Prelude.{ℕ, ◌+◌, ◌/◌, ◌%◌, ◌≤◌, ◌≡◌, nat_lt, if◌then◌else◌, List, [], ◌∷◌, ◌++◌}
use Rattle.graphs.specs.Graphs.{EdgeGraph}
use Rattle.graphs.specs.Bits.{IsBody, edges_of}

-- a number of vertices up to 255
abbrev pub count_form : ℕ → List ℕ
count_form n = if nat_lt n 63 then (n + 63) ∷ [] else 126 ∷ 63 ∷ (n / 64 + 63) ∷ (n % 64 + 63) ∷ []

-- The bytes are the line of a graph: its number of vertices, and its edges as bits.
pub record IsLine (bytes : List ℕ) (graph : EdgeGraph) : Type 0 where
  pub few : graph.n ≤ 255
  pub body : List ℕ
  pub front : bytes ≡ count_form graph.n ++ body
  pub is_body : IsBody graph.n body
  pub edges : graph.edges ≡ edges_of graph.n body
