-- What lines and graphs have to do with each other.
use Rattle.std.specs.Prelude.{ℕ, ◌≡◌, List, None}
use Rattle.graphs.specs.Graphs.{EdgeGraph, IsGraph}
use Rattle.graph6_text.specs.Lines.{IsLine}
use Rattle.graph6_text.specs.Faults.{line_fault}

-- A line is that of one graph.
abbrev pub OneGraph : Type 0
OneGraph = (bytes : List ℕ) (graph other : EdgeGraph) → IsLine bytes graph → IsLine bytes other → graph ≡ other

-- A graph has one line.
abbrev pub OneLine : Type 0
OneLine = (bytes others : List ℕ) (graph : EdgeGraph) → IsLine bytes graph → IsLine others graph → bytes ≡ others

-- The graph of a line is one, and the line has no fault.
abbrev pub LinesAreGraphs : Type 0
LinesAreGraphs = (bytes : List ℕ) (graph : EdgeGraph) → IsLine bytes graph → IsGraph graph × (line_fault bytes ≡ None)
