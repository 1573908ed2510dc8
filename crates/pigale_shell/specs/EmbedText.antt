-- The job `embed`: what it writes for a graph, and at the end.
use Rattle.std.specs.Prelude.{ℕ, ◌<◌, ◌≤◌, ◌≡◌, ◌⊎◌, ◌↔◌, IsTrue, List, codes}
use Rattle.record_runs.specs.Texts.{Answers}
use Rattle.map_lists.specs.Lists.{Lists}
use Rattle.pg_plane.specs.declared.figures.GridFigure.{GridFigure}
use Rattle.graphs.specs.Graphs.{EdgeGraph}
use Rattle.graph6_text.specs.Lines.{IsLine as IsGraphLine}
use Rattle.kuratowski.specs.Witnesses.{IsWitness}
use Rattle.kuratowski.specs.declared.witness.Witness.{Witness}
use Rattle.line_inputs.specs.declared.graph_lines.ending.Ending.{Ending}
use Rattle.line_inputs.specs.declared.graph_lines.ending.Ending.TheVariants.{Well, BadLine, Limit, TooLong}
use Rattle.figure_text.specs.Text.{witness_text}
use Rattle.figure_text.specs.declared.figure.GridJob.TheVariants.{Schnyder}
use Rattle.svg_out.specs.Svg.{IsWitnessSvg}
use Rattle.refusals.specs.declared.conditions.Refusal.{Refusal}
use Rattle.refusals.specs.declared.conditions.Refusal.TheVariants.{Small}
use Rattle.embed_graph.specs.Figures.{IsDrawnMap}
use Rattle.pigale_shell.specs.Text.{word_and_number, line, end_line}
use Rattle.pigale_shell.specs.Blocks.{IsJobBlock}
use Rattle.pigale_shell.specs.Forms.{line_in, grid_in}
use Rattle.pigale_words.specs.declared.output_form.Form.{Form}
use Rattle.pigale_words.specs.declared.output_form.Form.TheVariants.{Text, Svg}

-- figure k, a witness: its text with the line of the graph, which is a comment where pictures are drawn
abbrev pub WritesWitness : Form → ℕ → EdgeGraph → Witness → List ℕ → Type 0
WritesWitness Text k graph witness text = (line : List ℕ) × IsGraphLine line graph × (text ≡ witness_text k line witness)
WritesWitness Svg k graph witness text = IsWitnessSvg k graph witness text

-- the graph has a map of genus zero, and the text is such a map as it is drawn
pub record IsDrawnText (form : Form) (k : ℕ) (graph : EdgeGraph) (text : List ℕ) : Type 0 where
  pub lists : Lists
  pub figure : GridFigure
  pub valid : IsDrawnMap graph lists figure
  pub text_is : text ≡ grid_in form k Schnyder lists figure.points

-- the graph has a witness, and the text is one
pub record IsRefutedText (form : Form) (k : ℕ) (graph : EdgeGraph) (text : List ℕ) : Type 0 where
  pub witness : Witness
  pub valid : IsWitness graph witness.kind witness.branch witness.paths
  pub text_is : WritesWitness form k graph witness text

-- the text is a figure of the graph
abbrev pub IsGraphText : Form → ℕ → EdgeGraph → List ℕ → Type 0
IsGraphText form k graph text = IsDrawnText form k graph text ⊎ IsRefutedText form k graph text

-- the graph has fewer than three vertices, and the condition says how many
abbrev pub IsTooSmall : EdgeGraph → Refusal → Type 0
IsTooSmall graph refusal = (refusal ≡ Small graph.n) × (graph.n < 3)

-- the text is the answer of `embed` to graph k, which is refused where it has fewer than three vertices
abbrev pub IsEmbedBlock : Form → ℕ → EdgeGraph → List ℕ → Type 0
IsEmbedBlock form k graph text = IsJobBlock (3 ≤ graph.n) (IsGraphText form k graph) (IsTooSmall graph) form k text

-- the last line, by the ending of the input
unfoldable pub embed_last_line : ℕ → ℕ → Ending → List ℕ
embed_last_line records refused Well = end_line records refused
embed_last_line records refused (BadLine k) = line (word_and_number (codes "stop BadLine") k)
embed_last_line records refused (Limit k) = line (word_and_number (codes "stop Limit") k)
embed_last_line records refused TooLong = line (codes "stop TooLong")

-- a graph is served exactly where it has three vertices or more
abbrev pub embed_answers : Form → Answers EdgeGraph Ending
embed_answers form = record {
  IsBlock = IsEmbedBlock form;
  Serves = λ graph served. IsTrue served ↔ (3 ≤ graph.n);
  last_line = λ records refused ending. line_in form (embed_last_line records refused ending);
}
