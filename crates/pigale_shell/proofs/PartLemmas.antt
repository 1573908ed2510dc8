-- Endings of parts, and the texts of parts.
use Rattle.std.proofs.Common.{◌≡◌, ℕ, ◌+◌, refl, ap, arith}
use Rattle.record_runs.proofs.PartLemmas.{texts-join, whole-text}
use Rattle.line_inputs.specs.FigureLinesFormat as figure
use Rattle.line_inputs.specs.GraphLinesFormat as graph
use Rattle.line_inputs.specs.declared.figure_lines.ending.Ending.{Ending as FigureEnding}
use Rattle.line_inputs.specs.declared.figure_lines.ending.Ending.TheVariants as figures
use Rattle.line_inputs.specs.declared.graph_lines.ending.Ending.{Ending as GraphEnding}
use Rattle.line_inputs.specs.declared.graph_lines.ending.Ending.TheVariants as graphs
use Rattle.pigale_shell.specs.PlanarCode as planar
use Rattle.pigale_shell.specs.declared.output_lines.Ending.{Ending}
use Rattle.pigale_shell.specs.declared.output_lines.Ending.TheVariants.{Well, EndInRecord, BadCount, TooLong}
use Rattle.pigale_shell.specs.JobInput.{EndingOf, answers_of}
use Rattle.pigale_shell.specs.Parts.{ended_well_of, ending_behind_of}
use Rattle.pigale_shell.specs.PartLaws.{TextsJoin, WholeIsPart}
use Rattle.pigale_shell.specs.declared.job_kinds.JobKind.{JobKind}
use Rattle.pigale_shell.specs.declared.job_kinds.JobKind.TheVariants.{Maps, Graphs, Figures, Made}

planar-well : (place : ℕ) (ending : Ending) → planar.ended_well (planar.ending_behind place ending) ≡ planar.ended_well ending
planar-well place Well = refl
planar-well place (EndInRecord at) = refl
planar-well place (BadCount at) = refl
planar-well place TooLong = refl

graph-well : (place : ℕ) (ending : GraphEnding) → graph.ended_well (graph.ending_behind place ending) ≡ graph.ended_well ending
graph-well place graphs.Well = refl
graph-well place (graphs.BadLine k) = refl
graph-well place (graphs.Limit k) = refl
graph-well place graphs.TooLong = refl

figure-well : (place : ℕ) (ending : FigureEnding) → figure.ended_well (figure.ending_behind place ending) ≡ figure.ended_well ending
figure-well place figures.Well = refl
figure-well place (figures.BadLine k) = refl
figure-well place (figures.Limit k) = refl
figure-well place (figures.EndInFigure k) = refl
figure-well place figures.TooLong = refl

-- an ending is the good one in the whole where it is in its part
still-well : (job : JobKind) (place : ℕ) (ending : EndingOf job) → ended_well_of job (ending_behind_of job place ending) ≡ ended_well_of job ending
still-well (Maps job form) place ending = planar-well place ending
still-well (Graphs form) place ending = graph-well place ending
still-well Figures place ending = figure-well place ending
still-well (Made size number) place ending = refl

planar-behind : (p q : ℕ) (ending : Ending) → planar.ending_behind (p + q) ending ≡ planar.ending_behind p (planar.ending_behind q ending)
planar-behind p q Well = refl
planar-behind p q (EndInRecord at) = ap (λ (n : ℕ). EndInRecord n) (let e : (p + q) + at ≡ p + (q + at) = omega arith in e)
planar-behind p q (BadCount at) = ap (λ (n : ℕ). BadCount n) (let e : (p + q) + at ≡ p + (q + at) = omega arith in e)
planar-behind p q TooLong = refl

graph-behind : (p q : ℕ) (ending : GraphEnding) → graph.ending_behind (p + q) ending ≡ graph.ending_behind p (graph.ending_behind q ending)
graph-behind p q graphs.Well = refl
graph-behind p q (graphs.BadLine k) = ap (λ (n : ℕ). graphs.BadLine n) (let e : (p + q) + k ≡ p + (q + k) = omega arith in e)
graph-behind p q (graphs.Limit k) = ap (λ (n : ℕ). graphs.Limit n) (let e : (p + q) + k ≡ p + (q + k) = omega arith in e)
graph-behind p q graphs.TooLong = refl

figure-behind : (p q : ℕ) (ending : FigureEnding) → figure.ending_behind (p + q) ending ≡ figure.ending_behind p (figure.ending_behind q ending)
figure-behind p q figures.Well = refl
figure-behind p q (figures.BadLine k) = ap (λ (n : ℕ). figures.BadLine n) (let e : (p + q) + k ≡ p + (q + k) = omega arith in e)
figure-behind p q (figures.Limit k) = ap (λ (n : ℕ). figures.Limit n) (let e : (p + q) + k ≡ p + (q + k) = omega arith in e)
figure-behind p q (figures.EndInFigure k) = ap (λ (n : ℕ). figures.EndInFigure n) (let e : (p + q) + k ≡ p + (q + k) = omega arith in e)
figure-behind p q figures.TooLong = refl

-- what stands before a part stands before it in two pieces
behind-behind : (job : JobKind) (p q : ℕ) (ending : EndingOf job) → ending_behind_of job (p + q) ending ≡ ending_behind_of job p (ending_behind_of job q ending)
behind-behind (Maps job form) p q ending = planar-behind p q ending
behind-behind (Graphs form) p q ending = graph-behind p q ending
behind-behind Figures p q ending = figure-behind p q ending
behind-behind (Made size number) p q ending = refl

planar-front : (ending : Ending) → planar.ending_behind 0 ending ≡ ending
planar-front Well = refl
planar-front (EndInRecord at) = ap (λ (n : ℕ). EndInRecord n) (let e : 0 + at ≡ at = omega arith in e)
planar-front (BadCount at) = ap (λ (n : ℕ). BadCount n) (let e : 0 + at ≡ at = omega arith in e)
planar-front TooLong = refl

graph-front : (ending : GraphEnding) → graph.ending_behind 0 ending ≡ ending
graph-front graphs.Well = refl
graph-front (graphs.BadLine k) = ap (λ (n : ℕ). graphs.BadLine n) (let e : 0 + k ≡ k = omega arith in e)
graph-front (graphs.Limit k) = ap (λ (n : ℕ). graphs.Limit n) (let e : 0 + k ≡ k = omega arith in e)
graph-front graphs.TooLong = refl

figure-front : (ending : FigureEnding) → figure.ending_behind 0 ending ≡ ending
figure-front figures.Well = refl
figure-front (figures.BadLine k) = ap (λ (n : ℕ). figures.BadLine n) (let e : 0 + k ≡ k = omega arith in e)
figure-front (figures.Limit k) = ap (λ (n : ℕ). figures.Limit n) (let e : 0 + k ≡ k = omega arith in e)
figure-front (figures.EndInFigure k) = ap (λ (n : ℕ). figures.EndInFigure n) (let e : 0 + k ≡ k = omega arith in e)
figure-front figures.TooLong = refl

-- where nothing stands before a part, its ending is that of the input
at-front : (job : JobKind) (ending : EndingOf job) → ending_behind_of job 0 ending ≡ ending
at-front (Maps job form) ending = planar-front ending
at-front (Graphs form) ending = graph-front ending
at-front Figures ending = figure-front ending
at-front (Made size number) ending = refl

pub texts_joined : TextsJoin
texts_joined job = texts-join (answers_of job) (ended_well_of job) (ending_behind_of job) (still-well job) (behind-behind job)

pub whole_joined : WholeIsPart
whole_joined job = whole-text (answers_of job) (ended_well_of job) (ending_behind_of job) (at-front job)
