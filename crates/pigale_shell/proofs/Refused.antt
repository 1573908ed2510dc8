-- Statuses and blocks that wrong bodies would give.
use Rattle.std.proofs.Common.{◌≡◌, ◌≤◌, List, [], true, false, length, refl, ap, arith}
use Rattle.std.proofs.lemmas.Int.{ints}
use Rattle.std.specs.Prelude.{slice_index, codes}
use Rattle.std.specs.Fmt.{digits}
use Rattle.map_lists.specs.Lists.{Lists}
use Rattle.pg_plane.specs.declared.figures.GridFigure.{GridFigure}
use Rattle.grid_figures.specs.ShiftFiguresFigures.{IsShiftFigure}
use Rattle.grid_figures.specs.SchnyderFiguresFigures.{IsSchnyderFigure}
use Rattle.graphs.specs.Graphs.{EdgeGraph, Edge}
use Rattle.kuratowski.specs.declared.witness.Witness.{Witness}
use Rattle.figure_text.specs.declared.figure.Figure.TheVariants.{Witness as WitnessFigure}
use Rattle.figure_verdicts.specs.Verdicts.{IsFigureVerdict}
use Rattle.figure_verdicts.specs.declared.verdict.FigureVerdict.{FigureVerdict}
use Rattle.figure_verdicts.specs.declared.verdict.FigureVerdict.TheVariants.{Refused, Drawing, Inside, Convex, Bars, Rects, Witness as WitnessFault, Yes}
use Rattle.line_inputs.specs.declared.graph_lines.ending.Ending.TheVariants as graph
use Rattle.pigale_words.specs.declared.output_form.Form.{Form}
use Rattle.pigale_words.specs.declared.output_form.Form.TheVariants.{Text}
use Rattle.pigale_shell.specs.declared.map_jobs.MapJob.TheVariants.{Count}
use Rattle.pigale_shell.specs.declared.job_kinds.JobKind.TheVariants.{Maps, Graphs}
use Rattle.pigale_words.specs.declared.job.Status.TheVariants.{Done, BadWords, BadInput, ReadFault, WriteFault}
use Rattle.pigale_shell.specs.declared.output_lines.Ending.{Ending}
use Rattle.pigale_shell.specs.declared.output_lines.Ending.TheVariants.{Well}
use Rattle.pigale_shell.specs.EmbedText.{embed_answers}
use Rattle.pigale_shell.specs.Outcome.{MayEnd}
use Rattle.pigale_shell.specs.Verify.{verdict_line, numbers_line, IsVerifyBlock, WritesVerdict}

-- an input of graphs that is too long ends well
line_too_long_ends_well : (form : Form) → MayEnd (Graphs form) graph.TooLong Done → ⊥
line_too_long_ends_well form e = cc

-- a graph of three vertices is refused
triangle_is_refused : (form : Form) (edges : List Edge) → (embed_answers form).Serves (record { n = 3; edges = edges }) false → ⊥
triangle_is_refused form edges s = let h : false ≡ true = s.1 (omega arith) in cc

-- a graph of two vertices is drawn
two_vertices_are_drawn : (form : Form) (edges : List Edge) → (embed_answers form).Serves (record { n = 2; edges = edges }) true → ⊥
two_vertices_are_drawn form edges s = omega (arith, s.0 refl)

-- an input that ended well, and neither read nor write failed
always_bad_input : MayEnd (Maps Count Text) Well BadInput → ⊥
always_bad_input e = e

always_bad_words : MayEnd (Maps Count Text) Well BadWords → ⊥
always_bad_words e = e

always_read_fault : (ending : Ending) → MayEnd (Maps Count Text) ending ReadFault → ⊥
always_read_fault ending e = e

always_write_fault : (ending : Ending) → MayEnd (Maps Count Text) ending WriteFault → ⊥
always_write_fault ending e = e

-- the drawing by the other method
shift_draws_by_the_other_method : (lists : Lists) (figure : GridFigure) → 3 ≤ length lists → IsShiftFigure lists figure → IsSchnyderFigure lists figure → ⊥
shift_draws_by_the_other_method lists figure least shift schnyder = omega (arith, ints, shift.width, schnyder.width)

-- the verdict of a first figure, which is a witness, under the number of the second
verdict_of_another_figure : (graph : EdgeGraph) (witness : Witness) → IsVerifyBlock 1 (WitnessFigure graph witness) (verdict_line 2 (codes "yes", [])) → ⊥
unfolding verdict_line numbers_line digits
verdict_of_another_figure graph witness b = none b.0 b.1 b.2
  where
    none : (verdict : FigureVerdict) → IsFigureVerdict (WitnessFigure graph witness) verdict → WritesVerdict 1 verdict (verdict_line 2 (codes "yes", [])) → ⊥
    none (Refused fault) v t = v
    none (Drawing drawing) v t = v
    none (Inside u w) v t = v
    none (Convex convex) v t = v
    none (Bars bars) v t = v
    none (Rects rects) v t = v
    none (WitnessFault fault) v t = omega (arith, ap (λ text. slice_index text 8) t)
    none Yes v t = omega (arith, ap (λ text. slice_index text 8) t)
