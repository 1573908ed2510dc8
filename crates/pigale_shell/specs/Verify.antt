-- The job `verify`: what it writes for a figure, and at the end.
use Rattle.std.specs.Prelude.{ℕ, ◌+◌, ◌≡◌, ◌↔◌, IsTrue, List, [], ◌∷◌, ◌++◌, flat_map, codes, decimal}
use Rattle.record_runs.specs.Texts.{Answers}
use Rattle.bar_check.specs.declared.verdict.BarVerdict.{BarVerdict}
use Rattle.bar_check.specs.declared.verdict.BarVerdict.TheVariants.{BadShape, BadHeight, BadBar, BadColumn, Through, Overlap, Turned as TurnedBars, Yes as NoBarFault}
use Rattle.convex_check.specs.declared.verdict.ConvexVerdict.{ConvexVerdict}
use Rattle.convex_check.specs.declared.verdict.ConvexVerdict.TheVariants.{Bent, OuterBent, Yes as NoBend}
use Rattle.rect_check.specs.declared.verdict.RectVerdict.{RectVerdict}
use Rattle.rect_check.specs.declared.verdict.RectVerdict.TheVariants.{BadRect, Meet, Gap, Contact, NoFrame, Frame, Yes as NoRectFault}
use Rattle.kuratowski.specs.declared.check.WitnessVerdict.{WitnessVerdict}
use Rattle.kuratowski.specs.declared.check.WitnessVerdict.TheVariants.{BadShape as NoShape, BadBranch, NotEdge, Shared, Yes as NoWitnessFault}
use Rattle.draw_check.specs.declared.verdict.Verdict.{Verdict}
use Rattle.draw_check.specs.declared.verdict.Verdict.TheVariants.{OutOfGrid, SamePlace, OnEdge, Cross, Turned, Yes as NoFault}
use Rattle.figure_text.specs.declared.figure.Figure.{Figure}
use Rattle.line_inputs.specs.declared.figure_lines.ending.Ending.{Ending}
use Rattle.line_inputs.specs.declared.figure_lines.ending.Ending.TheVariants.{Well, BadLine, Limit, EndInFigure, TooLong}
use Rattle.figure_verdicts.specs.Validity.{IsValidFigure}
use Rattle.figure_verdicts.specs.Verdicts.{IsFigureVerdict}
use Rattle.figure_verdicts.specs.declared.verdict.FigureVerdict.{FigureVerdict}
use Rattle.figure_verdicts.specs.declared.verdict.FigureVerdict.TheVariants.{Refused, Drawing, Inside, Convex, Bars, Rects, Witness, Yes}
use Rattle.simple_maps.specs.declared.map_fault.MapFault.{MapFault}
use Rattle.refusals.specs.Conditions.{unserved_for}
use Rattle.refusals.specs.declared.conditions.Refusal.{Refusal}
use Rattle.refusals.specs.declared.conditions.Unserved.TheVariants.{Refused as UnservedFor}
use Rattle.pigale_shell.specs.Text.{word_and_number, line, refusal_line, end_line}

-- vertices, each after a space and numbered from 1
abbrev pub numbers : List ℕ → List ℕ
numbers vs = flat_map (λ v. 32 ∷ decimal (v + 1)) vs

-- the line of the verdict on figure k, by its name and vertices
unfoldable pub verdict_line : ℕ → List ℕ × List ℕ → List ℕ
verdict_line k words = line ((word_and_number (codes "verdict") k ++ 32 ∷ words.0) ++ numbers words.1)

-- the name of a fault of a straight-line drawing, and its vertices; of an edge the lesser end comes first
abbrev pub verdict_words : Verdict → List ℕ × List ℕ
verdict_words (OutOfGrid v) = (codes "OutOfGrid", v.0 ∷ [])
verdict_words (SamePlace u v) = (codes "SamePlace", u.0 ∷ v.0 ∷ [])
verdict_words (OnEdge v e) = (codes "OnEdge", v.0 ∷ e.a.0 ∷ e.b.0 ∷ [])
verdict_words (Cross e f) = (codes "Cross", e.a.0 ∷ e.b.0 ∷ f.a.0 ∷ f.b.0 ∷ [])
verdict_words (Turned v) = (codes "Turned", v.0 ∷ [])
verdict_words NoFault = (codes "yes", [])

-- the name of a fault of bars, and its vertices
abbrev pub bars_words : BarVerdict → List ℕ × List ℕ
bars_words BadShape = (codes "BadShape", [])
bars_words (BadHeight v) = (codes "BadHeight", v.0 ∷ [])
bars_words (BadBar v) = (codes "BadBar", v.0 ∷ [])
bars_words (BadColumn e) = (codes "BadColumn", e.a.0 ∷ e.b.0 ∷ [])
bars_words (Through e v) = (codes "Through", e.a.0 ∷ e.b.0 ∷ v.0 ∷ [])
bars_words (Overlap e f) = (codes "Overlap", e.a.0 ∷ e.b.0 ∷ f.a.0 ∷ f.b.0 ∷ [])
bars_words (TurnedBars v) = (codes "Turned", v.0 ∷ [])
bars_words NoBarFault = (codes "yes", [])

-- the name of a fault in how the faces of a drawing bend, and its vertices
abbrev pub convex_words : ConvexVerdict → List ℕ × List ℕ
convex_words (Bent a b c) = (codes "Bent", a.0 ∷ b.0 ∷ c.0 ∷ [])
convex_words OuterBent = (codes "OuterBent", [])
convex_words NoBend = (codes "yes", [])

-- the name of a fault of rectangles, and its vertices
abbrev pub rects_words : RectVerdict → List ℕ × List ℕ
rects_words (BadRect v) = (codes "BadRect", v.0 ∷ [])
rects_words (Meet u v) = (codes "Meet", u.0 ∷ v.0 ∷ [])
rects_words Gap = (codes "Gap", [])
rects_words (Contact u v) = (codes "Contact", u.0 ∷ v.0 ∷ [])
rects_words NoFrame = (codes "NoFrame", [])
rects_words (Frame v) = (codes "Frame", v.0 ∷ [])
rects_words NoRectFault = (codes "yes", [])

-- numbers in decimal, each after a space
abbrev pub spaced : List ℕ → List ℕ
spaced ns = flat_map (λ n. 32 ∷ decimal n) ns

-- the line of the verdict on figure k, by its name and numbers, which are printed as they are
unfoldable pub numbers_line : ℕ → List ℕ × List ℕ → List ℕ
numbers_line k words = line ((word_and_number (codes "verdict") k ++ 32 ∷ words.0) ++ spaced words.1)

-- the name of a fault of a witness, and its numbers, all from 1
abbrev pub witness_words : WitnessVerdict → List ℕ × List ℕ
witness_words NoShape = (codes "BadShape", [])
witness_words (BadBranch i) = (codes "BadBranch", i ∷ [])
witness_words (NotEdge p i) = (codes "NotEdge", p ∷ i ∷ [])
witness_words (Shared p q v) = (codes "Shared", p ∷ q ∷ (v.0 + 1) ∷ [])
witness_words NoWitnessFault = (codes "yes", [])

-- the text is the line that refuses figure k for a fault of its map
abbrev pub WritesFault : ℕ → MapFault → List ℕ → Type 0
WritesFault k fault text = (refusal : Refusal) × (unserved_for fault ≡ UnservedFor refusal) × (text ≡ refusal_line k refusal)

-- the text is the line of a verdict on figure k
abbrev pub WritesVerdict : ℕ → FigureVerdict → List ℕ → Type 0
WritesVerdict k (Refused fault) text = WritesFault k fault text
WritesVerdict k (Drawing verdict) text = text ≡ verdict_line k (verdict_words verdict)
WritesVerdict k (Inside v u) text = text ≡ verdict_line k (codes "Inside", v.0 ∷ u.0 ∷ [])
WritesVerdict k (Convex verdict) text = text ≡ verdict_line k (convex_words verdict)
WritesVerdict k (Bars verdict) text = text ≡ verdict_line k (bars_words verdict)
WritesVerdict k (Rects verdict) text = text ≡ verdict_line k (rects_words verdict)
WritesVerdict k (Witness verdict) text = text ≡ numbers_line k (witness_words verdict)
WritesVerdict k Yes text = text ≡ verdict_line k (codes "yes", [])

-- what `verify` writes for figure k: the line of its verdict
abbrev pub IsVerifyBlock : ℕ → Figure → List ℕ → Type 0
IsVerifyBlock k figure text = (verdict : FigureVerdict) × IsFigureVerdict figure verdict × WritesVerdict k verdict text

-- the last line, by the ending of the input
unfoldable pub verify_last_line : ℕ → ℕ → Ending → List ℕ
verify_last_line records refused Well = end_line records refused
verify_last_line records refused (BadLine k) = line (word_and_number (codes "stop BadLine") k)
verify_last_line records refused (Limit k) = line (word_and_number (codes "stop Limit") k)
verify_last_line records refused (EndInFigure k) = line (word_and_number (codes "stop EndInFigure") k)
verify_last_line records refused TooLong = line (codes "stop TooLong")

-- a figure is served exactly where it is valid
abbrev pub verify_answers : Answers Figure Ending
verify_answers = record {
  IsBlock = IsVerifyBlock;
  Serves = λ figure served. IsTrue served ↔ IsValidFigure figure;
  last_line = verify_last_line;
}
