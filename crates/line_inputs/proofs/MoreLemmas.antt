-- What stands in a text stands there in a longer one.
use Rattle.std.proofs.Common.{◌≡◌, ℕ, ◌≤◌, List, ◌∷◌, ◌++◌, length, drop, sym, ap, ◌∙◌, subst, arith, append_assoc, length-append}
use Rattle.std.proofs.lemmas.List.{drop-append-le}
use Rattle.std.specs.Prelude.{Ok}
use Rattle.figure_text.specs.declared.figure.Figure.{Figure}
use Rattle.figure_text.specs.declared.line_shapes.Kind.{Kind}
use Rattle.figure_text.specs.declared.line_shapes.Kind.TheVariants.{Grid, Bars, Rects, Witness}
use Rattle.figure_text.specs.declared.figure_ends.Item.TheVariants.{Drawn, Note}
use Rattle.figure_text.specs.Reading.{IsLine, Rows, closed}
use Rattle.figure_text.specs.Figures.{IsBody}
use Rattle.figure_text.specs.Laws.{IsAnswer}

-- bytes behind an offset, and more behind them
pub drop-more : (bytes more : List ℕ) (at : ℕ) → at ≤ length bytes → drop at (bytes ++ more) ≡ drop at bytes ++ more
drop-more bytes more at within = drop-append-le at bytes more within

pub within-more : (bytes more : List ℕ) (at : ℕ) → at ≤ length bytes → at ≤ length (bytes ++ more)
within-more bytes more at within = omega (arith, length-append bytes more)

pub IsLine-more : (text line rest more : List ℕ) → IsLine text line rest → IsLine (text ++ more) line (rest ++ more)
IsLine-more text line rest more is = record {
  parts = ap (λ (x : List ℕ). x ++ more) is.parts ∙ append_assoc line (10 ∷ rest) more;
  plain = is.plain;
}

pub Rows-more : (kind : Kind) (text : List ℕ) (lines : List (List ℕ)) (rest more : List ℕ) → Rows kind text lines rest → Rows kind (text ++ more) lines (rest ++ more)
Rows-more kind text lines rest more rows = record {
  parts = ap (λ (x : List ℕ). x ++ more) rows.parts ∙ append_assoc (closed lines) rest more;
  plain = rows.plain;
  good = rows.good;
}

pub IsBody-more : (kind : Kind) (n : ℕ) (head text rest more : List ℕ) (fig : Figure) → IsBody kind n head text rest fig → IsBody kind n head (text ++ more) (rest ++ more) fig
IsBody-more (Grid job) n head text rest more fig (lines, rows, full, is) = (lines, Rows-more (Grid job) text lines rest more rows, full, is)
IsBody-more Bars n head text rest more fig (lines, columns, rows, full, plain, shaped, within, is) = (
  lines,
  columns,
  subst (λ (x : List ℕ). Rows Bars (text ++ more) lines x) (append_assoc columns (10 ∷ rest) more) (Rows-more Bars text lines (columns ++ 10 ∷ rest) more rows),
  full,
  plain,
  shaped,
  within,
  is,
)
IsBody-more Rects n head text rest more fig (lines, rows, full, is) = (lines, Rows-more Rects text lines rest more rows, full, is)
IsBody-more (Witness kind) n head text rest more fig (graph, lines, of, rows, full, is) =
    (graph, lines, of, Rows-more (Witness kind) text lines rest more rows, full, is)

module _ (bytes more : List ℕ) (at : ℕ) (within : at ≤ length bytes) where
  here : drop at bytes ++ more ≡ drop at (bytes ++ more)
  here = sym (drop-more bytes more at within)

  -- a figure and a note stand there
  pub drawn-more : (first : ℕ) (fig : Figure) (next after : ℕ) → IsAnswer bytes at first (Ok (Drawn fig next after)) → IsAnswer (bytes ++ more) at first (Ok (Drawn fig next after))
  drawn-more first fig next after (kind, n, text, begins, (body, in_bytes, counted)) = (
    kind,
    n,
    text ++ more,
    record {
      line = begins.line;
      is = subst (λ (x : List ℕ). IsLine x begins.line (text ++ more)) here (IsLine-more (drop at bytes) begins.line text more begins.is);
      other = begins.other;
      head = begins.head;
    },
    (
      subst (λ (x : List ℕ). IsBody kind n begins.line (text ++ more) x fig) (sym (drop-more bytes more next in_bytes)) (IsBody-more kind n begins.line text (drop next bytes) more fig body),
      within-more bytes more next in_bytes,
      counted,
    ),
  )

  pub note-more : (first : ℕ) (next after : ℕ) → IsAnswer bytes at first (Ok (Note next after)) → IsAnswer (bytes ++ more) at first (Ok (Note next after))
  note-more first next after (line, is, note, in_bytes, counted) = (
    line,
    subst (λ (x : List ℕ). IsLine (drop at (bytes ++ more)) line x) (sym (drop-more bytes more next in_bytes)) (subst (λ (x : List ℕ). IsLine x line (drop next bytes ++ more)) here (IsLine-more (drop at bytes) line (drop next bytes) more is)),
    note,
    within-more bytes more next in_bytes,
    counted,
  )
