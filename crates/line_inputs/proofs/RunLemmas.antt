-- Lines of vertices that stand one behind another in a part.
use Rattle.std.proofs.Common.{◌≡◌, ◌≢◌, ℕ, ◌+◌, ◌<◌, ◌≤◌, List, [], ◌++◌, length, drop, take, get_or, refl, sym, ap, ◌∙◌, subst, arith, append_assoc}
use Rattle.std.proofs.lemmas.List.{append-nil}
use Rattle.std.proofs.Math.Seq.{take-add}
use Rattle.std.specs.Prelude.{Some}
use Rattle.record_runs.specs.Texts.{input_limit}
use Rattle.figure_text.specs.declared.figure.Figure.{Figure}
use Rattle.figure_text.specs.declared.vertex_lines.Draft.{Draft}
use Rattle.figure_text.specs.Words.{words_of}
use Rattle.figure_text.specs.Drafts.{with_row}
use Rattle.figure_text.specs.Reading.{IsRow, RowInRange}
use Rattle.line_inputs.specs.Heads.{head_kind}
use Rattle.line_inputs.specs.FigureLinesProgress.{Progress}
use Rattle.line_inputs.specs.FigureLinesState.{TakesRun}
use Rattle.line_inputs.specs.declared.figure_lines.begun_figure.Begun.{Begun}
use Rattle.line_inputs.specs.declared.figure_lines.begun_figure.SomeRows.{SomeRows}
use Rattle.line_inputs.specs.declared.figure_lines.begun_figure.Due.TheVariants.{Row}
use Rattle.line_inputs.specs.declared.figure_lines.closed_line.After.TheVariants.{Goes}
use Rattle.line_inputs.proofs.FigureLinesLineLemmas.{makes-grown, lists-with_row}
use Rattle.line_inputs.proofs.FigureLinesPartLemmas.{closes-line}

-- a figure with these rows has begun
abbrev pub begun_by : ℕ → SomeRows → Begun
begun_by first rows = record { first = first; due = Row rows }

-- no line is taken
pub run-none : (consumed : List ℕ) (figures : List Figure) (number : ℕ) (part : List ℕ) (begun : Begun) → Progress consumed figures number [] (Some begun) → TakesRun consumed figures number part [] 0 0 begun
run-none consumed figures number part begun p =
    let same : number ≡ number + 0 = omega arith in
    subst (λ (k : ℕ). Progress (consumed ++ []) figures k [] (Some begun)) same (subst (λ (x : List ℕ). Progress x figures number [] (Some begun)) (sym (append-nil consumed)) p)

-- where no line is taken, the figure is as it was
pub none-run : (consumed : List ℕ) (figures : List Figure) (number : ℕ) (part : List ℕ) (begun : Begun) (bytes lines : ℕ) → bytes ≡ 0 → lines ≤ bytes → TakesRun consumed figures number part [] bytes lines begun → Progress consumed figures number [] (Some begun)
none-run consumed figures number part begun bytes lines none few p =
    let same : number + lines ≡ number = omega arith in
    let bare : consumed ++ take bytes part ≡ consumed = ap (λ (k : ℕ). consumed ++ take k part) none ∙ append-nil consumed in
    subst (λ (k : ℕ). Progress consumed figures k [] (Some begun)) same (subst (λ (x : List ℕ). Progress x figures (number + lines) [] (Some begun)) bare p)

module _ (consumed : List ℕ) (figures : List Figure) (number first : ℕ) (rows rows' : SomeRows) (part : List ℕ) (p : Progress consumed figures number [] (Some (begun_by first rows))) (same_head : rows'.held.head ≡ rows.held.head) (same_n : rows'.held.n ≡ rows.held.n) where
  -- the rows are as they were
  pub run-same : rows'.held.draft ≡ rows.held.draft → TakesRun consumed figures number part [] 0 0 (begun_by first rows')
  run-same same_draft = run-none consumed figures number part (begun_by first rows') (record {
    items = p.items;
    at = p.at;
    first = p.first;
    are = p.are;
    figures_are = p.figures_are;
    within = p.within;
    plain = p.plain;
    stands = (p.stands.0, rw (same_head, same_n, same_draft) p.stands.1);
  })

  -- the line that ends at byte n of the part is taken
  pub run-line : (n : ℕ) → n < length part → ((k : ℕ) → k < n → get_or part k 0 ≢ 10) → get_or part n 0 ≡ 10 → length consumed + length part ≤ input_limit → IsRow (head_kind rows.held.head) (length rows.held.draft.lists + 1) (words_of (take n part)) × RowInRange (head_kind rows.held.head) (words_of (take n part)) × (rows'.held.draft ≡ with_row (head_kind rows.held.head) rows.held.draft (words_of (take n part))) → TakesRun consumed figures number part [] (n + 1) 1 (begun_by first rows')
  run-line n within none ten few good =
      let line : List ℕ = take n part in
      closes-line consumed figures number [] line (Some (begun_by first rows)) (Goes (Some (begun_by first rows'))) part n within none ten few refl p
      (λ text start plain open_line. makes-grown text start number line plain rows.held.head rows.held.n rows.held.draft open_line.1 (good.0, good.1) rows'.held.draft good.2 (omega arith) first open_line.0 (Goes (Some (begun_by first rows'))) (refl, (omega arith, same_head, same_n, refl)))

-- some lines more are taken
pub run-more : (consumed : List ℕ) (figures : List Figure) (number : ℕ) (begun : Begun) (part : List ℕ) (bytes lines more count : ℕ) → TakesRun (consumed ++ take bytes part) figures (number + lines) (drop bytes part) [] more count begun → TakesRun consumed figures number part [] (bytes + more) (lines + count) begun
run-more consumed figures number begun part bytes lines more count p =
    let e : (consumed ++ take bytes part) ++ take more (drop bytes part) ≡ consumed ++ take (bytes + more) part =
    append_assoc consumed (take bytes part) (take more (drop bytes part)) ∙ ap (λ (x : List ℕ). consumed ++ x) (sym (take-add bytes more part)) in
    let k : number + lines + count ≡ number + (lines + count) = omega arith in
    subst (λ (n : ℕ). Progress (consumed ++ take (bytes + more) part) figures n [] (Some begun)) k (subst (λ (x : List ℕ). Progress x figures (number + lines + count) [] (Some begun)) e p)
