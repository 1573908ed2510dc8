-- Parts of a piece, and the line that they join or close.
use Rattle.std.proofs.Common.{◌≡◌, ◌≢◌, ℕ, ◌+◌, ◌<◌, ◌≤◌, Bool, List, [], ◌∷◌, ◌++◌, length, take, get_or, sym, ap, ◌∙◌, subst, arith, append_assoc, length-append}
use Rattle.std.proofs.lemmas.List.{take_more, take_all, length-take-le}
use Rattle.record_runs.specs.Texts.{input_limit}
use Rattle.graphs.specs.Graphs.{EdgeGraph}
use Rattle.line_inputs.proofs.FigureLinesPartLemmas.{IsPlain-front}
use Rattle.line_inputs.specs.GraphLinesProgress.{Progress, Closes}
use Rattle.line_inputs.specs.declared.graph_lines.open_line.Judged.{Judged}
use Rattle.line_inputs.proofs.GraphLinesLineLemmas.{Progress-joined}

-- a part that holds no byte 10
pub joins-all : (consumed : List ℕ) (graphs : List EdgeGraph) (number : ℕ) (first : Bool) (pending pending' part : List ℕ) (n : ℕ) → n ≡ length part → ((k : ℕ) → k < n → get_or part k 0 ≢ 10) → pending' ≡ pending ++ take n part → Progress consumed graphs number first pending → Progress (consumed ++ part) graphs number first pending'
joins-all consumed graphs number first pending pending' part n all none is p =
    let whole : take n part ≡ part = take_all n part (omega arith) in
    let joined = Progress-joined consumed graphs number first pending (take n part) p (IsPlain-front part n (omega arith) none) in
    subst (λ (x : List ℕ). Progress x graphs number first pending') (ap (λ (x : List ℕ). consumed ++ x) whole) (rw is joined)

-- one that closes the line with its byte n
pub closes-line : (consumed : List ℕ) (graphs : List EdgeGraph) (number : ℕ) (first : Bool) (pending line : List ℕ) (judged : Judged) (part : List ℕ) (n : ℕ) → n < length part → ((k : ℕ) → k < n → get_or part k 0 ≢ 10) → get_or part n 0 ≡ 10 → length consumed + length part ≤ input_limit → line ≡ pending ++ take n part → Progress consumed graphs number first pending → ((text : List ℕ) (given : List EdgeGraph) → Progress text given number first line → length text < input_limit → Closes (text ++ 10 ∷ []) given number judged) → Closes (consumed ++ take (n + 1) part) graphs number judged
closes-line consumed graphs number first pending line judged part n within none ten few is p makes =
    let joined = Progress-joined consumed graphs number first pending (take n part) p (IsPlain-front part n (omega arith) none) in
    let here = subst (λ (x : List ℕ). Progress (consumed ++ take n part) graphs number first x) (sym is) joined in
    let short : length (consumed ++ take n part) < input_limit = let l = length-append consumed (take n part) in let t = length-take-le n part (omega arith) in omega arith in
    let whole : (consumed ++ take n part) ++ 10 ∷ [] ≡ consumed ++ take (n + 1) part = append_assoc consumed (take n part) (10 ∷ [])
    ∙ ap (λ (b : ℕ). consumed ++ (take n part ++ b ∷ [])) (sym ten) ∙ ap (λ (x : List ℕ). consumed ++ x) (sym (take_more part n 0 within)) in
    subst (λ (x : List ℕ). Closes x graphs number judged) whole (makes (consumed ++ take n part) graphs here short)
