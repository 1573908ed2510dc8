-- What the bytes consumed read as, and with which graphs an input begins.
use Rattle.std.proofs.Common.{◌≡◌, ℕ, ◌-◌, ◌<◌, ◌≤◌, Bool, true, false, List, [], ◌∷◌, ◌++◌, length, take, refl, sym, subst, arith, inr, length-append}
use Rattle.std.proofs.lemmas.List.{take_all, take_at}
use Rattle.record_runs.specs.Texts.{input_limit}
use Rattle.graphs.specs.Graphs.{EdgeGraph}
use Rattle.figure_text.specs.Reading.{IsPlain}
use Rattle.line_inputs.specs.GraphLinesReading.{first_bytes, lines_in, HasLines, EndsAs, BeginsWith, IsReading}
use Rattle.line_inputs.specs.GraphLinesProgress.{Stands, behind_header}
use Rattle.line_inputs.specs.GraphLinesState.{State, IsAt, ending_of, ending_by}
use Rattle.line_inputs.specs.declared.graph_lines.ending.Ending.{Ending}
use Rattle.line_inputs.specs.declared.graph_lines.ending.Ending.TheVariants.{TooLong}
use Rattle.line_inputs.proofs.GraphLinesLineLemmas.{HasLines-more, HasLines-none, lines_in-more, open-text, behind-plain, read-front}

-- how bytes end if no more come
ends-open : (total : ℕ) (rest : List ℕ) (k : ℕ) → total ≤ input_limit → IsPlain rest → EndsAs total rest k (ending_of rest k)
ends-open total [] k few plain = (few, refl)
ends-open total (b ∷ rest) k few plain = (refl, inr (few, plain, omega arith))

-- The bytes consumed are read as their graphs and that ending.
pub IsAt-reads : (state : State) (consumed : List ℕ) (graphs : List EdgeGraph) → IsAt state consumed graphs → length consumed ≤ input_limit → IsReading consumed graphs (ending_by state.first state.line state.pending)
IsAt-reads state consumed graphs at few =
    let p = at.progress in
    let whole : first_bytes consumed ≡ consumed = take_all input_limit consumed few in
    let rest : List ℕ = behind_header state.first state.pending in
    record {
      rest = rest;
      has = subst (λ (x : List ℕ). HasLines (lines_in x) graphs rest) (sym whole) (open-text state.first consumed graphs state.pending p.stands);
      ends = subst (λ (k : ℕ). EndsAs (length consumed) rest k (ending_of rest state.line)) p.counted (ends-open (length consumed) rest state.line few (behind-plain state.first state.pending p.plain));
    }

-- An input begins with the graphs of its first bytes.
begins-front : (first : Bool) (consumed more : List ℕ) (graphs : List EdgeGraph) (pending : List ℕ) → Stands first consumed graphs pending → (rest : List ℕ) × HasLines (lines_in (consumed ++ more)) graphs rest
begins-front true consumed more graphs pending (same, none) = rw none (lines_in (consumed ++ more), HasLines-none (lines_in (consumed ++ more)))
begins-front false consumed more graphs pending (settled, has) = (pending ++ more, rw (lines_in-more consumed more settled) (HasLines-more (lines_in consumed) graphs pending more has))

pub IsAt-begins : (state : State) (consumed : List ℕ) (graphs : List EdgeGraph) (tail : List ℕ) → IsAt state consumed graphs → length consumed ≤ input_limit → BeginsWith (consumed ++ tail) graphs
IsAt-begins state consumed graphs tail at few =
    let front = begins-front state.first consumed (take (input_limit - length consumed) tail) graphs state.pending at.progress.stands in
    record { rest = front.0; has = subst (λ (x : List ℕ). HasLines (lines_in x) graphs front.0) (sym (read-front consumed tail few)) front.1 }

-- An input begins with the graphs that it has.
pub reading-begins : (input : List ℕ) (graphs : List EdgeGraph) (ending : Ending) → IsReading input graphs ending → BeginsWith input graphs
reading-begins input graphs ending reading = record { rest = reading.rest; has = reading.has }

-- and with none
pub begins-none : (input : List ℕ) → BeginsWith input []
begins-none input = record { rest = lines_in (first_bytes input); has = HasLines-none (lines_in (first_bytes input)) }

-- One byte more than is read: the input is too long.
pub IsAt-too_long : (state : State) (consumed : List ℕ) (graphs : List EdgeGraph) → IsAt state consumed graphs → length consumed ≡ input_limit → (byte : ℕ) (tail : List ℕ) → IsReading (consumed ++ byte ∷ tail) graphs TooLong
IsAt-too_long state consumed graphs at full byte tail =
    let p = at.progress in
    let front : first_bytes (consumed ++ byte ∷ tail) ≡ consumed = take_at consumed (byte ∷ tail) input_limit full in
    record {
      rest = behind_header state.first state.pending;
      has = subst (λ (x : List ℕ). HasLines (lines_in x) graphs (behind_header state.first state.pending)) (sym front) (open-text state.first consumed graphs state.pending p.stands);
      ends = (let l = length-append consumed (byte ∷ tail) in omega arith, behind-plain state.first state.pending p.plain);
    }
