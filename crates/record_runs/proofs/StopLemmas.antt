-- What bytes do to a run, and how it stops within them.
use Rattle.std.proofs.Common.{◌≡◌, ℕ, ◌+◌, ◌<◌, Bool, List, [], ◌∷◌, ◌++◌, length, ap, ◌∙◌, append_assoc, cond, take, drop, get_or}
use Rattle.std.proofs.lemmas.List.{take-append-drop, drop_more}
use Rattle.record_runs.specs.Texts.{Reads, Answers, input_limit}
use Rattle.record_runs.specs.Run.{IsAt, EndsAs, Stops}
use Rattle.record_runs.specs.declared.main_loop.Stop.{Stop}
use Rattle.record_runs.specs.declared.main_loop.Stop.TheVariants.{Bad, NoMemory}
use Rattle.record_runs.proofs.BlockLemmas.{IsAnswered-push}

-- the bytes up to a place of a piece, some more, and the rest of the piece
pub piece-splits : (consumed piece : List ℕ) (i : ℕ) → (consumed ++ take i piece) ++ drop i piece ≡ consumed ++ piece
piece-splits consumed piece i = append_assoc consumed (take i piece) (drop i piece) ∙ ap (λ (x : List ℕ). consumed ++ x) (take-append-drop i piece)

module _ {Record Ending Reader : Type 0} (format : Reads Record Ending) (job : Answers Record Ending) (At : Reader → List ℕ → List Record → Type 0) where
  -- the record that ended was answered
  pub at-answered : {consumed text : List ℕ} {reader reader' : Reader} {count refused : ℕ} (at : IsAt At job consumed text reader count refused) (consumed' : List ℕ) (next : Record) (block : List ℕ) (served : Bool) → At reader' consumed' (at.records ++ next ∷ []) → job.IsBlock (count + 1) next block → job.Serves next served → IsAt At job consumed' (text ++ block) reader' (count + 1) (refused + cond served 0 1)
  at-answered at consumed' next block served read is serves = record {
    records = at.records ++ next ∷ [];
    read = read;
    answered = IsAnswered-push next block served at.answered is serves;
  }

  -- what stopped within some bytes stopped within more
  pub Stops-more : (consumed more text : List ℕ) (count refused : ℕ) (stop : Stop Ending) → Stops format job consumed text count refused stop → Stops format job (consumed ++ more) text count refused stop
  Stops-more consumed more text count refused (Bad end) stops = (stops.0, λ (tail : List ℕ). rw (append_assoc consumed more tail) (stops.1 (more ++ tail)))
  Stops-more consumed more text count refused NoMemory stops = λ (tail : List ℕ). rw (append_assoc consumed more tail) (stops (more ++ tail))

  -- one byte more than the limit: the input is too long
  pub at-too_long : {text : List ℕ} {reader : Reader} {count refused : ℕ} (ending : Ending) (consumed piece : List ℕ) (n : ℕ) → n < length piece → ((bytes : List ℕ) (records : List Record) → At reader bytes records → length bytes ≡ input_limit → (byte : ℕ) (tail : List ℕ) → format.IsReading (bytes ++ byte ∷ tail) records ending) → (at : IsAt At job (consumed ++ take n piece) text reader count refused) → length (consumed ++ take n piece) ≡ input_limit → (tail : List ℕ) → EndsAs format job ((consumed ++ piece) ++ tail) ending text count refused
  at-too_long ending consumed piece n within reads at full tail = record {
    records = at.records;
    reading = rw (← piece-splits consumed piece n, drop_more piece n 0 within, append_assoc (consumed ++ take n piece) (get_or piece n 0 ∷ drop (n + 1) piece) tail)
        (reads (consumed ++ take n piece) at.records at.read full (get_or piece n 0) (drop (n + 1) piece ++ tail));
    answered = at.answered;
  }
