-- What a run is to write over an input: a block for each record, in order, and a last line.
use Rattle.std.specs.Prelude.{ℕ, ◌+◌, ◌≡◌, Bool, if◌then◌else◌, List, [], ◌∷◌, ◌++◌}

-- how many bytes of an input are read
abbrev pub input_limit : ℕ
input_limit = 16777216

-- A format: how an input is read.
pub record Reads (Record Ending : Type 0) : Type 1 where
  -- the input has just these records, and ends thus
  pub IsReading : List ℕ → List Record → Ending → Type 0
  -- the input begins with these records, which end within the limit
  pub BeginsWith : List ℕ → List Record → Type 0
  -- the ending of an input that ended well, and the others
  pub well : Ending
  pub IsBad : Ending → Type 0

-- A job: what it writes.
pub record Answers (Record Ending : Type 0) : Type 1 where
  -- the text is its answer for a record, which stands at a place from 1
  pub IsBlock : ℕ → Record → List ℕ → Type 0
  -- whether it serves a record, or refuses it
  pub Serves : Record → Bool → Type 0
  -- the last line, after so many records, of which so many were refused
  pub last_line : ℕ → ℕ → Ending → List ℕ

-- the text is one block for each record, in order, the first of which is record k
abbrev pub AreBlocks : {Record : Type 0} → (ℕ → Record → List ℕ → Type 0) → ℕ → List Record → List ℕ → Type 0
AreBlocks IsBlock k [] text = text ≡ []
AreBlocks IsBlock k (record' ∷ records) text =
    (block : List ℕ) × (rest : List ℕ) × IsBlock k record' block × AreBlocks IsBlock (k + 1) records rest × (text ≡ block ++ rest)

-- the job refuses `refused` of the records
abbrev pub Refuses : {Record Ending : Type 0} → Answers Record Ending → List Record → ℕ → Type 0
Refuses job [] refused = refused ≡ 0
Refuses job (record' ∷ records) refused =
    (served : Bool) × (rest : ℕ) × job.Serves record' served × Refuses job records rest × (refused ≡ (if served then 0 else 1) + rest)
