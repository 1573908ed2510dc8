-- What a scanner makes of a piece, part by part.
use Rattle.std.proofs.Common.{◌≡◌, ℕ, ◌+◌, ◌-◌, ◌≤◌, List, ◌++◌, length, take, drop, sym, ap, subst, ◌∙◌, arith, append_assoc}
use Rattle.std.proofs.lemmas.List.{length-drop, take-append-drop, length-take-le, take_rest}
use Rattle.std.proofs.Math.Seq.{take-append-add}
use Rattle.std.specs.Prelude.{IsTrue, IsFalse}
use Rattle.planar_code.specs.Reading.{IsRecord, is_bad_count}
use Rattle.planar_code.specs.declared.record_scanner.Scanned.{Scanned}
use Rattle.planar_code.specs.declared.record_scanner.Scanned.TheVariants.{More, Ended, Bad}
use Rattle.planar_code.specs.Scan.{Scan, Passes, PassesBefore, Scans}
use Rattle.planar_code.proofs.PassLemmas.{Passes-append}

-- what was scanned, behind bytes of the piece that passed
abbrev pub shifted : ℕ → Scanned → Scanned
shifted passed (More k) = More (passed + k)
shifted passed (Ended k) = Ended (passed + k)
shifted passed (Bad k) = Bad (passed + k)

-- the first bytes of a piece, in two parts
pub take-parts : (piece : List ℕ) (n k : ℕ) → n ≤ length piece → take (n + k) piece ≡ take n piece ++ take k (drop n piece)
take-parts piece n k within =
    ap (λ (x : List ℕ). take (n + k) x) (sym (take-append-drop n piece))
    ∙ ap (λ (m : ℕ). take (m + k) (take n piece ++ drop n piece)) (sym (length-take-le n piece within))
    ∙ take-append-add (take n piece) (drop n piece) k

module _ (bytes piece : List ℕ) (n : ℕ) (within : n ≤ length piece) where
  joined : (k : ℕ) → (bytes ++ take n piece) ++ take k (drop n piece) ≡ bytes ++ take (n + k) piece
  joined k = append_assoc bytes (take n piece) (take k (drop n piece)) ∙ ap (λ (x : List ℕ). bytes ++ x) (sym (take-parts piece n k within))

  passes-parts : (k : ℕ) → Passes bytes (take n piece) → Passes (bytes ++ take n piece) (take k (drop n piece)) → Passes bytes (take (n + k) piece)
  passes-parts k first then =
      let P : List ℕ → Type 0 = λ x. Passes bytes x in
      subst P (sym (take-parts piece n k within)) (Passes-append bytes (take n piece) (take k (drop n piece)) first then)

  before-parts : (k : ℕ) → Passes bytes (take n piece) → PassesBefore (bytes ++ take n piece) (drop n piece) k → PassesBefore bytes piece (n + k)
  before-parts k first then =
      let m : n + (k - 1) ≡ n + k - 1 = omega arith in
      let P : ℕ → Type 0 = λ m. Passes bytes (take m piece) in
      (omega arith, omega (arith, length-drop n piece), subst P m (passes-parts (k - 1) first then.2))

-- The first bytes of a piece passed, and what then came of the rest.
pub Scans-parts : (old mid new : Scan) (piece : List ℕ) (n : ℕ) (scanned : Scanned) → Scans old piece (More n) mid → Scans mid (drop n piece) scanned new → Scans old piece (shifted n scanned) new
Scans-parts old mid new piece n (More k) first then =
    let P : List ℕ → Type 0 = λ x. Passes x (take k (drop n piece)) in
    let room' = then.4 in (
      omega (arith, length-drop n piece),
      passes-parts old.bytes piece n first.0 k first.1 (subst P first.2 then.1),
      then.2 ∙ ap (λ (x : List ℕ). x ++ take k (drop n piece)) first.2 ∙ joined old.bytes piece n first.0 k,
      then.3 ∙ first.3,
      omega arith,
    )
Scans-parts old mid new piece n (Ended k) first then =
    let P : List ℕ → Type 0 = λ x. PassesBefore x (drop n piece) k in
    let Q : List ℕ → Type 0 = λ x. IsFalse (is_bad_count x) in
    let R : List ℕ → Type 0 = λ x. IsRecord x new.lists in
    let whole : mid.bytes ++ take k (drop n piece) ≡ old.bytes ++ take (n + k) piece = ap (λ (x : List ℕ). x ++ take k (drop n piece)) first.2 ∙ joined old.bytes piece n first.0 k in
    (before-parts old.bytes piece n first.0 k first.1 (subst P first.2 then.0), subst Q whole then.1, subst R whole then.2, then.3)
Scans-parts old mid new piece n (Bad k) first then =
    let P : List ℕ → Type 0 = λ x. PassesBefore x (drop n piece) k in
    let Q : List ℕ → Type 0 = λ x. IsTrue (is_bad_count x) in
    let m : n + (k - 1) ≡ n + k - 1 = omega arith in (
      before-parts old.bytes piece n first.0 k first.1 (subst P first.2 then.0),
      subst Q (ap (λ (x : List ℕ). x ++ take k (drop n piece)) first.2 ∙ joined old.bytes piece n first.0 k) then.1,
      then.2 ∙ ap (λ (x : List ℕ). x ++ take (k - 1) (drop n piece)) first.2 ∙ joined old.bytes piece n first.0 (k - 1) ∙ ap (λ (i : ℕ). old.bytes ++ take i piece) m,
      then.3 ∙ first.3,
    )

-- The same where the rest is given as the slice that it is.
pub Scans-rest : (old mid new : Scan) (piece : List ℕ) (n : ℕ) (scanned scanned' : Scanned) → scanned ≡ scanned' → Scans old piece (More n) mid → Scans mid (take (length piece - n) (drop n piece)) scanned new → Scans old piece (shifted n scanned') new
Scans-rest old mid new piece n scanned scanned' same first then =
    let P : List ℕ → Type 0 = λ x. Scans mid x scanned new in
    let Q : Scanned → Type 0 = λ x. Scans old piece (shifted n x) new in
    subst Q same (Scans-parts old mid new piece n scanned first (subst P (take_rest piece n) then))
