-- What stands at the first byte of a record.
use Rattle.std.proofs.Common.{◌≡◌, ℕ, ◌+◌, ◌-◌, List, ◌++◌, length, take, drop, sym, ap, subst, ◌∙◌, refl, arith}
use Rattle.std.proofs.lemmas.List.{length-append, take-append-drop, length-take-le}
use Rattle.std.proofs.lemmas.Bool.{false≢true}
use Rattle.std.proofs.Math.Seq.{drop-append_seam, take-append_seam}
use Rattle.map_lists.specs.Lists.{Lists}
use Rattle.planar_code.specs.Reading.{IsRecord, has_bad_count}
use Rattle.planar_code.specs.Step.{StandsAt, FailsAt}
use Rattle.planar_code.specs.declared.whole_input.Step.{Step}
use Rattle.planar_code.specs.declared.whole_input.Step.TheVariants as found
use Rattle.planar_code.specs.declared.whole_input.CodeFault.{CodeFault}
use Rattle.planar_code.specs.declared.whole_input.CodeFault.TheVariants.{EndInRecord, BadCount, NoMemory}
use Rattle.planar_code.proofs.ReadingLemmas.{record-unique, record-no_bad_count, record-positive}

module _ (front bytes rest : List ℕ) (lists : Lists) (is : IsRecord bytes lists) where
  abbrev all : List ℕ
  all = front ++ (bytes ++ rest)

  behind : drop (length front) all ≡ bytes ++ rest
  behind = drop-append_seam front (bytes ++ rest)

  size : length all ≡ length front + (length bytes + length rest)
  size = let a = length-append front (bytes ++ rest) in let b = length-append bytes rest in omega arith

  pub stands : (step : Step) → StandsAt all (length front) step → step ≡ found.Lists lists (length front + length bytes)
  stands (found.Lists read end) h =
      let n = end - length front in
      let here : IsRecord (take n (bytes ++ rest)) read = subst (λ (xs : List ℕ). IsRecord (take n xs) read) behind h.2 in
      let same = record-unique (take n (bytes ++ rest)) bytes (drop n (bytes ++ rest)) rest read lists here is (take-append-drop n (bytes ++ rest)) in
      let count = length-take-le n (bytes ++ rest) (omega (arith, length-append bytes rest, size)) in
      let e : end ≡ length front + length bytes = omega (arith, ap length same.0) in
      ap (λ (x : Lists). found.Lists x end) same.1 ∙ ap (found.Lists lists) e
  stands found.End h = absurd (let p = record-positive bytes lists is in let z = size in omega arith)

  pub fails : (fault : CodeFault) → FailsAt all (length front) fault → fault ≡ NoMemory
  fails (EndInRecord start) h =
      absurd (h.3 (length bytes) lists (subst (λ (xs : List ℕ). IsRecord xs lists) (sym (ap (take (length bytes)) behind ∙ take-append_seam bytes rest)) is))
  fails (BadCount start) h = absurd (false≢true (sym (record-no_bad_count bytes rest lists is) ∙ (sym (ap has_bad_count behind) ∙ h.1)))
  fails NoMemory h = refl
