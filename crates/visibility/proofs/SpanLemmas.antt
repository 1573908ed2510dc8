-- The least and the greatest of the first entries of a row.
use Rattle.std.proofs.Common.{◌≡◌, ◌⊎◌, ℕ, ◌+◌, ◌<◌, ◌≤◌, List, length, get_or, cond, ltb, refl, sym, ap, ◌∙◌, subst, inl, inr, arith}
use Rattle.std.proofs.lemmas.Bool.{cases_lt, cases_eq}
use Rattle.std.proofs.lemmas.List.Elements.{Contains-get_or}
use Rattle.map_lists.specs.Lists.{Lists}
use Rattle.map_theory.specs.Maps.{HasDart, list_of, darts_before, dart_count, dart_number}
use Rattle.map_theory.proofs.DartLemmas.{place_of-get_or, dart_number-lt}
use Rattle.graph_search.specs.Arcs.{arcs_of}
use Rattle.bipolar.specs.FaceNumbers.{left_rows}
use Rattle.bipolar.proofs.FaceAgree.{left_row-at}
use Rattle.visibility.specs.Ends.{IsLeastOf, IsGreatestOf}
use Rattle.visibility.specs.Spans.{AreSides}

pub record IsSpan (row : List ℕ) (i least greatest : ℕ) : Type 0 where
  pub low : (j : ℕ) → j < i → least ≤ get_or row j 0
  pub high : (j : ℕ) → j < i → get_or row j 0 ≤ greatest
  pub low_one : 0 < i → (j : ℕ) × (j < i) × (get_or row j 0 ≡ least)
  pub high_one : 0 < i → (j : ℕ) × (j < i) × (get_or row j 0 ≡ greatest)
  pub low_none : i ≡ 0 → least ≡ 4294967295
  pub high_none : i ≡ 0 → greatest ≡ 0

pub IsSpan-more : (row : List ℕ) (i least greatest x least' greatest' : ℕ) → IsSpan row i least greatest → get_or row i 0 ≡ x → x < 4294967296 → least' ≤ least → least' ≤ x → (least' ≡ least) ⊎ (least' ≡ x) → greatest ≤ greatest' → x ≤ greatest' → (greatest' ≡ greatest) ⊎ (greatest' ≡ x) → IsSpan row (i + 1) least' greatest'
IsSpan-more row i least greatest x least' greatest' w is fits a b one c d other = record {
  low = λ j l. elim (cases_lt j i) [
    | inl less ↦ omega (arith, w.low j less, a)
    | inr most ↦ (let e : j ≡ i = omega (arith, l, most) in omega (arith, b, is, ap (λ z. get_or row z 0) e))
  ];
  high = λ j l. elim (cases_lt j i) [
    | inl less ↦ omega (arith, w.high j less, c)
    | inr most ↦ (let e : j ≡ i = omega (arith, l, most) in omega (arith, d, is, ap (λ z. get_or row z 0) e))
  ];
  low_one = λ l. elim one [
    | inr e ↦ (i, omega arith, is ∙ sym e)
    | inl e ↦ elim (cases_eq i 0) [
      | inl z ↦ (i, omega arith, omega (arith, is, b, e, fits, w.low_none z))
      | inr ne ↦ (let k = w.low_one (omega (arith, ne)) in (k.0, omega (arith, k.1), k.2 ∙ sym e))
    ]
  ];
  high_one = λ l. elim other [
    | inr e ↦ (i, omega arith, is ∙ sym e)
    | inl e ↦ elim (cases_eq i 0) [
      | inl z ↦ (i, omega arith, omega (arith, is, d, e, w.high_none z))
      | inr ne ↦ (let k = w.high_one (omega (arith, ne)) in (k.0, omega (arith, k.1), k.2 ∙ sym e))
    ]
  ];
  low_none = λ e. absurd (omega (arith, e));
  high_none = λ e. absurd (omega (arith, e));
}

pub IsLeastOf-span : (row : List ℕ) (i least greatest : ℕ) → i ≡ length row → 0 < length row → IsSpan row i least greatest → IsLeastOf row least
IsLeastOf-span row i least greatest e some w = record {
  most = λ j l. w.low j (omega (arith, l, e));
  one = let k = w.low_one (omega (arith, some, e)) in (k.0, omega (arith, k.1, e), k.2);
}

pub IsGreatestOf-span : (row : List ℕ) (i least greatest : ℕ) → i ≡ length row → 0 < length row → IsSpan row i least greatest → IsGreatestOf row greatest
IsGreatestOf-span row i least greatest e some w = record {
  least = λ j l. w.high j (omega (arith, l, e));
  one = let k = w.high_one (omega (arith, some, e)) in (k.0, omega (arith, k.1, e), k.2);
}

-- the dart to entry i of the list of b, and its number
module _ (lists : Lists) (rank of twins numbers : List ℕ) (w : AreSides lists rank of twins numbers) (b i : ℕ) (lb : b < length lists) (li : i < length (list_of lists b)) where
  abbrev u : ℕ
  u = get_or (list_of lists b) i 0

  pub entry_dart : HasDart lists b u
  entry_dart = (lb, Contains-get_or (list_of lists b) i 0 li)

  pub entry_number : dart_number lists (b, u) ≡ darts_before lists b + i
  entry_number = ap (λ k. darts_before lists b + k) (place_of-get_or (list_of lists b) i 0 (w.simple.no_repeat b lb) li)

  pub entry_in : darts_before lists b + i < dart_count lists
  entry_in = omega (arith, entry_number, dart_number-lt lists b u entry_dart)

  pub entry_twin : get_or twins (darts_before lists b + i) 0 ≡ dart_number lists (u, b)
  entry_twin = ap (λ k. get_or twins k 0) (sym entry_number) ∙ w.twin b u entry_dart

  pub entry_twin_in : get_or twins (darts_before lists b + i) 0 < dart_count lists
  entry_twin_in = omega (arith, entry_twin, dart_number-lt lists u b (w.simple.both_ways b u entry_dart))

  pub entry_head : u < length lists
  entry_head = w.simple.in_range b u entry_dart

  -- what is read at the dart is the number of the row
  pub entry_is : (tail head x : ℕ) → tail ≡ get_or rank b 0 → head ≡ get_or rank u 0 → x ≡ get_or numbers (cond (ltb tail head) (get_or of (darts_before lists b + i) 0) (get_or of (get_or twins (darts_before lists b + i) 0) 0)) 0 → get_or (arcs_of (left_rows lists rank of numbers) b) i 0 ≡ x
  entry_is tail head x et eh is =
      left_row-at lists rank of numbers b i li
      ∙ (ap (λ k. get_or numbers (cond (ltb (get_or rank b 0) (get_or rank u 0)) (get_or of k 0) (get_or of (dart_number lists (u, b)) 0)) 0) entry_number
      ∙ (ap (λ k. get_or numbers (cond (ltb (get_or rank b 0) (get_or rank u 0)) (get_or of (darts_before lists b + i) 0) (get_or of k 0)) 0) (sym entry_twin)
      ∙ (ap (λ k. get_or numbers (cond (ltb k (get_or rank u 0)) (get_or of (darts_before lists b + i) 0) (get_or of (get_or twins (darts_before lists b + i) 0) 0)) 0) (sym et)
      ∙ (ap (λ k. get_or numbers (cond (ltb tail k) (get_or of (darts_before lists b + i) 0) (get_or of (get_or twins (darts_before lists b + i) 0) 0)) 0) (sym eh) ∙ sym is))))

  -- where it is read by the number of the first dart of the list
  pub entry_read : (first : ℕ) → first ≡ darts_before lists b → (list : List ℕ) → list ≡ list_of lists b → (x : ℕ) → x ≡ get_or numbers (cond (ltb (get_or rank b 0) (get_or rank (get_or list i 0) 0)) (get_or of (first + i) 0) (get_or of (get_or twins (first + i) 0) 0)) 0 → get_or (arcs_of (left_rows lists rank of numbers) b) i 0 ≡ x
  entry_read first ef list el x told =
      let head : ℕ = get_or rank (get_or list i 0) 0 in
      entry_is (get_or rank b 0) head x refl (ap (λ (us : List ℕ). get_or rank (get_or us i 0) 0) el) (subst (λ k. x ≡ get_or numbers (cond (ltb (get_or rank b 0) head) (get_or of (k + i) 0) (get_or of (get_or twins (k + i) 0) 0)) 0) ef told)
