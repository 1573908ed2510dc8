-- Runs of rows: one is taken away, and another put in.
use Rattle.std.proofs.Common.{◌≡◌, ◌≢◌, ◌⊎◌, ℕ, ◌<◌, ◌≤◌, List, length, get_or, set, inl, inr, ⊎_elim, sym, ap, ◌∙◌, arith, length-set, get_or-set_same, get_or-set_other}
use Rattle.std.specs.Prelude.{nat_lt, if◌then◌else◌}
use Rattle.std.proofs.lemmas.Bool.{cases_lt, cases_eq}
use Rattle.std.proofs.lemmas.Bool.Decides.{nat_tests}
use Rattle.std.proofs.lemmas.List.{get_or_past}
use Rattle.rect_check.specs.Loops.{AreRuns, IsFilled, IsRunPut}

-- entries of rows, with one in those from low on before high
abbrev pub filled : (ℕ → ℕ) → (low high entry : ℕ) → ℕ → ℕ
filled row low high entry y = if nat_lt y low then row y else (if nat_lt y high then entry else row y)

pub filled_is : (row : ℕ → ℕ) (low high entry : ℕ) → IsFilled row (filled row low high entry) low high entry
filled_is row low high entry = record {
  inside = λ y l m. grind (arith, nat_tests);
  outside = λ y side. ⊎_elim (λ l. grind (arith, nat_tests)) (λ l. grind (arith, nat_tests)) side;
}

-- what is 0 in a list is 0 behind its end too
pub zero_past : (xs : List ℕ) (n : ℕ) → length xs ≡ n → ((y : ℕ) → 0 ≤ y → y < n → get_or xs y 0 ≡ 0) → (y : ℕ) → get_or xs y 0 ≡ 0
zero_past xs n size zero y = elim (cases_lt y n) [
  | inl less ↦ zero y (omega arith) less
  | inr most ↦ get_or_past xs y 0 (omega (arith, size, most))
]

-- an end that is taken away leaves none later than before
pub set_zero-le : (until : List ℕ) (at : ℕ) → at < length until → (s : ℕ) → get_or (set until at 0) s 0 ≤ get_or until s 0
set_zero-le until at l s = elim (cases_eq s at) [
  | inl same ↦ (let e = ap (λ k. get_or (set until at 0) k 0) same in omega (arith, e, get_or-set_same until at 0 0 l))
  | inr other ↦ omega (arith, get_or-set_other until at s 0 0 other)
]

module _ (last until : List ℕ) (row : ℕ → ℕ) where
  -- a row where a run begins
  pub AreRuns-opened : AreRuns last until row 0 0 → (p : ℕ) → p < get_or until p 0 → AreRuns last until row p p
  AreRuns-opened runs p begins = record {
    within = runs.within;
    each = λ y l _. runs.each y l (inr (omega arith));
    apart = runs.apart;
    none = λ z l m. absurd (omega (arith, l, m));
    before = λ s l. elim (cases_lt p (get_or until s 0)) [
      | inl over ↦ absurd (let e = runs.apart s p l over in omega (arith, e, begins))
      | inr up ↦ up
    ];
  }

  -- all rows have a run
  pub AreRuns-closed : (p : ℕ) → AreRuns last until row p p → AreRuns last until row 0 0
  AreRuns-closed p runs = record {
    within = runs.within;
    each = λ y l _. elim (cases_lt y p) [
      | inl less ↦ runs.each y l (inl less)
      | inr most ↦ runs.each y l (inr most)
    ];
    apart = runs.apart;
    none = λ z l m. absurd (omega (arith, m));
    before = λ s l. absurd (omega (arith, l));
  }

  -- no row has a run
  pub AreRuns-none : (n : ℕ) → length until ≡ n → ((y : ℕ) → get_or until y 0 ≡ 0) → AreRuns last until row 0 n
  AreRuns-none n size zero = record {
    within = λ s. omega (arith, zero s);
    each = λ y l side. absurd (⊎_elim (λ a. omega (arith, a)) (λ a. omega (arith, a, l, size)) side);
    apart = λ s z _ _. zero z;
    none = λ z _ _. zero z;
    before = λ s _. omega (arith, zero s);
  }

  module _ (low at : ℕ) (order : low ≤ at) (runs : AreRuns last until row low at) (begins : at < get_or until at 0) where
    -- the entry of a row of the run that begins at row at
    pub entry_here : (y : ℕ) → at ≤ y → y < get_or until at 0 → get_or last at 0 ≡ row y
    entry_here y l m =
        let w = runs.within at in
        let r = runs.each y (omega (arith, m, w)) (inr l) in
        let s = r.0 in
        elim (cases_lt s at) [
          | inl less ↦ absurd (elim (cases_lt s low) [
            | inl first ↦ (let b = runs.before s first in omega (arith, b, order, l, r.2))
            | inr from ↦ (let b = runs.none s from less in omega (arith, b, r.2))
          ])
          | inr most ↦ elim (cases_lt at s) [
            | inl more ↦ absurd (let b = runs.apart at s more (omega (arith, r.1, m)) in omega (arith, b, r.2))
            | inr up ↦ (let same : at ≡ s = omega (arith, most, up) in ap (λ k. get_or last k 0) same ∙ r.3)
          ]
        ]

    -- that run is taken away
    pub AreRuns-taken : AreRuns last (set until at 0) row low (get_or until at 0)
    AreRuns-taken = record {
      within = λ s. (let a = fewer s in let b = runs.within s in let c = length-set until at 0 in omega (arith, a, b, c));
      each = λ y l side.
          (let r = runs.each y (omega (arith, l, length-set until at 0)) (⊎_elim (λ a. inl a) (λ a. inr (omega (arith, a, begins))) side) in
          let other : r.0 ≢ at = λ e. (let u = ap (λ k. get_or until k 0) e in ⊎_elim (λ a. omega (arith, a, order, e, r.1)) (λ a. omega (arith, a, u, r.2)) side) in
          (r.0, r.1, omega (arith, kept r.0 other, r.2), r.3));
      apart = λ s z l m. (let a = fewer s in let b = runs.apart s z l (omega (arith, a, m)) in let c = fewer z in omega (arith, b, c));
      none = λ z l m. elim (cases_lt z at) [
        | inl less ↦ (let a = runs.none z l less in let c = fewer z in omega (arith, a, c))
        | inr most ↦ elim (cases_lt at z) [
          | inl more ↦ (let a = runs.apart at z more m in let c = fewer z in omega (arith, a, c))
          | inr up ↦ (let same : z ≡ at = omega (arith, most, up) in ap (λ k. get_or (set until at 0) k 0) same ∙ gone)
        ]
      ];
      before = λ s l. (let a = fewer s in let b = runs.before s l in omega (arith, a, b));
    }
      where
        in_table : at < length until
        in_table = elim (cases_lt at (length until)) [
          | inl l ↦ l
          | inr l ↦ absurd (let w = runs.within at in omega (arith, w, l, begins))
        ]

        gone : get_or (set until at 0) at 0 ≡ 0
        gone = get_or-set_same until at 0 0 in_table

        kept : (s : ℕ) → s ≢ at → get_or (set until at 0) s 0 ≡ get_or until s 0
        kept s other = get_or-set_other until at s 0 0 other

        fewer : (s : ℕ) → get_or (set until at 0) s 0 ≤ get_or until s 0
        fewer s = set_zero-le until at in_table s

-- a run put where there is none
pub IsRunPut-some : (last until : List ℕ) (low high entry : ℕ) → low < high → high ≤ length last → length until ≡ length last → IsRunPut last (set last low entry) until (set until low high) low high entry
IsRunPut-some last until low high entry some within size row new top below runs filled = record {
  within = λ s. elim (cases_eq s low) [
    | inl same ↦ omega (arith, ap (λ k. get_or (set until low high) k 0) same, here, within, size, length-set until low high)
    | inr other ↦ omega (arith, kept s other, runs.within s, length-set until low high)
  ];
  each = λ y l side. elim (cases_lt y low) [
    | inl less ↦ (let r = runs.each y (omega (arith, l, length-set until low high)) (inl less) in old y r (λ e. omega (arith, e, less, r.1)) (inl less))
    | inr from ↦ elim (cases_lt y high) [
      | inl to ↦ (low, from, omega (arith, here, to), get_or-set_same last low entry 0 (omega (arith, some, within)) ∙ sym (filled.inside y from to))
      | inr past ↦ (let up : top ≤ y = ⊎_elim (λ a. absurd (omega (arith, a, past))) (λ a. a) side in let r = runs.each y (omega (arith, l, length-set until low high)) (inr up) in old y r (λ e. let u = ap (λ k. get_or until k 0) e in let n = runs.none low (omega arith) (omega (arith, some, below)) in omega (arith, u, n, r.2)) (inr past))
    ]
  ];
  apart = λ s z l m. elim (cases_eq s low) [
    | inl same ↦ (let e = ap (λ k. get_or (set until low high) k 0) same in let m' : z < high = omega (arith, e, here, m) in let n = runs.none z (omega (arith, same, l)) (omega (arith, m', below)) in kept z (λ k. omega (arith, k, same, l)) ∙ n)
    | inr other ↦ (let m' : z < get_or until s 0 = omega (arith, kept s other, m) in kept z (λ k. elim (cases_lt s low) [
      | inl less ↦ (let b = runs.before s less in omega (arith, b, k, m'))
      | inr most ↦ omega (arith, k, l, most)
    ]) ∙ runs.apart s z l m')
  ];
  none = λ z l m. kept z (λ k. omega (arith, k, l, some)) ∙ runs.none z (omega (arith, l, some)) m;
  before = λ s l. elim (cases_eq s low) [
    | inl same ↦ omega (arith, ap (λ k. get_or (set until low high) k 0) same, here)
    | inr other ↦ elim (cases_lt s low) [
      | inl less ↦ omega (arith, kept s other, runs.before s less, some)
      | inr most ↦ omega (arith, kept s other, runs.none s most (omega (arith, l, below)))
    ]
  ];
}
  where
    here : get_or (set until low high) low 0 ≡ high
    here = get_or-set_same until low high 0 (omega (arith, some, within, size))

    kept : (s : ℕ) → s ≢ low → get_or (set until low high) s 0 ≡ get_or until s 0
    kept s other = get_or-set_other until low s high 0 other

    old : (y : ℕ) → (r : (s : ℕ) × (s ≤ y) × (y < get_or until s 0) × (get_or last s 0 ≡ row y)) → r.0 ≢ low → (y < low) ⊎ (high ≤ y) → (s : ℕ) × (s ≤ y) × (y < get_or (set until low high) s 0) × (get_or (set last low entry) s 0 ≡ new y)
    old y r other side = (r.0, r.1, omega (arith, kept r.0 other, r.2), get_or-set_other last low r.0 entry 0 other ∙ (r.3 ∙ sym (filled.outside y side)))

-- a run of no rows
pub IsRunPut-none : (last until : List ℕ) (low high entry : ℕ) → high ≤ low → low ≤ high → IsRunPut last last until until low high entry
IsRunPut-none last until low high entry up down row new top below runs filled = record {
  within = runs.within;
  each = λ y l side. (let r = runs.each y l (⊎_elim (λ a. inl (omega (arith, a, up))) (λ a. inr a) side) in (
    r.0,
    r.1,
    r.2,
    r.3 ∙ sym (filled.outside y (elim (cases_lt y low) [
      | inl less ↦ inl less
      | inr most ↦ inr (omega (arith, most, up))
    ])),
  ));
  apart = runs.apart;
  none = λ z l m. runs.none z (omega (arith, l, down)) m;
  before = λ s l. (let b = runs.before s (omega (arith, l, up)) in omega (arith, b, down));
}
