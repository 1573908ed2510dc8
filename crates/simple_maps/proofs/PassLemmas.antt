-- What one pass over the entries of all lists keeps: the list that it goes over, and the twins that it has written.
use Rattle.std.proofs.Common.{◌≡◌, ◌≢◌, ℕ, ◌+◌, ◌<◌, ◌≤◌, List, length, get_or, set, All, sym, ap, ◌∙◌, subst, inl, inr, arith, get_or-set_same, get_or-set_other, length-set}
use Rattle.std.proofs.lemmas.Bool.{cases_eq, cases_lt}
use Rattle.std.proofs.lemmas.List.Elements.{All-set}
use Rattle.simple_maps.specs.Pass.{IsSimpleList, IsPlaced, AreMutual}

-- The entries of v's list before d were gone over: the newest place of each is in the list, and so is that of v.
pub record HasThreaded (entries tails twins tails' twins' newest : List ℕ) (start d v : ℕ) : Type 0 where
  pub list : IsSimpleList entries start d v
  pub placed : IsPlaced tails twins tails' twins' start d v
  pub unset : All (λ m. 16777216 ≤ m) newest
  pub met : (i : ℕ) → start ≤ i → i < d → 16777217 + start ≤ get_or newest (get_or entries i 0) 0
  pub own : 16777217 + start ≤ get_or newest v 0

-- a place in the list stays there, where another is written
still : (newest : List ℕ) (u mark x bound : ℕ) → u < length newest → bound ≤ mark → bound ≤ get_or newest x 0 → bound ≤ get_or (set newest u mark) x 0
still newest u mark x bound l m h =
    elim (cases_eq x u) [
      | inl e ↦ omega (arith, ap (λ y. get_or (set newest u mark) y 0) e, get_or-set_same newest u mark 0 l)
      | inr ne ↦ omega (arith, get_or-set_other newest u x mark 0 ne)
    ]

-- one entry more, whose newest place is before the list
module _ (entries tails twins tails' twins' newest : List ℕ) (start d v : ℕ) (h : HasThreaded entries tails twins tails' twins' newest start d v) where
  pub HasThreaded-more : (older place next : ℕ) → start ≤ d → d < length entries → d < length tails' → d < length twins' → get_or entries d 0 < length newest → older ≡ get_or newest (get_or entries d 0) 0 → older < 16777217 + start → place ≡ 16777217 + d → next ≡ d + 1 → HasThreaded entries tails twins (set tails' d v) (set twins' d older) (set newest (get_or entries d 0) place) start next v
  HasThreaded-more older place next from in_entries in_tails in_twins u_in old less new step =
      let before : (x : ℕ) → get_or newest x 0 ≡ older → 16777217 + start ≤ get_or newest x 0 → ⊥ = λ x e m. omega arith in
      let first : (i : ℕ) → start ≤ i → i < d → get_or entries i 0 ≢ get_or entries d 0 =
      λ i a b e. before (get_or entries i 0) (ap (λ y. get_or newest y 0) e ∙ sym old) (h.met i a b) in
      let other : get_or entries d 0 ≢ v = λ e. before v (ap (λ y. get_or newest y 0) (sym e) ∙ sym old) h.own in
      let u = get_or entries d 0 in
      record {
        list = record {
          distinct = λ i j a b c. elim (cases_lt j d) [
            | inl m ↦ h.list.distinct i j a b m
            | inr m ↦ let e : j ≡ d = omega arith in subst (λ k. get_or entries i 0 ≢ get_or entries k 0) (sym e) (first i a (omega arith))
          ];
          no_loop = λ i a b. elim (cases_lt i d) [
            | inl m ↦ h.list.no_loop i a m
            | inr m ↦ let e : i ≡ d = omega arith in subst (λ k. get_or entries k 0 ≢ v) (sym e) other
          ];
        };
        placed = record {
          tail_kept = λ i m. let ne : i ≢ d = omega arith in get_or-set_other tails' d i v 0 ne ∙ h.placed.tail_kept i m;
          twin_kept = λ i m. let ne : i ≢ d = omega arith in get_or-set_other twins' d i older 0 ne ∙ h.placed.twin_kept i m;
          tail_here = λ i a b. elim (cases_eq i d) [
            | inl e ↦ ap (λ y. get_or (set tails' d v) y 0) e ∙ get_or-set_same tails' d v 0 in_tails
            | inr ne ↦ get_or-set_other tails' d i v 0 ne ∙ h.placed.tail_here i a (omega arith)
          ];
          twin_here = λ i a b. elim (cases_eq i d) [
            | inl e ↦ (let same = ap (λ y. get_or (set twins' d older) y 0) e ∙ get_or-set_same twins' d older 0 in_twins in let low = h.unset u 0 u_in in omega arith)
            | inr ne ↦ (let same = get_or-set_other twins' d i older 0 ne in let low = h.placed.twin_here i a (omega arith) in omega arith)
          ];
        };
        unset = All-set (λ m. 16777216 ≤ m) newest u place (omega arith) h.unset;
        met = λ i a b. elim (cases_eq i d) [
          | inl e ↦ (let same = ap (λ y. get_or (set newest u place) (get_or entries y 0) 0) e ∙ get_or-set_same newest u place 0 u_in in omega arith)
          | inr ne ↦ still newest u place (get_or entries i 0) (16777217 + start) u_in (omega arith) (h.met i a (omega arith))
        ];
        own = still newest u place v (16777217 + start) u_in (omega arith) h.own;
      }

-- two darts of which each leads to the tail of the other are written as twins
pub AreMutual-pair : (entries tails tails' twins : List ℕ) (n d e : ℕ) → AreMutual entries tails twins n → ((i : ℕ) → get_or tails' i 0 ≡ get_or tails i 0) → d < n → e < n → d ≢ e → d < length twins → e < length twins → get_or entries e 0 ≡ get_or tails d 0 → get_or entries d 0 ≡ get_or tails e 0 → AreMutual entries tails' (set (set twins d e) e d) n
AreMutual-pair entries tails tails' twins n d e h same d_in e_in ne in_list in_list' one other = λ x l known.
    let twins' = set (set twins d e) e d in
    let at_e : get_or twins' e 0 ≡ d = get_or-set_same (set twins d e) e d 0 (omega (arith, length-set twins d e)) in
    let at_d : get_or twins' d 0 ≡ e = get_or-set_other (set twins d e) e d d 0 ne ∙ get_or-set_same twins d e 0 in_list in
    elim (cases_eq x e) [
      | inl q ↦
          subst (λ y. (get_or twins' y 0 < n) × (get_or entries (get_or twins' y 0) 0 ≡ get_or tails' y 0) × (get_or tails' (get_or twins' y 0) 0 ≡ get_or entries y 0)) (sym q)
          (rw at_e (d_in, other ∙ sym (same e), same d ∙ sym one))
      | inr q ↦ elim (cases_eq x d) [
        | inl p ↦
            subst (λ y. (get_or twins' y 0 < n) × (get_or entries (get_or twins' y 0) 0 ≡ get_or tails' y 0) × (get_or tails' (get_or twins' y 0) 0 ≡ get_or entries y 0)) (sym p)
            (rw at_d (e_in, one ∙ sym (same d), same e ∙ sym other))
        | inr p ↦
            let as_before : get_or twins' x 0 ≡ get_or twins x 0 = get_or-set_other (set twins d e) e x d 0 q ∙ get_or-set_other twins d x e 0 p in
            let before = h x l (omega arith) in
            rw as_before (before.0, before.1 ∙ sym (same x), same (get_or twins x 0) ∙ before.2)
      ]
    ]

-- entries that are what a function says, and one more
pub written_more : (xs : List ℕ) (f : ℕ → ℕ) (d x : ℕ) → d < length xs → x ≡ f d → ((i : ℕ) → i < d → get_or xs i 0 ≡ f i) → (i : ℕ) → i < d + 1 → get_or (set xs d x) i 0 ≡ f i
written_more xs f d x l e h i m =
    elim (cases_eq i d) [
      | inl q ↦ ap (λ y. get_or (set xs d x) y 0) q ∙ (get_or-set_same xs d x 0 l ∙ (e ∙ ap f (sym q)))
      | inr ne ↦ get_or-set_other xs d i x 0 ne ∙ h i (omega arith)
    ]
