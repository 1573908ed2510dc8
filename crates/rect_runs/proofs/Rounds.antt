-- Entries that may follow one another stand once round.
use Rattle.std.proofs.Common.{◌≡◌, ℕ, zero, suc, ◌<◌, List, [], ◌∷◌, ◌++◌, length, replicate, get_or, sym, ap, ◌∙◌, inl, inr, arith, length-append, length-take, length-drop}
use Rattle.rect_runs.specs.Corners.{End, run_in, rise_out, run_out, rise_in, next}
use Rattle.rect_runs.specs.Rounds.{MayFollow, OnceRound, from_place}

-- each entry behind x may follow the one before it, and the last is an entering run
abbrev IsChain : End → List End → Type 0
IsChain x [] = x ≡ run_in
IsChain x (y ∷ ys) = MayFollow x y × IsChain y ys

IsChain-from : (x : End) (ys : List End) (last : ℕ) → length ys ≡ last → get_or (x ∷ ys) last rise_out ≡ run_in → ((i : ℕ) → i < last → MayFollow (get_or (x ∷ ys) i run_in) (get_or (x ∷ ys) (suc i) run_in)) → IsChain x ys
IsChain-from x [] zero e end h = end
IsChain-from x [] (suc m) e end h = absurd (omega (arith, e))
IsChain-from x (y ∷ ys) zero e end h = absurd (omega (arith, e))
IsChain-from x (y ∷ ys) (suc m) e end h = (h 0 (omega arith), IsChain-from y ys m (omega (arith, e)) end (λ i l. h (suc i) (omega arith)))

-- entering runs alone
runs_in : (x : End) (ys : List End) → x ≡ run_in → IsChain x ys → (d : ℕ) × (x ∷ ys ≡ replicate (suc d) run_in)
runs_in x [] e c = (0, ap (λ z. z ∷ []) e)
runs_in x (y ∷ ys) e (m, c) = elim m.follows [
  | inl s ↦
      let r = runs_in y ys (sym s ∙ e) c in
      (suc r.0, ap (λ z. z ∷ y ∷ ys) e ∙ ap (λ zs. run_in ∷ zs) r.1)
  | inr s ↦ elim m.inside [ inl n ↦ absurd (n e) | inr n ↦ absurd (n (sym s ∙ ap next e)) ]
]

-- entering rises, and then those
rises_in : (x : End) (ys : List End) → x ≡ rise_in → IsChain x ys → (c : ℕ) × (d : ℕ) × (x ∷ ys ≡ replicate (suc c) rise_in ++ replicate (suc d) run_in)
rises_in x [] e c = absurd (let z : rise_in ≡ run_in = sym e ∙ c in cc)
rises_in x (y ∷ ys) e (m, c) = elim m.follows [
  | inl s ↦
      let r = rises_in y ys (sym s ∙ e) c in
      (suc r.0, r.1, ap (λ z. z ∷ y ∷ ys) e ∙ ap (λ zs. rise_in ∷ zs) r.2)
  | inr s ↦
      let r = runs_in y ys (sym s ∙ ap next e) c in
      (0, r.0, ap (λ z. z ∷ y ∷ ys) e ∙ ap (λ zs. rise_in ∷ zs) r.1)
]

-- leaving runs, and then those
runs_out : (x : End) (ys : List End) → x ≡ run_out → IsChain x ys → (b : ℕ) × (c : ℕ) × (d : ℕ) × (x ∷ ys ≡ replicate (suc b) run_out ++ (replicate (suc c) rise_in ++ replicate (suc d) run_in))
runs_out x [] e c = absurd (let z : run_out ≡ run_in = sym e ∙ c in cc)
runs_out x (y ∷ ys) e (m, c) = elim m.follows [
  | inl s ↦
      let r = runs_out y ys (sym s ∙ e) c in
      (suc r.0, r.1, r.2, ap (λ z. z ∷ y ∷ ys) e ∙ ap (λ zs. run_out ∷ zs) r.3)
  | inr s ↦
      let r = rises_in y ys (sym s ∙ ap next e) c in
      (0, r.0, r.1, ap (λ z. z ∷ y ∷ ys) e ∙ ap (λ zs. run_out ∷ zs) r.2)
]

-- leaving rises, and then those
rises_out : (x : End) (ys : List End) → x ≡ rise_out → IsChain x ys → (a : ℕ) × (b : ℕ) × (c : ℕ) × (d : ℕ) × (x ∷ ys ≡ replicate (suc a) rise_out ++ (replicate (suc b) run_out ++ (replicate (suc c) rise_in ++ replicate (suc d) run_in)))
rises_out x [] e c = absurd (let z : rise_out ≡ run_in = sym e ∙ c in cc)
rises_out x (y ∷ ys) e (m, c) = elim m.follows [
  | inl s ↦
      let r = rises_out y ys (sym s ∙ e) c in
      (suc r.0, r.1, r.2, r.3, ap (λ z. z ∷ y ∷ ys) e ∙ ap (λ zs. rise_out ∷ zs) r.4)
  | inr s ↦
      let r = runs_out y ys (sym s ∙ ap next e) c in
      (0, r.0, r.1, r.2, ap (λ z. z ∷ y ∷ ys) e ∙ ap (λ zs. rise_out ∷ zs) r.3)
]

from_list : (xs : List End) (last : ℕ) → suc last ≡ length xs → get_or xs 0 run_in ≡ rise_out → get_or xs last rise_out ≡ run_in → ((i : ℕ) → suc i < length xs → MayFollow (get_or xs i run_in) (get_or xs (suc i) run_in)) → (a : ℕ) × (b : ℕ) × (c : ℕ) × (d : ℕ) × (xs ≡ replicate (suc a) rise_out ++ (replicate (suc b) run_out ++ (replicate (suc c) rise_in ++ replicate (suc d) run_in)))
from_list [] last e first end h = absurd (omega (arith, e))
from_list (x ∷ ys) last e first end h = rises_out x ys first (IsChain-from x ys last (omega (arith, e)) end (λ i l. h i (omega (arith, l, e))))

pub once_round : OnceRound
once_round ends start last l first size end h =
    let all : length (from_place ends start) ≡ length ends = simp (length-append, length-drop, length-take) (omega arith) in
    let r = from_list (from_place ends start) last (size ∙ sym all) first end (λ i b. h i (omega (arith, b, all))) in
    record {
      start = start;
      within = l;
      rises_out = r.0;
      runs_out = r.1;
      rises_in = r.2;
      runs_in = r.3;
      order = r.4;
    }
