-- Orders that grow by a vertex.
use Rattle.std.proofs.Common.{◌≡◌, ◌≢◌, ℕ, suc, ◌<◌, ◌≤◌, cond, eqb, List, [], ◌∷◌, ◌++◌, length, take, get_or, AllPairs, Contains, sym, ap, ◌∙◌, subst, inl, inr, arith, eq-eqb, ne_eqb}
use Rattle.std.proofs.lemmas.Bool.{cases_eq, cond-true, cond-false}
use Rattle.std.proofs.lemmas.List.{take-append-le, length-append, get_or_append_left}
use Rattle.std.proofs.Math.Seq.{take-length, get_or-append_seam}
use Rattle.map_lists.specs.Lists.{Lists}
use Rattle.map_theory.proofs.EntryLemmas.{AllPairs-append}
use Rattle.plane_peeling.specs.Restricted.{restricted, IsFaceOfThree, IsDartOfThree}
use Rattle.plane_peeling.specs.NearTriangulations.{IsOuterCycle}
use Rattle.plane_peeling.proofs.Rings.{each_of_one}
use Rattle.canon_order.specs.Orders.{stands_in, IsPutOn, IsBuiltUp, IsMade}

-- equations carried through the definitions
pub IsPutOn-same : (lists : Lists) (us us' : List ℕ) (v v' : ℕ) (old old' new new' : List ℕ) → us ≡ us' → v ≡ v' → old ≡ old' → new ≡ new' → IsPutOn lists us v old new → IsPutOn lists us' v' old' new'
IsPutOn-same lists us us' v v' old old' new new' e e' o n h = subst (λ z. IsPutOn lists us' v' old' z) n (subst (λ z. IsPutOn lists us' v' z new) o (subst (λ z. IsPutOn lists us' z old new) e' (subst (λ z. IsPutOn lists z v old new) e h)))

pub IsOuterCycle-same : (lists : Lists) (s t : ℕ) (us us' ws ws' : List ℕ) → us ≡ us' → ws ≡ ws' → IsOuterCycle (restricted (stands_in us) lists) s t ws → IsOuterCycle (restricted (stands_in us') lists) s t ws'
IsOuterCycle-same lists s t us us' ws ws' e o h = subst (λ z. IsOuterCycle (restricted (stands_in us') lists) s t z) o (subst (λ z. IsOuterCycle (restricted (stands_in z) lists) s t ws) e h)

-- one vertex alone
pub AllPairs-one : (v : ℕ) → AllPairs ◌≢◌ (v ∷ [])
AllPairs-one v = λ i j d l m. absurd (omega arith)

-- the cycles with one more on top
abbrev pub topped : (ℕ → List ℕ) → ℕ → List ℕ → ℕ → List ℕ
topped cycle n ws k = cond (eqb k n) ws (cycle k)

pub topped-new : (cycle : ℕ → List ℕ) (n : ℕ) (ws : List ℕ) (k : ℕ) → k ≡ n → topped cycle n ws k ≡ ws
topped-new cycle n ws k e = cond-true (eqb k n) ws (cycle k) (eq-eqb k n e)

pub topped-old : (cycle : ℕ → List ℕ) (n : ℕ) (ws : List ℕ) (k : ℕ) → k ≢ n → topped cycle n ws k ≡ cycle k
topped-old cycle n ws k ne = cond-false (eqb k n) ws (cycle k) (ne_eqb k n ne)

-- the vertices of the base alone
pub IsBuiltUp-base : (lists : Lists) (s t : ℕ) → s ≢ t → IsBuiltUp lists s t (s ∷ t ∷ []) (λ k. s ∷ t ∷ [])
IsBuiltUp-base lists s t ne = grind (arith, AllPairs-append, AllPairs-one, each_of_one, Contains)

module _ (lists : Lists) (s t : ℕ) (us : List ℕ) (cycle : ℕ → List ℕ) (v : ℕ) (ws : List ℕ) where
  abbrev grown : List ℕ
  grown = us ++ v ∷ []

  abbrev cycles : ℕ → List ℕ
  cycles = topped cycle (suc (length us)) ws

  length-grown : length grown ≡ suc (length us)
  length-grown = omega (arith, length-append us (v ∷ []))

  take_all : (k : ℕ) → k ≡ suc (length us) → take k grown ≡ grown
  take_all k e = ap (λ n. take n grown) (e ∙ sym length-grown) ∙ take-length grown

  -- a vertex more is put on
  pub IsBuiltUp-more : IsBuiltUp lists s t us cycle → 2 ≤ length us → ¬ Contains us v → IsOuterCycle (restricted (stands_in grown) lists) s t ws → IsPutOn lists grown v (cycle (length us)) ws → IsBuiltUp lists s t grown cycles
  IsBuiltUp-more h some new outer put =
      let len = length-grown in
      record {
        once = AllPairs-append us (v ∷ []) h.once (AllPairs-one v) (λ u c c'. each_of_one (λ z. ¬ Contains us z) v new u c' c);
        first = get_or_append_left us (v ∷ []) 0 0 (omega arith) ∙ h.first;
        second = get_or_append_left us (v ∷ []) 0 1 (omega arith) ∙ h.second;
        begin = topped-old cycle (suc (length us)) ws 2 (omega arith) ∙ h.begin;
        outer = λ k l m. elim (cases_eq k (suc (length us))) [
          | inl e ↦ IsOuterCycle-same lists s t grown (take k grown) ws (cycles k) (sym (take_all k e)) (sym (topped-new cycle (suc (length us)) ws k e)) outer
          | inr ne ↦
              IsOuterCycle-same lists s t (take k us) (take k grown) (cycle k) (cycles k) (sym (take-append-le k us (v ∷ []) (omega arith))) (sym (topped-old cycle (suc (length us)) ws k ne)) (h.outer k l (omega arith))
        ];
        put = λ k l m. elim (cases_eq k (length us)) [
          | inl e ↦
              IsPutOn-same lists grown (take (suc k) grown) v (get_or grown k 0) (cycle (length us)) (cycles k) ws (cycles (suc k))
              (sym (take_all (suc k) (ap suc e))) (sym (ap (λ n. get_or grown n 0) e ∙ get_or-append_seam us v [] 0))
              (sym (topped-old cycle (suc (length us)) ws k (omega arith) ∙ ap cycle e)) (sym (topped-new cycle (suc (length us)) ws (suc k) (ap suc e))) put
          | inr ne ↦
              IsPutOn-same lists (take (suc k) us) (take (suc k) grown) (get_or us k 0) (get_or grown k 0) (cycle k) (cycles k) (cycle (suc k)) (cycles (suc k))
              (sym (take-append-le (suc k) us (v ∷ []) (omega arith))) (sym (get_or_append_left us (v ∷ []) 0 k (omega arith)))
              (sym (topped-old cycle (suc (length us)) ws k (omega arith))) (sym (topped-old cycle (suc (length us)) ws (suc k) (omega arith))) (h.put k l (omega arith))
        ];
      }

  -- faces that were made stay
  pub IsMade-old : (x y : ℕ) → IsMade lists us cycle x y → IsMade lists grown cycles x y
  IsMade-old x y m = grind (arith, cycles, topped-old, length, length-grown, get_or_append_left, get_or)

  -- and those of the new vertex are made
  pub IsMade-new : 2 ≤ length us → (x y i a b : ℕ) → suc i < length (cycle (length us)) → get_or (cycle (length us)) i 0 ≡ a → get_or (cycle (length us)) (suc i) 0 ≡ b → IsFaceOfThree lists v a b → IsDartOfThree v a b x y → IsMade lists grown cycles x y
  IsMade-new some x y i a b inside one next face dart =
      let e : cycles (length us) ≡ cycle (length us) = topped-old cycle (suc (length us)) ws (length us) (omega arith) in
      record {
        k = length us;
        i = i;
        v = v;
        a = a;
        b = b;
        later = some;
        within = omega (arith, length-grown);
        vertex = get_or-append_seam us v [] 0;
        inside = subst (λ z. suc i < length z) (sym e) inside;
        one = ap (λ z. get_or z i 0) e ∙ one;
        next = ap (λ z. get_or z (suc i) 0) e ∙ next;
        face = face;
        dart = dart;
      }
