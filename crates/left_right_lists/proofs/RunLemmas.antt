-- Runs of a list of edges, and its lower ends from the last to the first.
use Rattle.std.proofs.Common.{◌≡◌, ℕ, suc, ◌+◌, ◌-◌, ◌<◌, ◌≤◌, Bool, true, false, not, eqb, List, [], ◌∷◌, ◌++◌, length, get_or, take, drop, refl, sym, ap, ap₂, ◌∙◌, arith}
use Rattle.std.specs.Bool.{beq}
use Rattle.std.proofs.lemmas.Bool.{cond-true, true≢false}
use Rattle.std.proofs.lemmas.List.{append_assoc, get_or-drop, length-drop, take_rest, drop_more}
use Rattle.std.proofs.Math.Seq.{take-suc}
use Rattle.map_theory.specs.Maps.{Dart}
use Rattle.left_right_lists.specs.Blocks.{lead, trail, uppers, lefts, rights, IsRun}

-- a test that is as it should be
pub same_true : (a ends : Bool) → not (beq a ends) ≡ false → ends ≡ true → a ≡ true
same_true true ends e t = refl
same_true false true e t = absurd (true≢false e)
same_true false false e t = absurd (true≢false (sym t))

pub same_false : (a ends : Bool) → not (beq a ends) ≡ false → ends ≡ false → not a ≡ true
same_false false ends e f = refl
same_false true false e f = absurd (true≢false e)
same_false true true e f = absurd (true≢false f)

-- those from a place on, as far as i, pass
pub record IsRunTo (p : Dart → Bool) (ds : List Dart) (from i : ℕ) : Type 0 where
  pub after : from ≤ i
  pub led : lead p (drop from ds) ≡ take (i - from) (drop from ds) ++ lead p (drop i ds)
  pub left : trail p (drop from ds) ≡ trail p (drop i ds)

pub run_more : (p : Dart → Bool) (ds : List Dart) (from i : ℕ) (z : Dart) → i < length ds → p (get_or ds i z) ≡ true → IsRunTo p ds from i → IsRunTo p ds from (i + 1)
run_more p ds from i z l t h =
    let after = h.after in
    let d : Dart = get_or ds i z in
    let long = length-drop from ds in
    let e : suc (i - from) ≡ i + 1 - from = omega (arith, after) in
    let k : from + (i - from) ≡ i = omega (arith, after) in
    let at : get_or (drop from ds) (i - from) z ≡ d = get_or-drop from ds (i - from) z ∙ ap (λ j. get_or ds j z) k in
    let step : take (i + 1 - from) (drop from ds) ≡ take (i - from) (drop from ds) ++ d ∷ [] = ap (λ j. take j (drop from ds)) (sym e) ∙ (take-suc (drop from ds) (i - from) z (omega (arith, after, l, long)) ∙ ap (λ y. take (i - from) (drop from ds) ++ y ∷ []) at) in
    let rest = drop_more ds i z l in
    record {
      after = omega (arith, after);
      led = h.led ∙ (ap (λ xs. take (i - from) (drop from ds) ++ lead p xs) rest ∙ (ap (λ xs. take (i - from) (drop from ds) ++ xs) (cond-true {A = List Dart} (p d) (d ∷ lead p (drop (i + 1) ds)) [] t) ∙ (sym (append_assoc (take (i - from) (drop from ds)) (d ∷ []) (lead p (drop (i + 1) ds))) ∙ ap (λ xs. xs ++ lead p (drop (i + 1) ds)) (sym step))));
      left = h.left ∙ (ap (trail p) rest ∙ cond-true {A = List Dart} (p d) (trail p (drop (i + 1) ds)) (d ∷ drop (i + 1) ds) t);
    }

-- ---- what stands for a child, by two runs
module _ (ds : List Dart) (v first last : ℕ) (one : IsRun (λ d. eqb d.1 v) ds 0 first) (other : IsRun (λ d. not (eqb d.1 v)) ds first last) where
  pub lefts_is : take first ds ≡ lefts v ds
  lefts_is =
      let e : first ≡ first - 0 = omega arith in
      ap (λ j. take j ds) e ∙ one.0

  pub rights_is : drop last ds ≡ rights v ds
  rights_is = other.1 ∙ ap (trail (λ d. not (eqb d.1 v))) one.1

  pub block_is : (old now next new : List ℕ) (u : ℕ) → now ≡ old ++ uppers (take first ds) → next ≡ now ++ u ∷ [] → new ≡ next ++ uppers (take (length ds - last) (drop last ds)) → new ≡ old ++ (uppers (lefts v ds) ++ u ∷ uppers (rights v ds))
  block_is old now next new u a b c =
      let left = uppers (lefts v ds) in
      let right = uppers (rights v ds) in
      let before : next ≡ old ++ left ++ u ∷ [] = b ∙ ap (λ xs. xs ++ u ∷ []) (a ∙ ap (λ xs. old ++ uppers xs) lefts_is) in
      c ∙ (ap₂ (λ (xs : List ℕ) (ys : List Dart). xs ++ uppers ys) before (take_rest ds last ∙ rights_is) ∙ (append_assoc (old ++ left) (u ∷ []) right ∙ append_assoc old left (u ∷ right)))
