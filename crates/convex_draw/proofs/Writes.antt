-- Writing what is kept of vertices.
use Rattle.std.proofs.Common.{◌≡◌, ◌≢◌, ℕ, suc, ◌+◌, ◌-◌, ◌<◌, ◌≤◌, List, length, get_or, set, AllPairs, refl, sym, ap, ◌∙◌, inl, inr, arith}
use Rattle.std.proofs.lemmas.Bool.{cases_eq}
use Rattle.std.proofs.lemmas.List.{get_or-set_same, get_or-set_other}
use Rattle.convex_draw.specs.declared.convex_points.spots.Spot.{Spot}
use Rattle.convex_draw.specs.Spots.{spot_of, AreLinked, settled, Setting, AreSettled, settled_at}

abbrev pub none : Spot
none = record { one = 0; two = 0; over = 0 }

pub spot_of-set_same : (spots : List Spot) (u : ℕ) (x : Spot) → u < length spots → spot_of (set spots u x) u ≡ x
spot_of-set_same spots u x l = get_or-set_same spots u x none l

pub spot_of-set_other : (spots : List Spot) (u v : ℕ) (x : Spot) → v ≢ u → spot_of (set spots u x) v ≡ spot_of spots v
spot_of-set_other spots u v x ne = get_or-set_other spots u v x none ne

-- one link more
pub AreLinked-more :
    (us : List ℕ) (j : ℕ) (old now : List Spot) → AreLinked us j old now → 0 < j → j < length us → get_or us j 0 < length now → AllPairs ◌≢◌ us → AreLinked us (j + 1) old (set now (get_or us j 0) (record { one = 0; two = 0; over = get_or us (j - 1) 0 }))
AreLinked-more us j old now h some l m distinct =
    let x : Spot = record { one = 0; two = 0; over = get_or us (j - 1) 0 } in
    record {
      linked = λ i k. elim (cases_eq (suc i) j) [
        | inl e ↦
            let d : i ≡ j - 1 = omega arith in
            ap (λ v. spot_of (set now (get_or us j 0) x) (get_or us v 0)) e ∙ spot_of-set_same now (get_or us j 0) x m ∙ ap (λ v. record { one = 0; two = 0; over = get_or us v 0 }) (sym d)
        | inr ne ↦ spot_of-set_other now (get_or us j 0) (get_or us (suc i) 0) x (λ e. distinct (suc i) j 0 (omega arith) l e) ∙ h.linked i (omega arith)
      ];
      others = λ u away.
          let d : suc (j - 1) ≡ j = omega arith in
          spot_of-set_other now (get_or us j 0) u x (λ e. away (j - 1) (omega arith) (ap (λ v. get_or us v 0) d ∙ sym e)) ∙ h.others u (λ i k. away i (omega arith));
    }

-- equal numbers settle alike
pub settled-same : (n a b c p z q a' b' c' p' q' : ℕ) → a ≡ a' → b ≡ b' → c ≡ c' → p ≡ p' → q ≡ q' → settled n a b c p z q ≡ settled n a' b' c' p' z q'
settled-same n a b c p z q a' b' c' p' q' e f h i j =
    ap (λ x. settled n x b c p z q) e ∙ ap (λ x. settled n a' x c p z q) f ∙ ap (λ x. settled n a' b' x p z q) h ∙ ap (λ x. settled n a' b' c' x z q) i ∙ ap (λ x. settled n a' b' c' p' z x) j

-- one settled vertex more
pub AreSettled-more :
    (w : Setting) (m : ℕ) (old now : List Spot) (x : Spot) (u : ℕ) → AreSettled w m old now → u ≡ w.name (w.stage.vertex m) → u < length now → w.step.first < m → ((i : ℕ) → i < m → w.name (w.stage.vertex i) ≢ u) → x ≡ settled_at w m
    → AreSettled w (suc m) old (set now u x)
AreSettled-more w m old now x u h e l some apart is = record {
  passed = λ i a b. elim (cases_eq i m) [
    | inl same ↦ ap (λ i. spot_of (set now u x) (w.name (w.stage.vertex i))) same ∙ ap (spot_of (set now u x)) (sym e) ∙ spot_of-set_same now u x l ∙ is ∙ ap (settled_at w) (sym same)
    | inr ne ↦ spot_of-set_other now u (w.name (w.stage.vertex i)) x (apart i (omega arith)) ∙ h.passed i a (omega arith)
  ];
  others = λ v away. spot_of-set_other now u v x (λ f. away m some (omega arith) (sym e ∙ sym f)) ∙ h.others v (λ i a b. away i a (omega arith));
}

pub AreSettled-none : (w : Setting) (m : ℕ) (spots : List Spot) → m ≤ suc w.step.first → AreSettled w m spots spots
AreSettled-none w m spots l = record { passed = λ i a b. absurd (omega arith); others = λ u away. refl }
