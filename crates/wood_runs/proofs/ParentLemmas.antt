-- The parents of a vertex.
use Rattle.std.proofs.Common.{◌≡◌, ◌≢◌, ℕ, zero, suc, ◌+◌, ◌-◌, ◌<◌, ◌≤◌, refl, sym, ap, ◌∙◌, subst, inl, inr, arith}
use Rattle.std.proofs.lemmas.Bool.{cases_eq}
use Rattle.contour_runs.specs.Runs.{Step, Stage, stage_after, IsRun}
use Rattle.contour_runs.specs.Laws.{IsStage, IsCoveredOnce}
use Rattle.contour_runs.proofs.Places.{vertex_after-new}
use Rattle.contour_runs.proofs.Stages.{IsStage-run, IsRun-less, count-stage_after, covered_once, IsCovered-own}
use Rattle.wood_runs.specs.Parents.{Colour, one, two, three, IsParent, IsParentOne, IsParentTwo, IsParentThree}

-- just one vertex is the parent of this colour
pub record HasOneParent (c : Colour) (steps : ℕ → Step) (n v : ℕ) : Type 0 where
  pub parent : ℕ
  pub is_parent : IsParent c steps n v parent
  pub alone : (w : ℕ) → IsParent c steps n v w → w ≡ parent

-- Parents of colours one and two were put earlier, and that of colour three later: so parents of one colour never lead back.
pub record LeadsAway (c : Colour) (v w : ℕ) : Type 0 where
  pub one_is_earlier : c ≡ one → w < v
  pub two_is_earlier : c ≡ two → w < v
  pub three_is_later : c ≡ three → v < w

-- A parent of one colour is not the root of another: the vertices 0 and 1 and the last one, n + 1, are the roots of the colours one, two and three.
pub record IsOwnRoot (c : Colour) (n w : ℕ) : Type 0 where
  pub root_one : w ≡ 0 → c ≡ one
  pub root_two : w ≡ 1 → c ≡ two
  pub root_three : w ≡ suc n → c ≡ three

one≢three : one ≢ three
one≢three e = cc

two≢three : two ≢ three
two≢three e = cc

module _ (steps : ℕ → Step) where
  abbrev at : ℕ → Stage
  at k = stage_after steps k

  -- a step more changes no parent
  pub IsParent-more : (c : Colour) (m n v w : ℕ) → m ≤ n → IsParent c steps m v w → IsParent c steps n v w
  IsParent-more one m n v w l p = let e = p.earlier in record { step = p.step; earlier = omega arith; vertex = p.vertex; parent = p.parent }
  IsParent-more two m n v w l p = let e = p.earlier in record { step = p.step; earlier = omega arith; vertex = p.vertex; parent = p.parent }
  IsParent-more three m n v w l p = let e = p.earlier in record { step = p.step; earlier = omega arith; covered = p.covered; parent = p.parent }

  module _ (n : ℕ) (run : IsRun steps n) where
    sound : (k : ℕ) → k ≤ n → IsStage (at k)
    sound k l = IsStage-run steps k (IsRun-less steps k n l run)

    same_place : (k : ℕ) → k ≤ n → (i j : ℕ) → i < (at k).width → j < (at k).width → (at k).vertex i ≡ (at k).vertex j → i ≡ j
    same_place k l i j a b e = sym ((sound k l).own i a) ∙ ap (at k).place e ∙ (sound k l).own j b

    -- what stands at a place other than the first is not vertex 0, and other than the last not vertex 1
    not_first : (k i : ℕ) → k ≤ n → 0 < i → i < (at k).width → (at k).vertex i ≢ 0
    not_first k i l some m e = let same = same_place k l i 0 m (omega arith) (e ∙ sym (sound k l).begin) in absurd (omega arith)

    not_second : (k i : ℕ) → k ≤ n → suc i < (at k).width → (at k).vertex i ≢ 1
    not_second k i l m e =
        let end : ℕ = (at k).width - 1 in
        absurd (omega (arith, same_place k l i end (omega arith) (omega arith) (e ∙ sym ((sound k l).end end (omega arith)))))

    -- parents of colours one and two are earlier ones
    one_earlier : (v w : ℕ) → IsParentOne steps n v w → w < v
    one_earlier v w p = grind (arith, sound, count-stage_after)

    two_earlier : (v w : ℕ) → IsParentTwo steps n v w → w < v
    two_earlier v w p =
        let i = (run p.step p.earlier).within in
        omega (arith, (sound p.step (omega arith)).placed (steps p.step).last i, p.parent, p.vertex, count-stage_after steps p.step)

    three_later : (v w : ℕ) → IsParentThree steps n v w → v < w
    three_later v w p = let own = IsCovered-own steps p.step n v run p.earlier p.covered in omega (arith, own.0, p.parent)

    pub leads_away : (v w : ℕ) (c : Colour) → IsParent c steps n v w → LeadsAway c v w
    leads_away v w one p = record { one_is_earlier = λ e. one_earlier v w p; two_is_earlier = λ e. one_earlier v w p; three_is_later = λ e. absurd (one≢three e) }
    leads_away v w two p = record { one_is_earlier = λ e. two_earlier v w p; two_is_earlier = λ e. two_earlier v w p; three_is_later = λ e. absurd (two≢three e) }
    leads_away v w three p = record { one_is_earlier = λ e. absurd (one≢three (sym e)); two_is_earlier = λ e. absurd (two≢three (sym e)); three_is_later = λ e. three_later v w p }

    -- roots
    one_not_second : (v w : ℕ) → IsParentOne steps n v w → w ≢ 1
    one_not_second v w p e = grind (arith, not_second)

    two_not_first : (v w : ℕ) → IsParentTwo steps n v w → w ≢ 0
    two_not_first v w p e =
        let o = (run p.step p.earlier).order in
        not_first p.step (steps p.step).last (omega arith) (omega arith) ((run p.step p.earlier).within) (p.parent ∙ e)

    pub own_root : (v w : ℕ) (c : Colour) → IsParent c steps n v w → IsOwnRoot c n w
    own_root v w one p =
        record { root_one = λ z. refl; root_two = λ z. absurd (one_not_second v w p z); root_three = λ z. absurd (omega (arith, one_earlier v w p)) }
    own_root v w two p =
        record { root_one = λ z. absurd (two_not_first v w p z); root_two = λ z. refl; root_three = λ z. absurd (omega (arith, two_earlier v w p)) }
    own_root v w three p = let e = p.parent in record { root_one = λ z. absurd (omega arith); root_two = λ z. absurd (omega arith); root_three = λ z. refl }

    -- parents differ
    one_two : (v u w : ℕ) → IsParentOne steps n v u → IsParentTwo steps n v w → u ≢ w
    one_two v u w p q e = grind (arith, at, same_place)

    pub differ : (v u w : ℕ) (c d : Colour) → c ≢ d → IsParent c steps n v u → IsParent d steps n v w → u ≢ w
    differ v u w one one ne p q e = ne refl
    differ v u w one two ne p q e = one_two v u w p q e
    differ v u w one three ne p q e = omega (arith, one_earlier v u p, three_later v w q)
    differ v u w two one ne p q e = one_two v w u q p (sym e)
    differ v u w two two ne p q e = ne refl
    differ v u w two three ne p q e = omega (arith, two_earlier v u p, three_later v w q)
    differ v u w three one ne p q e = omega (arith, three_later v u p, one_earlier v w q)
    differ v u w three two ne p q e = omega (arith, three_later v u p, two_earlier v w q)
    differ v u w three three ne p q e = ne refl

    -- in the end any vertex but the roots is covered
    module _ (whole : (at n).width ≡ 3) (v : ℕ) (some : 2 ≤ v) (inner : v < suc n) where
      top_is : (m : ℕ) → m ≡ n → (at m).vertex 1 ≡ suc m
      top_is zero e = absurd (omega arith)
      top_is (suc m) e =
          let step = run m (omega arith) in
          let o = step.order in
          let i = step.within in
          let w : (at (suc m)).width ≡ 3 = ap (λ k. (at k).width) e ∙ whole in
          vertex_after-new (at m) (steps m) 1 (omega (arith, w)) ∙ count-stage_after steps m ∙ omega arith

      not_standing : (at n).vertex ((at n).place v) ≢ v
      not_standing e =
          let stage = sound n (omega arith) in
          let within = stage.within v (omega (arith, count-stage_after steps n)) in
          let end = stage.end 2 (omega arith) in
          elim (cases_eq ((at n).place v) 0) [
            | inl z ↦ omega (arith, e, ap (at n).vertex z, stage.begin)
            | inr nz ↦ elim (cases_eq ((at n).place v) 1) [
              | inl z ↦ omega (arith, e, ap (at n).vertex z, top_is n refl)
              | inr nz' ↦ let z : (at n).place v ≡ 2 = omega arith in omega (arith, e, ap (at n).vertex z, end)
            ]
          ]

      covered : IsCoveredOnce steps n v
      covered = elim (covered_once steps n v run (omega arith)) [ inl h ↦ absurd (not_standing h.0) | inr h ↦ h ]

      pub three_parents : (c : Colour) → HasOneParent c steps n v
      three_parents one =
          let k : ℕ = v - 2 in
          record {
            parent = (at k).vertex (steps k).first;
            is_parent = record { step = k; earlier = omega arith; vertex = omega arith; parent = refl };
            alone = λ w p. let e : p.step ≡ k = omega (arith, p.vertex) in sym p.parent ∙ ap (λ k. (at k).vertex (steps k).first) e;
          }
      three_parents two =
          let k : ℕ = v - 2 in
          record {
            parent = (at k).vertex (steps k).last;
            is_parent = record { step = k; earlier = omega arith; vertex = omega arith; parent = refl };
            alone = λ w p. let e : p.step ≡ k = omega (arith, p.vertex) in sym p.parent ∙ ap (λ k. (at k).vertex (steps k).last) e;
          }
      three_parents three =
          let h = covered in
          record {
            parent = h.step + 2;
            is_parent = record { step = h.step; earlier = h.earlier; covered = h.covered; parent = refl };
            alone = λ w p. let e = h.alone p.step p.earlier p.covered in omega (arith, p.parent);
          }
