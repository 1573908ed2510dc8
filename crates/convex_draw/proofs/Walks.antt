-- Adding up along the last contour.
use Rattle.std.proofs.Common.{◌≡◌, ℕ, suc, ◌+◌, ◌-◌, ◌<◌, ◌≤◌, List, length, set, sym, ap, ◌∙◌, subst, inl, inr, arith}
use Rattle.std.proofs.lemmas.Bool.{cases_eq}
use Rattle.contour_runs.specs.Runs.{Stage}
use Rattle.contour_runs.specs.Wood.{Coordinates}
use Rattle.convex_draw.specs.declared.convex_points.spots.Spot.{Spot}
use Rattle.convex_draw.specs.Spots.{spot_of}
use Rattle.convex_draw.specs.Sums.{IsLast, AreWalked}
use Rattle.convex_draw.proofs.Writes.{spot_of-set_same, spot_of-set_other}

-- The walk has come to place p, where u stands at x and y; behind it all is done.
pub record IsWalking (g : Stage) (at : Coordinates) (name : ℕ → ℕ) (p x y u : ℕ) (old now : List Spot) : Type 0 where
  pub within : p < g.width
  pub one : x ≡ at.one (g.vertex p)
  pub two : y ≡ at.two (g.vertex p)
  pub here : u ≡ name (g.vertex p)
  pub behind : AreWalked g at name (suc p) old now

module _ (g : Stage) (at : Coordinates) (name : ℕ → ℕ) (old : List Spot) (s faces width : ℕ) (h : IsLast g at name old s faces width) where
  pub name_in : (i : ℕ) → i < g.width → name (g.vertex i) < length old
  name_in i l = let o = h.stage.placed i l in let c = h.count in h.named.below (g.vertex i) (omega arith)

  apart : (i j : ℕ) → i < g.width → j < g.width → name (g.vertex i) ≡ name (g.vertex j) → i ≡ j
  apart i j l m e =
      let o = h.stage.placed i l in
      let o' = h.stage.placed j m in
      let c = h.count in
      let v = h.named.one (g.vertex i) (g.vertex j) (omega arith) (omega arith) e in
      sym (h.stage.own i l) ∙ ap g.place v ∙ h.stage.own j m

  pub two_wide : 2 ≤ width
  two_wide = let a = h.stage.wide in let b = h.wide in omega arith

  module _ (p x y u : ℕ) (now : List Spot) (k : IsWalking g at name p x y u old now) (same : length now ≡ length old) where
    pub here_in : u < length now
    here_in = let a = name_in p k.within in let b = k.here in omega arith

    -- what is read at u is what was there
    pub unread : spot_of now u ≡ spot_of old u
    unread = k.behind.others u (λ i a b e. let d = apart i p b k.within (e ∙ k.here) in absurd (omega arith))

    -- the place is done
    pub AreWalked-here : (over : ℕ) → AreWalked g at name p old (set now u (record { one = x; two = y; over = over }))
    AreWalked-here over =
        let spot : Spot = record { one = x; two = y; over = over } in
        record {
          done = λ i a b. elim (cases_eq i p) [
            | inl e ↦
                let n : spot_of (set now u spot) (name (g.vertex i)) ≡ spot = ap (spot_of (set now u spot)) (ap (λ i. name (g.vertex i)) e ∙ sym k.here) ∙ spot_of-set_same now u spot here_in in
                record { one = ap (λ (z : Spot). z.one) n ∙ k.one ∙ ap (λ i. at.one (g.vertex i)) (sym e); two = ap (λ (z : Spot). z.two) n ∙ k.two ∙ ap (λ i. at.two (g.vertex i)) (sym e) }
            | inr ne ↦
                let n = spot_of-set_other now u (name (g.vertex i)) spot (λ e. ne (apart i p b k.within (e ∙ k.here))) in
                let d = k.behind.done i (omega arith) b in
                record { one = ap (λ (z : Spot). z.one) n ∙ d.one; two = ap (λ (z : Spot). z.two) n ∙ d.two }
          ];
          others = λ v away. spot_of-set_other now u v spot (λ e. away p (omega arith) k.within (sym (e ∙ k.here))) ∙ k.behind.others v (λ i a b. away i (omega arith) b);
        }

    module _ (p' : ℕ) (e : suc p' ≡ p) where
      fall : (spot_of now u).one + x ≡ at.one (g.vertex p')
      fall =
          let b = k.within in
          let f = h.gaps.fall p' (omega arith) in
          let n : spot_of now u ≡ spot_of old (name (g.vertex (suc p'))) = unread ∙ ap (spot_of old) (k.here ∙ ap (λ i. name (g.vertex i)) (sym e)) in
          omega (arith, f, ap (λ (z : Spot). z.one) n, k.one, ap (λ i. at.one (g.vertex i)) e)

      rise : at.two (g.vertex p') + (spot_of now u).two ≡ y
      rise =
          let b = k.within in
          let f = h.gaps.rise p' (omega arith) in
          let n : spot_of now u ≡ spot_of old (name (g.vertex (suc p'))) = unread ∙ ap (spot_of old) (k.here ∙ ap (λ i. name (g.vertex i)) (sym e)) in
          omega (arith, f, ap (λ (z : Spot). z.two) n, k.two, ap (λ i. at.two (g.vertex i)) e)

      back : (spot_of now u).over ≡ name (g.vertex p')
      back =
          let b = k.within in
          let n : spot_of now u ≡ spot_of old (name (g.vertex (suc p'))) = unread ∙ ap (spot_of old) (k.here ∙ ap (λ i. name (g.vertex i)) (sym e)) in
          ap (λ (z : Spot). z.over) n ∙ h.gaps.back p' (omega arith)

      pub one_small : x + (spot_of now u).one < 1048576
      one_small =
          let b = k.within in
          let f = h.falling.sums (g.vertex p') (h.stage.placed p' (omega arith)) in
          let m = h.few in
          omega (arith, fall)

      pub two_enough : (spot_of now u).two ≤ y
      two_enough = omega (arith, rise)

      pub IsWalking-back : IsWalking g at name p' (x + (spot_of now u).one) (y - (spot_of now u).two) (spot_of now u).over old (set now u (record { one = x; two = y; over = (spot_of now u).over }))
      IsWalking-back =
          let b = k.within in
          record {
            within = omega arith;
            one = omega (arith, fall);
            two = omega (arith, rise);
            here = back;
            behind = subst (λ j. AreWalked g at name j old (set now u (record { one = x; two = y; over = (spot_of now u).over }))) (sym e) (AreWalked-here (spot_of now u).over);
          }
