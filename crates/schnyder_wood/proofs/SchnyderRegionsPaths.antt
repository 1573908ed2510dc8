-- The loop that notes a path.
use Rattle.std.proofs.Common.{◌≡◌, ◌≢◌, ◌<◌, ◌≤◌, ℕ, zero, suc, List, length, get_or, set, refl, sym, ap, ◌∙◌, subst, inl, inr, arith, length-set, get_or-set_same, get_or-set_other}
use Rattle.std.proofs.lemmas.Bool.{cases_eq}
use Rattle.wood_runs.specs.Parents.{Colour, one, two, three}
use Rattle.schnyder_wood.specs.Parents.{Parents, count_in, root_in, parent_in, IsRoot, IsInnerIn, LeadsIn, IsRooted}
use Rattle.schnyder_wood.proofs.Paths.{LeadsIn-more}
use Rattle.schnyder_wood.specs.Boundaries.{IsNoted, NotesPath, NotesSteps}

module _ (wood : Parents) (c : Colour) where
  root_is : (w : ℕ) → w ≡ root_in wood c → IsRoot wood w
  root_is w e = by c e
    where
      by : (c : Colour) → w ≡ root_in wood c → IsRoot wood w
      by one e = inl e
      by two e = inr (inl e)
      by three e = inr (inr e)

  -- so many steps lead to one vertex
  leads_once : (d v u w : ℕ) → LeadsIn wood c d v u → LeadsIn wood c d v w → u ≡ w
  leads_once zero v u w a b = sym a ∙ b
  leads_once (suc d) v u w a b = leads_once d (parent_in wood c v) u w a.1 b.1

  -- inner vertices come before the root
  before_root : (d e v r u : ℕ) → LeadsIn wood c d v r → IsRoot wood r → LeadsIn wood c e v u → IsInnerIn wood u → e < d
  before_root zero zero v r u a root b inner = absurd (inner.1 (subst (IsRoot wood) (sym a ∙ b) root))
  before_root zero (suc e) v r u a root b inner = absurd (b.0.1 (subst (IsRoot wood) (sym a) root))
  before_root (suc d) zero v r u a root b inner = omega arith
  before_root (suc d) (suc e) v r u a root b inner = let l = before_root d e (parent_in wood c v) r u a.1 root b.1 inner in omega arith

  pub begin : (v : ℕ) (ups : List ℕ) → IsInnerIn wood v → length ups ≡ count_in wood → ((u : ℕ) → u < length ups → get_or ups u 0 ≡ u) → NotesSteps wood c v 0 v ups
  begin v ups inner count own = record {
    count = count;
    leads = refl;
    inner = inner;
    lower = λ h. omega arith;
    each = λ u l. inr (λ e m. absurd (omega arith), own u (omega arith));
  }

  noted : (v d w u : ℕ) (ups : List ℕ) → NotesSteps wood c v d w ups → u ≡ parent_in wood c w → IsNoted wood c v (suc d) (set ups w u)
  noted v d w u ups h up x l =
      let m = h.inner.0 in
      let count = h.count in
      elim (cases_eq x w) [
        | inl same ↦ inl ((d, omega arith, subst (LeadsIn wood c d v) (sym same) h.leads, subst (IsInnerIn wood) (sym same) h.inner), ap (λ x. get_or (set ups w u) x 0) same ∙ get_or-set_same ups w u 0 (omega arith) ∙ up ∙ ap (parent_in wood c) (sym same))
        | inr ne ↦
            let there = get_or-set_other ups w x u 0 ne in
            elim (h.each x l) [
              | inl a ↦ inl ((a.0.0, let q = a.0.1 in omega arith, a.0.2, a.0.3), there ∙ a.1)
              | inr a ↦ inr (
                λ k q on. elim (cases_eq k d) [
                  | inl z ↦ ne (leads_once d v x w (subst (λ k. LeadsIn wood c k v x) z on) h.leads)
                  | inr z ↦ a.0 k (omega arith) on
                ],
                there ∙ a.1,
              )
            ]
      ]

  pub more : (v d w u d' : ℕ) (ups : List ℕ) → IsRooted wood → NotesSteps wood c v d w ups → u ≢ root_in wood c → u ≡ parent_in wood c w → d' ≡ suc d → NotesSteps wood c v d' u (set ups w u)
  more v d w u d' ups rooted h not up e =
      let inner : IsInnerIn wood u = elim (rooted.goes_on c w h.inner) [ inl i ↦ subst (IsInnerIn wood) (sym up) i | inr r ↦ absurd (not (up ∙ r)) ] in
      subst (λ d'. NotesSteps wood c v d' u (set ups w u)) (sym e) record {
        count = length-set ups w u ∙ h.count;
        leads = subst (LeadsIn wood c (suc d) v) (sym up) (LeadsIn-more wood c d v w h.leads h.inner);
        inner = inner;
        lower = λ k. let a = k.falls c w h.inner in let b = h.lower k in omega (arith, ap (k.height c) up);
        each = noted v d w u ups h up;
      }

  pub done : (v d w u : ℕ) (ups : List ℕ) → NotesSteps wood c v d w ups → u ≡ parent_in wood c w → u ≡ root_in wood c → NotesPath wood c v (set ups w u)
  done v d w u ups h up root = record {
    count = length-set ups w u ∙ h.count;
    each = λ x l. elim (noted v d w u ups h up x l) [
      | inl a ↦ inl (((a.0.0, a.0.2), a.0.3), a.1)
      | inr a ↦ inr (λ p. a.0 p.0.0 (before_root (suc d) p.0.0 v (parent_in wood c w) x (LeadsIn-more wood c d v w h.leads h.inner) (root_is (parent_in wood c w) (sym up ∙ root)) p.0.1 p.1) p.0.1, a.1)
    ];
  }

  pub not_all : (v d w : ℕ) (ups : List ℕ) → IsRooted wood → IsInnerIn wood v → NotesSteps wood c v d w ups → count_in wood ≤ d → ⊥
  not_all v d w ups rooted inner h l = let a = h.lower rooted in let b = rooted.low c v inner.0 in omega arith
