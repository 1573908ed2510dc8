-- Where the top and the right vertex are taken off, what is left of the closed map and of the map is one.
use Rattle.std.proofs.Common.{◌≡◌, ◌≢◌, ◌↔◌, ℕ, ◌+◌, ◌<◌, Bool, true, false, List, [], ◌∷◌, ◌++◌, length, get_or, Contains, sym, ap, ◌∙◌, subst, inl, inr, arith}
use Rattle.std.specs.List.{filter}
use Rattle.std.proofs.lemmas.Bool.{cases_eq, true≢false, and_left, and_right}
use Rattle.std.proofs.lemmas.List.{length-append}
use Rattle.std.proofs.lemmas.List.Elements.{Contains-get_or}
use Rattle.map_lists.specs.Lists.{Lists}
use Rattle.map_theory.specs.Maps.{list_of, HasDart, IsSimpleMap, follows}
use Rattle.map_theory.proofs.WithoutEntry.{filter-insert}
use Rattle.plane_laws.proofs.KeptEdges.{same_kept, list_of-with_kept}
use Rattle.plane_peeling.specs.Restricted.{restricted, kept_but, IsFaceOfThree}
use Rattle.plane_peeling.specs.NearTriangulations.{IsNearTriangulation}
use Rattle.plane_peeling.specs.Peeled.{IsPeeled, IsFan, IsTakenOff}
use Rattle.plane_peeling.proofs.RestrictedMaps.{both, length-restricted, restricted-old}
use Rattle.plane_peeling.proofs.OuterCycles.{IsFaceOfThree-turned}
use Rattle.rect_orders.specs.Maps.{IsRectMap, closed}
use Rattle.rect_orders.proofs.Closed.{length-closed, list_top, list_bottom, list_elsewhere, more, put}

module _ (lists : Lists) (s d p t : ℕ) (h : IsRectMap lists s d p t) (kept : ℕ → Bool) (top : kept d ≡ false) where
  abbrev C : Lists
  C = closed lists s d p t

  simple : IsSimpleMap lists
  simple = h.near.simple

  -- restricted to vertices without the top they are one map
  pub same_restricted : restricted kept C ≡ restricted kept lists
  same_restricted =
      same_kept (both kept) C (restricted kept lists) (length-closed lists s d p t h ∙ sym (length-restricted lists kept)) (λ v l.
      elim (cases_eq v d) [
        | inl e ↦ rw e (ap (filter (both kept d)) (list_top lists s d p t h) ∙ filter-insert (both kept d) (list_of lists d) _ t (and_left (kept d) (kept t) top))
        | inr nd ↦ elim (cases_eq v t) [
          | inl e ↦ rw e (ap (filter (both kept t)) (list_bottom lists s d p t h) ∙ filter-insert (both kept t) (list_of lists t) _ d (and_right (kept t) (kept d) top))
          | inr nt ↦ ap (filter (both kept v)) (list_elsewhere lists s d p t h v nd nt)
        ]
      ] ∙ sym (list_of-with_kept (both kept) lists v))

  not_top : (x : ℕ) → kept x ≡ true → x ≢ d
  not_top x k e = true≢false (sym k ∙ (ap kept e ∙ top))

  -- a dart between kept vertices is an old one
  pub old_dart : (x y : ℕ) → HasDart C x y → kept x ≡ true → kept y ≡ true → HasDart lists x y
  old_dart x y dart k k' =
      elim ((more lists s d p t h).only x y dart) [
        | inl o ↦ o
        | inr r ↦ elim r [ inl e ↦ absurd (not_top x k e.0) | inr e ↦ absurd (not_top y k' e.1) ]
      ]

  module _ (right : kept p ≡ false) where
    not_right : (x : ℕ) → kept x ≡ true → x ≢ p
    not_right x k e = true≢false (sym k ∙ (ap kept e ∙ right))

    -- and what follows what is as it was
    pub same_follows : (y x : ℕ) → HasDart lists y x → kept y ≡ true → kept x ≡ true → follows C y x ≡ follows lists y x
    same_follows y x dart k k' = (put lists s d p t h).other y x dart (λ e. absurd (not_top y k e)) (λ e. not_right x k')

    pub IsPeeled-old : (ws : List ℕ) → IsPeeled C kept s t ws → IsPeeled lists kept s t ws
    IsPeeled-old ws peeled = record {
      near = subst (λ m. IsNearTriangulation m s t ws) same_restricted peeled.near;
      inner = λ x y dart n.
          let old = restricted-old lists kept x y dart in
          ap (λ m. follows m y x) (sym same_restricted)
          ∙ (peeled.inner x y (subst (λ m. HasDart m x y) (sym same_restricted) dart) n ∙ same_follows y x (simple.both_ways x y old.0) old.2 old.1);
      border = λ v u k dart out. peeled.border v u k ((more lists s d p t h).kept v u dart) out;
    }

    face_old : (a b c : ℕ) → kept a ≡ true → kept b ≡ true → kept c ≡ true → IsFaceOfThree C a b c → IsFaceOfThree lists a b c
    face_old a b c ka kb kc f =
        let new = (more lists s d p t h).simple in
        let f' = IsFaceOfThree-turned C a b c new f in
        let ab = old_dart a b f.dart ka kb in
        record {
          dart = ab;
          second = sym (same_follows b a (simple.both_ways a b ab) kb ka) ∙ f.second;
          third = sym (same_follows c b (simple.both_ways b c (old_dart b c f'.dart kb kc)) kc kb) ∙ f.third;
          round = sym (same_follows a c (simple.both_ways c a (old_dart c a (IsFaceOfThree-turned C b c a new f').dart kc ka)) ka kc) ∙ f.round;
        }

    IsFan-old : (v a : ℕ) (mid : List ℕ) (b : ℕ) → IsFan C kept v a mid b → IsFan lists kept v a mid b
    IsFan-old v a mid b fan =
        let row = a ∷ mid ++ b ∷ [] in
        let around : (i : ℕ) → i < length mid + 2 → (kept v ≡ true) × (kept (get_or row i 0) ≡ true) = λ i l.
        let old = restricted-old C kept v (get_or row i 0) ((fan.neighbours (get_or row i 0)).1 (Contains-get_or row i 0 (omega (arith, length-append (a ∷ mid) (b ∷ []))))) in
        (old.1, old.2) in
        record {
          neighbours = subst (λ m. (u : ℕ) → HasDart m v u ↔ Contains row u) same_restricted fan.neighbours;
          faces = λ i l.
              let one = around i (omega arith) in
              face_old v (get_or row i 0) (get_or row (i + 1) 0) one.0 one.1 (around (i + 1) (omega arith)).1 (fan.faces i l);
        }

    -- a vertex taken off the one is taken off the other
    pub IsTakenOff-old : (ws : List ℕ) (v : ℕ) (front : List ℕ) (a : ℕ) (mid : List ℕ) (b : ℕ) (back : List ℕ) → IsTakenOff C kept s t ws v front a mid b back → IsPeeled lists (kept_but kept v) s t (front ++ (a ∷ mid ++ b ∷ back)) → IsTakenOff lists kept s t ws v front a mid b back
    IsTakenOff-old ws v front a mid b back off left = record { before = off.before; fan = IsFan-old v a mid b off.fan; left = left }
