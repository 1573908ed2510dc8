-- Separating pairs, by the cut vertices of lists without one of the two.
use Rattle.std.proofs.Common.{◌≡◌, ◌≢◌, ◌⊎◌, ℕ, zero, suc, ◌<◌, not, eqb, List, [], ◌∷◌, length, Contains, refl, sym, ap, ◌∙◌, subst, inl, inr, arith}
use Rattle.std.proofs.lemmas.Bool.{cases_eq, eq-eqb, ne_eqb, cond-true, cond-false, false≢true}
use Rattle.std.specs.List.{filter}
use Rattle.map_lists.specs.Lists.{Lists}
use Rattle.map_theory.specs.Maps.{HasDart, list_of}
use Rattle.map_theory.proofs.EntryLemmas.{Contains-cons_cases, Contains-here, Contains-there, Contains-filter, Contains-from_filter}
use Rattle.graph_search.specs.Forests.{IsAdjacency}
use Rattle.graph_search.specs.Cuts.{AreSeparated, IsCutVertex}
use Rattle.graph_search.specs.Without.{IsWithoutVertex}
use Rattle.graph_search.proofs.WalkLemmas.{Off, linked_itself, linked_weaker, linked_chained, linked_dart, linked_turned, linked_path, path_linked_by, walks_start, Walks, AreLinked}
use Rattle.graph_search.proofs.CutLemmas.{off_one, ne_off, off_none}

-- two vertices are avoided: x and y
pub record AreBoth (x y : ℕ) (both : List ℕ) : Type 0 where
  pub one : Contains both x
  pub other : Contains both y
  pub cases : (z : ℕ) → Contains both z → (z ≡ x) ⊎ (z ≡ y)

pub AreBoth-pair : (x y : ℕ) → AreBoth x y (x ∷ y ∷ [])
AreBoth-pair x y = grind (arith, Contains-here, Contains-there, Contains-cons_cases)

pub AreBoth-turned : (x y : ℕ) (both : List ℕ) → AreBoth x y both → AreBoth y x both
AreBoth-turned x y both h = record {
  one = h.other;
  other = h.one;
  cases = λ z c. elim (h.cases z c) [ inl e ↦ inr e | inr e ↦ inl e ];
}

pub off_both : (x y : ℕ) (both : List ℕ) → AreBoth x y both → (z : ℕ) → z ≢ x → z ≢ y → Off both z
off_both x y both h z ne_x ne_y c = elim (h.cases z c) [ inl e ↦ ne_x e | inr e ↦ ne_y e ]

ne_one : (x y : ℕ) (both : List ℕ) → AreBoth x y both → (z : ℕ) → Off both z → z ≢ x
ne_one x y both h z off e = off (subst (Contains both) (sym e) h.one)

ne_other : (x y : ℕ) (both : List ℕ) → AreBoth x y both → (z : ℕ) → Off both z → z ≢ y
ne_other x y both h z off e = off (subst (Contains both) (sym e) h.other)

module _ (lists rest : Lists) (x : ℕ) (h : IsWithoutVertex lists rest x) where
  -- a dart between other vertices stays
  pub dart_kept : (v w : ℕ) → HasDart lists v w → v ≢ x → w ≢ x → HasDart rest v w
  dart_kept v w has ne_v ne_w =
      let l = has.0 in
      let e : list_of rest v ≡ filter (λ z. not (eqb z x)) (list_of lists v) = h.each v l ∙ cond-false {A = List ℕ} (eqb v x) _ _ (ne_eqb v x ne_v) in
      (omega arith, subst (λ (us : List ℕ). Contains us w) (sym e) (Contains-filter (λ z. not (eqb z x)) (list_of lists v) w has.1 (ap not (ne_eqb w x ne_w))))

  -- and there are no other darts
  pub dart_only : (v w : ℕ) → HasDart rest v w → HasDart lists v w × (v ≢ x) × (w ≢ x)
  dart_only v w has =
      let l : v < length lists = omega arith in
      let ne_v : v ≢ x = λ q.
      (let e : list_of rest v ≡ [] = h.each v l ∙ cond-true {A = List ℕ} (eqb v x) _ _ (eq-eqb v x q) in
      omega (arith, subst (λ (us : List ℕ). Contains us w) e has.1)) in
      let e : list_of rest v ≡ filter (λ z. not (eqb z x)) (list_of lists v) = h.each v l ∙ cond-false {A = List ℕ} (eqb v x) _ _ (ne_eqb v x ne_v) in
      let old = Contains-from_filter (λ z. not (eqb z x)) (list_of lists v) w (subst (λ (us : List ℕ). Contains us w) e has.1) in
      ((l, old.0), ne_v, λ q. false≢true (ap not (sym (eq-eqb w x q)) ∙ old.1))

  pub IsAdjacency-without : IsAdjacency lists → IsAdjacency rest
  IsAdjacency-without adjacency =
      record {
        in_range = λ v w has. let l = adjacency.in_range v w (dart_only v w has).0 in omega arith;
        both_ways = λ v w has. let d = dart_only v w has in dart_kept w v (adjacency.both_ways v w d.0) d.2 d.1;
      }

  -- a walk off x stays
  walks_kept : (y : ℕ) (both : List ℕ) → AreBoth x y both → (k s t : ℕ) → Walks lists (Off both) k s t → AreLinked rest (Off (y ∷ [])) s t
  walks_kept y both a zero s t w =
      subst (AreLinked rest (Off (y ∷ [])) s) w.2 (linked_itself rest (Off (y ∷ [])) s (omega arith) (off_one y s (ne_other x y both a s w.1)))
  walks_kept y both a (suc k) s t w =
      let tail = walks_kept y both a k w.0 t w.3 in
      let dart = dart_kept s w.0 w.1 (ne_one x y both a s w.2) (ne_one x y both a w.0 (walks_start lists (Off both) k w.0 t w.3).1) in
      (suc tail.0, (w.0, dart, off_one y s (ne_other x y both a s w.2), tail.1))

  -- a walk that avoids x alone stays, and one in the rest is one of the lists
  walks_kept_one : (k s t : ℕ) → Walks lists (Off (x ∷ [])) k s t → AreLinked rest (Off []) s t
  walks_kept_one zero s t w =
      subst (AreLinked rest (Off []) s) w.2 (linked_itself rest (Off []) s (omega arith) (off_none s))
  walks_kept_one (suc k) s t w =
      let tail = walks_kept_one k w.0 t w.3 in
      (suc tail.0, (w.0, dart_kept s w.0 w.1 (ne_off x s w.2) (ne_off x w.0 (walks_start lists (Off (x ∷ [])) k w.0 t w.3).1), off_none s, tail.1))

  walks_back : (k s t : ℕ) → Walks rest (Off []) k s t → AreLinked lists (Off []) s t
  walks_back zero s t w =
      subst (AreLinked lists (Off []) s) w.2 (linked_itself lists (Off []) s (omega arith) (off_none s))
  walks_back (suc k) s t w =
      let tail = walks_back k w.0 t w.3 in
      (suc tail.0, (w.0, (dart_only s w.0 w.1).0, off_none s, tail.1))

  walks_back_off : (y : ℕ) (both : List ℕ) → AreBoth x y both → (k s t : ℕ) → s ≢ x → Walks rest (Off (y ∷ [])) k s t → AreLinked lists (Off both) s t
  walks_back_off y both a zero s t ne w =
      subst (AreLinked lists (Off both) s) w.2 (linked_itself lists (Off both) s (omega arith) (off_both x y both a s ne (ne_off y s w.1)))
  walks_back_off y both a (suc k) s t ne w =
      let d = dart_only s w.0 w.1 in
      let tail = walks_back_off y both a k w.0 t d.2 w.3 in
      (suc tail.0, (w.0, d.0, off_both x y both a s ne (ne_off y s w.2), tail.1))

  -- x leads nowhere in the rest
  walks_alone : (passes : ℕ → Type 0) (k t : ℕ) → Walks rest passes k x t → t ≡ x
  walks_alone passes zero t w = sym w.2
  walks_alone passes (suc k) t w = absurd ((dart_only x w.0 w.1).1 refl)

  -- What a cut vertex of the rest parts, it and x part together.
  pub AreSeparated-of_rest : IsAdjacency lists → (y : ℕ) (both : List ℕ) → AreBoth x y both → x ≢ y → (s t : ℕ) → AreSeparated rest (y ∷ []) s t → AreSeparated lists both s t
  AreSeparated-of_rest adjacency y both a ne s t separated =
      let adjacent = IsAdjacency-without adjacency in
      let w = linked_path rest adjacent [] s t separated.path separated.joined in
      let alone : (z : ℕ) → z ≡ x → s ≡ z → t ≡ z → ⊥ = λ z e f g.
      (let start = walks_start rest (Off []) w.0 s t w.1 in
      let at = path_linked_by rest adjacent (y ∷ []) s t (subst (AreLinked rest (Off (y ∷ [])) s) (f ∙ sym g) (linked_itself rest (Off (y ∷ [])) s start.0 (off_one y s (λ q. ne (sym (f ∙ e) ∙ q))))) in
      separated.apart at.0 at.1) in
      let s_other : s ≢ x = λ e. alone x refl e (walks_alone (Off []) w.0 t (subst (λ z. Walks rest (Off []) w.0 z t) e w.1)) in
      let back = linked_turned rest adjacent (Off []) s t w in
      let t_other : t ≢ x = λ e. alone x refl (walks_alone (Off []) back.0 s (subst (λ z. Walks rest (Off []) back.0 z s) e back.1)) e in
      let path = path_linked_by lists adjacency [] s t (walks_back w.0 s t w.1) in
      record {
        s_off = off_both x y both a s s_other (ne_off y s separated.s_off);
        t_off = off_both x y both a t t_other (ne_off y t separated.t_off);
        path = path.0;
        joined = path.1;
        apart = λ other j.
            let v = linked_path lists adjacency both s t other j in
            let p = path_linked_by rest adjacent (y ∷ []) s t (walks_kept y both a v.0 s t v.1) in
            separated.apart p.0 p.1;
      }

  -- Where neither is a cut vertex, they part nothing.
  pub not_AreSeparated : IsAdjacency lists → (y : ℕ) (both : List ℕ) → AreBoth x y both → ¬ IsCutVertex lists x → ¬ IsCutVertex rest y → (s t : ℕ) → ¬ AreSeparated lists both s t
  not_AreSeparated adjacency y both a not_x not_y s t separated =
      let adjacent = IsAdjacency-without adjacency in
      not_x (
        s,
        t,
        record {
          s_off = off_one x s (ne_one x y both a s separated.s_off);
          t_off = off_one x t (ne_one x y both a t separated.t_off);
          path = separated.path;
          joined = separated.joined;
          apart = λ other j.
              let w = linked_path lists adjacency (x ∷ []) s t other j in
              let path = path_linked_by rest adjacent [] s t (walks_kept_one w.0 s t w.1) in
              not_y (
                s,
                t,
                record {
                  s_off = off_one y s (ne_other x y both a s separated.s_off);
                  t_off = off_one y t (ne_other x y both a t separated.t_off);
                  path = path.0;
                  joined = path.1;
                  apart = λ around k.
                      let v = linked_path rest adjacent (y ∷ []) s t around k in
                      let p = path_linked_by lists adjacency both s t (walks_back_off y both a v.0 s t (ne_one x y both a s separated.s_off) v.1) in
                      separated.apart p.0 p.1;
                },
              );
        },
      )

module _ (lists : Lists) (adjacency : IsAdjacency lists) where
  -- a walk avoids v, or comes to a neighbour of v before it
  before_vertex : (v k s t : ℕ) → Walks lists (Off []) k s t → s ≢ v → t ≢ v → AreLinked lists (Off (v ∷ [])) s t ⊎ ((a : ℕ) × HasDart lists v a × (a ≢ v) × AreLinked lists (Off (v ∷ [])) s a)
  before_vertex v zero s t w ne_s ne_t = inl (subst (AreLinked lists (Off (v ∷ [])) s) w.2 (linked_itself lists (Off (v ∷ [])) s w.0 (off_one v s ne_s)))
  before_vertex v (suc k) s t w ne_s ne_t =
      elim (cases_eq w.0 v) [
        | inl e ↦ inr (s, subst (λ z. HasDart lists z s) e (adjacency.both_ways s w.0 w.1), ne_s, linked_itself lists (Off (v ∷ [])) s w.1.0 (off_one v s ne_s))
        | inr ne ↦
            let step = linked_dart lists adjacency (Off (v ∷ [])) s w.0 w.1 (off_one v s ne_s) (off_one v w.0 ne) in
            elim (before_vertex v k w.0 t w.3 ne ne_t) [
              | inl rest ↦ inl (linked_chained lists (Off (v ∷ [])) s w.0 t step rest)
              | inr rest ↦ inr (rest.0, rest.1, rest.2, linked_chained lists (Off (v ∷ [])) s w.0 rest.0 step rest.3)
            ]
      ]

  -- a cut vertex has a neighbour besides any given vertex
  neighbour_besides : (u v : ℕ) → IsCutVertex lists v → (a : ℕ) × HasDart lists v a × (a ≢ v) × (a ≢ u)
  neighbour_besides u v cut =
      let s = cut.0 in
      let t = cut.1 in
      let apart : AreLinked lists (Off (v ∷ [])) s t → ⊥ = λ w. (let p = path_linked_by lists adjacency (v ∷ []) s t w in cut.2.apart p.0 p.1) in
      let w = linked_path lists adjacency [] s t cut.2.path cut.2.joined in
      let back = linked_turned lists adjacency (Off []) s t w in
      let ne_s = ne_off v s cut.2.s_off in
      let ne_t = ne_off v t cut.2.t_off in
      elim (before_vertex v w.0 s t w.1 ne_s ne_t) [
        | inl round ↦ absurd (apart round)
        | inr a ↦ elim (before_vertex v back.0 t s back.1 ne_t ne_s) [
          | inl round ↦ absurd (apart (linked_turned lists adjacency (Off (v ∷ [])) t s round))
          | inr b ↦ elim (cases_eq a.0 u) [
            | inr ne ↦ (a.0, a.1, a.2, ne)
            | inl e ↦ elim (cases_eq b.0 u) [
              | inr ne ↦ (b.0, b.1, b.2, ne)
              | inl f ↦ absurd (apart (linked_chained lists (Off (v ∷ [])) s a.0 t a.3 (subst (λ z. AreLinked lists (Off (v ∷ [])) z t) (f ∙ sym e) (linked_turned lists adjacency (Off (v ∷ [])) t b.0 b.3))))
            ]
          ]
        ]
      ]

  -- where v itself is one of those that u parts, a neighbour of v stands for it
  separated_beside : (u v t : ℕ) (both : List ℕ) → AreBoth u v both → IsCutVertex lists v → AreSeparated lists (u ∷ []) v t → (s : ℕ) × AreSeparated lists both s t
  separated_beside u v t both a cut separated =
      let b = neighbour_besides u v cut in
      let w = linked_path lists adjacency [] v t separated.path separated.joined in
      let path = path_linked_by lists adjacency [] b.0 t (linked_chained lists (Off []) b.0 v t (linked_dart lists adjacency (Off []) b.0 v (adjacency.both_ways v b.0 b.1) (off_none b.0) (off_none v)) w) in
      let ne_t : t ≢ v = λ e. (let p = path_linked_by lists adjacency (u ∷ []) v t (subst (AreLinked lists (Off (u ∷ [])) v) (sym e) (linked_itself lists (Off (u ∷ [])) v b.1.0 separated.s_off)) in separated.apart p.0 p.1) in (
        b.0,
        record {
          s_off = off_both u v both a b.0 b.3 b.2;
          t_off = off_both u v both a t (ne_off u t separated.t_off) ne_t;
          path = path.0;
          joined = path.1;
          apart = λ other j.
              let k = linked_path lists adjacency both b.0 t other j in
              let weak = linked_weaker lists (Off both) (Off (u ∷ [])) (λ z l off. off_one u z (ne_one u v both a z off)) b.0 t k in
              let p = path_linked_by lists adjacency (u ∷ []) v t (linked_chained lists (Off (u ∷ [])) v b.0 t (linked_dart lists adjacency (Off (u ∷ [])) v b.0 b.1 separated.s_off (off_one u b.0 b.3)) weak) in
              separated.apart p.0 p.1;
        },
      )

  pub separated_turned : (avoided : List ℕ) (s t : ℕ) → AreSeparated lists avoided s t → AreSeparated lists avoided t s
  separated_turned avoided s t separated =
      let w = linked_turned lists adjacency (Off []) s t (linked_path lists adjacency [] s t separated.path separated.joined) in
      let path = path_linked_by lists adjacency [] t s w in
      record {
        s_off = separated.t_off;
        t_off = separated.s_off;
        path = path.0;
        joined = path.1;
        apart = λ other j.
            let k = linked_turned lists adjacency (Off avoided) t s (linked_path lists adjacency avoided t s other j) in
            let p = path_linked_by lists adjacency avoided s t k in
            separated.apart p.0 p.1;
      }

  -- Two cut vertices part two vertices together.
  pub both_cut : (u v : ℕ) (both : List ℕ) → AreBoth u v both → IsCutVertex lists u → IsCutVertex lists v → (s : ℕ) × (t : ℕ) × AreSeparated lists both s t
  both_cut u v both a cut_u cut_v =
      let s = cut_u.0 in
      let t = cut_u.1 in
      let separated = cut_u.2 in
      elim (cases_eq s v) [
        | inl e ↦ (let p = separated_beside u v t both a cut_v (subst (λ z. AreSeparated lists (u ∷ []) z t) e separated) in (p.0, t, p.1))
        | inr ne_s ↦ elim (cases_eq t v) [
          | inl e ↦ (let p = separated_beside u v s both a cut_v (subst (λ z. AreSeparated lists (u ∷ []) z s) e (separated_turned (u ∷ []) s t separated)) in (p.0, s, p.1))
          | inr ne_t ↦ (
            s,
            t,
            record {
              s_off = off_both u v both a s (ne_off u s separated.s_off) ne_s;
              t_off = off_both u v both a t (ne_off u t separated.t_off) ne_t;
              path = separated.path;
              joined = separated.joined;
              apart = λ other j.
                  let k = linked_path lists adjacency both s t other j in
                  let weak = linked_weaker lists (Off both) (Off (u ∷ [])) (λ z l off. off_one u z (ne_one u v both a z off)) s t k in
                  let p = path_linked_by lists adjacency (u ∷ []) s t weak in
                  separated.apart p.0 p.1;
            },
          )
        ]
      ]
