-- Maps restricted to some of their edges: taking one edge that is not kept away changes nothing of the restriction.
use Rattle.std.proofs.Common.{◌≡◌, ◌≢◌, ◌⊎◌, ℕ, zero, suc, ◌+◌, ◌<◌, Bool, true, false, cond, List, [], ◌∷◌, length, Contains, refl, sym, ap, ap₂, ◌∙◌, subst, inl, inr, arith}
use Rattle.std.specs.List.{filter, remove}
use Rattle.std.proofs.lemmas.Bool.{cases_Bool, cases_eq, true≢false, cond-true, cond-false}
use Rattle.std.proofs.lemmas.List.{ext_get_or}
use Rattle.map_lists.specs.Lists.{Lists}
use Rattle.map_theory.specs.Maps.{list_of, HasDart, IsSimpleMap, follows, dart_count, dart_number}
use Rattle.map_theory.specs.Edges.{without_entry, without_edge}
use Rattle.map_theory.proofs.EntryLemmas.{Contains-here, Contains-there}
use Rattle.map_theory.proofs.DartLemmas.{place_of-here, place_of-there, dart_number-lt, get_or-dart_number, HasDart-follows}
use Rattle.map_theory.proofs.WithoutEdge.{u_not_v, length-without_edge, list_at_first, list_at_second, list_elsewhere, dart_old, dart_new, IsSimpleMap-without_edge, follows_skip_first, follows_skip_second, follows_same, dart_count-without}
use Rattle.map_theory.proofs.DartPermutations.{dart_of, dart_of-number}
use Rattle.plane_laws.proofs.EdgeRemoved.{edge_removed_plane}
use Rattle.plane_laws.specs.Kept.{kept_from, with_kept, IsKeptMap, KeptEdges}

-- ---- lists
-- an entry that does not pass may be taken out before
filter-without : (p : ℕ → Bool) (us : List ℕ) (x : ℕ) → p x ≡ false → filter p (without_entry us x) ≡ filter p us
filter-without p [] x e = refl
filter-without p (y ∷ us) x e =
    elim (cases_eq y x) [
      | inl q ↦ ap (λ n. filter p (remove (y ∷ us) n)) (place_of-here x y us q) ∙ sym (cond-false (p y) (y ∷ filter p us) (filter p us) (ap p q ∙ e))
      | inr ne ↦
          ap (λ n. filter p (remove (y ∷ us) n)) (place_of-there x y us ne)
          ∙ ap (λ l. cond (p y) (y ∷ l) l) (filter-without p us x e)
    ]

-- where all pass, all stay
pub filter-all : (p : ℕ → Bool) (us : List ℕ) → ((x : ℕ) → Contains us x → p x ≡ true) → filter p us ≡ us
filter-all p [] h = refl
filter-all p (y ∷ us) h =
    cond-true (p y) (y ∷ filter p us) (filter p us) (h y (Contains-here y us)) ∙ ap (λ l. y ∷ l) (filter-all p us (λ x c. h x (Contains-there y us x c)))

-- ---- the lists that are left
length-kept_from : (keep : ℕ → ℕ → Bool) (from : ℕ) (lists : Lists) → length (kept_from keep from lists) ≡ length lists
length-kept_from keep from [] = refl
length-kept_from keep from (us ∷ lists) = omega (arith, length-kept_from keep (from + 1) lists)

list_of-kept_from : (keep : ℕ → ℕ → Bool) (from : ℕ) (lists : Lists) (v : ℕ) → list_of (kept_from keep from lists) v ≡ filter (keep (from + v)) (list_of lists v)
list_of-kept_from keep from [] v = refl
list_of-kept_from keep from (us ∷ lists) zero = let z : from ≡ from + 0 = omega arith in ap (λ n. filter (keep n) us) z
list_of-kept_from keep from (us ∷ lists) (suc v) = let s : from + 1 + v ≡ from + suc v = omega arith in list_of-kept_from keep (from + 1) lists v ∙ ap (λ n. filter (keep n) (list_of lists v)) s

pub length-with_kept : (keep : ℕ → ℕ → Bool) (lists : Lists) → length (with_kept keep lists) ≡ length lists
length-with_kept keep lists = length-kept_from keep 0 lists

-- what is left at v
pub list_of-with_kept : (keep : ℕ → ℕ → Bool) (lists : Lists) (v : ℕ) → list_of (with_kept keep lists) v ≡ filter (keep v) (list_of lists v)
list_of-with_kept keep lists v = let z : 0 + v ≡ v = omega arith in list_of-kept_from keep 0 lists v ∙ ap (λ n. filter (keep n) (list_of lists v)) z

-- the same where the filtered lists are the same
pub same_kept : (keep : ℕ → ℕ → Bool) (lists others : Lists) → length lists ≡ length others → ((v : ℕ) → v < length lists → filter (keep v) (list_of lists v) ≡ list_of others v) → with_kept keep lists ≡ others
same_kept keep lists others n h =
    ext_get_or [] (with_kept keep lists) others (length-with_kept keep lists ∙ n) (λ v l.
    list_of-with_kept keep lists v ∙ h v (omega (arith, length-with_kept keep lists)))

-- a test that passes always, or not at some number
pub all_or_some : (p : ℕ → Bool) (n : ℕ) → ((i : ℕ) → i < n → p i ≡ true) ⊎ ((i : ℕ) × (i < n) × (p i ≡ false))
all_or_some p zero = inl (λ i l. absurd (omega arith))
all_or_some p (suc n) =
    elim (cases_Bool (p n)) [
      | inr e ↦ inr (n, omega arith, e)
      | inl e ↦ elim (all_or_some p n) [
        | inr r ↦ inr (r.0, omega arith, r.2)
        | inl h ↦ inl (λ i l. elim (cases_eq i n) [ inl q ↦ ap p q ∙ e | inr ne ↦ h i (omega arith) ])
      ]
    ]

module _ (keep : ℕ → ℕ → Bool) (turned : (v u : ℕ) → keep v u ≡ keep u v) where
  -- all edges kept
  all_kept : (lists : Lists) → IsSimpleMap lists → ((v u : ℕ) → HasDart lists v u → keep v u ≡ true) → IsKeptMap lists (with_kept keep lists) keep
  all_kept lists simple all =
      let same : lists ≡ with_kept keep lists = sym (same_kept keep lists lists refl (λ v l. filter-all (keep v) (list_of lists v) (λ x c. all v x (l, c)))) in
      subst (λ kept. IsKeptMap lists kept keep) same record {
        simple = simple;
        plane = λ plane. plane;
        darts = λ v u. ((λ d. (d, all v u d)), λ d. d.0);
        follows_same = λ v u d e. refl;
        follows_skip = λ v u d e e'. absurd (true≢false (sym (all v (follows lists v u) (HasDart-follows lists v u d)) ∙ e));
      }

  -- an edge that is kept is not one that is not
  not_out : (a b : ℕ) → keep a b ≡ false → (v u : ℕ) → keep v u ≡ true → (v ≡ a → u ≢ b) × (v ≡ b → u ≢ a)
  not_out a b out v u k = (
    (λ e e'. true≢false (sym k ∙ (ap₂ keep e e' ∙ out))),
    λ e e'. true≢false (sym k ∙ (ap₂ keep e e' ∙ (turned b a ∙ out))),
  )

  -- what follows an entry that is not kept, where an edge is taken away
  one_less_skip : (lists : Lists) (simple : IsSimpleMap lists) (a b : ℕ) → HasDart lists a b → keep a b ≡ false → IsKeptMap (without_edge lists a b) (with_kept keep (without_edge lists a b)) keep → (v u : ℕ) → HasDart (without_edge lists a b) v u → HasDart (with_kept keep (without_edge lists a b)) v u → keep v (follows lists v u) ≡ false → keep v (follows lists v (follows lists v u)) ≡ true → follows (with_kept keep (without_edge lists a b)) v u ≡ follows lists v (follows lists v u)
  one_less_skip lists simple a b edge out h v u left d e e' =
      let rest = without_edge lists a b in
      let w = follows lists v u in
      let now : follows rest v u ≡ follows lists v w → follows (with_kept keep rest) v u ≡ follows lists v w = λ at. h.follows_same v u d (ap (keep v) at ∙ e') ∙ at in
      let later : (v ≡ a → w ≢ b) → (v ≡ b → w ≢ a) → follows (with_kept keep rest) v u ≡ follows lists v w = λ n n'.
      let at = follows_same lists simple a b edge v u left n n' in
      let there = dart_new lists simple a b edge v w (HasDart-follows lists v u (dart_old lists simple a b edge v u left).0) n n' in
      let no = not_out a b out v (follows lists v w) e' in
      let next = ap (follows rest v) at ∙ follows_same lists simple a b edge v w there no.0 no.1 in
      h.follows_skip v u d (ap (keep v) at ∙ e) (ap (keep v) next ∙ e') ∙ next in
      elim (cases_eq v a) [
        | inl q ↦
            elim (cases_eq w b) [
              | inl r ↦ now (ap (λ x. follows rest x u) q ∙ (follows_skip_first lists simple a b edge u (subst (λ x. HasDart rest x u) q left) (ap (λ x. follows lists x u) (sym q) ∙ r) ∙ ap₂ (follows lists) (sym q) (sym r)))
              | inr nr ↦ later (λ _. nr) (λ q'. absurd (u_not_v lists simple a b edge (sym q ∙ q')))
            ]
        | inr nq ↦
            elim (cases_eq v b) [
              | inl q ↦
                  elim (cases_eq w a) [
                    | inl r ↦ now (ap (λ x. follows rest x u) q ∙ (follows_skip_second lists simple a b edge u (subst (λ x. HasDart rest x u) q left) (ap (λ x. follows lists x u) (sym q) ∙ r) ∙ ap₂ (follows lists) (sym q) (sym r)))
                    | inr nr ↦ later (λ q'. absurd (nq q')) (λ _. nr)
                  ]
              | inr nq' ↦ later (λ q'. absurd (nq q')) (λ q'. absurd (nq' q'))
            ]
      ]

  -- one edge taken away that is not kept
  one_less : (lists : Lists) (simple : IsSimpleMap lists) (a b : ℕ) → HasDart lists a b → keep a b ≡ false → IsKeptMap (without_edge lists a b) (with_kept keep (without_edge lists a b)) keep → IsKeptMap lists (with_kept keep lists) keep
  one_less lists simple a b edge out h =
      let rest = without_edge lists a b in
      let out' : keep b a ≡ false = turned b a ∙ out in
      let same : with_kept keep rest ≡ with_kept keep lists =
      same_kept keep rest (with_kept keep lists) ((length-without_edge lists simple a b edge) ∙ sym (length-with_kept keep lists)) (λ v l.
      elim (cases_eq v a) [
        | inl e ↦ rw e (ap (filter (keep a)) (list_at_first lists simple a b edge) ∙ (filter-without (keep a) (list_of lists a) b out ∙ sym (list_of-with_kept keep lists a)))
        | inr na ↦
            elim (cases_eq v b) [
              | inl e ↦ rw e (ap (filter (keep b)) (list_at_second lists simple a b edge) ∙ (filter-without (keep b) (list_of lists b) a out' ∙ sym (list_of-with_kept keep lists b)))
              | inr nb ↦ ap (filter (keep v)) (list_elsewhere lists simple a b edge v na nb) ∙ sym (list_of-with_kept keep lists v)
            ]
      ]) in
      let left : (v u : ℕ) → HasDart (with_kept keep rest) v u → HasDart rest v u = λ v u d. ((h.darts v u).0 d).0 in
      subst (λ kept. IsKeptMap lists kept keep) same record {
        simple = h.simple;
        plane = λ plane. h.plane (edge_removed_plane lists simple a b edge plane);
        darts = λ v u. (
          (λ d. let old = (h.darts v u).0 d in ((dart_old lists simple a b edge v u old.0).0, old.1)),
          λ d. let no = not_out a b out v u d.1 in (h.darts v u).1 (dart_new lists simple a b edge v u d.0 no.0 no.1, d.1),
        );
        follows_same = λ v u d e.
            let no = not_out a b out v (follows lists v u) e in
            let at = follows_same lists simple a b edge v u (left v u d) no.0 no.1 in
            h.follows_same v u d (ap (keep v) at ∙ e) ∙ at;
        follows_skip = λ v u d e e'. one_less_skip lists simple a b edge out h v u (left v u d) d e e';
      }

kept_by : (n : ℕ) (keep : ℕ → ℕ → Bool) → ((v u : ℕ) → keep v u ≡ keep u v) → (lists : Lists) → IsSimpleMap lists → dart_count lists < n → IsKeptMap lists (with_kept keep lists) keep
kept_by zero keep turned lists simple l = absurd (omega arith)
kept_by (suc n) keep turned lists simple l =
    elim (all_or_some (λ i. keep (dart_of lists i).0 (dart_of lists i).1) (dart_count lists)) [
      | inl all ↦
          all_kept keep turned lists simple (λ v u d. sym (ap (λ c. keep c.0 c.1) (get_or-dart_number lists v u (0, 0) d)) ∙ all (dart_number lists (v, u)) (dart_number-lt lists v u d))
      | inr r ↦
          let c = dart_of lists r.0 in
          let edge = (dart_of-number lists simple r.0 r.1).is_dart in
          let less = dart_count-without lists simple c.0 c.1 edge in
          one_less keep turned lists simple c.0 c.1 edge r.2 (kept_by n keep turned (without_edge lists c.0 c.1) (IsSimpleMap-without_edge lists simple c.0 c.1 edge) (omega arith))
    ]

-- THE LAW: some of the edges of a map
pub kept_edges : KeptEdges
kept_edges lists keep turned simple = kept_by (suc (dart_count lists)) keep turned lists simple (omega arith)
