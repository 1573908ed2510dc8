-- Rows put one behind another, and cut where each ends.
use Rattle.std.proofs.Common.{◌≡◌, ◌<◌, ◌++◌, ℕ, ◌+◌, List, [], ◌∷◌, length, get_or, take, Some, sym, ap, ◌∙◌, subst, inl, inr, refl, arith}
use Rattle.std.proofs.lemmas.Bool.{cases_lt}
use Rattle.std.proofs.lemmas.List.{length-append, get_or_append_left, get_or_push, append_assoc, append-nil}
use Rattle.map_lists.specs.Cuts.{cut, AreCuts}
use Rattle.map_lists.proofs.CutLemmas.{length-cut, pushed, IsStored-cuts, IsStored-cut}
use Rattle.map_theory.specs.Maps.{list_of}
use Rattle.half_edges.specs.Map.{Map, dart_at}
use Rattle.graph_search.specs.Arcs.{arcs_of}
use Rattle.bipolar.specs.FaceArcs.{IsPutRight, ArePutRight, IsLeftNumber, ArePutNumbers}
use Rattle.bipolar.proofs.Darts.{AreRightFaces-more, AreLeftNumbers-more}

-- each of the first rows has a property
pub record AreRowsCut (IsRow : ℕ → List ℕ → Type 0) (count : ℕ) (ends entries : List ℕ) : Type 0 where
  pub number : length ends ≡ count
  pub cuts : AreCuts 0 ends (length entries)
  pub each : (u : ℕ) → u < count → IsRow u (arcs_of (cut 0 ends entries) u)

pub AreRowsCut-none : (IsRow : ℕ → List ℕ → Type 0) (ends entries : List ℕ) → ends ≡ [] → entries ≡ [] → AreRowsCut IsRow 0 ends entries
AreRowsCut-none IsRow ends entries e f = record {
  number = ap (λ (xs : List ℕ). length xs) e;
  cuts = rw (e, f) refl;
  each = λ u l. absurd (omega (arith, l));
}

pub AreRowsCut-more : (IsRow : ℕ → List ℕ → Type 0) (k end : ℕ) (ends new_ends entries new_entries row : List ℕ) → AreRowsCut IsRow k ends entries → new_entries ≡ entries ++ row → new_ends ≡ ends ++ end ∷ [] → end ≡ length new_entries → IsRow k row → AreRowsCut IsRow (k + 1) new_ends new_entries
AreRowsCut-more IsRow k end ends new_ends entries new_entries row w grown added total is =
    let stored = pushed ends new_ends entries new_entries row w.cuts grown added total in
    let old = cut 0 ends entries in
    let new = cut 0 new_ends new_entries in
    let now : new ≡ old ++ row ∷ [] = IsStored-cut _ _ _ stored in
    let long : length old ≡ k = length-cut 0 ends entries ∙ w.number in
    record {
      number = omega (arith, ap length added, length-append ends (end ∷ []), w.number);
      cuts = IsStored-cuts _ _ _ stored;
      each = λ u l. elim (cases_lt u k) [
        | inl less ↦ subst (IsRow u) (sym (ap (λ (z : List (List ℕ)). arcs_of z u) now ∙ get_or_append_left old (row ∷ []) [] u (omega (arith, less, long)))) (w.each u less)
        | inr most ↦
            let e : u ≡ k = omega (arith, most, l) in
            let here : arcs_of new k ≡ row = ap (λ (z : List (List ℕ)). arcs_of z k) now ∙ get_or_push old row [] k long in
            subst (λ z. IsRow z (arcs_of new z)) (sym e) (subst (IsRow k) (sym here) is)
      ];
    }

module _ (map : Map) (walks : List (List ℕ)) (rank : List ℕ) where
  -- one dart more of a walk
  pub ArePutRight-more : (ids : List ℕ) (k d u v : ℕ) (old new new' : List ℕ) → ArePutRight map walks rank (take k ids) old new → k < length ids → get_or ids k 0 ≡ d → dart_at map d ≡ Some (u, v) → IsPutRight map walks rank u v new new' → ArePutRight map walks rank (take (k + 1) ids) old new'
  ArePutRight-more ids k d u v old new new' p l here dart put =
      elim (cases_lt (get_or rank u 0) (get_or rank v 0)) [
        | inl up ↦
            let r = put.up up in
            record {
              row = p.row ++ r.0 ∷ [];
              grown = r.1 ∙ (ap (λ z. z ++ r.0 ∷ []) p.grown ∙ append_assoc old p.row (r.0 ∷ []));
              faces = AreRightFaces-more map walks rank ids k d u v p.row (p.row ++ r.0 ∷ []) p.faces l here dart (record { up = λ m. (r.0, refl, r.2); down = λ m. absurd (omega (arith, up, m)) });
            }
        | inr down ↦
            record {
              row = p.row;
              grown = put.down down ∙ p.grown;
              faces = AreRightFaces-more map walks rank ids k d u v p.row p.row p.faces l here dart (record { up = λ m. absurd (omega (arith, down, m)); down = λ m. refl });
            }
      ]

  pub ArePutNumbers-none : (numbers : List ℕ) (v : ℕ) (entries : List ℕ) → ArePutNumbers map walks rank numbers v 0 entries entries
  ArePutNumbers-none numbers v entries = record { row = []; grown = sym (append-nil entries); size = refl; left = record { entries = λ i l. absurd (omega (arith, l)) } }

  -- one number more
  pub ArePutNumbers-more : (numbers : List ℕ) (v x k : ℕ) (old new new' : List ℕ) → ArePutNumbers map walks rank numbers v k old new → new' ≡ new ++ x ∷ [] → IsLeftNumber map walks rank numbers v (get_or (list_of map.lists v) k 0) x → ArePutNumbers map walks rank numbers v (k + 1) old new'
  ArePutNumbers-more numbers v x k old new new' p grown is = grind (arith, append_assoc, length-append, AreLeftNumbers-more, IsLeftNumber, get_or, list_of)
