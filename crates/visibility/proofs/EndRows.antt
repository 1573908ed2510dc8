-- Lists of ends, one after another.
use Rattle.std.proofs.Common.{◌≡◌, ℕ, ◌+◌, ◌<◌, ◌++◌, List, [], ◌∷◌, length, get_or, set, map, take, ℤ, pos, sym, ap, ◌∙◌, subst, inl, inr, arith, get_or-set_same, get_or-set_other}
use Rattle.std.proofs.lemmas.Bool.{cases_lt}
use Rattle.std.proofs.lemmas.List.{length-append, get_or_append_left, get_or_push, map_more, take_more_set}
use Rattle.graph_search.specs.Arcs.{arcs_of}

-- ends of the rows before v
pub record AreEndsBelow (rows : List (List ℕ)) (IsEnd : List ℕ → ℕ → Type 0) (v : ℕ) (ends : List ℤ) : Type 0 where
  pub count : length ends ≡ v
  pub each : (u : ℕ) → u < v → (x : ℕ) × IsEnd (arcs_of rows u) x × (get_or ends u (pos 0) ≡ pos x)

pub AreEndsBelow-more : (rows : List (List ℕ)) (IsEnd : List ℕ → ℕ → Type 0) (v x : ℕ) (row : List ℕ) (ends ends' : List ℤ) (z : ℤ) → AreEndsBelow rows IsEnd v ends → IsEnd row x → row ≡ arcs_of rows v → z ≡ pos x → ends' ≡ ends ++ z ∷ [] → AreEndsBelow rows IsEnd (v + 1) ends'
AreEndsBelow-more rows IsEnd v x row ends ends' z w is same e grown = record {
  count = omega (arith, ap (λ (l : List ℤ). length l) grown, length-append ends (z ∷ []), w.count);
  each = λ u l. elim (cases_lt u v) [
    | inl less ↦ (let old = w.each u less in (old.0, old.1, ap (λ (l : List ℤ). get_or l u (pos 0)) grown ∙ (get_or_append_left ends (z ∷ []) (pos 0) u (omega (arith, less, w.count)) ∙ old.2)))
    | inr most ↦
        let s : u ≡ v = omega (arith, most, l) in
        (x, subst (λ k. IsEnd (arcs_of rows k) x) (sym s) (subst (λ r. IsEnd r x) same is), ap (λ (l : List ℤ). get_or l u (pos 0)) grown ∙ (get_or_push ends z (pos 0) u (w.count ∙ sym s) ∙ e))
  ];
}

pub coordinates_more : (numbers : List ℕ) (i x : ℕ) (made made' : List ℤ) (z : ℤ) → i < length numbers → made ≡ map pos (take i numbers) → get_or numbers i 0 ≡ x → z ≡ pos x → made' ≡ made ++ z ∷ [] → made' ≡ map pos (take (i + 1) numbers)
coordinates_more numbers i x made made' z l old is e grown =
    grown ∙ (ap (λ m. m ++ z ∷ []) old ∙ (ap (λ y. map pos (take i numbers) ++ y ∷ []) (e ∙ ap pos (sym is)) ∙ sym (map_more pos numbers i 0 l)))

-- ends of the rows before v, in a list that has a place for each row
pub record AreEndsTo (rows : List (List ℕ)) (IsEnd : List ℕ → ℕ → Type 0) (v : ℕ) (ends : List ℤ) : Type 0 where
  pub each : (u : ℕ) → u < v → (x : ℕ) × IsEnd (arcs_of rows u) x × (get_or ends u (pos 0) ≡ pos x)

pub AreEndsTo-more : (rows : List (List ℕ)) (IsEnd : List ℕ → ℕ → Type 0) (v x : ℕ) (ends ends' : List ℤ) → v < length ends → AreEndsTo rows IsEnd v ends → IsEnd (arcs_of rows v) x → ends' ≡ set ends v (pos x) → AreEndsTo rows IsEnd (v + 1) ends'
AreEndsTo-more rows IsEnd v x ends ends' in_ends w is put = record {
  each = λ u l. elim (cases_lt u v) [
    | inl less ↦
        let old = w.each u less in
        (old.0, old.1, ap (λ (l : List ℤ). get_or l u (pos 0)) put ∙ (get_or-set_other ends v u (pos x) (pos 0) (λ e. (let q = e in omega arith)) ∙ old.2))
    | inr most ↦
        let s : u ≡ v = omega (arith, most, l) in
        (x, subst (λ k. IsEnd (arcs_of rows k) x) (sym s) is, ap (λ (l : List ℤ). get_or l u (pos 0)) put ∙ (ap (λ k. get_or (set ends v (pos x)) k (pos 0)) s ∙ get_or-set_same ends v (pos x) (pos 0) in_ends))
  ];
}

pub coordinates_set : (numbers : List ℕ) (i : ℕ) (made : List ℤ) (z : ℤ) → i < length numbers → i < length made → take i made ≡ map pos (take i numbers) → z ≡ pos (get_or numbers i 0) → take (i + 1) (set made i z) ≡ map pos (take (i + 1) numbers)
coordinates_set numbers i made z l m old e =
    take_more_set made i z m ∙ (ap (λ r. r ++ z ∷ []) old ∙ (ap (λ y. map pos (take i numbers) ++ y ∷ []) e ∙ sym (map_more pos numbers i 0 l)))
