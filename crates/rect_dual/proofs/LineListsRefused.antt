-- Lists that wrong bodies would give: the clauses refuse them.
use Rattle.std.proofs.Common.{◌≡◌, ◌∙◌, ◌<◌, ℕ, zero, suc, List, [], ◌∷◌, slice_index, ap, sym, arith}
use Rattle.rect_runs.specs.Numbers.{shifted, with_new}
use Rattle.rect_dual.specs.Lines.{AreLines}

-- Things 0 and 1 lie on one line, which goes by 0. That of thing 2 is put behind thing 1, and not behind its line.
behind_a_thing : ¬ AreLines (with_new 2 (λ v. shifted 1 0) 1) 3 2 0 (0 ∷ 0 ∷ 2 ∷ []) (0 ∷ 2 ∷ 0 ∷ [])
unfolding with_new shifted
behind_a_thing w =
    let e : slice_index (0 ∷ 2 ∷ 0 ∷ []) 0 ≡ w.at 1 = ap (slice_index (0 ∷ 2 ∷ 0 ∷ [])) (sym w.begins) ∙ w.links 0 (omega arith) in
    let h : 0 ≡ 1 = ap (with_new 2 (λ v. shifted 1 0) 1) e ∙ w.own 1 (omega arith) in
    omega (arith, h)

-- lists give each thing one number: a line of its own is not that of a thing before it, nor one at another place
AreLines-unique : (f g : ℕ → ℕ) (m q first : ℕ) (lines next : List ℕ) → AreLines f m q first lines next → AreLines g m q first lines next → (v : ℕ) → v < m → f v ≡ g v
AreLines-unique f g m q first lines next a b v l =
    let e : b.at (f v) ≡ b.at (g v) = sym (same_at (f v) (a.number_lt v l)) ∙ (sym (a.line_is v l) ∙ b.line_is v l) in
    sym (b.own (f v) (a.number_lt v l)) ∙ (ap g e ∙ b.own (g v) (b.number_lt v l))
  where
    same_at : (i : ℕ) → i < q → a.at i ≡ b.at i
    same_at zero less = a.begins ∙ sym b.begins
    same_at (suc i) less = sym (a.links i less) ∙ (ap (slice_index next) (same_at i (omega arith)) ∙ b.links i less)

-- things lie on one number of lines, and not on a lesser one
count_not_less : (f : ℕ → ℕ) (m q p first last : ℕ) (lines next rows links : List ℕ) → AreLines f m q first lines next → q < p → ¬ AreLines f m p last rows links
count_not_less f m q p first last lines next rows links a less b =
    let e = b.own q less in
    let h = a.number_lt (b.at q) (b.within q less) in
    omega arith
