-- Sides that keep ties, found from the last tie to the first.
use Rattle.std.proofs.Common.{take, drop-cons, ◌≡◌, ◌≢◌, ℕ, zero, suc, ◌<◌, Bool, false, not, cond, drop, List, [], ◌∷◌, ◌++◌, length, get_or, set, sym, ap, ◌∙◌, subst, arith, get_or-set_same, get_or-set_other}
use Rattle.std.proofs.Math.Seq.{take-append_seam}
use Rattle.std.specs.List.{AllByRecursion as Each}
use Rattle.left_right_blocks.specs.Ties.{AreKept, AreInTurn, AreBelow}
use Rattle.left_right_blocks.specs.declared.ties.Tie.{Tie}

abbrev pub by_table : List Bool → ℕ → Bool
by_table sides x = get_or sides x false

-- one more tie is kept, and those behind it still are
pub kept_more : (sides : List Bool) (t : Tie) (ts : List Tie) → t.edge < length sides → AreInTurn (t ∷ ts) → AreKept (by_table sides) ts → AreKept (by_table (set sides t.edge (cond t.turn (not (get_or sides t.to false)) (get_or sides t.to false)))) (t ∷ ts)
kept_more sides t ts l turn kept =
    let v = cond t.turn (not (get_or sides t.to false)) (get_or sides t.to false) in
    let new = set sides t.edge v in
    let other : (x : ℕ) → t.edge ≢ x → get_or new x false ≡ get_or sides x false = λ x ne. get_or-set_other sides t.edge x v false (λ e. ne (sym e)) in (
      get_or-set_same sides t.edge v false l ∙ ap (λ z. cond t.turn (not z) z) (sym (other t.to turn.0)),
      rest new other ts turn.1.0 kept,
    )
  where
    rest : (new : List Bool) → ((x : ℕ) → t.edge ≢ x → get_or new x false ≡ get_or sides x false) → (us : List Tie) → Each (λ (u : Tie). (t.edge ≢ u.edge) × (t.edge ≢ u.to)) us → AreKept (by_table sides) us → AreKept (by_table new) us
    rest new other [] off kept = tt
    rest new other (u ∷ us) off kept =
        (other u.edge off.0.0 ∙ (kept.0 ∙ ap (λ z. cond u.turn (not z) z) (sym (other u.to off.0.1))), rest new other us off.1 kept.1)

-- a tie more behind others
pub turn_more : (ts : List Tie) (t : Tie) → AreInTurn ts → Each (λ (u : Tie). (u.edge ≢ t.edge) × (u.edge ≢ t.to)) ts → t.edge ≢ t.to → AreInTurn (ts ++ t ∷ [])
turn_more [] t h off ne = (ne, (tt, tt))
turn_more (u ∷ us) t h off ne = (h.0, (last us h.1.0, turn_more us t h.1.1 off.1 ne))
  where
    last : (ws : List Tie) → Each (λ (w : Tie). (u.edge ≢ w.edge) × (u.edge ≢ w.to)) ws → Each (λ (w : Tie). (u.edge ≢ w.edge) × (u.edge ≢ w.to)) (ws ++ t ∷ [])
    last [] k = (off.0, tt)
    last (w ∷ ws) k = (k.0, last ws k.1)

-- ties from a place on
pub turn_drop : (ts : List Tie) (k : ℕ) → AreInTurn ts → AreInTurn (drop k ts)
turn_drop ts zero h = h
turn_drop [] (suc k) h = h
turn_drop (t ∷ ts) (suc k) h = turn_drop ts k h.1.1

pub below_at : (bound : ℕ) (ts : List Tie) (k : ℕ) (d : Tie) → AreBelow bound ts → k < length ts → (get_or ts k d).edge < bound
below_at bound [] k d h l = absurd (omega arith)
below_at bound (t ∷ ts) zero d h l = h.0
below_at bound (t ∷ ts) (suc k) d h l = below_at bound ts k d h.1 (omega arith)

-- a step of the loop: the tie at a place is kept as well
pub kept_at : (sides : List Bool) (ties : List Tie) (k : ℕ) (t : Tie) (bound v : ℕ) (side : Bool) → k < length ties → t ≡ get_or ties k t → v ≡ t.edge → length sides ≡ bound → AreBelow bound ties → AreInTurn ties → side ≡ cond t.turn (not (by_table sides t.to)) (by_table sides t.to) → AreKept (by_table sides) (drop (suc k) ties) → AreKept (by_table (set sides v side)) (drop k ties)
kept_at sides ties k t bound v side l read same long below turn is kept =
    let rest : drop k ties ≡ t ∷ drop (suc k) ties = drop-cons ties k t l ∙ ap (λ z. z ∷ drop (suc k) ties) (sym read) in
    let inside : t.edge < length sides = (let b = below_at bound ties k t below l in let e = ap (λ (z : Tie). z.edge) read in omega arith) in
    subst (λ w. AreKept (by_table (set sides w side)) (drop k ties)) (sym same)
    (subst (AreKept (by_table (set sides t.edge side))) (sym rest)
    (subst (λ s. AreKept (by_table (set sides t.edge s)) (t ∷ drop (suc k) ties)) (sym is)
    (kept_more sides t (drop (suc k) ties) inside (subst AreInTurn rest (turn_drop ties k turn)) kept)))

-- a table that was lent whole
pub lent_whole : (new rest : List Bool) (n : ℕ) → n ≡ length new → take n (new ++ rest) ≡ new
lent_whole new rest n e = ap (λ k. take k (new ++ rest)) e ∙ take-append_seam new rest
