-- The blocks of one edge of a fork put into those of earlier ones.
use Rattle.std.proofs.Common.{◌≡◌, ◌⊎◌, ℕ, ◌<◌, ◌≤◌, Bool, true, false, not, List, [], ◌∷◌, ◌++◌, refl, sym, ap, ◌∙◌, subst, inl, inr, arith, append_assoc}
use Rattle.std.specs.List.{AllByRecursion as Each}
use Rattle.std.proofs.lemmas.Bool.{cases_Bool, cond-true, cond-false, true≢false, lt-ltb, ltb-true, cases_lt}
use Rattle.std.proofs.lemmas.List.{append-nil}
use Rattle.left_right_blocks.specs.Blocks.{Block, edges_of, edges_in, AllOn, Agrees, AllAgree, IsShort, Falls}
use Rattle.left_right_blocks.specs.Found.{IsOneSided, taken, is_deep, hit_of, off_of, hits, offs, IsHit, IsFound, merged}
use Rattle.left_right_blocks.proofs.Eaches.{each_joined, each_left, each_right, each_weaker, each_turned, each_edges, each_edges_left}
use Rattle.left_right_blocks.proofs.ShortDemands.{twice}

-- ---- blocks with one list
pub taken_more : (ts : List Block) (t : Block) → taken (ts ++ t ∷ []) ≡ (taken ts ++ t.other) ++ t.one
taken_more [] t = append-nil (t.other ++ t.one)
taken_more (u ∷ us) t =
    ap (λ xs. (u.other ++ u.one) ++ xs) (taken_more us t) ∙ (sym (append_assoc (u.other ++ u.one) (taken us ++ t.other) t.one) ∙ ap (λ xs. xs ++ t.one) (sym (append_assoc (u.other ++ u.one) (taken us) t.other)))

module _ (P : ℕ → Type 0) where
  pub each_taken : (ts : List Block) → Each P (edges_in ts) → Each P (taken ts)
  each_taken [] h = tt
  each_taken (t ∷ ts) h =
      each_joined P (t.other ++ t.one) (taken ts) (each_turned P t.one t.other (each_left P (edges_of t) (edges_in ts) h)) (each_taken ts (each_right P (edges_of t) (edges_in ts) h))

  pub each_untaken : (ts : List Block) → Each P (taken ts) → Each P (edges_in ts)
  each_untaken [] h = tt
  each_untaken (t ∷ ts) h =
      each_joined P (edges_of t) (edges_in ts) (each_turned P t.other t.one (each_left P (t.other ++ t.one) (taken ts) h)) (each_untaken ts (each_right P (t.other ++ t.one) (taken ts) h))

module _ (height : ℕ → ℕ) where
  pub hits_more : (low : ℕ) (bs : List Block) (b : Block) → hits height low (bs ++ b ∷ []) ≡ hits height low bs ++ hit_of height low b
  hits_more low [] b = append-nil (hit_of height low b)
  hits_more low (c ∷ cs) b = ap (λ xs. hit_of height low c ++ xs) (hits_more low cs b) ∙ sym (append_assoc (hit_of height low c) (hits height low cs) (hit_of height low b))

  pub offs_more : (low : ℕ) (bs : List Block) (b : Block) → offs height low (bs ++ b ∷ []) ≡ offs height low bs ++ off_of height low b
  offs_more low [] b = append-nil (off_of height low b)
  offs_more low (c ∷ cs) b = ap (λ xs. off_of height low c ++ xs) (offs_more low cs b) ∙ sym (append_assoc (off_of height low c) (offs height low cs) (off_of height low b))

  -- which list is the deeper
  pub in_two : (low : ℕ) (b : Block) → ((hit_of height low b ≡ b.one) × (off_of height low b ≡ b.other)) ⊎ ((hit_of height low b ≡ b.other) × (off_of height low b ≡ b.one))
  in_two low b =
      elim (cases_Bool (is_deep height low b.one)) [
        | inl t ↦ inl (cond-true {A = List ℕ} (is_deep height low b.one) b.one b.other t, cond-true {A = List ℕ} (is_deep height low b.one) b.other b.one t)
        | inr f ↦ inr (cond-false {A = List ℕ} (is_deep height low b.one) b.one b.other f, cond-false {A = List ℕ} (is_deep height low b.one) b.other b.one f)
      ]

  -- a deeper list has a first edge, which is deeper
  pub some_deep : (low : ℕ) (xs : List ℕ) → is_deep height low xs ≡ true → (x : ℕ) × ((rest : List ℕ) × ((xs ≡ x ∷ rest) × (low < height x)))
  some_deep low [] t = absurd (true≢false (sym t))
  some_deep low (x ∷ xs) t = (x, (xs, (refl, ltb-true low (height x) t)))

  -- in a falling list of which the first is not deeper none is
  pub none_deep : (low : ℕ) (xs : List ℕ) → Falls height xs → is_deep height low xs ≡ false → Each (λ y. height y ≤ low) xs
  none_deep low [] falls f = tt
  none_deep low (x ∷ xs) falls f =
      let l : height x ≤ low = elim (cases_lt low (height x)) [ inl less ↦ absurd (true≢false (sym (lt-ltb low (height x) less) ∙ f)) | inr m ↦ m ] in
      (l, each_weaker (λ y. height y ≤ height x) (λ y. height y ≤ low) (λ y m. omega arith) xs falls.0)

  module _ (P : ℕ → Type 0) (low : ℕ) where
    pub each_two : (b : Block) → Each P (edges_of b) → Each P (hit_of height low b) × Each P (off_of height low b)
    each_two b h =
        let one = each_left P b.one b.other h in
        let other = each_right P b.one b.other h in
        elim (in_two low b) [ inl e ↦ (subst (Each P) (sym e.0) one, subst (Each P) (sym e.1) other) | inr e ↦ (subst (Each P) (sym e.0) other, subst (Each P) (sym e.1) one) ]

    pub each_hits : (bs : List Block) → Each P (edges_in bs) → Each P (hits height low bs)
    each_hits [] h = tt
    each_hits (b ∷ bs) h =
        each_joined P (hit_of height low b) (hits height low bs) (each_two b (each_left P (edges_of b) (edges_in bs) h)).0 (each_hits bs (each_right P (edges_of b) (edges_in bs) h))

    pub each_offs : (bs : List Block) → Each P (edges_in bs) → Each P (offs height low bs)
    each_offs [] h = tt
    each_offs (b ∷ bs) h =
        each_joined P (off_of height low b) (offs height low bs) (each_two b (each_left P (edges_of b) (edges_in bs) h)).1 (each_offs bs (each_right P (edges_of b) (edges_in bs) h))

    pub each_both : (b : Block) → Each P (hit_of height low b) → Each P (off_of height low b) → Each P (edges_of b)
    each_both b h k =
        elim (in_two low b) [
          | inl e ↦ each_joined P b.one b.other (subst (Each P) e.0 h) (subst (Each P) e.1 k)
          | inr e ↦ each_joined P b.one b.other (subst (Each P) e.1 k) (subst (Each P) e.0 h)
        ]

    pub each_found : (bs : List Block) → Each P (hits height low bs) → Each P (offs height low bs) → Each P (edges_in bs)
    each_found [] h k = tt
    each_found (b ∷ bs) h k =
        each_joined P (edges_of b) (edges_in bs) (each_both b (each_left P (hit_of height low b) (hits height low bs) h) (each_left P (off_of height low b) (offs height low bs) k)) (each_found bs (each_right P (hit_of height low b) (hits height low bs) h) (each_right P (off_of height low b) (offs height low bs) k))

  module _ (side : ℕ → Bool) (limit low : ℕ) where
    -- ---- sides that are as the new block has them
    hit_agrees : (s : Bool) (hs : List Block) → AllOn side s (hits height low hs) → AllOn side (not s) (offs height low hs) → AllAgree side hs
    hit_agrees s [] a b = tt
    hit_agrees s (t ∷ ts) a b =
        let hit = each_left (λ x. side x ≡ s) (hit_of height low t) (hits height low ts) a in
        let off = each_left (λ x. side x ≡ not s) (off_of height low t) (offs height low ts) b in (
          elim (in_two low t) [
            | inl e ↦ (s, (subst (AllOn side s) e.0 hit, subst (AllOn side (not s)) e.1 off))
            | inr e ↦ (not s, (subst (AllOn side (not s)) e.1 off, subst (λ z. AllOn side z t.other) (sym (twice s)) (subst (AllOn side s) e.0 hit)))
          ],
          hit_agrees s ts (each_right (λ x. side x ≡ s) (hit_of height low t) (hits height low ts) a) (each_right (λ x. side x ≡ not s) (off_of height low t) (offs height low ts) b),
        )

    sided_agrees : (s : Bool) (ts : List Block) → Each IsOneSided ts → AllOn side s (edges_in ts) → AllAgree side ts
    sided_agrees s [] sided h = tt
    sided_agrees s (t ∷ ts) sided h =
        let here = each_left (λ x. side x ≡ s) (edges_of t) (edges_in ts) h in
        let one = each_left (λ x. side x ≡ s) t.one t.other here in
        let other = each_right (λ x. side x ≡ s) t.one t.other here in (
          elim sided.0 [
            | inl e ↦ (not s, (subst (AllOn side (not s)) (sym e) tt, subst (λ z. AllOn side z t.other) (sym (twice s)) other))
            | inr e ↦ (s, (one, subst (AllOn side (not s)) (sym e) tt))
          ],
          sided_agrees s ts sided.1 (each_right (λ x. side x ≡ s) (edges_of t) (edges_in ts) h),
        )

    -- the lists of a block that is hit, by the side of its first edge
    block_sides : (s : Bool) (t : Block) → IsHit height low t → Agrees side t → Each (λ y. low < height y → side y ≡ s) (edges_of t) → AllOn side s (hit_of height low t) × AllOn side (not s) (off_of height low t)
    block_sides s t h agrees short =
        let found = some_deep low (hit_of height low t) h.deep in
        let x = found.0 in
        let first : side x ≡ s = (subst (Each (λ y. low < height y → side y ≡ s)) found.1.1.0 (each_two (λ y. low < height y → side y ≡ s) low t short).0).0 found.1.1.1 in
        elim (in_two low t) [
          | inl e ↦
              let same : agrees.0 ≡ s = sym (subst (AllOn side agrees.0) (sym e.0 ∙ found.1.1.0) agrees.1.0).0 ∙ first in
              (subst (AllOn side s) (sym e.0) (subst (λ z. AllOn side z t.one) same agrees.1.0), subst (AllOn side (not s)) (sym e.1) (subst (λ z. AllOn side (not z) t.other) same agrees.1.1))
          | inr e ↦
              let same : not agrees.0 ≡ s = sym (subst (AllOn side (not agrees.0)) (sym e.0 ∙ found.1.1.0) agrees.1.1).0 ∙ first in
              (subst (AllOn side s) (sym e.0) (subst (λ z. AllOn side z t.other) same agrees.1.1), subst (AllOn side (not s)) (sym e.1) (subst (λ z. AllOn side z t.one) (sym (twice agrees.0) ∙ ap not same) agrees.1.0))
        ]

    all_sides : (s : Bool) (hs : List Block) → Each (IsHit height low) hs → AllAgree side hs → Each (λ y. low < height y → side y ≡ s) (edges_in hs) → AllOn side s (hits height low hs) × AllOn side (not s) (offs height low hs)
    all_sides s [] hit agree short = (tt, tt)
    all_sides s (t ∷ ts) hit agree short =
        let here = block_sides s t hit.0 agree.0 (each_left (λ y. low < height y → side y ≡ s) (edges_of t) (edges_in ts) short) in
        let rest = all_sides s ts hit.1 agree.1 (each_right (λ y. low < height y → side y ≡ s) (edges_of t) (edges_in ts) short) in
        (each_joined (λ x. side x ≡ s) (hit_of height low t) (hits height low ts) here.0 rest.0, each_joined (λ x. side x ≡ not s) (off_of height low t) (offs height low ts) here.1 rest.1)

    module _ (p q ts qs hs ps : List Block) (f : IsFound height limit low p q ts qs hs ps) where
      abbrev new : List Block
      new = merged height low ts hs ∷ (ps ++ qs)

      -- sides that are as the new blocks have them are so with the old ones, and are short
      pub merged_meets : AllAgree side new → (AllAgree side p × AllAgree side q) × IsShort height side limit low (edges_in p) (edges_in q)
      merged_meets h =
          let s = h.0.0 in
          let on = h.0.1.0 in
          let off = each_right (λ x. side x ≡ not s) (taken ts) (offs height low hs) h.0.1.1 in
          let far = each_untaken (λ x. side x ≡ not s) ts (each_left (λ x. side x ≡ not s) (taken ts) (offs height low hs) h.0.1.1) in
          let ones : Each (λ y. low < height y → side y ≡ not (not s)) (edges_in (hs ++ ps)) =
          each_edges (λ y. low < height y → side y ≡ not (not s)) hs ps
          (each_found (λ y. low < height y → side y ≡ not (not s)) low hs
          (each_weaker (λ y. side y ≡ s) (λ y. low < height y → side y ≡ not (not s)) (λ y e _. e ∙ sym (twice s)) (hits height low hs) on)
          (shallow hs f.hit))
          (each_weaker (λ y. height y ≤ low) (λ y. low < height y → side y ≡ not (not s)) (λ y m l. absurd (omega arith)) (edges_in ps) f.rest) in
          let others : Each (λ x. limit < height x → side x ≡ not s) (edges_in (ts ++ qs)) =
          each_edges (λ x. limit < height x → side x ≡ not s) ts qs
          (each_weaker (λ x. side x ≡ not s) (λ x. limit < height x → side x ≡ not s) (λ x e _. e) (edges_in ts) far)
          (each_weaker (λ x. height x ≤ limit) (λ x. limit < height x → side x ≡ not s) (λ x m l. absurd (omega arith)) (edges_in qs) f.level) in (
            (
              subst (AllAgree side) (sym f.p_is) (each_joined (Agrees side) hs ps (hit_agrees s hs on off) (each_left (Agrees side) ps qs h.1)),
              subst (AllAgree side) (sym f.q_is) (each_joined (Agrees side) ts qs (sided_agrees (not s) ts f.sided far) (each_right (Agrees side) ps qs h.1)),
            ),
            (not s, (subst (λ bs. Each (λ x. limit < height x → side x ≡ not s) (edges_in bs)) (sym f.q_is) others, subst (λ bs. Each (λ y. low < height y → side y ≡ not (not s)) (edges_in bs)) (sym f.p_is) ones)),
          )
        where
          shallow : (bs : List Block) → Each (IsHit height low) bs → Each (λ y. low < height y → side y ≡ not (not h.0.0)) (offs height low bs)
          shallow [] k = tt
          shallow (b ∷ bs) k =
              each_joined (λ y. low < height y → side y ≡ not (not h.0.0)) (off_of height low b) (offs height low bs)
              (each_weaker (λ y. height y ≤ low) (λ y. low < height y → side y ≡ not (not h.0.0)) (λ y m l. absurd (omega arith)) (off_of height low b) k.0.shallow) (shallow bs k.1)

      -- sides that are as the old blocks have them, and short, are so with the new ones
      pub merged_sound : AllAgree side p → AllAgree side q → IsShort height side limit low (edges_in p) (edges_in q) → AllAgree side new
      merged_sound a b short =
          let s = short.0 in
          let a' : AllAgree side (hs ++ ps) = subst (AllAgree side) f.p_is a in
          let b' : AllAgree side (ts ++ qs) = subst (AllAgree side) f.q_is b in
          let others = subst (λ bs. Each (λ x. limit < height x → side x ≡ s) (edges_in bs)) f.q_is short.1.0 in
          let ones = subst (λ bs. Each (λ y. low < height y → side y ≡ not s) (edges_in bs)) f.p_is short.1.1 in
          let far : AllOn side s (edges_in ts) = meets s (edges_in ts) f.above (each_edges_left (λ x. limit < height x → side x ≡ s) ts qs others) in
          let two = all_sides (not s) hs f.hit (each_left (Agrees side) hs ps a') (each_edges_left (λ y. low < height y → side y ≡ not s) hs ps ones) in (
            (not s, (two.0, each_joined (λ x. side x ≡ not (not s)) (taken ts) (offs height low hs) (each_weaker (λ x. side x ≡ s) (λ x. side x ≡ not (not s)) (λ x e. e ∙ sym (twice s)) (taken ts) (each_taken (λ x. side x ≡ s) ts far)) two.1)),
            each_joined (Agrees side) ps qs (each_right (Agrees side) hs ps a') (each_right (Agrees side) ts qs b'),
          )
        where
          meets : (s : Bool) (xs : List ℕ) → Each (λ x. limit < height x) xs → Each (λ x. limit < height x → side x ≡ s) xs → AllOn side s xs
          meets s [] l h = tt
          meets s (x ∷ xs) l h = (h.0 l.0, meets s xs l.1 h.1)
