-- The shape of blocks put together: each list falls, and no block is deeper than an earlier one.
use Rattle.std.proofs.Common.{◌≡◌, ◌⊎◌, ℕ, ◌<◌, ◌≤◌, Bool, true, false, not, length, length-append, List, [], ◌∷◌, ◌++◌, Contains, refl, sym, ap, ◌∙◌, subst, inl, inr, arith}
use Rattle.std.specs.List.{AllByRecursion as Each}
use Rattle.std.proofs.lemmas.Bool.{true≢false}
use Rattle.std.proofs.lemmas.List.Elements.{Contains-append_cases, Contains-append_left, Contains-append_right}
use Rattle.left_right_blocks.specs.Parts.{IsUnion}
use Rattle.left_right_blocks.specs.Blocks.{Block, edges_of, edges_in, AllOn, Agrees, AllAgree, IsShort, Falls, IsOver, AreStacked, IsBlock, IsPart}
use Rattle.left_right_blocks.proofs.Eaches.{each_joined, each_left, each_right, each_in, each_weaker, each_turned, each_itself, edges_append, each_edges, each_edges_left, each_edges_right}
use Rattle.left_right_blocks.specs.Found.{IsOneSided, taken, is_deep, hit_of, off_of, hits, offs, IsHit, IsFound, merged}
use Rattle.left_right_blocks.proofs.Merged.{each_taken, each_untaken, in_two, merged_meets, merged_sound, some_deep, each_two, each_hits, each_offs, each_found}

module _ (height : ℕ → ℕ) where
  abbrev Below : ℕ → ℕ → Type 0
  Below x y = height y ≤ height x

  -- ---- lists over others
  pub over_left : (xs ys zs : List ℕ) → IsOver height (xs ++ ys) zs → IsOver height xs zs
  over_left xs ys zs h = each_left (λ x. Each (Below x) zs) xs ys h

  pub over_right : (xs ys zs : List ℕ) → IsOver height (xs ++ ys) zs → IsOver height ys zs
  over_right xs ys zs h = each_right (λ x. Each (Below x) zs) xs ys h

  pub over_both : (xs ys zs : List ℕ) → IsOver height xs zs → IsOver height ys zs → IsOver height (xs ++ ys) zs
  over_both xs ys zs h k = each_joined (λ x. Each (Below x) zs) xs ys h k

  pub over_front : (xs ys zs : List ℕ) → IsOver height xs (ys ++ zs) → IsOver height xs ys
  over_front [] ys zs h = tt
  over_front (x ∷ xs) ys zs h = (each_left (Below x) ys zs h.0, over_front xs ys zs h.1)

  pub over_back : (xs ys zs : List ℕ) → IsOver height xs (ys ++ zs) → IsOver height xs zs
  over_back [] ys zs h = tt
  over_back (x ∷ xs) ys zs h = (each_right (Below x) ys zs h.0, over_back xs ys zs h.1)

  pub over_joined : (xs ys zs : List ℕ) → IsOver height xs ys → IsOver height xs zs → IsOver height xs (ys ++ zs)
  over_joined [] ys zs h k = tt
  over_joined (x ∷ xs) ys zs h k = (each_joined (Below x) ys zs h.0 k.0, over_joined xs ys zs h.1 k.1)

  -- one side of a depth over the other
  pub over_at : (d : ℕ) (xs ys : List ℕ) → Each (λ x. d ≤ height x) xs → Each (λ y. height y ≤ d) ys → IsOver height xs ys
  over_at d [] ys h k = tt
  over_at d (x ∷ xs) ys h k =
      let l = h.0 in (each_weaker (λ y. height y ≤ d) (Below x) (λ y m. omega arith) ys k, over_at d xs ys h.1 k)

  pub falls_joined : (xs ys : List ℕ) → Falls height xs → Falls height ys → IsOver height xs ys → Falls height (xs ++ ys)
  falls_joined [] ys h k o = k
  falls_joined (x ∷ xs) ys h k o = (each_joined (Below x) xs ys h.0 o.0, falls_joined xs ys h.1 k o.1)

  pub over_sub : (xs ys zs : List ℕ) → IsOver height xs ys → ((P : ℕ → Type 0) → Each P ys → Each P zs) → IsOver height xs zs
  over_sub [] ys zs h f = tt
  over_sub (x ∷ xs) ys zs h f = (f (Below x) h.0, over_sub xs ys zs h.1 f)

  over_none : (xs : List ℕ) → IsOver height xs []
  over_none [] = tt
  over_none (x ∷ xs) = (tt, over_none xs)

  -- ---- stacks
  pub stacked_left : (bs cs : List Block) → AreStacked height (bs ++ cs) → AreStacked height bs
  stacked_left [] cs h = tt
  stacked_left (b ∷ bs) cs h =
      (over_front (edges_of b) (edges_in bs) (edges_in cs) (subst (IsOver height (edges_of b)) (edges_append bs cs) h.0), stacked_left bs cs h.1)

  pub stacked_right : (bs cs : List Block) → AreStacked height (bs ++ cs) → AreStacked height cs
  stacked_right [] cs h = h
  stacked_right (b ∷ bs) cs h = stacked_right bs cs h.1

  pub stacked_over : (bs cs : List Block) → AreStacked height (bs ++ cs) → IsOver height (edges_in bs) (edges_in cs)
  stacked_over [] cs h = tt
  stacked_over (b ∷ bs) cs h =
      over_both (edges_of b) (edges_in bs) (edges_in cs) (over_back (edges_of b) (edges_in bs) (edges_in cs) (subst (IsOver height (edges_of b)) (edges_append bs cs) h.0)) (stacked_over bs cs h.1)

  pub stacked_joined : (bs cs : List Block) → AreStacked height bs → AreStacked height cs → IsOver height (edges_in bs) (edges_in cs) → AreStacked height (bs ++ cs)
  stacked_joined [] cs h k o = k
  stacked_joined (b ∷ bs) cs h k o =
      (subst (IsOver height (edges_of b)) (sym (edges_append bs cs)) (over_joined (edges_of b) (edges_in bs) (edges_in cs) h.0 (over_left (edges_of b) (edges_in bs) (edges_in cs) o)), stacked_joined bs cs h.1 k (over_right (edges_of b) (edges_in bs) (edges_in cs) o))

  -- the edges of blocks are as deep as the blocks say
  pub all_deep : (low : ℕ) (bs : List Block) → Each (IsBlock height low) bs → Each (λ x. low ≤ height x) (edges_in bs)
  all_deep low [] h = tt
  all_deep low (b ∷ bs) h = each_joined (λ x. low ≤ height x) (edges_of b) (edges_in bs) h.0.deep (all_deep low bs h.1)

  -- ---- the lists of blocks that are hit
  module _ (limit low : ℕ) (le : limit ≤ low) where
    hits_fall : (hs : List Block) → Each (IsBlock height limit) hs → AreStacked height hs → Falls height (hits height low hs)
    hits_fall [] b s = tt
    hits_fall (t ∷ ts) b s =
        let here : Falls height (hit_of height low t) = elim (in_two height low t) [ inl e ↦ subst (Falls height) (sym e.0) b.0.one_falls | inr e ↦ subst (Falls height) (sym e.0) b.0.other_falls ] in
        falls_joined (hit_of height low t) (hits height low ts) here (hits_fall ts b.1 s.1)
        (over_sub (hit_of height low t) (edges_in ts) (hits height low ts) (each_two height (λ x. Each (Below x) (edges_in ts)) low t s.0).0 (λ P. each_hits height P low ts))

    offs_fall : (hs : List Block) → Each (IsBlock height limit) hs → AreStacked height hs → Falls height (offs height low hs)
    offs_fall [] b s = tt
    offs_fall (t ∷ ts) b s =
        let here : Falls height (off_of height low t) = elim (in_two height low t) [ inl e ↦ subst (Falls height) (sym e.1) b.0.other_falls | inr e ↦ subst (Falls height) (sym e.1) b.0.one_falls ] in
        falls_joined (off_of height low t) (offs height low ts) here (offs_fall ts b.1 s.1)
        (over_sub (off_of height low t) (edges_in ts) (offs height low ts) (each_two height (λ x. Each (Below x) (edges_in ts)) low t s.0).1 (λ P. each_offs height P low ts))

    taken_fall : (ts : List Block) → Each IsOneSided ts → Each (IsBlock height low) ts → AreStacked height ts → Falls height (taken ts)
    taken_fall [] o b s = tt
    taken_fall (t ∷ ts) o b s =
        let mid : IsOver height t.other t.one = elim o.0 [ inl e ↦ subst (IsOver height t.other) (sym e) (over_none t.other) | inr e ↦ subst (λ xs. IsOver height xs t.one) (sym e) tt ] in
        let here : Falls height (t.other ++ t.one) = falls_joined t.other t.one b.0.other_falls b.0.one_falls mid in
        falls_joined (t.other ++ t.one) (taken ts) here (taken_fall ts o.1 b.1 s.1)
        (over_sub (t.other ++ t.one) (edges_in ts) (taken ts) (each_turned (λ x. Each (Below x) (edges_in ts)) t.one t.other s.0) (λ P. each_taken P ts))

    -- a block that is hit has all edges deeper than the limit
    hit_above : (t : Block) → IsBlock height limit t → IsHit height low t → Each (λ x. limit < height x) (edges_of t)
    hit_above t b h =
        elim b.lone [
          | inr all ↦ all
          | inl one ↦
              let x = one.0 in
              let same : Each (λ y. y ≡ x) (edges_of t) = subst (Each (λ y. y ≡ x)) (sym one.1) (refl, tt) in
              let found = some_deep height low (hit_of height low t) h.deep in
              let e : found.0 ≡ x = (subst (Each (λ y. y ≡ x)) found.1.1.0 (each_two height (λ y. y ≡ x) low t same).0).0 in
              let l : limit < height x = (let a = ap height e in let d = found.1.1.1 in omega arith) in
              subst (Each (λ y. limit < height y)) (sym one.1) (l, tt)
        ]

    all_above : (hs : List Block) → Each (IsBlock height limit) hs → Each (IsHit height low) hs → Each (λ x. limit < height x) (edges_in hs)
    all_above [] b h = tt
    all_above (t ∷ ts) b h =
        each_joined (λ x. limit < height x) (edges_of t) (edges_in ts) (hit_above t b.0 h.0) (all_above ts b.1 h.1)

    all_shallow : (hs : List Block) → Each (IsHit height low) hs → Each (λ y. height y ≤ low) (offs height low hs)
    all_shallow [] h = tt
    all_shallow (t ∷ ts) h =
        each_joined (λ y. height y ≤ low) (off_of height low t) (offs height low ts) h.0.shallow (all_shallow ts h.1)

    -- a block that is deeper than a depth is deeper than a lesser one
    pub block_weaker : (t : Block) → IsBlock height low t → IsBlock height limit t
    block_weaker t b =
        record {
          one_falls = b.one_falls;
          other_falls = b.other_falls;
          some = b.some;
          deep = each_weaker (λ x. low ≤ height x) (λ x. limit ≤ height x) (λ x m. omega arith) (edges_of t) b.deep;
          lone = elim b.lone [ inl one ↦ inl one | inr all ↦ inr (each_weaker (λ x. low < height x) (λ x. limit < height x) (λ x m. omega arith) (edges_of t) all) ];
        }

-- ---- lists with an edge
abbrev pub HasSome : List ℕ → Type 0
HasSome xs = (x : ℕ) × ((rest : List ℕ) × (xs ≡ x ∷ rest))

some_left : (xs ys : List ℕ) → HasSome xs → HasSome (xs ++ ys)
some_left xs ys s = (s.0, (s.1.0 ++ ys, ap (λ zs. zs ++ ys) s.1.1))

some_right : (xs ys : List ℕ) → HasSome ys → HasSome (xs ++ ys)
some_right [] ys s = s
some_right (x ∷ xs) ys s = (x, (xs ++ ys, refl))

some_turned : (xs ys : List ℕ) → HasSome (xs ++ ys) → HasSome (ys ++ xs)
some_turned [] ys s = some_left ys [] s
some_turned (x ∷ xs) ys s = some_right ys (x ∷ xs) (x, (xs, refl))

-- ---- two parts put together
module _ (height : ℕ → ℕ) (limit low : ℕ) (p q : List Block) (a : IsPart height limit p) (b : IsPart height low q) (le : limit ≤ low) where
  module _ (ts qs hs ps : List Block) (t : Block) (ts' : List Block) (some : ts ≡ t ∷ ts') (f : IsFound height limit low p q ts qs hs ps) where
    abbrev new : List Block
    new = merged height low ts hs ∷ (ps ++ qs)

    abbrev A : List ℕ
    A = hits height low hs

    abbrev B : List ℕ
    B = offs height low hs

    abbrev M : List ℕ
    M = taken ts

    p_blocks : Each (IsBlock height limit) (hs ++ ps)
    p_blocks = subst (Each (IsBlock height limit)) f.p_is a.blocks

    q_blocks : Each (IsBlock height low) (ts ++ qs)
    q_blocks = subst (Each (IsBlock height low)) f.q_is b.blocks

    p_stacked : AreStacked height (hs ++ ps)
    p_stacked = subst (AreStacked height) f.p_is a.stacked

    q_stacked : AreStacked height (ts ++ qs)
    q_stacked = subst (AreStacked height) f.q_is b.stacked

    h_blocks : Each (IsBlock height limit) hs
    h_blocks = each_left (IsBlock height limit) hs ps p_blocks

    t_blocks : Each (IsBlock height low) ts
    t_blocks = each_left (IsBlock height low) ts qs q_blocks

    -- each edge of the new blocks is one of the old ones, and the other way round
    each_new : (P : ℕ → Type 0) → Each P (edges_in p) → Each P (edges_in q) → Each P (edges_in new)
    each_new P h k =
        let h' = subst (λ bs. Each P (edges_in bs)) f.p_is h in
        let k' = subst (λ bs. Each P (edges_in bs)) f.q_is k in
        let in_hs = each_edges_left P hs ps h' in
        each_joined P (A ++ (M ++ B)) (edges_in (ps ++ qs))
        (each_joined P A (M ++ B) (each_hits height P low hs in_hs) (each_joined P M B (each_taken P ts (each_edges_left P ts qs k')) (each_offs height P low hs in_hs)))
        (each_edges P ps qs (each_edges_right P hs ps h') (each_edges_right P ts qs k'))

    each_old : (P : ℕ → Type 0) → Each P (edges_in new) → Each P (edges_in p) × Each P (edges_in q)
    each_old P h =
        let block = each_left P (A ++ (M ++ B)) (edges_in (ps ++ qs)) h in
        let rest = each_right P (A ++ (M ++ B)) (edges_in (ps ++ qs)) h in
        let mid = each_right P A (M ++ B) block in (
          subst (λ bs. Each P (edges_in bs)) (sym f.p_is) (each_edges P hs ps (each_found height P low hs (each_left P A (M ++ B) block) (each_right P M B mid)) (each_edges_left P ps qs rest)),
          subst (λ bs. Each P (edges_in bs)) (sym f.q_is) (each_edges P ts qs (each_untaken P ts (each_left P M B mid)) (each_edges_right P ps qs rest)),
        )

    m_deep : Each (λ x. low ≤ height x) M
    m_deep = each_taken (λ x. low ≤ height x) ts (all_deep height low ts t_blocks)

    above : Each (λ x. limit < height x) (A ++ (M ++ B))
    above =
        let in_hs = all_above height limit low le hs h_blocks f.hit in
        each_joined (λ x. limit < height x) A (M ++ B) (each_hits height (λ x. limit < height x) low hs in_hs) (each_joined (λ x. limit < height x) M B (each_taken (λ x. limit < height x) ts f.above) (each_offs height (λ x. limit < height x) low hs in_hs))

    deep : Each (λ x. limit ≤ height x) (A ++ (M ++ B))
    deep = each_weaker (λ x. limit < height x) (λ x. limit ≤ height x) (λ x m. omega arith) (A ++ (M ++ B)) above

    new_block : IsBlock height limit (merged height low ts hs)
    new_block =
        record {
          one_falls = hits_fall height limit low le hs h_blocks (stacked_left height hs ps p_stacked);
          other_falls = falls_joined height M B (taken_fall height limit low le ts f.sided t_blocks (stacked_left height ts qs q_stacked)) (offs_fall height limit low le hs h_blocks (stacked_left height hs ps p_stacked)) (over_at height low M B m_deep (all_shallow height limit low le hs f.hit));
          some = some_right A (M ++ B) (some_left M B (subst (λ us. HasSome (taken us)) (sym some) (some_left (t.other ++ t.one) (taken ts') (some_turned t.one t.other (subst (Each (IsBlock height low)) some t_blocks).0.some))));
          deep = deep;
          lone = inr above;
        }

    over_rest : IsOver height (A ++ (M ++ B)) (edges_in (ps ++ qs))
    over_rest =
        let on_ps = stacked_over height hs ps p_stacked in
        subst (IsOver height (A ++ (M ++ B))) (sym (edges_append ps qs))
        (over_joined height (A ++ (M ++ B)) (edges_in ps) (edges_in qs)
        (over_both height A (M ++ B) (edges_in ps) (each_hits height (λ x. Each (Below height x) (edges_in ps)) low hs on_ps) (over_both height M B (edges_in ps) (over_at height low M (edges_in ps) m_deep f.rest) (each_offs height (λ x. Each (Below height x) (edges_in ps)) low hs on_ps)))
        (over_at height limit (A ++ (M ++ B)) (edges_in qs) deep f.level))

    pub union_some : IsUnion height limit low p q new
    union_some =
        record {
          part = record {
            blocks = (new_block, each_joined (IsBlock height limit) ps qs (each_right (IsBlock height limit) hs ps p_blocks) (each_weaker (IsBlock height low) (IsBlock height limit) (block_weaker height limit low le) qs (each_right (IsBlock height low) ts qs q_blocks)));
            stacked = (over_rest, stacked_joined height ps qs (stacked_right height hs ps p_stacked) (stacked_right height ts qs q_stacked) (over_at height limit (edges_in ps) (edges_in qs) (all_deep height limit ps (each_right (IsBlock height limit) hs ps p_blocks)) f.level));
          };
          held = λ x. (
            (λ c. each_in (λ y. Contains (edges_in p) y ⊎ Contains (edges_in q) y) (edges_in new) x (each_new (λ y. Contains (edges_in p) y ⊎ Contains (edges_in q) y) (each_weaker (Contains (edges_in p)) (λ y. Contains (edges_in p) y ⊎ Contains (edges_in q) y) (λ y k. inl k) (edges_in p) (each_itself (edges_in p))) (each_weaker (Contains (edges_in q)) (λ y. Contains (edges_in p) y ⊎ Contains (edges_in q) y) (λ y k. inr k) (edges_in q) (each_itself (edges_in q)))) c),
            (λ c. let both = each_old (Contains (edges_in new)) (each_itself (edges_in new)) in elim c [ inl k ↦ each_in (Contains (edges_in new)) (edges_in p) x both.0 k | inr k ↦ each_in (Contains (edges_in new)) (edges_in q) x both.1 k ]),
          );
          agree = λ side. (merged_meets height side limit low p q ts qs hs ps f, λ h. merged_sound height side limit low p q ts qs hs ps f h.0.0 h.0.1 h.1);
        }

  -- where none of the second part is deeper than the limit
  pub union_none : Each (λ x. height x ≤ limit) (edges_in q) → Each (λ y. height y ≤ low) (edges_in p) → IsUnion height limit low p q (p ++ q)
  union_none level rest =
      record {
        part = record {
          blocks = each_joined (IsBlock height limit) p q a.blocks (each_weaker (IsBlock height low) (IsBlock height limit) (block_weaker height limit low le) q b.blocks);
          stacked = stacked_joined height p q a.stacked b.stacked (over_at height limit (edges_in p) (edges_in q) (all_deep height limit p a.blocks) level);
        };
        held = λ x. (
          (λ c. Contains-append_cases (edges_in p) (edges_in q) x (subst (λ xs. Contains xs x) (edges_append p q) c)),
          (λ c. subst (λ xs. Contains xs x) (sym (edges_append p q)) (elim c [ inl k ↦ Contains-append_left (edges_in p) (edges_in q) x k | inr k ↦ Contains-append_right (edges_in p) (edges_in q) x k ])),
        );
        agree = λ side. (
          (λ h. (
            (each_left (Agrees side) p q h, each_right (Agrees side) p q h),
            (true, (each_weaker (λ x. height x ≤ limit) (λ x. limit < height x → side x ≡ true) (λ x m l. absurd (omega arith)) (edges_in q) level, each_weaker (λ y. height y ≤ low) (λ y. low < height y → side y ≡ not true) (λ y m l. absurd (omega arith)) (edges_in p) rest)),
          )),
          (λ h. each_joined (Agrees side) p q h.0.0 h.0.1),
        );
      }

  -- ---- contradictions
  -- a block with two lists, of which one is deeper than the limit, is not on one side
  pub two_sided : (ts qs : List Block) (t : Block) (side : ℕ → Bool) → q ≡ ts ++ (t ∷ qs) → HasSome t.one → HasSome t.other → AllAgree side q → ¬ IsShort height side limit low (edges_in p) (edges_in q)
  two_sided ts qs t side is one other agree short =
      let s = short.0 in
      let block : IsBlock height low t = (each_right (IsBlock height low) ts (t ∷ qs) (subst (Each (IsBlock height low)) is b.blocks)).0 in
      let agrees : Agrees side t = (each_right (Agrees side) ts (t ∷ qs) (subst (AllAgree side) is agree)).0 in
      let all : Each (λ x. low < height x) (edges_of t) = elim block.lone [
        | inr h ↦ h
        | inl h ↦ absurd (let e = ap length (sym h.1) in let m = length-append t.one t.other in let i = ap length one.1.1 in let j = ap length other.1.1 in omega arith)
      ] in
      let on : Each (λ x. limit < height x → side x ≡ s) (edges_of t) = each_left (λ x. limit < height x → side x ≡ s) (edges_of t) (edges_in qs) (each_edges_right (λ x. limit < height x → side x ≡ s) ts (t ∷ qs) (subst (λ bs. Each (λ x. limit < height x → side x ≡ s) (edges_in bs)) is short.1.0)) in
      let l = (subst (Each (λ x. low < height x)) one.1.1 (each_left (λ x. low < height x) t.one t.other all)).0 in
      let m = (subst (Each (λ x. low < height x)) other.1.1 (each_right (λ x. low < height x) t.one t.other all)).0 in
      let x_on : side one.0 ≡ s = (subst (Each (λ x. limit < height x → side x ≡ s)) one.1.1 (each_left (λ x. limit < height x → side x ≡ s) t.one t.other on)).0 (omega arith) in
      let y_on : side other.0 ≡ s = (subst (Each (λ x. limit < height x → side x ≡ s)) other.1.1 (each_right (λ x. limit < height x → side x ≡ s) t.one t.other on)).0 (omega arith) in
      let x_at : side one.0 ≡ agrees.0 = (subst (AllOn side agrees.0) one.1.1 agrees.1.0).0 in
      let y_at : side other.0 ≡ not agrees.0 = (subst (AllOn side (not agrees.0)) other.1.1 agrees.1.1).0 in
      clash agrees.0 (sym x_at ∙ (x_on ∙ (sym y_on ∙ y_at)))
    where
      clash : (s : Bool) → s ≡ not s → ⊥
      clash true e = true≢false e
      clash false e = true≢false (sym e)

  -- a block of which both lists are deeper than the depth is on both sides
  pub two_deep : (hs ps : List Block) (t : Block) (side : ℕ → Bool) → p ≡ hs ++ (t ∷ ps) → is_deep height low t.one ≡ true → is_deep height low t.other ≡ true → AllAgree side p → ¬ IsShort height side limit low (edges_in p) (edges_in q)
  two_deep hs ps t side is deep_one deep_other agree short =
      let s = not short.0 in
      let one = some_deep height low t.one deep_one in
      let other = some_deep height low t.other deep_other in
      let agrees : Agrees side t = (each_right (Agrees side) hs (t ∷ ps) (subst (AllAgree side) is agree)).0 in
      let on : Each (λ x. low < height x → side x ≡ s) (edges_of t) = each_left (λ x. low < height x → side x ≡ s) (edges_of t) (edges_in ps) (each_edges_right (λ x. low < height x → side x ≡ s) hs (t ∷ ps) (subst (λ bs. Each (λ x. low < height x → side x ≡ s) (edges_in bs)) is short.1.1)) in
      let x_on : side one.0 ≡ s = (subst (Each (λ x. low < height x → side x ≡ s)) one.1.1.0 (each_left (λ x. low < height x → side x ≡ s) t.one t.other on)).0 one.1.1.1 in
      let y_on : side other.0 ≡ s = (subst (Each (λ x. low < height x → side x ≡ s)) other.1.1.0 (each_right (λ x. low < height x → side x ≡ s) t.one t.other on)).0 other.1.1.1 in
      let x_at : side one.0 ≡ agrees.0 = (subst (AllOn side agrees.0) one.1.1.0 agrees.1.0).0 in
      let y_at : side other.0 ≡ not agrees.0 = (subst (AllOn side (not agrees.0)) other.1.1.0 agrees.1.1).0 in
      clash agrees.0 (sym x_at ∙ (x_on ∙ (sym y_on ∙ y_at)))
    where
      clash : (s : Bool) → s ≡ not s → ⊥
      clash true e = true≢false e
      clash false e = true≢false (sym e)
