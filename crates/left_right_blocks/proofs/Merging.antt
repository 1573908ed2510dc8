-- Two parts of a fork put together in stacks and chained lists.
use Rattle.std.proofs.Common.{◌≡◌, ◌≢◌, ℕ, ◌+◌, ◌<◌, ◌≤◌, Bool, true, false, List, [], ◌∷◌, ◌++◌, Contains, refl, sym, ap, ap₂, ◌∙◌, subst, inl, inr, arith}
use Rattle.std.specs.Prelude.{◌||◌}
use Rattle.std.specs.List.{AllByRecursion as Each}
use Rattle.std.proofs.lemmas.Bool.{cases_eq, or_cases}
use Rattle.std.proofs.lemmas.List.{append-nil}
use Rattle.std.proofs.lemmas.List.Elements.{Contains-append_left, Contains-append_right}
use Rattle.chained_lists.specs.Chains.{put, IsOnce, AreApart}
use Rattle.chained_lists.specs.Held.{Holds}
use Rattle.chained_lists.specs.declared.ChainedLists.{ChainedLists}
use Rattle.chained_lists.proofs.Links.{in_none, in_first, in_cases, put_here, put_other}
use Rattle.left_right_blocks.specs.Blocks.{Block, edges_of, edges_in, AllAgree, IsShort, AreStacked, IsBlock, IsPart}
use Rattle.left_right_blocks.specs.Found.{is_deep, off_of, hits, offs, IsHit, IsFound, merged}
use Rattle.left_right_blocks.specs.Parts.{block_of, blocks_of, IsUnion}
use Rattle.left_right_blocks.specs.Steps.{IsNoneAbove, IsTwoSided, IsTaken, HasTwoSided, IsStruck, IsPut, HasTwoDeep, IsMerged}
use Rattle.left_right_blocks.proofs.Eaches.{each_joined, each_left, each_right, each_weaker}
use Rattle.left_right_blocks.proofs.Merged.{in_two, some_deep, none_deep}
use Rattle.left_right_blocks.proofs.Shaped.{stacked_right, union_some, union_none, two_sided, two_deep}
use Rattle.left_right_blocks.proofs.Steps.{joined_at, joined_other, joined_from, from_over, blocks_append, blocks_same, one_sided}

module _ (height : ℕ → ℕ) where
  -- ---- blocks by their first edges
  -- a block with one list, or of edges above a depth, is deeper than a limit where its first edges say so
  block_above : (limit low : ℕ) → limit ≤ low → (t : Block) → IsBlock height low t → (is_deep height limit t.one || is_deep height limit t.other) ≡ true → Each (λ x. limit < height x) (edges_of t)
  block_above limit low le t b deep =
      elim b.lone [
        | inr all ↦ each_weaker (λ x. low < height x) (λ x. limit < height x) (λ x m. omega arith) (edges_of t) all
        | inl one ↦
            let same : Each (λ y. y ≡ one.0) (edges_of t) = subst (Each (λ y. y ≡ one.0)) (sym one.1) (refl, tt) in
            let l : limit < height one.0 = elim (or_cases (is_deep height limit t.one) (is_deep height limit t.other) deep) [
              | inl d ↦ (let s = some_deep height limit t.one d in let e : s.0 ≡ one.0 = (subst (Each (λ y. y ≡ one.0)) s.1.1.0 (each_left (λ y. y ≡ one.0) t.one t.other same)).0 in subst (λ x. limit < height x) e s.1.1.1)
              | inr d ↦ (let s = some_deep height limit t.other d in let e : s.0 ≡ one.0 = (subst (Each (λ y. y ≡ one.0)) s.1.1.0 (each_right (λ y. y ≡ one.0) t.one t.other same)).0 in subst (λ x. limit < height x) e s.1.1.1)
            ] in
            subst (Each (λ y. limit < height y)) (sym one.1) (l, tt)
      ]

  pub blocks_above : (limit low : ℕ) → limit ≤ low → (ts : List Block) → Each (IsBlock height low) ts → Each (λ (t : Block). (is_deep height limit t.one || is_deep height limit t.other) ≡ true) ts → Each (λ x. limit < height x) (edges_in ts)
  blocks_above limit low le [] b d = tt
  blocks_above limit low le (t ∷ ts) b d =
      each_joined (λ x. limit < height x) (edges_of t) (edges_in ts) (block_above limit low le t b.0 d.0) (blocks_above limit low le ts b.1 d.1)

  -- where the first block has none above a depth, no block has
  pub none_above : (depth low : ℕ) (bs : List Block) → Each (IsBlock height low) bs → AreStacked height bs → IsNoneAbove height depth bs → Each (λ x. height x ≤ depth) (edges_in bs)
  none_above depth low [] b s n = tt
  none_above depth low (t ∷ ts) b s n =
      let here : Each (λ x. height x ≤ depth) (edges_of t) = each_joined (λ x. height x ≤ depth) t.one t.other (none_deep height depth t.one b.0.one_falls n.0) (none_deep height depth t.other b.0.other_falls n.1) in
      let some = b.0.some in
      let x = some.0 in
      let top : height x ≤ depth = (subst (Each (λ x. height x ≤ depth)) some.1.1 here).0 in
      let under : Each (λ y. height y ≤ height x) (edges_in ts) = (subst (Each (λ x. Each (λ y. height y ≤ height x) (edges_in ts))) some.1.1 s.0).0 in
      each_joined (λ x. height x ≤ depth) (edges_of t) (edges_in ts) here (each_weaker (λ y. height y ≤ height x) (λ y. height y ≤ depth) (λ y m. omega arith) (edges_in ts) under)

  pub struck_hit : (limit low : ℕ) (ts : List Block) → Each (IsBlock height limit) ts → Each (IsStruck height low) ts → Each (IsHit height low) ts
  struck_hit limit low [] b s = tt
  struck_hit limit low (t ∷ ts) b s =
      let falls : is_deep height low (off_of height low t) ≡ false → Each (λ y. height y ≤ low) (off_of height low t) = elim (in_two height low t) [
        | inl e ↦ subst (λ xs. is_deep height low xs ≡ false → Each (λ y. height y ≤ low) xs) (sym e.1) (none_deep height low t.other b.0.other_falls)
        | inr e ↦ subst (λ xs. is_deep height low xs ≡ false → Each (λ y. height y ≤ low) xs) (sym e.1) (none_deep height low t.one b.0.one_falls)
      ] in
      (record { deep = s.0.0; shallow = falls s.0.1 }, struck_hit limit low ts b.1 s.1)

module _ (height : ℕ → ℕ) (edges limit from : ℕ) (lists0 stacks0 : ℕ → List ℕ) (apart : AreApart stacks0) (within : (p b : ℕ) → Contains (stacks0 p) b → b < edges) where
  -- ---- the first block taken
  pub taken_first : (b : ℕ) (rest : List ℕ) → stacks0 from ≡ b ∷ rest → ¬ IsTwoSided (block_of edges lists0 b) → (is_deep height limit (lists0 b) || is_deep height limit (lists0 (b + edges))) ≡ true → IsTaken height edges limit from lists0 stacks0 (put b [] (put (b + edges) (lists0 (b + edges) ++ lists0 b) lists0)) (put from rest stacks0) b (b ∷ [])
  taken_first b rest is single deep =
      let bl = within from b (subst (λ xs. Contains xs b) (sym is) (in_first b rest)) in
      let far : b + edges ≢ b = λ e. omega arith in
      record {
        apart = apart;
        within = within from;
        begin = ([], refl);
        cut = is ∙ ap (λ xs. b ∷ xs) (sym (put_here from rest stacks0));
        others = λ p off. put_other from rest stacks0 p off;
        one = put_here b [] (put (b + edges) (lists0 (b + edges) ++ lists0 b) lists0);
        other = joined_at lists0 (b + edges) b far ∙ sym (append-nil (lists0 (b + edges) ++ lists0 b));
        kept = λ c l out.
            let off : c ≢ b = λ e. out (subst (Contains (b ∷ [])) (sym e) (in_first b [])) in
            (joined_other lists0 (b + edges) b far c (λ e. omega arith) off, joined_other lists0 (b + edges) b far (c + edges) (λ e. off (omega arith)) (λ e. omega arith));
        sided = (one_sided (block_of edges lists0 b) single, tt);
        above = (deep, tt);
        moved = joined_from lists0 (b + edges) b far;
      }

  -- a first block with two lists
  pub clash_first : (b : ℕ) (rest : List ℕ) → stacks0 from ≡ b ∷ rest → IsTwoSided (block_of edges lists0 b) → HasTwoSided (blocks_of edges lists0 (stacks0 from))
  clash_first b rest is two = ([], (block_of edges lists0 b, (blocks_of edges lists0 rest, (ap (blocks_of edges lists0) is, two))))

-- lists that were joined, by numbers as the code has them
pub joined_held : (edges first into one : ℕ) (lc lc' : ChainedLists) (lists : ℕ → List ℕ) → first < edges → into ≡ first + edges → one ≡ first → Holds lc lists → ((ls : ℕ → List ℕ) → Holds lc ls → into ≢ one → Holds lc' (put one [] (put into (ls into ++ ls one) ls))) → Holds lc' (put first [] (put (first + edges) (lists (first + edges) ++ lists first) lists))
joined_held edges first into one lc lc' lists l e e' held join =
    let a = subst (λ x. (ls : ℕ → List ℕ) → Holds lc ls → x ≢ one → Holds lc' (put one [] (put x (ls x ++ ls one) ls))) e join in
    let b = subst (λ y. (ls : ℕ → List ℕ) → Holds lc ls → first + edges ≢ y → Holds lc' (put y [] (put (first + edges) (ls (first + edges) ++ ls y) ls))) e' a in
    b lists held (λ same. omega arith)

module _ (height : ℕ → ℕ) (edges limit low into from : ℕ) (lists0 stacks0 : ℕ → List ℕ) (apart : AreApart stacks0) (within : (p b : ℕ) → Contains (stacks0 p) b → b < edges) (ne : into ≢ from) where
  abbrev P : List Block
  P = blocks_of edges lists0 (stacks0 into)

  abbrev Q : List Block
  Q = blocks_of edges lists0 (stacks0 from)

  module _ (lists1 stacks1 : ℕ → List ℕ) (first : ℕ) (ids : List ℕ) (t : IsTaken height edges limit from lists0 stacks0 lists1 stacks1 first ids) (apart1 : AreApart stacks1) where
    id_was : (x : ℕ) → Contains ids x → Contains (stacks0 from) x
    id_was x c = subst (λ xs. Contains xs x) (sym t.cut) (Contains-append_left ids (stacks1 from) x c)

    left_was : (x : ℕ) → Contains (stacks1 from) x → Contains (stacks0 from) x
    left_was x c = subst (λ xs. Contains xs x) (sym t.cut) (Contains-append_right ids (stacks1 from) x c)

    first_was : Contains (stacks0 from) first
    first_was = id_was first (subst (λ xs. Contains xs first) (sym t.begin.1) (in_first first t.begin.0))

    left_off : (x : ℕ) → Contains (stacks1 from) x → ¬ Contains ids x
    left_off x c i = apart_across ids (stacks1 from) x (subst IsOnce t.cut (apart.once from)) i c
      where
        apart_across : (xs ys : List ℕ) (x : ℕ) → IsOnce (xs ++ ys) → Contains xs x → ¬ Contains ys x
        apart_across [] ys x o c k = in_none x c
        apart_across (y ∷ xs) ys x o c k = elim (in_cases y x xs c) [ inl e ↦ o.0 (subst (Contains (xs ++ ys)) (sym e) (Contains-append_right xs ys x k)) | inr c' ↦ apart_across xs ys x o.1 c' k ]

    pub first_fresh : (p : ℕ) → ¬ Contains (stacks1 p) first
    first_fresh p c =
        elim (cases_eq p from) [
          | inl e ↦ left_off first (subst (λ q. Contains (stacks1 q) first) e c) (subst (λ xs. Contains xs first) (sym t.begin.1) (in_first first t.begin.0))
          | inr off ↦ off (apart.one p from first (subst (λ xs. Contains xs first) (t.others p off) c) first_was)
        ]

    pub first_in_range : first < edges
    first_in_range = within from first first_was

    -- what put_more needs
    pub put_begin : IsPut height edges low into lists1 stacks1 lists1 stacks1 first []
    put_begin =
        record {
          apart = apart1;
          within = λ b c. within into b (subst (λ xs. Contains xs b) (t.others into ne) c);
          below = first_in_range;
          fresh = first_fresh;
          cut = refl;
          others = λ p off. refl;
          one = t.one;
          other = sym (append-nil (lists1 (first + edges)));
          kept = λ b l off out. (refl, refl);
          struck = tt;
          moved = λ p x c. (p, c);
        }

    -- a number of another stack than `from` was not taken
    other_off : (p x : ℕ) → p ≢ from → Contains (stacks0 p) x → ¬ Contains ids x
    other_off p x off c i = off (apart.one p from x c (id_was x i))

    same_into : (xs : List ℕ) → ((x : ℕ) → Contains xs x → Contains (stacks0 into) x) → blocks_of edges lists1 xs ≡ blocks_of edges lists0 xs
    same_into xs are = blocks_same edges lists1 lists0 xs (λ b c. t.kept b (within into b (are b c)) (other_off into b ne (are b c)))

    pub same_p : blocks_of edges lists1 (stacks1 into) ≡ P
    same_p = ap (blocks_of edges lists1) (t.others into ne) ∙ same_into (stacks0 into) (λ x c. c)

    pub same_left : blocks_of edges lists1 (stacks1 from) ≡ blocks_of edges lists0 (stacks1 from)
    same_left = blocks_same edges lists1 lists0 (stacks1 from) (λ b c. t.kept b (within from b (left_was b c)) (left_off b c))

    module _ (lists2 stacks2 : ℕ → List ℕ) (hids : List ℕ) (u : IsPut height edges low into lists1 stacks1 lists2 stacks2 first hids) where
      h_was : (x : ℕ) → Contains hids x → Contains (stacks0 into) x
      h_was x c = subst (λ xs. Contains xs x) (t.others into ne) (subst (λ xs. Contains xs x) (sym u.cut) (Contains-append_left hids (stacks2 into) x c))

      s_was : (x : ℕ) → Contains (stacks2 into) x → Contains (stacks0 into) x
      s_was x c = subst (λ xs. Contains xs x) (t.others into ne) (subst (λ xs. Contains xs x) (sym u.cut) (Contains-append_right hids (stacks2 into) x c))

      s_off : (x : ℕ) → Contains (stacks2 into) x → ¬ Contains hids x
      s_off x c i = across hids (stacks2 into) x (subst IsOnce u.cut (u.apart.once into)) i c
        where
          across : (xs ys : List ℕ) (x : ℕ) → IsOnce (xs ++ ys) → Contains xs x → ¬ Contains ys x
          across [] ys x o c k = in_none x c
          across (y ∷ xs) ys x o c k = elim (in_cases y x xs c) [ inl e ↦ o.0 (subst (Contains (xs ++ ys)) (sym e) (Contains-append_right xs ys x k)) | inr c' ↦ across xs ys x o.1 c' k ]

      not_first : (p x : ℕ) → p ≢ from → Contains (stacks0 p) x → x ≢ first
      not_first p x off c e = off (apart.one p from first (subst (Contains (stacks0 p)) e c) first_was)

      left_not_first : (x : ℕ) → Contains (stacks1 from) x → x ≢ first
      left_not_first x c e = first_fresh from (subst (Contains (stacks1 from)) e c)

      hs_are : blocks_of edges lists1 hids ≡ blocks_of edges lists0 hids
      hs_are = same_into hids h_was

      -- the blocks of other numbers than those taken and put
      same_block : (b : ℕ) → b < edges → ¬ Contains ids b → ¬ Contains hids b → b ≢ first → (lists2 b ≡ lists0 b) × (lists2 (b + edges) ≡ lists0 (b + edges))
      same_block b l o o' f = let x = u.kept b l f o' in let y = t.kept b l o in (x.0 ∙ y.0, x.1 ∙ y.1)

      ps_are : blocks_of edges lists2 (stacks2 into) ≡ blocks_of edges lists0 (stacks2 into)
      ps_are =
          blocks_same edges lists2 lists0 (stacks2 into) (λ b c. same_block b (within into b (s_was b c)) (other_off into b ne (s_was b c)) (s_off b c) (not_first into b ne (s_was b c)))

      from_kept : stacks2 from ≡ stacks1 from
      from_kept = u.others from (λ e. ne (sym e))

      qs_are : blocks_of edges lists2 (stacks2 from) ≡ blocks_of edges lists0 (stacks1 from)
      qs_are =
          ap (blocks_of edges lists2) from_kept ∙ blocks_same edges lists2 lists0 (stacks1 from) (λ b c. same_block b (within from b (left_was b c)) (left_off b c) (λ i. ne (apart.one into from b (h_was b i) (left_was b c))) (left_not_first b c))

      first_is : block_of edges lists2 first ≡ merged height low (blocks_of edges lists0 ids) (blocks_of edges lists0 hids)
      first_is =
          ap₂ (λ (xs ys : List ℕ). record { one = xs; other = ys }) (u.one ∙ ap (hits height low) hs_are) (u.other ∙ ap₂ (λ (xs ys : List ℕ). xs ++ ys) t.other (ap (offs height low) hs_are))

      -- the stacks at the end
      abbrev joined : ℕ → List ℕ
      joined = put from [] (put into (stacks2 into ++ stacks2 from) stacks2)

      abbrev pub ended : ℕ → List ℕ
      ended = put into (first ∷ joined into) joined

      pub end_fresh : (p : ℕ) → ¬ Contains (joined p) first
      end_fresh p c =
          let was = joined_from stacks2 into from ne p first c in
          elim (cases_eq was.0 into) [
            | inl e ↦ not_first into first ne (s_was first (subst (λ q. Contains (stacks2 q) first) e was.1)) refl
            | inr off ↦ first_fresh was.0 (subst (λ xs. Contains xs first) (u.others was.0 off) was.1)
          ]

      new_blocks : blocks_of edges lists2 (ended into) ≡ merged height low (blocks_of edges lists0 ids) (blocks_of edges lists0 hids) ∷ (blocks_of edges lists0 (stacks2 into) ++ blocks_of edges lists0 (stacks1 from))
      new_blocks =
          ap (blocks_of edges lists2) (put_here into (first ∷ joined into) joined ∙ ap (λ xs. first ∷ xs) (joined_at stacks2 into from ne))
          ∙ ap₂ (λ (x : Block) (xs : List Block). x ∷ xs) first_is (blocks_append edges lists2 (stacks2 into) (stacks2 from) ∙ ap₂ (λ (xs ys : List Block). xs ++ ys) ps_are qs_are)

      module _ (a : IsPart height limit P) (b : IsPart height low Q) (le : limit ≤ low) (none1 : IsNoneAbove height limit (blocks_of edges lists1 (stacks1 from))) (none2 : IsNoneAbove height low (blocks_of edges lists2 (stacks2 into))) where
        q_is : Q ≡ blocks_of edges lists0 ids ++ blocks_of edges lists0 (stacks1 from)
        q_is = ap (blocks_of edges lists0) t.cut ∙ blocks_append edges lists0 ids (stacks1 from)

        p_is : P ≡ blocks_of edges lists0 hids ++ blocks_of edges lists0 (stacks2 into)
        p_is = ap (blocks_of edges lists0) (sym (t.others into ne) ∙ u.cut) ∙ blocks_append edges lists0 hids (stacks2 into)

        q_blocks : Each (IsBlock height low) (blocks_of edges lists0 ids ++ blocks_of edges lists0 (stacks1 from))
        q_blocks = subst (Each (IsBlock height low)) q_is b.blocks

        p_blocks : Each (IsBlock height limit) (blocks_of edges lists0 hids ++ blocks_of edges lists0 (stacks2 into))
        p_blocks = subst (Each (IsBlock height limit)) p_is a.blocks

        found : IsFound height limit low P Q (blocks_of edges lists0 ids) (blocks_of edges lists0 (stacks1 from)) (blocks_of edges lists0 hids) (blocks_of edges lists0 (stacks2 into))
        found =
            record {
              q_is = q_is;
              sided = t.sided;
              above = blocks_above height limit low le (blocks_of edges lists0 ids) (each_left (IsBlock height low) (blocks_of edges lists0 ids) (blocks_of edges lists0 (stacks1 from)) q_blocks) t.above;
              level = none_above height limit low (blocks_of edges lists0 (stacks1 from)) (each_right (IsBlock height low) (blocks_of edges lists0 ids) (blocks_of edges lists0 (stacks1 from)) q_blocks) (stacked_right height (blocks_of edges lists0 ids) (blocks_of edges lists0 (stacks1 from)) (subst (AreStacked height) q_is b.stacked)) (subst (IsNoneAbove height limit) same_left none1);
              p_is = p_is;
              hit = struck_hit height limit low (blocks_of edges lists0 hids) (each_left (IsBlock height limit) (blocks_of edges lists0 hids) (blocks_of edges lists0 (stacks2 into)) p_blocks) (subst (Each (IsStruck height low)) hs_are u.struck);
              rest = none_above height low limit (blocks_of edges lists0 (stacks2 into)) (each_right (IsBlock height limit) (blocks_of edges lists0 hids) (blocks_of edges lists0 (stacks2 into)) p_blocks) (stacked_right height (blocks_of edges lists0 hids) (blocks_of edges lists0 (stacks2 into)) (subst (AreStacked height) p_is a.stacked)) (subst (IsNoneAbove height low) ps_are none2);
            }

        union : IsUnion height limit low P Q (blocks_of edges lists2 (ended into))
        union =
            subst (IsUnion height limit low P Q) (sym new_blocks)
            (union_some height limit low P Q a b le (blocks_of edges lists0 ids) (blocks_of edges lists0 (stacks1 from)) (blocks_of edges lists0 hids) (blocks_of edges lists0 (stacks2 into)) (block_of edges lists0 first) (blocks_of edges lists0 t.begin.0) (ap (blocks_of edges lists0) t.begin.1) found)

        others_kept : (p : ℕ) → p ≢ into → p ≢ from → blocks_of edges lists2 (ended p) ≡ blocks_of edges lists0 (stacks0 p)
        others_kept p off off' =
            let is : ended p ≡ stacks0 p = put_other into (first ∷ joined into) joined p off ∙ (joined_other stacks2 into from ne p off off' ∙ (u.others p off ∙ t.others p off')) in
            ap (blocks_of edges lists2) is ∙ blocks_same edges lists2 lists0 (stacks0 p) (λ x c. same_block x (within p x c) (other_off p x off' c) (λ i. off (apart.one p into x c (h_was x i))) (not_first p x off' c))

        -- with block and lists as they are at the end, the two parts are put together
        pub merged_some : (lc sc : ChainedLists) → Holds lc lists2 → Holds sc ended → IsMerged height edges limit low into from lists0 stacks0 lc sc
        merged_some lc sc hl hs =
            record {
              lists = lists2;
              stacks = ended;
              lists_held = hl;
              stacks_held = hs;
              moved = from_over lists0 lists1 lists2 t.moved u.moved;
              gone = put_other into (first ∷ joined into) joined from (λ e. ne (sym e)) ∙ put_here from [] (put into (stacks2 into ++ stacks2 from) stacks2);
              others = others_kept;
              union = union;
            }

  -- where nothing was taken
  pub merged_none : IsPart height limit P → IsPart height low Q → limit ≤ low → (Each (λ x. height x ≤ limit) (edges_in Q) → Each (λ y. height y ≤ low) (edges_in P)) → IsNoneAbove height limit Q → (lc sc : ChainedLists) → Holds lc lists0 → Holds sc (put from [] (put into (stacks0 into ++ stacks0 from) stacks0)) → IsMerged height edges limit low into from lists0 stacks0 lc sc
  merged_none a b le small none lc sc hl hs =
      let level = none_above height limit low Q b.blocks b.stacked none in
      record {
        lists = lists0;
        stacks = put from [] (put into (stacks0 into ++ stacks0 from) stacks0);
        lists_held = hl;
        stacks_held = hs;
        moved = λ p x c. (p, c);
        gone = put_here from [] (put into (stacks0 into ++ stacks0 from) stacks0);
        others = λ p off off'. ap (blocks_of edges lists0) (joined_other stacks0 into from ne p off off');
        union = subst (IsUnion height limit low P Q) (sym (ap (blocks_of edges lists0) (joined_at stacks0 into from ne) ∙ blocks_append edges lists0 (stacks0 into) (stacks0 from))) (union_none height limit low P Q a b le level (small level));
      }

  -- ---- contradictions
  pub clash_taken : IsPart height limit P → IsPart height low Q → limit ≤ low → HasTwoSided Q → (side : ℕ → Bool) → AllAgree side P → AllAgree side Q → ¬ IsShort height side limit low (edges_in P) (edges_in Q)
  clash_taken a b le two side agree_p agree_q =
      two_sided height limit low P Q a b le two.0 two.1.1.0 two.1.0 side two.1.1.1.0 two.1.1.1.1.0 two.1.1.1.1.1 agree_q

  pub clash_put : IsPart height limit P → IsPart height low Q → limit ≤ low → HasTwoDeep height low P → (side : ℕ → Bool) → AllAgree side P → AllAgree side Q → ¬ IsShort height side limit low (edges_in P) (edges_in Q)
  clash_put a b le two side agree_p agree_q =
      two_deep height limit low P Q a b le two.0 two.1.1.0 two.1.0 side two.1.1.1.0 two.1.1.1.1.0 two.1.1.1.1.1 agree_p
