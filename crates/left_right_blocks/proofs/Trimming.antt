-- Edges dropped from both lists of a block, and from the blocks of a stack.
use Rattle.std.proofs.Common.{◌≡◌, ◌≢◌, ◌↔◌, ℕ, ◌+◌, ◌<◌, ◌≤◌, Bool, true, false, List, [], ◌∷◌, ◌++◌, length, Contains, refl, sym, ap, ap₂, ◌∙◌, subst, inl, inr, arith, append_assoc, length-append}
use Rattle.std.specs.Prelude.{Option, Some, None, MatchOption}
use Rattle.std.specs.Bool.{MatchBool}
use Rattle.std.specs.List.{AllByRecursion as Each}
use Rattle.std.proofs.lemmas.List.{append-nil}
use Rattle.std.proofs.lemmas.List.Elements.{Contains-append_left, Contains-append_right}
use Rattle.chained_lists.specs.Chains.{put, IsOnce, AreApart}
use Rattle.chained_lists.specs.Held.{Holds, IsPopped, BeginsWith}
use Rattle.chained_lists.specs.declared.ChainedLists.{ChainedLists}
use Rattle.chained_lists.proofs.Links.{in_none, in_first, in_rest, in_cases, put_here, put_other}
use Rattle.left_right_blocks.specs.Blocks.{Block, edges_of, edges_in, Agrees, AllAgree, Falls, IsOver, AreStacked, IsBlock, IsPart}
use Rattle.left_right_blocks.specs.Parts.{block_of, blocks_of, IsFrom}
use Rattle.left_right_blocks.specs.Ties.{AreKept}
use Rattle.left_right_blocks.specs.Trims.{AreTied, IsEnded, AreDropped, IsBlockDropped, AreBlockDropped, HasEdge, IsEmpty, IsTrimmed}
use Rattle.left_right_blocks.specs.declared.ties.Tie.{Tie}
use Rattle.left_right_blocks.proofs.Eaches.{each_joined, each_left, each_right, each_weaker, each_in, each_itself, each_edges, each_edges_right}
use Rattle.left_right_blocks.proofs.Shaped.{stacked_right}
use Rattle.left_right_blocks.proofs.Steps.{once_across, once_few, from_over, blocks_append, block_same, blocks_same}
use Rattle.left_right_blocks.proofs.Dropping.{agrees_turned}

-- ---- both lists of a block
module _ (height : ℕ → ℕ) (edges depth b one other : ℕ) (e1 : one ≡ b) (e2 : other ≡ b + edges) (below : b < edges) (lists0 : ℕ → List ℕ) (ties0 ties1 ties2 : List Tie) (lc1 lc2 : ChainedLists) where
  pub both_dropped : AreDropped height edges depth one other lists0 lc1 ties0 ties1 → ((lists : ℕ → List ℕ) → Holds lc1 lists → AreTied edges lists ties1 → other ≢ one → AreDropped height edges depth other one lists lc2 ties1 ties2) → (left : Bool) → ((lists : ℕ → List ℕ) → Holds lc2 lists → MatchBool left (HasEdge (block_of edges lists b)) (IsEmpty (block_of edges lists b))) → AreBlockDropped height edges depth b lists0 lc2 ties0 ties2 left
  both_dropped first next left says =
      let far : b ≢ b + edges = λ e. omega arith in
      let a = subst (λ x. AreDropped height edges depth x other lists0 lc1 ties0 ties1) e1 first in
      let a' = subst (λ y. AreDropped height edges depth b y lists0 lc1 ties0 ties1) e2 a in
      let n = subst (λ x. (lists : ℕ → List ℕ) → Holds lc1 lists → AreTied edges lists ties1 → other ≢ x → AreDropped height edges depth other x lists lc2 ties1 ties2) e1 next in
      let n' = subst (λ y. (lists : ℕ → List ℕ) → Holds lc1 lists → AreTied edges lists ties1 → y ≢ b → AreDropped height edges depth y b lists lc2 ties1 ties2) e2 n in
      let d = a'.1.1.1.0 in
      let c = n' a'.0 a'.1.1.0 d.tied (λ e. far (sym e)) in
      let k = c.1.1.1.0 in
      let l1 = a'.0 in
      let l2 = c.0 in
      let one_kept : l2 b ≡ l1 b = k.others b far in
      let other_kept : l1 (b + edges) ≡ lists0 (b + edges) = d.others (b + edges) (λ e. far (sym e)) in (
        l2,
        (
          a'.1.0,
          (
            c.1.0,
            (
              c.1.1.0,
              (
                record {
                  one_cut = d.cut ∙ ap (λ xs. a'.1.0 ++ xs) (sym one_kept);
                  other_cut = sym other_kept ∙ k.cut;
                  one_deep = d.deep;
                  other_deep = k.deep;
                  one_ended = subst (IsEnded height depth) (sym one_kept) a'.1.1.1.1;
                  other_ended = c.1.1.1.1;
                  others = λ p off off'. k.others p off' ∙ d.others p off;
                  agree = λ side. (
                    (λ h.
                        let u = (d.agree side).0 h in
                        let v = (k.agree side).0 (agrees_turned side (l1 b) (l1 (b + edges)) u.0, u.1) in
                        (agrees_turned side (l2 (b + edges)) (l2 b) v.0, v.1)),
                    (λ h.
                        let v = (k.agree side).1 (agrees_turned side (l2 b) (l2 (b + edges)) h.0, h.1) in
                        (d.agree side).1 (agrees_turned side (l1 (b + edges)) (l1 b) v.0, v.1)),
                  );
                  tied = k.tied;
                  moved = from_over lists0 l1 l2 d.moved k.moved;
                },
                says l2 c.1.1.0,
              ),
            ),
          ),
        ),
      )

module _ (height : ℕ → ℕ) where
  falls_right : (xs ys : List ℕ) → Falls height (xs ++ ys) → Falls height ys
  falls_right [] ys h = h
  falls_right (x ∷ xs) ys h = falls_right xs ys h.1

  ended_all : (depth : ℕ) (ys : List ℕ) → Falls height ys → IsEnded height depth ys → Each (λ y. height y < depth) ys
  ended_all depth [] f e = tt
  ended_all depth (y ∷ ys) f e = (e, each_weaker (λ z. height z ≤ height y) (λ z. height z < depth) (λ z m. omega arith) ys f.0)

  -- a block of what is left of its lists
  module _ (low depth : ℕ) (old new : Block) (xs ys : List ℕ) (c1 : old.one ≡ xs ++ new.one) (c2 : old.other ≡ ys ++ new.other) where
    left_each : (P : ℕ → Type 0) → Each P (edges_of old) → Each P (edges_of new)
    left_each P h =
        each_joined P new.one new.other (each_right P xs new.one (subst (Each P) c1 (each_left P old.one old.other h))) (each_right P ys new.other (subst (Each P) c2 (each_right P old.one old.other h)))

    -- what is left, and what was dropped, is all
    all_each : (P : ℕ → Type 0) → Each P xs → Each P ys → Each P (edges_of new) → Each P (edges_of old)
    all_each P h k l =
        each_joined P old.one old.other (subst (Each P) (sym c1) (each_joined P xs new.one h (each_left P new.one new.other l))) (subst (Each P) (sym c2) (each_joined P ys new.other k (each_right P new.one new.other l)))

    some_of : HasEdge new → (x : ℕ) × ((rest : List ℕ) × (edges_of new ≡ x ∷ rest))
    some_of (inl h) = (h.0, (h.1.0 ++ new.other, ap (λ zs. zs ++ new.other) h.1.1))
    some_of (inr h) = behind new.one h
      where
        behind : (zs : List ℕ) → ((x : ℕ) × BeginsWith new.other x) → (x : ℕ) × ((rest : List ℕ) × (zs ++ new.other ≡ x ∷ rest))
        behind [] h = (h.0, (h.1.0, h.1.1))
        behind (z ∷ zs) h = (z, (zs ++ new.other, refl))

    left_block : IsBlock height low old → HasEdge new → IsBlock height low new
    left_block b some =
        let s = some_of some in
        record {
          one_falls = falls_right xs new.one (subst (Falls height) c1 b.one_falls);
          other_falls = falls_right ys new.other (subst (Falls height) c2 b.other_falls);
          some = s;
          deep = left_each (λ x. low ≤ height x) b.deep;
          lone = elim b.lone [
            | inr all ↦ inr (left_each (λ x. low < height x) all)
            | inl one ↦
                let few : length s.1.0 ≤ 0 = (
                let a = ap length one.1 in
                let b' = length-append old.one old.other in
                let c = ap length c1 ∙ length-append xs new.one in
                let d = ap length c2 ∙ length-append ys new.other in
                let e = length-append new.one new.other in
                let f = ap length s.1.1 in
                omega arith
                ) in
                inl (s.0, s.1.1 ∙ ap (λ zs. s.0 ∷ zs) (bare s.1.0 few))
          ];
        }
      where
        bare : (zs : List ℕ) → length zs ≤ 0 → zs ≡ []
        bare [] l = refl
        bare (z ∷ zs) l = absurd (omega arith)

    left_ended : IsBlock height low old → IsEnded height depth new.one → IsEnded height depth new.other → Each (λ y. height y < depth) (edges_of new)
    left_ended b e f =
        each_joined (λ y. height y < depth) new.one new.other (ended_all depth new.one (falls_right xs new.one (subst (Falls height) c1 b.one_falls)) e) (ended_all depth new.other (falls_right ys new.other (subst (Falls height) c2 b.other_falls)) f)

-- ---- the blocks of a stack
-- The blocks ids were taken from a stack, and all their edges dropped.
pub record IsTrimming (height : ℕ → ℕ) (edges depth stack : ℕ) (lists0 stacks0 lists stacks : ℕ → List ℕ) (ties0 ties : List Tie) (ids : List ℕ) : Type 0 where
  pub cut : stacks0 stack ≡ ids ++ stacks stack
  pub others : (p : ℕ) → p ≢ stack → stacks p ≡ stacks0 p
  pub kept : (b : ℕ) → b < edges → ¬ Contains ids b → (lists b ≡ lists0 b) × (lists (b + edges) ≡ lists0 (b + edges))
  pub deep : Each (λ x. depth ≤ height x) (edges_in (blocks_of edges lists0 ids))
  pub agree : (side : ℕ → Bool) → (AllAgree side (blocks_of edges lists0 ids) × AreKept side ties0) ↔ AreKept side ties
  pub tied : AreTied edges lists ties
  pub moved : IsFrom lists0 lists

-- k blocks were taken so
abbrev pub TrimsTo : (ℕ → ℕ) → ℕ → ℕ → ℕ → (ℕ → List ℕ) → (ℕ → List ℕ) → List Tie → ChainedLists → ChainedLists → List Tie → ℕ → Type 0
TrimsTo height edges depth stack lists0 stacks0 ties0 lc sc ties k =
    (lists : ℕ → List ℕ) × ((stacks : ℕ → List ℕ) × ((ids : List ℕ) × (Holds lc lists × (Holds sc stacks × (IsTrimming height edges depth stack lists0 stacks0 lists stacks ties0 ties ids × (k ≤ length ids))))))

module _ (height : ℕ → ℕ) (edges depth stack : ℕ) (lists0 stacks0 : ℕ → List ℕ) (ties0 : List Tie) (apart : AreApart stacks0) (within : (p b : ℕ) → Contains (stacks0 p) b → b < edges) where
  abbrev P : List Block
  P = blocks_of edges lists0 (stacks0 stack)

  trimming_none : AreTied edges lists0 ties0 → IsTrimming height edges depth stack lists0 stacks0 lists0 stacks0 ties0 ties0 []
  trimming_none tied =
      record { cut = refl; others = λ p off. refl; kept = λ b l out. (refl, refl); deep = tt; agree = λ side. ((λ h. h.1), (λ h. (tt, h))); tied = tied; moved = λ p x c. (p, c) }

  module _ (lists stacks : ℕ → List ℕ) (ties : List Tie) (ids : List ℕ) (t : IsTrimming height edges depth stack lists0 stacks0 lists stacks ties0 ties ids) where
    id_was : (x : ℕ) → Contains ids x → Contains (stacks0 stack) x
    id_was x c = subst (λ xs. Contains xs x) (sym t.cut) (Contains-append_left ids (stacks stack) x c)

    other_off : (p x : ℕ) → p ≢ stack → Contains (stacks0 p) x → ¬ Contains ids x
    other_off p x off c i = off (apart.one p stack x c (id_was x i))

    -- where no block is left
    pub trimmed_none : (low : ℕ) (lc sc : ChainedLists) → IsPart height low P → Holds lc lists → Holds sc stacks → stacks stack ≡ [] → IsTrimmed height edges depth low stack lists0 stacks0 lc sc ties0 ties
    trimmed_none low lc sc part hl hs none =
        let whole : P ≡ blocks_of edges lists0 ids = ap (blocks_of edges lists0) (t.cut ∙ (ap (λ xs. ids ++ xs) none ∙ append-nil ids)) in
        let bare : blocks_of edges lists (stacks stack) ≡ [] = ap (blocks_of edges lists) none in
        let gone : Each (λ x. depth ≤ height x) (edges_in P) = subst (λ bs. Each (λ x. depth ≤ height x) (edges_in bs)) (sym whole) t.deep in
        record {
          lists = lists;
          stacks = stacks;
          lists_held = hl;
          stacks_held = hs;
          moved = t.moved;
          others = λ p off. ap (blocks_of edges lists) (t.others p off) ∙ blocks_same edges lists lists0 (stacks0 p) (λ x c. t.kept x (within p x c) (other_off p x off c));
          tied = t.tied;
          part = subst (IsPart height low) (sym bare) (record { blocks = tt; stacked = tt });
          left = λ x. (
            (λ c. absurd (in_none x (subst (λ bs. Contains (edges_in bs) x) bare c))),
            (λ h. absurd (let m = each_in (λ y. depth ≤ height y) (edges_in P) x gone h.0 in let l = h.1 in omega arith)),
          );
          agree = λ side. (
            (λ h. (subst (AllAgree side) (sym bare) tt, (t.agree side).0 (subst (AllAgree side) whole h.0, h.1))),
            (λ h. (let a = (t.agree side).1 h.1 in (subst (AllAgree side) (sym whole) a.0, a.1))),
          );
        }

    -- ---- the next block
    module _ (b : ℕ) (rest : List ℕ) (is : stacks stack ≡ b ∷ rest) (lists' : ℕ → List ℕ) (ties' : List Tie) (xs ys : List ℕ) (d : IsBlockDropped height edges depth b lists lists' ties ties' xs ys) where
      was : stacks0 stack ≡ ids ++ (b ∷ rest)
      was = t.cut ∙ ap (λ zs. ids ++ zs) is

      b_off : ¬ Contains ids b
      b_off = once_across ids b rest (subst IsOnce was (apart.once stack))

      b_was : Contains (stacks0 stack) b
      b_was = subst (λ zs. Contains zs b) (sym was) (Contains-append_right ids (b ∷ rest) b (in_first b rest))

      pub b_below : b < edges
      b_below = within stack b b_was

      old_same : (lists b ≡ lists0 b) × (lists (b + edges) ≡ lists0 (b + edges))
      old_same = t.kept b b_below b_off

      old_block : block_of edges lists b ≡ block_of edges lists0 b
      old_block = block_same edges lists lists0 b old_same

      kept_now : (c : ℕ) → c < edges → ¬ Contains ids c → c ≢ b → (lists' c ≡ lists0 c) × (lists' (c + edges) ≡ lists0 (c + edges))
      kept_now c l out off =
          let bl = b_below in
          let k = t.kept c l out in
          (d.others c off (λ e. omega arith) ∙ k.0, d.others (c + edges) (λ e. omega arith) (λ e. off (omega arith)) ∙ k.1)

      -- it has no edge left
      pub trimming_more : IsEmpty (block_of edges lists' b) → IsTrimming height edges depth stack lists0 stacks0 lists' (put stack rest stacks) ties0 ties' (ids ++ b ∷ [])
      trimming_more none =
          let last : blocks_of edges lists0 (ids ++ b ∷ []) ≡ blocks_of edges lists0 ids ++ (block_of edges lists0 b ∷ []) = blocks_append edges lists0 ids (b ∷ []) in
          let cut1 : lists0 b ≡ xs = sym old_same.0 ∙ (d.one_cut ∙ (ap (λ zs. xs ++ zs) none.0 ∙ append-nil xs)) in
          let cut2 : lists0 (b + edges) ≡ ys = sym old_same.1 ∙ (d.other_cut ∙ (ap (λ zs. ys ++ zs) none.1 ∙ append-nil ys)) in
          let here : Each (λ x. depth ≤ height x) (lists0 b ++ lists0 (b + edges)) = each_joined (λ x. depth ≤ height x) (lists0 b) (lists0 (b + edges)) (subst (Each (λ x. depth ≤ height x)) (sym cut1) d.one_deep) (subst (Each (λ x. depth ≤ height x)) (sym cut2) d.other_deep) in
          let free : (side : ℕ → Bool) → Agrees side (block_of edges lists' b) = λ side. subst (Agrees side) (sym (ap₂ (λ (us vs : List ℕ). record { one = us; other = vs }) none.0 none.1)) (true, (tt, tt)) in
          record {
            cut = was ∙ (sym (append_assoc ids (b ∷ []) rest) ∙ ap (λ zs. (ids ++ b ∷ []) ++ zs) (sym (put_here stack rest stacks)));
            others = λ p off. put_other stack rest stacks p off ∙ t.others p off;
            kept = λ c l out. kept_now c l (λ i. out (Contains-append_left ids (b ∷ []) c i)) (λ e. out (subst (Contains (ids ++ b ∷ [])) (sym e) (Contains-append_right ids (b ∷ []) b (in_first b []))));
            deep = subst (λ bs. Each (λ x. depth ≤ height x) (edges_in bs)) (sym last) (each_edges (λ x. depth ≤ height x) (blocks_of edges lists0 ids) (block_of edges lists0 b ∷ []) t.deep (subst (Each (λ x. depth ≤ height x)) (sym (append-nil (lists0 b ++ lists0 (b + edges)))) here));
            agree = λ side. (
              (λ h.
                  let a = subst (AllAgree side) last h.0 in
                  let one = each_left (Agrees side) (blocks_of edges lists0 ids) (block_of edges lists0 b ∷ []) a in
                  let two = (each_right (Agrees side) (blocks_of edges lists0 ids) (block_of edges lists0 b ∷ []) a).0 in
                  ((d.agree side).0 (subst (Agrees side) (sym old_block) two, (t.agree side).0 (one, h.1))).1),
              (λ h.
                  let a = (d.agree side).1 (free side, h) in
                  let k = (t.agree side).1 a.1 in
                  (subst (AllAgree side) (sym last) (each_joined (Agrees side) (blocks_of edges lists0 ids) (block_of edges lists0 b ∷ []) k.0 (subst (Agrees side) old_block a.0, tt)), k.1)),
            );
            tied = d.tied;
            moved = from_over lists0 lists lists' t.moved d.moved;
          }

      -- it has some left
      rest_off : (x : ℕ) → Contains rest x → (¬ Contains ids x) × (x ≢ b)
      rest_off x c = (
        (λ i. across ids (b ∷ rest) x (subst IsOnce was (apart.once stack)) i (in_rest b x rest c)),
        (λ e. (after ids (b ∷ rest) (subst IsOnce was (apart.once stack))).0 (subst (Contains rest) e c)),
      )
        where
          across : (us vs : List ℕ) (x : ℕ) → IsOnce (us ++ vs) → Contains us x → ¬ Contains vs x
          across [] vs x o c k = in_none x c
          across (u ∷ us) vs x o c k = elim (in_cases u x us c) [ inl e ↦ o.0 (subst (Contains (us ++ vs)) (sym e) (Contains-append_right us vs x k)) | inr c' ↦ across us vs x o.1 c' k ]

          after : (us vs : List ℕ) → IsOnce (us ++ vs) → IsOnce vs
          after [] vs o = o
          after (u ∷ us) vs o = after us vs o.1

      rest_was : (x : ℕ) → Contains rest x → Contains (stacks0 stack) x
      rest_was x c = subst (λ zs. Contains zs x) (sym was) (Contains-append_right ids (b ∷ rest) x (in_rest b x rest c))

      rest_same : blocks_of edges lists' rest ≡ blocks_of edges lists0 rest
      rest_same = blocks_same edges lists' lists0 rest (λ x c. (let o = rest_off x c in kept_now x (within stack x (rest_was x c)) o.0 o.1))

      old_parts : P ≡ blocks_of edges lists0 ids ++ (block_of edges lists0 b ∷ blocks_of edges lists0 rest)
      old_parts = ap (blocks_of edges lists0) was ∙ blocks_append edges lists0 ids (b ∷ rest)

      now_parts : blocks_of edges lists' (stacks stack) ≡ block_of edges lists' b ∷ blocks_of edges lists0 rest
      now_parts = ap (blocks_of edges lists') is ∙ ap (λ bs. block_of edges lists' b ∷ bs) rest_same

      pub trimmed_some : (low : ℕ) (lc sc : ChainedLists) → IsPart height low P → Holds lc lists' → Holds sc stacks → HasEdge (block_of edges lists' b) → IsTrimmed height edges depth low stack lists0 stacks0 lc sc ties0 ties'
      trimmed_some low lc sc part hl hs some =
          let o = block_of edges lists0 b in
          let n = block_of edges lists' b in
          let tail = blocks_of edges lists0 rest in
          let c1 : lists0 b ≡ xs ++ lists' b = sym old_same.0 ∙ d.one_cut in
          let c2 : lists0 (b + edges) ≡ ys ++ lists' (b + edges) = sym old_same.1 ∙ d.other_cut in
          let blocks : Each (IsBlock height low) (o ∷ tail) = each_right (IsBlock height low) (blocks_of edges lists0 ids) (o ∷ tail) (subst (Each (IsBlock height low)) old_parts part.blocks) in
          let stacked : AreStacked height (o ∷ tail) = stacked_right height (blocks_of edges lists0 ids) (o ∷ tail) (subst (AreStacked height) old_parts part.stacked) in
          let block : IsBlock height low n = left_block height low depth o n xs ys c1 c2 blocks.0 some in
          let ended : Each (λ y. height y < depth) (edges_of n) = left_ended height low depth o n xs ys c1 c2 blocks.0 d.one_ended d.other_ended in
          let over : IsOver height (edges_of n) (edges_in tail) = left_each height low depth o n xs ys c1 c2 (λ x. Each (λ y. height y ≤ height x) (edges_in tail)) stacked.0 in
          let first = block.some in
          let top : height first.0 < depth = (subst (Each (λ y. height y < depth)) first.1.1 ended).0 in
          let under : Each (λ y. height y ≤ height first.0) (edges_in tail) = (subst (Each (λ x. Each (λ y. height y ≤ height x) (edges_in tail))) first.1.1 over).0 in
          let all_ended : Each (λ y. height y < depth) (edges_in (n ∷ tail)) = each_joined (λ y. height y < depth) (edges_of n) (edges_in tail) ended (each_weaker (λ y. height y ≤ height first.0) (λ y. height y < depth) (λ y m. omega arith) (edges_in tail) under) in
          let to_old : (Q : ℕ → Type 0) → Each Q (edges_in P) → Each Q (edges_in (n ∷ tail)) = λ Q h. (
          let k = each_edges_right Q (blocks_of edges lists0 ids) (o ∷ tail) (subst (λ bs. Each Q (edges_in bs)) old_parts h) in
          each_joined Q (edges_of n) (edges_in tail) (left_each height low depth o n xs ys c1 c2 Q (each_left Q (edges_of o) (edges_in tail) k)) (each_right Q (edges_of o) (edges_in tail) k)
          ) in
          let to_new : (Q : ℕ → Type 0) → ((x : ℕ) → depth ≤ height x → Q x) → Each Q (edges_in (n ∷ tail)) → Each Q (edges_in P) = λ Q f h. subst (λ bs. Each Q (edges_in bs)) (sym old_parts)
          (each_edges Q (blocks_of edges lists0 ids) (o ∷ tail) (each_weaker (λ x. depth ≤ height x) Q f (edges_in (blocks_of edges lists0 ids)) t.deep)
          (each_joined Q (edges_of o) (edges_in tail) (all_each height low depth o n xs ys c1 c2 Q (each_weaker (λ x. depth ≤ height x) Q f xs d.one_deep) (each_weaker (λ x. depth ≤ height x) Q f ys d.other_deep) (each_left Q (edges_of n) (edges_in tail) h)) (each_right Q (edges_of n) (edges_in tail) h))) in
          record {
            lists = lists';
            stacks = stacks;
            lists_held = hl;
            stacks_held = hs;
            moved = from_over lists0 lists lists' t.moved d.moved;
            others = λ p off. ap (blocks_of edges lists') (t.others p off) ∙ blocks_same edges lists' lists0 (stacks0 p) (λ x c. kept_now x (within p x c) (other_off p x off c) (λ e. off (apart.one p stack b (subst (Contains (stacks0 p)) e c) b_was)));
            tied = d.tied;
            part = subst (IsPart height low) (sym now_parts) (record { blocks = (block, blocks.1); stacked = (over, stacked.1) });
            left = λ x. (
              (λ c. (let c' = subst (λ bs. Contains (edges_in bs) x) now_parts c in (each_in (Contains (edges_in P)) (edges_in (n ∷ tail)) x (to_old (Contains (edges_in P)) (each_itself (edges_in P))) c', each_in (λ y. height y < depth) (edges_in (n ∷ tail)) x all_ended c'))),
              (λ h. subst (λ bs. Contains (edges_in bs) x) (sym now_parts) (each_in (λ y. height y < depth → Contains (edges_in (n ∷ tail)) y) (edges_in P) x (to_new (λ y. height y < depth → Contains (edges_in (n ∷ tail)) y) (λ y m l. absurd (omega arith)) (each_weaker (Contains (edges_in (n ∷ tail))) (λ y. height y < depth → Contains (edges_in (n ∷ tail)) y) (λ y c _. c) (edges_in (n ∷ tail)) (each_itself (edges_in (n ∷ tail))))) h.0 h.1)),
            );
            agree = λ side. (
              (λ h.
                  let a = subst (AllAgree side) old_parts h.0 in
                  let one = each_left (Agrees side) (blocks_of edges lists0 ids) (o ∷ tail) a in
                  let two = each_right (Agrees side) (blocks_of edges lists0 ids) (o ∷ tail) a in
                  let u = (d.agree side).0 (subst (Agrees side) (sym old_block) two.0, (t.agree side).0 (one, h.1)) in
                  (subst (AllAgree side) (sym now_parts) (u.0, two.1), u.1)),
              (λ h.
                  let a = subst (AllAgree side) now_parts h.0 in
                  let u = (d.agree side).1 (a.0, h.1) in
                  let k = (t.agree side).1 u.1 in
                  (subst (AllAgree side) (sym old_parts) (each_joined (Agrees side) (blocks_of edges lists0 ids) (o ∷ tail) k.0 (subst (Agrees side) old_block u.0, a.1)), k.1)),
            );
          }

  -- ---- the loop
  pub trims_begin : (lc sc : ChainedLists) → Holds lc lists0 → Holds sc stacks0 → AreTied edges lists0 ties0 → TrimsTo height edges depth stack lists0 stacks0 ties0 lc sc ties0 0
  trims_begin lc sc hl hs tied = (lists0, (stacks0, ([], (hl, (hs, (trimming_none tied, omega arith))))))

  pub trims_none : (low k : ℕ) (lc sc : ChainedLists) (ties : List Tie) → IsPart height low P → ((stacks : ℕ → List ℕ) → Holds sc stacks → stacks stack ≡ []) → TrimsTo height edges depth stack lists0 stacks0 ties0 lc sc ties k → IsTrimmed height edges depth low stack lists0 stacks0 lc sc ties0 ties
  trims_none low k lc sc ties part none t =
      trimmed_none t.0 t.1.0 ties t.1.1.0 t.1.1.1.1.1.0 low lc sc part t.1.1.1.0 t.1.1.1.1.0 (none t.1.0 t.1.1.1.1.0)

  pub trims_full : (low k : ℕ) (lc sc : ChainedLists) (ties : List Tie) → edges ≤ k → IsPart height low P → TrimsTo height edges depth stack lists0 stacks0 ties0 lc sc ties k → IsTrimmed height edges depth low stack lists0 stacks0 lc sc ties0 ties
  trims_full low k lc sc ties full part t =
      let d = t.1.1.1.1.1.0 in
      let few = once_few (stacks0 stack) edges (apart.once stack) (within stack) in
      let long = ap length d.cut ∙ length-append t.1.1.0 (t.1.0 stack) in
      let m = t.1.1.1.1.1.1 in
      trimmed_none t.0 t.1.0 ties t.1.1.0 d low lc sc part t.1.1.1.0 t.1.1.1.1.0 (bare (t.1.0 stack) (omega arith))
    where
      bare : (zs : List ℕ) → length zs ≤ 0 → zs ≡ []
      bare [] l = refl
      bare (z ∷ zs) l = absurd (omega arith)

  module _ (k b : ℕ) (lc lc' sc : ChainedLists) (ties ties' : List Tie) (left : Bool) (head : (stacks : ℕ → List ℕ) → Holds sc stacks → BeginsWith (stacks stack) b) (dropped : (lists : ℕ → List ℕ) → Holds lc lists → AreTied edges lists ties → b < edges → AreBlockDropped height edges depth b lists lc' ties ties' left) (t : TrimsTo height edges depth stack lists0 stacks0 ties0 lc sc ties k) where
    abbrev D : AreBlockDropped height edges depth b t.0 lc' ties ties' left
    D = dropped t.0 t.1.1.1.0 t.1.1.1.1.1.0.tied (b_in (head t.1.0 t.1.1.1.1.0))
      where
        b_in : BeginsWith (t.1.0 stack) b → b < edges
        b_in begin = within stack b (subst (λ zs. Contains zs b) (sym t.1.1.1.1.1.0.cut) (Contains-append_right t.1.1.0 (t.1.0 stack) b (subst (λ zs. Contains zs b) (sym begin.1) (in_first b begin.0))))

    pub trims_some : left ≡ true → (low : ℕ) (sc' : ChainedLists) → sc' ≡ sc → IsPart height low P → IsTrimmed height edges depth low stack lists0 stacks0 lc' sc' ties0 ties'
    trims_some is low sc' same part =
        let h = head t.1.0 t.1.1.1.1.0 in
        trimmed_some t.0 t.1.0 ties t.1.1.0 t.1.1.1.1.1.0 b h.0 h.1 D.0 ties' D.1.0 D.1.1.0 D.1.1.1.1.0 low lc' sc' part D.1.1.1.0 (subst (λ (z : ChainedLists). Holds z t.1.0) (sym same) t.1.1.1.1.0)
        (subst (λ z. MatchBool z (HasEdge (block_of edges D.0 b)) (IsEmpty (block_of edges D.0 b))) is D.1.1.1.1.1)

    pub trims_step : left ≡ false → (sc1 sc' : ChainedLists) (y : ℕ) → sc1 ≡ sc → ((stacks : ℕ → List ℕ) → Holds sc1 stacks → IsPopped sc' stacks stack y) → TrimsTo height edges depth stack lists0 stacks0 ties0 lc' sc' ties' (k + 1)
    trims_step is sc1 sc' y same popped =
        let h = head t.1.0 t.1.1.1.1.0 in
        let p = popped t.1.0 (subst (λ (z : ChainedLists). Holds z t.1.0) (sym same) t.1.1.1.1.0) in
        let e : y ∷ p.0 ≡ b ∷ h.0 = sym p.1.0 ∙ h.1 in
        let e' : p.0 ≡ h.0 = cc in (
          D.0,
          (
            put stack h.0 t.1.0,
            (
              t.1.1.0 ++ b ∷ [],
              (
                D.1.1.1.0,
                (
                  subst (λ r. Holds sc' (put stack r t.1.0)) e' p.1.1,
                  (
                    trimming_more t.0 t.1.0 ties t.1.1.0 t.1.1.1.1.1.0 b h.0 h.1 D.0 ties' D.1.0 D.1.1.0 D.1.1.1.1.0 (subst (λ z. MatchBool z (HasEdge (block_of edges D.0 b)) (IsEmpty (block_of edges D.0 b))) is D.1.1.1.1.1),
                    (let m = t.1.1.1.1.1.1 in let l = length-append t.1.1.0 (b ∷ []) in omega arith),
                  ),
                ),
              ),
            ),
          ),
        )

-- what was popped from a list that begins with b
pub popped_first : (sc' : ChainedLists) (stacks : ℕ → List ℕ) (stack b : ℕ) (found : Option ℕ) → MatchOption found (Holds sc' stacks × (stacks stack ≡ [])) (IsPopped sc' stacks stack) → BeginsWith (stacks stack) b → IsPopped sc' stacks stack b
popped_first sc' stacks stack b None h begin = absurd (let e = ap length (sym begin.1 ∙ h.1) in omega arith)
popped_first sc' stacks stack b (Some y) h begin =
    let e : y ∷ h.0 ≡ b ∷ begin.0 = sym h.1.0 ∙ begin.1 in
    let same : y ≡ b = cc in
    subst (IsPopped sc' stacks stack) same h
