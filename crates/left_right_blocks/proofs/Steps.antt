-- Steps that take blocks from stacks, and move their lists.
use Rattle.std.proofs.Common.{◌≡◌, ◌≢◌, ℕ, zero, suc, ◌+◌, ◌<◌, ◌≤◌, true, false, List, [], ◌∷◌, ◌++◌, length, AllPairs, Contains, refl, sym, ap, ap₂, ◌∙◌, subst, inl, inr, arith, append_assoc, length-append}
use Rattle.std.specs.Prelude.{◌||◌}
use Rattle.std.specs.List.{AllByRecursion as Each}
use Rattle.std.proofs.lemmas.Bool.{cases_eq, cond-true, cond-false, true≢false, or_cases}
use Rattle.std.proofs.lemmas.List.Elements.{Contains-get_or, Contains-append_cases, Contains-append_left, Contains-append_right}
use Rattle.map_theory.proofs.DartCounts.{length-le-below}
use Rattle.chained_lists.specs.Chains.{put, IsOnce}
use Rattle.chained_lists.proofs.Links.{in_none, in_first, in_rest, in_cases, put_here, put_other}
use Rattle.left_right_blocks.specs.Blocks.{Block}
use Rattle.left_right_blocks.specs.Found.{is_deep, IsOneSided, taken, hit_of, off_of, hits, offs}
use Rattle.left_right_blocks.specs.Parts.{block_of, blocks_of, IsFrom}
use Rattle.chained_lists.specs.Held.{Holds, IsPopped}
use Rattle.chained_lists.specs.declared.ChainedLists.{ChainedLists}
use Rattle.left_right_blocks.specs.Steps.{IsNoneAbove, IsTwoSided, IsTaken, HasTwoSided, IsStruck, IsPut, HasTwoDeep}
use Rattle.left_right_blocks.proofs.Eaches.{each_joined}
use Rattle.left_right_blocks.proofs.Merged.{taken_more, hits_more, offs_more}

-- ---- lists without repetition
pub once_left : (xs ys : List ℕ) → IsOnce (xs ++ ys) → IsOnce xs
once_left [] ys h = tt
once_left (x ∷ xs) ys h = ((λ c. h.0 (Contains-append_left xs ys x c)), once_left xs ys h.1)

pub once_across : (xs : List ℕ) (b : ℕ) (ys : List ℕ) → IsOnce (xs ++ (b ∷ ys)) → ¬ Contains xs b
once_across [] b ys h c = in_none b c
once_across (x ∷ xs) b ys h c =
    elim (in_cases x b xs c) [ inl e ↦ h.0 (subst (Contains (xs ++ (b ∷ ys))) (sym e) (Contains-append_right xs (b ∷ ys) b (in_first b ys))) | inr k ↦ once_across xs b ys h.1 k ]

once_pairs : (xs : List ℕ) → IsOnce xs → AllPairs ◌≢◌ xs
once_pairs [] h i j d l m = absurd (omega arith)
once_pairs (x ∷ xs) h zero zero d l m = absurd (omega arith)
once_pairs (x ∷ xs) h zero (suc j) d l m = λ e. h.0 (subst (Contains xs) (sym e) (Contains-get_or xs j d (omega arith)))
once_pairs (x ∷ xs) h (suc i) zero d l m = absurd (omega arith)
once_pairs (x ∷ xs) h (suc i) (suc j) d l m = once_pairs xs h.1 i j d (omega arith) (omega arith)

-- no more numbers than there are below a bound
pub once_few : (xs : List ℕ) (bound : ℕ) → IsOnce xs → ((x : ℕ) → Contains xs x → x < bound) → length xs ≤ bound
once_few xs bound once below = length-le-below xs bound below (once_pairs xs once)

-- ---- one list moved behind another
module _ (lists : ℕ → List ℕ) (p q : ℕ) (ne : p ≢ q) where
  abbrev joined : ℕ → List ℕ
  joined = put q [] (put p (lists p ++ lists q) lists)

  pub joined_at : joined p ≡ lists p ++ lists q
  joined_at = put_other q [] (put p (lists p ++ lists q) lists) p ne ∙ put_here p (lists p ++ lists q) lists

  pub joined_other : (r : ℕ) → r ≢ p → r ≢ q → joined r ≡ lists r
  joined_other r a b = put_other q [] (put p (lists p ++ lists q) lists) r b ∙ put_other p (lists p ++ lists q) lists r a

  pub joined_from : IsFrom lists joined
  joined_from r x c =
      elim (cases_eq r q) [
        | inl e ↦ absurd (in_none x (subst (λ xs. Contains xs x) (put_here q [] (put p (lists p ++ lists q) lists)) (subst (λ u. Contains (joined u) x) e c)))
        | inr far ↦ elim (cases_eq r p) [
          | inl e ↦ elim (Contains-append_cases (lists p) (lists q) x (subst (λ xs. Contains xs x) joined_at (subst (λ u. Contains (joined u) x) e c))) [ inl k ↦ (p, k) | inr k ↦ (q, k) ]
          | inr off ↦ (r, subst (λ xs. Contains xs x) (joined_other r off far) c)
        ]
      ]

pub from_over : (one two three : ℕ → List ℕ) → IsFrom one two → IsFrom two three → IsFrom one three
from_over one two three f g p x c = let a = g p x c in f a.0 x a.1

-- two lists moved behind one
module _ (lists : ℕ → List ℕ) (f p q : ℕ) (fp : f ≢ p) (fq : f ≢ q) (pq : p ≢ q) where
  abbrev once_more : ℕ → List ℕ
  once_more = put p [] (put f (lists f ++ lists p) lists)

  abbrev pub both_behind : ℕ → List ℕ
  both_behind = put q [] (put f (once_more f ++ once_more q) once_more)

  pub both_at : both_behind f ≡ (lists f ++ lists p) ++ lists q
  both_at =
      joined_at once_more f q fq ∙ ap₂ (λ (xs ys : List ℕ). xs ++ ys) (joined_at lists f p fp) (joined_other lists f p fp q (λ e. fq (sym e)) (λ e. pq (sym e)))

  pub both_other : (r : ℕ) → r ≢ f → r ≢ p → r ≢ q → both_behind r ≡ lists r
  both_other r a b c = joined_other once_more f q fq r a c ∙ joined_other lists f p fp r a b

  pub both_from : IsFrom lists both_behind
  both_from = from_over lists once_more both_behind (joined_from lists f p fp) (joined_from once_more f q fq)

-- two lists moved behind two
module _ (lists : ℕ → List ℕ) (f g p q : ℕ) (fp : f ≢ p) (fq : f ≢ q) (gp : g ≢ p) (gq : g ≢ q) (fg : f ≢ g) (pq : p ≢ q) where
  abbrev first_moved : ℕ → List ℕ
  first_moved = put p [] (put f (lists f ++ lists p) lists)

  abbrev pub each_behind : ℕ → List ℕ
  each_behind = put q [] (put g (first_moved g ++ first_moved q) first_moved)

  pub each_at_f : each_behind f ≡ lists f ++ lists p
  each_at_f = joined_other first_moved g q gq f fg fq ∙ joined_at lists f p fp

  pub each_at_g : each_behind g ≡ lists g ++ lists q
  each_at_g =
      joined_at first_moved g q gq ∙ ap₂ (λ (xs ys : List ℕ). xs ++ ys) (joined_other lists f p fp g (λ e. fg (sym e)) gp) (joined_other lists f p fp q (λ e. fq (sym e)) (λ e. pq (sym e)))

  pub each_other : (r : ℕ) → r ≢ f → r ≢ g → r ≢ p → r ≢ q → each_behind r ≡ lists r
  each_other r a b c d = joined_other first_moved g q gq r b d ∙ joined_other lists f p fp r a c

  pub each_moved : IsFrom lists each_behind
  each_moved = from_over lists first_moved each_behind (joined_from lists f p fp) (joined_from first_moved g q gq)

-- ---- blocks of numbers
pub blocks_append : (edges : ℕ) (lists : ℕ → List ℕ) (xs ys : List ℕ) → blocks_of edges lists (xs ++ ys) ≡ blocks_of edges lists xs ++ blocks_of edges lists ys
blocks_append edges lists [] ys = refl
blocks_append edges lists (x ∷ xs) ys = ap (λ bs. block_of edges lists x ∷ bs) (blocks_append edges lists xs ys)

pub block_same : (edges : ℕ) (one two : ℕ → List ℕ) (b : ℕ) → (one b ≡ two b) × (one (b + edges) ≡ two (b + edges)) → block_of edges one b ≡ block_of edges two b
block_same edges one two b e = ap₂ (λ (xs ys : List ℕ). record { one = xs; other = ys }) e.0 e.1

pub blocks_same : (edges : ℕ) (one two : ℕ → List ℕ) (bs : List ℕ) → ((b : ℕ) → Contains bs b → (one b ≡ two b) × (one (b + edges) ≡ two (b + edges))) → blocks_of edges one bs ≡ blocks_of edges two bs
blocks_same edges one two [] same = refl
blocks_same edges one two (b ∷ bs) same =
    ap₂ (λ (x : Block) (xs : List Block). x ∷ xs) (block_same edges one two b (same b (in_first b bs))) (blocks_same edges one two bs (λ c k. same c (in_rest b c bs k)))

-- a block that does not have two lists has one
pub one_sided : (t : Block) → ¬ IsTwoSided t → IsOneSided t
one_sided t off = cases t.one t.other refl refl
  where
    cases : (xs ys : List ℕ) → t.one ≡ xs → t.other ≡ ys → IsOneSided t
    cases [] ys e f = inl e
    cases (x ∷ xs) [] e f = inr f
    cases (x ∷ xs) (y ∷ ys) e f = absurd (off ((x, (xs, e)), (y, (ys, f))))

-- ---- one more block taken
module _ (height : ℕ → ℕ) (edges limit from : ℕ) (lists0 stacks0 lists stacks : ℕ → List ℕ) (first : ℕ) (ids : List ℕ) (h : IsTaken height edges limit from lists0 stacks0 lists stacks first ids) (b : ℕ) (rest : List ℕ) (popped : stacks from ≡ b ∷ rest) where
  was : stacks0 from ≡ ids ++ (b ∷ rest)
  was = h.cut ∙ ap (λ xs. ids ++ xs) popped

  once : IsOnce (ids ++ (b ∷ rest))
  once = subst IsOnce was (h.apart.once from)

  pub not_taken : ¬ Contains ids b
  not_taken = once_across ids b rest once

  in_ids : (x : ℕ) → Contains ids x → x < edges
  in_ids x c = h.within x (subst (λ xs. Contains xs x) (sym was) (Contains-append_left ids (b ∷ rest) x c))

  pub b_below : b < edges
  b_below = h.within b (subst (λ xs. Contains xs b) (sym was) (Contains-append_right ids (b ∷ rest) b (in_first b rest)))

  first_in : Contains ids first
  first_in = subst (λ xs. Contains xs first) (sym h.begin.1) (in_first first h.begin.0)

  pub first_below : first < edges
  first_below = in_ids first first_in

  pub first_off : b ≢ first
  first_off e = not_taken (subst (Contains ids) (sym e) first_in)

  block_is : block_of edges lists b ≡ block_of edges lists0 b
  block_is = block_same edges lists lists0 b (h.kept b b_below not_taken)

  pub two_sided_found : IsTwoSided (block_of edges lists b) → HasTwoSided (blocks_of edges lists0 (stacks0 from))
  two_sided_found two = (
    blocks_of edges lists0 ids,
    (
      block_of edges lists0 b,
      (blocks_of edges lists0 rest, (ap (blocks_of edges lists0) was ∙ blocks_append edges lists0 ids (b ∷ rest), subst IsTwoSided block_is two)),
    ),
  )

  abbrev pub taken_lists : ℕ → List ℕ
  taken_lists = both_behind lists (first + edges) (b + edges) b (λ e. first_off (omega arith)) (λ e. (let l = b_below in omega arith)) (λ e. (let l = b_below in omega arith))

  pub takes_more : ¬ IsTwoSided (block_of edges lists b) → (is_deep height limit (lists b) || is_deep height limit (lists (b + edges))) ≡ true → IsTaken height edges limit from lists0 stacks0 taken_lists (put from rest stacks) first (ids ++ b ∷ [])
  takes_more off deep =
      let k = h.kept b b_below not_taken in
      let bl = b_below in
      let fl = first_below in
      let ne = first_off in
      let n1 : first + edges ≢ b + edges = λ e. ne (omega arith) in
      let n2 : first + edges ≢ b = λ e. omega arith in
      let n3 : b + edges ≢ b = λ e. omega arith in
      let last : blocks_of edges lists0 (ids ++ b ∷ []) ≡ blocks_of edges lists0 ids ++ (block_of edges lists0 b ∷ []) = blocks_append edges lists0 ids (b ∷ []) in
      record {
        apart = h.apart;
        within = h.within;
        begin = (h.begin.0 ++ b ∷ [], ap (λ xs. xs ++ b ∷ []) h.begin.1);
        cut = was ∙ (sym (append_assoc ids (b ∷ []) rest) ∙ ap (λ xs. (ids ++ b ∷ []) ++ xs) (sym (put_here from rest stacks)));
        others = λ p far. put_other from rest stacks p far ∙ h.others p far;
        one = both_other lists (first + edges) (b + edges) b n1 n2 n3 first (λ e. omega arith) (λ e. omega arith) (λ e. ne (sym e)) ∙ h.one;
        other = both_at lists (first + edges) (b + edges) b n1 n2 n3 ∙ (ap₂ (λ (xs ys : List ℕ). (xs ++ ys) ++ lists b) h.other k.1 ∙ (ap (λ zs. (taken (blocks_of edges lists0 ids) ++ lists0 (b + edges)) ++ zs) k.0 ∙ (sym (taken_more (blocks_of edges lists0 ids) (block_of edges lists0 b)) ∙ ap taken (sym last))));
        kept = λ c l out.
            let off_ids : ¬ Contains ids c = λ i. out (Contains-append_left ids (b ∷ []) c i) in
            let off_b : c ≢ b = λ e. out (subst (Contains (ids ++ b ∷ [])) (sym e) (Contains-append_right ids (b ∷ []) b (in_first b []))) in
            let off_f : c ≢ first = λ e. off_ids (subst (Contains ids) (sym e) first_in) in
            let old = h.kept c l off_ids in (
              both_other lists (first + edges) (b + edges) b n1 n2 n3 c (λ e. omega arith) (λ e. omega arith) off_b ∙ old.0,
              both_other lists (first + edges) (b + edges) b n1 n2 n3 (c + edges) (λ e. off_f (omega arith)) (λ e. off_b (omega arith)) (λ e. omega arith) ∙ old.1,
            );
        sided = subst (Each IsOneSided) (sym last) (each_joined IsOneSided (blocks_of edges lists0 ids) (block_of edges lists0 b ∷ []) h.sided (one_sided (block_of edges lists0 b) (λ two. off (subst IsTwoSided (sym block_is) two)), tt));
        above = subst (Each (λ (t : Block). (is_deep height limit t.one || is_deep height limit t.other) ≡ true)) (sym last) (each_joined (λ (t : Block). (is_deep height limit t.one || is_deep height limit t.other) ≡ true) (blocks_of edges lists0 ids) (block_of edges lists0 b ∷ []) h.above (subst (λ (t : Block). (is_deep height limit t.one || is_deep height limit t.other) ≡ true) block_is deep, tt));
        moved = from_over lists0 lists taken_lists h.moved (both_from lists (first + edges) (b + edges) b n1 n2 n3);
      }

-- the blocks taken are few
pub taken_few : (height : ℕ → ℕ) (edges limit from : ℕ) (lists0 stacks0 lists stacks : ℕ → List ℕ) (first : ℕ) (ids : List ℕ) → IsTaken height edges limit from lists0 stacks0 lists stacks first ids → length ids ≤ edges
taken_few height edges limit from lists0 stacks0 lists stacks first ids h =
    once_few ids edges (once_left ids (stacks from) (subst IsOnce h.cut (h.apart.once from))) (λ x c. h.within x (subst (λ xs. Contains xs x) (sym h.cut) (Contains-append_left ids (stacks from) x c)))

-- ---- one more block put
module _ (height : ℕ → ℕ) (edges low into : ℕ) (lists0 stacks0 lists stacks : ℕ → List ℕ) (first : ℕ) (ids : List ℕ) (h : IsPut height edges low into lists0 stacks0 lists stacks first ids) (b : ℕ) (rest : List ℕ) (popped : stacks into ≡ b ∷ rest) where
  stood : stacks0 into ≡ ids ++ (b ∷ rest)
  stood = h.cut ∙ ap (λ xs. ids ++ xs) popped

  not_put : ¬ Contains ids b
  not_put = once_across ids b rest (subst IsOnce stood (h.apart.once into))

  in_stack : Contains (stacks0 into) b
  in_stack = subst (λ xs. Contains xs b) (sym stood) (Contains-append_right ids (b ∷ rest) b (in_first b rest))

  pub put_below : b < edges
  put_below = h.within b in_stack

  pub put_off : b ≢ first
  put_off e = h.fresh into (subst (Contains (stacks0 into)) e in_stack)

  old_block : (lists b ≡ lists0 b) × (lists (b + edges) ≡ lists0 (b + edges))
  old_block = h.kept b put_below put_off not_put

  pub two_deep_found : is_deep height low (lists b) ≡ true → is_deep height low (lists (b + edges)) ≡ true → HasTwoDeep height low (blocks_of edges lists0 (stacks0 into))
  two_deep_found one other = (
    blocks_of edges lists0 ids,
    (
      block_of edges lists0 b,
      (
        blocks_of edges lists0 rest,
        (ap (blocks_of edges lists0) stood ∙ blocks_append edges lists0 ids (b ∷ rest), (subst (λ xs. is_deep height low xs ≡ true) old_block.0 one, subst (λ xs. is_deep height low xs ≡ true) old_block.1 other)),
      ),
    ),
  )

  -- with the lists p and q of the block moved
  moves : (p q : ℕ) (new : ℕ → List ℕ) → (hit_of height low (block_of edges lists0 b) ≡ lists p) → (off_of height low (block_of edges lists0 b) ≡ lists q) → new first ≡ lists first ++ lists p → new (first + edges) ≡ lists (first + edges) ++ lists q → ((c : ℕ) → c < edges → c ≢ first → c ≢ b → (new c ≡ lists c) × (new (c + edges) ≡ lists (c + edges))) → IsFrom lists new → IsStruck height low (block_of edges lists0 b) → IsPut height edges low into lists0 stacks0 new (put into rest stacks) first (ids ++ b ∷ [])
  moves p q new hit off one other same from struck =
      let last : blocks_of edges lists0 (ids ++ b ∷ []) ≡ blocks_of edges lists0 ids ++ (block_of edges lists0 b ∷ []) = blocks_append edges lists0 ids (b ∷ []) in
      record {
        apart = h.apart;
        within = h.within;
        below = h.below;
        fresh = h.fresh;
        cut = stood ∙ (sym (append_assoc ids (b ∷ []) rest) ∙ ap (λ xs. (ids ++ b ∷ []) ++ xs) (sym (put_here into rest stacks)));
        others = λ r far. put_other into rest stacks r far ∙ h.others r far;
        one = one ∙ (ap₂ (λ (xs ys : List ℕ). xs ++ ys) h.one (sym hit) ∙ (sym (hits_more height low (blocks_of edges lists0 ids) (block_of edges lists0 b)) ∙ ap (hits height low) (sym last)));
        other = other ∙ (ap₂ (λ (xs ys : List ℕ). xs ++ ys) h.other (sym off) ∙ (append_assoc (lists0 (first + edges)) (offs height low (blocks_of edges lists0 ids)) (off_of height low (block_of edges lists0 b)) ∙ (ap (λ xs. lists0 (first + edges) ++ xs) (sym (offs_more height low (blocks_of edges lists0 ids) (block_of edges lists0 b))) ∙ ap (λ bs. lists0 (first + edges) ++ offs height low bs) (sym last))));
        kept = λ c l far out.
            let off_ids : ¬ Contains ids c = λ i. out (Contains-append_left ids (b ∷ []) c i) in
            let off_b : c ≢ b = λ e. out (subst (Contains (ids ++ b ∷ [])) (sym e) (Contains-append_right ids (b ∷ []) b (in_first b []))) in
            let old = h.kept c l far off_ids in
            let now = same c l far off_b in
            (now.0 ∙ old.0, now.1 ∙ old.1);
        struck = subst (Each (IsStruck height low)) (sym last) (each_joined (IsStruck height low) (blocks_of edges lists0 ids) (block_of edges lists0 b ∷ []) h.struck (struck, tt));
        moved = from_over lists0 lists new h.moved from;
      }

  abbrev one_moved : ℕ → List ℕ
  one_moved = put (b + edges) [] (put (first + edges) (put b [] (put first (lists first ++ lists b) lists) (first + edges) ++ put b [] (put first (lists first ++ lists b) lists) (b + edges)) (put b [] (put first (lists first ++ lists b) lists)))

  abbrev other_moved : ℕ → List ℕ
  other_moved = put b [] (put (first + edges) (put (b + edges) [] (put first (lists first ++ lists (b + edges)) lists) (first + edges) ++ put (b + edges) [] (put first (lists first ++ lists (b + edges)) lists) b) (put (b + edges) [] (put first (lists first ++ lists (b + edges)) lists)))

  pub puts_one : is_deep height low (lists b) ≡ true → is_deep height low (lists (b + edges)) ≡ false → IsPut height edges low into lists0 stacks0 one_moved (put into rest stacks) first (ids ++ b ∷ [])
  puts_one deep shallow =
      let bl = put_below in
      let fl = h.below in
      let ne = put_off in
      let k = old_block in
      let d0 : is_deep height low (lists0 b) ≡ true = subst (λ xs. is_deep height low xs ≡ true) k.0 deep in
      let s0 : is_deep height low (lists0 (b + edges)) ≡ false = subst (λ xs. is_deep height low xs ≡ false) k.1 shallow in
      let hit : hit_of height low (block_of edges lists0 b) ≡ lists0 b = cond-true {A = List ℕ} (is_deep height low (lists0 b)) (lists0 b) (lists0 (b + edges)) d0 in
      let off : off_of height low (block_of edges lists0 b) ≡ lists0 (b + edges) = cond-true {A = List ℕ} (is_deep height low (lists0 b)) (lists0 (b + edges)) (lists0 b) d0 in
      let fp : first ≢ b = λ e. ne (sym e) in
      let fq : first ≢ b + edges = λ e. omega arith in
      let gp : first + edges ≢ b = λ e. omega arith in
      let gq : first + edges ≢ b + edges = λ e. ne (omega arith) in
      let fg : first ≢ first + edges = λ e. omega arith in
      let pq : b ≢ b + edges = λ e. omega arith in
      moves b (b + edges) one_moved (hit ∙ sym k.0) (off ∙ sym k.1)
      (each_at_f lists first (first + edges) b (b + edges) fp fq gp gq fg pq) (each_at_g lists first (first + edges) b (b + edges) fp fq gp gq fg pq)
      (λ c l far off_b. (
        each_other lists first (first + edges) b (b + edges) fp fq gp gq fg pq c far (λ e. omega arith) off_b (λ e. omega arith),
        each_other lists first (first + edges) b (b + edges) fp fq gp gq fg pq (c + edges) (λ e. omega arith) (λ e. far (omega arith)) (λ e. omega arith) (λ e. off_b (omega arith)),
      ))
      (each_moved lists first (first + edges) b (b + edges) fp fq gp gq fg pq)
      (ap (is_deep height low) hit ∙ d0, ap (is_deep height low) off ∙ s0)

  pub puts_other : is_deep height low (lists b) ≡ false → (is_deep height low (lists b) || is_deep height low (lists (b + edges))) ≡ true → IsPut height edges low into lists0 stacks0 other_moved (put into rest stacks) first (ids ++ b ∷ [])
  puts_other shallow deep =
      let bl = put_below in
      let fl = h.below in
      let ne = put_off in
      let k = old_block in
      let s0 : is_deep height low (lists0 b) ≡ false = subst (λ xs. is_deep height low xs ≡ false) k.0 shallow in
      let d : is_deep height low (lists (b + edges)) ≡ true = elim (or_cases (is_deep height low (lists b)) (is_deep height low (lists (b + edges))) deep) [ inl t ↦ absurd (true≢false (sym t ∙ shallow)) | inr t ↦ t ] in
      let d0 : is_deep height low (lists0 (b + edges)) ≡ true = subst (λ xs. is_deep height low xs ≡ true) k.1 d in
      let hit : hit_of height low (block_of edges lists0 b) ≡ lists0 (b + edges) = cond-false {A = List ℕ} (is_deep height low (lists0 b)) (lists0 b) (lists0 (b + edges)) s0 in
      let off : off_of height low (block_of edges lists0 b) ≡ lists0 b = cond-false {A = List ℕ} (is_deep height low (lists0 b)) (lists0 (b + edges)) (lists0 b) s0 in
      let fp : first ≢ b + edges = λ e. omega arith in
      let fq : first ≢ b = λ e. ne (sym e) in
      let gp : first + edges ≢ b + edges = λ e. ne (omega arith) in
      let gq : first + edges ≢ b = λ e. omega arith in
      let fg : first ≢ first + edges = λ e. omega arith in
      let pq : b + edges ≢ b = λ e. omega arith in
      moves (b + edges) b other_moved (hit ∙ sym k.1) (off ∙ sym k.0)
      (each_at_f lists first (first + edges) (b + edges) b fp fq gp gq fg pq) (each_at_g lists first (first + edges) (b + edges) b fp fq gp gq fg pq)
      (λ c l far off_b. (
        each_other lists first (first + edges) (b + edges) b fp fq gp gq fg pq c far (λ e. omega arith) (λ e. omega arith) off_b,
        each_other lists first (first + edges) (b + edges) b fp fq gp gq fg pq (c + edges) (λ e. omega arith) (λ e. far (omega arith)) (λ e. off_b (omega arith)) (λ e. omega arith),
      ))
      (each_moved lists first (first + edges) (b + edges) b fp fq gp gq fg pq)
      (ap (is_deep height low) hit ∙ d0, ap (is_deep height low) off ∙ s0)

pub put_few : (height : ℕ → ℕ) (edges low into : ℕ) (lists0 stacks0 lists stacks : ℕ → List ℕ) (first : ℕ) (ids : List ℕ) → IsPut height edges low into lists0 stacks0 lists stacks first ids → length ids ≤ edges
put_few height edges low into lists0 stacks0 lists stacks first ids h =
    once_few ids edges (once_left ids (stacks into) (subst IsOnce h.cut (h.apart.once into))) (λ x c. h.within x (subst (λ xs. Contains xs x) (sym h.cut) (Contains-append_left ids (stacks into) x c)))

-- ---- what a call that takes a block says of it, and where it takes none
abbrev pub PopsAbove : (ℕ → ℕ) → ℕ → ChainedLists → ChainedLists → ChainedLists → ℕ → ℕ → ℕ → Type 0
PopsAbove height depth lc sc sc' stack b edges =
    (lists stacks : ℕ → List ℕ) → Holds lc lists → Holds sc stacks → IsPopped sc' stacks stack b × ((is_deep height depth (lists b) || is_deep height depth (lists (b + edges))) ≡ true)

abbrev pub PopsNone : (ℕ → ℕ) → ℕ → ChainedLists → ChainedLists → ChainedLists → ℕ → ℕ → Type 0
PopsNone height depth lc sc sc' stack edges =
    (lists stacks : ℕ → List ℕ) → Holds lc lists → Holds sc stacks → Holds sc' stacks × IsNoneAbove height depth (blocks_of edges lists (stacks stack))

-- ---- loops of these steps
module _ (height : ℕ → ℕ) (edges : ℕ) (lists0 stacks0 : ℕ → List ℕ) (first : ℕ) where
  -- more than k blocks were taken
  abbrev pub TakesTo : ℕ → ℕ → ChainedLists → ChainedLists → ℕ → Type 0
  TakesTo limit from lc sc k =
      (lists : ℕ → List ℕ) × ((stacks : ℕ → List ℕ) × ((ids : List ℕ) × (Holds lc lists × (Holds sc stacks × (IsTaken height edges limit from lists0 stacks0 lists stacks first ids × (k < length ids))))))

  pub takes_begin : (limit from : ℕ) (lists stacks : ℕ → List ℕ) (ids : List ℕ) (lc sc : ChainedLists) → Holds lc lists → Holds sc stacks → IsTaken height edges limit from lists0 stacks0 lists stacks first ids → TakesTo limit from lc sc 0
  takes_begin limit from lists stacks ids lc sc a b h =
      (lists, (stacks, (ids, (a, (b, (h, (let e = ap length h.begin.1 in omega arith)))))))

  pub takes_step : (limit from k b into other one : ℕ) (lc sc lc' sc' lc1 lc2 : ChainedLists) → lc' ≡ lc → into ≡ first + edges → other ≡ b + edges → one ≡ b → ((lists stacks : ℕ → List ℕ) → Holds lc lists → Holds sc stacks → IsPopped sc' stacks from b × ((is_deep height limit (lists b) || is_deep height limit (lists (b + edges))) ≡ true)) → ((lists : ℕ → List ℕ) → Holds lc' lists → ¬ IsTwoSided (block_of edges lists b)) → ((lists : ℕ → List ℕ) → Holds lc' lists → into ≢ other → Holds lc1 (put other [] (put into (lists into ++ lists other) lists))) → ((lists : ℕ → List ℕ) → Holds lc1 lists → into ≢ one → Holds lc2 (put one [] (put into (lists into ++ lists one) lists))) → TakesTo limit from lc sc k → TakesTo limit from lc2 sc' (k + 1)
  takes_step limit from k b into other one lc sc lc' sc' lc1 lc2 same e1 e2 e3 popped single j1 j2 t =
      let lists = t.0 in
      let stacks = t.1.0 in
      let ids = t.1.1.0 in
      let held = t.1.1.1.0 in
      let h = t.1.1.1.1.1.0 in
      let p = popped lists stacks held t.1.1.1.1.0 in
      let rest = p.0.0 in
      let bl = b_below height edges limit from lists0 stacks0 lists stacks first ids h b rest p.0.1.0 in
      let ne = first_off height edges limit from lists0 stacks0 lists stacks first ids h b rest p.0.1.0 in
      let held' : Holds lc' lists = subst (λ (z : ChainedLists). Holds z lists) (sym same) held in
      let n1 : first + edges ≢ b + edges = λ e. ne (omega arith) in
      let n2 : first + edges ≢ b = λ e. omega arith in
      let new = taken_lists height edges limit from lists0 stacks0 lists stacks first ids h b rest p.0.1.0 in
      let after = subst (λ x. (lists : ℕ → List ℕ) → Holds lc' lists → x ≢ other → Holds lc1 (put other [] (put x (lists x ++ lists other) lists))) e1 j1 in
      let after' = subst (λ y. (lists : ℕ → List ℕ) → Holds lc' lists → first + edges ≢ y → Holds lc1 (put y [] (put (first + edges) (lists (first + edges) ++ lists y) lists))) e2 after in
      let next = subst (λ x. (lists : ℕ → List ℕ) → Holds lc1 lists → x ≢ one → Holds lc2 (put one [] (put x (lists x ++ lists one) lists))) e1 j2 in
      let next' = subst (λ y. (lists : ℕ → List ℕ) → Holds lc1 lists → first + edges ≢ y → Holds lc2 (put y [] (put (first + edges) (lists (first + edges) ++ lists y) lists))) e3 next in
      let one_held = after' lists held' n1 in
      let two_held = next' (put (b + edges) [] (put (first + edges) (lists (first + edges) ++ lists (b + edges)) lists)) one_held n2 in (
        new,
        (
          put from rest stacks,
          (
            ids ++ b ∷ [],
            (two_held, (p.0.1.1, (takes_more height edges limit from lists0 stacks0 lists stacks first ids h b rest p.0.1.0 (single lists held') p.1, (let m = t.1.1.1.1.1.1 in let l = length-append ids (b ∷ []) in omega arith)))),
          ),
        ),
      )

  pub takes_full : (limit from k : ℕ) (lc sc : ChainedLists) → edges ≤ k → ¬ TakesTo limit from lc sc k
  takes_full limit from k lc sc l t =
      let few = taken_few height edges limit from lists0 stacks0 t.0 t.1.0 first t.1.1.0 t.1.1.1.1.1.0 in let m = t.1.1.1.1.1.1 in omega arith

  pub takes_done : (limit from k : ℕ) (lc sc lc' sc' : ChainedLists) → lc' ≡ lc → ((lists stacks : ℕ → List ℕ) → Holds lc lists → Holds sc stacks → Holds sc' stacks × IsNoneAbove height limit (blocks_of edges lists (stacks from))) → TakesTo limit from lc sc k → (lists : ℕ → List ℕ) × ((stacks : ℕ → List ℕ) × ((ids : List ℕ) × (Holds lc' lists × (Holds sc' stacks × (IsTaken height edges limit from lists0 stacks0 lists stacks first ids × IsNoneAbove height limit (blocks_of edges lists (stacks from)))))))
  takes_done limit from k lc sc lc' sc' same none t =
      let n = none t.0 t.1.0 t.1.1.1.0 t.1.1.1.1.0 in
      (t.0, (t.1.0, (t.1.1.0, (subst (λ (z : ChainedLists). Holds z t.0) (sym same) t.1.1.1.0, (n.0, (t.1.1.1.1.1.0, n.1))))))

  pub takes_clash : (limit from k b : ℕ) (lc sc lc' sc' : ChainedLists) → lc' ≡ lc → ((lists stacks : ℕ → List ℕ) → Holds lc lists → Holds sc stacks → IsPopped sc' stacks from b × ((is_deep height limit (lists b) || is_deep height limit (lists (b + edges))) ≡ true)) → ((lists : ℕ → List ℕ) → Holds lc' lists → IsTwoSided (block_of edges lists b)) → TakesTo limit from lc sc k → HasTwoSided (blocks_of edges lists0 (stacks0 from))
  takes_clash limit from k b lc sc lc' sc' same popped two t =
      let p = popped t.0 t.1.0 t.1.1.1.0 t.1.1.1.1.0 in
      two_sided_found height edges limit from lists0 stacks0 t.0 t.1.0 first t.1.1.0 t.1.1.1.1.1.0 b p.0.0 p.0.1.0 (two t.0 (subst (λ (z : ChainedLists). Holds z t.0) (sym same) t.1.1.1.0))

  -- k blocks were put
  abbrev pub PutsTo : ℕ → ℕ → ChainedLists → ChainedLists → ℕ → Type 0
  PutsTo low into lc sc k =
      (lists : ℕ → List ℕ) × ((stacks : ℕ → List ℕ) × ((ids : List ℕ) × (Holds lc lists × (Holds sc stacks × (IsPut height edges low into lists0 stacks0 lists stacks first ids × (k ≤ length ids))))))

  -- with two lists p and q of the block moved behind the first and the second list of the first one
  module _ (low into k b one other far near : ℕ) (lc sc lc' sc' lc1 lc2 : ChainedLists) (same : lc' ≡ lc) (e2 : other ≡ b + edges) (e1 : one ≡ b) (e3 : far ≡ first + edges) (e4 : near ≡ first) (popped : (lists stacks : ℕ → List ℕ) → Holds lc lists → Holds sc stacks → IsPopped sc' stacks into b × ((is_deep height low (lists b) || is_deep height low (lists (b + edges))) ≡ true)) (t : PutsTo low into lc sc k) where
    abbrev L : ℕ → List ℕ
    L = t.0

    abbrev S : ℕ → List ℕ
    S = t.1.0

    abbrev Ids : List ℕ
    Ids = t.1.1.0

    abbrev H : IsPut height edges low into lists0 stacks0 L S first Ids
    H = t.1.1.1.1.1.0

    abbrev Popped : IsPopped sc' S into b × ((is_deep height low (L b) || is_deep height low (L (b + edges))) ≡ true)
    Popped = popped L S t.1.1.1.0 t.1.1.1.1.0

    held_now : Holds lc' L
    held_now = subst (λ (z : ChainedLists). Holds z L) (sym same) t.1.1.1.0

    more : k + 1 ≤ length (Ids ++ b ∷ [])
    more = let m = t.1.1.1.1.1.1 in let l = length-append Ids (b ∷ []) in omega arith

    off_first : b ≢ first
    off_first = put_off height edges low into lists0 stacks0 L S first Ids H b Popped.0.0 Popped.0.1.0

    below : b < edges
    below = put_below height edges low into lists0 stacks0 L S first Ids H b Popped.0.0 Popped.0.1.0

    -- the one list is the deeper
    pub puts_step_one : ((lists : ℕ → List ℕ) → Holds lc' lists → is_deep height low (lists b) ≡ true) → ((lists : ℕ → List ℕ) → Holds lc' lists → is_deep height low (lists (b + edges)) ≡ false) → ((lists : ℕ → List ℕ) → Holds lc' lists → near ≢ one → Holds lc1 (put one [] (put near (lists near ++ lists one) lists))) → ((lists : ℕ → List ℕ) → Holds lc1 lists → far ≢ other → Holds lc2 (put other [] (put far (lists far ++ lists other) lists))) → PutsTo low into lc2 sc' (k + 1)
    puts_step_one deep shallow j1 j2 =
        let bl = below in
        let fl = H.below in
        let ne = off_first in
        let a = subst (λ x. (lists : ℕ → List ℕ) → Holds lc' lists → x ≢ one → Holds lc1 (put one [] (put x (lists x ++ lists one) lists))) e4 j1 in
        let a' = subst (λ y. (lists : ℕ → List ℕ) → Holds lc' lists → first ≢ y → Holds lc1 (put y [] (put first (lists first ++ lists y) lists))) e1 a in
        let c = subst (λ x. (lists : ℕ → List ℕ) → Holds lc1 lists → x ≢ other → Holds lc2 (put other [] (put x (lists x ++ lists other) lists))) e3 j2 in
        let c' = subst (λ y. (lists : ℕ → List ℕ) → Holds lc1 lists → first + edges ≢ y → Holds lc2 (put y [] (put (first + edges) (lists (first + edges) ++ lists y) lists))) e2 c in
        let held1 = a' L held_now (λ e. ne (sym e)) in
        let held2 = c' (put b [] (put first (L first ++ L b) L)) held1 (λ e. ne (omega arith)) in (
          one_moved height edges low into lists0 stacks0 L S first Ids H b Popped.0.0 Popped.0.1.0,
          (put into Popped.0.0 S, (Ids ++ b ∷ [], (held2, (Popped.0.1.1, (puts_one height edges low into lists0 stacks0 L S first Ids H b Popped.0.0 Popped.0.1.0 (deep L held_now) (shallow L held_now), more))))),
        )

    -- the other list is the deeper
    pub puts_step_other : ((lists : ℕ → List ℕ) → Holds lc' lists → is_deep height low (lists b) ≡ false) → ((lists : ℕ → List ℕ) → Holds lc' lists → near ≢ other → Holds lc1 (put other [] (put near (lists near ++ lists other) lists))) → ((lists : ℕ → List ℕ) → Holds lc1 lists → far ≢ one → Holds lc2 (put one [] (put far (lists far ++ lists one) lists))) → PutsTo low into lc2 sc' (k + 1)
    puts_step_other shallow j1 j2 =
        let bl = below in
        let fl = H.below in
        let ne = off_first in
        let a = subst (λ x. (lists : ℕ → List ℕ) → Holds lc' lists → x ≢ other → Holds lc1 (put other [] (put x (lists x ++ lists other) lists))) e4 j1 in
        let a' = subst (λ y. (lists : ℕ → List ℕ) → Holds lc' lists → first ≢ y → Holds lc1 (put y [] (put first (lists first ++ lists y) lists))) e2 a in
        let c = subst (λ x. (lists : ℕ → List ℕ) → Holds lc1 lists → x ≢ one → Holds lc2 (put one [] (put x (lists x ++ lists one) lists))) e3 j2 in
        let c' = subst (λ y. (lists : ℕ → List ℕ) → Holds lc1 lists → first + edges ≢ y → Holds lc2 (put y [] (put (first + edges) (lists (first + edges) ++ lists y) lists))) e1 c in
        let held1 = a' L held_now (λ e. omega arith) in
        let held2 = c' (put (b + edges) [] (put first (L first ++ L (b + edges)) L)) held1 (λ e. omega arith) in (
          other_moved height edges low into lists0 stacks0 L S first Ids H b Popped.0.0 Popped.0.1.0,
          (put into Popped.0.0 S, (Ids ++ b ∷ [], (held2, (Popped.0.1.1, (puts_other height edges low into lists0 stacks0 L S first Ids H b Popped.0.0 Popped.0.1.0 (shallow L held_now) Popped.1, more))))),
        )

    pub puts_clash : ((lists : ℕ → List ℕ) → Holds lc' lists → is_deep height low (lists b) ≡ true) → ((lists : ℕ → List ℕ) → Holds lc' lists → is_deep height low (lists (b + edges)) ≡ true) → HasTwoDeep height low (blocks_of edges lists0 (stacks0 into))
    puts_clash one_deep other_deep =
        two_deep_found height edges low into lists0 stacks0 L S first Ids H b Popped.0.0 Popped.0.1.0 (one_deep L held_now) (other_deep L held_now)

  -- all are fewer than there are edges, as the first one is not among them
  pub puts_full : (low into k : ℕ) (lc sc : ChainedLists) → edges ≤ k → ¬ PutsTo low into lc sc k
  puts_full low into k lc sc l t =
      let ids = t.1.1.0 in
      let h = t.1.1.1.1.1.0 in
      let was : (x : ℕ) → Contains ids x → Contains (stacks0 into) x = λ x c. subst (λ xs. Contains xs x) (sym h.cut) (Contains-append_left ids (t.1.0 into) x c) in
      let once : IsOnce (first ∷ ids) = ((λ c. h.fresh into (was first c)), once_left ids (t.1.0 into) (subst IsOnce h.cut (h.apart.once into))) in
      let few = once_few (first ∷ ids) edges once (λ x c. elim (in_cases first x ids c) [ inl e ↦ subst (λ z. z < edges) e h.below | inr k' ↦ h.within x (was x k') ]) in
      let m = t.1.1.1.1.1.1 in
      omega arith

  pub puts_done : (low into k : ℕ) (lc sc lc' sc' : ChainedLists) → lc' ≡ lc → ((lists stacks : ℕ → List ℕ) → Holds lc lists → Holds sc stacks → Holds sc' stacks × IsNoneAbove height low (blocks_of edges lists (stacks into))) → PutsTo low into lc sc k → (lists : ℕ → List ℕ) × ((stacks : ℕ → List ℕ) × ((ids : List ℕ) × (Holds lc' lists × (Holds sc' stacks × (IsPut height edges low into lists0 stacks0 lists stacks first ids × IsNoneAbove height low (blocks_of edges lists (stacks into)))))))
  puts_done low into k lc sc lc' sc' same none t =
      let n = none t.0 t.1.0 t.1.1.1.0 t.1.1.1.1.0 in
      (t.0, (t.1.0, (t.1.1.0, (subst (λ (z : ChainedLists). Holds z t.0) (sym same) t.1.1.1.0, (n.0, (t.1.1.1.1.1.0, n.1))))))
