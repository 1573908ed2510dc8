-- Steps of the structure as steps of its stacks of blocks.
use Rattle.std.proofs.Common.{◌≡◌, ◌≢◌, ◌↔◌, ℕ, ◌+◌, ◌<◌, ◌≤◌, Bool, true, false, List, [], ◌∷◌, ◌++◌, length, ltb, Contains, refl, sym, ap, ap₂, ◌∙◌, subst, inl, inr, arith}
use Rattle.std.specs.Bool.{MatchBool}
use Rattle.std.specs.List.{AllByRecursion as Each}
use Rattle.std.proofs.lemmas.Bool.{cases_eq, cond-true, cond-false, lt-ltb, le-ltb}
use Rattle.chained_lists.specs.Chains.{put, singles}
use Rattle.chained_lists.specs.Held.{Holds}
use Rattle.left_right_blocks.specs.Blocks.{Block, edges_in, AllAgree, IsShort, IsPart}
use Rattle.left_right_blocks.specs.Parts.{blocks_of, IsFrom, IsUnion}
use Rattle.left_right_blocks.specs.Ties.{AreGone}
use Rattle.left_right_blocks.specs.Trims.{AreTied, IsTrimmed}
use Rattle.left_right_blocks.specs.Steps.{IsSame, AreParts, MatchMerged}
use Rattle.left_right_blocks.specs.Begun.{IsBegun}
use Rattle.left_right_blocks.specs.States.{IsState, Obeys, Merges, Drops, Moves}
use Rattle.left_right_blocks.specs.declared.ties.Tie.{Tie}
use Rattle.left_right_blocks.specs.declared.blocks.Blocks.{Blocks}
use Rattle.left_right_blocks.proofs.Steps.{joined_at, joined_other}
use Rattle.chained_lists.proofs.Links.{put_here}

gone_from : (old new : ℕ → List ℕ) (ties : List Tie) → IsFrom old new → AreGone old ties → AreGone new ties
gone_from old new [] f h = tt
gone_from old new (t ∷ ts) f h = ((λ p c. (let a = f p t.edge c in h.0 a.0 a.1)), gone_from old new ts f h.1)

pub tied_from : (edges : ℕ) (old new : ℕ → List ℕ) (ties : List Tie) → IsFrom old new → AreTied edges old ties → AreTied edges new ties
tied_from edges old new ties f h = record { turn = h.turn; below = h.below; gone = gone_from old new ties f h.gone }

-- a structure with the same edges and ties, and with other lists
with_lists : (old new : Blocks) (lists : ℕ → List ℕ) → new.edges ≡ old.edges → new.ties.items ≡ old.ties.items → AreTied old.edges lists old.ties.items → AreTied new.edges lists new.ties.items
with_lists old new lists e f h =
    subst (λ us. AreTied new.edges lists us) (sym f) (subst (λ k. AreTied k lists old.ties.items) (sym e) h)

module _ (height : ℕ → ℕ) (old new : Blocks) (P : ℕ → List Block) (s : IsState old P) where
  -- ---- two parts put together
  pub state_merged : (limit low into from : ℕ) → IsSame old new → (ok : Bool) → ((lists stacks : ℕ → List ℕ) → Holds old.lists lists → Holds old.stacks stacks → AreParts height old.edges limit low into from lists stacks → MatchMerged height old.edges limit low into from lists stacks new ok) → IsPart height limit (P into) → IsPart height low (P from) → limit ≤ low → into ≢ from → (Each (λ x. height x ≤ limit) (edges_in (P from)) → Each (λ y. height y ≤ low) (edges_in (P into))) → MatchBool ok ((P' : ℕ → List Block) × (IsState new P' × Merges height limit low into from P P')) ((side : ℕ → Bool) → AllAgree side (P into) → AllAgree side (P from) → ¬ IsShort height side limit low (edges_in (P into)) (edges_in (P from)))
  state_merged limit low into from same ok merged a b le ne none =
      let ei = s.are into in
      let ef = s.are from in
      let parts : AreParts height old.edges limit low into from s.lists s.stacks = record {
        one = subst (IsPart height limit) ei a;
        other = subst (IsPart height low) ef b;
        nested = le;
        apart = ne;
        none = λ h. subst (λ bs. Each (λ y. height y ≤ low) (edges_in bs)) ei (none (subst (λ bs. Each (λ x. height x ≤ limit) (edges_in bs)) (sym ef) h));
      } in
      both ok (merged s.lists s.stacks s.lists_held s.stacks_held parts)
    where
      both : (k : Bool) → MatchMerged height old.edges limit low into from s.lists s.stacks new k → MatchBool k ((P' : ℕ → List Block) × (IsState new P' × Merges height limit low into from P P')) ((side : ℕ → Bool) → AllAgree side (P into) → AllAgree side (P from) → ¬ IsShort height side limit low (edges_in (P into)) (edges_in (P from)))
      both true m =
          let P' : ℕ → List Block = λ p. blocks_of old.edges m.lists (m.stacks p) in (
            P',
            (
              record {
                lists = m.lists;
                stacks = m.stacks;
                lists_held = m.lists_held;
                stacks_held = m.stacks_held;
                tied = with_lists old new m.lists same.edges same.ties (tied_from old.edges s.lists m.lists old.ties.items m.moved s.tied);
                are = λ p. ap (λ k. blocks_of k m.lists (m.stacks p)) (sym same.edges);
              },
              record {
                gone = ap (blocks_of old.edges m.lists) m.gone;
                others = λ p off off'. m.others p off off' ∙ sym (s.are p);
                union = subst (λ bs. IsUnion height limit low bs (P from) (P' into)) (sym (s.are into)) (subst (λ bs. IsUnion height limit low (blocks_of old.edges s.lists (s.stacks into)) bs (P' into)) (sym (s.are from)) m.union);
              },
            ),
          )
      both false m =
          λ side x y short. m side (subst (AllAgree side) (s.are into) x) (subst (AllAgree side) (s.are from) y)
          (subst (λ bs. IsShort height side limit low (edges_in bs) (edges_in (blocks_of old.edges s.lists (s.stacks from)))) (s.are into) (subst (λ bs. IsShort height side limit low (edges_in (P into)) (edges_in bs)) (s.are from) short))

  -- what comes of it for sides
  pub merged_obeys : (limit low into from : ℕ) (P' : ℕ → List Block) (ties : List Tie) → into ≢ from → Merges height limit low into from P P' → (side : ℕ → Bool) → Obeys side P' ties ↔ (Obeys side P ties × IsShort height side limit low (edges_in (P into)) (edges_in (P from)))
  merged_obeys limit low into from P' ties ne m side =
      let u = m.union.agree side in (
        (λ h.
            let a = u.0 (h.0 into) in (
              (
                (λ p. elim (cases_eq p into) [
                  | inl e ↦ subst (λ q. AllAgree side (P q)) (sym e) a.0.0
                  | inr off ↦ elim (cases_eq p from) [ inl e ↦ subst (λ q. AllAgree side (P q)) (sym e) a.0.1 | inr off' ↦ subst (AllAgree side) (m.others p off off') (h.0 p) ]
                ]),
                h.1,
              ),
              a.1,
            )),
        (λ h. (
          (λ p. elim (cases_eq p into) [
            | inl e ↦ subst (λ q. AllAgree side (P' q)) (sym e) (u.1 ((h.0.0 into, h.0.0 from), h.1))
            | inr off ↦ elim (cases_eq p from) [ inl e ↦ subst (λ q. AllAgree side (P' q)) (sym e) (subst (AllAgree side) (sym m.gone) tt) | inr off' ↦ subst (AllAgree side) (sym (m.others p off off')) (h.0.0 p) ]
          ]),
          h.0.1,
        )),
      )

  -- ---- a part trimmed
  pub state_trimmed : (depth low stack : ℕ) → new.edges ≡ old.edges → ((lists stacks : ℕ → List ℕ) (k : ℕ) → Holds old.lists lists → Holds old.stacks stacks → AreTied old.edges lists old.ties.items → IsPart height k (blocks_of old.edges lists (stacks stack)) → IsTrimmed height old.edges depth k stack lists stacks new.lists new.stacks old.ties.items new.ties.items) → IsPart height low (P stack) → (P' : ℕ → List Block) × (IsState new P' × Drops height depth low stack P P' old.ties.items new.ties.items)
  state_trimmed depth low stack e trimmed part =
      let t = trimmed s.lists s.stacks low s.lists_held s.stacks_held s.tied (subst (IsPart height low) (s.are stack) part) in
      let P' : ℕ → List Block = λ p. blocks_of old.edges t.lists (t.stacks p) in
      let others : (p : ℕ) → p ≢ stack → P' p ≡ P p = λ p off. t.others p off ∙ sym (s.are p) in (
        P',
        (
          record {
            lists = t.lists;
            stacks = t.stacks;
            lists_held = t.lists_held;
            stacks_held = t.stacks_held;
            tied = subst (λ k. AreTied k t.lists new.ties.items) (sym e) t.tied;
            are = λ p. ap (λ k. blocks_of k t.lists (t.stacks p)) (sym e);
          },
          record {
            others = others;
            part = t.part;
            left = λ x. (let l = t.left x in ((λ c. (let a = l.0 c in (subst (λ bs. Contains (edges_in bs) x) (sym (s.are stack)) a.0, a.1))), (λ h. l.1 (subst (λ bs. Contains (edges_in bs) x) (s.are stack) h.0, h.1))));
            agree = λ side. (let u = t.agree side in (
              (λ h.
                  let a = u.0 (subst (AllAgree side) (s.are stack) (h.0 stack), h.1) in
                  ((λ p. elim (cases_eq p stack) [ inl e' ↦ subst (λ q. AllAgree side (P' q)) (sym e') a.0 | inr off ↦ subst (AllAgree side) (sym (others p off)) (h.0 p) ]), a.1)),
              (λ h.
                  let a = u.1 (h.0 stack, h.1) in
                  ((λ p. elim (cases_eq p stack) [ inl e' ↦ subst (λ q. AllAgree side (P q)) (sym e') (subst (AllAgree side) (sym (s.are stack)) a.0) | inr off ↦ subst (AllAgree side) (others p off) (h.0 p) ]), a.1)),
            ));
          },
        ),
      )

  -- ---- a stack moved into an empty one
  pub state_moved : (into from : ℕ) → IsSame old new → new.lists ≡ old.lists → ((stacks : ℕ → List ℕ) → Holds old.stacks stacks → into ≢ from → Holds new.stacks (put from [] (put into (stacks into ++ stacks from) stacks))) → into ≢ from → P into ≡ [] → (P' : ℕ → List Block) × (IsState new P' × Moves into from P P')
  state_moved into from same ls moved ne bare =
      let S' = put from [] (put into (s.stacks into ++ s.stacks from) s.stacks) in
      let P' : ℕ → List Block = λ p. blocks_of old.edges s.lists (S' p) in
      let none : s.stacks into ≡ [] = no_blocks (s.stacks into) (sym (s.are into) ∙ bare) in (
        P',
        (
          record {
            lists = s.lists;
            stacks = S';
            lists_held = subst (λ z. Holds z s.lists) (sym ls) s.lists_held;
            stacks_held = moved s.stacks s.stacks_held ne;
            tied = with_lists old new s.lists same.edges same.ties s.tied;
            are = λ p. ap (λ k. blocks_of k s.lists (S' p)) (sym same.edges);
          },
          record {
            here = ap (blocks_of old.edges s.lists) (joined_at s.stacks into from ne ∙ ap (λ xs. xs ++ s.stacks from) none) ∙ sym (s.are from);
            gone = ap (blocks_of old.edges s.lists) (put_here from [] (put into (s.stacks into ++ s.stacks from) s.stacks));
            others = λ p off off'. ap (blocks_of old.edges s.lists) (joined_other s.stacks into from ne p off off') ∙ sym (s.are p);
          },
        ),
      )
    where
      no_blocks : (xs : List ℕ) → blocks_of old.edges s.lists xs ≡ [] → xs ≡ []
      no_blocks [] e = refl
      no_blocks (x ∷ xs) e = absurd (let a = ap length e in omega arith)

-- ---- the beginning
-- each edge in a block of its own
abbrev pub begun : ℕ → ℕ → List Block
begun edges p = blocks_of edges (singles edges) (singles edges p)

pub state_begun : (edges more : ℕ) (blocks : Blocks) → IsBegun edges more blocks → IsState blocks (begun edges)
state_begun edges more blocks h =
    record {
      lists = singles edges;
      stacks = singles edges;
      lists_held = h.lists;
      stacks_held = h.stacks;
      tied = subst (AreTied blocks.edges (singles edges)) (sym h.ties) (record { turn = tt; below = tt; gone = tt });
      are = λ p. ap (λ k. blocks_of k (singles edges) (singles edges p)) (sym h.edges_are);
    }

-- an edge's own stack has a block of that edge alone, and all other stacks none
pub begun_edge : (edges p : ℕ) → p < edges → begun edges p ≡ (record { one = p ∷ []; other = [] }) ∷ []
begun_edge edges p l =
    let here : singles edges p ≡ p ∷ [] = cond-true {A = List ℕ} (ltb p edges) (p ∷ []) [] (lt-ltb p edges l) in
    let far : singles edges (p + edges) ≡ [] = cond-false {A = List ℕ} (ltb (p + edges) edges) ((p + edges) ∷ []) [] (le-ltb (p + edges) edges (omega arith)) in
    ap (blocks_of edges (singles edges)) here ∙ ap₂ (λ (xs ys : List ℕ). (record { one = xs; other = ys }) ∷ []) here far

pub begun_other : (edges p : ℕ) → edges ≤ p → begun edges p ≡ []
begun_other edges p l =
    ap (blocks_of edges (singles edges)) (cond-false {A = List ℕ} (ltb p edges) (p ∷ []) [] (le-ltb p edges l))
