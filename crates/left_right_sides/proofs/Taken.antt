-- The edges of a fork, found as their stacks are taken from a list.
use Rattle.std.proofs.Common.{◌≡◌, ℕ, ◌+◌, ◌≤◌, List, [], ◌∷◌, length, Contains, sym, subst, ◌≢◌}
use Rattle.std.specs.Prelude.{Option, Some, None}
use Rattle.std.specs.List.{AllByRecursion as Each}
use Rattle.chained_lists.specs.Chains.{put}
use Rattle.chained_lists.specs.Held.{Holds, IsPopped}
use Rattle.chained_lists.specs.declared.ChainedLists.{ChainedLists}
use Rattle.chained_lists.proofs.Links.{put_here}
use Rattle.left_right_blocks.specs.Blocks.{Block}
use Rattle.left_right_blocks.specs.Forks.{AreNested}
use Rattle.left_right_blocks.specs.declared.fork_edges.ForkEdge.{ForkEdge}
use Rattle.left_right_blocks.specs.declared.blocks.Blocks.{Blocks}
use Rattle.left_right_blocks.specs.declared.ties.Tie.{Tie}
use Rattle.left_right_sides.specs.Standing.{Rooted}
use Rattle.left_right_sides.specs.Items.{HoldsBut}
use Rattle.left_right_sides.specs.Views.{AreFoundTo, MatchLooked, IsInserted}
use Rattle.left_right_sides.proofs.Items.{IsPoppedTo, popped_more, popped_once, popped_all}

-- j stacks were taken, and those left in the list are to be looked at
abbrev pub AreTakenTo : Rooted → ℕ → (ℕ → List Block) → List Tie → (ℕ → List ℕ) → ℕ → ChainedLists → ℕ → Blocks → List ForkEdge → Type 0
AreTakenTo r v P ties0 lists0 list now j blocks ds =
    (lists : ℕ → List ℕ) × (IsPoppedTo lists0 list lists now j × AreFoundTo r v P ties0 blocks ds (lists list))

-- only what was taken
abbrev pub ArePoppedTo : (ℕ → List ℕ) → ℕ → ChainedLists → ℕ → Type 0
ArePoppedTo lists0 list now j = (lists : ℕ → List ℕ) × IsPoppedTo lists0 list lists now j

-- what a list's first number was
abbrev pub PopsFirst : ChainedLists → ChainedLists → ℕ → ℕ → Type 0
PopsFirst old new list x = (lists : ℕ → List ℕ) → Holds old lists → IsPopped new lists list x

pub popped_step : (lists0 : ℕ → List ℕ) (list j x : ℕ) (old new : ChainedLists) → PopsFirst old new list x → ArePoppedTo lists0 list old j → ArePoppedTo lists0 list new (j + 1)
popped_step lists0 list j x old new pops h =
    let p = pops h.0 h.1.held in
    (put list p.0 h.0, popped_more lists0 list h.0 old j h.1 new x p.0 p.1.0 p.1.1)

module _ (r : Rooted) (v : ℕ) (P : ℕ → List Block) (ties0 : List Tie) (lists0 : ℕ → List ℕ) (list j x : ℕ) (old new : ChainedLists) (pops : PopsFirst old new list x) (before after : Blocks) (ds : List ForkEdge) (h : AreTakenTo r v P ties0 lists0 list old j before ds) (looked : Option ForkEdge) (looks : (left : List ℕ) → ¬ Contains left x → AreFoundTo r v P ties0 before ds (x ∷ left) → MatchLooked r v P ties0 after ds left looked) where
  abbrev popped : IsPopped new h.0 list x
  popped = pops h.0 h.1.0.held

  seen : MatchLooked r v P ties0 after ds popped.0 looked
  seen = looks popped.0 (popped_once lists0 list h.0 old j h.1.0 x popped.0 popped.1.0) (subst (AreFoundTo r v P ties0 before ds) popped.1.0 h.1.1)

  next : IsPoppedTo lists0 list (put list popped.0 h.0) new (j + 1)
  next = popped_more lists0 list h.0 old j h.1.0 new x popped.0 popped.1.0 popped.1.1

  -- it has no edge
  pub taken_none : looked ≡ None → AreTakenTo r v P ties0 lists0 list new (j + 1) after ds
  taken_none is =
      (put list popped.0 h.0, (next, subst (AreFoundTo r v P ties0 after ds) (sym (put_here list popped.0 h.0)) (subst (MatchLooked r v P ties0 after ds popped.0) is seen)))

  -- it has one
  pub taken_some : (d : ForkEdge) (ds' : List ForkEdge) → looked ≡ Some d → (AreNested ds → Each (λ (e : ForkEdge). e.stack ≢ d.stack) ds → IsInserted ds ds' d) → AreTakenTo r v P ties0 lists0 list new (j + 1) after ds'
  taken_some d ds' is inserted =
      (put list popped.0 h.0, (next, subst (AreFoundTo r v P ties0 after ds') (sym (put_here list popped.0 h.0)) (subst (MatchLooked r v P ties0 after ds popped.0) is seen ds' inserted)))

-- none is left
abbrev pub PopsNone : ChainedLists → ChainedLists → ℕ → Type 0
PopsNone old new list = (lists : ℕ → List ℕ) → Holds old lists → Holds new lists × (lists list ≡ [])

pub found_when_none : (r : Rooted) (v : ℕ) (P : ℕ → List Block) (ties0 : List Tie) (lists0 : ℕ → List ℕ) (list j : ℕ) (old new : ChainedLists) (blocks : Blocks) (ds : List ForkEdge) → PopsNone old new list → AreTakenTo r v P ties0 lists0 list old j blocks ds → AreFoundTo r v P ties0 blocks ds []
found_when_none r v P ties0 lists0 list j old new blocks ds none h = subst (AreFoundTo r v P ties0 blocks ds) (none h.0 h.1.0.held).1 h.1.1

pub found_when_full : (r : Rooted) (v : ℕ) (P : ℕ → List Block) (ties0 : List Tie) (lists0 : ℕ → List ℕ) (list j count : ℕ) (first now : ChainedLists) (blocks : Blocks) (ds : List ForkEdge) → Holds first lists0 → length first.next.items ≡ count → count ≤ j → AreTakenTo r v P ties0 lists0 list now j blocks ds → AreFoundTo r v P ties0 blocks ds []
found_when_full r v P ties0 lists0 list j count first now blocks ds held long full h =
    subst (AreFoundTo r v P ties0 blocks ds) (popped_all lists0 list h.0 now j h.1.0 first count held long full) h.1.1

pub but_when_none : (lists0 : ℕ → List ℕ) (list there j : ℕ) (old new : ChainedLists) → list ≡ there → PopsNone old new list → ArePoppedTo lists0 list old j → HoldsBut new there lists0
but_when_none lists0 list there j old new e none h =
    subst (λ z. HoldsBut new z lists0) e (h.0, ((none h.0 h.1.held).0, h.1.others))
