-- A list of a fork's edges in nesting order, gone through from its front.
use Rattle.std.proofs.Common.{◌≡◌, ◌≢◌, ℕ, zero, suc, ◌+◌, ◌*◌, ◌<◌, ◌≤◌, Bool, true, false, cond, List, [], ◌∷◌, ◌++◌, length, get_or, eqb, take, drop, Contains, refl, sym, ap, ◌∙◌, subst, inl, inr, arith}
use Rattle.std.proofs.Math.Seq.{take-suc}
use Rattle.std.proofs.lemmas.List.Elements.{Contains-append_left, Contains-append_right}
use Rattle.chained_lists.proofs.Links.{in_none, in_first, in_cases}
use Rattle.left_right_blocks.specs.declared.fork_edges.ForkEdge.{ForkEdge}
use Rattle.left_right_blocks.specs.Forks.{key, AreNested, IsForkEdge, ForksMet, IsFork, IsGathered}
use Rattle.std.specs.Bool.{MatchBool}
use Rattle.std.proofs.lemmas.Bool.{true≢false}
use Rattle.left_right_blocks.specs.Blocks.{Block, edges_in, AllAgree, IsShort}
use Rattle.left_right_blocks.specs.Steps.{IsSame, AreParts, MatchMerged}
use Rattle.left_right_blocks.specs.States.{IsState, Obeys, Merges}
use Rattle.left_right_blocks.specs.declared.blocks.Blocks.{Blocks}
use Rattle.left_right_blocks.specs.declared.ties.Tie.{Tie}
use Rattle.chained_lists.specs.Held.{Holds}
use Rattle.left_right_blocks.proofs.Forking.{into_part, next_part, below_next, none_yet, clash_next, gathered_more}
use Rattle.left_right_blocks.proofs.Stated.{state_merged, merged_obeys}
use Rattle.left_right_blocks.proofs.Eaches.{each_in, each_left, each_right}

-- an edge of a lesser key returns no deeper
pub low_by_key : (d e : ForkEdge) → key d ≤ key e → d.low ≤ e.low
low_by_key d e l = by d.mixed e.mixed l
  where
    by : (p q : Bool) → 2 * d.low + cond p 1 0 ≤ 2 * e.low + cond q 1 0 → d.low ≤ e.low
    by true true l = omega arith
    by true false l = omega arith
    by false true l = omega arith
    by false false l = omega arith

nested_across : (xs : List ForkEdge) (y : ForkEdge) (ys : List ForkEdge) → AreNested (xs ++ (y ∷ ys)) → (d : ForkEdge) → Contains xs d → (key d ≤ key y) × (d.stack ≢ y.stack)
nested_across [] y ys h d c = absurd (in_none d c)
nested_across (x ∷ xs) y ys h d c =
    elim (in_cases x d xs c) [
      | inl e ↦ subst (λ (z : ForkEdge). (key z ≤ key y) × (z.stack ≢ y.stack)) e (each_right (λ (z : ForkEdge). (key x ≤ key z) × (x.stack ≢ z.stack)) xs (y ∷ ys) h.0).0
      | inr k ↦ nested_across xs y ys h.1 d k
    ]

nested_left : (xs ys : List ForkEdge) → AreNested (xs ++ ys) → AreNested xs
nested_left [] ys h = tt
nested_left (x ∷ xs) ys h = (each_left (λ (z : ForkEdge). (key x ≤ key z) × (x.stack ≢ z.stack)) xs ys h.0, nested_left xs ys h.1)

cut_at : (ds : List ForkEdge) (k : ℕ) (z : ForkEdge) → k < length ds → ds ≡ take k ds ++ (get_or ds k z ∷ drop (suc k) ds)
cut_at [] k z l = absurd (omega arith)
cut_at (d ∷ ds) zero z l = refl
cut_at (d ∷ ds) (suc k) z l = ap (λ es. d ∷ es) (cut_at ds k z (omega arith))

-- what is known of the edges before a place and of that at it
pub record AtPlace (ds : List ForkEdge) (k : ℕ) (first next : ForkEdge) : Type 0 where
  pub rest : List ForkEdge
  pub done : take k ds ≡ first ∷ rest
  pub more : take (k + 1) ds ≡ (first ∷ rest) ++ next ∷ []
  pub within : (d : ForkEdge) → Contains (first ∷ rest) d → Contains ds d
  pub next_in : Contains ds next
  pub order : (d : ForkEdge) → Contains (first ∷ rest) d → (key d ≤ key next) × (d.stack ≢ next.stack)
  pub lows : (d : ForkEdge) → Contains (first ∷ rest) d → first.low ≤ d.low

pub at_place : (ds : List ForkEdge) (k : ℕ) (z : ForkEdge) → AreNested ds → 0 < k → k < length ds → AtPlace ds k (get_or ds 0 z) (get_or ds k z)
at_place ds k z nested some l =
    let front = begin ds k some l in
    let is = cut_at ds k z l in
    let in_front : (d : ForkEdge) → Contains (get_or ds 0 z ∷ front.0) d → Contains (take k ds) d = λ d c. subst (λ es. Contains es d) (sym front.1) c in
    let next : k + 1 ≡ suc k = omega arith in
    record {
      rest = front.0;
      done = front.1;
      more = ap (λ j. take j ds) next ∙ (take-suc ds k z l ∙ ap (λ es. es ++ get_or ds k z ∷ []) front.1);
      within = λ d c. subst (λ es. Contains es d) (sym is) (Contains-append_left (take k ds) (get_or ds k z ∷ drop (suc k) ds) d (in_front d c));
      next_in = subst (λ es. Contains es (get_or ds k z)) (sym is) (Contains-append_right (take k ds) (get_or ds k z ∷ drop (suc k) ds) (get_or ds k z) (in_first (get_or ds k z) (drop (suc k) ds)));
      order = λ d c. nested_across (take k ds) (get_or ds k z) (drop (suc k) ds) (subst AreNested is nested) d (in_front d c);
      lows = λ d c. elim (in_cases (get_or ds 0 z) d front.0 c) [
        | inl e ↦ subst (λ (x : ForkEdge). (get_or ds 0 z).low ≤ x.low) e (omega arith)
        | inr r ↦ low_by_key (get_or ds 0 z) d (each_in (λ (x : ForkEdge). (key (get_or ds 0 z) ≤ key x) × ((get_or ds 0 z).stack ≢ x.stack)) front.0 d (subst AreNested front.1 (nested_left (take k ds) (get_or ds k z ∷ drop (suc k) ds) (subst AreNested is nested))).0 r).0
      ];
    }
  where
    begin : (es : List ForkEdge) (j : ℕ) → 0 < j → j < length es → (rest : List ForkEdge) × (take j es ≡ get_or es 0 z ∷ rest)
    begin [] j a b = absurd (omega arith)
    begin (e ∷ es) zero a b = absurd (omega arith)
    begin (e ∷ es) (suc j) a b = (take j es, refl)

-- a list that is not empty begins with its first
pub first_of : (ds : List ForkEdge) (z : ForkEdge) (bare : Bool) → bare ≡ eqb (length ds) 0 → bare ≡ false → (take 1 ds ≡ get_or ds 0 z ∷ []) × (Contains ds (get_or ds 0 z) × (0 < length ds))
first_of [] z bare e f = absurd (true≢false (sym e ∙ f))
first_of (d ∷ ds) z bare e f = (refl, (in_first d ds, omega arith))

module _ (height : ℕ → ℕ) (old new : Blocks) (into : ℕ) (P : ℕ → List Block) (ties : List Tie) (ds : List ForkEdge) (k : ℕ) (z : ForkEdge) (f : IsFork height into P ds) (some : 0 < k) (l : k < length ds) (now : ℕ → List Block) (s : IsState old now) (g : IsGathered height into P now ties (take k ds)) (same : IsSame old new) (ties_are : old.ties.items ≡ ties) where
  abbrev First : ForkEdge
  First = get_or ds 0 z

  abbrev Next : ForkEdge
  Next = get_or ds k z

  abbrev At : AtPlace ds k First Next
  At = at_place ds k z f.nested some l

  gone_to : IsGathered height into P now ties (First ∷ At.rest)
  gone_to = subst (IsGathered height into P now ties) At.done g

  are : (d : ForkEdge) → Contains (First ∷ At.rest) d → IsForkEdge height P d
  are d c = f.are d (At.within d c)

  off : (d : ForkEdge) → Contains (First ∷ At.rest) d → into ≢ d.stack
  off d c = f.apart d (At.within d c)

  abbrev Merged : Bool → Type 0
  Merged ok = (lists stacks : ℕ → List ℕ) → Holds old.lists lists → Holds old.stacks stacks → AreParts height old.edges First.low Next.low into Next.stack lists stacks → MatchMerged height old.edges First.low Next.low into Next.stack lists stacks new ok

  told : (ok : Bool) → Merged ok → MatchBool ok ((P' : ℕ → List Block) × (IsState new P' × Merges height First.low Next.low into Next.stack now P')) ((side : ℕ → Bool) → AllAgree side (now into) → AllAgree side (now Next.stack) → ¬ IsShort height side First.low Next.low (edges_in (now into)) (edges_in (now Next.stack)))
  told ok merged =
      state_merged height old new now s First.low Next.low into Next.stack same ok merged
      (into_part height into P ties First At.rest Next (f.are Next At.next_in) (f.apart Next At.next_in) are At.order At.lows off now gone_to)
      (next_part height into P ties First At.rest Next (f.are Next At.next_in) (f.apart Next At.next_in) are At.order At.lows off now gone_to)
      (below_next height into P ties First At.rest Next (f.are Next At.next_in) (f.apart Next At.next_in) are At.order At.lows off now gone_to)
      (f.apart Next At.next_in)
      (none_yet height into P ties First At.rest Next (f.are Next At.next_in) (f.apart Next At.next_in) are At.order At.lows off now gone_to)

  pub gather_step : Merged true → (P' : ℕ → List Block) × (IsState new P' × IsGathered height into P P' ties (take (k + 1) ds))
  gather_step merged =
      let t = told true merged in (
        t.0,
        (
          t.1.0,
          subst (IsGathered height into P t.0 ties) (sym At.more)
              (gathered_more height into P ties First At.rest Next (f.are Next At.next_in) (f.apart Next At.next_in) are At.order At.lows off now gone_to t.0 t.1.1 (merged_obeys height old new now s First.low Next.low into Next.stack t.0 ties (f.apart Next At.next_in) t.1.1)),
        ),
      )

  pub gather_clash : Merged false → (side : ℕ → Bool) → Obeys side P ties → ¬ ForksMet height P side ds
  gather_clash merged =
      clash_next height into P ties First At.rest Next (f.are Next At.next_in) (f.apart Next At.next_in) are At.order At.lows off now gone_to (told false merged) ds At.within At.next_in
