-- Edges dropped one by one from the lists of a block.
use Rattle.std.proofs.Common.{◌≡◌, ◌≢◌, ◌⊎◌, ◌↔◌, ℕ, ◌+◌, ◌<◌, ◌≤◌, Bool, true, false, not, List, [], ◌∷◌, ◌++◌, length, Contains, refl, sym, ap, ap₂, ◌∙◌, subst, inl, inr, arith, append_assoc, length-append}
use Rattle.std.specs.List.{AllByRecursion as Each}
use Rattle.std.specs.Prelude.{Option, Some, None, MatchOption}
use Rattle.std.specs.Option.{is_some}
use Rattle.std.proofs.lemmas.Bool.{cases_eq, true≢false}
use Rattle.std.proofs.lemmas.List.{append-nil}
use Rattle.chained_lists.specs.Chains.{put, IsOnce, AreApart}
use Rattle.chained_lists.specs.Held.{Holds, IsPopped, BeginsWith}
use Rattle.chained_lists.specs.declared.ChainedLists.{ChainedLists}
use Rattle.chained_lists.proofs.Links.{in_first, in_rest, put_here, put_other}
use Rattle.left_right_blocks.specs.Blocks.{AllOn, Agrees}
use Rattle.left_right_blocks.specs.Parts.{IsFrom}
use Rattle.left_right_blocks.specs.Ties.{IsKept, AreKept, AreGone}
use Rattle.left_right_blocks.specs.Trims.{ties_of, AreTied, IsEnded, IsDropped, AreDropped}
use Rattle.left_right_blocks.specs.declared.ties.Tie.{Tie}
use Rattle.left_right_blocks.proofs.Eaches.{each_joined, each_left, each_right}
use Rattle.left_right_blocks.proofs.ShortDemands.{twice}
use Rattle.left_right_blocks.proofs.Kept.{turn_more}
use Rattle.left_right_blocks.proofs.Steps.{once_few, from_over}

-- a block and its two lists in the other order
pub agrees_turned : (side : ℕ → Bool) (xs ys : List ℕ) → Agrees side (record { one = xs; other = ys }) → Agrees side (record { one = ys; other = xs })
agrees_turned side xs ys a = (not a.0, (a.1.1, subst (λ s. AllOn side s xs) (sym (twice a.0)) a.1.0))

-- what a dropped edge's tie keeps
pub dropped_agrees : (side : ℕ → Bool) (x : ℕ) (xs zs : List ℕ) → Agrees side (record { one = x ∷ xs; other = zs }) ↔ (Agrees side (record { one = xs; other = zs }) × AreKept side (ties_of x xs zs))
dropped_agrees side x (y ∷ ys) zs = (
  (λ a. ((a.0, (a.1.0.1, a.1.1)), (a.1.0.0 ∙ sym a.1.0.1.0, tt))),
  (λ h. (h.0.0, ((h.1.0 ∙ h.0.1.0.0, h.0.1.0), h.0.1.1))),
)
dropped_agrees side x [] (z ∷ zs) = (
  (λ a. ((a.0, (tt, a.1.1)), (a.1.0.0 ∙ (sym (twice a.0) ∙ ap not (sym a.1.1.0)), tt))),
  (λ h. (h.0.0, ((h.1.0 ∙ (ap not h.0.1.1.0 ∙ twice h.0.0), tt), h.0.1.1))),
)
dropped_agrees side x [] [] = ((λ a. ((a.0, (tt, tt)), tt)), (λ h. (side x, ((refl, tt), tt))))

-- ---- one more edge dropped
module _ (height : ℕ → ℕ) (edges depth one other : ℕ) (ne : one ≢ other) (lists0 lists : ℕ → List ℕ) (ties0 ties : List Tie) (xs : List ℕ) (d : IsDropped height edges depth one other lists0 lists ties0 ties xs) (apart : AreApart lists) (within : (p x : ℕ) → Contains (lists p) x → x < edges) (x : ℕ) (rest : List ℕ) (is : lists one ≡ x ∷ rest) where
  abbrev new : ℕ → List ℕ
  new = put one rest lists

  abbrev more : List Tie
  more = ties_of x rest (lists other)

  other_kept : new other ≡ lists other
  other_kept = put_other one rest lists other (λ e. ne (sym e))

  x_in : Contains (lists one) x
  x_in = subst (λ ys. Contains ys x) (sym is) (in_first x rest)

  rest_in : (y : ℕ) → Contains rest y → Contains (lists one) y
  rest_in y c = subst (λ ys. Contains ys y) (sym is) (in_rest x y rest c)

  x_once : ¬ Contains rest x
  x_once = (subst IsOnce is (apart.once one)).0

  new_from : IsFrom lists new
  new_from p y c =
      elim (cases_eq p one) [
        | inl e ↦ (one, rest_in y (subst (λ ys. Contains ys y) (put_here one rest lists) (subst (λ q. Contains (new q) y) e c)))
        | inr off ↦ (p, subst (λ ys. Contains ys y) (put_other one rest lists p off) c)
      ]

  x_gone : (p : ℕ) → ¬ Contains (new p) x
  x_gone p c =
      elim (cases_eq p one) [
        | inl e ↦ x_once (subst (λ ys. Contains ys x) (put_here one rest lists) (subst (λ q. Contains (new q) x) e c))
        | inr off ↦ off (apart.one p one x (subst (λ ys. Contains ys x) (put_other one rest lists p off) c) x_in)
      ]

  gone_more : (ts : List Tie) → AreGone lists ts → AreGone new ts
  gone_more [] h = tt
  gone_more (t ∷ ts) h = ((λ p c. (let a = new_from p t.edge c in h.0 a.0 a.1)), gone_more ts h.1)

  -- the tie's edges
  abbrev IsNew : Tie → Type 0
  IsNew t = (t.edge ≡ x) × ((q : ℕ) × (Contains (lists q) t.to × (t.to ≢ x)))

  new_ties : (rs zs : List ℕ) → rest ≡ rs → lists other ≡ zs → (ties_of x rs zs ≡ []) ⊎ ((t : Tie) × ((ties_of x rs zs ≡ t ∷ []) × IsNew t))
  new_ties (y ∷ ys) zs e f =
      let t : Tie = record { edge = x; to = y; turn = false } in
      let in_r : Contains rest y = subst (λ us. Contains us y) (sym e) (in_first y ys) in
      inr (t, (refl, (refl, (one, (rest_in y in_r, λ same. x_once (subst (Contains rest) same in_r))))))
  new_ties [] (z ∷ zs) e f =
      let t : Tie = record { edge = x; to = z; turn = true } in
      let in_o : Contains (lists other) z = subst (λ us. Contains us z) (sym f) (in_first z zs) in
      inr (t, (refl, (refl, (other, (in_o, λ same. ne (apart.one one other x x_in (subst (Contains (lists other)) same in_o)))))))
  new_ties [] [] e f = inl refl

  tied_more : AreTied edges new (ties ++ more)
  tied_more =
      elim (new_ties rest (lists other) refl refl) [
        | inl none ↦ subst (λ us. AreTied edges new (ties ++ us)) (sym none) (subst (AreTied edges new) (sym (append-nil ties)) (record { turn = d.tied.turn; below = d.tied.below; gone = gone_more ties d.tied.gone }))
        | inr some ↦
            let t = some.0 in
            let n = some.1.1 in
            let apart_from : (us : List Tie) → AreGone lists us → Each (λ (u : Tie). (u.edge ≢ t.edge) × (u.edge ≢ t.to)) us = off t n in
            subst (λ us. AreTied edges new (ties ++ us)) (sym some.1.0) (
            record {
              turn = turn_more ties t d.tied.turn (apart_from ties d.tied.gone) (λ e. n.1.1.1 (sym e ∙ n.0));
              below = each_joined (λ (u : Tie). u.edge < edges) ties (t ∷ []) d.tied.below (subst (λ y. y < edges) (sym n.0) (within one x x_in), tt);
              gone = each_joined (λ (u : Tie). (p : ℕ) → ¬ Contains (new p) u.edge) ties (t ∷ []) (gone_more ties d.tied.gone) ((λ p c. x_gone p (subst (Contains (new p)) n.0 c)), tt);
            })
      ]
    where
      off : (t : Tie) → IsNew t → (us : List Tie) → AreGone lists us → Each (λ (u : Tie). (u.edge ≢ t.edge) × (u.edge ≢ t.to)) us
      off t n [] g = tt
      off t n (u ∷ us) g = (((λ e. g.0 one (subst (Contains (lists one)) (sym (e ∙ n.0)) x_in)), (λ e. g.0 n.1.0 (subst (Contains (lists n.1.0)) (sym e) n.1.1.0))), off t n us g.1)

  -- the edge ends at the depth or deeper
  pub dropped_more : depth ≤ height x → IsDropped height edges depth one other lists0 new ties0 (ties ++ more) (xs ++ x ∷ [])
  dropped_more deep =
      record {
        cut = d.cut ∙ (ap (λ ys. xs ++ ys) is ∙ (sym (append_assoc xs (x ∷ []) rest) ∙ ap (λ ys. (xs ++ x ∷ []) ++ ys) (sym (put_here one rest lists))));
        deep = each_joined (λ y. depth ≤ height y) xs (x ∷ []) d.deep (deep, tt);
        others = λ p off. put_other one rest lists p off ∙ d.others p off;
        agree = λ side.
            let now = dropped_agrees side x rest (lists other) in
            let old = d.agree side in (
              (λ h.
                  let a = old.0 h in
                  let b = now.0 (subst (λ ys. Agrees side (record { one = ys; other = lists other })) is a.0) in
                  (subst (λ ys. Agrees side (record { one = ys; other = new other })) (sym (put_here one rest lists)) (subst (λ zs. Agrees side (record { one = rest; other = zs })) (sym other_kept) b.0), each_joined (IsKept side) ties more a.1 b.1)),
              (λ h.
                  let a : Agrees side (record { one = rest; other = lists other }) = subst (λ zs. Agrees side (record { one = rest; other = zs })) other_kept (subst (λ ys. Agrees side (record { one = ys; other = new other })) (put_here one rest lists) h.0) in
                  old.1 (subst (λ ys. Agrees side (record { one = ys; other = lists other })) (sym is) (now.1 (a, each_right (IsKept side) ties more h.1)), each_left (IsKept side) ties more h.1)),
            );
        tied = tied_more;
        moved = from_over lists0 lists new d.moved new_from;
      }

-- nothing dropped
pub dropped_none : (height : ℕ → ℕ) (edges depth one other : ℕ) (lists : ℕ → List ℕ) (ties : List Tie) → AreTied edges lists ties → IsDropped height edges depth one other lists lists ties ties []
dropped_none height edges depth one other lists ties tied =
    record { cut = refl; deep = tt; others = λ p off. refl; agree = λ side. ((λ h. h), (λ h. h)); tied = tied; moved = λ p x c. (p, c) }

-- ---- the loop
module _ (height : ℕ → ℕ) (edges depth one other : ℕ) (lists0 : ℕ → List ℕ) (ties0 : List Tie) where
  -- k edges were dropped
  abbrev pub DropsTo : ChainedLists → List Tie → ℕ → Type 0
  DropsTo lc ties k =
      (lists : ℕ → List ℕ) × ((xs : List ℕ) × (Holds lc lists × (IsDropped height edges depth one other lists0 lists ties0 ties xs × (k ≤ length xs))))

  pub drops_begin : (lc : ChainedLists) → Holds lc lists0 → AreTied edges lists0 ties0 → DropsTo lc ties0 0
  drops_begin lc held tied = (lists0, ([], (held, (dropped_none height edges depth one other lists0 ties0 tied, omega arith))))

  pub drops_step : (ne : one ≢ other) (lc lc' : ChainedLists) (ties ties' : List Tie) (k x : ℕ) → length lc.next.items ≡ edges → ((lists : ℕ → List ℕ) → Holds lc lists → IsPopped lc' lists one x × (depth ≤ height x)) → ((lists : ℕ → List ℕ) → Holds lc' lists → ties' ≡ ties ++ ties_of x (lists one) (lists other)) → DropsTo lc ties k → DropsTo lc' ties' (k + 1)
  drops_step ne lc lc' ties ties' k x long popped tied t =
      let lists = t.0 in
      let held = t.1.1.0 in
      let p = popped lists held in
      let rest = p.0.0 in
      let new = put one rest lists in
      let more = dropped_more height edges depth one other ne lists0 lists ties0 ties t.1.0 t.1.1.1.0 held.apart (λ q y c. subst (λ z. y < z) long (held.within q y c)) x rest p.0.1.0 p.1 in
      let is : ties' ≡ ties ++ ties_of x rest (lists other) = tied new p.0.1.1 ∙ ap₂ (λ (ys zs : List ℕ). ties ++ ties_of x ys zs) (put_here one rest lists) (put_other one rest lists other (λ e. ne (sym e))) in
      (new, (t.1.0 ++ x ∷ [], (p.0.1.1, (subst (λ us. IsDropped height edges depth one other lists0 new ties0 us (t.1.0 ++ x ∷ [])) (sym is) more, (let m = t.1.1.1.1 in let l = length-append t.1.0 (x ∷ []) in omega arith)))))

  pub drops_done : (lc lc' : ChainedLists) (ties : List Tie) (k : ℕ) → ((lists : ℕ → List ℕ) → Holds lc lists → Holds lc' lists × IsEnded height depth (lists one)) → DropsTo lc ties k → AreDropped height edges depth one other lists0 lc' ties0 ties
  drops_done lc lc' ties k ended t = let e = ended t.0 t.1.1.0 in (t.0, (t.1.0, (e.0, (t.1.1.1.0, e.1))))

  pub drops_full : (lc lc0 : ChainedLists) (ties : List Tie) (k : ℕ) → Holds lc0 lists0 → length lc0.next.items ≡ edges → edges ≤ k → DropsTo lc ties k → AreDropped height edges depth one other lists0 lc ties0 ties
  drops_full lc lc0 ties k held long full t =
      let d = t.1.1.1.0 in
      let few = once_few (lists0 one) edges (held.apart.once one) (λ x c. subst (λ z. x < z) long (held.within one x c)) in
      let long' = ap length d.cut ∙ length-append t.1.0 (t.0 one) in
      let m = t.1.1.1.1 in
      (t.0, (t.1.0, (t.1.1.0, (d, ended (t.0 one) (omega arith)))))
    where
      ended : (ys : List ℕ) → length ys ≤ 0 → IsEnded height depth ys
      ended [] l = tt
      ended (y ∷ ys) l = absurd (omega arith)

-- a first number that was found begins its list
pub begins_some : (found : Option ℕ) (xs : List ℕ) → MatchOption found (xs ≡ []) (BeginsWith xs) → is_some found ≡ true → (x : ℕ) × BeginsWith xs x
begins_some None xs h t = absurd (true≢false (sym t))
begins_some (Some x) xs h t = (x, h)
