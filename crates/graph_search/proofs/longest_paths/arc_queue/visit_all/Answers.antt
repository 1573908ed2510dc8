use Rattle.std.proofs.Common.{◌≡◌, ◌≢◌, ◌+◌, ◌-◌, ◌<◌, ℕ, List, length, get_or, set, Contains, refl, sym, ap, ◌∙◌, subst, arith}
use Rattle.std.proofs.lemmas.List.{get_or_default}
use Rattle.std.proofs.lemmas.List.Elements.{Contains-get_or}
use Rattle.graph_search.specs.Arcs.{arcs_of, IsAcyclic}
use Rattle.graph_search.specs.Progress.{IsRaised}
use Rattle.graph_search.proofs.Progress.{IsPut, IsVisited, IsVisited-none, IsVisited-more, IsUsed-at_base, IsUsed-raised, used_at-here, some_waits, head_queued, head_in, head_run, IsAt-none, IsAt-visited, IsAt-passed, AreLongest-from, IsTopological-from, IsUsed, IsProgress, IsAt, used_at}
use Rattle.graph_search.proofs.longest_paths.arc_queue.visit_all.Goals as goal

-- the vertex e at the head of the queue, and the arc at place k of its list
module _ (arcs : List (List ℕ)) (base : ℕ) (a : IsAcyclic arcs base) (head : ℕ) (n w q : List ℕ) (at : (used : ℕ → ℕ) × IsAt arcs base head used n w q) (l : head < length q) (e : ℕ) (read : e ≡ get_or q head e) where
  is : e ≡ get_or q head 0
  is = read ∙ get_or_default q head e 0 l

  e_in : e < length arcs
  e_in = head_in arcs base a head at.0 n w q at.1 l e is

  module _ (k : ℕ) (items : List ℕ) (same : items ≡ arcs_of arcs e) (lk : k < length items) (n' w' q' : List ℕ) (h : IsVisited arcs base e k n w q n' w' q') where
    run : IsProgress arcs base (used_at at.0 e k) n' w' q'
    run = head_run arcs base a head at.0 n w q at.1 l e is k n' w' q' h

    within : k < length (arcs_of arcs e)
    within = omega (arith, ap length same, lk)

    r_in : get_or items k 0 < length arcs
    r_in = a.within e (get_or items k 0) (e_in, subst (λ us. Contains us (get_or items k 0)) same (Contains-get_or items k 0 lk))

    r_waits : get_or items k 0 < length w'
    r_waits = omega (arith, r_in, run.counters)

    some : 0 < get_or w' (get_or items k 0) 0
    some = subst (λ us. 0 < get_or w' (get_or us k 0) 0) (sym same) (some_waits arcs base a (used_at at.0 e k) n' w' q' run e k e_in (used_at-here at.0 e k) within)

    more : (n'' w'' q'' : List ℕ) → IsUsed base e (get_or items k 0) n' w' q' n'' w'' q'' → IsVisited arcs base e (k + 1) n w q n'' w'' q''
    more n'' w'' q'' u = IsVisited-more arcs base a n w q n' w' q' n'' w'' q'' e k e_in within (head_queued arcs base a head at.0 n w q at.1 l e is) h (subst (λ us. IsUsed base e (get_or us k 0) n' w' q' n'' w'' q'') same u)

    abbrev left : ℕ
    left = get_or w' (get_or items k 0) 0 - 1

    -- the arc to the base is used
    used_at_base : get_or items k 0 ≡ base → IsVisited arcs base e (k + 1) n w q n' (set w' (get_or items k 0) left) q'
    used_at_base b = more n' (set w' (get_or items k 0) left) q' (IsUsed-at_base base e (get_or items k 0) left n' w' q' r_waits (omega (arith, some)) b)

    -- the arc to another vertex is used
    used_raised : (n'' q'' : List ℕ) → get_or items k 0 ≢ base → IsRaised n' n'' e (get_or items k 0) → IsPut left (get_or items k 0) q' q'' → IsVisited arcs base e (k + 1) n w q n'' (set w' (get_or items k 0) left) q''
    used_raised n'' q'' b raised put = more n'' (set w' (get_or items k 0) left) q'' (IsUsed-raised base e (get_or items k 0) left n' w' q' r_waits (omega (arith, some)) n'' q'' b raised put)

pub list-r-items-requires : goal.list-r-items-requires
list-r-items-requires c =
    let l : c.loop-head.head < length c.loop-head.queue.items = omega (arith, c.if-len-head.false, c.len.ensures) in
    e_in _ _ c.requires.acyclic _ _ _ _ c.loop-head.invariant l _ c.index-e.ensures

pub bounds-waiting-r : goal.bounds-waiting-r
bounds-waiting-r c =
    let l : c.loop-head.head < length c.loop-head.queue.items = omega (arith, c.if-len-head.false, c.len.ensures) in
    r_waits _ _ c.requires.acyclic _ _ _ _ c.loop-head.invariant l _ c.index-e.ensures _ _ c.list-r-items.ensures c.loop-r-test.true _ _ _ c.loop-r.invariant

pub bounds-waiting-r-in-loop-r : goal.bounds-waiting-r-in-loop-r
bounds-waiting-r-in-loop-r c =
    let l : c.loop-head.head < length c.loop-head.queue.items = omega (arith, c.if-len-head.false, c.len.ensures) in
    r_waits _ _ c.requires.acyclic _ _ _ _ c.loop-head.invariant l _ c.index-e.ensures _ _ c.list-r-items.ensures c.loop-r-test.true _ _ _ c.loop-r.invariant

pub overflow_sub-left : goal.overflow_sub-left
overflow_sub-left c =
    let l : c.loop-head.head < length c.loop-head.queue.items = omega (arith, c.if-len-head.false, c.len.ensures) in
    omega (arith, some _ _ c.requires.acyclic _ _ _ _ c.loop-head.invariant l _ c.index-e.ensures _ _ c.list-r-items.ensures c.loop-r-test.true _ _ _ c.loop-r.invariant)

pub raise-requires : goal.raise-requires
raise-requires c =
    let l : c.loop-head.head < length c.loop-head.queue.items = omega (arith, c.if-len-head.false, c.len.ensures) in
    let at = c.loop-head.invariant in
    let h = c.loop-r.invariant in
    let numbers = (run _ _ c.requires.acyclic _ _ _ _ at l _ c.index-e.ensures _ _ c.list-r-items.ensures c.loop-r-test.true _ _ _ h).numbers in
    record {
      e_in = omega (arith, numbers, e_in _ _ c.requires.acyclic _ _ _ _ at l _ c.index-e.ensures);
      r_in = omega (arith, numbers, r_in _ _ c.requires.acyclic _ _ _ _ at l _ c.index-e.ensures _ _ c.list-r-items.ensures c.loop-r-test.true _ _ _ h);
      room = omega (arith, h.same, at.1.low c.index-e.result.now, c.loop-head-test.true, c.len-head-end.ensures, c.requires.few);
    }

pub loop-r-init : goal.loop-r-init
loop-r-init c = IsVisited-none c.args.arcs.now c.args.base c.index-e.result.now c.loop-head.number c.loop-head.waiting c.loop-head.queue.items

pub loop-r-preserved-then-r-base : goal.loop-r-preserved-then-r-base
loop-r-preserved-then-r-base c =
    let l : c.loop-head.head < length c.loop-head.queue.items = omega (arith, c.if-len-head.false, c.len.ensures) in
    used_at_base _ _ c.requires.acyclic _ _ _ _ c.loop-head.invariant l _ c.index-e.ensures _ _ c.list-r-items.ensures c.loop-r-test.true _ _ _ c.loop-r.invariant c.if-r-base.true

pub loop-r-preserved-then-left-ne0 : goal.loop-r-preserved-then-left-ne0
loop-r-preserved-then-left-ne0 c =
    let l : c.loop-head.head < length c.loop-head.queue.items = omega (arith, c.if-len-head.false, c.len.ensures) in
    used_raised _ _ c.requires.acyclic _ _ _ _ c.loop-head.invariant l _ c.index-e.ensures _ _ c.list-r-items.ensures c.loop-r-test.true _ _ _ c.loop-r.invariant c.raise.new.number c.loop-r.queue.items c.if-r-base.false c.raise.ensures
    (record { put = λ z. absurd (c.if-left-ne0.true z); kept = λ nz. refl })

pub loop-r-preserved : goal.loop-r-preserved
loop-r-preserved c =
    let l : c.loop-head.head < length c.loop-head.queue.items = omega (arith, c.if-len-head.false, c.len.ensures) in
    used_raised _ _ c.requires.acyclic _ _ _ _ c.loop-head.invariant l _ c.index-e.ensures _ _ c.list-r-items.ensures c.loop-r-test.true _ _ _ c.loop-r.invariant c.raise.new.number c.push.new.self.items c.if-r-base.false c.raise.ensures
    (record { put = λ z. c.in_ok-push.ensures.items; kept = λ nz. absurd (nz c.if-left-ne0.false) })

pub loop-head-init : goal.loop-head-init
loop-head-init c =
    let arcs = c.args.arcs.now in
    ((λ e. 0), subst (λ (q : List ℕ). IsAt arcs c.args.base 0 (λ e. 0) c.args.number.now c.args.waiting.now q) (sym c.requires.queue) (IsAt-none arcs c.args.base c.requires.acyclic c.args.number.now c.args.waiting.now c.requires.numbers c.requires.counters c.requires.zeros c.requires.counted))

pub loop-head-preserved-then-len-head : goal.loop-head-preserved-then-len-head
loop-head-preserved-then-len-head c =
    let at = c.loop-head.invariant in
    (at.0, IsAt-passed c.args.arcs.now c.args.base c.requires.acyclic c.loop-head.head at.0 c.loop-head.number c.loop-head.waiting c.loop-head.queue.items (omega (arith, c.if-len-head.true, c.len.ensures)) at.1)

pub loop-head-preserved : goal.loop-head-preserved
loop-head-preserved c =
    let arcs = c.args.arcs.now in
    let q = c.loop-head.queue.items in
    let l : c.loop-head.head < length q = omega (arith, c.if-len-head.false, c.len.ensures) in
    let at = c.loop-head.invariant in
    let e = c.index-e.result.now in
    let end : c.loop-r.r-index ≡ length (arcs_of arcs e) = omega (arith, ap length c.list-r-items.ensures, c.loop-r-test.false) in
    IsAt-visited arcs c.args.base c.requires.acyclic c.loop-head.head at.0 c.loop-head.number c.loop-head.waiting q at.1 l e (is arcs c.args.base c.requires.acyclic c.loop-head.head c.loop-head.number c.loop-head.waiting q at l e c.index-e.ensures) c.loop-r.number c.loop-r.waiting c.loop-r.queue.items
    (subst (λ k. IsVisited arcs c.args.base e k c.loop-head.number c.loop-head.waiting q c.loop-r.number c.loop-r.waiting c.loop-r.queue.items) end c.loop-r.invariant)

pub returns-clause-longest : goal.returns-clause-longest
returns-clause-longest c =
    let arcs = c.args.arcs.now in
    let end : c.loop-head.head ≡ length arcs = omega (arith, c.len-head-end.ensures, c.loop-head-test.false, c.loop-head.auto.head-end) in
    let at = c.loop-head.invariant in
    AreLongest-from arcs c.args.base c.requires.acyclic at.0 c.loop-head.number c.loop-head.waiting c.loop-head.queue.items
    (subst (λ k. IsAt arcs c.args.base k at.0 c.loop-head.number c.loop-head.waiting c.loop-head.queue.items) end at.1)

pub returns-clause-order : goal.returns-clause-order
returns-clause-order c =
    let arcs = c.args.arcs.now in
    let end : c.loop-head.head ≡ length arcs = omega (arith, c.len-head-end.ensures, c.loop-head-test.false, c.loop-head.auto.head-end) in
    let at = c.loop-head.invariant in
    IsTopological-from arcs c.args.base c.requires.acyclic at.0 c.loop-head.number c.loop-head.waiting c.loop-head.queue.items
    (subst (λ k. IsAt arcs c.args.base k at.0 c.loop-head.number c.loop-head.waiting c.loop-head.queue.items) end at.1)
