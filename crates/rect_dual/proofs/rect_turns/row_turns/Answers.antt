use Rattle.std.proofs.Common.{◌≡◌, ◌<◌, ◌+◌, ◌∷◌, ◌++◌, ℕ, suc, List, [], Bool, false, true, length, get_or, set, length-set, replicate, All, subst, sym, ap, ◌∙◌, inl, inr, arith, rules}
use Rattle.std.proofs.lemmas.Bool.{cases_lt}
use Rattle.std.proofs.lemmas.List.{get_or_read, get_or_past, get_or-replicate, length-replicate}
use Rattle.map_theory.specs.Maps.{list_of}
use Rattle.canon_order.specs.Marks.{is_set}
use Rattle.rect_dual.specs.Turns.{IsTurnIn, AreTurns}
use Rattle.rect_dual.proofs.Turns.{row_long, row_within, IsTurned-none, IsTurned-more, IsTurned}
use Rattle.rect_dual.proofs.rect_turns.row_turns.Goals as goal

none_set : (n v : ℕ) → is_set (replicate n false) v ≡ false
none_set n v = elim (cases_lt v n) [
  | inl l ↦ get_or-replicate n v false false l
  | inr m ↦ get_or_past (replicate n false) v false (omega (arith, m, length-replicate n false))
]

pub turn_place-c-requires-clause-some : goal.turn_place-c-requires-clause-some
turn_place-c-requires-clause-some c =
    let l : c.loop-k.k < length c.args.rows.now = omega (arith, c.loop-k-test.true, c.len-k-end.ensures.is) in
    omega (arith, ap length c.list-row.ensures, row_long c.requires.run.0 c.args.rows.now c.requires.run.1 c.loop-k.k l)

pub turn_place-c-requires-clause-within : goal.turn_place-c-requires-clause-within
turn_place-c-requires-clause-within c =
    let l : c.loop-k.k < length c.args.rows.now = omega (arith, c.loop-k-test.true, c.len-k-end.ensures.is) in
    subst (λ (us : List ℕ). All (λ u. u < length c.deref.result.now) us) (sym c.list-row.ensures)
    (λ i d m. omega (arith, row_within c.requires.run.0 c.args.rows.now c.requires.run.1 c.loop-k.k l i d m, ap length c.deref.ensures.value, c.loop-k.invariant.size))

pub index-requires : goal.index-requires
index-requires c =
    let l : c.loop-k.k < length c.args.rows.now = omega (arith, c.loop-k-test.true, c.len-k-end.ensures.is) in
    let row = list_of c.args.rows.now c.loop-k.k in
    let high = c.turn_place-c.ensures.high in
    let at : get_or c.list-row.result.now c.turn_place-c.result 0 ≡ get_or row c.turn_place-c.result 0 = ap (λ (us : List ℕ). get_or us c.turn_place-c.result 0) c.list-row.ensures in
    omega (arith, at, row_within c.requires.run.0 c.args.rows.now c.requires.run.1 c.loop-k.k l c.turn_place-c.result 0 (omega (arith, high, ap length c.list-row.ensures)), c.loop-k.invariant.size, c.loop-k.runs.ok.0)

pub index_mut-requires : goal.index_mut-requires
index_mut-requires c =
    let l : c.loop-k.k < length c.args.rows.now = omega (arith, c.loop-k-test.true, c.len-k-end.ensures.is) in
    let row = list_of c.args.rows.now c.loop-k.k in
    let long = row_long c.requires.run.0 c.args.rows.now c.requires.run.1 c.loop-k.k l in
    let at : get_or c.list-row.result.now 0 0 ≡ get_or row 0 0 = ap (λ (us : List ℕ). get_or us 0 0) c.list-row.ensures in
    omega (arith, at, row_within c.requires.run.0 c.args.rows.now c.requires.run.1 c.loop-k.k l 0 0 (omega (arith, long)), c.loop-k.invariant.size, c.loop-k.runs.ok.0)

pub loop-k-init : goal.loop-k-init
loop-k-init c =
    let e : c.in_ok-runs.runs.items ≡ replicate (c.len.result + 2) false = c.in_ok-runs.ensures.items_if_clones_equal (λ y e. e) in
    record {
      size = omega (arith, ap length e, length-replicate (c.len.result + 2) false, c.len.ensures.is);
      turned = λ steps h. IsTurned-none steps c.in_ok-runs.runs.items _ _ (λ v. ap (λ (us : List Bool). is_set us v) e ∙ none_set (c.len.result + 2) v) (search rules) (search rules);
    }

pub loop-k-preserved : goal.loop-k-preserved
loop-k-preserved c =
    let h = c.loop-k.invariant in
    let rows = c.args.rows.now in
    let k : ℕ = c.loop-k.k in
    let row = list_of rows k in
    let runs = c.loop-k.runs.items in
    let at = c.turn_place-c.result in
    let l : k < length rows = omega (arith, c.loop-k-test.true, c.len-k-end.ensures.is) in
    let turn : IsTurnIn row runs at = subst (λ (us : List ℕ). IsTurnIn us runs at) c.list-row.ensures (subst (λ (m : List Bool). IsTurnIn c.list-row.result.now m at) c.deref.ensures.value c.turn_place-c.ensures) in
    let first : get_or c.list-row.result.now 0 0 ≡ get_or row 0 0 = ap (λ (us : List ℕ). get_or us 0 0) c.list-row.ensures in
    let there : get_or c.list-row.result.now at 0 ≡ get_or row at 0 = ap (λ (us : List ℕ). get_or us at 0) c.list-row.ensures in
    let inside = row_within c.requires.run.0 rows c.requires.run.1 k l at 0 (omega (arith, turn.high)) in
    let is : c.index.result.now ≡ is_set runs (get_or row at 0) = get_or_read runs (get_or c.list-row.result.now at 0) c.index.result.now (omega (arith, inside, there, h.size)) c.index.ensures false ∙ ap (is_set runs) there in
    let pushed : c.push-in-loop-k.new.self.items ≡ c.loop-k.run.items ++ is_set runs (get_or row at 0) ∷ [] = c.in_ok-push-2.ensures.items ∙ ap (λ (b : Bool). c.loop-k.run.items ++ b ∷ []) is in
    let next : suc k ≡ k + 1 = omega arith in
    record {
      size = length-set runs (get_or c.list-row.result.now 0 0) true ∙ h.size;
      turned = λ steps a.
          subst (λ (v : ℕ). IsTurned steps (k + 1) (set runs v true) c.push.new.self.items c.push-in-loop-k.new.self.items) (sym first)
          (subst (λ (z : ℕ). IsTurned steps z (set runs (get_or row 0 0) true) c.push.new.self.items c.push-in-loop-k.new.self.items) next
          (IsTurned-more steps rows a k l runs c.loop-k.place.items c.loop-k.run.items (h.turned steps a) at turn h.size c.push.new.self.items c.push-in-loop-k.new.self.items c.in_ok-push.ensures.items pushed));
    }

pub returns : goal.returns
returns c = λ steps h.
    let all : c.loop-k.k ≡ length c.args.rows.now = omega (arith, c.loop-k-test.false, c.loop-k.auto.k-end, c.len-k-end.ensures.is) in
    subst (λ (z : ℕ). AreTurns steps z c.loop-k.place.items c.loop-k.run.items) all (c.loop-k.invariant.turned steps h).turns
