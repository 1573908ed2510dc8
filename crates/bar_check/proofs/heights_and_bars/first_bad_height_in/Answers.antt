use Rattle.std.proofs.Common.{◌≡◌, ◌≢◌, ℕ, ℤ, true, false, pos, get_or, ◌∙◌, sym, below_more, subst, rules, w32, FitsSigned, arith}
use Rattle.std.proofs.lemmas.Bool.{true≢false}
use Rattle.std.proofs.lemmas.Int.{to_z-of_z}
use Rattle.drawings.specs.Bars.{IsNewHeight}
use Rattle.bar_check.specs.Tables.{IsFree}
use Rattle.bar_check.proofs.HeightLemmas.{new_from_free, free_from_new, AreSeen-more}
use Rattle.bar_check.proofs.heights_and_bars.first_bad_height_in.Goals as goal

pub loop-v-init : goal.loop-v-init
loop-v-init c = record {
  size = c.requires.size;
  good = λ u l. absurd (omega arith);
  seen = record {
    some = λ k marked. absurd (true≢false (sym marked ∙ c.requires.none k));
    all = λ u k l. absurd (omega arith);
  };
}

pub loop-v-preserved : goal.loop-v-preserved
loop-v-preserved c =
    let lists = c.args.map.now.lists in
    let fig = c.args.fig.now in
    let v = c.loop-v.v in
    let i = c.loop-v.invariant in
    let f : FitsSigned w32 c.entry_or_zero-height.result = search rules in
    let free = subst (IsFree c.loop-v.seen) c.entry_or_zero-height.ensures ((simp to_z-of_z at c.is_free.ensures).0 c.if-not-is_free.false) in
    let new = new_from_free lists fig v c.loop-v.seen i.size i.seen free in
    record {
      size = c.mark.ensures.size ∙ i.size;
      good = below_more (IsNewHeight lists fig) v i.good new;
      seen =
          AreSeen-more lists fig v c.loop-v.seen i.size i.seen c.mark.new.seen
          (subst (λ (z : ℤ). (k : ℕ) → z ≡ pos k → get_or c.mark.new.seen k false ≡ true) c.entry_or_zero-height.ensures (simp to_z-of_z at c.mark.ensures.here))
          (subst (λ (z : ℤ). (k : ℕ) → z ≢ pos k → get_or c.mark.new.seen k false ≡ get_or c.loop-v.seen k false) c.entry_or_zero-height.ensures (simp to_z-of_z at c.mark.ensures.elsewhere)) new;
    }

pub returns-then-not-is_free : goal.returns-then-not-is_free
returns-then-not-is_free c =
    let lists = c.args.map.now.lists in
    let fig = c.args.fig.now in
    let v = c.loop-v.v in
    let i = c.loop-v.invariant in
    let f : FitsSigned w32 c.entry_or_zero-height.result = search rules in
    record {
      here = record {
        vertex = search rules;
        bad = λ new. true≢false (sym ((simp to_z-of_z at c.is_free.ensures).1 (subst (IsFree c.loop-v.seen) (sym c.entry_or_zero-height.ensures) (free_from_new lists fig v c.loop-v.seen i.size i.seen new))) ∙ c.if-not-is_free.true);
      };
      before = λ u l wrong. wrong.bad (i.good u l);
    }
