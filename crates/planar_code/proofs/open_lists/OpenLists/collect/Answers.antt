-- An end and an entry are appended, and one of them is taken back.
use Rattle.std.proofs.Common.{◌≡◌, ap, ℕ, length, take, ◌∙◌, ◌+◌, ◌-◌, ◌∷◌, ◌++◌, [], arith}
use Rattle.map_lists.proofs.CutLemmas.{length-cut}
use Rattle.planar_code.proofs.OpenLemmas.{chosen, chosen-within}
use Rattle.planar_code.proofs.open_lists.OpenLists.collect.Goals as goal

pub push_reserved-requires : goal.push_reserved-requires
push_reserved-requires c =
    let s = c.self.inside in
    let lists = ap (λ o. length o.lists) c.self.view_is in
    let most = ap (λ o. o.most) c.self.view_is in
    omega (arith, lists, most, c.requires.most, length-cut 0 s.ends.items s.entries.items)

pub invariant_of-self : goal.invariant_of-self
invariant_of-self c =
    let s = c.self.inside in
    let n : c.len.result ≡ length s.entries.items = omega (arith, c.len.ensures) in
    let n2 : c.len-2.result ≡ length c.push_reserved.new.self.items = omega (arith, c.len-2.ensures) in
    let n3 : c.len-3.result ≡ length c.push_reserved-2.new.self.items = omega (arith, c.len-3.ensures) in
    chosen-within c.args.number c.closings-closes.result _ s.ends.items c.push_reserved.new.self.items c.truncate.new.self.items s.entries.items c.push_reserved-2.new.self.items c.truncate-2.new.self.items
    c.closings-closes.ensures.one c.closings-closes.ensures.none (λ e. omega (arith, e, c.ranges.number.fits))
    (c.push_reserved.ensures.items ∙ ap (λ (n : ℕ). s.ends.items ++ n ∷ []) n)
    (c.truncate.ensures.items ∙ ap (λ (n : ℕ). take (n + c.closings-closes.result - 1) c.push_reserved.new.self.items) n2)
    c.push_reserved-2.ensures.items
    (c.truncate-2.ensures.items ∙ ap (λ (n : ℕ). take (n - c.closings-closes.result) c.push_reserved-2.new.self.items) n3)
    c.self.invariant

pub returns-clause-collects : goal.returns-clause-collects
returns-clause-collects c =
    let s = c.self.inside in
    let n : c.len.result ≡ length s.entries.items = omega (arith, c.len.ensures) in
    let n2 : c.len-2.result ≡ length c.push_reserved.new.self.items = omega (arith, c.len-2.ensures) in
    let n3 : c.len-3.result ≡ length c.push_reserved-2.new.self.items = omega (arith, c.len-3.ensures) in
    chosen c.args.number c.closings-closes.result _ s.ends.items c.push_reserved.new.self.items c.truncate.new.self.items s.entries.items c.push_reserved-2.new.self.items c.truncate-2.new.self.items
    c.closings-closes.ensures.one c.closings-closes.ensures.none (λ e. omega (arith, e, c.ranges.number.fits))
    (c.push_reserved.ensures.items ∙ ap (λ (n : ℕ). s.ends.items ++ n ∷ []) n)
    (c.truncate.ensures.items ∙ ap (λ (n : ℕ). take (n + c.closings-closes.result - 1) c.push_reserved.new.self.items) n2)
    c.push_reserved-2.ensures.items
    (c.truncate-2.ensures.items ∙ ap (λ (n : ℕ). take (n - c.closings-closes.result) c.push_reserved-2.new.self.items) n3)
    c.args.self.now.lists c.args.self.now.last c.self.invariant (ap (λ o. o.lists) c.self.view_is) (ap (λ o. o.last) c.self.view_is)
