-- What a fork demands, by the least deep end and the deepest end of what returns by each of its edges.
use Rattle.std.proofs.Common.{◌≡◌, ◌⊎◌, ℕ, ◌<◌, ◌≤◌, Bool, true, false, not, List, Contains, refl, sym, ap, ◌∙◌, inl, inr, arith}
use Rattle.std.proofs.lemmas.Bool.{cases_lt, true≢false}

pub twice : (s : Bool) → not (not s) ≡ s
twice true = refl
twice false = refl

pub same_not : (s t : Bool) → not s ≡ not t → s ≡ t
same_not s t e = sym (twice s) ∙ (ap not e ∙ twice t)

false_not : (s : Bool) → not s ≡ false → s ≡ true
false_not true e = refl
false_not false e = absurd (true≢false e)

module _ {X : Type 0} (height : X → ℕ) where
  -- edges that return by one edge of a vertex, with one that ends least deep, and one that ends deepest
  pub record Item (ones : List X) : Type 0 where
    pub lowest : X
    pub low_in : Contains ones lowest
    pub least : (x : X) → Contains ones x → height lowest ≤ height x
    pub deepest : X
    pub deep_in : Contains ones deepest
    pub most : (x : X) → Contains ones x → height x ≤ height deepest

  -- One stands before another in nesting order: it ends less deep, or as deep, and if all of it ends there, or not all of the other.
  abbrev pub AreNested : (ones others : List X) → Item ones → Item others → Type 0
  AreNested ones others a b =
      (height a.lowest < height b.lowest) ⊎ ((height a.lowest ≡ height b.lowest) × (height a.lowest < height a.deepest → height b.lowest < height b.deepest))

  -- where all of the later one ends at a limit, all of the earlier one ends no deeper than it
  pub none_left : (R S : List X) (a : Item R) (b : Item S) (limit : ℕ) → limit ≤ height a.lowest → AreNested R S a b → ((y : X) → Contains S y → height y ≤ limit) → (x : X) → Contains R x → height x ≤ height b.lowest
  none_left R S a b limit below nested none x rx =
      let top = none b.deepest b.deep_in in
      let wide = none b.lowest b.low_in in
      let more = a.most x rx in
      elim nested [
        | inl less ↦ absurd (omega (arith, less, wide, below))
        | inr same ↦ elim (cases_lt (height a.lowest) (height a.deepest)) [
          | inl mixed ↦ (let m = same.1 mixed in absurd (omega (arith, m, top, below, same.0)))
          | inr plain ↦ omega (arith, plain, more, same.0)
        ]
      ]

  module _ (side : X → Bool) where
    -- the sides are as a fork demands
    abbrev pub MeetsFork : List X → List X → Type 0
    MeetsFork R S =
        (s : Bool) × ((x y : X) → Contains R x → Contains S y → (height y < height x → side x ≡ s) × (height x < height y → side y ≡ not s))

    -- what ends deeper than a limit by the later edge is on one side, and what ends deeper than its least end by the earlier one on the other
    abbrev pub MeetsShort : (R S : List X) → Item S → ℕ → Bool → Type 0
    MeetsShort R S b limit s =
        ((y : X) → Contains S y → limit < height y → side y ≡ s) × ((x : X) → Contains R x → height b.lowest < height x → side x ≡ not s)

    -- with short demands the fork's are met
    pub short_meets : (R S : List X) (a : Item R) (b : Item S) (limit : ℕ) (s : Bool) → limit ≤ height a.lowest → MeetsShort R S b limit s → MeetsFork R S
    short_meets R S a b limit s below short = (
      not s,
      λ x y rx sy. (
        (λ less. short.1 x rx (let l = b.least y sy in omega arith)),
        (λ less. short.0 y sy (let l = a.least x rx in omega arith) ∙ sym (twice s)),
      ),
    )

    -- two forks, that of the first edge and that of an earlier one, demand what is short
    pub short_demanded : (F R S : List X) (o : Item F) (a : Item R) (b : Item S) → height o.lowest ≤ height a.lowest → AreNested R S a b → (first : MeetsFork F S) → MeetsFork R S → MeetsShort R S b (height o.lowest) (not first.0)
    short_demanded F R S o a b below nested first fork = (
      λ y sy less. (first.1 o.lowest y o.low_in sy).1 less,
      λ x rx less. elim (cases_lt (height a.lowest) (height b.deepest)) [
        | inl deep ↦
            let one = (first.1 o.lowest b.deepest o.low_in b.deep_in).1 (omega (arith, deep, below)) in
            let two = (fork.1 a.lowest b.deepest a.low_in b.deep_in).1 deep in
            (fork.1 x b.lowest rx b.low_in).0 less ∙ (same_not fork.0 first.0 (sym two ∙ one) ∙ sym (twice first.0))
        | inr high ↦ absurd (let n = none_left R S a b (height a.lowest) (omega arith) nested (λ y sy. (let m = b.most y sy in omega (arith, m, high))) x rx in omega (arith, n, less))
      ],
    )
