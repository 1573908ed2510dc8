-- Of those left of an order the first may stand before all others.
use Rattle.std.proofs.Common.{◌≡◌, ◌≢◌, ◌⊎◌, ◌↔◌, ℕ, Bool, true, false, List, [], ◌∷◌, ◌++◌, AllPairs, Contains, sym, ◌∙◌, subst, inl, inr}
use Rattle.std.proofs.lemmas.Bool.{cases_Bool, cases_eq, true≢false}
use Rattle.std.proofs.lemmas.List.Elements.{Contains-append_cases, Contains-append_left, Contains-append_right}
use Rattle.left_right_maps.proofs.Inserts.{none_in_none, here, there, here_or_there, pairs_none, pairs_more, pairs_head, pairs_tail, pairs_joined}

-- R holds of the first that is left and each other one that is left
pub some_first : (R : ℕ → ℕ → Type 0) (free : ℕ → Bool) (us : List ℕ) → AllPairs R us → (u : ℕ) → Contains us u → free u ≡ true → (e : ℕ) × (Contains us e × ((free e ≡ true) × ((f : ℕ) → Contains us f → free f ≡ true → e ≢ f → R e f)))
some_first R free [] pairs u c t = absurd (none_in_none u c)
some_first R free (x ∷ us) pairs u c t =
    elim (cases_Bool (free x)) [
      | inl t' ↦ (x, (here x us, (t', λ f c' t'' ne. elim (here_or_there x f us c') [ inl e ↦ absurd (ne e) | inr k ↦ pairs_head R x us pairs f k ])))
      | inr off ↦
          let in_rest : Contains us u = elim (here_or_there x u us c) [ inl e ↦ absurd (true≢false (sym t ∙ subst (λ z. free z ≡ false) e off)) | inr k ↦ k ] in
          let rest = some_first R free us (pairs_tail R x us pairs) u in_rest t in
          (rest.0, (there x rest.0 us rest.1.0, (rest.1.1.0, λ f c' t'' ne. elim (here_or_there x f us c') [ inl e ↦ absurd (true≢false (sym t'' ∙ subst (λ z. free z ≡ false) e off)) | inr k ↦ rest.1.1.1 f k t'' ne ])))
    ]

-- some of what was left stands in order, and each of it may stand before all that is left now
pub record IsSorting (R : ℕ → ℕ → Type 0) (initial now : ℕ → Bool) (us : List ℕ) : Type 0 where
  pub all : (u : ℕ) → initial u ≡ true ↔ (Contains us u ⊎ (now u ≡ true))
  pub placed : (u : ℕ) → Contains us u → now u ≡ false
  pub pairs : AllPairs R us
  pub across : (e f : ℕ) → Contains us e → now f ≡ true → R e f

pub sorting_more : (R : ℕ → ℕ → Type 0) (initial now new : ℕ → Bool) (us us' : List ℕ) (u : ℕ) → us' ≡ us ++ u ∷ [] → now u ≡ true → new u ≡ false → ((f : ℕ) → f ≢ u → new f ≡ now f) → ((f : ℕ) → now f ≡ true → u ≢ f → R u f) → IsSorting R initial now us → IsSorting R initial new us'
sorting_more R initial now new us us' u is at off same before h =
    let held : (w : ℕ) → Contains us' w → Contains us w ⊎ (u ≡ w) = λ w c. elim (Contains-append_cases us (u ∷ []) w (subst (λ z. Contains z w) is c)) [ inl k ↦ inl k | inr k ↦ elim (here_or_there u w [] k) [ inl e ↦ inr e | inr bad ↦ absurd (none_in_none w bad) ] ] in
    let holds : (w : ℕ) → Contains us w → Contains us' w = λ w c. subst (λ z. Contains z w) (sym is) (Contains-append_left us (u ∷ []) w c) in
    let last : Contains us' u = subst (λ z. Contains z u) (sym is) (Contains-append_right us (u ∷ []) u (here u [])) in
    let other : (w : ℕ) → new w ≡ true → (w ≢ u) × (now w ≡ true) = λ w t. (
    let ne : w ≢ u = λ e. true≢false (sym t ∙ subst (λ z. new z ≡ false) (sym e) off) in
    (ne, sym (same w ne) ∙ t)
    ) in
    record {
      all = λ w. (
        (λ t. elim ((h.all w).0 t) [
          | inl c ↦ inl (holds w c)
          | inr t' ↦ elim (cases_eq w u) [ inl e ↦ inl (subst (Contains us') (sym e) last) | inr ne ↦ inr (same w ne ∙ t') ]
        ]),
        (λ g. elim g [
          | inl c ↦ elim (held w c) [ inl k ↦ (h.all w).1 (inl k) | inr e ↦ (h.all w).1 (inr (subst (λ z. now z ≡ true) e at)) ]
          | inr t ↦ (h.all w).1 (inr (other w t).1)
        ]),
      );
      placed = λ w c. elim (held w c) [
        | inl k ↦ elim (cases_eq w u) [ inl e ↦ subst (λ z. new z ≡ false) (sym e) off | inr ne ↦ same w ne ∙ h.placed w k ]
        | inr e ↦ subst (λ z. new z ≡ false) e off
      ];
      pairs = subst (AllPairs R) (sym is) (pairs_joined R us (u ∷ []) h.pairs (pairs_more R u [] (λ y c. absurd (none_in_none y c)) (pairs_none R))
          (λ e f c c'. elim (here_or_there u f [] c') [ inl same' ↦ subst (R e) same' (h.across e u c at) | inr bad ↦ absurd (none_in_none f bad) ]));
      across = λ e f c t.
          let g = other f t in
          elim (held e c) [ inl k ↦ h.across e f k g.1 | inr same' ↦ subst (λ z. R z f) same' (before f g.1 (λ x. g.0 (sym x))) ];
    }

-- nothing is left where nothing left may stand before all others, as there is an order of all
pub sorting_done : (R : ℕ → ℕ → Type 0) (initial now : ℕ → Bool) (us order : List ℕ) → AllPairs R order → ((u : ℕ) → Contains order u ↔ (initial u ≡ true)) → ((u : ℕ) → now u ≡ true → ((f : ℕ) → now f ≡ true → u ≢ f → R u f) → ⊥) → IsSorting R initial now us → (u : ℕ) → Contains us u ↔ (initial u ≡ true)
sorting_done R initial now us order pairs are none h u = (
  (λ c. (h.all u).1 (inl c)),
  (λ t. elim ((h.all u).0 t) [
    | inl c ↦ c
    | inr t' ↦
        let first = some_first R now order pairs u ((are u).1 t) t' in
        absurd (none first.0 first.1.1.0 (λ f t'' ne. first.1.1.1 f ((are f).1 ((h.all f).1 (inr t''))) t'' ne))
  ]),
)
