-- One dart put into a corner, and one taken out: the links of the arena after it.
use Rattle.std.proofs.Common.{ℕ, ◌+◌, ◌-◌, ◌<◌, ◌≤◌, ◌≡◌, ◌≢◌, eqb, List, [], ◌∷◌, length, get_or, set, Contains, Option, Some, None, refl, sym, ap, ◌∙◌, subst, inl, inr, arith}
use Rattle.std.specs.List.{insert}
use Rattle.std.proofs.lemmas.List.{length-set, get_or-set_same, get_or-set_other, get_or_default}
use Rattle.std.proofs.lemmas.Bool.{cases_eq, cond-true, cond-false, eq-eqb, ne_eqb}
use Rattle.std.proofs.lemmas.Option.{none-some}
use Rattle.map_lists.specs.Lists.{Lists}
use Rattle.map_theory.specs.Maps.{Dart, list_of, HasDart, follows, entry_after, place_of}
use Rattle.map_theory.specs.Edges.{without_entry}
use Rattle.map_theory.proofs.DartLemmas.{place_of-lt-length, entry_after-injective, Contains-entry_after}
use Rattle.map_theory.proofs.EntryLemmas.{Contains-here}
use Rattle.map_theory.proofs.WithoutEntry.{without-old, distinct-insert, Contains-insert, without-insert, entry_after-insert, first-insert, first-without, first-without_skip}
use Rattle.map_theory.proofs.EntryMore.{IsEntryMore, AreEntryMore, AreEntryMore-with, AreEntryMore-without, has_up, follows_skip, length_more}
use Rattle.half_edges.specs.Arena.{vertex_at, next_of, prev_of, tail_of, IsLinked}
use Rattle.half_edges.specs.Links.{IsSpliced, IsVertexSet}
use Rattle.half_edges.specs.Edges.{moved_first, with_entry, IsPut, IsTakenOut}
use Rattle.half_edges.specs.declared.edge_edits.Corner.{Corner}
use Rattle.half_edges.specs.declared.edge_edits.Corner.TheVariants.{After, Only}
use Rattle.half_edges.specs.declared.dart_records.DartRecord.{DartRecord}
use Rattle.half_edges.specs.declared.dart_records.VertexRecord.{VertexRecord}
use Rattle.half_edges.proofs.ArenaLemmas.{prev_is}
use Rattle.half_edges.proofs.LinkLemmas.{tails_same, IsDartMore, AreVertices, AreVertices-set, IsLinked-more, IsLinked-less}

-- a corner stands at w, behind the entry a
abbrev pub CornerAt : (ℕ → Option Dart) → Lists → List DartRecord → Corner → ℕ → Option ℕ → Type 0
CornerAt dart lists old (After e) w a = (y : ℕ) × (a ≡ Some y) × (dart e.0 ≡ Some (w, y)) × (tail_of old e.0 ≡ w)
CornerAt dart lists old (Only v) w a = (a ≡ None) × (v.0 ≡ w) × (list_of lists w ≡ [])

single_is : (x z : ℕ) → Contains (x ∷ []) z → z ≡ x
single_is x z c =
    let e : c.0 ≡ 0 = omega (arith, c.1) in
    sym c.2 ∙ ap (λ k. get_or (x ∷ []) k z) e

-- x alone is one entry more than none
IsEntryMore-single : (us : List ℕ) (x : ℕ) → us ≡ [] → IsEntryMore us (x ∷ []) x
IsEntryMore-single us x empty = record {
  distinct = λ i j d l m. absurd (omega (arith, l, m));
  has = Contains-here x [];
  rest = empty ∙ sym (without-insert [] 0 x (λ i j d l m. absurd (omega (arith, m))) (λ c. absurd (omega (arith, c.1))) (omega arith));
}

-- a dart comes
module _ (dart more : ℕ → Option Dart) (lists : Lists) (old new : List DartRecord) (vertices grown : List VertexRecord) (h : IsLinked dart lists old vertices) (d w x : ℕ) (f : IsDartMore dart more d w x) (fresh : ¬ HasDart lists w x) (w_in : w < length lists) where
  not_d : (z v u : ℕ) → dart z ≡ Some (v, u) → z ≢ d
  not_d z v u some e = none-some (v, u) (sym f.none ∙ ap dart (sym e) ∙ some)

  still : (z v u : ℕ) → dart z ≡ Some (v, u) → more z ≡ Some (v, u)
  still z v u some = f.other z (not_d z v u some) ∙ some

  -- the records of vertices, with a list that has one entry more
  vertices_more : (us : List ℕ) (first : ℕ) → IsEntryMore (list_of lists w) us x → IsVertexSet vertices grown w first (length us) → more first ≡ Some (w, get_or us 0 0) → AreVertices more (set lists w us) grown
  vertices_more us first m s at =
      let here = get_or-set_same lists w us [] w_in in
      AreVertices-set dart more lists (set lists w us) vertices grown w first (length-set lists w us) (λ v other. get_or-set_other lists w v us [] other) (λ z v u other. still z v u)
      (subst (λ (vs : List ℕ). IsVertexSet vertices grown w first (length vs)) (sym here) s)
      (λ some. at ∙ ap (λ (vs : List ℕ). Some (w, get_or vs 0 0)) (sym here)) h.vertex_count h.degree_at h.first_at

  more_after : (e a : ℕ) → dart e ≡ Some (w, a) → IsSpliced old new d e (next_of old e) w → IsVertexSet vertices grown w (vertex_at vertices w).first ((vertex_at vertices w).degree + 1) → IsLinked more (set lists w (insert (list_of lists w) (place_of a (list_of lists w) + 1) x)) new grown
  more_after e a some s vs =
      let us = list_of lists w in
      let longer : List ℕ = insert us (place_of a us + 1) x in
      let has = h.is_dart e w a some in
      let distinct = h.distinct w w_in in
      let new_entry : ¬ Contains us x = λ c. fresh (w_in, c) in
      let k_in = place_of-lt-length a us has.1 in
      let k_fits : place_of a us + 1 ≤ length us = omega (arith, k_in) in
      let m : IsEntryMore us longer x = record {
        distinct = distinct-insert us (place_of a us + 1) x distinct new_entry k_fits;
        has = Contains-insert us (place_of a us + 1) x distinct new_entry k_fits;
        rest = sym (without-insert us (place_of a us + 1) x distinct new_entry k_fits);
      } in
      let ls : Lists = set lists w longer in
      let are : AreEntryMore lists ls w x = AreEntryMore-with lists w x longer w_in m in
      let here : list_of ls w ≡ longer = get_or-set_same lists w longer [] w_in in
      let behind : follows ls w a ≡ x = ap (λ vs. entry_after a vs) here ∙ entry_after-insert us a x distinct new_entry has.1 in
      let first = (vertex_at vertices w).first in
      IsLinked-more dart more lists ls old new vertices grown d w x e (next_of old e)
      (record {
        darts = f;
        lists = are;
        links = record {
          next_here = s.next_here;
          next_before = s.next_before;
          next_past = λ _. refl;
          next_other = s.next_other;
          prev_here = s.prev_here;
          prev_after = s.prev_after;
          prev_past = λ _. h.prev_at e w a some;
          prev_other = s.prev_other;
        };
        at_e = λ v b at. let parts = tails_same v w b a (dart e) at some in (parts.0, ap (λ q. follows ls w q) parts.1 ∙ behind);
        off_e = λ z b at off follows_it.
            off (h.one_id z e w a (at ∙ ap (λ q. Some (w, q)) (entry_after-injective (list_of ls w) b a are.here.distinct (has_up lists ls w x are w b (h.is_dart z w b at)).0.1 (has_up lists ls w x are w a has).0.1 (follows_it ∙ sym behind))) some);
        at_n = still (next_of old e) w (follows lists w a) (h.next_at e w a some) ∙ ap (λ y. Some (w, y)) (follows_skip lists ls w x are a has behind);
        off_n = λ z v b at off same. off (sym (h.prev_at z v b at) ∙ ap (λ q. prev_of old q) same ∙ h.prev_at e w a some);
      })
      h
      (vertices_more longer first m
      (subst (λ k. IsVertexSet vertices grown w first k) (omega (arith, h.degree_at w w_in, length_more lists ls w x are, ap length here)) vs)
      (still first w (get_or us 0 0) (h.first_at w w_in (omega (arith, k_in))) ∙ ap (λ y. Some (w, y)) (sym (first-insert us a x distinct new_entry has.1))))

  more_only : list_of lists w ≡ [] → IsSpliced old new d d d w → IsVertexSet vertices grown w d 1 → IsLinked more (set lists w (x ∷ [])) new grown
  more_only empty s vs =
      let m = IsEntryMore-single (list_of lists w) x empty in
      let ls : Lists = set lists w (x ∷ []) in
      let here : list_of ls w ≡ x ∷ [] = get_or-set_same lists w (x ∷ []) [] w_in in
      IsLinked-more dart more lists ls old new vertices grown d w x d d
      (record {
        darts = f;
        lists = AreEntryMore-with lists w x (x ∷ []) w_in m;
        links = record {
          next_here = s.next_here;
          next_before = s.next_before;
          next_past = λ apart. absurd (apart refl);
          next_other = s.next_other;
          prev_here = s.prev_here;
          prev_after = s.prev_after;
          prev_past = λ apart. absurd (apart refl);
          prev_other = s.prev_other;
        };
        at_e = λ v b at. absurd (not_d d v b at refl);
        off_e = λ z b at. absurd (omega (arith, (h.is_dart z w b at).1.1, ap length empty));
        at_n = f.here ∙ ap (λ y. Some (w, y)) (sym (ap (λ vs. entry_after x vs) here ∙ single_is x (entry_after x (x ∷ [])) (Contains-entry_after x (x ∷ []) (Contains-here x []))));
        off_n = λ z v b at off same. not_d (next_of old z) v (follows lists v b) (h.next_at z v b at) same;
      })
      h
      (vertices_more (x ∷ []) d m vs f.here)

  -- a dart more, in a corner
  pub more_by : (c : Corner) (a : Option ℕ) → CornerAt dart lists old c w a → IsPut old new vertices grown d c → IsLinked more (set lists w (with_entry (list_of lists w) a x)) new grown
  more_by (After e) a at put =
      let s = subst (λ y. IsSpliced old new d e.0 (next_of old e.0) y) at.3 put.0 in
      let v = subst (λ y. IsVertexSet vertices grown y (vertex_at vertices y).first ((vertex_at vertices y).degree + 1)) at.3 put.1 in
      subst (λ o. IsLinked more (set lists w (with_entry (list_of lists w) o x)) new grown) (sym at.1) (more_after e.0 at.0 at.2 s v)
  more_by (Only v) a at put =
      subst (λ o. IsLinked more (set lists w (with_entry (list_of lists w) o x)) new grown) (sym at.0)
      (subst (λ (us : List ℕ). IsLinked more (set lists w (x ∷ us)) new grown) (sym at.2)
      (more_only at.2 (subst (λ y. IsSpliced old new d d d y) at.1 put.0) (subst (λ y. IsVertexSet vertices grown y d 1) at.1 put.1)))

-- a dart goes
pub less_by : (dart less : ℕ → Option Dart) (lists : Lists) (old new : List DartRecord) (vertices shrunk : List VertexRecord) (h : IsLinked dart lists old vertices) (d w x : ℕ) → IsDartMore less dart d w x → tail_of old d ≡ w → IsTakenOut old new vertices shrunk d → IsLinked less (set lists w (without_entry (list_of lists w) x)) new shrunk
less_by dart less lists old new vertices shrunk h d w x f tail out =
    let s = out.unspliced in
    let has = h.is_dart d w x f.here in
    let us = list_of lists w in
    let rest : List ℕ = without_entry us x in
    let ls : Lists = set lists w rest in
    let are : AreEntryMore ls lists w x = AreEntryMore-without lists w x (h.distinct w has.0) has in
    let before = prev_is dart lists old vertices h d w x f.here in
    let first = (vertex_at vertices w).first in
    let n = next_of old d in
    let at_n : dart n ≡ Some (w, follows lists w x) = h.next_at d w x f.here in
    let there : (v : ℕ) → v ≢ w → list_of ls v ≡ list_of lists v = λ v other. are.there v other in
    let degree : (vertex_at vertices w).degree - 1 ≡ length (list_of ls w) = omega (arith, h.degree_at w has.0, length_more ls lists w x are) in
    let up : (z v u : ℕ) → less z ≡ Some (v, u) → dart z ≡ Some (v, u) = λ z v u some. f.other z (λ e. none-some (v, u) (sym f.none ∙ ap less (sym e) ∙ some)) ∙ some in
    let down : (z v u : ℕ) → z ≢ d → dart z ≡ Some (v, u) → less z ≡ Some (v, u) = λ z v u other some. sym (f.other z other) ∙ some in
    let first_is : 0 < length (list_of ls w) → less (moved_first first d n) ≡ Some (w, get_or (list_of ls w) 0 0) = λ some.
    let some_rest : 0 < length rest = omega (arith, some, ap length are.here.rest) in
    let first_old = h.first_at w has.0 (omega (arith, length_more ls lists w x are)) in
    let in_rest = ap (λ (vs : List ℕ). Some (w, get_or vs 0 0)) (sym are.here.rest) in
    elim (cases_eq first d) [
      | inl at ↦
          let x_first = (tails_same w w (get_or us 0 0) x (dart d) (ap dart (sym at) ∙ first_old) f.here).1 in
          let skip = first-without_skip us x are.here.distinct are.here.has x_first some_rest in
          let apart : n ≢ d = λ same.
          (without-old us x are.here.distinct are.here.has (get_or rest 0 0) (0, some_rest, get_or_default rest 0 (get_or rest 0 0) 0 some_rest)).1 (skip ∙ (tails_same w w (follows lists w x) x (dart d) (ap dart (sym same) ∙ at_n) f.here).1) in
          ap less (cond-true (eqb first d) n first (eq-eqb first d at)) ∙ down n w (follows lists w x) apart at_n ∙ ap (λ y. Some (w, y)) (sym skip) ∙ in_rest
      | inr off ↦
          let later : get_or us 0 0 ≢ x = λ e. off (h.one_id first d w x (first_old ∙ ap (λ y. Some (w, y)) e) f.here) in
          ap less (cond-false (eqb first d) n first (ne_eqb first d off)) ∙ down first w (get_or us 0 0) off first_old
          ∙ ap (λ y. Some (w, y)) (sym (first-without us x are.here.distinct are.here.has later some_rest)) ∙ in_rest
    ] in
    IsLinked-less less dart ls lists new old shrunk vertices d w x (prev_of old d) n
    (record {
      darts = f;
      lists = are;
      links = record {
        next_here = refl;
        next_before = before.1.back;
        next_past = λ _. s.next_before;
        next_other = λ z _ off. sym (s.next_other z off);
        prev_here = refl;
        prev_after = h.prev_at d w x f.here;
        prev_past = λ _. s.prev_after;
        prev_other = λ z _ off. sym (s.prev_other z off);
      };
      at_e = λ v b at. let parts = tails_same v w b before.0 (dart (prev_of old d)) (up (prev_of old d) v b at) before.1.before in (parts.0, ap (λ q. follows lists w q) parts.1 ∙ before.1.follows_it);
      off_e = λ z b at off follows_it.
          off (sym (h.prev_at z w b (up z w b at)) ∙ ap (λ q. prev_of old q) (h.one_id (next_of old z) d w x (h.next_at z w b (up z w b at) ∙ ap (λ y. Some (w, y)) follows_it) f.here));
      at_n = at_n;
      off_n = λ z v b at off same.
          none-some (v, b) (sym f.none ∙ ap less (sym (h.prev_at d w x f.here) ∙ ap (λ q. prev_of old q) (sym (sym (s.next_other z off) ∙ same)) ∙ h.prev_at z v b (up z v b at)) ∙ at);
    })
    h
    (AreVertices-set dart less lists ls vertices shrunk w (moved_first first d n) (length-set lists w rest) there
    (λ z v u other some. down z v u (λ e. other (sym (tails_same w v x u (dart d) f.here (ap dart (sym e) ∙ some)).0)) some)
    (subst (λ k. IsVertexSet vertices shrunk w (moved_first first d n) k) degree (subst (λ y. IsVertexSet vertices shrunk y (moved_first (vertex_at vertices y).first d n) ((vertex_at vertices y).degree - 1)) tail out.vertex))
    first_is h.vertex_count h.degree_at h.first_at)
