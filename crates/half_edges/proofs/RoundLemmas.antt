-- The records whose darts are linked round by round are those of the tables of the map.
use Rattle.std.proofs.Common.{ℕ, suc, ◌+◌, ◌-◌, ◌<◌, ◌≤◌, ◌≡◌, ◌⊎◌, cond, eqb, ltb, true, List, [], ◌∷◌, ◌++◌, length, get_or, map, refl, sym, ap, ap₂, ◌∙◌, subst, inl, inr, arith}
use Rattle.std.proofs.lemmas.Bool.{cases_lt}
use Rattle.std.proofs.lemmas.List.{length_push, get_or_push, get_or_append_left, get_or-map, length-map}
use Rattle.map_lists.specs.Lists.{Lists}
use Rattle.map_lists.specs.Cuts.{cut, AreCuts, joined, ends_from}
use Rattle.map_lists.proofs.CutLemmas.{length-cut, IsStored, IsStored-cuts, IsStored-cut}
use Rattle.map_theory.specs.Maps.{Dart, list_of, darts, dart_count}
use Rattle.map_theory.proofs.DartLemmas.{length-darts, place_of_number}
use Rattle.simple_maps.specs.Tables.{AreTables, AreSlots}
use Rattle.simple_maps.proofs.FlatLemmas.{start-is, length-list, end-is, count-is, dart-is}
use Rattle.half_edges.specs.Arena.{no_record, no_vertex, record_at, vertex_at, twin_of, tail_of}
use Rattle.half_edges.specs.Rounds.{round_record, AreRounds, AreRoundVertices}
use Rattle.half_edges.specs.Tables.{table_record, AreTableRecords, AreTableVertices, AreLinked}
use Rattle.half_edges.proofs.TableArena.{few_entries}
use Rattle.map_theory.proofs.DartCounts.{few_darts-simple}
use Rattle.half_edges.specs.declared.dart_records.DartRecord.{DartRecord}
use Rattle.half_edges.specs.declared.dart_records.VertexRecord.{VertexRecord}

-- the round of one vertex more
pub AreRounds-more : (ends : List ℕ) (old darts new : List DartRecord) (start end v next : ℕ) → AreRounds ends old darts v → ((w : ℕ) → w < v → get_or ends w 0 ≤ start) → start ≡ get_or (0 ∷ ends) v 0 → end ≡ get_or ends v 0 → start ≤ end → length new ≡ length darts
    → ((d : ℕ) → start ≤ d → d < end → record_at new d ≡ round_record darts start end d) → ((d : ℕ) → d < start ⊎ end ≤ d → record_at new d ≡ record_at darts d) → next ≡ v + 1 → AreRounds ends old new next
AreRounds-more ends old darts new start end v next h before from to order long here elsewhere step =
    let one : suc v ≡ next = omega arith in
    subst (λ n. AreRounds ends old new n) one (record {
      count = long ∙ h.count;
      here = λ w d l a b. elim (cases_lt w v) [
        | inl m ↦ elsewhere d (inl (omega (arith, before w m))) ∙ h.here w d m a b
        | inr m ↦
            (let same : v ≡ w = omega arith in
            let kept = h.elsewhere d (omega (arith, ap (λ x. get_or (0 ∷ ends) x 0) same)) in
            subst (λ x. record_at new d ≡ round_record old (get_or (0 ∷ ends) x 0) (get_or ends x 0) d) same
            (subst (λ y. record_at new d ≡ round_record old y (get_or ends v 0) d) from
            (subst (λ y. record_at new d ≡ round_record old start y d) to
            (here d (omega (arith, ap (λ x. get_or (0 ∷ ends) x 0) same)) (omega (arith, ap (λ x. get_or ends x 0) same))
            ∙ ap (λ (r : DartRecord). record { twin = r.twin; next = cond (ltb (d + 1) end) (d + 1) start; prev = cond (eqb d start) (end - 1) (d - 1); tail = r.tail; live = true }) kept))))
      ];
      elsewhere = λ d l. elsewhere d (inr (omega arith)) ∙ h.elsewhere d (omega arith);
    })

-- the record of one vertex more
pub AreRoundVertices-push : (ends : List ℕ) (vertices : List VertexRecord) (v : ℕ) (x : VertexRecord) → AreRoundVertices ends vertices v → x.first ≡ get_or (0 ∷ ends) v 0 → x.degree ≡ get_or ends v 0 - get_or (0 ∷ ends) v 0 → AreRoundVertices ends (vertices ++ x ∷ []) (v + 1)
AreRoundVertices-push ends vertices v x h first degree =
    let old : (w : ℕ) → w < v → vertex_at (vertices ++ x ∷ []) w ≡ vertex_at vertices w = λ w l. get_or_append_left vertices (x ∷ []) no_vertex w (omega (arith, h.count)) in
    let new : vertex_at (vertices ++ x ∷ []) v ≡ x = get_or_push vertices x no_vertex v h.count in
    record {
      count = omega (arith, length_push vertices x, h.count);
      first = λ w l. elim (cases_lt w v) [
        | inl m ↦ ap (λ (r : VertexRecord). r.first) (old w m) ∙ h.first w m
        | inr m ↦ (let e : v ≡ w = omega arith in subst (λ y. (vertex_at (vertices ++ x ∷ []) y).first ≡ get_or (0 ∷ ends) y 0) e (ap (λ (r : VertexRecord). r.first) new ∙ first))
      ];
      degree = λ w l. elim (cases_lt w v) [
        | inl m ↦ ap (λ (r : VertexRecord). r.degree) (old w m) ∙ h.degree w m
        | inr m ↦ (let e : v ≡ w = omega arith in subst (λ y. (vertex_at (vertices ++ x ∷ []) y).degree ≡ get_or ends y 0 - get_or (0 ∷ ends) y 0) e (ap (λ (r : VertexRecord). r.degree) new ∙ degree))
      ];
    }

abbrev pub twins_in : List DartRecord → List ℕ
twins_in records = map (λ (r : DartRecord). r.twin) records

abbrev pub tails_in : List DartRecord → List ℕ
tails_in records = map (λ (r : DartRecord). r.tail) records

module _ (entries ends : List ℕ) (cuts : AreCuts 0 ends (length entries)) (few : length ends < 4096) (old new : List DartRecord) (slots : AreSlots (cut 0 ends entries) (tails_in old) (twins_in old)) (rounds : AreRounds ends old new (length ends)) where
  vertices_are : length (cut 0 ends entries) ≡ length ends
  vertices_are = length-cut 0 ends entries

  -- the tables of the map, as the slots and the ends have them
  pub AreTables-slots : AreTables (cut 0 ends entries) (0 ∷ ends) (darts (cut 0 ends entries)) (twins_in old)
  AreTables-slots = grind (arith, vertices_are, start-is)

  long : length old ≡ length (darts (cut 0 ends entries))
  long = sym (length-map {B = ℕ} old (λ (r : DartRecord). r.twin)) ∙ slots.twins_are.count

  record_of : (d : ℕ) → d < length (darts (cut 0 ends entries)) → record_at new d ≡ table_record (0 ∷ ends) (darts (cut 0 ends entries)) (twins_in old) d
  record_of d l =
      let lists = cut 0 ends entries in
      let p = place_of_number lists d (omega (arith, length-darts lists)) in
      let v = p.0 in
      let v_in : v < length ends = omega (arith, p.2.list_in, vertices_are) in
      let number : d ≡ get_or (0 ∷ ends) v 0 + p.1 = p.2.number ∙ ap (λ s. s + p.1) (start-is ends entries cuts v (omega arith)) in
      let tail : v ≡ (get_or (darts lists) d (0, 0)).0 = sym (ap (λ x. (get_or (darts lists) x (0, 0)).0) number ∙ ap (λ (x : Dart). x.0) (dart-is ends entries cuts v p.1 v_in p.2.entry_in)) in
      let here = rounds.here v d v_in (omega arith) (omega (arith, end-is ends entries cuts v v_in, p.2.entry_in)) in
      let twin : twin_of old d ≡ get_or (twins_in old) d 0 = sym (get_or-map (λ (r : DartRecord). r.twin) old d no_record 0 (omega (arith, long))) in
      let tail_old : tail_of old d ≡ v = sym (get_or-map (λ (r : DartRecord). r.tail) old d no_record 0 (omega (arith, long))) ∙ slots.tails_are d l ∙ sym tail in
      let after : get_or ends v 0 ≡ get_or (0 ∷ ends) (v + 1) 0 = let s : suc v ≡ v + 1 = omega arith in ap (λ x. get_or (0 ∷ ends) x 0) s in
      subst (λ x. record_at new d ≡ record { twin = get_or (twins_in old) d 0; next = cond (ltb (d + 1) (get_or (0 ∷ ends) (x + 1) 0)) (d + 1) (get_or (0 ∷ ends) x 0); prev = cond (eqb d (get_or (0 ∷ ends) x 0)) (get_or (0 ∷ ends) (x + 1) 0 - 1) (d - 1); tail = x; live = true }) tail
      (here ∙ ap (λ s. record { twin = twin_of old d; next = cond (ltb (d + 1) (get_or ends v 0)) (d + 1) (get_or (0 ∷ ends) v 0); prev = cond (eqb d (get_or (0 ∷ ends) v 0)) (get_or ends v 0 - 1) (d - 1); tail = s; live = true }) tail_old
      ∙ ap₂ (λ t e. record { twin = t; next = cond (ltb (d + 1) e) (d + 1) (get_or (0 ∷ ends) v 0); prev = cond (eqb d (get_or (0 ∷ ends) v 0)) (e - 1) (d - 1); tail = v; live = true }) twin after)

  -- and the linked records are those of the tables
  pub AreTableRecords-rounds : AreTableRecords (0 ∷ ends) (darts (cut 0 ends entries)) (twins_in old) new (length (darts (cut 0 ends entries)))
  AreTableRecords-rounds = record { count = rounds.count ∙ long; at = record_of }

  pub AreTableVertices-rounds : (vertices : List VertexRecord) → AreRoundVertices ends vertices (length ends) → AreTableVertices (cut 0 ends entries) (0 ∷ ends) vertices (length (cut 0 ends entries))
  AreTableVertices-rounds vertices h = record {
    count = h.count ∙ sym vertices_are;
    first = λ v l. h.first v (omega (arith, vertices_are));
    degree = λ v l. let v_in : v < length ends = omega (arith, vertices_are) in h.degree v v_in ∙ sym (length-list ends entries cuts v v_in);
  }

-- the rounds of lists whose darts have their slots
module _ (lists : Lists) (few : length lists < 4096) (old : List DartRecord) (slots : AreSlots lists (tails_in old) (twins_in old)) where
  stored : IsStored lists (joined lists) (ends_from 0 lists)
  stored = record { entries_are = refl; ends_are = refl }

  same : cut 0 (ends_from 0 lists) (joined lists) ≡ lists
  same = IsStored-cut lists (joined lists) (ends_from 0 lists) stored

  cuts_joined : AreCuts 0 (ends_from 0 lists) (length (joined lists))
  cuts_joined = IsStored-cuts lists (joined lists) (ends_from 0 lists) stored

  pub count_ends : length (ends_from 0 lists) ≡ length lists
  count_ends = sym (length-cut 0 (ends_from 0 lists) (joined lists)) ∙ ap length same

  count_old : length old ≡ dart_count lists
  count_old = sym (length-map {B = ℕ} old (λ (r : DartRecord). r.twin)) ∙ slots.twins_are.count ∙ length-darts lists

  pub few_old : length old < 16777216
  few_old = omega (arith, count_old, few_darts-simple lists few slots.simple)

  pub cuts_old : AreCuts 0 (ends_from 0 lists) (length old)
  cuts_old =
      let total : length (joined lists) ≡ length old = sym (count-is (ends_from 0 lists) (joined lists) cuts_joined) ∙ ap dart_count same ∙ sym count_old in
      subst (λ n. AreCuts 0 (ends_from 0 lists) n) total cuts_joined

  pub short_lists : (v : ℕ) → v < length (ends_from 0 lists) → get_or (ends_from 0 lists) v 0 - get_or (0 ∷ ends_from 0 lists) v 0 < 65536
  short_lists v l =
      omega (arith, length-list (ends_from 0 lists) (joined lists) cuts_joined v l, ap (λ (ls : Lists). length (list_of ls v)) same, few_entries lists v slots.simple few (omega (arith, count_ends)))

  pub AreLinked-rounds : (new : List DartRecord) (vertices : List VertexRecord) → AreRounds (ends_from 0 lists) old new (length (ends_from 0 lists)) → AreRoundVertices (ends_from 0 lists) vertices (length (ends_from 0 lists)) → AreLinked lists new vertices
  AreLinked-rounds new vertices rounds vs =
      let few' : length (ends_from 0 lists) < 4096 = omega (arith, count_ends) in
      let slots' : AreSlots (cut 0 (ends_from 0 lists) (joined lists)) (tails_in old) (twins_in old) = subst (λ ls. AreSlots ls (tails_in old) (twins_in old)) (sym same) slots in
      subst (λ ls. AreLinked ls new vertices) same (record {
        starts = 0 ∷ ends_from 0 lists;
        ends = darts (cut 0 (ends_from 0 lists) (joined lists));
        twins = twins_in old;
        tables = AreTables-slots (joined lists) (ends_from 0 lists) cuts_joined few' old new slots' rounds;
        records_are = AreTableRecords-rounds (joined lists) (ends_from 0 lists) cuts_joined few' old new slots' rounds;
        vertices_are = AreTableVertices-rounds (joined lists) (ends_from 0 lists) cuts_joined few' old new slots' rounds vertices vs;
      })
