use Rattle.half_edges.specs.MapFacts.{same_map}
use Rattle.std.proofs.Common.{◌≡◌, ◌+◌, ◌≤◌, List, refl, sym, ap, ◌∙◌, subst, arith}
use Rattle.half_edges.specs.Map.{Map}
use Rattle.half_edges.specs.Arena.{arena_ids, arena_lists, arena_map, IsArena}
use Rattle.half_edges.specs.Links.{IsFreer}
use Rattle.half_edges.specs.declared.dart_records.DartRecord.{DartRecord}
use Rattle.half_edges.proofs.ArenaLemmas.{known_here, known, dart_at-in, dart_at-arena}
use Rattle.half_edges.proofs.EdgeLemmas.{few_edges}
use Rattle.half_edges.proofs.ReserveLemmas.{lists_reserved, arena_reserved, dart_reserved}
use Rattle.half_edges.proofs.half_map.HalfMap.reserve_edges.Goals as goal
use Rattle.half_edges.proofs.half_map.HalfMap.reserve_edges.Goals.{After-push_free-free}

freer : (c : After-push_free-free) → IsFreer c.self.inside.darts.items c.push_free-free.new.darts.items c.push_free-free.result c.self.inside.spare c.saturating_sub-more.result
freer c = subst (λ (ds : List DartRecord). IsFreer ds c.push_free-free.new.darts.items c.push_free-free.result c.self.inside.spare c.saturating_sub-more.result) c.in-Ok.ensures.items c.push_free-free.ensures

room : (c : After-push_free-free) → c.self.inside.edges + (c.self.inside.spare + c.saturating_sub-more.result) ≤ 16777216
room c = omega (arith, few_edges _ _ _ _ _ c.self.invariant, c.self.invariant.room, c.saturating_sub-more.ensures, c.requires)

arena_after : (c : After-push_free-free) → IsArena (arena_lists c.push_free-free.new.darts.items c.self.inside.vertices.items) c.push_free-free.new.darts.items c.self.inside.vertices.items c.self.inside.edges c.push_free-free.result (c.self.inside.spare + c.saturating_sub-more.result)
arena_after c = arena_reserved _ _ _ _ _ c.self.invariant c.push_free-free.new.darts.items c.push_free-free.result c.saturating_sub-more.result (freer c) (room c)

pub push_free-free-requires : goal.push_free-free-requires
push_free-free-requires c =
    let items = c.in-Ok.ensures.items in
    record {
      room = omega (arith, c.in-Ok.ensures.ok, c.in-Ok.ensures.len);
      few = omega (arith, c.in-Ok.ensures.len, c.self.inside.darts.ok.0, c.self.invariant.count, c.self.invariant.room, few_edges _ _ _ _ _ c.self.invariant, c.saturating_sub-more.ensures, c.requires);
      few_spare = omega (arith, c.self.invariant.room, c.saturating_sub-more.ensures, c.requires);
      paired = rw items c.self.invariant.paired;
      threaded = rw items c.self.invariant.threaded;
    }

pub invariant_of-self-inside : goal.invariant_of-self-inside
invariant_of-self-inside c = (known_here _ _ _ _ _ (arena_after ((goal.at.invariant_of-self-inside c).After-push_free-free)), tt)

pub invariant_of-self : goal.invariant_of-self
invariant_of-self c = arena_after ((goal.at.invariant_of-self c).After-push_free-free)

pub invariant_of-self-inside-in-Err : goal.invariant_of-self-inside-in-Err
invariant_of-self-inside-in-Err c = let items = c.in-Err.ensures.items in rw items ((c.self.inside.known, tt))

pub invariant_of-self-in-Err : goal.invariant_of-self-in-Err
invariant_of-self-in-Err c = let items = c.in-Err.ensures.items in rw items c.self.invariant

pub returns-in-Ok : goal.returns-in-Ok
returns-in-Ok c =
    let a = (goal.at.returns-in-Ok c).After-push_free-free in
    let spare_is : c.self.inside.spare ≡ c.args.self.now.spare = ap (λ (m : Map). m.spare) c.self.view_is in
    record {
      spare = omega (arith, spare_is, c.saturating_sub-more.ensures);
      lists = lists_reserved _ _ _ _ _ c.self.invariant c.push_free-free.new.darts.items c.push_free-free.result c.saturating_sub-more.result (freer a) ∙ ap (λ (m : Map). m.lists) c.self.view_is;
      ids = λ d.
          dart_at-arena c.push_free-free.new.darts.items c.self.inside.vertices.items (c.self.inside.spare + c.saturating_sub-more.result) d
          ∙ dart_reserved _ _ _ _ _ c.self.invariant c.push_free-free.new.darts.items c.push_free-free.result c.saturating_sub-more.result (freer a) d
          ∙ sym (dart_at-in _ _ _ _ _ c.self.invariant c.args.self.now c.self.view_is d);
      err = tt;
      known = known_here _ _ _ _ _ (arena_after a);
    }

pub returns-in-Err : goal.returns-in-Err
returns-in-Err c = record {
  spare = tt;
  lists = tt;
  ids = tt;
  err = same_map _ _ (ap (λ (ds : List DartRecord). arena_lists ds c.self.inside.vertices.items) c.in-Err.ensures.items) refl (ap (λ (ds : List DartRecord). arena_ids ds) c.in-Err.ensures.items) ∙ c.self.view_is;
  known = tt;
}
