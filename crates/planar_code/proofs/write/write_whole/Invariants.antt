-- The lists before list v are written, and the entries before entry k of it.
use Rattle.std.proofs.Common.{◌≡◌, ◌++◌, take}
use Rattle.planar_code.proofs.WriteLemmas.{lists_bytes, entries_bytes}
use Rattle.planar_code.proofs.write.write_whole.Given as goal

abbrev pub invariant-loop-v : goal.invariant-loop-v
invariant-loop-v l = l.out.items ≡ l.fn.out.items ++ lists_bytes l.wide l.lists l.v

abbrev pub invariant-loop-k : goal.invariant-loop-k
invariant-loop-k l = l.out.items ≡ l.fn.out.items ++ (lists_bytes l.wide l.lists l.v ++ entries_bytes l.wide (take l.k l.list))
