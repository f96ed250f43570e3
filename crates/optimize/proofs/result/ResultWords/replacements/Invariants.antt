-- The loop of `replacements` has written the pairs of the nodes below its own, and has the words of the others ahead.
-- Assumes nothing.
use Prim.Native.Nat.{◌+◌, ◌*◌, ◌≤◌}
use mathlib.Core.Path.{◌≡◌}
use lib.ListN.{take, drop}
use Rattle.std.specs.Iterator.Adapters.{enumerate_source, enumerate_count, zip_first, zip_second}
use Rattle.std.specs.Slice.Iter.{iter_rest}
use Rattle.rules.specs.Result.{mark_words, gather}
use Rattle.optimize.specs.View.{mark_of}
use Rattle.optimize.specs.Clauses.{Writes}
use Rattle.optimize.proofs.result.ResultWords.replacements.Given as goal

abbrev pub invariant-loop-node : goal.invariant-loop-node
invariant-loop-node l =
    let k = enumerate_count l.node-iterator in
    let ahead = enumerate_source l.node-iterator in
    record {
      below : k ≤ l.n;
      marks : iter_rest (zip_first ahead) ≡ drop k (take l.n l.scratch);
      after : iter_rest (zip_second ahead) ≡ drop k (drop l.n l.scratch);
      room : l.self.at ≤ l.initial.self.at + 2 * k;
      writes : Writes l.initial.self l.self (gather k 0 (λ i. mark_words i (mark_of l.n l.scratch i)));
    }
