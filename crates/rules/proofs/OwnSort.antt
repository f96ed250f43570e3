-- The laws of sorts of every accepted call: it has passed every stage, and its rows pass rule 3 as given.
-- Assumes nothing.
use Prim.Native.Nat.{ℕ, ◌<◌}
use mathlib.Core.Path.{◌≡◌, refl, sym, ap, ◌∙◌, subst}
use mathlib.Core.Bool.{true}
use mathlib.Core.Option.{none}
use mathlib.Core.List.{List, map}
use lib.ListN.{length, length-map, get_or-map}
use Rattle.rules.specs.Table.{Row, decode, coded}
use Rattle.rules.specs.Check.{rule3, check}
use Rattle.rules.specs.Model.{Model}
use Rattle.rules.specs.Legal.{no_row, row_at}
use Rattle.rules.specs.Legal as legal
use Rattle.rules.specs.Laws.{ReplacementSort, MadeReplaces, MadeFits, RowKeeps, GivenPass, RowsPass}
use Rattle.rules.specs.Sections.{Sections}
use Rattle.rules.specs.Names.{dump}
use Rattle.rules.specs.Call.{Entry, impl, with_solver, with_input, brought, model_from}
use Rattle.rules.specs.OwnSort.{OwnSortsOfCall}
use Rattle.rules.proofs.Check.{accepted}
use Rattle.rules.proofs.Sections.{same-done}
use Rattle.rules.proofs.Laws.{replacement_sort, made-replaces, made-fits, row_keeps}
use Rattle.rules.proofs.Passes.{decoded_three, rows_pass}
use Rattle.rules.proofs.Call.{passed, call_formed}

-- ---- the rows of a call pass rule 3 as nodes
pub rows-given : (names : ℕ) (rs : List Row) → ((k : ℕ) → k < length rs → rule3 names (row_at rs k) ≡ true) → GivenPass names (map decode rs)
rows-given names rs h k l =
    ap (λ nd. rule3 names (coded nd)) (get_or-map decode rs k no_row) ∙ decoded_three names (row_at rs k) (h k (subst (λ n. k < n) (length-map rs decode) l))

call-given : (names : List (List ℕ)) (s : Sections) → check (length names) s.rows (model_from names s) ≡ none → GivenPass (length names) (map decode s.rows)
unfolding legal.Accepted
call-given names s c = rows-given (length names) s.rows (accepted (length names) s.rows (dump names) s.sequentials s.initial s.later s.inputs s.replies c).rows

-- whatever the entry point brings of inputs and replies
same_rows : (entry : Entry) (names : List (List ℕ)) (s : Sections) → map decode s.rows ≡ (model_from names (brought entry s)).table
same_rows impl names s = refl
same_rows with_solver names s = refl
same_rows with_input names s = refl

-- ---- the theorem
pub own_sorts_of_call : OwnSortsOfCall
unfolding OwnSortsOfCall ReplacementSort MadeReplaces MadeFits RowKeeps RowsPass
own_sorts_of_call limits entry call a names e n =
    let p = passed limits entry call a e in
    let wf = call_formed limits entry call a p in
    let same : p.names ≡ names = same-done p.names names (sym p.names_cut ∙ n) in
    let table : map decode p.sections.rows ≡ a.model.table = same_rows entry p.names p.sections ∙ ap (λ (m : Model). m.table) p.model_is in
    let given : GivenPass (length names) a.model.table =
    subst (λ (ns : List (List ℕ)). GivenPass (length ns) a.model.table) same (subst (GivenPass (length p.names)) table (call-given p.names p.sections p.judged)) in
    record {
      replacements = replacement_sort a.model a.how a.folded wf p.folds;
      made = made-replaces a.model a.how a.folded wf p.folds;
      constants = made-fits a.model a.how a.folded wf p.folds;
      kept = row_keeps a.model a.how a.folded wf p.folds;
      rows = rows_pass (length names) a.model a.how a.folded wf given p.folds;
    }
