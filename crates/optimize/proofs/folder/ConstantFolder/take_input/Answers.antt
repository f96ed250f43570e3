-- The first input left, unless the name is a memory dump's; a memory or too wide an input is refused.
-- Assumes nothing.
use Prim.Native.Nat.{suc}
use mathlib.Core.Path.{ap, sym, ◌∙◌}
use mathlib.Core.List.{[], ◌∷◌, ◌++◌}
use native.Mathlib.Omega.{arith}
use lib.ListN.{drop}
use Rattle.rules.specs.Table.{fits}
use Rattle.rules.specs.Visit.{new_number}
use Rattle.optimize.specs.View.{table_of, outcome_of}
use Rattle.optimize.specs.Call.{ways_of}
use Rattle.optimize.specs.Folder.{given_in, seen}
use Rattle.optimize.proofs.Finishes.{inputs-none, inputs-some, take_none, take-dump, take-memory, take-wide, take-made, took}
use Rattle.optimize.proofs.Walks.{meets}
use Rattle.optimize.proofs.folder.ConstantFolder.take_input.Goals as goal

pub returns-in_default-clause-takes : goal.returns-in_default-clause-takes
returns-in_default-clause-takes c =
    let f = c.args.self.now in
    λ h. meets h (c.settle.ensures.settles h ∙ take_none (given_in f) (ways_of f.call) (seen h f) c.args.node (inputs-none h f.call.given.now f.call.inputs.now f.call.replies.now f.res.now f.scratch.now f.walk (omega (arith, c.in_default.ensures.lookup.3))))

pub returns-then-is_dump-clause-takes : goal.returns-then-is_dump-clause-takes
returns-then-is_dump-clause-takes c =
    let f = c.args.self.now in
    λ h. meets h (c.settle-then-is_dump.ensures.settles h ∙ take-dump (given_in f) (ways_of f.call) (seen h f) c.args.node c.in-Some.field-0.now (drop (suc f.walk.taken) f.call.inputs.now) (inputs-some h f.call.given.now f.call.inputs.now f.call.replies.now f.res.now f.scratch.now f.walk c.in-Some.field-0.now (omega (arith, c.in-Some.ensures.lookup.3.0)) c.in-Some.ensures.lookup.1) (ap (λ k. (ways_of f.call).dump k) (sym c.operand.ensures) ∙ sym c.is_dump.ensures ∙ c.if-is_dump.true))

pub returns-then-sort-eq-MEMORY-clause-takes : goal.returns-then-sort-eq-MEMORY-clause-takes
unfolding outcome_of
returns-then-sort-eq-MEMORY-clause-takes c =
    let f = c.args.self.now in
    λ h. meets h (take-memory (given_in f) (ways_of f.call) (seen h f) c.args.node c.in-Some.field-0.now (drop (suc f.walk.taken) f.call.inputs.now) (inputs-some h f.call.given.now f.call.inputs.now f.call.replies.now f.res.now f.scratch.now f.walk c.in-Some.field-0.now (omega (arith, c.in-Some.ensures.lookup.3.0)) c.in-Some.ensures.lookup.1) (ap (λ k. (ways_of f.call).dump k) (sym c.operand.ensures) ∙ sym c.is_dump.ensures ∙ c.if-is_dump.false) (sym c.word-sort.ensures ∙ c.if-sort-eq-MEMORY.true))

pub returns-then-not-fits_sort-clause-takes : goal.returns-then-not-fits_sort-clause-takes
unfolding outcome_of
returns-then-not-fits_sort-clause-takes c =
    let f = c.args.self.now in
    λ h. meets h (take-wide (given_in f) (ways_of f.call) (seen h f) c.args.node c.in-Some.field-0.now (drop (suc f.walk.taken) f.call.inputs.now) (inputs-some h f.call.given.now f.call.inputs.now f.call.replies.now f.res.now f.scratch.now f.walk c.in-Some.field-0.now (omega (arith, c.in-Some.ensures.lookup.3.0)) c.in-Some.ensures.lookup.1) (ap (λ k. (ways_of f.call).dump k) (sym c.operand.ensures) ∙ sym c.is_dump.ensures ∙ c.if-is_dump.false) (λ e. c.if-sort-eq-MEMORY.false (c.word-sort.ensures ∙ e)) (ap (λ s. fits s c.in-Some.field-0.now) (sym c.word-sort.ensures) ∙ sym c.fits_sort.ensures ∙ c.if-not-fits_sort.true))

pub returns-clause-takes : goal.returns-clause-takes
returns-clause-takes c =
    let f = c.args.self.now in
    λ h.
    let by = new_number (table_of (given_in f)) (ways_of f.call) (seen h f) in
    meets (h ++ (record { state = c.args.node; by = by } ∷ []))
    (c.settle-2.ensures.settles (h ++ (record { state = c.args.node; by = by } ∷ []))
    ∙ rw (c.word-sort.ensures, took h f.call.given.now f.call.inputs.now f.call.replies.now f.res.now f.scratch.now f.walk c.args.node by)
    (take-made (given_in f) (ways_of f.call) (seen h f) c.args.node c.in-Some.field-0.now (drop (suc f.walk.taken) f.call.inputs.now) (inputs-some h f.call.given.now f.call.inputs.now f.call.replies.now f.res.now f.scratch.now f.walk c.in-Some.field-0.now (omega (arith, c.in-Some.ensures.lookup.3.0)) c.in-Some.ensures.lookup.1) (ap (λ k. (ways_of f.call).dump k) (sym c.operand.ensures) ∙ sym c.is_dump.ensures ∙ c.if-is_dump.false) (λ e. c.if-sort-eq-MEMORY.false (c.word-sort.ensures ∙ e)) (ap (λ s. fits s c.in-Some.field-0.now) (sym c.word-sort.ensures) ∙ sym c.fits_sort.ensures ∙ c.if-not-fits_sort.false)))
