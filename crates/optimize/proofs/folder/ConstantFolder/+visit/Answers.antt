-- The cycle of visit and process, member by member.
-- Assumes nothing.
use Prim.Native.Nat.{◌<◌}
use mathlib.Core.Path.{◌≡◌, refl, ap, sym, ◌∙◌}
use mathlib.Core.Option.{some}
use native.Mathlib.Omega.{arith}
use Rattle.rules.specs.Fold.{stays, swap, const_of}
use Rattle.rules.specs.Visit.{branch, left, right, undecided, settle}
use Rattle.optimize.specs.declared.call.Call.{Call}
use Rattle.optimize.specs.View.{constant_is, mark_is, table_of}
use Rattle.optimize.specs.Folder.{given_in, rows_in}
use Rattle.optimize.specs.Process.{after_one, after_two, after_ite, chosen_of, form_at, by_form}
use Rattle.optimize.proofs.Forms.{formed}
use Rattle.optimize.proofs.Keeps.{before-on, first-operand, laid-after, on-ok, operands-before, ready-after, ready-falls, ready-room, row-falls}
use Rattle.optimize.proofs.Walks.{branched, chosen-before, chosen-is, chosen-word, halts, onward, row-settled, settled-walks, taken-walks, undecided-is, visited-fresh, visited-kept, visited-replaced, walks-as}
use Rattle.optimize.proofs.folder.ConstantFolder.+visit.Goals as goal
use Rattle.optimize.proofs.folder.ConstantFolder.+visit.Goals.{process_ite-in_default-via-in-Some+in_default, process_ite-in_default-via-in_default}

-- ---- process

pub process-settle_const-requires : goal.process-settle_const-requires
process-settle_const-requires t c =
    ready-room c.args.self.now c.args.node c.requires

pub process-settle-requires-clause-made_bound : goal.process-settle-requires-clause-made_bound
process-settle-requires-clause-made_bound t c =
    (ready-room c.args.self.now c.args.node c.requires).few

pub process-take_input-requires : goal.process-take_input-requires
process-take_input-requires t c =
    ready-room c.args.self.now c.args.node c.requires

pub process-returns-in-Constant-clause-walks : goal.process-returns-in-Constant-clause-walks
unfolding by_form
process-returns-in-Constant-clause-walks t c =
    formed c.args.self.now _ _ c.args.node _ (sym c.in-Constant.is ∙ c.form_at.ensures) (settled-walks c.settle_const.ensures.settles)

pub process-returns-in-Given-clause-walks : goal.process-returns-in-Given-clause-walks
unfolding by_form
process-returns-in-Given-clause-walks t c =
    formed c.args.self.now _ _ c.args.node _ (sym c.in-Given.is ∙ c.form_at.ensures) (settled-walks c.settle.ensures.settles)

pub process-returns-in-Free-clause-walks : goal.process-returns-in-Free-clause-walks
unfolding by_form
process-returns-in-Free-clause-walks t c =
    formed c.args.self.now _ _ c.args.node _ (sym c.in-Free.is ∙ c.form_at.ensures) (taken-walks c.take_input.ensures.takes)

pub process-returns-in-One-clause-walks : goal.process-returns-in-One-clause-walks
unfolding by_form
process-returns-in-One-clause-walks t c =
    formed c.args.self.now _ _ c.args.node _ (sym c.in-One.is ∙ c.form_at.ensures) c.process_one.ensures.walks

pub process-returns-in-Two-clause-walks : goal.process-returns-in-Two-clause-walks
unfolding by_form
process-returns-in-Two-clause-walks t c =
    formed c.args.self.now _ _ c.args.node _ (sym c.in-Two.is ∙ c.form_at.ensures) c.process_two.ensures.walks

pub process-returns-in-Three-clause-walks : goal.process-returns-in-Three-clause-walks
unfolding by_form
process-returns-in-Three-clause-walks t c =
    formed c.args.self.now _ _ c.args.node _ (sym c.in-Three.is ∙ c.form_at.ensures) c.process_three.ensures.walks

pub process-returns-in-Choice-clause-walks : goal.process-returns-in-Choice-clause-walks
unfolding by_form
process-returns-in-Choice-clause-walks t c =
    formed c.args.self.now _ _ c.args.node _ (sym c.in-Choice.is ∙ c.form_at.ensures) c.process_ite.ensures.walks

pub process-returns-in-Step-clause-walks : goal.process-returns-in-Step-clause-walks
unfolding by_form
process-returns-in-Step-clause-walks t c =
    formed c.args.self.now _ _ c.args.node _ (sym c.in-Step.is ∙ c.form_at.ensures) c.process_next.ensures.walks

-- ---- process_both

pub process_both-visit_operand-requires : goal.process_both-visit_operand-requires
process_both-visit_operand-requires t c =
    (omega (arith, c.decreases), (c.requires.ready, (omega arith, (operands-before c.requires).1)))

pub process_both-returns-in_err-y-clause-walks : goal.process_both-returns-in_err-y-clause-walks
process_both-returns-in_err-y-clause-walks t c = halts _ c.from_residual.ensures.1 c.in_err-y.ensures.walks

pub process_both-visit_operand-requires-2 : goal.process_both-visit_operand-requires-2
process_both-visit_operand-requires-2 t c =
    (omega (arith, c.decreases), (c.in_ok-y.ensures.ready, (omega arith, before-on 4 c.in_ok-y.ensures.keeps (operands-before c.requires).2)))

pub process_both-returns-in_err-z-clause-walks : goal.process_both-returns-in_err-z-clause-walks
process_both-returns-in_err-z-clause-walks t c =
    onward _ c.in_ok-y.ensures.keeps c.in_ok-y.ensures.walks (halts _ c.from_residual-in_err-z.ensures.1 c.in_err-z.ensures.walks)

pub process_both-returns-clause-walks : goal.process_both-returns-clause-walks
process_both-returns-clause-walks t c =
    onward _ c.in_ok-y.ensures.keeps c.in_ok-y.ensures.walks (onward _ c.in_ok-z.ensures.keeps c.in_ok-z.ensures.walks
    (row-settled (λ g ways σ. after_ite g ways σ c.args.node c.args.x c.in_ok-y.y c.in_ok-z.z) _ _ _ c.put_row.ensures.keeps c.put_row.ensures.puts_row refl refl refl c.after_ite.ensures.settles))

-- ---- process_chosen

pub process_chosen-visit_operand-requires : goal.process_chosen-visit_operand-requires
process_chosen-visit_operand-requires t c =
    let n = c.args.node in
    let b = operands-before c.requires in
    (omega (arith, c.decreases), (c.requires.ready, (omega (arith, c.choose.ensures, chosen-word c.args.condition), rw c.choose.ensures (chosen-before (given_in c.args.self.now) c.args.condition n b.1 b.2))))

pub process_chosen-returns-in_err-chosen-clause-walks : goal.process_chosen-returns-in_err-chosen-clause-walks
process_chosen-returns-in_err-chosen-clause-walks t c =
    let walks = rw c.choose.ensures at c.in_err-chosen.ensures.walks in
    walks-as (λ g ways vis σ. chosen-is g ways vis c.args.condition c.args.x σ c.args.node) (halts _ c.from_residual.ensures.1 walks)

pub process_chosen-returns-clause-walks : goal.process_chosen-returns-clause-walks
process_chosen-returns-clause-walks t c =
    let walks = rw c.choose.ensures at c.in_ok-chosen.ensures.walks in
    walks-as (λ g ways vis σ. chosen-is g ways vis c.args.condition c.args.x σ c.args.node)
    (onward _ c.in_ok-chosen.ensures.keeps walks
    (row-settled (λ g ways σ. settle (table_of g) ways c.args.node σ (swap c.in_ok-chosen.chosen)) _ _ _ c.put_row.ensures.keeps c.put_row.ensures.puts_row refl (c.choose-2.ensures ∙ rw c.operand-b.ensures) (c.choose-3.ensures ∙ rw c.operand-c.ensures) c.settle.ensures.settles))

-- ---- process_ite

pub process_ite-visit_operand-requires : goal.process_ite-visit_operand-requires
process_ite-visit_operand-requires t c =
    (omega (arith, c.decreases), first-operand c.requires)

pub process_ite-returns-in_err-x-clause-walks : goal.process_ite-returns-in_err-x-clause-walks
process_ite-returns-in_err-x-clause-walks t c = halts _ c.from_residual.ensures.1 c.in_err-x.ensures.walks

pub process_ite-returns-in-Some-eq1-clause-walks : goal.process_ite-returns-in-Some-eq1-clause-walks
process_ite-returns-in-Some-eq1-clause-walks t c =
    let is = sym (ap branch c.in-Some-eq1.ensures) ∙ ap (λ v. branch (some v)) c.in-Some-eq1.field-0-test in
    onward _ c.in_ok-x.ensures.keeps c.in_ok-x.ensures.walks (branched _ left is c.process_chosen.ensures.walks)

pub process_ite-returns-in-Some-eq0-clause-walks : goal.process_ite-returns-in-Some-eq0-clause-walks
process_ite-returns-in-Some-eq0-clause-walks t c =
    let is = sym (ap branch c.in-Some-eq0.ensures) ∙ ap (λ v. branch (some v)) c.in-Some-eq0.field-0-test in
    onward _ c.in_ok-x.ensures.keeps c.in_ok-x.ensures.walks (branched _ right is c.process_chosen-in-Some-eq0.ensures.walks)

pub process_ite-returns-in_default-clause-walks : goal.process_ite-returns-in_default-clause-walks
unfolding chosen_of
process_ite-returns-in_default-clause-walks t c =
    let is : branch (const_of (rows_in c.visit_operand.new.self) c.in_ok-x.x) ≡ undecided =
    elim c.in_default.branch [
      | process_ite-in_default-via-in-Some+in_default w ↦ sym (ap branch w.in_default.ensures) ∙ undecided-is _ w.in_default.field-0-test.0.1 w.in_default.field-0-test.1
      | process_ite-in_default-via-in_default w ↦ sym (ap branch c.get_constant.ensures) ∙ ap (λ d. branch (constant_is d)) w.in_default.is
    ] in
    onward _ c.in_ok-x.ensures.keeps c.in_ok-x.ensures.walks (branched _ undecided is c.process_both.ensures.walks)

-- ---- process_next

-- of either operand that it visits, so that an edit which visits the other is refused for what it returns
pub process_next-visit_operand-requires : goal.process_next-visit_operand-requires
process_next-visit_operand-requires t c =
    let b = operands-before c.requires in
    (omega (arith, c.decreases), (c.requires.ready, (omega arith, omega (arith, b.0, b.1))))

pub process_next-returns-in_err-visit_operand-clause-walks : goal.process_next-returns-in_err-visit_operand-clause-walks
process_next-returns-in_err-visit_operand-clause-walks t c =
    halts _ c.from_residual.ensures.1 c.in_err-visit_operand.ensures.walks

pub process_next-visit_operand-requires-2 : goal.process_next-visit_operand-requires-2
process_next-visit_operand-requires-2 t c =
    (omega (arith, c.decreases), (c.in_ok-visit_operand.ensures.ready, (omega arith, before-on 3 c.in_ok-visit_operand.ensures.keeps (operands-before c.requires).1)))

pub process_next-returns-in_err-y-clause-walks : goal.process_next-returns-in_err-y-clause-walks
process_next-returns-in_err-y-clause-walks t c =
    onward _ c.in_ok-visit_operand.ensures.keeps c.in_ok-visit_operand.ensures.walks (halts _ c.from_residual-in_err-y.ensures.1 c.in_err-y.ensures.walks)

pub process_next-returns-clause-walks : goal.process_next-returns-clause-walks
process_next-returns-clause-walks t c =
    onward _ c.in_ok-visit_operand.ensures.keeps c.in_ok-visit_operand.ensures.walks (onward _ c.in_ok-y.ensures.keeps c.in_ok-y.ensures.walks
    (row-settled (λ g ways σ. settle (table_of g) ways c.args.node σ stays) _ _ _ c.put_row.ensures.keeps c.put_row.ensures.puts_row c.operand-state.ensures refl c.operand-c.ensures c.settle.ensures.settles))

-- ---- process_one

pub process_one-visit_operand-requires : goal.process_one-visit_operand-requires
process_one-visit_operand-requires t c =
    (omega (arith, c.decreases), first-operand c.requires)

pub process_one-returns-in_err-x-clause-walks : goal.process_one-returns-in_err-x-clause-walks
process_one-returns-in_err-x-clause-walks t c = halts _ c.from_residual.ensures.1 c.in_err-x.ensures.walks

pub process_one-returns-clause-walks : goal.process_one-returns-clause-walks
process_one-returns-clause-walks t c =
    onward _ c.in_ok-x.ensures.keeps c.in_ok-x.ensures.walks
    (row-settled (λ g ways σ. after_one g ways c.args.rule σ c.args.node c.in_ok-x.x) _ _ _ c.put_row.ensures.keeps c.put_row.ensures.puts_row refl c.operand-b.ensures c.operand-c.ensures c.after_one.ensures.settles)

-- ---- process_three

pub process_three-visit_operand-requires : goal.process_three-visit_operand-requires
process_three-visit_operand-requires t c =
    (omega (arith, c.decreases), first-operand c.requires)

pub process_three-returns-in_err-x-clause-walks : goal.process_three-returns-in_err-x-clause-walks
process_three-returns-in_err-x-clause-walks t c = halts _ c.from_residual.ensures.1 c.in_err-x.ensures.walks

pub process_three-visit_operand-requires-2 : goal.process_three-visit_operand-requires-2
process_three-visit_operand-requires-2 t c =
    (omega (arith, c.decreases), (c.in_ok-x.ensures.ready, (omega arith, before-on 3 c.in_ok-x.ensures.keeps (operands-before c.requires).1)))

pub process_three-returns-in_err-y-clause-walks : goal.process_three-returns-in_err-y-clause-walks
process_three-returns-in_err-y-clause-walks t c =
    onward _ c.in_ok-x.ensures.keeps c.in_ok-x.ensures.walks (halts _ c.from_residual-in_err-y.ensures.1 c.in_err-y.ensures.walks)

pub process_three-visit_operand-requires-3 : goal.process_three-visit_operand-requires-3
process_three-visit_operand-requires-3 t c =
    (omega (arith, c.decreases), (c.in_ok-y.ensures.ready, (omega arith, before-on 4 c.in_ok-y.ensures.keeps (before-on 4 c.in_ok-x.ensures.keeps (operands-before c.requires).2))))

pub process_three-returns-in_err-z-clause-walks : goal.process_three-returns-in_err-z-clause-walks
process_three-returns-in_err-z-clause-walks t c =
    onward _ c.in_ok-x.ensures.keeps c.in_ok-x.ensures.walks (onward _ c.in_ok-y.ensures.keeps c.in_ok-y.ensures.walks (halts _ c.from_residual-in_err-z.ensures.1 c.in_err-z.ensures.walks))

pub process_three-returns-clause-walks : goal.process_three-returns-clause-walks
process_three-returns-clause-walks t c =
    onward _ c.in_ok-x.ensures.keeps c.in_ok-x.ensures.walks (onward _ c.in_ok-y.ensures.keeps c.in_ok-y.ensures.walks (onward _ c.in_ok-z.ensures.keeps c.in_ok-z.ensures.walks
    (row-settled (λ g ways σ. settle (table_of g) ways c.args.node σ stays) _ _ _ c.put_row.ensures.keeps c.put_row.ensures.puts_row refl refl refl c.settle.ensures.settles)))

-- ---- process_two

pub process_two-visit_operand-requires : goal.process_two-visit_operand-requires
process_two-visit_operand-requires t c =
    (omega (arith, c.decreases), first-operand c.requires)

pub process_two-returns-in_err-x-clause-walks : goal.process_two-returns-in_err-x-clause-walks
process_two-returns-in_err-x-clause-walks t c = halts _ c.from_residual.ensures.1 c.in_err-x.ensures.walks

pub process_two-visit_operand-requires-2 : goal.process_two-visit_operand-requires-2
process_two-visit_operand-requires-2 t c =
    (omega (arith, c.decreases), (c.in_ok-x.ensures.ready, (omega arith, before-on 3 c.in_ok-x.ensures.keeps (operands-before c.requires).1)))

pub process_two-returns-in_err-y-clause-walks : goal.process_two-returns-in_err-y-clause-walks
process_two-returns-in_err-y-clause-walks t c =
    onward _ c.in_ok-x.ensures.keeps c.in_ok-x.ensures.walks (halts _ c.from_residual-in_err-y.ensures.1 c.in_err-y.ensures.walks)

pub process_two-returns-clause-walks : goal.process_two-returns-clause-walks
process_two-returns-clause-walks t c =
    onward _ c.in_ok-x.ensures.keeps c.in_ok-x.ensures.walks (onward _ c.in_ok-y.ensures.keeps c.in_ok-y.ensures.walks
    (row-settled (λ g ways σ. after_two g ways c.args.pair σ c.args.node c.in_ok-x.x c.in_ok-y.y) _ _ _ c.put_row.ensures.keeps c.put_row.ensures.puts_row refl refl c.operand-c.ensures c.after_two.ensures.settles))

pub process_two-after_two-requires-clause-falls : goal.process_two-after_two-requires-clause-falls
process_two-after_two-requires-clause-falls t c =
    let f2 = c.visit_operand-2.new.self in
    let same = c.in_ok-y.ensures.keeps.call ∙ c.in_ok-x.ensures.keeps.call in
    row-falls f2 c.put_row.new.self c.put_row.ensures.keeps c.args.pair c.args.node _ _ _ (c.requires.form ∙ ap (λ (d : Call). form_at d.given.now c.args.node) (sym same)) c.put_row.ensures.puts_row (ready-falls f2 c.args.node c.in_ok-y.ensures.ready)

-- ---- visit

pub visit-process-requires : goal.visit-process-requires
visit-process-requires t c =
    let f = c.args.self.now in (
      omega (arith, c.decreases),
      record { laid = c.requires.laid; inside = c.requires.node_bound; fresh = sym c.mark_of.ensures ∙ ap mark_is c.in-Fresh.is },
    )

pub visit-returns-in-Fresh-clause-walks : goal.visit-returns-in-Fresh-clause-walks
visit-returns-in-Fresh-clause-walks t c =
    visited-fresh c.args.self.now c.process.new.self _ c.args.node c.requires.node_bound (sym c.mark_of.ensures ∙ ap mark_is c.in-Fresh.is) c.process.ensures.walks

pub visit-returns-in-Kept-clause-walks : goal.visit-returns-in-Kept-clause-walks
visit-returns-in-Kept-clause-walks t c =
    visited-kept c.args.self.now c.args.node c.requires.node_bound (sym c.mark_of.ensures ∙ ap mark_is c.in-Kept.is)

pub visit-returns-in-Replaced-clause-walks : goal.visit-returns-in-Replaced-clause-walks
visit-returns-in-Replaced-clause-walks t c =
    visited-replaced c.args.self.now c.args.node c.in-Replaced.by c.requires.node_bound (sym c.mark_of.ensures ∙ ap mark_is c.in-Replaced.is)

pub visit-returns-in-Fresh-clause-laid : goal.visit-returns-in-Fresh-clause-laid
visit-returns-in-Fresh-clause-laid t c =
    let f = c.args.self.now in
    let f1 = c.process.new.self in
    let n = c.args.node in
    let walks = visited-fresh f f1 c.process.result n c.requires.node_bound (sym c.mark_of.ensures ∙ ap mark_is c.in-Fresh.is) c.process.ensures.walks in
    on-ok c.process.result _ (λ a is. laid-after f f1 n a c.process.ensures.keeps c.requires.laid c.requires.node_bound (rw is at walks))

-- ---- visit_operand

pub visit_operand-returns-clause-walks : goal.visit_operand-returns-clause-walks
visit_operand-returns-clause-walks t c =
    record { walked = λ h fuel l. rw c.operand-at.ensures at (c.visit.ensures.walks.walked h fuel (omega (arith, c.operand-at.ensures, c.requires.before, l))) }

pub visit_operand-returns-clause-ready : goal.visit_operand-returns-clause-ready
visit_operand-returns-clause-ready t c =
    let f = c.args.self.now in
    let f1 = c.visit.new.self in
    let at = c.operand-at.result in
    let b : at < c.args.node = omega (arith, c.operand-at.ensures, c.requires.before) in
    on-ok c.visit.result _ (λ a is. ready-after f f1 at a c.visit.ensures.keeps c.requires.ready.laid (omega (arith, b, c.requires.ready.inside)) (rw is at c.visit.ensures.walks) c.args.node b c.requires.ready)
