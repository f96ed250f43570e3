-- Laws for the proofs of judge.rt: a call refused at each stage or judged.
-- Assumes nothing.
use Prim.Native.Nat.{ℕ}
use mathlib.Core.Path.{◌≡◌, refl, sym, ap}
use mathlib.Core.Option.{Option, none, some}
use mathlib.Core.List.{List, []}
use native.Mathlib.Omega.{arith}
use lib.ListN.{length}
use Rattle.rules.specs.Refusal.{Refusal, Out, refused, done, unless_refused}
use Rattle.rules.specs.Model.{Mode}
use Rattle.rules.specs.Limits.{Limits}
use Rattle.rules.specs.Check.{check}
use Rattle.rules.specs.Sections as rules
use Rattle.rules.specs.Sections.{cut}
use Rattle.rules.specs.Names.{names_of}
use Rattle.rules.specs.Call.{judge_mode, judge_room, need_of, model_from, judged}
use Rattle.tables.specs.SectionAnswers.{sections_in, Inside}
use Rattle.tables.specs.NameAnswers.{counted, names_count}
use Rattle.tables.specs.Judging.{rows_in, model_in, refusal_in, Counted, room_of, judged_count}
use Rattle.tables.specs.declared.sections.Sections.{Sections}
use Rattle.tables.proofs.JudgeLaws.{rows-count}
use Rattle.tables.proofs.ListLaws.{list_count}
use Rattle.tables.proofs.NameLaws.{counted-refused}

-- ---- what the room rule counts
module _ (ws : List ℕ) (s : Sections) (h : Inside ws s) where
  pub need_counts : need_of (sections_in ws s) ≡ room_of s
  need_counts =
      rw (
        rows-count ws s,
        list_count ws _ s.sequentials h.sequentials,
        list_count ws _ s.initial h.initial,
        list_count ws _ s.later h.later,
        list_count ws _ s.inputs h.inputs,
      )

-- ---- an outcome by its refusal
pub is-refused : {A : Type 0} (o : Out A) (r : Refusal) → some r ≡ refusal_in o → o ≡ refused r
is-refused (refused q) r e = ap (λ (x : Refusal). refused x) cc
is-refused (done x) r e = let z : ◌≡◌ {A = ℕ} 0 1 = cc in absurd (omega arith)

pub is-done : {A : Type 0} (o : Out A) → none ≡ refusal_in o → (x : A) × (o ≡ done x)
is-done (refused q) e = let z : ◌≡◌ {A = ℕ} 0 1 = cc in absurd (omega arith)
is-done (done x) e = (x, refl)

-- ---- a call, stage by stage
module _ (limits : Limits) (mode : ℕ) (ws bytes : List ℕ) (result_room scratch_room : ℕ) where
  abbrev answer : Out (rules.Sections × ℕ)
  answer = judged_count limits mode ws bytes result_room scratch_room

  pub mode-refused : (r : Refusal) → judge_mode mode ≡ refused r → refused r ≡ answer
  unfolding judged
  mode-refused r e = rw e

  module _ (how : Mode) (m : judge_mode mode ≡ done how) where
    pub cut-refused : (r : Refusal) → cut limits ws ≡ refused r → refused r ≡ answer
    unfolding judged
    cut-refused r e = rw (m, e)

    module _ (s : rules.Sections) (c : cut limits ws ≡ done s) where
      pub names-refused : (r : Refusal) → names_of limits bytes ≡ refused r → refused r ≡ answer
      unfolding judged
      names-refused r e = rw (m, c, e)

      module _ (names : List (List ℕ)) (n : names_of limits bytes ≡ done names) where
        pub room-refused : (r : Refusal) → judge_room (need_of s) result_room scratch_room ≡ refused r → refused r ≡ answer
        unfolding judged
        room-refused r e = rw (m, c, n, e)

        module _ (x : Unit {0}) (l : judge_room (need_of s) result_room scratch_room ≡ done x) where
          pub table-refused : (r : Refusal) → check (length names) s.rows (model_from names s) ≡ some r → refused r ≡ answer
          unfolding judged
          table-refused r e = rw (m, c, n, l, e)

          pub accepted : check (length names) s.rows (model_from names s) ≡ none → done (s, length names) ≡ answer
          unfolding judged
          accepted e = rw (m, c, n, l, e)

-- ---- names that were counted
pub count-refused : (limits : Limits) (bytes : List ℕ) (r : Refusal) → names_count limits bytes ≡ refused r → names_of limits bytes ≡ refused r
count-refused limits bytes r e = counted-refused (names_of limits bytes) r e

counted-done : (o : Out (List (List ℕ))) (k : ℕ) → counted o ≡ done k → (names : List (List ℕ)) × (o ≡ done names) × (length names ≡ k)
unfolding counted
counted-done (refused q) k e = let z : ◌≡◌ {A = ℕ} 0 1 = cc in absurd (omega arith)
counted-done (done names) k e = (names, refl, cc)

pub count-done : (limits : Limits) (bytes : List ℕ) (k : ℕ) → names_count limits bytes ≡ done k → (names : List (List ℕ)) × (names_of limits bytes ≡ done names) × (length names ≡ k)
count-done limits bytes k e = counted-done (names_of limits bytes) k e

-- refusals 3 to 7 read no names but how many there are
pub check_in : (ws : List ℕ) (s : Sections) (names : List (List ℕ)) (k : ℕ) → length names ≡ k
    → check (length names) (sections_in ws s).rows (model_from names (sections_in ws s)) ≡ check k (rows_in ws s) (model_in ws s)
unfolding check
check_in ws s names k e = ap (λ (n : ℕ). check n (rows_in ws s) (model_in ws s)) e

-- a table alone
module _ (names : ℕ) (ws : List ℕ) (s : Sections) where
  pub table_stops : (r : Refusal) → check names (rows_in ws s) (model_in ws s) ≡ some r
      → refused r ≡ unless_refused (check names (rows_in ws s) (model_from [] (sections_in ws s))) (done (sections_in ws s))
  unfolding check
  table_stops r e = ap (λ (o : Option Refusal). unless_refused o (done (sections_in ws s))) (sym e)

  pub table_passes : check names (rows_in ws s) (model_in ws s) ≡ none
      → done (sections_in ws s) ≡ unless_refused (check names (rows_in ws s) (model_from [] (sections_in ws s))) (done (sections_in ws s))
  unfolding check
  table_passes e = ap (λ (o : Option Refusal). unless_refused o (done (sections_in ws s))) (sym e)

-- counts of 32 bits
pub counts : (ws : List ℕ) (s : Sections) → Inside ws s → Counted s
counts ws s h = (h.nodes.few, h.sequentials.few, h.initial.few, h.later.few, h.inputs.few)
