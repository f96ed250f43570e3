-- The example of docs/FORMAT.md, "Noon, by hand", as the walk leaves it in the buffers: the nine sections are its lines, whatever stands in the unused words.
-- That what `write_result` asks of the buffers can be met, and that what is said of the sorts in a result can fail. By computation.
-- Assumes nothing.
use Prim.Native.Nat.{ℕ, zero, suc, ◌+◌, ◌*◌, ◌<◌}
use mathlib.Core.Path.{◌≡◌, refl}
use mathlib.Core.Bool.{false}
use mathlib.Core.List.{List, [], ◌∷◌, ◌++◌, flatten}
use native.Mathlib.Omega.{arith}
use lib.Dec.{lit<, lit≤}
use lib.ListN.{get_or, replicate}
use borrow.Author.Tests.{eqb-false}
use Rattle.rules.specs.Lists.{sum}
use Rattle.rules.specs.Table.{kind_of, kind_code, node_at}
use Rattle.rules.specs.Model.{Model}
use Rattle.rules.specs.Result.{gather, question_words, result_words}
use Rattle.rules.specs.Sections.{word_of}
use Rattle.optimize.specs.View.{node_of, firsts, table_of, rows_of, mark_of, view}
use Rattle.optimize.specs.Demand.{replacements_on, sort_in, byte_table, words_with, SortsCanFail}
use Rattle.optimize.specs.ResultView.{Finished, ModelOf, folded_in}
use Rattle.btor.specs.Sorts as btor
use Rattle.rules.specs.Legal.{AllLegal}
use Rattle.btor.specs.declared.reading.Reading.TheVariants.{Rust}
use Rattle.optimize.specs.declared.folder.ConstantFolder.{ConstantFolder}
use Rattle.optimize.specs.Ending.{Ended}
use Rattle.optimize.specs.declared.lists.Lists.{Lists}
use Rattle.optimize.specs.declared.walk.Walk.{Walk}

-- section 1 of the call
abbrev given : List ℕ
given = 4 ∷ 19 ∷ 2 ∷ 0 ∷ 0 ∷ 0 ∷ 1 ∷ 1 ∷ 2 ∷ 12 ∷ 0 ∷ 0 ∷ 0 ∷ 12 ∷ 1 ∷ 0 ∷ 1 ∷ 0 ∷ 0 ∷ 22 ∷ 1 ∷ 2 ∷ 0 ∷ 0 ∷ 0 ∷ []

-- rewritten rows, the shared constants and the input's; x stands in every word that the walk leaves free
abbrev result : ℕ → List ℕ
result x =
    (x ∷ 19 ∷ 2 ∷ 0 ∷ 0 ∷ 0 ∷ 1 ∷ 1 ∷ 2 ∷ 12 ∷ 0 ∷ 0 ∷ 0 ∷ 12 ∷ 1 ∷ 6 ∷ 1 ∷ 0 ∷ 0 ∷ 22 ∷ 1 ∷ 4 ∷ 0 ∷ 0 ∷ 0 ∷ x ∷ 1 ∷ 0 ∷ 1 ∷ 1 ∷ 2 ∷ 12 ∷ [])
    ++ replicate 84 x

-- the state and the comparison are replaced, and the bad is dropped
abbrev scratch : ℕ → List ℕ
scratch x = (2 ∷ 1 ∷ 2 ∷ 1 ∷ 6 ∷ x ∷ 4 ∷ x ∷ []) ++ replicate 108 x

abbrev walk : Walk
walk = record { made = 1; taken = 1; used = 0; asked = 0; looked = 0; passed = 0 }

abbrev model : Model
model = record { table = table_of given; dump = λ k. false; sequentials = []; initial = 3 ∷ []; later = []; inputs = 12 ∷ []; replies = [] }

pub example-words : (x : ℕ) → flatten (result_words model (folded_in [] [] given (12 ∷ []) [] (result x) (scratch x) walk [] [] [] 0))
    ≡ 4 ∷ 19 ∷ 2 ∷ 0 ∷ 0 ∷ 0 ∷ 1 ∷ 1 ∷ 2 ∷ 12 ∷ 0 ∷ 0 ∷ 0 ∷ 12 ∷ 1 ∷ 6 ∷ 1 ∷ 0 ∷ 0 ∷ 22 ∷ 1 ∷ 4 ∷ 0 ∷ 0 ∷ 0
    ∷ 3 ∷ 1 ∷ 0 ∷ 1 ∷ 1 ∷ 2 ∷ 12
    ∷ 2 ∷ 0 ∷ 6 ∷ 2 ∷ 4
    ∷ 0 ∷ 0 ∷ 0 ∷ 0 ∷ 0
    ∷ 5 ∷ 1 ∷ 0 ∷ 0 ∷ 0 ∷ 0 ∷ []
unfolding flatten result_words folded_in view table_of firsts rows_of mark_of gather sum question_words
example-words x = refl

known : (x v : ℕ) → v < 4 → kind_code (kind_of (word_of (result x) v 0)) ≡ word_of (result x) v 0
known x zero h = refl
known x (suc zero) h = refl
known x (suc (suc zero)) h = refl
known x (suc (suc (suc zero))) h = refl
known x (suc (suc (suc (suc v)))) h = absurd (omega arith)

abbrev none_kept : Lists
none_kept = record { sequentials = record { ref_ptr = (0, 0); now = [] }; initial = record { ref_ptr = (0, 0); now = [] }; later = record { ref_ptr = (0, 0); now = [] } }

pub example-finished : (x : ℕ) → Finished given (12 ∷ []) (result x) (scratch x) walk none_kept
example-finished x =
    record {
      counted = lit< tt;
      few = lit≤ tt;
      least = lit≤ tt;
      room = lit≤ tt;
      scratch = lit≤ tt;
      made = lit≤ tt;
      taken = lit≤ tt;
      known = known x;
    }

-- the folder of the example, as the walk leaves it: its table is legal
pub example-legal : AllLegal (table_of given)
unfolding table_of firsts btor.width
example-legal zero h = record { known = refl; before = tt; serve = tt; sorts = tt }
example-legal (suc zero) h = record { known = refl; before = tt; serve = tt; sorts = (refl, (refl, tt)) }
example-legal (suc (suc zero)) h = record { known = refl; before = (lit< tt, (lit< tt, tt)); serve = (refl, (refl, tt)); sorts = (refl, (refl, (refl, tt))) }
example-legal (suc (suc (suc zero))) h = record { known = refl; before = (lit< tt, tt); serve = (refl, tt); sorts = (refl, (refl, tt)) }
example-legal (suc (suc (suc (suc k)))) h = absurd (omega (arith, h))

abbrev pub example_folder : ℕ → ConstantFolder
example_folder x =
    record {
      call =
          record {
            given = record { ref_ptr = (0, 0); now = given };
            inputs = record { ref_ptr = (0, 0); now = 12 ∷ [] };
            replies = record { ref_ptr = (0, 0); now = [] };
            dumps = record { ref_ptr = (0, 0); now = [] };
            mode = record { minimise = false; terminate = false; one_query = false; reading = Rust };
            table = record { legal = example-legal; small = lit≤ tt; whole = lit≤ tt };
          };
      res = record { ref_ptr = (0, 0); ghost_name = 0; now = result x };
      scratch = record { ref_ptr = (0, 0); ghost_name = 0; now = scratch x };
      walk = walk;
      room = lit≤ tt;
      asks = lit≤ tt;
      made = lit≤ tt;
    }

-- what `write_result` asks of it
pub example-ended : (x : ℕ) → Ended (example_folder x) none_kept
example-ended x = record { known = known x; room = lit≤ tt }

pub example-model : ModelOf given (12 ∷ []) [] model
unfolding table_of firsts
example-model = record { nodes = refl; inputs = refl; replies = refl }

-- ---- sorts in the words of a result
pub sorts_can_fail : SortsCanFail
unfolding SortsCanFail sort_in
sorts_can_fail = (
  record { rows = row; replacements = pair },
  (λ h. eqb-false 2 11 refl (h.replacements 0 (lit< tt))),
  λ h. eqb-false 12 11 refl (h.rows 0 (lit< tt)),
)
  where
    row : (k : ℕ) → k < 2 → (node_of (words_with 11 11) k).sort ≡ (node_at byte_table k).sort
    row zero l = refl
    row (suc zero) l = refl
    row (suc (suc k)) l = absurd (omega arith)

    pair : (i : ℕ) → i < 1 → sort_in 2 (words_with 11 11) (get_or (replacements_on (words_with 11 11)) (2 + 2 * i) 0) ≡ (node_at byte_table (get_or (replacements_on (words_with 11 11)) (1 + 2 * i) 0)).sort
    pair zero l = refl
    pair (suc i) l = absurd (omega arith)
