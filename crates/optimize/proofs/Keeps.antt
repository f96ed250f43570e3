-- What the walk keeps: a done visit leaves the buffers laid as they were, with marks from the next node on unchanged.
-- Assumes nothing.
use Prim.Native.Nat.{ℕ, zero, suc, ◌+◌, ◌<◌, ◌≤◌}
use mathlib.Core.Path.{◌≡◌, refl, ap, sym, ◌∙◌, subst}
use mathlib.Core.Bool.{true}
use mathlib.Core.List.{List, []}
use native.Mathlib.Omega.{arith}
use lib.ListN.{length}
use lib.Dec.{eqb, lit<}
use Rattle.rules.specs.Model.{Mode}
use Rattle.rules.specs.Lists.{put}
use Rattle.rules.specs.Refusal.{done}
use Rattle.rules.specs.Check.{known_sort}
use Rattle.rules.specs.Table.{row_width, Kind, Write, Node, kind_of, kind_code, with, is}
use Rattle.rules.specs.Legal.{AllLegal}
use Rattle.rules.specs.Room.{due, unpaid}
use Rattle.rules.specs.Walk.{St, Mark, fresh, Held}
use Rattle.rules.specs.Fine.{fee}
use Rattle.rules.proofs.Base.{If, no, put_all}
use Rattle.rules.proofs.Shape.{points}
use Rattle.rules.proofs.Went.{Visited}
use Rattle.rules.proofs.Structure.{visit_went}
use Rattle.rules.proofs.Walked.{Walked, went_walked}
use Rattle.std.specs.Prelude.{Result, Ok, Err, OnOk}
use Rattle.tables.specs.declared.refusal.Refusal.{Refusal}
use Rattle.optimize.specs.declared.walk.Walk.{Walk}
use Rattle.optimize.specs.declared.call.Call.{Call}
use Rattle.optimize.specs.declared.folder.ConstantFolder.{ConstantFolder}
use Rattle.optimize.specs.declared.form.Form.{Form}
use Rattle.optimize.specs.declared.form.Pair.{Pair}
use Rattle.optimize.specs.Bounds.{count_of}
use Rattle.rules.specs.Sections.{word_of}
use Rattle.optimize.specs.View.{node_of, Coded, row_of, RowKept, table_of, ways_in, rows_of, mark_of, question_of, view}
use Rattle.optimize.specs.Folding.{Falls}
use Rattle.optimize.specs.Process.{form_of, form_at, visit_of, Before}
use Rattle.optimize.specs.Laid.{Laid, Room}
use Rattle.optimize.specs.Bads.{Spare, SpareIn}
use Rattle.optimize.specs.Call.{mode_is, ways_of}
use Rattle.optimize.specs.Folder.{given_in, count_in, rows_in, seen, Keeps, LaidIn, RoomIn, FreshIn, FreshAs}
use Rattle.optimize.specs.Clauses.{PutsRow, Walks}
use Rattle.optimize.proofs.Views.{split, firsts-length, row_below, coded-sort}
use Rattle.optimize.proofs.Steps.{table-length}
use Rattle.optimize.proofs.Forms.{before-is}
use Rattle.optimize.proofs.Walks.{came-done, node_at_lem}

-- ---- what a fresh node may spend
unpaid-fresh : (w : ℕ → ℕ) (c : ℕ) (f : ℕ → Mark) (k : ℕ) → k < c → f k ≡ fresh → w k ≤ unpaid w c f
unfolding unpaid
unpaid-fresh w zero f k l e = absurd (omega arith)
unpaid-fresh w (suc c) f k l e =
    split k c (λ h. omega (arith, unpaid-fresh w c f k h e))
    (λ h.
    let q : c ≡ k = omega arith in
    let d : due (w c) (f c) ≡ w k = ap (λ z. due (w z) (f z)) q ∙ ap (due (w k)) e in
    omega arith)

module _ (g dumps inputs replies : List ℕ) (mode : Mode) (reserve : ℕ) (R S : List ℕ) (w : Walk) (legal : AllLegal (table_of g)) (l : Laid g dumps inputs replies mode reserve R S w) where
  passed-small : w.passed ≤ w.looked
  unfolding view
  passed-small = l.fine.fair

  pub roomy : (k : ℕ) → k < count_of g → mark_of (count_of g) S k ≡ fresh → Room g S w k
  roomy k h e =
      record {
        inside = h;
        few = omega (arith, l.few, unpaid-fresh (λ i. 1) (count_of g) (mark_of (count_of g) S) k h e);
        asks = omega (arith, l.asks, unpaid-fresh (λ i. 3) (count_of g) (mark_of (count_of g) S) k h e);
        looks = omega (arith, l.looks);
        passed = omega (arith, l.looks, passed-small);
      }

  pub falls : Falls (count_of g) w.made R
  unfolding view
  falls =
      let p = points (table_of g) (rows_of (count_of g) w.made R) w.made (mark_of (count_of g) S) l.fine.shape legal in
      record { memory = λ m b e i. p.memory m e (omega (arith, table-length g)) }

  pub row_kept : (k : ℕ) → k < count_of g → RowKept g R k
  unfolding view
  row_kept k b =
      let a = l.fine.shape.alike k (omega (arith, table-length g)) in
      let r : row_of R k ≡ rows_of (count_of g) w.made R k = sym (row_below (count_of g) w.made R k b) in
      let n = node_at_lem g k b in
      record {
        kind = ap (λ (nd : Node). nd.kind) r ∙ a.kind ∙ ap (λ (nd : Node). nd.kind) n;
        sort = ap (λ (nd : Node). nd.sort) r ∙ a.sort ∙ ap (λ (nd : Node). nd.sort) n;
        name = ap (λ (nd : Node). nd.name) r ∙ a.name ∙ ap (λ (nd : Node). nd.name) n;
      }

  -- a legal node has a sort, so its row in the buffer still has the code of a kind
  pub codes_known : (k : ℕ) → k < count_of g → Coded (word_of R k 0)
  codes_known k b =
      let sorted : known_sort (word_of g k 1) ≡ true =
      ap (λ (nd : Node). known_sort nd.sort) (sym (node_at_lem g k b)) ∙ (legal k (omega (arith, table-length g))).known in
      coded-sort (word_of R k 0) (word_of R k 1) (λ e. no (sym (ap known_sort (sym (row_kept k b).sort ∙ e)) ∙ sorted))

-- a node of the form of two operands is no Write
two-no-write : (pair : Pair) (K : Kind) (b : ℕ) → Form.Two pair ≡ form_of K b → eqb (kind_code K) 3 ≡ true → ⊥
unfolding form_of
two-no-write pair K b e q =
    let d : K ≡ Write = Rattle.rules.proofs.Base.is-kind Write (record { kind = K; sort = 0; a = 0; b = 0; c = 0; name = 0 }) q in
    let z : Form.Two pair ≡ form_of Write b = e ∙ ap (λ J. form_of J b) d in
    cc

-- ---- from one state of the buffers to a later one, with a questions more than the marked nodes paid
module _ (g dumps inputs replies : List ℕ) (mode : Mode) (R S Q T : List ℕ) (w w' : Walk) (h h' : List Held) (legal : AllLegal (table_of g)) (a : ℕ)
    (v : Walked (table_of g) (ways_in dumps mode replies) inputs replies legal a (view h g inputs replies R S w) (view h' g inputs replies Q T w')) where
  few_on : w'.made + unpaid (λ k. 1) (count_of g) (mark_of (count_of g) T) ≤ w.made + unpaid (λ k. 1) (count_of g) (mark_of (count_of g) S)
  unfolding view
  few_on = rw (table-length g) at v.few

  asks_on : w'.asked + unpaid (λ k. 3) (count_of g) (mark_of (count_of g) T) ≤ w.asked + unpaid (λ k. 3) (count_of g) (mark_of (count_of g) S) + a
  unfolding view
  asks_on =
      let s = rw (table-length g) at v.asks in
      omega (arith, s, firsts-length w.asked (question_of (count_of g) S), firsts-length w'.asked (question_of (count_of g) T))

  looks_on : w'.looked + unpaid (fee (table_of g)) (count_of g) (mark_of (count_of g) T) ≤ w.looked + unpaid (fee (table_of g)) (count_of g) (mark_of (count_of g) S)
  unfolding view
  looks_on =
      let s = v.looks in
      let q : (m : ℕ → Mark) → unpaid (fee (table_of g)) (length (table_of g)) m ≡ unpaid (fee (table_of g)) (count_of g) m = λ m. ap (λ n. unpaid (fee (table_of g)) n m) (table-length g) in
      omega (arith, s, q (mark_of (count_of g) T), q (mark_of (count_of g) S))

  pub spare_on : (reserve c : ℕ) → length T ≡ length S → Spare reserve g S w (c + a) → Spare reserve g T w' c
  spare_on reserve c q s = omega (arith, s, q, asks_on)

  pub laid_on : (reserve : ℕ) → length T ≡ length S → Spare reserve g S w a
      → Laid g dumps inputs replies mode reserve R S w → Laid g dumps inputs replies mode reserve Q T w'
  laid_on reserve q s l =
      record {
        held = h';
        fine = v.fine;
        few = omega (arith, l.few, few_on);
        asks = omega (arith, s, q, asks_on);
        looks = omega (arith, l.looks, looks_on);
      }

-- ---- the folder from one visit to the next
-- what lies in f', by another call
abbrev pub seen_by : Call → List Held → ConstantFolder → St
seen_by c h f' = view h c.given.now c.inputs.now c.replies.now f'.res.now f'.scratch.now f'.walk

module _ (f f' : ConstantFolder) (e : Keeps f f') (l : LaidIn f) (a : ℕ) (h' : List Held)
    (v : Walked (table_of (given_in f)) (ways_of f.call) f.call.inputs.now f.call.replies.now f.call.table.legal a (seen l.held f) (seen_by f.call h' f')) where
  abbrev SpareBy : Call → ℕ → Type 0
  SpareBy c d = Spare 0 c.given.now f'.scratch.now f'.walk d

  abbrev LaidBy : Call → Type 0
  LaidBy c = Laid c.given.now c.dumps.now c.inputs.now c.replies.now (mode_is c.mode) 0 f'.res.now f'.scratch.now f'.walk

  pub spare_after : (c : ℕ) → SpareIn f (c + a) → SpareIn f' c
  spare_after c s =
      subst (λ d. SpareBy d c) (sym e.call)
      (spare_on f.call.given.now f.call.dumps.now f.call.inputs.now f.call.replies.now (mode_is f.call.mode)
      f.res.now f.scratch.now f'.res.now f'.scratch.now f.walk f'.walk l.held h' f.call.table.legal a v 0 c e.scratch_length s)

  pub laid_after : SpareIn f a → LaidIn f'
  laid_after s =
      subst LaidBy (sym e.call)
      (laid_on f.call.given.now f.call.dumps.now f.call.inputs.now f.call.replies.now (mode_is f.call.mode)
      f.res.now f.scratch.now f'.res.now f'.scratch.now f.walk f'.walk l.held h' f.call.table.legal a v 0 e.scratch_length s l)

module _ (f f' : ConstantFolder) (k a : ℕ) (e : Keeps f f') (l : LaidIn f) (i : k < count_in f) (v : Walks f f' (Ok a) (k + 1) (λ g ways vis σ. vis σ k)) where
  -- the rules' visit from the states that took an input before
  visited : (h' : List Held) × (visit_of (given_in f) (ways_of f.call) (k + 1) (seen l.held f) k ≡ done (seen_by f.call h' f', a))
  visited =
      let m = v.walked l.held (k + 1) (omega arith) in
      (m.held, came-done m ∙ ap (λ c. done (seen_by c m.held f', a)) e.call)

  came : Visited (table_of (given_in f)) (ways_of f.call) f.call.inputs.now f.call.replies.now k (seen l.held f) (seen_by f.call visited.0 f', a)
  came =
      subst (If (Visited (table_of (given_in f)) (ways_of f.call) f.call.inputs.now f.call.replies.now k (seen l.held f))) visited.1
      (visit_went (table_of (given_in f)) (ways_of f.call) f.call.inputs.now f.call.replies.now f.call.table.legal (k + 1) (seen l.held f) k (omega (arith, table-length (given_in f))) l.fine)

  walked : Walked (table_of (given_in f)) (ways_of f.call) f.call.inputs.now f.call.replies.now f.call.table.legal 0 (seen l.held f) (seen_by f.call visited.0 f')
  walked = went_walked (table_of (given_in f)) (ways_of f.call) f.call.inputs.now f.call.replies.now f.call.table.legal (suc k) 0 (seen l.held f) (seen_by f.call visited.0 f') came.went

  -- room for more questions stays
  pub spare-visited : (c : ℕ) → SpareIn f c → SpareIn f' c
  spare-visited c s = spare_after f f' e l 0 visited.0 walked c (omega (arith, s))

  -- a visit that is done leaves the folder laid, and the marks after its node as they were
  pub laid-after : LaidIn f'
  laid-after = laid_after f f' e l 0 visited.0 walked (omega (arith, l.asks))

  still : (j : ℕ) → k < j → mark_of (count_in f) f'.scratch.now j ≡ mark_of (count_in f) f.scratch.now j
  unfolding view
  still j b = came.went.above j (omega arith)

  pub ready-after : (n : ℕ) → k < n → FreshIn f n → FreshIn f' n
  ready-after n b r =
      let same : count_in f' ≡ count_in f = ap (λ (c : Call). count_of c.given.now) e.call in
      record {
        laid = laid-after;
        inside = omega (arith, same, r.inside);
        fresh = ap (λ c. mark_of c f'.scratch.now n) same
            ∙ still n b ∙ r.fresh;
      }

-- ---- at a node still to be visited
module _ (f : ConstantFolder) (n : ℕ) (r : FreshIn f n) where
  pub ready-room : RoomIn f n
  ready-room = roomy (given_in f) f.call.dumps.now f.call.inputs.now f.call.replies.now (mode_is f.call.mode) 0 f.res.now f.scratch.now f.walk f.call.table.legal r.laid n r.inside r.fresh

  pub ready-falls : Falls (count_in f) f.walk.made f.res.now
  ready-falls = falls (given_in f) f.call.dumps.now f.call.inputs.now f.call.replies.now (mode_is f.call.mode) 0 f.res.now f.scratch.now f.walk f.call.table.legal r.laid

  pub ready-kept : RowKept (given_in f) f.res.now n
  ready-kept = row_kept (given_in f) f.call.dumps.now f.call.inputs.now f.call.replies.now (mode_is f.call.mode) 0 f.res.now f.scratch.now f.walk f.call.table.legal r.laid n r.inside

-- the row of a node of two operands put: the Writes are as they were
pub row-falls : (f f' : ConstantFolder) → Keeps f f' → (pair : Pair) (n x y c : ℕ) → Form.Two pair ≡ form_at (given_in f) n → PutsRow f f' n x y c
    → Falls (count_in f) f.walk.made f.res.now → Falls (count_in f') f'.walk.made f'.res.now
unfolding view
row-falls f f' e pair n x y c form p falls =
    let put_row : Node = with (node_of (given_in f) n) x y c in
    let same : rows_in f' ≡ put (rows_in f) n put_row = ap (λ (σ : St). σ.rows) (p []) in
    let count : count_in f' ≡ count_in f = ap (λ (d : Call). count_of d.given.now) e.call in
    let none : is Write put_row ≡ true → ⊥ = two-no-write pair (kind_of (word_of (given_in f) n 0)) (word_of (given_in f) n 3) form in
    let all : (m : ℕ) → m < count_in f → is Write (put (rows_in f) n put_row m) ≡ true → (put (rows_in f) n put_row m).a < count_in f → (put (rows_in f) n put_row m).a < m =
    put_all (λ m (nd : Node). m < count_in f → is Write nd ≡ true → nd.a < count_in f → nd.a < m) (rows_in f) n put_row (λ _ q. absurd (none q)) falls.memory in
    record {
      memory = λ m b. subst (λ (r : ℕ → Node). is Write (r m) ≡ true → (r m).a < count_in f' → (r m).a < m) (sym same) (λ q l. all m (omega (arith, b, count)) q (omega (arith, l, count)));
    }

-- its operands stand before it
pub operands-before : {f : ConstantFolder} {n : ℕ} {F : Form} → FreshAs f n F → Before F (given_in f) n
operands-before {f} {n} {F} a = before-is (given_in f) n f.call.table.legal a.ready.inside F a.form

-- what the visit of its first operand asks
abbrev First : Form → List ℕ → ℕ → Type 0
First Form.Constant g n = Unit
First Form.Given g n = Unit
First Form.Free g n = Unit
First (Form.One rule) g n = word_of g n 2 < n
First (Form.Two pair) g n = word_of g n 2 < n
First Form.Three g n = word_of g n 2 < n
First Form.Choice g n = word_of g n 2 < n
First Form.Step g n = word_of g n 2 < n

first-before : (F : Form) (g : List ℕ) (n : ℕ) → Before F g n → First F g n
first-before Form.Constant g n b = tt
first-before Form.Given g n b = tt
first-before Form.Free g n b = tt
first-before (Form.One rule) g n b = b
first-before (Form.Two pair) g n b = b.0
first-before Form.Three g n b = b.0
first-before Form.Choice g n b = b.0
first-before Form.Step g n b = b.0

pub first-operand : {f : ConstantFolder} {n : ℕ} {F : Form} → FreshAs f n F → FreshIn f n × ((2 < row_width) × First F (given_in f) n)
first-operand {f} {n} {F} a = (a.ready, (lit< tt, first-before F (given_in f) n (operands-before a)))

-- the same of a folder of the same call
pub before-on : {f f' : ConstantFolder} {n : ℕ} (k : ℕ) → Keeps f f' → word_of (given_in f) n k < n → word_of (given_in f') n k < n
before-on {f} {f'} {n} k e b = subst (λ (c : Call). word_of c.given.now n k < n) (sym e.call) b

-- what an answer leaves where it is one
pub on-ok : (r : Result ℕ Refusal) (P : Type 0) → ((a : ℕ) → r ≡ Ok a → P) → OnOk r P
on-ok (Ok a) P h = h a refl
on-ok (Err z) P h = tt

-- ---- one step after another
pub keeps_none : (f : ConstantFolder) → Keeps f f
keeps_none f = record { call = refl; res = refl; scratch = refl; res_length = refl; scratch_length = refl }

pub keeps_then : (f f₁ f₂ : ConstantFolder) → Keeps f f₁ → Keeps f₁ f₂ → Keeps f f₂
keeps_then f f₁ f₂ a b =
    record {
      call = b.call ∙ a.call;
      res = b.res ∙ a.res;
      scratch = b.scratch ∙ a.scratch;
      res_length = b.res_length ∙ a.res_length;
      scratch_length = b.scratch_length ∙ a.scratch_length;
    }
