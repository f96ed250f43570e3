-- Every refusal's number is one of Numbered's list: of the stages before the walk here, of the walk by Along; so number 0 is acceptance.
-- Assumes nothing.
use Prim.Native.Nat.{ℕ, zero, suc, ◌*◌, ◌<◌}
use mathlib.Core.Path.{◌≡◌, refl, sym, ap, ◌∙◌, subst}
use mathlib.Core.Bool.{Bool, true, false, not, ◌&&◌}
use mathlib.Core.Option.{Option, none, some}
use mathlib.Core.List.{List, [], ◌∷◌}
use native.Mathlib.Omega.{arith}
use lib.ListN.{length, drop}
use lib.Dec.{ltb, leb, eqb}
use Rattle.rules.specs.Lists.{All, all_true, member}
use Rattle.rules.specs.Refusal.{Refusal, Out, refused, done, ◌>>=◌, unless, first_of, unless_refused}
use Rattle.rules.specs.Table.{Row, Node, decode, node_at, row_width}
use Rattle.rules.specs.Model.{Model, Mode}
use Rattle.rules.specs.Check.{rule3, rule4, rule5, check_node, check_nodes, sequential_entry, bad_entry, check_sequentials, check_bads, check}
use Rattle.rules.specs.Whole.{Folded, fold, run}
use Rattle.rules.specs.KeptState.{begun}
use Rattle.rules.specs.Limits.{Limits, highest_mode}
use Rattle.rules.specs.Sections.{Sections, cut_section, cut_six, none_left, cut}
use Rattle.rules.specs.Names.{cut_names, counted_names, names_of}
use Rattle.rules.specs.Call.{Entry, impl, Call, Accepted, judge_mode, need_of, judge_room, model_from, brought, judge_and_fold, judge_cut, outcome, answer_of}
use Rattle.rules.specs.Text.{most_numbers, program_room, tokens, number_of, judge_token, numbers_from, with_mode, numbers, all_name_bytes, names_in_numbers, after_numbers, text_outcome}
use Rattle.rules.specs.Numbered.{reasons, IsReason, NineWithdrawn, Numbered, walk_reasons, WalkNumbers, RefusalNumbers}
use Rattle.rules.proofs.Base.{no}
use Rattle.rules.proofs.Along.{Steps, Along, fold_along}

-- ---- stages joined, and tests
then : {A B : Type 0} (m : Out A) (f : A → Out B) → Numbered m → ((x : A) → Numbered (f x)) → Numbered (m >>= f)
then (refused r) f h g = h
then (done x) f h g = g x

either : {A : Type 0} (b : Bool) (x y : Out A) → Numbered x → Numbered y → Numbered {A = A} (elim b [ true ↦ x | false ↦ y ])
either true x y h g = h
either false x y h g = g

-- ---- the walk: what holds of five numbers holds of each of its refusals
walk_refuses : (Q : ℕ → Type 0) → Q 8 → Q 10 → Q 11 → Q 13 → Q 14 → (m : Model) (how : Mode) (r : Refusal) → fold m how ≡ refused r → Q r.reason
walk_refuses Q memory wide reply always possibly m how r e =
    subst (Along m.table Q (λ σ σ'. Unit) (λ (f : Folded). f.state) (begun m).0) e (fold_along m how Q (λ σ σ'. Unit) steps)
  where
    steps : Steps m.table Q (λ σ σ'. Unit)
    steps =
        record {
          still = λ σ σ' e. tt;
          both = λ σ σ₁ σ₂ x y. tt;
          keeps = λ σ k. tt;
          replaces = λ σ k r i. tt;
          memory_input = memory;
          wide_input = wide;
          wrong_reply = reply;
          always_bad = always;
          possibly_bad = possibly;
        }

pub walk-numbers : WalkNumbers
unfolding WalkNumbers
walk-numbers = walk_refuses (λ n. member n walk_reasons ≡ true) refl refl refl refl refl

fold-numbered : (m : Model) (how : Mode) → Numbered (fold m how)
fold-numbered m how = go (fold m how) refl
  where
    go : (o : Out Folded) → fold m how ≡ o → Numbered o
    go (refused r) e = walk_refuses IsReason refl refl refl refl refl m how r e
    go (done f) e = tt

-- ---- refusals that may be none
MaybeNumbered : Option Refusal → Type 0
MaybeNumbered none = Unit
MaybeNumbered (some r) = IsReason r.reason

first-numbered : (os : List (Option Refusal)) → All MaybeNumbered os → MaybeNumbered (first_of os)
unfolding MaybeNumbered
first-numbered [] h = tt
first-numbered (some r ∷ os) h = h.0
first-numbered (none ∷ os) h = first-numbered os h.1

unless-numbered : (b : Bool) (n s p : ℕ) → IsReason n → MaybeNumbered (unless b n s p)
unfolding MaybeNumbered
unless-numbered true n s p h = tt
unless-numbered false n s p h = h

unless_refused-numbered : {A : Type 0} (o : Option Refusal) (m : Out A) → MaybeNumbered o → Numbered m → Numbered (unless_refused o m)
unfolding MaybeNumbered
unless_refused-numbered (some r) m h g = h
unless_refused-numbered none m h g = g

-- ---- 1, 2 and 12: mode, sections, names and room
mode-numbered : (mode : ℕ) → Numbered (judge_mode mode)
unfolding judge_mode
mode-numbered mode = either (ltb highest_mode mode) _ _ refl tt

section-numbered : (section limit width : ℕ) (ws : List ℕ) → Numbered (cut_section section limit width ws)
unfolding cut_section
section-numbered section limit width [] = refl
section-numbered section limit width (count ∷ ws) = either (ltb limit count) _ _ refl (either (ltb (length ws) (width * count)) _ _ refl tt)

six_numbered : (limits : Limits) (ws : List ℕ) → Numbered (cut_six limits ws)
unfolding cut_six
six_numbered limits ws =
    then (cut_section 1 limits.nodes row_width ws) _ (section-numbered 1 limits.nodes row_width ws) λ nodes.
    then (cut_section 2 limits.entries 1 nodes.rest) _ (section-numbered 2 limits.entries 1 nodes.rest) λ sequentials.
    then (cut_section 3 limits.entries 1 sequentials.rest) _ (section-numbered 3 limits.entries 1 sequentials.rest) λ initial.
    then (cut_section 4 limits.entries 1 initial.rest) _ (section-numbered 4 limits.entries 1 initial.rest) λ later.
    then (cut_section 5 limits.inputs 1 later.rest) _ (section-numbered 5 limits.inputs 1 later.rest) λ inputs.
    then (cut_section 6 limits.replies 1 inputs.rest) _ (section-numbered 6 limits.replies 1 inputs.rest) λ replies. tt

left-numbered : {A : Type 0} (section : ℕ) (x : A) (ws : List ℕ) → Numbered (none_left section x ws)
left-numbered section x [] = tt
left-numbered section x (w ∷ ws) = refl

cut-numbered : (limits : Limits) (ws : List ℕ) → Numbered (cut limits ws)
unfolding cut
cut-numbered limits ws = then (cut_six limits ws) _ (six_numbered limits ws) λ p. left-numbered 6 p.0 p.1

cut_names-numbered : (limits : Limits) (count : ℕ) (bs : List ℕ) → Numbered (cut_names limits count bs)
unfolding cut_names
cut_names-numbered limits zero bs = tt
cut_names-numbered limits (suc count) [] = refl
cut_names-numbered limits (suc count) (size ∷ bs) =
    either (ltb limits.name_length size) _ _ refl
    (either (ltb (length bs) size) _ _ refl (then (cut_names limits count (drop size bs)) _ (cut_names-numbered limits count (drop size bs)) λ p. tt))

counted-numbered : (limits : Limits) (count : ℕ) (bs : List ℕ) → Numbered (counted_names limits count bs)
unfolding counted_names
counted-numbered limits count bs =
    either (ltb limits.names count) _ _ refl (then (cut_names limits count bs) _ (cut_names-numbered limits count bs) λ p. left-numbered 7 p.0 p.1)

names-numbered : (limits : Limits) (bs : List ℕ) → Numbered (names_of limits bs)
unfolding names_of
names-numbered limits [] = refl
names-numbered limits (low ∷ []) = refl
names-numbered limits (low ∷ high ∷ bs) = counted-numbered limits _ bs

room-numbered : (words result_room scratch_room : ℕ) → Numbered (judge_room words result_room scratch_room)
unfolding judge_room
room-numbered words result_room scratch_room = either (ltb result_room words) _ _ refl (either (ltb scratch_room words) _ _ refl tt)

-- ---- 3 to 7: the table and its lists
nodes-numbered : (names : ℕ) (t : List Node) (k : ℕ) (rs : List Row) → MaybeNumbered (check_nodes names t k rs)
unfolding MaybeNumbered check_nodes
nodes-numbered names t k [] = tt
nodes-numbered names t k (r ∷ rs) =
    first-numbered (check_node names t k r ∷ check_nodes names t (suc k) rs ∷ []) (
      first-numbered (unless (rule3 names r) 3 1 k ∷ unless (rule4 k (decode r)) 4 1 k ∷ unless (rule5 t (decode r)) 5 1 k ∷ [])
          (unless-numbered (rule3 names r) 3 1 k refl, (unless-numbered (rule4 k (decode r)) 4 1 k refl, (unless-numbered (rule5 t (decode r)) 5 1 k refl, tt))),
      (nodes-numbered names t (suc k) rs, tt),
    )

sequentials-numbered : (t : List Node) (place : ℕ) (seen ss : List ℕ) → MaybeNumbered (check_sequentials t place seen ss)
unfolding MaybeNumbered check_sequentials
sequentials-numbered t place seen [] = tt
sequentials-numbered t place seen (s ∷ ss) =
    first-numbered (unless (all_true (sequential_entry t s)) 6 2 place ∷ unless (not (member (node_at t s).a seen)) 7 2 place ∷ check_sequentials t (suc place) ((node_at t s).a ∷ seen) ss ∷ [])
    (unless-numbered (all_true (sequential_entry t s)) 6 2 place refl, (unless-numbered (not (member (node_at t s).a seen)) 7 2 place refl, (sequentials-numbered t (suc place) ((node_at t s).a ∷ seen) ss, tt)))

entries-numbered : (t : List Node) (section place : ℕ) (bs : List ℕ) → MaybeNumbered (check_bads t section place bs)
unfolding MaybeNumbered check_bads
entries-numbered t section place [] = tt
entries-numbered t section place (b ∷ bs) =
    first-numbered (unless (all_true (bad_entry t b)) 6 section place ∷ check_bads t section (suc place) bs ∷ [])
    (unless-numbered (all_true (bad_entry t b)) 6 section place refl, (entries-numbered t section (suc place) bs, tt))

check-numbered : (names : ℕ) (rs : List Row) (m : Model) → MaybeNumbered (check names rs m)
unfolding check
check-numbered names rs m =
    let t : List Node = m.table in
    first-numbered (check_nodes names t 0 rs ∷ check_sequentials t 0 [] m.sequentials ∷ check_bads t 3 0 m.initial ∷ check_bads t 4 0 m.later ∷ [])
    (nodes-numbered names t 0 rs, (sequentials-numbered t 0 [] m.sequentials, (entries-numbered t 3 0 m.initial, (entries-numbered t 4 0 m.later, tt))))

-- ---- a call
judge_cut-numbered : (entry : Entry) (how : Mode) (s : Sections) (names : List (List ℕ)) (r c : ℕ) → Numbered (judge_cut entry how s names r c)
unfolding judge_cut judge_and_fold run
judge_cut-numbered entry how s names r c =
    let m : Model = model_from names (brought entry s) in
    then (judge_room (need_of s) r c) _ (room-numbered (need_of s) r c) λ u.
    then (run (length names) s.rows m how) _ (unless_refused-numbered (check (length names) s.rows m) (fold m how) (check-numbered (length names) s.rows m) (fold-numbered m how)) λ f. tt

pub outcome-numbered : (limits : Limits) (entry : Entry) (call : Call) → Numbered (outcome limits entry call)
unfolding outcome
outcome-numbered limits entry call =
    then (judge_mode call.mode) _ (mode-numbered call.mode) λ how.
    then (cut limits call.words) _ (cut-numbered limits call.words) λ s.
    then (names_of limits call.names) _ (names-numbered limits call.names) λ names.
    judge_cut-numbered entry how s names call.result_room call.scratch_room

-- ---- a text
token-numbered : (place : ℕ) (x : Option ℕ) → Numbered (judge_token place x)
unfolding judge_token
token-numbered place none = either (leb most_numbers place) _ _ refl refl
token-numbered place (some x) = either (leb most_numbers place) _ _ refl (either (eqb place 0 && ltb highest_mode x) _ _ refl tt)

numbers_from-numbered : (place : ℕ) (ts : List (List ℕ)) → Numbered (numbers_from place ts)
unfolding numbers_from
numbers_from-numbered place [] = tt
numbers_from-numbered place (t ∷ ts) =
    then (judge_token place (number_of t)) _ (token-numbered place (number_of t)) λ x. then (numbers_from (suc place) ts) _ (numbers_from-numbered (suc place) ts) λ xs. tt

with_mode-numbered : (xs : List ℕ) → Numbered (with_mode xs)
with_mode-numbered [] = refl
with_mode-numbered (mode ∷ xs) = tt

in_numbers_numbered : (limits : Limits) (xs : List ℕ) → Numbered (names_in_numbers limits xs)
unfolding names_in_numbers
in_numbers_numbered limits [] = refl
in_numbers_numbered limits (count ∷ xs) = then (counted_names limits count xs) _ (counted-numbered limits count xs) λ names. either (all_name_bytes names) _ _ tt refl

pub text_numbered : (limits : Limits) (bytes : List ℕ) → Numbered (text_outcome limits bytes)
unfolding text_outcome after_numbers numbers
text_numbered limits bytes =
    then (numbers bytes) _ (then (numbers_from 0 (tokens bytes)) with_mode (numbers_from-numbered 0 (tokens bytes)) with_mode-numbered) λ p.
    then (judge_mode p.0) _ (mode-numbered p.0) λ how.
    then (cut_six limits p.1) _ (six_numbered limits p.1) λ q.
    then (names_in_numbers limits q.1) _ (in_numbers_numbered limits q.1) λ names.
    judge_cut-numbered impl how q.0 names program_room program_room

-- ---- so every refusal's number is one of these, and an answer with number 0 is an acceptance
pub refusal-numbers : RefusalNumbers
unfolding RefusalNumbers
refusal-numbers = ((λ limits entry call r e. subst Numbered e (outcome-numbered limits entry call)), λ limits bytes r e. subst Numbered e (text_numbered limits bytes))

pub reason-positive : (n : ℕ) → IsReason n → 0 < n
reason-positive zero h = no h
reason-positive (suc n) h = omega arith

pub nine_withdrawn : NineWithdrawn
unfolding NineWithdrawn
nine_withdrawn n h e = no (ap (λ m. member m reasons) (sym e) ∙ h)

pub accepted-answer : (limits : Limits) (entry : Entry) (call : Call) → (answer_of (outcome limits entry call)).number ≡ 0 → (a : Accepted) × (outcome limits entry call ≡ done a)
accepted-answer limits entry call = go (outcome limits entry call) (outcome-numbered limits entry call)
  where
    go : (o : Out Accepted) → Numbered o → (answer_of o).number ≡ 0 → (a : Accepted) × (o ≡ done a)
    go (refused r) h e = absurd (omega (arith, reason-positive r.reason h, e))
    go (done a) h e = (a, refl)
