-- The stages of a text after its numbers: the first refusal, or the call.
--     shown_at           what was printed where there was room is shown
--     mode-refused, sections-refused, names-refused, call-is   the stages
--     prints, call_done, call_refused   the call that is made, and what is printed of its answer
--     works              what is printed of the words that the call leaves
-- Assumes nothing.
use Prim.Native.Nat.{ℕ, zero, suc, ◌+◌, ◌-◌, ◌<◌, ◌≤◌}
use mathlib.Core.Path.{◌≡◌, refl, sym, ap, ap₂, ◌∙◌, subst}
use mathlib.Core.Bool.{Bool, true, false}
use mathlib.Core.Option.{none, some}
use mathlib.Core.List.{List, [], ◌∷◌, ◌++◌}
use native.Mathlib.Omega.{arith}
use native.Mathlib.Nat.{sub-zero, zero-sub, suc-sub-suc, zero-add}
use lib.ListN.{length, take, drop, length-drop}
use lib.Seq.{take-nil, drop-drop}
use lib.Dec.{leb}
use borrow.Author.Tests.{leb-true, leb-false}
use Rattle.rules.specs.Refusal.{Refusal, Out, refused, done, refuse, ◌>>=◌}
use Rattle.rules.specs.Limits.{house}
use Rattle.rules.specs.Model.{Mode}
use Rattle.rules.specs.Sections.{Sections, cut_six, encode}
use Rattle.rules.specs.Names.{name_bytes}
use Rattle.rules.specs.Call.{Call, Accepted, Answer, impl, judge_mode, outcome, answer_of, result_of, left}
use Rattle.rules.specs.Text.{numbers, names_in_numbers, after_numbers, text_outcome, printed, program}
use Rattle.rules.proofs.Sections.{bind_done, never, same-done, through}
use Rattle.rules.proofs.Numbered.{accepted-answer}
use Rattle.rules.proofs.Text.{after-is-call, text_words}
use Rattle.std.specs.Prelude.{Option, Some, None, Result, Ok, Err}
use Rattle.text.specs.Splitting.{rest_of, bytes_in}
use Rattle.text.specs.Printing.{page, laid, accepted_text}
use Rattle.text.proofs.Laid.{laid-fits, laid_full}
use Rattle.text.proofs.Answer.{accepted-is}
use Rattle.tables.specs.Refusals.{refusal_of}
use Rattle.tables.specs.Judging.{refusal_in}
use Rattle.tables.proofs.JudgedLaws.{is-refused, is-done}
use Rattle.tables.proofs.RefusalLaws.{numbered}
use Rattle.tables.specs.declared.refusal.Refusal.{Refusal as Reason}
use Rattle.optimize.specs.Entries.{answered}
use Rattle.text_answer.specs.Answering.{Prints, Works, Shown, call_of, after_mode, answer_after}

-- ---- what was printed
pub shown_at : (entry exit bs : List ℕ) (place : Option ℕ) (r : ℕ) → place ≡ Some r → page exit place ≡ laid (page entry (Some 0)) bs → place ≡ Some (length bs) → Shown entry exit r bs
shown_at entry exit bs place r e l p = go (leb (length bs) (length entry)) refl
  where
    fits : length bs ≤ length entry → Shown entry exit r bs
    fits h =
        let f : page exit place ≡ page (take 0 entry ++ bs ++ drop (0 + length bs) entry) (Some (0 + length bs)) = l ∙ laid-fits bs entry 0 (omega arith) in
        record { bytes = ap (λ q. q.bytes) f ∙ ap (λ n. bs ++ drop n entry) (zero-add (length bs)); sized = cc }

    go : (b : Bool) → leb (length bs) (length entry) ≡ b → Shown entry exit r bs
    go true h = fits (leb-true (length bs) (length entry) h)
    go false h =
        let m : length entry < length bs = leb-false (length bs) (length entry) h in
        let f : place ≡ None = ap (λ q. q.place) (l ∙ laid_full bs entry 0 (omega arith) (omega arith)) in
        cc

pub shown_as : {entry exit : List ℕ} {r : ℕ} {s t : List ℕ} → s ≡ t → Shown entry exit r s → Shown entry exit r t
shown_as {entry} {exit} {r} e h = subst (λ t. Shown entry exit r t) e h

-- ---- the stages

bind_refused : {A B : Type 0} (m : Out A) (f : A → Out B) (r : Refusal) → m ≡ refused r → (m >>= f) ≡ refused r
bind_refused m f r e = ap (λ o. o >>= f) e

pub mode-refused : (mode : ℕ) (xs : List ℕ) (r : Refusal) → some r ≡ refusal_in (judge_mode mode) → after_numbers house (mode, xs) ≡ refused r
unfolding after_numbers
mode-refused mode xs r e = bind_refused (judge_mode mode) _ r (is-refused (judge_mode mode) r e)

module _ (mode : ℕ) (xs : List ℕ) (taken : none ≡ refusal_in (judge_mode mode)) where
  judged : (how : Mode) × (judge_mode mode ≡ done how)
  judged = is-done (judge_mode mode) taken

  rest-refused : (r : Refusal) → rest_of house xs ≡ refused r → cut_six house xs ≡ refused r
  rest-refused r e = go (cut_six house xs) e
    where
      go : (o : Out (Sections × List ℕ)) → (o >>= λ p. done p.1) ≡ refused r → o ≡ refused r
      go (refused q) f = cc
      go (done p) f = never (done p.1) r p.1 f refl

  pub sections-refused : (r : Refusal) → rest_of house xs ≡ refused r → after_numbers house (mode, xs) ≡ refused r
  unfolding after_numbers
  sections-refused r e = bind_done (judge_mode mode) _ judged.0 judged.1 ∙ bind_refused (cut_six house xs) _ r (rest-refused r e)

  -- the sections that were cut before the rest
  cut-before : (rest : List ℕ) → rest_of house xs ≡ done rest → (s : Sections) × (cut_six house xs ≡ done (s, rest))
  cut-before rest e = go (cut_six house xs) e
    where
      go : (o : Out (Sections × List ℕ)) → (o >>= λ p. done p.1) ≡ done rest → (s : Sections) × (o ≡ done (s, rest))
      go (refused q) f = never (refused q) q rest refl f
      go (done p) f = (p.0, ap (λ l. done (p.0, l)) (same-done p.1 rest f))

  names_in : (rest : List ℕ) (r : Refusal) → bytes_in house rest ≡ refused r → names_in_numbers house rest ≡ refused r
  names_in rest r e = go (names_in_numbers house rest) e
    where
      go : (o : Out (List (List ℕ))) → (o >>= λ names. done (name_bytes names)) ≡ refused r → o ≡ refused r
      go (refused q) f = cc
      go (done names) f = never (done (name_bytes names)) r (name_bytes names) f refl

  pub names-refused : (rest : List ℕ) (r : Refusal) → rest_of house xs ≡ done rest → bytes_in house rest ≡ refused r → after_numbers house (mode, xs) ≡ refused r
  unfolding after_numbers
  names-refused rest r e f =
      let c = cut-before rest e in
      bind_done (judge_mode mode) _ judged.0 judged.1 ∙ bind_done (cut_six house xs) _ (c.0, rest) c.1
      ∙ bind_refused (names_in_numbers house rest) _ r (names_in rest r f)

-- else it is the call: the words before the place where the sections end, and the names bytes
pub call-is : (mode : ℕ) (xs : List ℕ) → none ≡ refusal_in (judge_mode mode) → (end : ℕ) (names : List ℕ) → end ≤ length xs → rest_of house xs ≡ done (drop end xs) → bytes_in house (drop end xs) ≡ done names
    → after_numbers house (mode, xs) ≡ outcome house impl (call_of mode (take end xs) names)
call-is mode xs taken end names h e f =
    let c = cut-before mode xs taken (drop end xs) e in
    let size : length xs - length (drop end xs) ≡ end = omega (arith, length-drop end xs) in
    let words : encode c.0 ≡ take end xs = text_words house xs c.0 (drop end xs) c.1 ∙ ap (λ n. take n xs) size in
    through (names_in_numbers house (drop end xs)) (λ ns. done (name_bytes ns)) names f λ ns g k.
    after-is-call house mode xs c.0 (drop end xs) ns c.1 g
    ∙ ap₂ (λ w b. outcome house impl (call_of mode w b)) words (same-done (name_bytes ns) names k)

-- the numbers after the mode are a part of the array, and the names a part of that
pub names-part : (ws : List ℕ) (n end : ℕ) → take (n - (1 + end)) (drop (1 + end) ws) ≡ drop end (take (n - 1) (drop 1 ws))
names-part ws n end =
    let e : n - (1 + end) ≡ n - 1 - end = omega arith in
    ap (λ m. take m (drop (1 + end) ws)) e ∙ ap (λ l. take (n - 1 - end) l) (sym (drop-drop end 1 ws)) ∙ go end (n - 1) (drop 1 ws)
  where
    go : (end n : ℕ) (xs : List ℕ) → take (n - end) (drop end xs) ≡ drop end (take n xs)
    go zero n xs = ap (λ m. take m xs) (sub-zero n)
    go (suc end) zero xs = ap (λ m. take m (drop (suc end) xs)) (zero-sub (suc end))
    go (suc end) (suc n) [] = take-nil (suc n - suc end)
    go (suc end) (suc n) (x ∷ xs) = ap (λ m. take m (drop end xs)) (suc-sub-suc n end) ∙ go end n xs

-- ---- the call that is made of the numbers: words and names are fronts of two slices
module _ (mode : ℕ) (ws bs : List ℕ) (count end size : ℕ) (taken : none ≡ refusal_in (judge_mode mode)) (inside : end ≤ length (after_mode ws count))
    (cut : done (drop end (after_mode ws count)) ≡ rest_of house (after_mode ws count))
    (names : done (take size bs) ≡ bytes_in house (take (count - (1 + end)) (drop (1 + end) ws))) where
  called_as : outcome house impl (call_of mode (take end (after_mode ws count)) (take size bs)) ≡ after_numbers house (mode, after_mode ws count)
  called_as =
      let bytes : bytes_in house (drop end (after_mode ws count)) ≡ done (take size bs) = ap (bytes_in house) (sym (names-part ws count end)) ∙ sym names in
      sym (call-is mode (after_mode ws count) taken end (take size bs) inside (sym cut) bytes)

  pub prints : (r : Result ℕ Reason) (entry exit : List ℕ) → Prints refusal_of r entry exit (outcome house impl (call_of mode (take end (after_mode ws count)) (take size bs)))
      → Prints refusal_of r entry exit (after_numbers house (mode, after_mode ws count))
  prints r entry exit h = subst (λ o. Prints refusal_of r entry exit o) called_as h

-- ---- the call's answer: its words are printed as the outcome is, or the refusal is its own
module _ (c : Call) where
  pub call_done : (k : ℕ) (result : List ℕ) → answered (Ok k) ≡ (left house impl c).answer → result ≡ (left house impl c).result → accepted_text result ≡ printed (outcome house impl c)
  unfolding left
  call_done k result e f =
      let d = accepted-answer house impl c (sym (ap (λ a. a.number) e)) in
      ap accepted_text (f ∙ ap (result_of c.result_room) d.1) ∙ accepted-is d.0 _ ∙ ap printed (sym d.1)

  pub call_refused : (w : Reason) → answered (Err w) ≡ (left house impl c).answer → outcome house impl c ≡ refused (refusal_of w)
  unfolding left
  call_refused w e = go (outcome house impl c) e
    where
      go : (o : Out Accepted) → answered (Err w) ≡ answer_of o → o ≡ refused (refusal_of w)
      go (refused r) f = ap (λ (a : Answer). refuse a.number a.section a.position) (sym f)
      go (done a) f = let o : ⊥ = omega (arith, numbered w, ap (λ (a : Answer). a.number) f) in absurd o

-- ---- the words that the call leaves: both buffers have 4,096
module _ (mode : ℕ) (ws bs : List ℕ) (count end size room : ℕ) (taken : none ≡ refusal_in (judge_mode mode)) (full : room ≡ 4096) (inside : end ≤ length (after_mode ws count))
    (cut : done (drop end (after_mode ws count)) ≡ rest_of house (after_mode ws count))
    (names : done (take size bs) ≡ bytes_in house (take (count - (1 + end)) (drop (1 + end) ws))) where
  abbrev made : Call
  made = record { mode = mode; words = take end (after_mode ws count); names = take size bs; result_room = room; scratch_room = 4096 }

  made_as : outcome house impl made ≡ after_numbers house (mode, after_mode ws count)
  made_as =
      ap (λ n. outcome house impl (record { mode = mode; words = take end (after_mode ws count); names = take size bs; result_room = n; scratch_room = 4096 })) full
      ∙ called_as mode ws bs count end size taken inside cut names

  pub works : (r : Result ℕ Reason) (result : List ℕ) → answered r ≡ (left house impl made).answer → result ≡ (left house impl made).result
      → Works refusal_of r result (after_numbers house (mode, after_mode ws count))
  works (Ok k) result e f = call_done made k result e f ∙ ap printed made_as
  works (Err w) result e f = sym made_as ∙ call_refused made w e

pub ruleset stages = (mode-refused, sections-refused, names-refused, names-part, prints, works)

-- the answer to a whole text
pub text_program : (bytes : List ℕ) (read : Out (ℕ × List ℕ)) → read ≡ numbers bytes → printed (answer_after read) ≡ program bytes
unfolding text_outcome
text_program bytes read e = ap (λ o. printed (answer_after o)) e
