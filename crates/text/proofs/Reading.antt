-- Reading: a byte more of a chunk, for the reader and for the array beside it, and a whole text.
--     feed_next, fed_next   a chunk whose next byte is fed
--     put_at_front       a number that is put behind those before it
--     refused-stays      what is refused first stays, whatever follows
-- Assumes nothing.
use Prim.Native.Nat.{ℕ, ◌+◌, ◌<◌}
use mathlib.Core.Path.{◌≡◌, refl, sym, ap, ap₂, ◌∙◌}
use mathlib.Core.Bool.{Bool, true, false}
use mathlib.Core.List.{List, [], ◌∷◌, ◌++◌}
use mathlib.Core.Option.{some}
use native.Mathlib.Omega.{arith}
use native.Mathlib.Numerals.{add-one}
use lib.ListN.{length, get_or, set, take, drop}
use lib.Seq.{take-suc, length-take-le}
use Rattle.std.proofs.lemmas.List.{take-append-drop}
use Rattle.text.proofs.Front.{set_next}
use Rattle.rules.specs.Refusal.{Refusal, refused, done, ◌>>=◌}
use Rattle.rules.specs.Text.{separates, judge_token, with_mode, numbers}
use Rattle.rules.specs.Reader.{Reader, Token, between, within, junk, fresh, put, closed, step, feed, read_out}
use Rattle.rules.proofs.Reader.{feed_append, reader-is}
use Rattle.text.specs.Front.{on_front}
use Rattle.text.specs.Reading.{fed_in}

-- ---- a chunk, of which i bytes are fed
pub feed_next : (r s t : Reader) (bs : List ℕ) (i : ℕ) → s ≡ feed r (take i bs) → t ≡ step s (get_or bs i 0) → i < length bs → t ≡ feed r (take (i + 1) bs)
unfolding feed
feed_next r s t bs i e f h =
    f ∙ ap (λ q. step q (get_or bs i 0)) e ∙ sym (feed_append r (take i bs) (get_or bs i 0 ∷ [])) ∙ rw (add-one i, take-suc bs i 0 h)

-- ---- the array beside it
fed_append : (r : Reader) (bs : List ℕ) (b : ℕ) (ws : List ℕ) → fed_in r (bs ++ (b ∷ [])) ws ≡ on_front (step (feed r bs) b).read (fed_in r bs ws)
unfolding fed_in feed
fed_append r [] b ws = refl
fed_append r (c ∷ bs) b ws = fed_append (step r c) bs b (on_front (step r c).read ws)

pub fed_next : (r s : Reader) (bs ws vs us : List ℕ) (i : ℕ) → s ≡ feed r (take i bs) → vs ≡ fed_in r (take i bs) ws → us ≡ on_front (step s (get_or bs i 0)).read vs
    → i < length bs → us ≡ fed_in r (take (i + 1) bs) ws
fed_next r s bs ws vs us i e f g h =
    g ∙ ap₂ (λ q l. on_front (step q (get_or bs i 0)).read l) e f ∙ sym (fed_append r (take i bs) (get_or bs i 0) ws)
    ∙ ap (λ l. fed_in r l ws) (sym (take-suc bs i 0 h) ∙ ap (λ n. take n bs) (sym (add-one i)))

pub ruleset one_more = (feed_next, fed_next)

pub put_at_front : (ws : List ℕ) (i x : ℕ) → i < length ws → judge_token i (some x) ≡ done x → set ws i x ≡ on_front (put (some x) (take i ws)) ws
put_at_front ws i x l e =
    let n : length (take i ws) ≡ i = length-take-le i ws (omega arith) in
    let p : put (some x) (take i ws) ≡ done (take i ws ++ (x ∷ [])) =
    ap (λ k. judge_token k (some x) >>= λ y. done (take i ws ++ (y ∷ []))) n ∙ ap (λ o. o >>= λ y. done (take i ws ++ (y ∷ []))) e in
    ap (λ l. set l i x) (sym (take-append-drop i ws) ∙ ap (λ k. take i ws ++ drop k ws) (sym n)) ∙ set_next (take i ws) ws i x n l ∙ sym (ap (λ o. on_front o ws) p)

-- ---- after a refusal the rest of the bytes is ignored
closed-refused : (k : Token) (q : Refusal) → closed k (refused q) ≡ refused q
closed-refused between q = refl
closed-refused (within x) q = refl
closed-refused junk q = refl

step-refused : (k : Token) (q : Refusal) (b : ℕ) → (step (record { read = refused q; token = k }) b).read ≡ refused q
unfolding step
step-refused k q b = go (separates b) refl
  where
    go : (s : Bool) → separates b ≡ s → (step (record { read = refused q; token = k }) b).read ≡ refused q
    go true e = rw (e, step) (closed-refused k q)
    go false e = rw (e, step)

pub refused-stays : (r : Reader) (q : Refusal) (bs : List ℕ) → r.read ≡ refused q → read_out (feed r bs) ≡ refused q
unfolding feed
refused-stays r q [] e = ap (λ o. o >>= with_mode) (ap (λ o. closed r.token o) e ∙ closed-refused r.token q)
refused-stays r q (b ∷ bs) e =
    refused-stays (step r b) q bs (ap (λ o. (step (record { read = o; token = r.token }) b).read) e ∙ step-refused r.token q b)

-- a text from its first byte to its last
pub whole_text : (r t : Reader) (bs : List ℕ) → r ≡ fresh → t ≡ feed r bs → read_out t ≡ numbers bs
whole_text r t bs e f = ap read_out (f ∙ ap (λ r. feed r bs) e) ∙ reader-is bs
