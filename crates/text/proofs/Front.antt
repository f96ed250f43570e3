-- A byte or a number more at the front of a lent array.
-- Assumes nothing.
use Prim.Native.Nat.{ℕ, suc, ◌<◌}
use mathlib.Core.Path.{◌≡◌, sym, ap, ◌∙◌}
use mathlib.Core.List.{List, [], ◌∷◌, ◌++◌, append_assoc}
use native.Mathlib.Omega.{arith}
use lib.ListN.{length, get_or, set, drop, length-append}
use lib.Seq.{drop-cons}
use Rattle.std.proofs.lemmas.List.{set_at}
use Rattle.rules.specs.Refusal.{done}
use Rattle.text.specs.Front.{on_front}

pub set_next : (xs ws : List ℕ) (n v : ℕ) → length xs ≡ n → n < length ws → set (on_front (done xs) ws) n v ≡ on_front (done (xs ++ (v ∷ []))) ws
set_next xs ws n v e h =
    let m : suc n ≡ length (xs ++ (v ∷ [])) = omega (arith, length-append xs (v ∷ []), e) in
    ap (λ k. set (xs ++ drop k ws) n v) e ∙ ap (λ l. set (xs ++ l) n v) (drop-cons ws n 0 h) ∙ set_at xs (get_or ws n 0) (drop (suc n) ws) v n e
    ∙ sym (append_assoc xs (v ∷ []) (drop (suc n) ws)) ∙ ap (λ k. (xs ++ (v ∷ [])) ++ drop k ws) m
