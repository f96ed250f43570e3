-- Cutting the words: one section by its three outcomes, also at a place of a slice; and cutting is the inverse of encoding.
-- By cases on the two tests of a section; the six sections by the first-refusal bind, one after the other.
--     over, short, whole   the outcomes of one section; over_at, short_at, whole_at say them at a place of a slice
--     cut-encode, encode-cut   sections within the limits are what is cut from their words, and from no others
--     row-at             row k of the table as words of the slice
-- Assumes nothing.
use Prim.Native.Nat.{ℕ, zero, suc, ◌+◌, ◌*◌, ◌<◌, ◌≤◌}
use mathlib.Core.Path.{◌≡◌, refl, sym, ap, ap₂, ◌∙◌, subst}
use mathlib.Core.Logic.{◌↔◌}
use mathlib.Core.Bool.{Bool, true, false}
use mathlib.Core.List.{List, [], ◌∷◌, ◌++◌, append_assoc, append-nil}
use native.Mathlib.Omega.{arith}
use native.Mathlib.Numerals.{add-one}
use lib.ListN.{length, get_or, take, drop, length-append, length-drop, take-append-drop, drop_of_length-le}
use lib.Seq.{take_at, drop_at, drop-cons, drop-drop, drop-append-add, length-take-le}
use lib.Dec.{ltb}
use borrow.Author.Tests.{ltb-true, ltb-false, lt-ltb, le-ltb}
use Rattle.rules.specs.Refusal.{Refusal, Out, refused, done, refuse, ◌>>=◌}
use Rattle.rules.specs.Table.{Row, row_width}
use Rattle.rules.specs.Result.{listed}
use Rattle.rules.specs.Limits.{Limits}
use Rattle.rules.specs.Sections.{Sections, Part, cut_section, row_of, rows_of, cut_six, none_left, cut, row_words, rows_words, encode, Within}

-- ---- the bind
pub bind_done : {A B : Type 0} (m : Out A) (f : A → Out B) (x : A) → m ≡ done x → (m >>= f) ≡ f x
bind_done m f x e = ap (λ o. o >>= f) e

-- nothing is both refused and done
pub never : {A B : Type 0} (o : Out A) (r : Refusal) (x : A) → o ≡ refused r → o ≡ done x → B
never o r x p q = cc

pub same-done : {A : Type 0} (x y : A) → done x ≡ done y → x ≡ y
same-done x y e = cc

-- what a bind hands back came through both
pub through : {A B C : Type 0} (m : Out A) (f : A → Out B) (y : B) → (m >>= f) ≡ done y → ((x : A) → m ≡ done x → f x ≡ done y → C) → C
through (done x) f y e k = k x refl e
through (refused r) f y e k = never (refused r) r y refl e

-- ---- one section
pub missing : (section limit width : ℕ) → cut_section section limit width [] ≡ refuse 1 section 0
unfolding cut_section
missing section limit width = refl

module _ (section limit width count : ℕ) (ws : List ℕ) where
  -- "each 2 before 1": whatever follows the count
  pub over : limit < count → cut_section section limit width (count ∷ ws) ≡ refuse 2 section 0
  unfolding cut_section
  over h = rw (lt-ltb limit count h, cut_section)

  pub short : count ≤ limit → length ws < width * count → cut_section section limit width (count ∷ ws) ≡ refuse 1 section 0
  unfolding cut_section
  short h l = rw (le-ltb limit count h, cut_section, lt-ltb (length ws) (width * count) l)

  pub whole : count ≤ limit → width * count ≤ length ws
      → cut_section section limit width (count ∷ ws) ≡ done (record { count = count; content = take (width * count) ws; rest = drop (width * count) ws })
  unfolding cut_section
  whole h l = rw (le-ltb limit count h, cut_section, le-ltb (length ws) (width * count) l)

-- ---- a section that begins at a place of the words, as a function over a slice and an offset meets it
pub nothing_at : (section limit width : ℕ) (ws : List ℕ) (at : ℕ) → length ws ≤ at → cut_section section limit width (drop at ws) ≡ refuse 1 section 0
nothing_at section limit width ws at h = ap (λ l. cut_section section limit width l) (drop_of_length-le ws h) ∙ missing section limit width

module _ (section limit width : ℕ) (ws : List ℕ) (at : ℕ) (inside : at < length ws) where
  begins : cut_section section limit width (drop at ws) ≡ cut_section section limit width (get_or ws at 0 ∷ drop (suc at) ws)
  begins = ap (λ l. cut_section section limit width l) (drop-cons ws at 0 inside)

  pub over_at : limit < get_or ws at 0 → cut_section section limit width (drop at ws) ≡ refuse 2 section 0
  over_at h = begins ∙ over section limit width (get_or ws at 0) (drop (suc at) ws) h

  pub short_at : get_or ws at 0 ≤ limit → length ws < at + 1 + width * get_or ws at 0 → cut_section section limit width (drop at ws) ≡ refuse 1 section 0
  short_at h l = begins ∙ short section limit width (get_or ws at 0) (drop (suc at) ws) h (omega (arith, length-drop (suc at) ws))

  pub whole_at : get_or ws at 0 ≤ limit → at + 1 + width * get_or ws at 0 ≤ length ws
      → cut_section section limit width (drop at ws)
      ≡ done (record { count = get_or ws at 0; content = take (width * get_or ws at 0) (drop (at + 1) ws); rest = drop (at + 1 + width * get_or ws at 0) ws })
  whole_at h l =
      begins ∙ whole section limit width (get_or ws at 0) (drop (suc at) ws) h (omega (arith, length-drop (suc at) ws))
      ∙ rw (← add-one at, drop-drop (width * get_or ws at 0) (at + 1) ws)

-- the words of a section, and what follows, are cut apart again
pub section_back : (section limit width count : ℕ) (xs ws : List ℕ) → count ≤ limit → length xs ≡ width * count
    → cut_section section limit width (count ∷ xs ++ ws) ≡ done (record { count = count; content = xs; rest = ws })
section_back section limit width count xs ws h e =
    whole section limit width count (xs ++ ws) h (omega (arith, length-append xs ws))
    ∙ ap₂ (λ c r. done (record { count = count; content = c; rest = r })) (take_at xs ws (width * count) e) (drop_at xs ws (width * count) e)

-- what a section that is cut says of the words
pub record Parted (limit width : ℕ) (ws : List ℕ) (p : Part) : Type 0 where
  pub words : ws ≡ p.count ∷ p.content ++ p.rest
  pub within : p.count ≤ limit
  pub size : length p.content ≡ width * p.count

pub section-done : (section limit width : ℕ) (ws : List ℕ) (p : Part) → cut_section section limit width ws ≡ done p → Parted limit width ws p
section-done section limit width [] p e = never (cut_section section limit width []) _ p (missing section limit width) e
section-done section limit width (count ∷ ws) p e = first (ltb limit count) refl
  where
    second : count ≤ limit → (b : Bool) → ltb (length ws) (width * count) ≡ b → Parted limit width (count ∷ ws) p
    second h true l = never (cut_section section limit width (count ∷ ws)) _ p (short section limit width count ws h (ltb-true (length ws) (width * count) l)) e
    second h false l =
        let m : width * count ≤ length ws = ltb-false (length ws) (width * count) l in
        let q : ◌≡◌ {A = Part} (record { count = count; content = take (width * count) ws; rest = drop (width * count) ws }) p = cc (whole section limit width count ws h m) in
        subst (λ p. Parted limit width (count ∷ ws) p) q
        (record { words = ap (λ l. count ∷ l) (sym (take-append-drop (width * count) ws)); within = h; size = length-take-le (width * count) ws m })

    first : (b : Bool) → ltb limit count ≡ b → Parted limit width (count ∷ ws) p
    first true h = never (cut_section section limit width (count ∷ ws)) _ p (over section limit width count ws (ltb-true limit count h)) e
    first false h = second (ltb-false limit count h) (ltb (length ws) (width * count)) refl

-- ---- rows
pub rows_words-length : (rs : List Row) → length (rows_words rs) ≡ row_width * length rs
unfolding rows_words
rows_words-length [] = refl
rows_words-length (r ∷ rs) = omega (arith, rows_words-length rs)

pub rows_back : (rs : List Row) → rows_of (length rs) (rows_words rs) ≡ rs
unfolding rows_words rows_of
rows_back [] = refl
rows_back (r ∷ rs) = ap (λ l. r ∷ l) (rows_back rs)

pub rows-length : (n : ℕ) (ws : List ℕ) → length (rows_of n ws) ≡ n
unfolding rows_of
rows-length zero ws = refl
rows-length (suc n) ws = ap suc (rows-length n (drop row_width ws))

-- row k of so many begins at word 6k
pub row-of : (n : ℕ) (ws : List ℕ) (k : ℕ) (d : Row) → k < n → get_or (rows_of n ws) k d ≡ row_of (drop (row_width * k) ws)
unfolding rows_of
row-of zero ws k d h = absurd (omega arith)
row-of (suc n) ws zero d h = refl
row-of (suc n) ws (suc k) d h =
    let e : row_width + row_width * k ≡ row_width * suc k = omega arith in
    row-of n (drop row_width ws) k d (omega arith) ∙ ap row_of (drop-drop (row_width * k) row_width ws ∙ ap (λ i. drop i ws) e)

-- and it is read off words that go on after the rows
pub row_in : (rs : List Row) (ws : List ℕ) (k : ℕ) (d : Row) → k < length rs → get_or rs k d ≡ row_of (drop (row_width * k) (rows_words rs ++ ws))
unfolding rows_words
row_in [] ws k d h = absurd (omega arith)
row_in (r ∷ rs) ws zero d h = refl
row_in (r ∷ rs) ws (suc k) d h =
    let e : length (row_words r) + row_width * k ≡ row_width * suc k = omega arith in
    row_in rs ws k d (omega arith) ∙ ap row_of (sym (drop-append-add (row_words r) (rows_words rs ++ ws) (row_width * k)) ∙ ap (λ i. drop i (row_words r ++ (rows_words rs ++ ws))) e)

-- six words are a row's
six : (ws : List ℕ) → row_width ≤ length ws → row_words (row_of ws) ++ drop row_width ws ≡ ws
six [] h = absurd (omega arith)
six (a ∷ []) h = absurd (omega arith)
six (a ∷ b ∷ []) h = absurd (omega arith)
six (a ∷ b ∷ c ∷ []) h = absurd (omega arith)
six (a ∷ b ∷ c ∷ d ∷ []) h = absurd (omega arith)
six (a ∷ b ∷ c ∷ d ∷ e ∷ []) h = absurd (omega arith)
six (a ∷ b ∷ c ∷ d ∷ e ∷ f ∷ ws) h = refl

pub rows_words_lem : (n : ℕ) (ws : List ℕ) → length ws ≡ row_width * n → rows_words (rows_of n ws) ≡ ws
unfolding rows_of rows_words
rows_words_lem zero [] e = refl
rows_words_lem zero (w ∷ ws) e = absurd (omega arith)
rows_words_lem (suc n) ws e =
    ap (λ l. row_words (row_of ws) ++ l) (rows_words_lem n (drop row_width ws) (omega (arith, length-drop row_width ws))) ∙ six ws (omega arith)

-- ---- the six: sections within the limits are cut back from their words
module _ (limits : Limits) (s : Sections) (within : Within limits s) where
  list_back : (section limit : ℕ) (xs ws : List ℕ) → length xs ≤ limit
      → cut_section section limit 1 (listed xs ++ ws) ≡ done (record { count = length xs; content = xs; rest = ws })
  list_back section limit xs ws h = section_back section limit 1 (length xs) xs ws h (omega arith)

  pub cut_six-encode : (rest : List ℕ) → cut_six limits (encode s ++ rest) ≡ done (s, rest)
  unfolding cut_six encode
  cut_six-encode rest =
      let w₆ : List ℕ = listed s.replies ++ rest in
      let w₅ : List ℕ = listed s.inputs ++ w₆ in
      let w₄ : List ℕ = listed s.later ++ w₅ in
      let w₃ : List ℕ = listed s.initial ++ w₄ in
      let w₂ : List ℕ = listed s.sequentials ++ w₃ in
      let e : encode s ++ rest ≡ length s.rows ∷ rows_words s.rows ++ w₂ = simp append_assoc in
      ap (λ ws. cut_six limits ws) e
      ∙ bind_done _ _ _ (section_back 1 limits.nodes row_width (length s.rows) (rows_words s.rows) w₂ within.nodes (rows_words-length s.rows))
      ∙ bind_done _ _ _ (list_back 2 limits.entries s.sequentials w₃ within.sequentials)
      ∙ bind_done _ _ _ (list_back 3 limits.entries s.initial w₄ within.initial)
      ∙ bind_done _ _ _ (list_back 4 limits.entries s.later w₅ within.later)
      ∙ bind_done _ _ _ (list_back 5 limits.inputs s.inputs w₆ within.inputs)
      ∙ bind_done _ _ _ (list_back 6 limits.replies s.replies rest within.replies)
      ∙ ap (λ rs. done (record { rows = rs; sequentials = s.sequentials; initial = s.initial; later = s.later; inputs = s.inputs; replies = s.replies }, rest)) (rows_back s.rows)

  pub cut-encode : cut limits (encode s) ≡ done s
  unfolding cut
  cut-encode = ap (λ ws. cut limits ws) (sym (append-nil (encode s))) ∙ bind_done _ _ _ (cut_six-encode [])

-- ---- and nothing else is: what is cut encodes to the words, and its counts are within the limits
listed-part : (limit : ℕ) (vs : List ℕ) (p : Part) → Parted limit 1 vs p → listed p.content ++ p.rest ≡ vs
listed-part limit vs p h =
    let e : length p.content ≡ p.count = omega (arith, h.size) in
    ap (λ c. c ∷ p.content ++ p.rest) e ∙ sym h.words

abbrev parts : Part → Part → Part → Part → Part → Part → Sections
parts p₁ p₂ p₃ p₄ p₅ p₆ =
    record { rows = rows_of p₁.count p₁.content; sequentials = p₂.content; initial = p₃.content; later = p₄.content; inputs = p₅.content; replies = p₆.content }

module _ (limits : Limits) (ws : List ℕ) (p₁ p₂ p₃ p₄ p₅ p₆ : Part)
    (h₁ : Parted limits.nodes row_width ws p₁) (h₂ : Parted limits.entries 1 p₁.rest p₂) (h₃ : Parted limits.entries 1 p₂.rest p₃)
    (h₄ : Parted limits.entries 1 p₃.rest p₄) (h₅ : Parted limits.inputs 1 p₄.rest p₅) (h₆ : Parted limits.replies 1 p₅.rest p₆) where
  parts-words : encode (parts p₁ p₂ p₃ p₄ p₅ p₆) ++ p₆.rest ≡ ws
  unfolding encode
  parts-words =
      simp append_assoc
      (rw (
        listed-part _ _ p₆ h₆,
        listed-part _ _ p₅ h₅,
        listed-part _ _ p₄ h₄,
        listed-part _ _ p₃ h₃,
        listed-part _ _ p₂ h₂,
        rows-length p₁.count p₁.content,
        rows_words_lem p₁.count p₁.content h₁.size,
      ) (sym h₁.words))

  parts_within : Within limits (parts p₁ p₂ p₃ p₄ p₅ p₆)
  parts_within =
      record {
        nodes = omega (arith, h₁.within, rows-length p₁.count p₁.content);
        sequentials = omega (arith, h₂.within, h₂.size);
        initial = omega (arith, h₃.within, h₃.size);
        later = omega (arith, h₄.within, h₄.size);
        inputs = omega (arith, h₅.within, h₅.size);
        replies = omega (arith, h₆.within, h₆.size);
      }

module _ (limits : Limits) (ws : List ℕ) where
  abbrev Encodes : Sections × List ℕ → Type 0
  Encodes q = (encode q.0 ++ q.1 ≡ ws) × Within limits q.0

  pub encode-cut_six : (q : Sections × List ℕ) → cut_six limits ws ≡ done q → (encode q.0 ++ q.1 ≡ ws) × Within limits q.0
  unfolding cut_six
  encode-cut_six q e =
      through (cut_section 1 limits.nodes row_width ws) _ q e λ p₁ e₁ f₁.
      through (cut_section 2 limits.entries 1 p₁.rest) _ q f₁ λ p₂ e₂ f₂.
      through (cut_section 3 limits.entries 1 p₂.rest) _ q f₂ λ p₃ e₃ f₃.
      through (cut_section 4 limits.entries 1 p₃.rest) _ q f₃ λ p₄ e₄ f₄.
      through (cut_section 5 limits.inputs 1 p₄.rest) _ q f₄ λ p₅ e₅ f₅.
      through (cut_section 6 limits.replies 1 p₅.rest) _ q f₅ λ p₆ e₆ f₆.
      let h₁ = section-done 1 limits.nodes row_width ws p₁ e₁ in
      let h₂ = section-done 2 limits.entries 1 p₁.rest p₂ e₂ in
      let h₃ = section-done 3 limits.entries 1 p₂.rest p₃ e₃ in
      let h₄ = section-done 4 limits.entries 1 p₃.rest p₄ e₄ in
      let h₅ = section-done 5 limits.inputs 1 p₄.rest p₅ e₅ in
      let h₆ = section-done 6 limits.replies 1 p₅.rest p₆ e₆ in
      subst Encodes (same-done (parts p₁ p₂ p₃ p₄ p₅ p₆, p₆.rest) q f₆)
      (parts-words limits ws p₁ p₂ p₃ p₄ p₅ p₆ h₁ h₂ h₃ h₄ h₅ h₆, parts_within limits ws p₁ p₂ p₃ p₄ p₅ p₆ h₁ h₂ h₃ h₄ h₅ h₆)

  nothing_left : (s t : Sections) (rest : List ℕ) → none_left 6 s rest ≡ done t → (s ≡ t) × (rest ≡ [])
  nothing_left s t [] e = (same-done s t e, refl)
  nothing_left s t (w ∷ rest) e = never (refuse 1 6 0) _ t refl e

  pub encode-cut : (s : Sections) → cut limits ws ≡ done s → (encode s ≡ ws) × Within limits s
  unfolding cut
  encode-cut s e =
      through (cut_six limits ws) _ s e λ q c f.
      let (p, r) = nothing_left q.0 s q.1 f in
      let (w, i) = encode-cut_six q c in
      (ap encode (sym p) ∙ sym (append-nil (encode q.0)) ∙ ap (λ l. encode q.0 ++ l) (sym r) ∙ w, subst (λ t. Within limits t) p i)

-- row k of the table in the words: its six words stand at 6k + 1
pub row-at : (limits : Limits) (ws : List ℕ) (s : Sections) → cut limits ws ≡ done s → (k : ℕ) (d : Row) → k < length s.rows → get_or s.rows k d ≡ row_of (drop (row_width * k + 1) ws)
unfolding encode
row-at limits ws s e k d h =
    let w : encode s ≡ ws = (encode-cut limits ws s e).0 in
    let after : List ℕ = listed s.sequentials ++ (listed s.initial ++ (listed s.later ++ (listed s.inputs ++ listed s.replies))) in
    row_in s.rows after k d h ∙ rw (add-one (row_width * k), ← w)

-- the words that are not refused are those of sections within the limits, and of one only
pub cut_exact : (limits : Limits) (ws : List ℕ) (s : Sections) → (cut limits ws ≡ done s) ↔ ((encode s ≡ ws) × Within limits s)
cut_exact limits ws s = ((λ e. encode-cut limits ws s e), λ h. ap (λ l. cut limits l) (sym h.0) ∙ cut-encode limits s h.1)

-- what cutting one section out of a slice is proved by
pub ruleset one_section = (nothing_at, over_at, short_at, whole_at)
