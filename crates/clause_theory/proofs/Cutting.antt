-- A text has these tokens exactly if it is cut into them.
use mathlib.Core.Path.{◌≡◌, refl, sym, ◌∙◌, ap, ap₂, subst}
use mathlib.Core.Logic.{◌⊎◌, inl, inr, ⊎_elim, ◌↔◌}
use mathlib.Core.Bool.{Bool, true, false, not, cond, ◌&&◌, ◌||◌, or-true}
use mathlib.Core.List.{List, [], ◌∷◌, ◌++◌, nil≢cons, head-eq_of_cons-eq, tail-eq_of_cons-eq}
use Prim.Native.Nat.{ℕ, zero, suc, ◌+◌, ◌≤◌}
use native.Mathlib.Omega.{arith}
use lib.Dec.{eqb, leb}
use lib.ListN.{length, take, drop, take-append-drop}
use lib.Seq.{take_at, length-take-le}
use Rattle.groundwork.proofs.Truth.{by_truth, never_both, and_left, and_right, and_both, and_not_left, gt-leb, eqb-equal, not-true}
use Rattle.theory.specs.Lists.{every, is_empty}
use Rattle.theory.specs.Text.{Bytes, bytes, is_lower, is_upper, is_name_byte}
use Rattle.clause_theory.specs.ClauseTokens.{Mark, name, variable, opens, closes, comma, neck, stop, stray, Token, token, is_layout, run, is_neck, is_stop, bytes_after, sign_of, mark_of, tokens_from, tokens_of}
use Rattle.clause_theory.specs.Cutting.{Layout, starts_with, is_run, Piece, a_run, two_bytes, one_byte, Known, a_name, a_variable, the_lone, an_opening, a_closing, a_comma, a_neck, a_stop, last_stop, Marked, known, unknown, CutFrom, nothing_left, layout_first, token_first, Cut}
use Rattle.theory.proofs.Reading.Bytes.{between_high}
use Rattle.theory.proofs.Reading.Presence.{is_empty_lem}

-- ---- bytes

pub layout_is : (b : ℕ) → Layout b → is_layout b ≡ true
unfolding is_layout
layout_is b (inl e) = ap is_layout e
layout_is b (inr e) = ap is_layout e

is_layout_lem : (b : ℕ) → is_layout b ≡ true → Layout b
unfolding is_layout
is_layout_lem b e = by_truth (λ c. (c || eqb b 10) ≡ true → Layout b) (eqb b 32) (λ is _. inl (eqb-equal b 32 is)) (λ _ other. inr (eqb-equal b 10 other)) e

no_layout : (b : ℕ) → (Layout b → ⊥) → is_layout b ≡ false
no_layout b none = by_truth (λ c. is_layout b ≡ c → c ≡ false) (is_layout b) (λ _ e. absurd (none (is_layout_lem b e))) (λ _ _. refl) refl

name_solid : (b : ℕ) → is_name_byte b ≡ true → Layout b → ⊥
unfolding is_name_byte
name_solid b e (inl is) = never_both e (ap is_name_byte is)
name_solid b e (inr is) = never_both e (ap is_name_byte is)

not_lower : (b : ℕ) → is_upper b ≡ true → is_lower b ≡ false
not_lower b upper = and_not_left (leb 97 b) (leb b 122) (gt-leb 97 b (omega (arith, between_high 65 90 b upper)))

pub lower_named : (b : ℕ) → is_lower b ≡ true → is_name_byte b ≡ true
unfolding is_name_byte
lower_named b e = rw e refl

pub upper_named : (b : ℕ) → is_upper b ≡ true → is_name_byte b ≡ true
unfolding is_name_byte
upper_named b e = rw (e, or-true (is_lower b)) refl

no_neck : (b : ℕ) (bs : Bytes) → eqb b 58 ≡ false → is_neck b bs ≡ false
unfolding is_neck
no_neck b [] other = refl
no_neck b (c ∷ bs) other = and_not_left (eqb b 58) (eqb c 45) other

-- ---- runs

no_run : (text : Bytes) → starts_with is_name_byte text ≡ false → run text ≡ []
unfolding run starts_with
no_run [] parted = refl
no_run (b ∷ bs) parted = rw parted refl

run_word : (bs rest : Bytes) → every is_name_byte bs ≡ true → run rest ≡ [] → run (bs ++ rest) ≡ bs
unfolding run every
run_word [] rest e none = none
run_word (b ∷ bs) rest e none = rw (and_left (is_name_byte b) (every is_name_byte bs) e) (ap (λ (word : Bytes). b ∷ word) (run_word bs rest (and_right (is_name_byte b) (every is_name_byte bs) e) none))

run_short : (bs : Bytes) → length (run bs) ≤ length bs
unfolding run
run_short [] = omega arith
run_short (b ∷ bs) = by_truth (λ c. length (cond c (b ∷ run bs) []) ≤ suc (length bs)) (is_name_byte b) (λ e. omega (arith, run_short bs)) (λ e. omega arith)

run_bytes : (bs : Bytes) → every is_name_byte (take (length (run bs)) bs) ≡ true
unfolding run every
run_bytes [] = refl
run_bytes (b ∷ bs) = by_truth (λ c. is_name_byte b ≡ c → every is_name_byte (take (length (cond c (b ∷ run bs) [])) (b ∷ bs)) ≡ true) (is_name_byte b) (λ _ e. and_both (is_name_byte b) (every is_name_byte (take (length (run bs)) bs)) e (run_bytes bs)) (λ _ _. refl) refl

run_ends : (bs : Bytes) → starts_with is_name_byte (drop (length (run bs)) bs) ≡ false
unfolding run starts_with
run_ends [] = refl
run_ends (b ∷ bs) = by_truth (λ c. is_name_byte b ≡ c → starts_with is_name_byte (drop (length (cond c (b ∷ run bs) [])) (b ∷ bs)) ≡ false) (is_name_byte b) (λ _ e. run_ends bs) (λ _ e. e) refl

-- ---- the bytes of a token

first_colon : (b : ℕ) (bs : Bytes) → is_neck b bs ≡ true → b ≡ 58
unfolding is_neck
first_colon b [] e = never_both e refl
first_colon b (c ∷ bs) e = eqb-equal b 58 (and_left (eqb b 58) (eqb c 45) e)

module _ {b : ℕ} {s after : Bytes} where
  piece_solid : Piece (b ∷ s) after → is_layout b ≡ false
  unfolding is_run is_layout bytes
  piece_solid (a_run is ends) = no_layout b (name_solid b (and_left (is_name_byte b) (every is_name_byte s) is))
  piece_solid (two_bytes is) = ap is_layout (head-eq_of_cons-eq is)
  piece_solid (one_byte c is other solid short) = no_layout b (λ l. solid (subst Layout (head-eq_of_cons-eq is) l))

  -- a run
  piece_named : Piece (b ∷ s) after → is_name_byte b ≡ true → every is_name_byte s ≡ true
  unfolding is_run is_name_byte bytes
  piece_named (a_run is ends) named = and_right (is_name_byte b) (every is_name_byte s) is
  piece_named (two_bytes is) named = never_both named (ap is_name_byte (head-eq_of_cons-eq is))
  piece_named (one_byte c is other solid short) named = never_both named (ap is_name_byte (head-eq_of_cons-eq is) ∙ other)

  piece_run : Piece (b ∷ s) after → is_name_byte b ≡ true → run (s ++ after) ≡ s
  unfolding is_run is_name_byte bytes
  piece_run (a_run is ends) named = run_word s after (and_right (is_name_byte b) (every is_name_byte s) is) (no_run after ends)
  piece_run (two_bytes is) named = never_both named (ap is_name_byte (head-eq_of_cons-eq is))
  piece_run (one_byte c is other solid short) named = never_both named (ap is_name_byte (head-eq_of_cons-eq is) ∙ other)

  -- one byte
  piece_one : Piece (b ∷ s) after → is_name_byte b ≡ false → is_neck b (s ++ after) ≡ false → s ≡ []
  unfolding is_run bytes is_neck
  piece_one (a_run is ends) other none = never_both (and_left (is_name_byte b) (every is_name_byte s) is) other
  piece_one (two_bytes is) other none = never_both (ap₂ (λ (c : ℕ) (t : Bytes). is_neck c (t ++ after)) (head-eq_of_cons-eq is) (tail-eq_of_cons-eq is)) none
  piece_one (one_byte c is no_name solid short) other none = tail-eq_of_cons-eq is

  -- `:-`
  piece_two : Piece (b ∷ s) after → is_neck b (s ++ after) ≡ true → b ∷ s ≡ bytes ":-"
  unfolding is_run is_name_byte bytes is_neck
  piece_two (a_run is ends) e = never_both (and_left (is_name_byte b) (every is_name_byte s) is) (ap is_name_byte (first_colon b (s ++ after) e))
  piece_two (two_bytes is) e = is
  piece_two (one_byte c is no_name solid none) e = absurd (at after (ap (λ (t : Bytes). is_neck b (t ++ after)) (sym (tail-eq_of_cons-eq is)) ∙ e) none)
    where
      at : (rest : Bytes) → is_neck b rest ≡ true → ((more : Bytes) → c ∷ rest ≡ 58 ∷ 45 ∷ more → ⊥) → ⊥
      at [] both none = never_both both refl
      at (d ∷ rest) both none = none rest (λ i. (sym (head-eq_of_cons-eq is) ∙ eqb-equal b 58 (and_left (eqb b 58) (eqb d 45) both)) i ∷ eqb-equal d 45 (and_right (eqb b 58) (eqb d 45) both) i ∷ rest)

  -- how many come after the first
  piece_count : Piece (b ∷ s) after → bytes_after b (s ++ after) ≡ length s
  unfolding bytes_after bytes
  piece_count p =
      by_truth (λ c. is_name_byte b ≡ c → cond c (length (run (s ++ after))) (cond (is_neck b (s ++ after)) 1 0) ≡ length s) (is_name_byte b) (λ _ named. ap length (piece_run p named))
      (λ _ other. by_truth (λ c. is_neck b (s ++ after) ≡ c → cond c 1 0 ≡ length s) (is_neck b (s ++ after)) (λ _ e. ap length (sym (tail-eq_of_cons-eq (piece_two p e)))) (λ _ none. ap length (sym (piece_one p other none))) refl)
      refl

-- ---- what it is

-- what a token is known to be, it is
known_mark : {apart : Bool} {b : ℕ} {s after : Bytes} {m : Mark} → Piece (b ∷ s) after → Known apart (b ∷ s) after m → mark_of apart b (s ++ after) ≡ m
unfolding mark_of sign_of is_run bytes is_neck is_stop is_empty is_name_byte
known_mark {b = b} {s} p (a_name is) = let lower = and_left (is_lower b) (every is_name_byte s) is in rw (lower, piece_run p (lower_named b lower)) refl
known_mark {b = b} {s} p (a_variable is) = let upper = and_left (is_upper b) (every is_name_byte s) is in rw (not_lower b upper, upper, piece_run p (upper_named b upper)) refl
known_mark p (the_lone is) = rw (piece_run p (ap is_name_byte (head-eq_of_cons-eq is)), head-eq_of_cons-eq is, tail-eq_of_cons-eq is) refl
known_mark p (an_opening is tight) = rw (head-eq_of_cons-eq is, tight) refl
known_mark p (a_closing is) = rw (head-eq_of_cons-eq is) refl
known_mark p (a_comma is) = rw (head-eq_of_cons-eq is) refl
known_mark p (a_neck is) = rw (head-eq_of_cons-eq is, tail-eq_of_cons-eq is) refl
known_mark p (a_stop c rest is follows layout) = rw (head-eq_of_cons-eq is, tail-eq_of_cons-eq is, follows, layout_is c layout) refl
known_mark p (last_stop is none) = rw (head-eq_of_cons-eq is, tail-eq_of_cons-eq is, none) refl

no_stray : {apart : Bool} {s after x : Bytes} → Known apart s after (stray x) → ⊥
no_stray = elim [ ]

-- and otherwise it is stray
module _ (apart : Bool) (b : ℕ) (s after : Bytes) (p : Piece (b ∷ s) after) where
  abbrev Decided : Mark → Type 0
  Decided m = Known apart (b ∷ s) after m ⊎ (m ≡ stray (b ∷ s))

  either : (test : Bool) (m other : Mark) → (test ≡ true → Known apart (b ∷ s) after m) → Decided other → Decided (cond test m other)
  either test m other here later = by_truth (λ c. Decided (cond c m other)) test (λ e. inl (here e)) (λ _. later)

  one : (c : ℕ) → eqb b c ≡ true → is_name_byte c ≡ false → eqb c 58 ≡ false → b ∷ s ≡ c ∷ []
  one c e other short =
      let is = eqb-equal b c e in
      λ i. is i ∷ piece_one p (ap is_name_byte is ∙ other) (no_neck b (s ++ after) (ap (λ (d : ℕ). eqb d 58) is ∙ short)) i

  word : (x : Bytes → Mark) → is_name_byte b ≡ true → Known apart (b ∷ s) after (x (b ∷ s)) → Known apart (b ∷ s) after (x (b ∷ run (s ++ after)))
  word x named is = subst (λ (w : Bytes). Known apart (b ∷ s) after (x (b ∷ w))) (sym (piece_run p named)) is

  lone : (eqb b 95 && is_empty (run (s ++ after))) ≡ true → Known apart (b ∷ s) after (variable (b ∷ []))
  unfolding is_name_byte bytes
  lone e =
      let is = eqb-equal b 95 (and_left (eqb b 95) (is_empty (run (s ++ after))) e) in
      let none : s ≡ [] = sym (piece_run p (ap is_name_byte is)) ∙ is_empty_lem (run (s ++ after)) (and_right (eqb b 95) (is_empty (run (s ++ after))) e) in
      subst (λ (w : Bytes). Known apart (b ∷ s) after (variable (b ∷ w))) none (the_lone (λ i. is i ∷ none i))

  stopping : is_stop b (s ++ after) ≡ true → Known apart (b ∷ s) after stop
  unfolding is_stop bytes is_name_byte
  stopping e = at after (ap (λ (t : Bytes). is_stop b (t ++ after)) (sym none) ∙ e) refl
    where
      dot : (bs : Bytes) → is_stop b bs ≡ true → eqb b 46 ≡ true
      dot [] e = e
      dot (c ∷ bs) e = and_left (eqb b 46) (is_layout c) e

      spelled : b ∷ s ≡ bytes "."
      spelled = one 46 (dot (s ++ after) e) refl refl

      none : s ≡ []
      none = tail-eq_of_cons-eq spelled

      at : (rest : Bytes) → is_stop b rest ≡ true → after ≡ rest → Known apart (b ∷ s) after stop
      at [] e is = last_stop spelled is
      at (c ∷ rest) e is = a_stop c rest spelled is (is_layout_lem c (and_right (eqb b 46) (is_layout c) e))

  decided : Decided (mark_of apart b (s ++ after))
  unfolding mark_of sign_of is_run is_name_byte bytes
  decided =
      either (is_lower b) (name (b ∷ run (s ++ after))) _ (λ e. word name (lower_named b e) (a_name (and_both (is_lower b) (every is_name_byte s) e (piece_named p (lower_named b e)))))
      (either (is_upper b) (variable (b ∷ run (s ++ after))) _ (λ e. word variable (upper_named b e) (a_variable (and_both (is_upper b) (every is_name_byte s) e (piece_named p (upper_named b e)))))
      (either (eqb b 95 && is_empty (run (s ++ after))) (variable (b ∷ [])) _ lone
      (either (eqb b 40 && not apart) opens _ (λ e. an_opening (one 40 (and_left (eqb b 40) (not apart) e) refl refl) (not-true apart (and_right (eqb b 40) (not apart) e)))
      (either (eqb b 41) closes _ (λ e. a_closing (one 41 e refl refl))
      (either (eqb b 44) comma _ (λ e. a_comma (one 44 e refl refl))
      (either (is_neck b (s ++ after)) neck _ (λ e. a_neck (piece_two p e))
      (either (is_stop b (s ++ after)) stop _ stopping
      (inr (ap (λ (k : ℕ). stray (b ∷ take k (s ++ after))) (piece_count p) ∙ ap (λ (t : Bytes). stray (b ∷ t)) (take_at s after (length s) refl))))))))))

  mark_is : {m : Mark} → Marked apart (b ∷ s) after m → mark_of apart b (s ++ after) ≡ m
  mark_is (known is) = known_mark p is
  mark_is (unknown none) = ⊎_elim (λ is. absurd (none _ is)) (λ e. e) decided

  is_marked : Marked apart (b ∷ s) after (mark_of apart b (s ++ after))
  is_marked = ⊎_elim known (λ e. subst (Marked apart (b ∷ s) after) (sym e) (unknown (λ m is. no_stray (subst (Known apart (b ∷ s) after) (sym (known_mark p is) ∙ e) is)))) decided

-- ---- from the way a text is cut to its tokens

passed_by : (bs text : Bytes) (place : ℕ) → tokens_from false (length bs) place (bs ++ text) ≡ tokens_from false 0 (place + length bs) text
unfolding tokens_from
passed_by [] text place = ap (λ (i : ℕ). tokens_from false 0 i text) (omega arith)
passed_by (b ∷ bs) text place = passed_by bs text (suc place) ∙ ap (λ (i : ℕ). tokens_from false 0 i text) (omega arith)

token_cut : (apart : Bool) (place : ℕ) (s text : Bytes) {m : Mark} {ts : List Token} → Piece s text → Marked apart s text m → tokens_from false 0 (place + length s) text ≡ ts
    → tokens_from apart 0 place (s ++ text) ≡ token m place ∷ ts
unfolding tokens_from is_run bytes
token_cut apart place [] text (a_run is ends) marked later = never_both is refl
token_cut apart place [] text (two_bytes is) marked later = absurd (nil≢cons is)
token_cut apart place [] text (one_byte c is other solid short) marked later = absurd (nil≢cons is)
token_cut apart place (b ∷ s) text {m} p marked later =
    rw (piece_solid p, mark_is apart b s text p marked, piece_count p)
    (ap (λ (us : List Token). token m place ∷ us) (passed_by s text (suc place) ∙ ap (λ (i : ℕ). tokens_from false 0 i text) (omega arith) ∙ later))

cut_tokens : {apart : Bool} {place : ℕ} {text : Bytes} {ts : List Token} → CutFrom apart place text ts → tokens_from apart 0 place text ≡ ts
unfolding tokens_from
cut_tokens nothing_left = refl
cut_tokens (layout_first {place = place} {b = b} {text = text} layout later) = rw (layout_is b layout) (ap (λ (i : ℕ). tokens_from true 0 i text) (omega arith) ∙ cut_tokens later)
cut_tokens (token_first {apart = apart} {place = place} {s = s} {text = text} p marked later) = token_cut apart place s text p marked (cut_tokens later)

-- ---- from the tokens of a text to the way it is cut

neck_there : (b : ℕ) (bs rest : Bytes) → b ∷ bs ≡ bytes ":-" ++ rest → is_neck b bs ≡ true
unfolding is_neck bytes
neck_there b bs rest is = ap₂ is_neck (head-eq_of_cons-eq is) (tail-eq_of_cons-eq is)

neck_here : (b : ℕ) (bs : Bytes) → is_neck b bs ≡ true → Piece (b ∷ take 1 bs) (drop 1 bs)
unfolding is_neck bytes
neck_here b [] e = never_both e refl
neck_here b (c ∷ bs) e = two_bytes (λ i. eqb-equal b 58 (and_left (eqb b 58) (eqb c 45) e) i ∷ eqb-equal c 45 (and_right (eqb b 58) (eqb c 45) e) i ∷ [])

neck_within : (b : ℕ) (bs : Bytes) → cond (is_neck b bs) 1 0 ≤ length bs
unfolding is_neck
neck_within b [] = omega arith
neck_within b (c ∷ bs) = by_truth (λ d. cond d 1 0 ≤ suc (length bs)) (eqb b 58 && eqb c 45) (λ _. omega arith) (λ _. omega arith)

module _ (b : ℕ) (bs : Bytes) where
  PieceOf : ℕ → Type 0
  PieceOf k = Piece (b ∷ take k bs) (drop k bs)

  piece_here : is_layout b ≡ false → PieceOf (bytes_after b bs)
  unfolding bytes_after is_run PieceOf
  piece_here solid =
      by_truth (λ c. is_name_byte b ≡ c → PieceOf (cond c (length (run bs)) (cond (is_neck b bs) 1 0))) (is_name_byte b)
      (λ _ named. a_run (and_both (is_name_byte b) (every is_name_byte (take (length (run bs)) bs)) named (run_bytes bs)) (run_ends bs))
      (λ _ other. by_truth (λ c. is_neck b bs ≡ c → PieceOf (cond c 1 0)) (is_neck b bs) (λ _ e. neck_here b bs e)
      (λ _ none. one_byte b refl other (λ layout. never_both (layout_is b layout) solid) (λ rest is. never_both (neck_there b bs rest is) none)) refl)
      refl

  bytes_within : bytes_after b bs ≤ length bs
  unfolding bytes_after
  bytes_within = by_truth (λ c. cond c (length (run bs)) (cond (is_neck b bs) 1 0) ≤ length bs) (is_name_byte b) (λ _. run_short bs) (λ _. neck_within b bs)

-- from any place on, with so many bytes of a token still to pass
cut_from : (apart : Bool) (left place : ℕ) (bs : Bytes) → left ≤ length bs → CutFrom apart (place + left) (drop left bs) (tokens_from apart left place bs)
unfolding tokens_from PieceOf
cut_from apart zero place [] long = nothing_left
cut_from apart (suc left) place [] long = absurd (omega arith)
cut_from apart (suc left) place (b ∷ bs) long = subst (λ (i : ℕ). CutFrom apart i (drop left bs) (tokens_from apart left (suc place) bs)) (omega arith) (cut_from apart left (suc place) bs (omega arith))
cut_from apart zero place (b ∷ bs) long =
    let k = bytes_after b bs in
    subst (λ (i : ℕ). CutFrom apart i (b ∷ bs) (tokens_from apart 0 place (b ∷ bs))) (omega arith)
    (by_truth (λ c. is_layout b ≡ c → CutFrom apart place (b ∷ bs) (cond c (tokens_from true 0 (suc place) bs) (token (mark_of apart b bs) place ∷ tokens_from false k (suc place) bs))) (is_layout b)
    (λ _ e. layout_first (is_layout_lem b e) (subst (λ (i : ℕ). CutFrom true i bs (tokens_from true 0 (suc place) bs)) (omega arith) (cut_from true 0 (suc place) bs (omega arith))))
    (λ _ e. token_here (piece_here b bs e) (cut_from false k (suc place) bs (bytes_within b bs)))
    refl)
  where
    token_here : Piece (b ∷ take (bytes_after b bs) bs) (drop (bytes_after b bs) bs) → CutFrom false (suc place + bytes_after b bs) (drop (bytes_after b bs) bs) (tokens_from false (bytes_after b bs) (suc place) bs)
        → CutFrom apart place (b ∷ bs) (token (mark_of apart b bs) place ∷ tokens_from false (bytes_after b bs) (suc place) bs)
    token_here p later =
        let k = bytes_after b bs in
        let whole : take k bs ++ drop k bs ≡ bs = take-append-drop k bs in
        subst (λ (rest : Bytes). CutFrom apart place (b ∷ rest) (token (mark_of apart b rest) place ∷ tokens_from false k (suc place) bs)) whole
        (token_first p (is_marked apart b (take k bs) (drop k bs) p)
        (subst (λ (i : ℕ). CutFrom false i (drop k bs) (tokens_from false k (suc place) bs)) (omega (arith, length-take-le k bs (bytes_within b bs))) later))

-- ---- both ways

pub text_cut : (text : Bytes) → Cut text (tokens_of text)
text_cut text = cut_from false 0 0 text (omega arith)

pub cut_exactly : (text : Bytes) (tokens : List Token) → (tokens_of text ≡ tokens) ↔ Cut text tokens
cut_exactly text tokens = ((λ e. subst (Cut text) e (text_cut text)), cut_tokens)
