-- Parts of a byte string: one byte more, two parts, one after the other, and what stands from a place on.
use mathlib.Core.Path.{◌≡◌, sym, ◌∙◌, ap}
use mathlib.Core.Bool.{Bool, true}
use mathlib.Core.List.{[], ◌∷◌, ◌++◌}
use Prim.Native.Nat.{ℕ, suc, ◌+◌, ◌-◌, ◌≤◌, ◌<◌}
use native.Mathlib.Numerals.{add-one}
use native.Mathlib.Omega.{arith}
use lib.ListN.{length, get_or, take, drop, length-drop, take-append-drop, drop_of_length-le}
use lib.Seq.{length-take-le, take-add, take-suc, take_all, take-append-le, drop-append-le, drop-cons, drop-drop, get_or-take, get_or-drop}
use Rattle.groundwork.proofs.Truth.{eqb-different}
use Rattle.theory.specs.Lists.{every}
use Rattle.theory.specs.Text.{Bytes}
use Rattle.theory.proofs.Reading.Every.{every_append}
use Rattle.theory.proofs.Reading.Separators.{is_free}
use Rattle.text.specs.Scans.{part}

module _ (s : Bytes) where
  pub empty_is : length s ≡ 0 → s ≡ []
  empty_is h = drop_of_length-le s {i = 0} (omega arith)

  pub part_none : (a : ℕ) → part s a a ≡ []
  part_none a = let none : a - a ≡ 0 = omega arith in rw none

  pub part_more : (a e : ℕ) → a ≤ e → e < length s → part s a (e + 1) ≡ part s a e ++ (get_or s e 0 ∷ [])
  part_more a e h k =
      let more : e + 1 - a ≡ suc (e - a) = omega arith in
      let place : a + (e - a) ≡ e = omega arith in
      ap (λ (n : ℕ). take n (drop a s)) more
      ∙ take-suc (drop a s) (e - a) 0 (simp length-drop (omega arith))
      ∙ ap (λ (b : ℕ). part s a e ++ (b ∷ [])) (get_or-drop a s (e - a) 0 ∙ ap (λ (n : ℕ). get_or s n 0) place)

  pub part_length : (a n e : ℕ) → e - a ≡ n → e ≤ length s → length (part s a e) ≡ n
  part_length a n e width l = rw width (length-take-le n (drop a s) (simp length-drop (omega arith)))

  pub part_at : (a e i : ℕ) → i < e - a → get_or (part s a e) i 0 ≡ get_or s (a + i) 0
  part_at a e i h = get_or-take (e - a) (drop a s) i 0 h ∙ get_or-drop a s i 0

  -- the part up to the end
  pub part_rest : (a : ℕ) → part s a (length s) ≡ drop a s
  part_rest a = take_all (length s - a) (drop a s) (simp length-drop (omega arith))

  -- two parts, one after the other
  pub part_join : (a m e : ℕ) → a ≤ m → m ≤ e → part s a e ≡ part s a m ++ part s m e
  part_join a m e h k =
      let more : e - a ≡ m - a + (e - m) = omega arith in
      let place : a + (m - a) ≡ m = omega arith in
      ap (λ (n : ℕ). take n (drop a s)) more
      ∙ take-add (m - a) (e - m) (drop a s)
      ∙ ap (λ (rest : Bytes). part s a m ++ take (e - m) rest) (drop-drop (m - a) a s ∙ ap (λ (n : ℕ). drop n s) place)

  -- what stands from a place on, cut at a later place
  pub drop_cut : (a e : ℕ) → a ≤ e → drop a s ≡ part s a e ++ drop e s
  drop_cut a e h =
      let place : a + (e - a) ≡ e = omega arith in
      sym (take-append-drop (e - a) (drop a s)) ∙ ap (λ (rest : Bytes). part s a e ++ rest) (drop-drop (e - a) a s ∙ ap (λ (n : ℕ). drop n s) place)

  -- a part of a part
  pub part_inside : (a e b f : ℕ) → a ≤ e → b ≤ f → f ≤ length (part s a e) → part s (a + b) (a + f) ≡ part (part s a e) b f
  part_inside a e b f h k l =
      let width : a + f - (a + b) ≡ f - b = omega arith in
      ap (λ (n : ℕ). take n (drop (a + b) s)) width
      ∙ ap (take (f - b)) (sym (drop-drop b a s) ∙ ap (drop b) (drop_cut a e h) ∙ drop-append-le b (part s a e) (drop e s) (omega arith))
      ∙ take-append-le (f - b) (drop b (part s a e)) (drop e s) (simp length-drop (omega arith))

  -- what stands from a place on, and its first byte
  pub drop_more : (a : ℕ) → a < length s → drop a s ≡ get_or s a 0 ∷ drop (a + 1) s
  drop_more a h = rw (add-one, drop-cons s a 0)

  -- ---- parts of which every byte passes a test

  module _ (test : ℕ → Bool) where
    pub every_none : (a : ℕ) → every test (part s a a) ≡ true
    unfolding every
    every_none a = ap (every test) (part_none a)

    pub every_more : (a e : ℕ) → a ≤ e → e < length s → every test (part s a e) ≡ true → test (get_or s e 0) ≡ true → every test (part s a (e + 1)) ≡ true
    unfolding every
    every_more a e h k passed here = ap (every test) (part_more a e h k) ∙ every_append _ (part s a e) (get_or s e 0 ∷ []) passed (simp here)

  -- ---- parts in which a byte does not stand

  pub free_none : (wanted a : ℕ) → is_free wanted (part s a a) ≡ true
  free_none wanted a = every_none _ a

  pub free_more : (wanted a e : ℕ) → a ≤ e → e < length s → is_free wanted (part s a e) ≡ true → (get_or s e 0 ≡ wanted → ⊥) → is_free wanted (part s a (e + 1)) ≡ true
  free_more wanted a e h k free other = every_more _ a e h k free (simp (eqb-different (get_or s e 0) wanted other))
