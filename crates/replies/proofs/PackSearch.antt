-- The loop of `pack_end`: before the first line, after a line that does not end the pack, and where the pack ends.
use mathlib.Core.Path.{◌≡◌, refl, sym, ◌∙◌, ap}
use mathlib.Core.Bool.{true}
use mathlib.Core.List.{[], ◌∷◌, ◌++◌, append_assoc}
use Prim.Native.Nat.{ℕ, ◌+◌, ◌-◌, ◌≤◌, ◌<◌}
use native.Mathlib.Omega.{arith}
use lib.ListN.{length, get_or, take, drop, length-take, length-drop, take-append-drop, drop_of_length-le}
use lib.Seq.{take-add, take-length, drop-length, get_or-take, get_or-drop}
use Rattle.theory.specs.Lists.{every}
use Rattle.theory.specs.Text.{Bytes, lines_of}
use Rattle.theory.specs.Program.{pack_part, queries}
use Rattle.theory.proofs.Reading.Separators.{is_free}
use Rattle.text.specs.Scans.{part, Finds}
use Rattle.text.proofs.Parts.{part_more, part_rest, drop_cut, drop_more}
use Rattle.replies.specs.Replies.{PackEnds}
use Rattle.theory.proofs.Replying.PackLines.{not_end, pack_end, queries_end, pack_line, queries_line, pack_last, queries_last}

-- the lines before a place are of the pack, and none of them ends it
pub record Seeking (input : Bytes) (at : ℕ) : Type 0 where
  pub within : at ≤ length input
  pub pack : pack_part input ≡ take at input ++ pack_part (drop at input)
  pub asked : queries input ≡ queries (drop at input)

-- a list of one byte
one_byte : (bs : Bytes) {b : ℕ} → length bs ≡ 1 → get_or bs 0 0 ≡ b → bs ≡ b ∷ []
one_byte [] one is = absurd (omega arith)
one_byte (x ∷ []) one is = ap (λ (y : ℕ). y ∷ []) is
one_byte (x ∷ y ∷ bs) one is = absurd (omega arith)

pub seeking_begin : (input : Bytes) → Seeking input 0
seeking_begin input = record { within = omega arith; pack = refl; asked = refl }

module _ {input : Bytes} {at : ℕ} (seeking : Seeking input at) where
  -- no further byte 10
  module _ (free : is_free 10 (drop at input) ≡ true) where
    ended : PackEnds input (length input)
    unfolding lines_of
    ended =
        record {
          within = omega arith;
          pack = seeking.pack ∙ ap (λ (rest : Bytes). take at input ++ rest) (pack_last (drop at input) free) ∙ take-append-drop at input ∙ sym (take-length input);
          asked = seeking.asked ∙ queries_last (drop at input) free ∙ ap lines_of (sym (drop-length input));
        }

  pub seeking_end : length input ≤ at → PackEnds input (length input)
  unfolding every
  seeking_end past = ended (rw (drop_of_length-le input past) refl)

  module _ {end : ℕ} (finds : Finds input 10 at end) where
    pub seeking_last : end ≡ length input → PackEnds input (length input)
    seeking_last last = ended (ap (is_free 10) (sym (part_rest input at)) ∙ ap (λ (e : ℕ). is_free 10 (part input at e)) (sym last) ∙ finds.free)

    module _ (more : end < length input) where
      abbrev line : Bytes
      line = part input at end

      abbrev rest : Bytes
      rest = drop (end + 1) input

      lines : drop at input ≡ line ++ 10 ∷ rest
      lines = drop_cut input at end finds.low ∙ ap (λ (r : Bytes). part input at end ++ r) (drop_more input end more ∙ ap (λ (b : ℕ). b ∷ drop (end + 1) input) (finds.found more))

      -- the pack with the line
      through : take (end + 1) input ≡ take at input ++ (line ++ (10 ∷ []))
      through =
          let count : at + (end + 1 - at) ≡ end + 1 = omega (arith, finds.low) in
          ap (λ (n : ℕ). take n input) (sym count) ∙ take-add at (end + 1 - at) input
          ∙ ap (λ (r : Bytes). take at input ++ r) (part_more input at end finds.low more ∙ ap (λ (b : ℕ). part input at end ++ (b ∷ [])) (finds.found more))

      size : length line ≡ end - at
      size = simp (length-take, length-drop) (omega arith)

      first : at < end → get_or line 0 0 ≡ get_or input at 0
      first some = get_or-take (end - at) (drop at input) 0 0 (omega arith) ∙ get_or-drop at input 0 0 ∙ ap (λ (i : ℕ). get_or input i 0) (omega arith)

      pub seeking_more : (end - at ≡ 1 → get_or input at 0 ≡ 69 → ⊥) → Seeking input (end + 1)
      seeking_more other =
          let different = not_end line (λ one is. other (sym size ∙ one) (sym (first (omega (arith, size))) ∙ is)) in
          record {
            within = omega arith;
            pack =
                seeking.pack
                ∙ ap (λ (r : Bytes). take at input ++ r) (ap pack_part lines ∙ pack_line rest line finds.free different)
                ∙ sym (append_assoc (take at input) (line ++ (10 ∷ [])) (pack_part rest))
                ∙ ap (λ (front : Bytes). front ++ pack_part rest) (sym through);
            asked = seeking.asked ∙ ap queries lines ∙ queries_line rest line finds.free different;
          }

      pub seeking_found : end - at ≡ 1 → get_or input at 0 ≡ 69 → PackEnds input (end + 1)
      seeking_found one is =
          let letter : line ≡ 69 ∷ [] = one_byte line (size ∙ one) (first (omega arith) ∙ is) in
          let split : drop at input ≡ 69 ∷ 10 ∷ rest = lines ∙ ap (λ (l : Bytes). l ++ 10 ∷ rest) letter in
          record {
            within = omega arith;
            pack = seeking.pack ∙ ap (λ (r : Bytes). take at input ++ r) (ap pack_part split ∙ pack_end rest ∙ ap (λ (l : Bytes). l ++ (10 ∷ [])) (sym letter)) ∙ sym through;
            asked = seeking.asked ∙ ap queries split ∙ queries_end rest;
          }
