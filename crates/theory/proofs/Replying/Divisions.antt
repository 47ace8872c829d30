-- Where the pack ends in the input: with the first line that has nothing but `E`, and nowhere else.
use mathlib.Core.Path.{◌≡◌, refl, sym, ◌∙◌, ap, ap₂, subst}
use mathlib.Core.Bool.{Bool, true, false}
use mathlib.Core.List.Memᴰ
use mathlib.Core.List.{List, [], ◌∷◌, ◌++◌, append-nil, append_assoc, append_cancel_right, head-eq_of_cons-eq, tail-eq_of_cons-eq}
use Prim.Native.Nat.{ℕ}
use native.Mathlib.Omega.{arith}
use lib.Dec.{eqb}
use lib.ListN.{length, length-append}
use Rattle.groundwork.proofs.Truth.{by_truth, never_both, eqb-equal, eqb_same, not-true}
use Rattle.theory.specs.Lists.{every, ◌∈◌}
use Rattle.theory.specs.Text.{Bytes, bytes, lines_of}
use Rattle.theory.specs.Program.{pack_part, queries}
use Rattle.theory.specs.ReplyTold.{LineBegins, at_start, after_line, EndLine, Divided, at_end, no_end}
use Rattle.theory.proofs.Reading.Bytes.{same_equal, same_refl}
use Rattle.theory.proofs.Reading.Every.{every_member, every_rest}
use Rattle.theory.proofs.Reading.Separators.{is_free}
use Rattle.theory.proofs.Replying.PackLines.{is_end, pack_end, queries_end, pack_line, queries_line, pack_last, queries_last}
use Rattle.theory.proofs.Replying.LinesTold.{lines_told, lines_only}

-- ---- bytes line by line

data Lined : Bytes → Type 0 where
  last_line : (line : Bytes) → is_free 10 line ≡ true → Lined line
  more_lines : (line : Bytes) {rest : Bytes} → is_free 10 line ≡ true → Lined rest → Lined (line ++ 10 ∷ rest)

lined : (bs : Bytes) → Lined bs
unfolding every
lined [] = last_line [] refl
lined (b ∷ bs) =
    by_truth (λ (c : Bool). eqb b 10 ≡ c → Lined (b ∷ bs)) (eqb b 10)
    (λ e _. subst (λ (c : ℕ). Lined (c ∷ bs)) (sym (eqb-equal b 10 e)) (more_lines [] refl (lined bs)))
    (λ e _. after_byte e (lined bs)) refl
  where
    after_byte : {l : Bytes} → eqb b 10 ≡ false → Lined l → Lined (b ∷ l)
    after_byte e (last_line line free) = last_line (b ∷ line) (rw e free)
    after_byte e (more_lines line free more) = more_lines (b ∷ line) (rw e free) more

-- a byte 10 is not in what is free of it
never_free : {bs : Bytes} → is_free 10 bs ≡ true → 10 ∈ bs → ⊥
never_free {bs} free m = never_both {b = eqb 10 10} (eqb_same 10) (not-true _ (every_member _ free m))

-- ---- lines that end the pack, in a line and in the lines after it

none_in_last : (line : Bytes) → is_free 10 line ≡ true → (front rest : Bytes) → EndLine line front rest → ⊥
unfolding bytes
none_in_last line free front rest e =
    never_free free (subst (λ (l : Bytes). 10 ∈ l) (sym e.are) (Memᴰ.append_left rest (Memᴰ.append_right front (Memᴰ.tail (Memᴰ.head refl)))))

-- what comes before a byte 10, where a line with its byte 10 comes first: that line, or more
data Apart (line rest before tail : Bytes) : Type 0 where
  that : before ≡ line → rest ≡ tail → Apart line rest before tail
  beyond : (further : Bytes) → before ≡ line ++ 10 ∷ further → rest ≡ further ++ 10 ∷ tail → Apart line rest before tail

apart : (line rest before tail : Bytes) → is_free 10 line ≡ true → line ++ 10 ∷ rest ≡ before ++ 10 ∷ tail → Apart line rest before tail
apart [] rest [] tail free e = that refl (tail-eq_of_cons-eq e)
apart [] rest (b ∷ before) tail free e = beyond before (ap (λ (c : ℕ). c ∷ before) (sym (head-eq_of_cons-eq e))) (tail-eq_of_cons-eq e)
apart (c ∷ line) rest [] tail free e = absurd (never_free free (Memᴰ.head (sym (head-eq_of_cons-eq e))))
apart (c ∷ line) rest (b ∷ before) tail free e = after_byte (head-eq_of_cons-eq e) (apart line rest before tail (every_rest _ c line free) (tail-eq_of_cons-eq e))
  where
    after_byte : c ≡ b → Apart line rest before tail → Apart (c ∷ line) rest (b ∷ before) tail
    after_byte h (that is left) = that (ap₂ ◌∷◌ (sym h) is) left
    after_byte h (beyond further is left) = beyond further (ap₂ ◌∷◌ (sym h) is) left

-- a line of the rest is a line of the whole
whole_end : (line : Bytes) {rest front after : Bytes} → EndLine rest front after → EndLine (line ++ 10 ∷ rest) ((line ++ (10 ∷ [])) ++ front) after
whole_end line {rest} {front} {after} e = record {
  are =
      sym (append_assoc line (10 ∷ []) rest) ∙ ap (λ (l : Bytes). (line ++ (10 ∷ [])) ++ l) e.are
      ∙ sym (append_assoc (line ++ (10 ∷ [])) (front ++ bytes "E\n") after)
      ∙ ap (λ (l : Bytes). l ++ after) (sym (append_assoc (line ++ (10 ∷ [])) front (bytes "E\n")));
  begins = begun e.begins;
}
  where
    begun : {front : Bytes} → LineBegins front → LineBegins ((line ++ (10 ∷ [])) ++ front)
    begun at_start = subst LineBegins (sym (append-nil (line ++ (10 ∷ [])))) (after_line line)
    begun (after_line before) = subst LineBegins (append_assoc (line ++ (10 ∷ [])) before (10 ∷ [])) (after_line ((line ++ (10 ∷ [])) ++ before))

-- and a line of the whole is one of the rest, where the first line is none
record InRest (line rest front after : Bytes) : Type 0 where
  left : Bytes
  is : front ≡ (line ++ (10 ∷ [])) ++ left
  ends : EndLine rest left after

rest_end : (line : Bytes) {rest front after : Bytes} → is_free 10 line ≡ true → is_end (line ++ (10 ∷ [])) ≡ false → EndLine (line ++ 10 ∷ rest) front after → InRest line rest front after
unfolding bytes
rest_end line {rest} {front} {after} free other e = by_front e.begins e.are
  where
    first : Apart line rest (69 ∷ []) after → InRest line rest [] after
    first (that is left) = never_both (ap (λ (l : Bytes). is_end (l ++ (10 ∷ []))) (sym is) ∙ same_refl (69 ∷ 10 ∷ [])) other
    first (beyond further is left) =
        let z : ◌≡◌ {A = ℕ} 10 69 = Memᴰ.eq_of_singleton (subst (λ (l : Bytes). 10 ∈ l) (sym is) (Memᴰ.append_right line (Memᴰ.head refl))) in
        absurd (omega arith)

    later : (before : Bytes) → Apart line rest before (69 ∷ 10 ∷ after) → InRest line rest (before ++ (10 ∷ [])) after
    later before (that is left) = record {
      left = [];
      is = ap (λ (l : Bytes). l ++ (10 ∷ [])) is ∙ sym (append-nil (line ++ (10 ∷ [])));
      ends = record { are = left; begins = at_start };
    }
    later before (beyond further is left) = record {
      left = further ++ (10 ∷ []);
      is = ap (λ (l : Bytes). l ++ (10 ∷ [])) (is ∙ sym (append_assoc line (10 ∷ []) further)) ∙ append_assoc (line ++ (10 ∷ [])) further (10 ∷ []);
      ends = record { are = left ∙ sym (regrouped further); begins = after_line further };
    }
      where
        regrouped : (l : Bytes) → (l ++ (10 ∷ [])) ++ (69 ∷ 10 ∷ []) ++ after ≡ l ++ 10 ∷ 69 ∷ 10 ∷ after
        regrouped l = append_assoc (l ++ (10 ∷ [])) (69 ∷ 10 ∷ []) after ∙ append_assoc l (10 ∷ []) (69 ∷ 10 ∷ after)

    by_front : {front : Bytes} → LineBegins front → line ++ 10 ∷ rest ≡ front ++ bytes "E\n" ++ after → InRest line rest front after
    by_front at_start are = first (apart line rest (69 ∷ []) after free are)
    by_front (after_line before) are =
        later before
        (apart line rest before (69 ∷ 10 ∷ after) free (are ∙ append_assoc (before ++ (10 ∷ [])) (69 ∷ 10 ∷ []) after ∙ append_assoc before (10 ∷ []) (69 ∷ 10 ∷ after)))

-- ---- the division

-- one line more in front
line_more : (line : Bytes) {rest pack : Bytes} {asked : List Bytes} → is_free 10 line ≡ true → is_end (line ++ (10 ∷ [])) ≡ false → Divided rest pack asked
    → Divided (line ++ 10 ∷ rest) ((line ++ (10 ∷ [])) ++ pack) asked
line_more line {rest} free other (at_end {front = front} {queries = asked} e first lines) =
    subst (λ (pack : Bytes). Divided (line ++ 10 ∷ rest) pack asked) (append_assoc (line ++ (10 ∷ [])) front (bytes "E\n"))
    (at_end (whole_end line e) (λ f r found. let within = rest_end line free other found in
    omega (arith, first within.left r within.ends, ap length within.is, length-append (line ++ (10 ∷ [])) within.left, length-append (line ++ (10 ∷ [])) front)) lines)
line_more line {rest} free other (no_end none) =
    subst (λ (pack : Bytes). Divided (line ++ 10 ∷ rest) pack []) (sym (append_assoc line (10 ∷ []) rest))
    (no_end λ front after found. let within = rest_end line free other found in none within.left after within.ends)

divided_by : {bs : Bytes} → Lined bs → Divided bs (pack_part bs) (queries bs)
unfolding bytes
divided_by (last_line line free) = rw (pack_last line free, queries_last line free) (no_end (none_in_last line free))
divided_by (more_lines line {rest} free more) =
    by_truth (λ (b : Bool). is_end (line ++ (10 ∷ [])) ≡ b → Divided (line ++ 10 ∷ rest) (pack_part (line ++ 10 ∷ rest)) (queries (line ++ 10 ∷ rest))) (is_end (line ++ (10 ∷ [])))
    (λ e _. rw (append_cancel_right line (69 ∷ []) (10 ∷ []) (same_equal _ _ e)) at_end_lem)
    (λ e _. rw (pack_line rest line free e, queries_line rest line free e) (line_more line free e (divided_by more)))
    refl
  where
    at_end_lem : Divided (69 ∷ 10 ∷ rest) (pack_part (69 ∷ 10 ∷ rest)) (queries (69 ∷ 10 ∷ rest))
    at_end_lem = rw (pack_end rest, queries_end rest) (at_end {front = []} (record { are = refl; begins = at_start }) (λ f r found. omega arith) (lines_told rest))

-- the input's pack and queries are these
pub division : (input : Bytes) → Divided input (pack_part input) (queries input)
division input = divided_by (lined input)

-- ---- and there is no other

-- bytes cut twice after as many
same_cut : (f g r s : Bytes) → f ++ r ≡ g ++ s → length f ≡ length g → (f ≡ g) × (r ≡ s)
same_cut [] [] r s e equal = (refl, e)
same_cut [] (b ∷ g) r s e equal = absurd (omega arith)
same_cut (a ∷ f) [] r s e equal = absurd (omega arith)
same_cut (a ∷ f) (b ∷ g) r s e equal = let (fronts, rests) = same_cut f g r s (tail-eq_of_cons-eq e) (omega arith) in (ap₂ ◌∷◌ (head-eq_of_cons-eq e) fronts, rests)

pub one_division : {input pack other : Bytes} {asked others : List Bytes} → Divided input pack asked → Divided input other others → (pack ≡ other) × (asked ≡ others)
one_division (at_end {front = front} d first lines) (at_end {front = behind} e second others) =
    let (packs, rests) =
    same_cut (front ++ bytes "E\n") (behind ++ bytes "E\n") _ _ (sym d.are ∙ e.are)
    (omega (arith, first _ _ e, second _ _ d, length-append front (bytes "E\n"), length-append behind (bytes "E\n"))) in
    (packs, lines_only lines ∙ ap lines_of rests ∙ sym (lines_only others))
one_division (at_end d first lines) (no_end none) = absurd (none _ _ d)
one_division (no_end none) (at_end e second others) = absurd (none _ _ e)
one_division (no_end none) (no_end also) = (refl, refl)
