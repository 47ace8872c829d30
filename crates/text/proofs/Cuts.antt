-- Cutting a byte string into parts and into lines, one found place at a time.
use mathlib.Core.Path.{◌≡◌, refl, sym, ◌∙◌, ap}
use mathlib.Core.Bool.{true}
use mathlib.Core.List.{List, [], ◌∷◌, ◌++◌}
use Prim.Native.Nat.{ℕ, ◌+◌, ◌≤◌, ◌<◌}
use native.Mathlib.Decide.{dec_lt}
use native.Mathlib.Omega.{arith}
use lib.ListN.{length, drop, length-take, length-drop, drop_of_length-le}
use Rattle.groundwork.proofs.Truth.{le-leb, gt-leb}
use Rattle.theory.specs.Text.{Bytes, on_first, parts_at, lines_of}
use Rattle.theory.proofs.Reading.Every.{every_rest}
use Rattle.theory.proofs.Reading.Separators.{is_free, free_first, parts_of_free, Cuts, parts_cut, lines_cut, cut_other, cut_off}
use Rattle.text.specs.Scans.{part, Finds, parts_from}
use Rattle.text.proofs.Parts.{part_rest, drop_cut, drop_more}

-- a part with no separator after it, where a last byte is a part
module _ (separator : ℕ) (cut : Bytes → List Bytes) (cuts : Cuts separator cut) (last : (b : ℕ) → on_first b (cut []) ≡ (b ∷ []) ∷ []) where
  cut_last : (b : ℕ) (bs : Bytes) → is_free separator (b ∷ bs) ≡ true → cut (b ∷ bs) ≡ (b ∷ bs) ∷ []
  cut_last b [] free = cut_other separator cut cuts b [] (free_first separator b [] free) ∙ last b
  cut_last b (d ∷ bs) free = cut_other separator cut cuts b (d ∷ bs) (free_first separator b (d ∷ bs) free) ∙ ap (on_first b) (cut_last d bs (every_rest _ b (d ∷ bs) free))

module _ (separator : ℕ) (cut : Bytes → List Bytes) (cuts : Cuts separator cut) where
  module _ (s : Bytes) (from r : ℕ) (found : Finds s separator from r) where
    cut_found : r < length s → cut (drop from s) ≡ part s from r ∷ cut (drop (r + 1) s)
    cut_found h =
        ap cut (drop_cut s from r found.low ∙ ap (λ (rest : Bytes). part s from r ++ rest) (drop_more s r h ∙ ap (λ (b : ℕ). b ∷ drop (r + 1) s) (found.found h)))
        ∙ cut_off separator cut cuts (part s from r) (drop (r + 1) s) found.free

    -- the place found is the end
    cut_rest : length s ≤ r → part s from r ≡ drop from s
    cut_rest h = let end : r ≡ length s = omega (arith, found.high) in ap (part s from) end ∙ part_rest s from

    -- so what stands from the first place on is one part
    cut_end : length s ≤ r → cut (part s from r) ≡ part s from r ∷ [] → cut (drop from s) ≡ part s from r ∷ []
    cut_end h one = ap cut (sym (cut_rest h)) ∙ one

-- ---- parts

module _ (separator : ℕ) (s : Bytes) where
  pub parts_more : (from : ℕ) → from ≤ length s → parts_from separator s from ≡ parts_at separator (drop from s)
  unfolding parts_from
  parts_more from h = rw (le-leb from (length s) h)

  pub parts_all : parts_from separator s 0 ≡ parts_at separator s
  parts_all = parts_more 0 (omega arith)

  pub parts_done : (from : ℕ) → length s < from → parts_from separator s from ≡ []
  unfolding parts_from
  parts_done from h = rw (gt-leb from (length s) h)

  pub parts_step : (from r : ℕ) → from ≤ length s → Finds s separator from r → parts_from separator s from ≡ part s from r ∷ parts_from separator s (r + 1)
  parts_step from r h found = parts_more from h ∙ by (dec_lt r (length s))
    where
      by : Dec (r < length s) → parts_at separator (drop from s) ≡ part s from r ∷ parts_from separator s (r + 1)
      by (yes more) =
          cut_found separator (parts_at separator) (parts_cut separator) s from r found more ∙ ap (λ (rest : List Bytes). part s from r ∷ rest) (sym (parts_more (r + 1) (omega arith)))
      by (no end) =
          cut_end separator (parts_at separator) (parts_cut separator) s from r found (omega arith) (parts_of_free separator (part s from r) found.free)
          ∙ ap (λ (rest : List Bytes). part s from r ∷ rest) (sym (parts_done (r + 1) (omega arith)))

-- ---- lines

lines_one : (bs : Bytes) → 0 < length bs → is_free 10 bs ≡ true → lines_of bs ≡ bs ∷ []
unfolding lines_of
lines_one [] any free = absurd (omega arith)
lines_one (b ∷ bs) any free = cut_last 10 lines_of lines_cut (λ c. refl) b bs free

pub lines_done : (s : Bytes) (from : ℕ) → length s ≤ from → lines_of (drop from s) ≡ []
unfolding lines_of
lines_done s from h = ap lines_of (drop_of_length-le s h)

pub lines_step : (s : Bytes) (from r : ℕ) → from < length s → Finds s 10 from r → lines_of (drop from s) ≡ part s from r ∷ lines_of (drop (r + 1) s)
lines_step s from r h found = by (dec_lt r (length s))
  where
    by : Dec (r < length s) → lines_of (drop from s) ≡ part s from r ∷ lines_of (drop (r + 1) s)
    by (yes more) = cut_found 10 lines_of lines_cut s from r found more
    by (no end) =
        cut_end 10 lines_of lines_cut s from r found (omega arith) (lines_one (part s from r) (simp (length-take, length-drop) (omega (arith, found.high))) found.free)
        ∙ ap (λ (rest : List Bytes). part s from r ∷ rest) (sym (lines_done s (r + 1) (omega arith)))
