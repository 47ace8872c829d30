-- Multipliers 0 that are not read: where the fields before them are read, they might have been too.
use mathlib.Core.Path.{◌≡◌, refl, subst, subst⁻¹}
use mathlib.Core.List.{[], ◌∷◌}
use Prim.Native.Nat.{ℕ, zero, suc, ◌+◌, ◌*◌, ◌≤◌}
use native.Mathlib.Omega.{arith}
use lib.ListN.{length}
use Rattle.theory.specs.declared.Letter.{Letter}
use Rattle.theory.specs.declared.Letter.TheVariants.{M}
use Rattle.theory.specs.Text.{Bytes}
use Rattle.text.specs.Scans.{part, Finds}
use Rattle.numbers.specs.Zeros.{Zeros}
use Rattle.numbers.proofs.ZeroLaws.{zeros_first, zeros_rest}
use Rattle.tables.specs.declared.State.{State}
use Rattle.tables.specs.declared.Opened.{Opened}
use Rattle.tables.specs.Sorts.{Sort, multiplying, sort_of}
use Rattle.tables.specs.Tables.{Tables, Safe}
use Rattle.tables.specs.Lines.{most}
use Rattle.certificates.proofs.MultiplierFields.{zero_weighed}
use Rattle.lines.specs.declared.Room.{Room}
use Rattle.lines.specs.Steps.{Skips, none, zeros}
use Rattle.lines.specs.Between.{FieldsRead}
use Rattle.lines.proofs.Steps.{field_done}
use Rattle.lines.proofs.FieldLoop.{fields_from, fields_more}

module _ {line : Bytes} {t : Tables} {s : State} {o : Opened} (safe : Safe t s) (short : length line ≤ 1024) {many : ℕ} {x : Room} where
  none_read : (letter : Letter) {from index : ℕ} → FieldsRead letter line t s o many from index x → FieldsRead letter line t s o many (from + 2 * 0) (index + 0) x
  none_read letter {from} {index} read =
      let at : from ≡ from + 2 * 0 = omega arith in
      let count : index ≡ index + 0 = omega arith in
      subst (λ (n : ℕ). FieldsRead letter line t s o many n (index + 0) x) at (subst (λ (n : ℕ). FieldsRead letter line t s o many from n x) count read)

  -- a line of multipliers
  module _ {letter : Letter} (is : sort_of letter ≡ multiplying) (few : length (fields_from line o) ≤ most (sort_of letter) s) where
    one_zero : {from index : ℕ} → FieldsRead letter line t s o many from index x → Finds line 44 from (from + 1) → part line from (from + 1) ≡ 48 ∷ [] → FieldsRead letter line t s o many (from + 2) (index + 1) x
    one_zero {from} {index} read finds is_zero =
        let inside : from ≤ length line = omega (arith, finds.high) in
        let next : from + 1 + 1 ≡ from + 2 = omega arith in
        subst (λ (n : ℕ). FieldsRead letter line t s o many n (index + 1) x) next
        (fields_more safe short letter few read inside finds x (field_done multiplying is (zero_weighed is_zero, refl)) refl)

    zeros_read : (z : ℕ) {from index : ℕ} → FieldsRead letter line t s o many from index x → Zeros line from z → FieldsRead letter line t s o many (from + 2 * z) (index + z) x
    zeros_read zero read zs = none_read letter read
    zeros_read (suc z) {from} {index} read zs =
        let first = zeros_first zs in
        let rest = zeros_read z (one_zero read first.0 first.1) (zeros_rest zs) in
        let at : from + 2 + 2 * z ≡ from + 2 * suc z = omega arith in
        let count : index + 1 + z ≡ index + suc z = omega arith in
        subst (λ (n : ℕ). FieldsRead letter line t s o many n (index + suc z) x) at (subst (λ (n : ℕ). FieldsRead letter line t s o many (from + 2 + 2 * z) n x) count rest)

  pub fields_skipped : (letter : Letter) {from index z : ℕ} {sort : Sort} → sort_of letter ≡ sort → length (fields_from line o) ≤ most (sort_of letter) s → FieldsRead letter line t s o many from index x → Skips line from sort z → FieldsRead letter line t s o many (from + 2 * z) (index + z) x
  fields_skipped letter is few read none = none_read letter read
  fields_skipped letter {z = z} is few read (zeros zs) = zeros_read is few z read zs

pub zeros_skipped : {line : Bytes} {from z : ℕ} {letter : Letter} → letter ≡ M → Zeros line from z → Skips line from (sort_of letter) z
zeros_skipped {line} {from} {z} is zs = subst⁻¹ (λ (l : Letter). Skips line from (sort_of l) z) is (zeros zs)

-- the place after them is in the line
pub skipped_within : {line : Bytes} {from z : ℕ} {sort : Sort} → from ≤ length line → Skips line from sort z → from + 2 * z ≤ length line
skipped_within within none = omega arith
skipped_within within (zeros zs) = omega (arith, zs.high)
