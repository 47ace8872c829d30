-- How often variables have occurred, when one more comes: each by its name, and each by its place among the variables numbered so far.
use mathlib.Core.Path.{◌≡◌, refl, ◌∙◌}
use mathlib.Core.Bool.{false, cond}
use mathlib.Core.List.Memᴰ
use mathlib.Core.List.{List, [], ◌∷◌, ◌++◌}
use Prim.Native.Nat.{ℕ, suc, ◌+◌, ◌<◌}
use native.Mathlib.Omega.{arith}
use lib.ListN.{length, get_or, get_or-append}
use lib.Seq.{get_or-append_seam}
use Rattle.groundwork.proofs.Truth.{by_truth, never_both}
use Rattle.theory.specs.Lists.{◌∈◌}
use Rattle.theory.specs.Text.{Bytes, same, among}
use Rattle.theory.specs.Sizes.{occurrences}
use Rattle.theory.specs.Residuals.{numbered}
use Rattle.theory.proofs.Reading.Bytes.{same_refl, same_equal}
use Rattle.theory.proofs.Judging.Variables.{not_among, member_numbered, Once}
use Rattle.theory.proofs.Soundness.Sizes.{occurrences_append}
use Rattle.terms.proofs.Numbering.{place_among, place_once}

-- ---- by name

occurrences_end : (x : Bytes) (ys : List Bytes) (y : Bytes) → occurrences x (ys ++ (y ∷ [])) ≡ occurrences x ys + cond (same x y) 1 0
unfolding occurrences
occurrences_end x ys y = occurrences_append x ys (y ∷ [])

pub occurrences_same : (x : Bytes) (ys : List Bytes) → occurrences x (ys ++ (x ∷ [])) ≡ occurrences x ys + 1
occurrences_same x ys = occurrences_end x ys x ∙ rw (same_refl x)

occurrences_other : (x : Bytes) (ys : List Bytes) (y : Bytes) → (x ≡ y → ⊥) → occurrences x (ys ++ (y ∷ [])) ≡ occurrences x ys
occurrences_other x ys y differ =
    occurrences_end x ys y
    ∙ by_truth (λ b. occurrences x ys + cond b 1 0 ≡ occurrences x ys) (same x y) (λ h. absurd (differ (same_equal x y h))) (λ h. omega arith)

pub occurrences_absent : (x : Bytes) (ys : List Bytes) → (x ∈ ys → ⊥) → occurrences x ys ≡ 0
unfolding occurrences
occurrences_absent x [] absent = refl
occurrences_absent x (y ∷ ys) absent =
    by_truth (λ b. cond b (suc (occurrences x ys)) (occurrences x ys) ≡ 0) (same x y)
    (λ h. absurd (absent (Memᴰ.head (same_equal x y h))))
    (λ h. occurrences_absent x ys (λ m. absent (Memᴰ.tail m)))

-- a variable that has no number yet has not occurred
occurrences_new : (x : Bytes) (seen xs : List Bytes) → among x (numbered seen xs) ≡ false → occurrences x xs ≡ 0
occurrences_new x seen xs e = occurrences_absent x xs (λ m. not_among x (numbered seen xs) e (member_numbered seen xs m))

-- ---- by place

-- the variable at one place comes: at the others nothing changes
pub count_elsewhere : (all done : List Bytes) (at : ℕ) → at < length all → Once all → (i : ℕ) → i < length all → (i ≡ at → ⊥) → occurrences (get_or all i []) (done ++ (get_or all at [] ∷ [])) ≡ occurrences (get_or all i []) done
count_elsewhere all done at inside once i h other = occurrences_other (get_or all i []) done (get_or all at []) (λ e. other (place_once once i at h inside e))

-- a variable that has no place yet takes the next one
module _ (seen done : List Bytes) (x : Bytes) (new : among x (numbered seen done) ≡ false) where
  pub count_next : occurrences (get_or (numbered seen done ++ (x ∷ [])) (length (numbered seen done)) []) (done ++ (x ∷ [])) ≡ 1
  count_next = rw (get_or-append_seam (numbered seen done) x [] []) (omega (arith, occurrences_same x done, occurrences_new x seen done new))

  pub count_before : (i : ℕ) → i < length (numbered seen done) → occurrences (get_or (numbered seen done ++ (x ∷ [])) i []) (done ++ (x ∷ [])) ≡ occurrences (get_or (numbered seen done) i []) done
  count_before i h =
      rw (get_or-append (numbered seen done) (x ∷ []) [] i h)
      (occurrences_other (get_or (numbered seen done) i []) done x (λ e. never_both (place_among x (numbered seen done) i h e) new))
