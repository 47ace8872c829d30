-- Lists that hold each of their elements once: there are no more of them than of the list that they are taken from.
use mathlib.Core.Path.{◌≡◌, refl, sym, ap, subst}
use mathlib.Core.Logic.{⊎_elim}
use mathlib.Core.List.{List, [], ◌∷◌, ◌++◌}
use mathlib.Core.List.Memᴰ
use Prim.Native.Nat.{◌≤◌}
use native.Mathlib.Omega.{arith}
use lib.ListN.{length, length-append}
use Rattle.theory.specs.Lists.{◌∈◌}
use Rattle.theory.specs.Text.{Bytes}
use Rattle.theory.proofs.Judging.Variables.{Once, once_none, once_more}

-- a list around one of its elements
pub record Around (x : Bytes) (l : List Bytes) : Type 0 where
  pub before : List Bytes
  pub after : List Bytes
  pub is : l ≡ before ++ (x ∷ after)

pub around : {x : Bytes} {l : List Bytes} → x ∈ l → Around x l
around {x} (Memᴰ.head {xs = l} e) = record { before = []; after = l; is = ap (λ (y : Bytes). y ∷ l) (sym e) }
around {x} (Memᴰ.tail {x = y} m) = let a = around m in record { before = y ∷ a.before; after = a.after; is = ap (λ (k : List Bytes). y ∷ k) a.is }

-- what is another element stands before it or after it
elsewhere : {y : Bytes} (before after : List Bytes) (x : Bytes) → (y ≡ x → ⊥) → y ∈ (before ++ (x ∷ after)) → y ∈ (before ++ after)
elsewhere {y} before after x other m = ⊎_elim (Memᴰ.append_left after) last (Memᴰ.append_cases before m)
  where
    last : y ∈ (x ∷ after) → y ∈ (before ++ after)
    last (Memᴰ.head e) = absurd (other e)
    last (Memᴰ.tail n) = Memᴰ.append_right before n

pub once_few : {xs : List Bytes} → Once xs → (ys : List Bytes) → ((x : Bytes) → x ∈ xs → x ∈ ys) → length xs ≤ length ys
once_few once_none ys within = omega arith
once_few (once_more {x = x} {xs = xs} apart once) ys within =
    let a = around (within x (Memᴰ.head refl)) in
    let rest = once_few once (a.before ++ a.after)
    (λ y m. elsewhere a.before a.after x (λ e. apart (Memᴰ.cast (sym e) m)) (subst (λ (l : List Bytes). y ∈ l) a.is (within y (Memᴰ.tail m)))) in
    omega (arith, rest, ap length a.is, length-append a.before (x ∷ a.after), length-append a.before a.after)

pub once_append : {xs ys : List Bytes} → Once xs → Once ys → ((x : Bytes) → x ∈ xs → x ∈ ys → ⊥) → Once (xs ++ ys)
once_append once_none once apart = once
once_append (once_more {x = x} {xs = xs} new rest) once apart =
    once_more (λ m. ⊎_elim new (apart x (Memᴰ.head refl)) (Memᴰ.append_cases xs m)) (once_append rest once (λ y m. apart y (Memᴰ.tail m)))
