-- The last of some rules: what `last_of` and `on_last` give, by the rules before it.
use mathlib.Core.Path.{◌≡◌, refl, sym, ◌∙◌, ap, subst}
use mathlib.Core.Logic.{◌⊎◌}
use mathlib.Core.List.Memᴰ
use mathlib.Core.List.{List, [], ◌∷◌, ◌++◌, drop_last, nil≢cons}
use Rattle.theory.specs.Lists.{◌∈◌}
use Rattle.theory.specs.Packs.{Rule}
use Rattle.theory.specs.Written.{on_last}
use Rattle.theory.specs.Faults.{last_of}
use Rattle.groundwork.proofs.Lists.{member_unempty, end_cases}

pub last_of_end : (before : Rule) (rs : List Rule) (r : Rule) → last_of before (rs ++ (r ∷ [])) ≡ r
unfolding last_of
last_of_end before [] r = refl
last_of_end before (s ∷ rs) r = last_of_end s rs r

pub on_last_end : (change : Rule → Rule) (rs : List Rule) (r : Rule) → on_last change (rs ++ (r ∷ [])) ≡ rs ++ (change r ∷ [])
unfolding on_last
on_last_end change [] r = refl
on_last_end change (s ∷ []) r = refl
on_last_end change (s ∷ t ∷ rs) r = ap (λ l. s ∷ l) (on_last_end change (t ∷ rs) r)

-- ---- where there is a rule

pub last_parts : (before : Rule) (rs : List Rule) → (rs ≡ [] → ⊥) → rs ≡ drop_last rs ++ (last_of before rs ∷ [])
unfolding last_of
last_parts before [] h = absurd (h refl)
last_parts before (r ∷ []) h = refl
last_parts before (r ∷ s ∷ rs) h = ap (λ l. r ∷ l) (last_parts r (s ∷ rs) (λ e. nil≢cons (sym e)))

pub on_last_parts : (change : Rule → Rule) (before : Rule) (rs : List Rule) → (rs ≡ [] → ⊥) → on_last change rs ≡ drop_last rs ++ (change (last_of before rs) ∷ [])
on_last_parts change before rs h = ap (on_last change) (last_parts before rs h) ∙ on_last_end change (drop_last rs) (last_of before rs)

pub last_changed : (change : Rule → Rule) (before : Rule) (rs : List Rule) → (rs ≡ [] → ⊥) → last_of before (on_last change rs) ≡ change (last_of before rs)
last_changed change before rs h = ap (last_of before) (on_last_parts change before rs h) ∙ last_of_end before (drop_last rs) (change (last_of before rs))

pub last_member : (before : Rule) (rs : List Rule) → (rs ≡ [] → ⊥) → last_of before rs ∈ rs
last_member before rs h = subst (λ (l : List Rule). last_of before rs ∈ l) (sym (last_parts before rs h)) (Memᴰ.append_right (drop_last rs) (Memᴰ.head refl))

pub last_cases : (before : Rule) (rs : List Rule) {r : Rule} → r ∈ rs → (r ∈ drop_last rs) ⊎ (r ≡ last_of before rs)
last_cases before rs {r} m = end_cases (drop_last rs) (subst (λ (l : List Rule). r ∈ l) (last_parts before rs (member_unempty m)) m)
