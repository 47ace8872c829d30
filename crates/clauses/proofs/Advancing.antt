-- What each kind of token makes of where the reader stands.
use mathlib.Core.Path.{◌≡◌, refl, sym, ◌∙◌, ap, subst}
use mathlib.Core.Bool.{Bool, true, false, not, ◌&&◌, ◌||◌}
use mathlib.Core.List.{List, [], ◌∷◌}
use mathlib.Core.Option.{Option, some, none}
use Prim.Native.Nat.{ℕ, ◌+◌, ◌-◌, ◌≤◌}
use native.Mathlib.Omega.{arith}
use lib.Dec.{eqb}
use lib.ListN.{length}
use Rattle.groundwork.proofs.Truth.{eqb-different, eqb-unequal, or_not_right, never_both}
use Rattle.theory.specs.Lists.{is_some, is_empty}
use Rattle.theory.specs.Text.{Bytes}
use Rattle.theory.specs.Terms.{Term, Terms, symbol, nil, cons}
use Rattle.theory.specs.Terms as Terms
use Rattle.clause_theory.specs.ClauseTokens.{name, variable, opens, closes, comma, neck, stop, stray}
use Rattle.clause_theory.specs.ClauseTokens as T
use Rattle.clause_theory.specs.Clauses.{State, Clause, Open, ending_term, due, read, is_due, state, step_due, step_opens, step_atom, step_argument, step_read, step_after, step}
use Rattle.clause_theory.specs.Clauses as Grammar
use Rattle.clause_tokens.specs.NextTokens.{Seen, seen_name, seen_variable, seen_lone, seen_sign, sign_opens, sign_closes, sign_comma, sign_neck, sign_stop, sign_stray}
use Rattle.clause_tokens.specs.declared.Mark.{Mark}
use Rattle.clause_tokens.specs.declared.Mark.TheVariants.{Name, Opens, Closes, Comma, Neck, Stop, Stray}
use types.Run.{OneOf, miss}
use denote.Enum.Bare.{sameb}
use denote.Enum.Declared.{tag_of}
use Rattle.clause_tokens.specs.contracts.Mark.{the_type}
use Rattle.clauses.specs.declared.Last.{Last}
use Rattle.clauses.specs.declared.Last.TheVariants.{Due, Name as Named, Term as Other}
use Rattle.clauses.specs.contracts.Last.{the_type as last_type}
use Rattle.clauses.specs.declared.Standing.{Standing}
use Rattle.clauses.specs.declared.Step.{Step}
use Rattle.clauses.specs.declared.Step.TheVariants.{Refuses, Goes, Ends}
use Rattle.clauses.specs.Standings.{LastIs, is_due_lem, is_name_lem, is_variable_lem, is_compound, Stands, StepIs, step_refuses, step_goes, step_ends, Advances}

-- ---- the tests of where the reader stands, as tests of the state

last_due : {l : Grammar.Last} {last : Last} {r : Bool} → r ≡ sameb last_type last Due → LastIs l last → r ≡ is_due l
unfolding is_due
last_due told is_due_lem = told
last_due told is_name_lem = told
last_due told is_variable_lem = told
last_due told is_compound = told

depth_none : (opened : List Open) (depth : ℕ) → depth ≡ length opened → eqb depth 0 ≡ is_empty opened
unfolding is_empty
depth_none [] depth e = ap (λ d. eqb d 0) e
depth_none (o ∷ opened) depth e = eqb-different depth 0 (λ z. omega arith)

-- ---- steps, by the parts of a state

module _ (before : Option Clause) where
  name_refuses : (opened : List Open) (l : Grammar.Last) (f : Bytes) → is_due l ≡ false → StepIs (step_after before opened l (name f)) Refuses
  unfolding step_after step_read step_atom step_argument is_due
  name_refuses opened due f e = never_both refl e
  name_refuses [] (read t) f e = step_refuses
  name_refuses (o ∷ opened) (read t) f e = step_refuses

  name_goes : {r : Standing} → (opened : List Open) (l : Grammar.Last) (f : Bytes) → is_due l ≡ true → Stands (state before opened (read (symbol f nil))) r → StepIs (step_after before opened l (name f)) (Goes r)
  unfolding step_after step_due is_due
  name_goes opened due f e stands = step_goes stands
  name_goes opened (read t) f e stands = never_both e refl

  variable_refuses : (opened : List Open) (l : Grammar.Last) (x : Bytes) → (not (is_due l) || is_empty opened) ≡ true → StepIs (step_after before opened l (variable x)) Refuses
  unfolding step_after step_due step_read step_atom step_argument is_due is_empty
  variable_refuses [] due x e = step_refuses
  variable_refuses (o ∷ opened) due x e = never_both e refl
  variable_refuses [] (read t) x e = step_refuses
  variable_refuses (o ∷ opened) (read t) x e = step_refuses

  variable_goes : {r : Standing} → (opened : List Open) (l : Grammar.Last) (x : Bytes) → (not (is_due l) || is_empty opened) ≡ false → Stands (state before opened (read (Terms.variable x))) r → StepIs (step_after before opened l (variable x)) (Goes r)
  unfolding step_after step_due is_due is_empty
  variable_goes [] due x e stands = never_both refl e
  variable_goes (o ∷ opened) due x e stands = step_goes stands
  variable_goes opened (read t) x e stands = never_both refl e

  opens_refuses : (opened : List Open) {l : Grammar.Last} {last : Last} {r : Bool} → r ≡ sameb last_type last Named → r ≡ false → LastIs l last → StepIs (step_after before opened l opens) Refuses
  unfolding step_after step_due step_read step_atom step_argument step_opens
  opens_refuses opened told e is_due_lem = step_refuses
  opens_refuses opened told e is_name_lem = never_both told e
  opens_refuses [] told e is_variable_lem = step_refuses
  opens_refuses (o ∷ opened) told e is_variable_lem = step_refuses
  opens_refuses [] told e is_compound = step_refuses
  opens_refuses (o ∷ opened) told e is_compound = step_refuses

  opens_goes : {next : Standing} (opened : List Open) {l : Grammar.Last} {last : Last} {r : Bool} → r ≡ sameb last_type last Named → r ≡ true → LastIs l last
      → ((f : Bytes) → Stands (state before (record { name = f; before = nil } ∷ opened) due) next) → StepIs (step_after before opened l opens) (Goes next)
  unfolding step_after step_read step_atom step_argument step_opens
  opens_goes opened told e is_due_lem stands = never_both e told
  opens_goes [] told e (is_name_lem {f = f}) stands = step_goes (stands f)
  opens_goes (o ∷ opened) told e (is_name_lem {f = f}) stands = step_goes (stands f)
  opens_goes opened told e is_variable_lem stands = never_both e told
  opens_goes opened told e is_compound stands = never_both e told

  closes_refuses : (opened : List Open) (l : Grammar.Last) → (is_due l || is_empty opened) ≡ true → StepIs (step_after before opened l closes) Refuses
  unfolding step_after step_due step_read step_atom step_argument is_due is_empty
  closes_refuses opened due e = step_refuses
  closes_refuses [] (read t) e = step_refuses
  closes_refuses (o ∷ opened) (read t) e = never_both e refl

  closes_goes : {r : Standing} → (opened : List Open) (l : Grammar.Last) → (is_due l || is_empty opened) ≡ false
      → ((o : Open) (rest : List Open) (t : Term) → opened ≡ o ∷ rest → Stands (state before rest (read (symbol o.name (ending_term t o.before)))) r) → StepIs (step_after before opened l closes) (Goes r)
  unfolding step_after step_read step_argument is_due is_empty
  closes_goes opened due e stands = never_both refl e
  closes_goes [] (read t) e stands = never_both refl e
  closes_goes (o ∷ opened) (read t) e stands = step_goes (stands o opened t refl)

comma_refuses : (before : Option Clause) (opened : List Open) (l : Grammar.Last) → (is_due l || (is_empty opened && not (is_some before))) ≡ true → StepIs (step_after before opened l comma) Refuses
unfolding step_after step_due step_read step_atom step_argument is_due is_empty is_some
comma_refuses before opened due e = step_refuses
comma_refuses none [] (read t) e = step_refuses
comma_refuses (some c) [] (read t) e = never_both e refl
comma_refuses before (o ∷ opened) (read t) e = never_both e refl

comma_goes : {r : Standing} → (before : Option Clause) (opened : List Open) (l : Grammar.Last) → (is_due l || (is_empty opened && not (is_some before))) ≡ false
    → ((after : Option Clause) (rest : List Open) → is_some after ≡ is_some before → length rest ≡ length opened → Stands (state after rest due) r) → StepIs (step_after before opened l comma) (Goes r)
unfolding step_after step_read step_atom step_argument is_due is_empty is_some
comma_goes before opened due e stands = never_both refl e
comma_goes none [] (read t) e stands = never_both refl e
comma_goes (some c) [] (read t) e stands = step_goes (stands _ _ refl refl)
comma_goes before (o ∷ opened) (read t) e stands = step_goes (stands _ _ refl refl)

neck_refuses : (before : Option Clause) (opened : List Open) (l : Grammar.Last) → ((is_due l || not (is_empty opened)) || is_some before) ≡ true → StepIs (step_after before opened l neck) Refuses
unfolding step_after step_due step_read step_atom step_argument is_due is_empty is_some
neck_refuses before opened due e = step_refuses
neck_refuses none [] (read t) e = never_both e refl
neck_refuses (some c) [] (read t) e = step_refuses
neck_refuses before (o ∷ opened) (read t) e = step_refuses

neck_goes : {r : Standing} → (before : Option Clause) (opened : List Open) (l : Grammar.Last) → ((is_due l || not (is_empty opened)) || is_some before) ≡ false
    → ((c : Clause) → opened ≡ [] → Stands (state (some c) [] due) r) → StepIs (step_after before opened l neck) (Goes r)
unfolding step_after step_read step_atom is_due is_empty is_some
neck_goes before opened due e stands = never_both refl e
neck_goes none [] (read t) e stands = step_goes (stands _ refl)
neck_goes (some c) [] (read t) e stands = never_both refl e
neck_goes before (o ∷ opened) (read t) e stands = never_both refl e

stop_refuses : (before : Option Clause) (opened : List Open) (l : Grammar.Last) → (is_due l || not (is_empty opened)) ≡ true → StepIs (step_after before opened l stop) Refuses
unfolding step_after step_due step_read step_atom step_argument is_due is_empty
stop_refuses before opened due e = step_refuses
stop_refuses before [] (read t) e = never_both e refl
stop_refuses before (o ∷ opened) (read t) e = step_refuses

stop_ends : (before : Option Clause) (opened : List Open) (l : Grammar.Last) → (is_due l || not (is_empty opened)) ≡ false → StepIs (step_after before opened l stop) Ends
unfolding step_after step_read step_atom is_due is_empty
stop_ends before opened due e = never_both refl e
stop_ends before [] (read t) e = step_ends
stop_ends before (o ∷ opened) (read t) e = never_both refl e

stray_refuses : (s : Bytes) (before : Option Clause) (opened : List Open) (l : Grammar.Last) → StepIs (step_after before opened l (stray s)) Refuses
unfolding step_after step_due step_read step_atom step_argument
stray_refuses s before opened due = step_refuses
stray_refuses s before [] (read t) = step_refuses
stray_refuses s before (o ∷ opened) (read t) = step_refuses

-- ---- what a kind of token is to the grammar

by_name : (P : T.Mark → Type 0) {x : Bytes} {m : T.Mark} → Seen x Name m → ((f : Bytes) → P (name f)) → P m
by_name P {x} (seen_name w) p = p x
by_name P (seen_sign s) p = elim s [ ]

by_variable : (P : T.Mark → Type 0) {x : Bytes} {k : Mark} {m : T.Mark} → OneOf (1 ∷ 2 ∷ []) (tag_of the_type k) → Seen x k m → ((y : Bytes) → P (variable y)) → P m
by_variable P way (seen_name w) p = absurd (miss (1 ∷ 2 ∷ []) 0 tt way)
by_variable P {x} way (seen_variable w l) p = p x
by_variable P way seen_lone p = p _
by_variable P way (seen_sign sign_opens) p = absurd (miss (1 ∷ 2 ∷ []) 3 tt way)
by_variable P way (seen_sign sign_closes) p = absurd (miss (1 ∷ 2 ∷ []) 4 tt way)
by_variable P way (seen_sign sign_comma) p = absurd (miss (1 ∷ 2 ∷ []) 5 tt way)
by_variable P way (seen_sign sign_neck) p = absurd (miss (1 ∷ 2 ∷ []) 6 tt way)
by_variable P way (seen_sign sign_stop) p = absurd (miss (1 ∷ 2 ∷ []) 7 tt way)
by_variable P way (seen_sign sign_stray) p = absurd (miss (1 ∷ 2 ∷ []) 8 tt way)

by_opens : (P : T.Mark → Type 0) {x : Bytes} {m : T.Mark} → Seen x Opens m → P opens → P m
by_opens P (seen_sign sign_opens) p = p

by_closes : (P : T.Mark → Type 0) {x : Bytes} {m : T.Mark} → Seen x Closes m → P closes → P m
by_closes P (seen_sign sign_closes) p = p

by_comma : (P : T.Mark → Type 0) {x : Bytes} {m : T.Mark} → Seen x Comma m → P comma → P m
by_comma P (seen_sign sign_comma) p = p

by_neck : (P : T.Mark → Type 0) {x : Bytes} {m : T.Mark} → Seen x Neck m → P neck → P m
by_neck P (seen_sign sign_neck) p = p

by_stop : (P : T.Mark → Type 0) {x : Bytes} {m : T.Mark} → Seen x Stop m → P stop → P m
by_stop P (seen_sign sign_stop) p = p

by_stray : (P : T.Mark → Type 0) {x : Bytes} {m : T.Mark} → Seen x Stray m → ((s : Bytes) → P (stray s)) → P m
by_stray P (seen_sign sign_stray) p = p _

-- ---- what `advance` cites

ending_compound : {f : Bytes} (t : Term) (us : Terms) → LastIs (read (symbol f (ending_term t us))) Other
unfolding ending_term
ending_compound t nil = is_compound
ending_compound t (cons u us) = is_compound

-- the grammar's step, by the parts of the state
abbrev Steps : Standing → Mark → Step → Type 0
Steps from mark r =
    (x : Bytes) (m : T.Mark) → Seen x mark m → (before : Option Clause) (opened : List Open) (l : Grammar.Last) → LastIs l from.last → from.depth ≡ length opened → from.body ≡ is_some before
    → StepIs (step_after before opened l m) r

module _ {from : Standing} {mark : Mark} where
  refused : Steps from mark Refuses → Advances from mark Refuses
  unfolding step
  refused steps =
      record { steps = λ {s} {x} {m} stands seen. steps x m seen s.before s.opened s.last stands.last_is stands.depth_is stands.body_is; deep = tt }

  gone : {next : Standing} → next.depth ≤ from.depth + 1 → Steps from mark (Goes next) → Advances from mark (Goes next)
  unfolding step
  gone deep steps =
      record {
        steps = λ {s} {x} {m} stands seen. steps x m seen s.before s.opened s.last stands.last_is stands.depth_is stands.body_is;
        deep = deep;
      }

  module _ {isDue : Bool} (told : isDue ≡ sameb last_type from.last Due) where
    module _ (is : mark ≡ Name) where
      pub name_not : isDue ≡ false → Advances from mark Refuses
      name_not h = refused (λ x m seen before opened l li d b.
          by_name (λ k. StepIs (step_after before opened l k) Refuses) (subst (λ k. Seen x k m) is seen) (λ f. name_refuses before opened l f (sym (last_due told li) ∙ h)))

      pub name_read : isDue ≡ true → Advances from mark (Goes (record { last = Named; depth = from.depth; body = from.body }))
      name_read h = gone (omega arith) (λ x m seen before opened l li d b.
          by_name (λ k. StepIs (step_after before opened l k) (Goes (record { last = Named; depth = from.depth; body = from.body }))) (subst (λ k. Seen x k m) is seen)
          (λ f. name_goes before opened l f (sym (last_due told li) ∙ h) (record { last_is = is_name_lem; depth_is = d; body_is = b })))

    module _ (way : OneOf (1 ∷ 2 ∷ []) (tag_of the_type mark)) where
      pub variable_not : (not isDue || eqb from.depth 0) ≡ true → Advances from mark Refuses
      variable_not h = refused (λ x m seen before opened l li d b.
          by_variable (λ k. StepIs (step_after before opened l k) Refuses) way seen (λ y. variable_refuses before opened l y (rw (last_due told li, depth_none opened from.depth d) at h)))

      pub variable_read : (not isDue || eqb from.depth 0) ≡ false → Advances from mark (Goes (record { last = Other; depth = from.depth; body = from.body }))
      variable_read h = gone (omega arith) (λ x m seen before opened l li d b.
          by_variable (λ k. StepIs (step_after before opened l k) (Goes (record { last = Other; depth = from.depth; body = from.body }))) way seen
          (λ y. variable_goes before opened l y (rw (last_due told li, depth_none opened from.depth d) at h) (record { last_is = is_variable_lem; depth_is = d; body_is = b })))

    module _ (is : mark ≡ Closes) where
      pub closes_not : (isDue || eqb from.depth 0) ≡ true → Advances from mark Refuses
      closes_not h = refused (λ x m seen before opened l li d b.
          by_closes (λ k. StepIs (step_after before opened l k) Refuses) (subst (λ k. Seen x k m) is seen) (closes_refuses before opened l (rw (last_due told li, depth_none opened from.depth d) at h)))

      pub closes_read : (isDue || eqb from.depth 0) ≡ false → Advances from mark (Goes (record { last = Other; depth = from.depth - 1; body = from.body }))
      closes_read h = gone (omega arith) (λ x m seen before opened l li d b.
          by_closes (λ k. StepIs (step_after before opened l k) (Goes (record { last = Other; depth = from.depth - 1; body = from.body }))) (subst (λ k. Seen x k m) is seen)
          (closes_goes before opened l (rw (last_due told li, depth_none opened from.depth d) at h)
          (λ o rest t e. record { last_is = ending_compound t o.before; depth_is = omega (arith, d, ap length e); body_is = b })))

    module _ (is : mark ≡ Comma) where
      pub comma_not : (isDue || (eqb from.depth 0 && not from.body)) ≡ true → Advances from mark Refuses
      comma_not h = refused (λ x m seen before opened l li d b.
          by_comma (λ k. StepIs (step_after before opened l k) Refuses) (subst (λ k. Seen x k m) is seen) (comma_refuses before opened l (rw (last_due told li, depth_none opened from.depth d, b) at h)))

      pub comma_read : (isDue || (eqb from.depth 0 && not from.body)) ≡ false → Advances from mark (Goes (record { last = Due; depth = from.depth; body = from.body }))
      comma_read h = gone (omega arith) (λ x m seen before opened l li d b.
          by_comma (λ k. StepIs (step_after before opened l k) (Goes (record { last = Due; depth = from.depth; body = from.body }))) (subst (λ k. Seen x k m) is seen)
          (comma_goes before opened l (rw (last_due told li, depth_none opened from.depth d, b) at h) (λ after rest some many. record { last_is = is_due_lem; depth_is = d ∙ sym many; body_is = b ∙ sym some })))

    module _ (is : mark ≡ Neck) where
      pub neck_not : ((isDue || not (eqb from.depth 0)) || from.body) ≡ true → Advances from mark Refuses
      neck_not h = refused (λ x m seen before opened l li d b.
          by_neck (λ k. StepIs (step_after before opened l k) Refuses) (subst (λ k. Seen x k m) is seen) (neck_refuses before opened l (rw (last_due told li, depth_none opened from.depth d, b) at h)))

      pub neck_read : ((isDue || not (eqb from.depth 0)) || from.body) ≡ false → Advances from mark (Goes (record { last = Due; depth = from.depth; body = true }))
      unfolding is_some
      neck_read h = gone (omega arith) (λ x m seen before opened l li d b.
          by_neck (λ k. StepIs (step_after before opened l k) (Goes (record { last = Due; depth = from.depth; body = true }))) (subst (λ k. Seen x k m) is seen)
          (neck_goes before opened l (rw (last_due told li, depth_none opened from.depth d, b) at h) (λ c e. record { last_is = is_due_lem; depth_is = d ∙ ap length e; body_is = refl })))

    module _ (is : mark ≡ Stop) where
      pub stop_not : (isDue || not (eqb from.depth 0)) ≡ true → Advances from mark Refuses
      stop_not h = refused (λ x m seen before opened l li d b.
          by_stop (λ k. StepIs (step_after before opened l k) Refuses) (subst (λ k. Seen x k m) is seen) (stop_refuses before opened l (rw (last_due told li, depth_none opened from.depth d) at h)))

      pub stop_read : (isDue || not (eqb from.depth 0)) ≡ false → Advances from mark Ends
      unfolding step
      stop_read h =
          record {
            steps = λ {s} {x} {m} stands seen.
                by_stop (λ k. StepIs (step_after s.before s.opened s.last k) Ends) (subst (λ k. Seen x k m) is seen)
                (stop_ends s.before s.opened s.last (rw (last_due told stands.last_is, depth_none s.opened from.depth stands.depth_is) at h));
            deep = tt;
          }

  module _ {isName : Bool} (told : isName ≡ sameb last_type from.last Named) (is : mark ≡ Opens) where
    pub opens_not : isName ≡ false → Advances from mark Refuses
    opens_not h = refused (λ x m seen before opened l li d b.
        by_opens (λ k. StepIs (step_after before opened l k) Refuses) (subst (λ k. Seen x k m) is seen) (opens_refuses before opened told h li))

    pub opens_read : isName ≡ true → Advances from mark (Goes (record { last = Due; depth = from.depth + 1; body = from.body }))
    opens_read h = gone (omega arith) (λ x m seen before opened l li d b.
        by_opens (λ k. StepIs (step_after before opened l k) (Goes (record { last = Due; depth = from.depth + 1; body = from.body }))) (subst (λ k. Seen x k m) is seen)
        (opens_goes before opened told h li (λ f. record { last_is = is_due_lem; depth_is = omega (arith, d); body_is = b })))

  pub stray_not : mark ≡ Stray → Advances from mark Refuses
  stray_not is = refused (λ x m seen before opened l li d b.
      by_stray (λ k. StepIs (step_after before opened l k) Refuses) (subst (λ k. Seen x k m) is seen) (λ s. stray_refuses s before opened l))

pub closes_deep : (isDue : Bool) (depth : ℕ) → (isDue || eqb depth 0) ≡ false → 1 ≤ depth
closes_deep isDue depth h = omega (arith, eqb-unequal depth 0 (or_not_right isDue (eqb depth 0) h))
