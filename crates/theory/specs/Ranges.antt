-- Document 01, "Forms", its last sentence: which forms stay in the signed 64-bit range.
use Rattle.std.specs.Prelude.{◌≡◌, ◌⊎◌, List, ◌∷◌, ◌++◌, ℕ, ◌^◌, ◌<◌, pos, nat_abs, take}
use Rattle.theory.specs.Lists.{◌∈◌}
use Rattle.theory.specs.Text.{Bytes, lines_of, fields_of}
use Rattle.theory.specs.Forms.{Form, times}
use Rattle.theory.specs.Packs.{Claim, Atom, Rule, Pack, measure_in, atom_key, claims_on}
use Rattle.theory.specs.declared.Letter.TheVariants.{M}
use Rattle.theory.specs.Written.{line_letter, nothing, write_all, multipliers_from}
use Rattle.theory.specs.Residuals.{claim_form, subgoal_forms, combined, residual}
use Rattle.theory.specs.Faults.{whole, fault, last_rule, claim_due}
use Rattle.theory.specs.Outcomes.{AllFine}

pub record InRange (f : Form) : Type 0 where
  pub constant : nat_abs f.constant < 2 ^ 63
  pub coefficient : (x : Bytes) → nat_abs (f.coefficient x) < 2 ^ 63

-- the claim with its first i numbers alone: its form is a partial sum, and the whole form where i is large enough
abbrev pub up_to : ℕ → Claim → Claim
up_to i c = record { name = c.name; constant = c.constant; coefficients = take i c.coefficients }

-- All that is worked out for a claim on a rule's head with some multipliers, each sum at every step.
pub record FormsInRange (p : Pack) (r : Rule) (c : Claim) (ms : List ℕ) : Type 0 where
  pub head : (i : ℕ) → InRange (claim_form (measure_in p) r.head (up_to i c))
  pub subgoals : (a : Atom) → a ∈ r.subgoals → (d : Claim) → d ∈ claims_on (atom_key a) p.claims → (i : ℕ) → InRange (claim_form (measure_in p) a (up_to i d))
  pub multiples : (f : Form) → f ∈ subgoal_forms (measure_in p) p.claims r.subgoals → (m : ℕ) → m ∈ ms → InRange (times (pos m) f)
  pub sums : (i : ℕ) → InRange (combined (take i ms) (subgoal_forms (measure_in p) p.claims r.subgoals))
  -- what is left after i of the multiples are taken away, and in the end the residual
  pub left : (i : ℕ) → InRange (residual (measure_in p) p.claims r.head r.subgoals c (take i ms))

-- Of every line of multipliers that is judged, in texts that are accepted or refused at 13 or later.
pub record FormsFit (text : Bytes) : Type 0 where
  pub in_range : (before : List Bytes) (l : Bytes) (after : List Bytes) → lines_of text ≡ before ++ l ∷ after → AllFine whole nothing before → line_letter l ≡ M
      → (fault whole (write_all nothing before) l ≡ 0) ⊎ (fault whole (write_all nothing before) l ≡ 13)
      → FormsInRange (write_all nothing before).pack (last_rule (write_all nothing before).pack) (claim_due (write_all nothing before).pack) (multipliers_from (fields_of l))
