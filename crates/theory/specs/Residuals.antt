-- Document 01, "When a claim is justified": head form, residual; and the residual area's first 17 numbers.
use Rattle.std.specs.Prelude.{Bool, cond, List, [], ◌∷◌, ◌++◌, map, ℕ, ℤ, pos, take, replicate}
use Rattle.std.specs.Int.Signed.{non_neg}
use Rattle.theory.specs.Lists.{every}
use Rattle.theory.specs.Text.{Bytes, among}
use Rattle.theory.specs.Terms.{Terms, nil, cons, all_variables}
use Rattle.theory.specs.Sizes.{Measure}
use Rattle.theory.specs.Forms.{Form, zero_form, plus, times, minus, constant_form, form_of}
use Rattle.theory.specs.Packs.{Claim, Atom, variable_limit, claims_on, atom_key}

-- each coefficient times the size of its argument, added up
unfoldable pub weighted : Measure → List ℤ → Terms → Form
weighted m [] ts = zero_form
weighted m (c ∷ cs) nil = zero_form
weighted m (c ∷ cs) (cons t ts) = plus (times c (form_of m t)) (weighted m cs ts)

-- A claim with the sizes of an atom's arguments put in. For a rule's head it is the head form.
unfoldable pub claim_form : Measure → Atom → Claim → Form
claim_form m a c = plus (constant_form c.constant) (weighted m c.coefficients a.terms)

-- the claims on the subgoals' predicates with the subgoals' sizes put in, in the order of an `M` line
unfoldable pub subgoal_forms : Measure → List Claim → List Atom → List Form
subgoal_forms m claims [] = []
subgoal_forms m claims (a ∷ subgoals) = map (claim_form m a) (claims_on (atom_key a) claims) ++ subgoal_forms m claims subgoals

-- each form times its multiplier, added up
unfoldable pub combined : List ℕ → List Form → Form
combined [] fs = zero_form
combined (m ∷ ms) [] = zero_form
combined (m ∷ ms) (f ∷ fs) = plus (times (pos m) f) (combined ms fs)

-- What is left of the head form when the subgoals' claims, each times its multiplier, are subtracted.
unfoldable pub residual : Measure → List Claim → Atom → List Atom → Claim → List ℕ → Form
residual m claims head subgoals claim multipliers = minus (claim_form m head claim) (combined multipliers (subgoal_forms m claims subgoals))

-- variables seen so far, and then those of a list that are not among them, each once
unfoldable pub numbered : List Bytes → List Bytes → List Bytes
numbered seen [] = seen
numbered seen (x ∷ xs) = numbered (cond (among x seen) seen (seen ++ (x ∷ []))) xs

unfoldable pub atoms_variables : List Atom → List Bytes
atoms_variables [] = []
atoms_variables (a ∷ rest) = all_variables a.terms ++ atoms_variables rest

-- A rule's variables, numbered by first occurrence in its text.
unfoldable pub rule_variables : Atom → List Atom → List Bytes
rule_variables head subgoals = numbered [] (atoms_variables (head ∷ subgoals))

-- the numbers of the residual area that check may change
abbrev pub area_needed : ℕ
area_needed = 17

-- A form as that many numbers: the constant, then the coefficients of a rule's variables in their order, then zeros.
unfoldable pub residual_numbers : List Bytes → Form → List ℤ
residual_numbers xs f = take area_needed (f.constant ∷ map f.coefficient xs ++ replicate variable_limit (pos 0))

-- the numbers of a residual that justifies its claim: none is below 0
unfoldable pub is_justified : List ℤ → Bool
is_justified numbers = every non_neg numbers
