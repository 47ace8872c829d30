-- Lines that one writer writes: they begin with its letter, so a walk over that letter passes all of them, and one over
-- another letter none.
use mathlib.Core.Path.{◌≡◌, refl, sym, ◌∙◌, ap}
use mathlib.Core.Bool.{false}
use mathlib.Core.List.{List, [], ◌∷◌, ◌++◌, map, flat_map, map-append}
use Prim.Native.Nat.{ℕ, suc}
use lib.Dec.{eqb}
use lib.ListN.{length, drop}
use Rattle.groundwork.proofs.Truth.{eqb_same}
use Rattle.theory.specs.Text.{Bytes, bytes, joined, lines_of}
use Rattle.theory.specs.Packs.{Pack, Rule, line, predicate_line, claim_line, fact_line, head_line, subgoal_line, multiplier_line, end_line, rule_lines, from_rules, from_facts, from_claims, from_predicates, pack_lines}
use Rattle.sections.specs.declared.Run.{Run}
use Rattle.sections.specs.Sections.{begins, leading, past, LinesOfLetter, RulesBegin}
use Rattle.sections.proofs.Walks.{past_none}

-- ---- the letter of a line

-- a writer's lines have a letter as first field
abbrev pub Letters : {A : Type 0} → ℕ → (A → List Bytes) → Type 0
Letters {A} own writing = (letter : ℕ) (a : A) → begins letter (line (writing a)) ≡ eqb own letter

begins_line : (own letter : ℕ) (fields : List Bytes) → begins letter (line ((own ∷ []) ∷ fields)) ≡ eqb own letter
unfolding begins joined
begins_line own letter [] = refl
begins_line own letter (f ∷ fields) = refl

predicate_letter : Letters 80 predicate_line
unfolding predicate_line bytes
predicate_letter letter p = begins_line 80 letter _

claim_letter : Letters 67 claim_line
unfolding claim_line bytes
claim_letter letter c = begins_line 67 letter _

fact_letter : Letters 71 fact_line
unfolding fact_line bytes
fact_letter letter a = begins_line 71 letter _

head_letter : Letters 72 head_line
unfolding head_line bytes
head_letter letter a = begins_line 72 letter _

pub subgoal_letter : Letters 66 subgoal_line
unfolding subgoal_line bytes
subgoal_letter letter a = begins_line 66 letter _

pub multiplier_letter : Letters 77 multiplier_line
unfolding multiplier_line bytes
multiplier_letter letter ms = begins_line 77 letter _

end_letter : (letter : ℕ) → begins letter (line end_line) ≡ eqb 69 letter
unfolding end_line bytes
end_letter letter = begins_line 69 letter []

-- ---- a walk over the lines of a writer, where others follow

module _ {A : Type 0} (own : ℕ) (writing : A → List Bytes) (letters : Letters own writing) (more : List (List Bytes)) (rest : List Bytes) where
  pub walk_none : (letter : ℕ) → eqb own letter ≡ false → leading letter (map line more ++ rest) ≡ [] → (l : List A) → leading letter (map line (map writing l ++ more) ++ rest) ≡ []
  unfolding leading
  walk_none letter other none [] = none
  walk_none letter other none (a ∷ l) = rw (letters letter a, other) refl

  walk_count : leading own (map line more ++ rest) ≡ [] → (l : List A) → length (leading own (map line (map writing l ++ more) ++ rest)) ≡ length l
  unfolding leading
  walk_count none [] = ap length none
  walk_count none (a ∷ l) = rw (letters own a, eqb_same own) (ap suc (walk_count none l))

  walk_past : leading own (map line more ++ rest) ≡ [] → (l : List A) → past own (map line (map writing l ++ more) ++ rest) ≡ map line more ++ rest
  unfolding past
  walk_past none [] = past_none own _ none
  walk_past none (a ∷ l) = rw (letters own a, eqb_same own) (walk_past none l)

  module _ {text : Bytes} {from : ℕ} {r : Run} (run : LinesOfLetter text own from r) (none : leading own (map line more ++ rest) ≡ []) (l : List A) (stand : lines_of (drop from text) ≡ map line (map writing l ++ more) ++ rest) where
    pub run_count : r.lines ≡ length l
    run_count = run.many ∙ ap (λ (ls : List Bytes). length (leading own ls)) stand ∙ walk_count none l

    pub run_past : lines_of (drop r.after text) ≡ map line more ++ rest
    run_past = run.rest ∙ ap (past own) stand ∙ walk_past none l

-- ---- the sections of a pack

-- rules and the end: lines that begin with `H` or `E`
pub rules_none : (letter : ℕ) → eqb 72 letter ≡ false → eqb 69 letter ≡ false → (rs : List Rule) → leading letter (map line (flat_map rule_lines rs) ++ (line end_line ∷ [])) ≡ []
unfolding leading flat_map rule_lines
rules_none letter noHead no_end [] = rw (end_letter letter, no_end) refl
rules_none letter noHead no_end (r ∷ rs) = rw (head_letter letter r.head, noHead) refl

module _ (p : Pack) where
  end : List Bytes
  end = line end_line ∷ []

  facts_none : (letter : ℕ) → eqb 71 letter ≡ false → eqb 72 letter ≡ false → eqb 69 letter ≡ false → leading letter (map line (from_facts p) ++ end) ≡ []
  unfolding end from_facts from_rules
  facts_none letter noFact noHead no_end = walk_none 71 fact_line fact_letter (from_rules p) end letter noFact (rules_none letter noHead no_end p.rules) p.facts

  claims_none : leading 80 (map line (from_claims p) ++ end) ≡ []
  unfolding from_claims
  claims_none = walk_none 67 claim_line claim_letter (from_facts p) end 80 refl (facts_none 80 refl refl refl) p.claims

module _ {text : Bytes} {predicates claims facts : Run} (first : LinesOfLetter text 80 0 predicates) (second : LinesOfLetter text 67 predicates.after claims) (third : LinesOfLetter text 71 claims.after facts) where
  begun : (p : Pack) → lines_of text ≡ pack_lines p → lines_of (drop facts.after text) ≡ map line (from_rules p ++ (end_line ∷ []))
  unfolding end pack_lines from_predicates from_claims from_facts from_rules
  begun p stand =
      let whole = stand ∙ map-append line (from_predicates p) (end_line ∷ []) in
      let fromClaim = run_past 80 predicate_line predicate_letter (from_claims p) (end p) first (claims_none p) p.predicates whole in
      let fromFact = run_past 67 claim_line claim_letter (from_facts p) (end p) second (facts_none p 67 refl refl refl) p.claims fromClaim in
      run_past 71 fact_line fact_letter (from_rules p) (end p) third (rules_none 71 refl refl p.rules) p.facts fromFact
      ∙ sym (map-append line (from_rules p) (end_line ∷ []))

  pub rules_begun : RulesBegin text facts.after
  rules_begun = record { tells = begun }
