-- The lines of a written pack write that pack, within the limits or not: only its parts must be such as can be written.
use mathlib.Core.Path.{◌≡◌, refl, ap}
use mathlib.Core.Bool.{true}
use mathlib.Core.List.Memᴰ
use mathlib.Core.List.{List, [], ◌∷◌, ◌++◌, map, flat_map, map-append}
use Prim.Native.Nat.{ℕ, ◌≤◌}
use lib.IntN.{ℤ, nat_abs}
use Rattle.groundwork.proofs.Lists.{flat_map_end, flat_map_single, split_member, grown, all_cons, all_append}
use Rattle.theory.specs.Lists.{◌∈◌, ending}
use Rattle.theory.specs.Text.{Bytes, bytes, same, is_name, lines_of}
use Rattle.theory.specs.Terms.{AllWellFormed}
use Rattle.theory.specs.Packs.{Predicate, Claim, Atom, Rule, Pack, number_limit, predicate_line, claim_line, fact_line, subgoal_line, multiplier_line, end_line, rule_lines, open_lines, line, pack_lines, written, on_subgoals, on_multipliers, from_rules, from_facts, from_claims, from_predicates}
use Rattle.theory.specs.declared.Letter.{Letter}
use Rattle.theory.specs.Written.{Written, nothing, write, write_all, pack_of}
use Rattle.theory.specs.Limits.{PredicateFits, AtomFits, Fits}
use Rattle.theory.proofs.Judging.AtomLines.{fact_adds, head_adds, subgoal_adds}
use Rattle.theory.proofs.Judging.ClaimLines.{claim_adds}
use Rattle.theory.proofs.Judging.Faultless.{Adds}
use Rattle.theory.proofs.Judging.LastRule.{on_last_end}
use Rattle.theory.proofs.Reading.Letters.{letter_field}
use Rattle.theory.proofs.Judging.LineReading.{before, after, end_adds, writes_line}
use Rattle.theory.proofs.Judging.MultiplierLines.{multiplier_adds}
use Rattle.theory.proofs.Reading.PlainFields.{line_free}
use Rattle.theory.proofs.Judging.PredicateLines.{predicate_adds}
use Rattle.theory.proofs.Reading.Separators.{is_free, AllFree, lines_of_text}
use Rattle.theory.proofs.Judging.Steps.{parts}

-- ---- packs whose parts can be written

pub record ClaimSpelled (c : Claim) : Type 0 where
  pub named : is_name c.name ≡ true
  pub constant : nat_abs c.constant ≤ number_limit
  pub coefficients : (z : ℤ) → z ∈ c.coefficients → nat_abs z ≤ number_limit

pub record AtomSpelled (a : Atom) : Type 0 where
  pub named : is_name a.name ≡ true
  pub formed : AllWellFormed a.terms

pub record RuleSpelled (r : Rule) : Type 0 where
  pub head : AtomSpelled r.head
  pub subgoals : (a : Atom) → a ∈ r.subgoals → AtomSpelled a
  pub multipliers : (ms : List ℕ) → ms ∈ r.multipliers → (m : ℕ) → m ∈ ms → m ≤ number_limit

pub record Spelled (p : Pack) : Type 0 where
  pub predicates : (x : Predicate) → x ∈ p.predicates → PredicateFits x
  pub claims : (c : Claim) → c ∈ p.claims → ClaimSpelled c
  pub facts : (f : Atom) → f ∈ p.facts → AtomSpelled f
  pub rules : (r : Rule) → r ∈ p.rules → RuleSpelled r

atom_spelled : {ps : List Predicate} {a : Atom} → AtomFits ps a → AtomSpelled a
atom_spelled fits = record { named = fits.named; formed = fits.formed }

pub fits_spelled : (p : Pack) → Fits p → Spelled p
fits_spelled p fits = record {
  predicates = fits.formed.predicates;
  claims = λ c m. let claim = fits.formed.claims c m in record { named = claim.named; constant = claim.constant; coefficients = claim.coefficients };
  facts = λ f m. atom_spelled (fits.formed.facts f m).atom;
  rules = λ r m.
      let rule = fits.formed.rules r m in
      record {
        head = atom_spelled rule.head;
        subgoals = λ a n. atom_spelled (rule.subgoals a n);
        multipliers = λ ms n. (rule.multipliers ms n).small;
      };
}

-- ---- what lines write

-- after lines that write w, lines with these fields write v; and no byte 10 is in them, so the text is cut into them again
record Lead (w : Written) (lines : List (List Bytes)) (v : Written) : Type 0 where
  writes : write_all w (map line lines) ≡ v
  free : AllFree 10 (map line lines)

lead_none : {w : Written} → Lead w [] w
unfolding write_all
lead_none = record { writes = refl; free = λ l m. absurd (Memᴰ.not-nil m) }

lead_line : {letter : Letter} {p q : Pack} {fields : List Bytes} → Adds letter p fields q → Lead (before p) (fields ∷ []) (record { pack = q; ended = same (letter_field letter) (bytes "E") })
unfolding write_all
lead_line {fields = fields} adds = record { writes = writes_line adds; free = all_cons (λ l. is_free 10 l ≡ true) (line_free fields adds.plain) (λ l m. absurd (Memᴰ.not-nil m)) }

write_all_append : (w : Written) (ls ks : List Bytes) → write_all w (ls ++ ks) ≡ write_all (write_all w ls) ks
unfolding write_all
write_all_append w [] ks = refl
write_all_append w (l ∷ ls) ks = write_all_append (write w l) ls ks

lead_append : {u v w : Written} {lines more : List (List Bytes)} → Lead u lines v → Lead v more w → Lead u (lines ++ more) w
lead_append {u} {lines = lines} {more} first rest = record {
  writes = rw (map-append line lines more, write_all_append u (map line lines) (map line more), first.writes) rest.writes;
  free = rw (map-append line lines more) (all_append (λ l. is_free 10 l ≡ true) (map line lines) (map line more) first.free rest.free);
}

-- Lines that add one element to a list of the pack: those of all its elements write the list.
module _ {A : Type 0} (place : List A → Pack) where
  lead_all : (lines_for : A → List (List Bytes)) (l : List A) → ((earlier : List A) (a : A) → a ∈ l → Lead (before (place earlier)) (lines_for a) (before (place (earlier ++ (a ∷ [])))))
      → Lead (before (place [])) (flat_map lines_for l) (before (place l))
  unfolding flat_map
  lead_all lines_for l each = grown (λ k. Lead (before (place [])) (flat_map lines_for k) (before (place k))) l next lead_none
    where
      next : (earlier later : List A) (a : A) → l ≡ earlier ++ (a ∷ later) → Lead (before (place [])) (flat_map lines_for earlier) (before (place earlier))
          → Lead (before (place [])) (flat_map lines_for (earlier ++ (a ∷ []))) (before (place (earlier ++ (a ∷ []))))
      next earlier later a e lead = rw (flat_map_end lines_for earlier a) (lead_append lead (each earlier a (split_member earlier later a e)))

  lead_map : (line_for : A → List Bytes) (l : List A) → ((earlier : List A) (a : A) → a ∈ l → Lead (before (place earlier)) (line_for a ∷ []) (before (place (earlier ++ (a ∷ [])))))
      → Lead (before (place [])) (map line_for l) (before (place l))
  lead_map line_for l each = rw (← flat_map_single line_for l) (lead_all (λ a. line_for a ∷ []) l each)

-- ---- the lines of a pack

rule_leads : (ps : List Predicate) (cs : List Claim) (fs : List Atom) (earlier : List Rule) (r : Rule) → RuleSpelled r → Lead (before (parts ps cs fs earlier)) (rule_lines r) (before (parts ps cs fs (earlier ++ (r ∷ []))))
unfolding rule_lines letter_field same bytes
rule_leads ps cs fs earlier r spelled =
    let head = spelled.head in
    lead_append (lead_line (head_adds r.head head.formed (parts ps cs fs earlier) head.named))
    (lead_append (lead_map (λ gs. begun gs []) subgoal_line r.subgoals subgoal) (lead_map (begun r.subgoals) multiplier_line r.multipliers multipliers))
  where
    rule : List Atom → List (List ℕ) → Rule
    rule gs mss = on_multipliers (λ (old : List (List ℕ)). mss) (on_subgoals (λ (old : List Atom). gs) r)

    begun : List Atom → List (List ℕ) → Pack
    begun gs mss = parts ps cs fs (earlier ++ (rule gs mss ∷ []))

    subgoal : (gs : List Atom) (a : Atom) → a ∈ r.subgoals → Lead (before (begun gs [])) (subgoal_line a ∷ []) (before (begun (gs ++ (a ∷ [])) []))
    subgoal gs a m =
        let s = spelled.subgoals a m in
        rw (← on_last_end (on_subgoals (ending a)) earlier (rule gs [])) (lead_line (subgoal_adds a s.formed (begun gs []) s.named))

    multipliers : (mss : List (List ℕ)) (ms : List ℕ) → ms ∈ r.multipliers → Lead (before (begun r.subgoals mss)) (multiplier_line ms ∷ []) (before (begun r.subgoals (mss ++ (ms ∷ []))))
    multipliers mss ms m = rw (← on_last_end (on_multipliers (ending ms)) earlier (rule r.subgoals mss)) (lead_line (multiplier_adds ms (spelled.multipliers ms m) (begun r.subgoals mss)))

pack_leads : (p : Pack) → Spelled p → Lead nothing (open_lines p ++ (end_line ∷ [])) (after p)
unfolding from_predicates from_claims from_facts from_rules nothing letter_field same bytes
pack_leads p spelled =
    let ps = p.predicates in
    let cs = p.claims in
    let fs = p.facts in
    lead_append
    (lead_append (lead_map (λ xs. parts xs [] [] []) predicate_line ps (λ earlier x m. lead_line (predicate_adds (parts earlier [] [] []) x (spelled.predicates x m))))
    (lead_append (lead_map (λ ds. parts ps ds [] []) claim_line cs (λ earlier c m. let claim = spelled.claims c m in lead_line (claim_adds c claim.constant claim.coefficients (parts ps earlier [] []) claim.named)))
    (lead_append (lead_map (λ gs. parts ps cs gs []) fact_line fs (λ earlier f m. let fact = spelled.facts f m in lead_line (fact_adds f fact.formed (parts ps cs earlier []) fact.named)))
    (lead_all (λ rs. parts ps cs fs rs) rule_lines p.rules (λ earlier r m. rule_leads ps cs fs earlier r (spelled.rules r m))))))
    (lead_line (end_adds p))

pub lines_again : (p : Pack) → Spelled p → lines_of (written p) ≡ pack_lines p
unfolding written pack_lines
lines_again p spelled = lines_of_text (pack_lines p) (pack_leads p spelled).free

-- what is written and then read is the pack again
pub lines_write : (p : Pack) → Spelled p → pack_of (written p) ≡ p
unfolding pack_of pack_lines
lines_write p spelled = rw (pack_of, lines_again p spelled) (ap (λ (w : Written). w.pack) (pack_leads p spelled).writes)
