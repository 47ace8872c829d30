-- The table of claims, with one claim more.
use mathlib.Core.Path.{◌≡◌, refl, sym, ◌∙◌, ap}
use mathlib.Core.Bool.{false}
use mathlib.Core.Logic.{◌⊎◌, inl, inr, ⊎_elim}
use mathlib.Core.List.{List, [], ◌∷◌, ◌++◌, map, append-nil}
use Prim.Native.Nat.{ℕ, ◌+◌, ◌-◌, ◌≤◌, ◌<◌}
use native.Mathlib.Nat.{add-zero, add_assoc}
use native.Mathlib.Omega.{arith}
use lib.Dec.{eqb, leb, ltb}
use lib.IntN.{ℤ, pos, nat_abs}
use lib.ListN.{length, get_or, drop, length-map, length-drop, get_or-map, get_or-eq_default}
use lib.Seq.{get_or-set_same, get_or-set_other, get_or-drop}
use Rattle.groundwork.proofs.Truth.{by_truth, eqb-equal, eqb-unequal, leb-le, leb-gt, ltb-lt, ltb-ge}
use Rattle.groundwork.proofs.Lists.{length_end}
use Rattle.theory.specs.Text.{Bytes, integer}
use Rattle.theory.specs.Packs.{Predicate, Claim, same_key, key_of, claim_key, claims_on, no_claim}
use Rattle.theory.specs.Written.{field, integer_from, claim_from}
use Rattle.theory.proofs.Reading.Places.{each_and_last}
use Rattle.theory.proofs.Judging.ClaimsOn.{claims_on_append, claims_on_kept, claims_on_left_out}
use Rattle.theory.proofs.Judging.Keys.{same_key_refl, same_key_equal}
use Rattle.tables.specs.declared.Signature.{Signature}
use Rattle.tables.specs.Tables.{no_signature, signature_at, counted, claim_place, ClaimAt, HoldsClaims, SafeSignatures, predicate_at}
use Rattle.declarations.specs.Fields.{ProgressC}
use Rattle.declarations.specs.Ends.{Laid}

-- ---- the claims on each predicate

-- the claims on the predicate at a place
abbrev claims_at : List Predicate → List Claim → ℕ → List Claim
claims_at ps cs i = claims_on (key_of (predicate_at ps i)) cs

-- with one claim more, on the predicate at place p; the other predicates have other keys
module _ (ps : List Predicate) (cs : List Claim) (c : Claim) (p : ℕ) (is : key_of (predicate_at ps p) ≡ claim_key c) (below : p < length ps)
    (distinct : (i : ℕ) → i < length ps → key_of (predicate_at ps i) ≡ key_of (predicate_at ps p) → i ≡ p) where
  on_it_lem : claims_at ps (cs ++ (c ∷ [])) p ≡ claims_at ps cs p ++ (c ∷ [])
  unfolding claims_on
  on_it_lem =
      claims_on_append (key_of (predicate_at ps p)) cs (c ∷ [])
      ∙ ap (λ (l : List Claim). claims_at ps cs p ++ l) (claims_on_kept (key_of (predicate_at ps p)) c [] (rw is (same_key_refl (claim_key c))))

  on_other : (i : ℕ) → i < length ps → (i ≡ p → ⊥) → claims_at ps (cs ++ (c ∷ [])) i ≡ claims_at ps cs i
  unfolding claims_on
  on_other i h other =
      let k = key_of (predicate_at ps i) in
      let unlike : same_key k (claim_key c) ≡ false = by_truth (λ b. b ≡ false) (same_key k (claim_key c)) (λ e. absurd (other (distinct i h (same_key_equal k (claim_key c) e ∙ sym is)))) (λ e. refl) in
      claims_on_append k cs (c ∷ []) ∙ ap (λ (l : List Claim). claims_on k cs ++ l) (claims_on_left_out k c [] unlike) ∙ append-nil (claims_on k cs)

  -- what holds of all claims by their predicates' places and their numbers, and of the one more, holds of all then
  each_claim : (Q : ℕ → ℕ → Claim → Type 0) → ((i j : ℕ) → i < length ps → j < length (claims_at ps cs i) → Q i j (get_or (claims_at ps cs i) j no_claim)) → Q p (length (claims_at ps cs p)) c
      → (i j : ℕ) → i < length ps → j < length (claims_at ps (cs ++ (c ∷ [])) i) → Q i j (get_or (claims_at ps (cs ++ (c ∷ [])) i) j no_claim)
  each_claim Q old added i j h =
      by_truth (λ b. j < length (claims_at ps (cs ++ (c ∷ [])) i) → Q i j (get_or (claims_at ps (cs ++ (c ∷ [])) i) j no_claim)) (eqb i p)
      (λ e. rw (eqb-equal i p e, on_it_lem) (each_and_last (λ d j. Q p j d) (claims_at ps cs p) c no_claim (λ j. old p j below) added j))
      (λ e. rw (on_other i h (eqb-unequal i p e)) (old i j h))

-- ---- their numbers

-- nine numbers laid elsewhere leave a claim as it is
stays : (claims₀ claims : List ℤ) (at place : ℕ) (row : List ℤ) (arity : ℕ) (c : Claim) → Laid claims₀ place row arity claims → (at + 9 ≤ place) ⊎ (place + 9 ≤ at) → ClaimAt claims₀ at c → ClaimAt claims at c
stays claims₀ claims at place row arity c laid apart is =
    record {
      constant = same at (omega arith) (omega arith) ∙ is.constant;
      coefficient = λ k h. same (at + 1 + k) (omega arith) (omega arith) ∙ is.coefficient k h;
    }
  where
    same : (q : ℕ) → at ≤ q → q < at + 9 → get_or claims q (pos 0) ≡ get_or claims₀ q (pos 0)
    same q low high = ⊎_elim (λ h. laid.below q (omega arith)) (λ h. laid.above q (omega arith)) apart

-- the places of two claims are apart
places_apart : (i j p n : ℕ) → j < 16 → n < 16 → (i ≡ p → j < n) → (claim_place i j + 9 ≤ claim_place p n) ⊎ (claim_place p n + 9 ≤ claim_place i j)
places_apart i j p n low room before =
    by_truth (λ b. (claim_place i j + 9 ≤ claim_place p n) ⊎ (claim_place p n + 9 ≤ claim_place i j)) (ltb p i)
    (λ e. let above = ltb-lt p i e in inr (omega arith))
    (λ e. inl (not_above (ltb-ge p i e)))
  where
    not_above : i ≤ p → claim_place i j + 9 ≤ claim_place p n
    not_above upper =
        by_truth (λ b. claim_place i j + 9 ≤ claim_place p n) (eqb i p)
        (λ e. let same = eqb-equal i p e in omega (arith, before same))
        (λ e. let other = eqb-unequal i p e in omega arith)

-- the claim that a line's fields write, laid into the table
pub claim_laid : (fields : List Bytes) (claims₀ claims : List ℤ) (place : ℕ) (row : List ℤ) (arity : ℕ) → Laid claims₀ place row arity claims → ProgressC (drop 2 fields) (length (drop 2 fields)) row → length fields ≡ arity + 3 → ClaimAt claims place (claim_from fields)
unfolding claim_from integer
claim_laid fields claims₀ claims place row arity laid done full =
    record {
      constant = ap (λ (q : ℕ). get_or claims q (pos 0)) (sym (add-zero place)) ∙ laid.number 0 (omega arith) (omega arith) ∙ number 0 (omega arith);
      coefficient = λ k h.
          ap (λ (q : ℕ). get_or claims q (pos 0)) (add_assoc place 1 k)
          ∙ by_truth (λ b. get_or claims (place + (1 + k)) (pos 0) ≡ get_or (map integer_from (drop 3 fields)) k (pos 0)) (ltb k arity)
          (λ e. let inside = ltb-lt k arity e in laid.number (1 + k) (omega arith) (omega arith) ∙ number (1 + k) (omega arith) ∙ ap (λ (q : ℕ). integer_from (field q fields)) (third k) ∙ sym (coefficient k))
          (λ e. let outside = ltb-ge k arity e in laid.beyond (1 + k) (omega arith) (omega arith) ∙ sym (get_or-eq_default (map integer_from (drop 3 fields)) (pos 0) {n = k} (omega (arith, length-map (drop 3 fields) integer_from, length-drop 3 fields))));
    }
  where
    number : (i : ℕ) → i < arity + 1 → get_or row i (pos 0) ≡ integer_from (field (2 + i) fields)
    number i h = rw (← get_or-drop 2 fields i [], done.read i (omega (arith, length-drop 2 fields)))

    third : (k : ℕ) → 2 + (1 + k) ≡ 3 + k
    third k = omega arith

    coefficient : (k : ℕ) → get_or (map integer_from (drop 3 fields)) k (pos 0) ≡ integer_from (field (3 + k) fields)
    coefficient k = get_or-map integer_from (drop 3 fields) k [] ∙ ap integer_from (get_or-drop 3 fields k [])

-- small numbers laid among small ones
pub laid_small : (claims₀ claims : List ℤ) (place : ℕ) (row : List ℤ) (arity : ℕ) → Laid claims₀ place row arity claims → ((i : ℕ) → nat_abs (get_or claims₀ i (pos 0)) ≤ 9999) → ((i : ℕ) → nat_abs (get_or row i (pos 0)) ≤ 9999) → (i : ℕ) → nat_abs (get_or claims i (pos 0)) ≤ 9999
laid_small claims₀ claims place row arity laid old small i =
    by_truth (λ b. nat_abs (get_or claims i (pos 0)) ≤ 9999) (ltb i place)
    (λ e. rw (laid.below i (ltb-lt i place e)) (old i))
    (λ e. from_place (ltb-ge i place e))
  where
    among_nine : (k : ℕ) → k < 9 → nat_abs (get_or claims (place + k) (pos 0)) ≤ 9999
    among_nine k h =
        by_truth (λ b. nat_abs (get_or claims (place + k) (pos 0)) ≤ 9999) (leb k arity)
        (λ e. rw (laid.number k h (leb-le k arity e)) (small k))
        (λ e. rw (laid.beyond k h (leb-gt k arity e)) (omega arith))

    from_place : place ≤ i → nat_abs (get_or claims i (pos 0)) ≤ 9999
    from_place h =
        let is : i ≡ place + (i - place) = omega arith in
        by_truth (λ b. nat_abs (get_or claims i (pos 0)) ≤ 9999) (ltb i (place + 9))
        (λ e. let near = ltb-lt i (place + 9) e in rw is (among_nine (i - place) (omega arith)))
        (λ e. rw (laid.above i (ltb-ge i (place + 9) e)) (old i))

-- ---- one claim more

module _ (signatures : List Signature) (claims₀ claims : List ℤ) (ps : List Predicate) (cs : List Claim) (holds : HoldsClaims signatures claims₀ ps cs) (few : length ps ≤ 32) (safe : SafeSignatures signatures) (size : length signatures ≡ 32)
    (p : ℕ) (below : p < length ps) (distinct : (i : ℕ) → i < length ps → key_of (predicate_at ps i) ≡ key_of (predicate_at ps p) → i ≡ p) (c : Claim) (is : key_of (predicate_at ps p) ≡ claim_key c) where
  abbrev count : ℕ
  count = (signature_at signatures p).claims

  abbrev more : List Signature
  more = counted signatures p (count + 1)

  more_other : (i : ℕ) → (i ≡ p → ⊥) → (signature_at more i).claims ≡ (signature_at signatures i).claims
  more_other i other = ap (λ (s : Signature). s.claims) (get_or-set_other signatures p i _ no_signature other)

  count_more : (i : ℕ) → i < length ps → (signature_at more i).claims ≡ length (claims_at ps (cs ++ (c ∷ [])) i)
  count_more i h =
      by_truth (λ b. (signature_at more i).claims ≡ length (claims_at ps (cs ++ (c ∷ [])) i)) (eqb i p)
      (λ e. rw (eqb-equal i p e, on_it_lem ps cs c p is below distinct) (ap (λ (s : Signature). s.claims) (get_or-set_same signatures p _ no_signature (omega arith)) ∙ omega (arith, length_end (claims_at ps cs p) c, holds.count p below)))
      (λ e. rw (on_other ps cs c p is below distinct i h (eqb-unequal i p e)) (more_other i (eqb-unequal i p e) ∙ holds.count i h))

  -- the place of this claim is apart from those of the others
  apart : (i j : ℕ) → i < length ps → j < length (claims_at ps cs i) → count < 16 → (claim_place i j + 9 ≤ claim_place p count) ⊎ (claim_place p count + 9 ≤ claim_place i j)
  apart i j h k room =
      let known = holds.count i h in
      places_apart i j p count (omega (arith, safe.count i (omega arith))) room (λ e. omega (arith, ap (λ (q : ℕ). (signature_at signatures q).claims) e))

  pub claims_more : (row : List ℤ) (arity : ℕ) → count < 16 → Laid claims₀ (claim_place p count) row arity claims → ClaimAt claims (claim_place p count) c
      → HoldsClaims more claims ps (cs ++ (c ∷ []))
  claims_more row arity room laid here =
      record {
        count = count_more;
        none = λ i high low. more_other i (λ e. omega arith) ∙ holds.none i high low;
        at = each_claim ps cs c p is below distinct (λ i j d. ClaimAt claims (claim_place i j) d)
            (λ i j h k. stays claims₀ claims (claim_place i j) (claim_place p count) row arity _ laid (apart i j h k room) (holds.at i j h k))
            (rw (← holds.count p below) here);
      }
