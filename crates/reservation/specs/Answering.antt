-- A query answered from the tables that hold a pack.
use Rattle.std.specs.Prelude.{◌≡◌, ℕ, ◌≤◌}
use Rattle.std.proofs.Math.Option.{none}
use Rattle.theory.specs.Text.{Bytes}
use Rattle.theory.specs.Packs.{Pack}
use Rattle.theory.specs.Written.{pack_of}
use Rattle.theory.specs.Check.{verdict_of, refusal_of}
use Rattle.theory.specs.Reserve.{answer_of, reserve_of}
use Rattle.theory.specs.Answers.{numbers_of, reserved_fields, passed_on}
use Rattle.theory.specs.declared.Reservation.{Reservation}
use Rattle.tables.specs.declared.Tables.{Tables}
use Rattle.tables.specs.Tables.{SafeSignatures, SafeClaims, Declares, HoldsClaims}
use Rattle.packs.specs.declared.Loaded.{Loaded}

-- the answer of the definition, for the pack whose predicates and claims the tables hold; and it is never a pack's refusal
pub record Answers (query : Bytes) (t : Tables) (known : ℕ) (r : Reservation) : Type 0 where
  pub tells : (p : Pack) → Declares t.signatures known p.predicates → HoldsClaims t.signatures t.claims p.predicates p.claims → reserved_fields r ≡ answer_of p query
  pub passes_none : passed_on r ≡ none

-- tables that are safe to read where the pack is accepted
pub record Ready (l : Loaded) (t : Tables) : Type 0 where
  pub few : (numbers_of l.verdict).number ≡ 0 → l.state.predicates ≤ 32
  pub safe_signatures : (numbers_of l.verdict).number ≡ 0 → SafeSignatures t.signatures
  pub safe_claims : (numbers_of l.verdict).number ≡ 0 → SafeClaims t.claims

-- a text with this verdict, whose predicates and claims the tables hold where it is accepted
pub record PackHeld (text : Bytes) (l : Loaded) (t : Tables) : Type 0 where
  pub judged : numbers_of l.verdict ≡ (verdict_of text).returned
  pub declares : (numbers_of l.verdict).number ≡ 0 → Declares t.signatures l.state.predicates (pack_of text).predicates
  pub claimed : (numbers_of l.verdict).number ≡ 0 → HoldsClaims t.signatures t.claims (pack_of text).predicates (pack_of text).claims

-- what reserve returns, for the text that is loaded: its fields, and the pack's refusal where it passes one on
pub record Responds (l : Loaded) (query : Bytes) (t : Tables) (r : Reservation) : Type 0 where
  pub tells : (text : Bytes) → PackHeld text l t → reserved_fields r ≡ reserve_of text query
  pub passes : (text : Bytes) → PackHeld text l t → passed_on r ≡ refusal_of text
